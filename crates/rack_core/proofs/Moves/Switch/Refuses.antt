-- A request that is denied is refused by a move.
use Rattle.std.proofs.Common.{◌≡◌, refl, sym, ◌∙◌, ap, ℕ, true, false, Some}
use Rattle.std.specs.Prelude.{slice_get}
use Rattle.std.proofs.lemmas.Bool.{not-true, not-false}
use Rattle.request_list.specs.declared.requests.Request.{Request}
use Rattle.protect_table.specs.Protect.{permission_at}
use Rattle.wire_msg.specs.declared.msgs.Msg.TheVariants.{Deny}
use Rattle.switch_core.specs.Switch.{SwitchView}
use Rattle.switch_core.specs.Treating.{is_denied, denied_request}
use Rattle.coherence.specs.Moves.{Refuses}
use Rattle.coherence.specs.World.{World}
use Rattle.rack_core.specs.SwitchMoves.{shown, Shows, IsSoundSwitch}
use Rattle.rack_core.proofs.Moves.Runs.{one_move}
use Rattle.rack_core.proofs.Log.Held.SwitchEffects.{nothing_noted}
use Rattle.rack_core.proofs.Moves.Switch.Worlds.{Follows, none_sent, one_sent, wants-got, wants-without, without-sound}
use Rattle.mind_base.specs.Permission.{allows}

-- what the test for denying says
pub disallowed : (v : World) (switch : SwitchView) (r : Request) → Shows v switch → is_denied switch r ≡ true → allows r.write (v.perms r.page) ≡ false
disallowed v switch r shows e =
    ap (λ f. allows r.write (f r.page)) shows.places.perms ∙ not-true (allows r.write (permission_at switch.protect r.page)) e

pub allowed : (v : World) (switch : SwitchView) (r : Request) → Shows v switch → is_denied switch r ≡ false → allows r.write (v.perms r.page) ≡ true
allowed v switch r shows e =
    ap (λ f. allows r.write (f r.page)) shows.places.perms ∙ not-false (allows r.write (permission_at switch.protect r.page)) e

pub refuses : (v : World) (switch : SwitchView) (at : ℕ) (r : Request) → Shows v switch → IsSoundSwitch switch → slice_get switch.requests at ≡ Some r → r.fetching ≡ false → is_denied switch r ≡ true
    → Follows v v switch (denied_request r switch)
refuses v switch at r shows sound is idle none = record {
  moves = one_move v (shown v (denied_request r switch)) (Refuses r.blade r.page r.write)
      (wants-got v.wants switch.requests at r shows.wants sound.requests is idle, disallowed v switch r shows none)
      (λ i. record v {
        wants = wants-without v.wants switch.requests r shows.wants i;
        regions = sym shows.regions i;
        last = sym shows.last i;
        downs = one_sent v.downs r.blade (Deny r.page) i;
        tos = none_sent v.tos i;
      });
  quiet = λ n. (refl, refl);
  asks = λ m. tt;
  sound = without-sound switch r sound;
  places = record { places = shows.places.places; perms = shows.places.perms };
  told = nothing_noted v v switch (denied_request r switch) shows.regions refl refl refl;
}
