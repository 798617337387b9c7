-- What each deed of the switch does is a move, and so all of serving is moves.
use Rattle.std.proofs.Common.{◌≡◌, false, sym, ◌∙◌, ap, subst, ◌++◌, refl}
use Rattle.std.specs.List.{AllByRecursion}
use Rattle.mind_base.specs.Range.{in_range}
use Rattle.mind_base.specs.declared.links.LinkKind.TheVariants.{Up, To, From}
use Rattle.mind_base.specs.declared.plans.RackPlan.{RackPlan}
use Rattle.switch_core.specs.Deeds.{SwitchDeed, DeniesRequest, GrantsRequest, BeginsTransition, EntersBlock, DropsEntry, MayDo, IsDeedsAfter, after_deed, after_deeds}
use Rattle.switch_core.specs.Switch.{SwitchView, SwitchEffect, only, and_then}
use Rattle.switch_core.proofs.Callers.{IsKeptByDeeds, all-append, deeds-kept}
use Rattle.coherence.specs.Facts.{IsCoherent}
use Rattle.coherence.specs.Lawful.{Tells}
use Rattle.coherence.specs.World.{World}
use Rattle.coherence.proofs.Callers.{tells_then}
use Rattle.rack_core.specs.Seen.{sent_on}
use Rattle.rack_core.specs.SwitchMoves.{shown, Shows, IsSoundSwitch, LeadsByMoves, AsksAt}
use Rattle.rack_core.proofs.Log.Held.SwitchNotes.{HoldsWithin}
use Rattle.rack_core.proofs.Log.Held.SwitchEffects.{nothing_noted}
use Rattle.rack_core.proofs.Moves.Runs.{sent_on-append, leads_keeps, leads_on, stay}
use Rattle.rack_core.proofs.Moves.Switch.Begins.{begins_for}
use Rattle.rack_core.proofs.Moves.Switch.Enters.{enters_it, drops_it}
use Rattle.rack_core.proofs.Moves.Switch.Grants.{grants_it}
use Rattle.rack_core.proofs.Moves.Switch.Refuses.{refuses}
use Rattle.rack_core.proofs.Moves.Switch.Sound.{all-from}
use Rattle.rack_core.proofs.Moves.Switch.Worlds.{Follows, only-shown, shown-then, shows-shown}

-- what follows in each world that shows the switch, where that is sound
abbrev FollowsThere : SwitchView → SwitchEffect → Type 0
FollowsThere switch effect = (v : World) → IsCoherent v → Shows v switch → IsSoundSwitch switch → Follows v v switch effect

nothing_follows : (switch : SwitchView) → FollowsThere switch (only switch)
nothing_follows switch v safe shows sound = record {
  moves = subst (LeadsByMoves v) (only-shown v switch shows) (stay v);
  quiet = λ n. (refl, refl);
  asks = λ m. tt;
  sound = sound;
  places = record { places = shows.places.places; perms = shows.places.perms };
  told = nothing_noted v v switch (only switch) shows.regions refl refl refl;
}

-- one thing after another
then_follows : (w taken : World) (switch : SwitchView) (first : SwitchEffect) (next : SwitchView → SwitchEffect) → IsCoherent w → ((plan : RackPlan) → HoldsWithin plan w → HoldsWithin plan taken)
    → Follows w taken switch first → FollowsThere first.switch (next first.switch) → Follows w taken switch (and_then first next)
then_follows w taken switch first next safe held step later =
    let mid = shown taken first in
    let last = shown taken (and_then first next) in
    let mid_safe : IsCoherent mid = leads_keeps w mid safe step.moves in
    let more = later mid mid_safe (shows-shown taken first step.places) step.sound in
    let same : shown mid (next first.switch) ≡ last = sym (shown-then taken first next) in
    record {
      moves = leads_on w mid last step.moves (subst (LeadsByMoves mid) same more.moves);
      quiet = λ n. (
        sent_on-append Up n first.sent (next first.switch).sent ∙ ap (λ s. s ++ sent_on Up n (next first.switch).sent) (step.quiet n).0 ∙ (more.quiet n).0,
        sent_on-append From n first.sent (next first.switch).sent ∙ ap (λ s. s ++ sent_on From n (next first.switch).sent) (step.quiet n).1 ∙ (more.quiet n).1,
      );
      asks = λ m. subst (AllByRecursion (AsksAt taken.places m)) (sym (sent_on-append To m first.sent (next first.switch).sent))
          (all-append (AsksAt taken.places m) (sent_on To m first.sent) (sent_on To m (next first.switch).sent) (step.asks m) (more.asks m));
      sound = more.sound;
      places = record { places = more.places.places; perms = more.places.perms };
      told = λ plan before after holds slots.
          let one = step.told plan before mid_safe holds slots in
          let two = more.told plan mid_safe (subst IsCoherent (sym same) after) (held plan holds) one.0 in
          (two.0, tells_then plan w mid last first.noted (next first.switch).noted one.1 (subst (Tells plan mid (next first.switch).noted) same two.1));
    }

each_follows : (deed : SwitchDeed) (switch : SwitchView) → MayDo deed switch → FollowsThere switch (after_deed deed switch)
each_follows (DeniesRequest r at) switch may v safe shows sound = refuses v switch at r shows sound may.request.stands may.request.waiting may.denied
each_follows (GrantsRequest r at i entry) switch may v safe shows sound =
    grants_it v switch at r i entry safe shows sound may.request.stands may.request.waiting may.allowed may.idle.found may.within may.idle.idle may.grants
each_follows (BeginsTransition purpose i entry) switch may v safe shows sound = begins_for v switch i entry shows sound may.idle.found may.idle.idle may.unfetched purpose may.serves
each_follows (EntersBlock page) switch may v safe shows sound =
    enters_it v switch page shows sound (all-from (λ entry. in_range entry.range page ≡ false) switch.directory.entries may.none) may.room
each_follows (DropsEntry i entry) switch may v safe shows sound = drops_it v switch i entry shows sound may.idle.found may.unheld may.idle.idle

deeds_follow : IsKeptByDeeds (λ (switch : SwitchView). switch) FollowsThere
deeds_follow = record {
  nothing = nothing_follows;
  follows = λ switch first next one two v safe shows sound. then_follows v v switch first next safe (λ plan holds. holds) (one v safe shows sound) two;
  each = each_follows;
}

-- what was done first, and then deeds
pub serves_on : (w taken : World) (switch : SwitchView) (first last : SwitchEffect) → IsCoherent w → ((plan : RackPlan) → HoldsWithin plan w → HoldsWithin plan taken)
    → Follows w taken switch first → IsDeedsAfter first last → Follows w taken switch last
serves_on w taken switch first last safe held step is = subst (Follows w taken switch) (sym is.done)
    (then_follows w taken switch first (after_deeds is.deeds) safe held step
    (deeds-kept deeds_follow first.switch (only first.switch) (after_deeds is.deeds first.switch) (record { deeds = is.deeds; done = refl; may = is.may }) (nothing_follows first.switch)))
