-- The switch in the rack as coherence sees it, one effect after another.
use Rattle.std.proofs.Common.{◌≡◌, refl, sym, ◌∙◌, ap, subst, ℕ, Bool, true, false, ◌==◌, List, [], ◌∷◌, ◌++◌, append-nil, Option, Some, None, eqb-true, append_assoc, not, ◌<◌, ◌≢◌}
use Rattle.std.specs.Prelude.{if◌then◌else◌, slice_get}
use Rattle.std.specs.List.{AllByRecursion}
use Rattle.std.proofs.Math.Path.{fun_ext}
use Rattle.std.proofs.lemmas.Bool.{false≢true}
use Rattle.mind_base.specs.Page.{PageView}
use Rattle.mind_base.specs.declared.commands.Perm.{Perm}
use Rattle.mind_base.specs.declared.commands.Perm.TheVariants.{No}
use Rattle.mind_base.specs.declared.links.LinkKind.{LinkKind}
use Rattle.mind_base.specs.declared.links.LinkKind.TheVariants.{Up, Down, To, From}
use Rattle.mind_base.specs.Range.{in_range}
use Rattle.mind_base.specs.Permission.{allows}
use Rattle.region_directory.specs.Entry.{changed_at}
use Rattle.region_directory.specs.declared.entries.Entry.{Entry}
use Rattle.request_list.specs.Requests.{AskOncePerPage, fetching_at, is_of}
use Rattle.request_list.specs.declared.requests.Request.{Request}
use Rattle.request_list.proofs.Callers.{apart-filter}
use Rattle.wire_msg.specs.declared.msgs.Msg.{Msg}
use Rattle.switch_core.specs.Switch.{SwitchView, SwitchEffect, and_then, only, to_memory, with_entries, with_requests}
use Rattle.switch_core.specs.Treating.{without_request}
use Rattle.switch_core.proofs.Callers.{all-filter}
use Rattle.switch_core.specs.Invariant.{IsFitEntry}
use Rattle.coherence.specs.World.{Region, Wanted, World, put, put_both, put_range}
use Rattle.rack_core.specs.Seen.{sent_on, region_of, region_at, wanted_at}
use Rattle.rack_core.specs.SwitchMoves.{shown, Shows, HasPlaces, IsSoundSwitch, SendsNoneUp, AsksAt, AskPlaces, LeadsByMoves, AreEntriesApart}
use Rattle.rack_core.proofs.Log.Held.SwitchNotes.{IsTold}
use Rattle.rack_core.proofs.Moves.Switch.Lookups.{region_at-first, first-changed, first-got}
use Rattle.rack_core.proofs.Moves.Switch.Requests.{wanted-got, wanted-without, wanted-fetching}
use Rattle.rack_core.proofs.Moves.Runs.{sent_on-append}

-- an effect after another, seen from the world that the first one leads to
pub shown-then : (w : World) (done : SwitchEffect) (change : SwitchView → SwitchEffect) → shown w (and_then done change) ≡ shown (shown w done) (change done.switch)
shown-then w done change =
    let next = change done.switch in
    let on : (kind : LinkKind) (f : ℕ → List Msg) → (λ n. f n ++ sent_on kind n (done.sent ++ next.sent)) ≡ (λ n. (f n ++ sent_on kind n done.sent) ++ sent_on kind n next.sent) =
    λ kind f. fun_ext (λ n. ap (λ s. f n ++ s) (sent_on-append kind n done.sent next.sent) ∙ sym (append_assoc (f n) (sent_on kind n done.sent) (sent_on kind n next.sent))) in
    λ i. record w {
      wants = wanted_at next.switch.requests;
      regions = region_at next.switch.directory.entries;
      last = next.switch.last;
      downs = on Down w.downs i;
      tos = on To w.tos i;
    }

pub shows-shown : (w : World) (done : SwitchEffect) → HasPlaces w done.switch → Shows (shown w done) done.switch
shows-shown w done places = record { wants = refl; regions = refl; last = refl; places = record { places = places.places; perms = places.perms } }

-- ---- what is sent, on each link

pub none_sent : (f : ℕ → List Msg) → (λ n. f n ++ []) ≡ f
none_sent f = fun_ext (λ n. append-nil (f n))

-- one message, to the node with this number
pub one_sent : (f : ℕ → List Msg) (number : ℕ) (message : Msg) → (λ n. f n ++ (if n == number then message ∷ [] else [])) ≡ put number (f number ++ message ∷ []) f
one_sent f number message = fun_ext (λ n. by n (n == number) refl) where
  by : (n : ℕ) (b : Bool) → (n == number) ≡ b → f n ++ (if b then message ∷ [] else []) ≡ (if b then f number ++ message ∷ [] else f n)
  by n true t = ap (λ k. f k ++ message ∷ []) (eqb-true n number t)
  by n false t = append-nil (f n)

pub only-shown : (v : World) (switch : SwitchView) → Shows v switch → v ≡ shown v (only switch)
only-shown v switch shows = λ i. record v {
  wants = shows.wants i;
  regions = shows.regions i;
  last = shows.last i;
  downs = sym (none_sent v.downs) i;
  tos = sym (none_sent v.tos) i;
}

-- ---- permissions

pub not_no : (write : Bool) (perm : Perm) → allows write perm ≡ true → perm ≢ No
not_no write perm h e = absurd (false≢true (sym (ap (allows write) e) ∙ h))

-- ---- a sound switch

-- with other entries, which share no page and name the blades of the rack
pub entries-sound : (switch : SwitchView) (es : List Entry) → IsSoundSwitch switch → AreEntriesApart es → AllByRecursion (IsFitEntry 8) es → IsSoundSwitch (with_entries switch es)
entries-sound switch es sound apart fit = record { requests = sound.requests; blades = sound.blades; blocks = apart; entries = fit; region = sound.region }

-- without a request
pub without-sound : (switch : SwitchView) (r : Request) → IsSoundSwitch switch → IsSoundSwitch (with_requests switch (without_request r switch.requests))
without-sound switch r sound = record {
  requests = apart-filter (λ q. not (is_of r.blade r.page q)) switch.requests sound.requests;
  blades = all-filter (λ q. q.blade < 8) (λ q. not (is_of r.blade r.page q)) switch.requests sound.blades;
  blocks = sound.blocks;
  entries = sound.entries;
  region = sound.region;
}

-- ---- what memory blades are asked

-- a message to one memory blade
pub asked_there : (places : PageView → Option (ℕ × ℕ)) (m : ℕ) (place : ℕ × ℕ) (message : Msg) → (m ≡ place.0 → AsksAt places m message)
    → AllByRecursion (AsksAt places m) (sent_on To m (to_memory place.0 message ∷ []))
asked_there places m place message there = by (m == place.0) refl where
  by : (t : Bool) → (m == place.0) ≡ t → AllByRecursion (AsksAt places m) (if t then message ∷ [] else [])
  by true e = (there (eqb-true m place.0 e), tt)
  by false e = tt

-- ---- steps

-- What follows from a step of the switch, behind a message that may have been taken: moves, and it is sound still, with
-- the same places and permissions, and its notes tell of it.
pub record Follows (w taken : World) (switch : SwitchView) (effect : SwitchEffect) : Type 0 where
  pub moves : LeadsByMoves w (shown taken effect)
  pub quiet : SendsNoneUp effect.sent
  pub asks : AskPlaces taken.places effect.sent
  pub sound : IsSoundSwitch effect.switch
  pub places : HasPlaces taken effect.switch
  pub told : IsTold w taken switch effect

-- ---- entries and requests, seen as functions

-- one entry changes, and keeps its block
pub regions-changed : (regions : PageView → Option Region) (es : List Entry) (i : ℕ) (f : Entry → Entry) (e : Entry) → regions ≡ region_at es → ((x : Entry) → (f x).range ≡ x.range) → AreEntriesApart es → slice_get es i ≡ Some e
    → region_at (changed_at i f es) ≡ put_range e.range (Some (region_of (f e))) regions
regions-changed regions es i f e is keeps apart at = fun_ext (λ p.
    region_at-first (changed_at i f es) p ∙ first-changed i f es e p keeps apart at
    ∙ ap (λ o. if in_range e.range p then Some (region_of (f e)) else o) (sym (region_at-first es p) ∙ ap (λ g. g p) (sym is)))

-- an entry's block sees it
pub regions-got : (regions : PageView → Option Region) (es : List Entry) (i : ℕ) (e : Entry) (page : PageView) → regions ≡ region_at es → AreEntriesApart es → slice_get es i ≡ Some e → in_range e.range page ≡ true
    → regions page ≡ Some (region_of e)
regions-got regions es i e page is apart at t = ap (λ g. g page) is ∙ region_at-first es page ∙ first-got es i e page apart at t

pub wants-got : (wants : ℕ → PageView → Option Wanted) (rs : List Request) (i : ℕ) (r : Request) → wants ≡ wanted_at rs → AskOncePerPage rs → slice_get rs i ≡ Some r → r.fetching ≡ false
    → wants r.blade r.page ≡ Some (record { write = r.write; fetching = false })
wants-got wants rs i r is apart at idle = ap (λ f. f r.blade r.page) is ∙ wanted-got rs i r apart at ∙ ap (λ b. Some (record { write = r.write; fetching = b })) idle

pub wants-without : (wants : ℕ → PageView → Option Wanted) (rs : List Request) (r : Request) → wants ≡ wanted_at rs → wanted_at (without_request r rs) ≡ put_both r.blade r.page None wants
wants-without wants rs r is = fun_ext (λ b. fun_ext (λ p. wanted-without rs r b p)) ∙ ap (put_both r.blade r.page None) (sym is)

pub wants-fetching : (wants : ℕ → PageView → Option Wanted) (rs : List Request) (i : ℕ) (r : Request) → wants ≡ wanted_at rs → AskOncePerPage rs → slice_get rs i ≡ Some r
    → wanted_at (fetching_at rs i) ≡ put_both r.blade r.page (Some (record { write = r.write; fetching = true })) wants
wants-fetching wants rs i r is apart at =
    fun_ext (λ b. fun_ext (λ p. wanted-fetching rs i r b p apart at)) ∙ ap (put_both r.blade r.page (Some (record { write = r.write; fetching = true }))) (sym is)
