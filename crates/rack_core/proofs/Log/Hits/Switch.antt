-- The switch makes no hits of its own: it adds what an acknowledgement counts, and sends none itself.
use Rattle.std.proofs.Common.{◌≡◌, refl, sym, ◌∙◌, ap, subst, ℕ, zero, suc, ◌+◌, ◌-◌, ◌^◌, ◌≤◌, Bool, true, false, List, [], ◌∷◌, ◌++◌, map, Option, Some, None, insert, remove, arith}
use Rattle.std.specs.Prelude.{if◌then◌else◌}
use Rattle.std.specs.List.{sum_by}
use Rattle.std.proofs.Math.Nat.{min-le_left}
use Rattle.std.proofs.lemmas.List.Sums.{sum_by-cons, sum_by-insert}
use Rattle.mind_base.specs.Page.{PageView}
use Rattle.mind_base.specs.Range.{RangeView}
use Rattle.mind_base.specs.declared.links.LinkKind.{LinkKind}
use Rattle.mind_base.specs.declared.links.LinkKind.TheVariants.{Up, Down, To, From}
use Rattle.mind_base.specs.declared.links.LinkName.{LinkName}
use Rattle.invalidate_multicast.specs.Blades.{without_blade, casts_of}
use Rattle.invalidate_multicast.specs.First.{first_changed}
use Rattle.invalidate_multicast.specs.Transition.{acknowledged, after_answer, finished, is_answered, is_number}
use Rattle.page_image.specs.PageImage.{PageImageView}
use Rattle.region_directory.specs.Entry.{changed_at, fresh_entry, in_state, entry_place, plus_hits, with_busy}
use Rattle.region_directory.specs.declared.entries.Entry.{Entry}
use Rattle.request_list.specs.declared.requests.Request.{Request}
use Rattle.wire_msg.specs.declared.msgs.Msg.{Msg}
use Rattle.wire_msg.specs.declared.msgs.Msg.TheVariants.{Inv, Ack}
use Rattle.switch_core.specs.Deeds.{Purpose, MakesRoom, LetsWrite, LetsRead, SwitchDeed, DeniesRequest, GrantsRequest, BeginsTransition, EntersBlock, DropsEntry, MayDo, after_deed, begun_for, calls_for}
use Rattle.switch_core.specs.Handling.{ended, from_blade, writing, Receives}
use Rattle.switch_core.specs.Switch.{SwitchView, SwitchEffect, only, place_in}
use Rattle.switch_core.specs.Treating.{denied_request, granted, granted_state, holders, new_range, reading, entered}
use Rattle.switch_core.proofs.Callers.{IsHeard, IsKeptByDeeds, answered-is, handled-heard, receives-kept}
use Rattle.rack_core.specs.Released.{count_in, hits_of}
use Rattle.rack_core.specs.Seen.{sent_on}
use Rattle.rack_core.proofs.Moves.Runs.{sent_on-append}
use Rattle.rack_core.proofs.Moves.Switch.Sets.{calls-quiet}

-- ---- the hits of a list of entries

hits-changed : (i : ℕ) (f : Entry → Entry) (entries : List Entry) → ((entry : Entry) → (f entry).hits ≡ entry.hits) → hits_of (changed_at i f entries) ≡ hits_of entries
hits-changed i f [] same = refl
hits-changed zero f (entry ∷ entries) same = ap (λ n. n + hits_of entries) (same entry)
hits-changed (suc i) f (entry ∷ entries) same = ap (λ n. entry.hits + n) (hits-changed i f entries same)

hits-mapped : (f : Entry → Entry) (entries : List Entry) → ((entry : Entry) → (f entry).hits ≡ entry.hits) → hits_of (map f entries) ≡ hits_of entries
hits-mapped f [] same = refl
hits-mapped f (entry ∷ entries) same = omega (arith, same entry, hits-mapped f entries same)

hits-removed : (i : ℕ) (entries : List Entry) → hits_of (remove entries i) ≤ hits_of entries
hits-removed zero [] = omega arith
hits-removed (suc i) [] = omega arith
hits-removed zero (entry ∷ entries) = omega arith
hits-removed (suc i) (entry ∷ entries) = omega (arith, hits-removed i entries)

hits-summed : (entries : List Entry) → hits_of entries ≡ sum_by (λ entry. entry.hits) entries
hits-summed [] = refl
hits-summed (entry ∷ entries) = ap (λ n. entry.hits + n) (hits-summed entries) ∙ sym (sum_by-cons (λ entry. entry.hits) entry entries)

-- a new entry has none
hits-entered : (entries : List Entry) (i : ℕ) (range : RangeView) → hits_of (insert entries i (fresh_entry range)) ≡ hits_of entries
hits-entered entries i range =
    let all : sum_by (λ entry. entry.hits) (insert entries i (fresh_entry range)) ≡ sum_by (λ entry. entry.hits) entries + 0 = sum_by-insert (λ entry. entry.hits) entries i (fresh_entry range) in
    omega (arith, all, hits-summed entries, hits-summed (insert entries i (fresh_entry range)))

-- a count is added to those of one entry at most
hits-added : (test : Entry → Bool) (count : ℕ) (entries : List Entry) → hits_of (first_changed test (plus_hits count) entries) ≤ hits_of entries + count
hits-added test count [] = omega arith
hits-added test count (entry ∷ entries) = by (test entry) (hits-added test count entries) where
  by : (b : Bool) → hits_of (first_changed test (plus_hits count) entries) ≤ hits_of entries + count
      → hits_of (if b then plus_hits count entry ∷ entries else entry ∷ first_changed test (plus_hits count) entries) ≤ entry.hits + hits_of entries + count
  by true rest = more (plus_hits count entry).hits (min-le_left (entry.hits + count) (2 ^ 32 - 1)) where
    more : (n : ℕ) → n ≤ entry.hits + count → n + hits_of entries ≤ entry.hits + hits_of entries + count
    more n le = omega (arith, le)
  by false rest = omega (arith, rest)

ended-hits : (entry : Entry) → (ended entry).hits ≡ entry.hits
ended-hits entry = by (is_answered entry.busy) where
  by : (b : Bool) → (if b then finished entry else entry).hits ≡ entry.hits
  by true = refl
  by false = refl

-- ---- what is done

-- there are at most so many hits, and nothing went onto a link up
pub record HasHits (most : ℕ) (e : SwitchEffect) : Type 0 where
  pub hits : hits_of e.switch.directory.entries ≤ most
  pub quiet : (c : ℕ) → sent_on Up c e.sent ≡ []

abbrev AddsNone : SwitchView → SwitchEffect → Type 0
AddsNone switch e = HasHits (hits_of switch.directory.entries) e

same-hits : (switch : SwitchView) (e : SwitchEffect) → hits_of e.switch.directory.entries ≡ hits_of switch.directory.entries → ((c : ℕ) → sent_on Up c e.sent ≡ []) → AddsNone switch e
same-hits switch e same quiet = record { hits = omega (arith, same); quiet = quiet }

-- ---- serving

grants-hits : (r : Request) (at i : ℕ) (entry : Entry) (switch : SwitchView) → AddsNone switch (granted r at i entry switch)
grants-hits r at i entry switch =
    same-hits switch (granted r at i entry switch) (hits-changed i (in_state (granted_state r.write r.blade entry.state)) switch.directory.entries (λ e. refl)) (λ c. by c (place_in switch r.page))
  where
    by : (c : ℕ) (place : Option (ℕ × ℕ)) → sent_on Up c (reading r place) ≡ []
    by c None = refl
    by c (Some place) = refl

-- a transition calls blades, down the links to them
calls-down : (purpose : Purpose) (number : ℕ) (entry : Entry) (c : ℕ) → sent_on Up c (calls_for purpose number entry) ≡ []
calls-down MakesRoom number entry c = (calls-quiet (casts_of (holders entry.state)) (Inv number entry.range None) c).0
calls-down (LetsWrite r) number entry c = (calls-quiet (casts_of (without_blade (holders entry.state) r.blade)) (Inv number entry.range (Some r.page)) c).0
calls-down (LetsRead r owner) number entry c = refl

deed-hits : (deed : SwitchDeed) (switch : SwitchView) → MayDo deed switch → AddsNone switch (after_deed deed switch)
deed-hits (DeniesRequest r at) switch may = same-hits switch (denied_request r switch) refl (λ c. refl)
deed-hits (GrantsRequest r at i entry) switch may = grants-hits r at i entry switch
deed-hits (BeginsTransition purpose i entry) switch may =
    same-hits switch (begun_for purpose i entry switch) (hits-changed i (with_busy (Some _)) switch.directory.entries (λ e. refl)) (λ c. calls-down purpose (switch.last + 1) entry c)
deed-hits (EntersBlock page) switch may =
    let range : RangeView = new_range page switch in
    same-hits switch (entered range switch) (hits-entered switch.directory.entries (entry_place switch.directory.entries range) range) (λ c. refl)
deed-hits (DropsEntry i entry) switch may = record { hits = hits-removed i switch.directory.entries; quiet = λ c. refl }

serving-hits : IsKeptByDeeds (λ (switch : SwitchView). hits_of switch.directory.entries) HasHits
serving-hits = record {
  nothing = λ switch. same-hits switch (only switch) refl (λ c. refl);
  follows = λ most first next one two. record {
    hits = omega (arith, one.hits, two.hits);
    quiet = λ c. sent_on-append Up c first.sent (next first.switch).sent ∙ ap (λ s. s ++ sent_on Up c (next first.switch).sent) (one.quiet c) ∙ two.quiet c;
  };
  each = deed-hits;
}

-- ---- a message is handled

-- what a message adds to hits: an acknowledgement of a blade its count
abbrev pub count_on : LinkKind → Msg → ℕ
count_on Up message = count_in message
count_on Down message = 0
count_on To message = 0
count_on From message = 0

abbrev Adds : SwitchView → ℕ → SwitchEffect → Type 0
Adds switch count e = HasHits (hits_of switch.directory.entries + count) e

nothing-added : (switch : SwitchView) (count : ℕ) → Adds switch count (only switch)
nothing-added switch count = record { hits = omega arith; quiet = λ c. refl }

back-added : (page : PageView) (image : PageImageView) (switch : SwitchView) (c : ℕ) → sent_on Up c (writing (place_in switch page) image) ≡ []
back-added page image switch c = by (place_in switch page) where
  by : (place : Option (ℕ × ℕ)) → sent_on Up c (writing place image) ≡ []
  by None = refl
  by (Some place) = refl

ack-added : (number blade count : ℕ) (switch : SwitchView) → Adds switch count (from_blade blade (Ack number count) switch)
ack-added number blade count switch = subst (Adds switch count) (sym (answered-is number blade count switch)) (record { hits = few; quiet = λ c. refl }) where
  answer : Entry → Entry
  answer entry = with_busy (after_answer number blade entry.busy) entry

  few : hits_of (map ended (acknowledged number blade count switch.directory.entries)) ≤ hits_of switch.directory.entries + count
  few = omega (
    arith,
    hits-mapped ended (acknowledged number blade count switch.directory.entries) ended-hits,
    hits-added (λ entry. is_number number entry.busy) count (map answer switch.directory.entries),
    hits-mapped answer switch.directory.entries (λ entry. refl),
  )

handling-adds : IsHeard (λ kind message switch e. Adds switch (count_on kind message) e)
handling-adds = record {
  nothing = λ kind message switch. nothing-added switch (count_on kind message);
  asks = λ blade page write switch. record { hits = omega arith; quiet = λ c. refl };
  goes_back = λ page image switch. record { hits = omega arith; quiet = back-added page image switch };
  answers = λ blade number count switch. ack-added number blade count switch;
  fills = λ blade page image r switch. record { hits = omega arith; quiet = λ c. refl };
}

-- What the switch does when a message comes adds at most the message's count to the hits, and sends nothing up.
pub receives-added : (name : LinkName) (message : Msg) (switch : SwitchView) (effect : SwitchEffect) → Receives name message switch effect
    → HasHits (hits_of switch.directory.entries + count_on name.kind message) effect
receives-added name message switch effect receives =
    receives-kept serving-hits (hits_of switch.directory.entries + count_on name.kind message) name message switch effect receives
    (handled-heard handling-adds name.kind name.number message switch)
