-- Each message that the switch handles makes the weight of what is still to come less.
use Rattle.std.proofs.Common.{◌≡◌, refl, sym, ◌∙◌, ap, subst, ℕ, ◌+◌, ◌*◌, ◌^◌, ◌<◌, ◌≤◌, Bool, true, false, not, ◌==◌, List, [], ◌∷◌, ◌++◌, length, map, suc, arith, Option, Some, None}
use Rattle.std.specs.Prelude.{if◌then◌else◌}
use Rattle.std.specs.List.{sum}
use Rattle.mind_base.specs.Page.{PageView}
use Rattle.mind_base.specs.Range.{RangeView}
use Rattle.mind_base.specs.declared.links.LinkName.{LinkName}
use Rattle.mind_base.specs.declared.notes.State.{State}
use Rattle.mind_base.specs.declared.notes.State.TheVariants.{I, S, M}
use Rattle.page_image.specs.PageImage.{PageImageView}
use Rattle.invalidate_multicast.specs.Blades.{has_blade, without_blade, casts_of}
use Rattle.invalidate_multicast.specs.Transition.{after_answer, acknowledged, finished, is_answered, is_number, target_of, without_waiting}
use Rattle.invalidate_multicast.specs.declared.casts.Cast.{Cast}
use Rattle.region_directory.specs.Entry.{fresh_entry, in_state, entry_place, plus_hits, with_busy}
use Rattle.region_directory.specs.declared.entries.Busy.{Busy}
use Rattle.region_directory.specs.declared.entries.Entry.{Entry}
use Rattle.request_list.specs.Requests.{is_of, fetching_at}
use Rattle.request_list.specs.declared.requests.Request.{Request}
use Rattle.wire_msg.specs.declared.msgs.Msg.{Msg}
use Rattle.wire_msg.specs.declared.msgs.Msg.TheVariants.{Get, Back, Inv, Ack, Image}
use Rattle.switch_core.specs.Deeds.{Purpose, MakesRoom, LetsWrite, LetsRead, SwitchDeed, DeniesRequest, GrantsRequest, BeginsTransition, EntersBlock, DropsEntry, HasPurpose, IsIdle, IsWaiting, MayDo, after_deed, calls_for, target_for, transition_for}
use Rattle.switch_core.specs.Handling.{answered, request_noted, ended, filling, handled_from, went_back, writing, Receives}
use Rattle.switch_core.specs.Standing.{waiting_in}
use Rattle.switch_core.specs.Switch.{SwitchView, SwitchEffect, and_then, only, place_in, to_blade}
use Rattle.switch_core.specs.Treating.{granted_state, holders, denied_request, reading, granted, with_transition, left_to, invalidations, new_range, entered, dropped, without_request}
use Rattle.switch_core.proofs.Callers.{IsHeard, IsKeptByDeeds, answered-is, handled-heard, receives-kept, waiting-fetching, waiting-filter, waiting-without}
use Rattle.rack_settle.specs.Weight.{weight_of, sent_weight, request_weight, state_weight, entry_weight, switch_weight}
use Rattle.rack_settle.proofs.BladeCounts.{size, none-size, one-size, less-size, with-size, without-size}
use Rattle.rack_settle.proofs.ListSums.{sum-first, sum-joined, sum-inserted, sum-removed, sum-mapped, sum-changed, sum-first_changed}

-- the switch and what it has sent, together
abbrev effect_weight : SwitchEffect → ℕ
effect_weight effect = switch_weight effect.switch + sent_weight effect.sent

-- ---- requests

-- each that waits weighs the same
waiting-weight : (rs : List Request) → sum (map request_weight rs) ≡ 13 * waiting_in rs
waiting-weight [] = refl
waiting-weight (r ∷ rs) = sum-first request_weight r rs ∙ by r.fetching (waiting-weight rs) where
  none : (s n : ℕ) → s ≡ 13 * n → 0 + s ≡ 13 * (0 + n)
  none s n e = omega arith

  one : (s n : ℕ) → s ≡ 13 * n → 13 + s ≡ 13 * (1 + n)
  one s n e = omega arith

  by : (b : Bool) → sum (map request_weight rs) ≡ 13 * waiting_in rs → (if b then 0 else 13) + sum (map request_weight rs) ≡ 13 * ((if b then 0 else 1) + waiting_in rs)
  by true rest = none _ _ rest
  by false rest = one _ _ rest

-- ---- states and entries

-- a transition for a write: those that are asked to give up are named no longer
left-weight : (blade : ℕ) (state : State) → state_weight (left_to blade state) + 2 * size (without_blade (holders state) blade) ≤ state_weight state
left-weight blade I = none _ _ (less-size 0 blade) none-size where
  none : (n m : ℕ) → n ≤ m → m ≡ 0 → 0 + 2 * n ≤ 0
  none n m le e = omega arith
left-weight blade (S sharers) = by (has_blade sharers blade) refl where
  stays : (n m k : ℕ) → m ≡ n + k → 3 * k + 2 * n ≤ 3 * m
  stays n m k e = omega arith

  goes : (n m : ℕ) → n ≤ m → 0 + 2 * n ≤ 3 * m
  goes n m le = omega arith

  by : (b : Bool) → has_blade sharers blade ≡ b → state_weight (if b then S (2 ^ blade) else I) + 2 * size (without_blade sharers blade) ≤ 3 * size sharers
  by true e = stays _ _ _ (without-size sharers blade e)
  by false e = goes _ _ (less-size sharers blade)
left-weight blade (M owner) = one _ _ (less-size (2 ^ owner) blade) (one-size owner) where
  one : (n m : ℕ) → n ≤ m → m ≤ 1 → 0 + 2 * n ≤ 6
  one n m le few = omega arith

-- a transition that makes room
held-weight : (state : State) → state_weight I + 2 * size (holders state) ≤ state_weight state
held-weight I = none _ none-size where
  none : (n : ℕ) → n ≡ 0 → 0 + 2 * n ≤ 0
  none n e = omega arith
held-weight (S sharers) = some (size sharers) where
  some : (n : ℕ) → 0 + 2 * n ≤ 3 * n
  some n = omega arith
held-weight (M owner) = one _ (one-size owner) where
  one : (n : ℕ) → n ≤ 1 → 0 + 2 * n ≤ 6
  one n le = omega arith

-- a request that is granted names its blade once more
granted-weight : (write : Bool) (blade : ℕ) (state : State) → state_weight (granted_state write blade state) ≤ state_weight state + 6
granted-weight false blade I = one _ (one-size blade) where
  one : (n : ℕ) → n ≤ 1 → 3 * n ≤ 0 + 6
  one n le = omega arith
granted-weight false blade (S sharers) = more _ _ (with-size sharers blade) where
  more : (n m : ℕ) → n ≤ m + 1 → 3 * n ≤ 3 * m + 6
  more n m le = omega arith
granted-weight false blade (M owner) = omega arith
granted-weight true blade state = owned (state_weight state) where
  owned : (n : ℕ) → 6 ≤ n + 6
  owned n = omega arith

-- an entry with no transition
idle-weight : (entry : Entry) → entry.busy ≡ None → entry_weight entry ≡ state_weight entry.state
idle-weight entry idle = ap (λ busy. state_weight (target_of entry busy)) idle

state-weight : (state : State) (entry : Entry) → entry.busy ≡ None → entry_weight (in_state state entry) ≡ state_weight state
state-weight state entry idle = ap (λ busy. state_weight (target_of (in_state state entry) busy)) idle

-- the end of a transition, and an answer to it, leave the state that it leads to
ended-weight : (entry : Entry) → entry_weight (ended entry) ≡ entry_weight entry
ended-weight entry = by (is_answered entry.busy) where
  by : (b : Bool) → entry_weight (if b then finished entry else entry) ≡ entry_weight entry
  by true = refl
  by false = refl

answered-weight : (number blade : ℕ) (entry : Entry) → entry_weight (with_busy (after_answer number blade entry.busy) entry) ≡ entry_weight entry
answered-weight number blade entry = by_busy entry.busy where
  by_busy : (busy : Option Busy) → state_weight (target_of entry (after_answer number blade busy)) ≡ state_weight (target_of entry busy)
  by_busy None = refl
  by_busy (Some busy) = by (busy.number == number) where
    by : (b : Bool) → state_weight (target_of entry (if b then Some (without_waiting blade busy) else Some busy)) ≡ state_weight busy.target
    by true = refl
    by false = refl

-- ---- messages

sent-joined : (first next : List (LinkName × Msg)) → sent_weight (first ++ next) ≡ sent_weight first + sent_weight next
sent-joined first next = sum-joined (λ message. weight_of message.1) first next

-- the invalidations to the blades of a set
invalidations-weight : (number : ℕ) (range : RangeView) (page : Option PageView) (blades : ℕ) → sent_weight (invalidations number range page blades) ≡ 2 * size blades
invalidations-weight number range page blades = each (casts_of blades) where
  two : (s n : ℕ) → s ≡ 2 * n → 2 + s ≡ 2 * suc n
  two s n e = omega arith

  each : (casts : List Cast) → sent_weight (map (λ cast. to_blade cast.blade (Inv number range page)) casts) ≡ 2 * length casts
  each [] = refl
  each (cast ∷ casts) =
      let rest : List (LinkName × Msg) = map (λ cast. to_blade cast.blade (Inv number range page)) casts in
      sum-first (λ message. weight_of message.1) (to_blade cast.blade (Inv number range page)) rest ∙ two _ _ (each casts)

message-weighs : (message : Msg) → 1 ≤ weight_of message
message-weighs message = by message where
  by : (m : Msg) → 1 ≤ weight_of m
  by (Get page write) = omega arith
  by m = omega arith

-- ---- what serving does

-- what is done with a switch weighs no more than the switch did
abbrev AddsNothing : SwitchView → SwitchEffect → Type 0
AddsNothing switch effect = effect_weight effect ≤ switch_weight switch

nothing : (switch : SwitchView) → AddsNothing switch (only switch)
nothing switch = same (switch_weight switch) where
  same : (n : ℕ) → n + 0 ≤ n
  same n = omega arith

follows : (most : ℕ) (first : SwitchEffect) (next : SwitchView → SwitchEffect) → effect_weight first ≤ most → AddsNothing first.switch (next first.switch) → effect_weight (and_then first next) ≤ most
follows most first next le keeps =
    plain _ _ _ _ _ _ (sent-joined first.sent (next first.switch).sent) le keeps where
      plain : (new old first next all most : ℕ) → all ≡ first + next → old + first ≤ most → new + next ≤ old → new + all ≤ most
      plain new old first next all most e le keeps = omega arith

denies : (r : Request) (at : ℕ) (switch : SwitchView) → IsWaiting r at switch → AddsNothing switch (denied_request r switch)
denies r at switch is =
    plain _ _ _ _ _ (waiting-weight (without_request r switch.requests)) (waiting-weight switch.requests) (waiting-without switch.requests at r is.stands is.waiting) where
      plain : (new old n m e : ℕ) → new ≡ 13 * n → old ≡ 13 * m → n < m → new + e + 1 ≤ old + e
      plain new old n m e f g lt = omega arith

grants : (r : Request) (at i : ℕ) (entry : Entry) (switch : SwitchView) → IsWaiting r at switch → IsIdle i entry switch → AddsNothing switch (granted r at i entry switch)
grants r at i entry switch is free =
    let state : State = granted_state r.write r.blade entry.state in
    plain _ _ _ _ _ _ _ _ _
    (waiting-weight (fetching_at switch.requests at)) (waiting-weight switch.requests) (waiting-fetching switch.requests at r is.stands is.waiting)
    (sum-changed entry_weight i (in_state state) switch.directory.entries entry free.found)
    (subst (λ n. n ≤ entry_weight entry + 6) (sym (state-weight state entry free.idle)) (subst (λ n. state_weight state ≤ n + 6) (sym (idle-weight entry free.idle)) (granted-weight r.write r.blade entry.state)))
    (reads (place_in switch r.page)) where
      reads : (place : Option (ℕ × ℕ)) → sent_weight (reading r place) ≤ 6
      reads None = omega arith
      reads (Some place) = omega arith

      plain : (new old n m es fs one other sent : ℕ) → new ≡ 13 * n → old ≡ 13 * m → m ≡ n + 1 → es + one ≡ fs + other → other ≤ one + 6 → sent ≤ 6 → new + es + sent ≤ old + fs
      plain new old n m es fs one other sent e f g h le few = omega arith

begins : (switch : SwitchView) (i : ℕ) (busy : Busy) (messages : List (LinkName × Msg)) (entry : Entry) → IsIdle i entry switch
    → state_weight busy.target + sent_weight messages ≤ state_weight entry.state → AddsNothing switch (with_transition i busy messages switch)
begins switch i busy messages entry free le =
    plain (sum (map request_weight switch.requests)) _ _ _ _ _ _ (sum-changed entry_weight i (with_busy (Some busy)) switch.directory.entries entry free.found) (idle-weight entry free.idle) le where
      plain : (rs es fs one other target sent : ℕ) → es + one ≡ fs + target → one ≡ other → target + sent ≤ other → rs + es + sent ≤ rs + fs
      plain rs es fs one other target sent e f le = omega arith

-- the target and the invalidations to the blades of a set
asked-weight : (target number : ℕ) (range : RangeView) (page : Option PageView) (blades most : ℕ) → target + 2 * size blades ≤ most → target + sent_weight (invalidations number range page blades) ≤ most
asked-weight target number range page blades most le = subst (λ n. target + n ≤ most) (sym (invalidations-weight number range page blades)) le

-- those that a transition is for give up at least what it calls them for
calls-weigh : (purpose : Purpose) (number : ℕ) (entry : Entry) (switch : SwitchView) → HasPurpose purpose entry switch
    → state_weight (target_for purpose entry.state) + sent_weight (calls_for purpose number entry) ≤ state_weight entry.state
calls-weigh MakesRoom number entry switch is = asked-weight 0 number entry.range None (holders entry.state) (state_weight entry.state) (held-weight entry.state)
calls-weigh (LetsWrite r) number entry switch is =
    asked-weight (state_weight (left_to r.blade entry.state)) number entry.range (Some r.page) (without_blade (holders entry.state) r.blade) (state_weight entry.state) (left-weight r.blade entry.state)
calls-weigh (LetsRead r owner) number entry switch (at, waiting, within, owned, other) =
    subst (λ state. 3 * size (2 ^ owner) + 2 ≤ state_weight state) (sym owned) (one _ (one-size owner)) where
      one : (n : ℕ) → n ≤ 1 → 3 * n + 2 ≤ 6
      one n le = omega arith

-- a new entry names nobody
enters : (range : RangeView) (switch : SwitchView) → AddsNothing switch (entered range switch)
enters range switch =
    plain (sum (map request_weight switch.requests)) _ _ (sum-inserted entry_weight switch.directory.entries (entry_place switch.directory.entries range) (fresh_entry range)) where
      plain : (rs new old : ℕ) → new ≡ old + 0 → rs + new + 0 ≤ rs + old
      plain rs new old e = omega arith

drops : (i : ℕ) (entry : Entry) (switch : SwitchView) → AddsNothing switch (dropped i entry switch)
drops i entry switch = plain (sum (map request_weight switch.requests)) _ _ (sum-removed entry_weight switch.directory.entries i) where
  plain : (rs new old : ℕ) → new ≤ old → rs + new + 0 ≤ rs + old
  plain rs new old le = omega arith

each : (deed : SwitchDeed) (switch : SwitchView) → MayDo deed switch → AddsNothing switch (after_deed deed switch)
each (DeniesRequest r at) switch may = denies r at switch may.request
each (GrantsRequest r at i entry) switch may = grants r at i entry switch may.request may.idle
each (BeginsTransition purpose i entry) switch may =
    begins switch i (transition_for purpose (switch.last + 1) entry.state) (calls_for purpose (switch.last + 1) entry) entry may.idle (calls-weigh purpose (switch.last + 1) entry switch may.serves)
each (EntersBlock page) switch may = enters (new_range page switch) switch
each (DropsEntry i entry) switch may = drops i entry switch

serving-adds : IsKeptByDeeds switch_weight (λ most effect. effect_weight effect ≤ most)
serving-adds = record { nothing = nothing; follows = follows; each = each }

-- ---- a message is handled

-- what is done with a message weighs less than the switch and the message did
abbrev Hears : SwitchView → Msg → SwitchEffect → Type 0
Hears switch message effect = effect_weight effect + 1 ≤ switch_weight switch + weight_of message

hears_nothing : (switch : SwitchView) (message : Msg) → Hears switch message (only switch)
hears_nothing switch message = plain _ _ (message-weighs message) where
  plain : (old m : ℕ) → 1 ≤ m → old + 0 + 1 ≤ old + m
  plain old m le = omega arith

hears_get : (switch : SwitchView) (blade : ℕ) (page : PageView) (write : Bool) → Hears switch (Get page write) (request_noted blade page write switch)
hears_get switch blade page write =
    plain _ _ _ (sum-joined request_weight switch.requests (record { blade = blade; page = page; write = write; fetching = false } ∷ [])) where
      plain : (new old es : ℕ) → new ≡ old + 13 → new + es + 0 + 1 ≤ old + es + 14
      plain new old es e = omega arith

hears_back : (switch : SwitchView) (page : PageView) (image : PageImageView) → Hears switch (Back page image) (went_back page image switch)
hears_back switch page image = by (place_in switch page) where
  plain : (old sent : ℕ) → sent ≤ 1 → old + sent + 1 ≤ old + 2
  plain old sent le = omega arith

  by : (place : Option (ℕ × ℕ)) → switch_weight switch + sent_weight (writing place image) + 1 ≤ switch_weight switch + 2
  by None = plain _ _ (omega arith)
  by (Some place) = plain _ _ (omega arith)

hears_ack : (switch : SwitchView) (blade number count : ℕ) → Hears switch (Ack number count) (answered number blade count switch)
hears_ack switch blade number count =
    subst (Hears switch (Ack number count)) (sym (answered-is number blade count switch))
    (plain (sum (map request_weight switch.requests)) _ _
    (sum-mapped entry_weight ended (acknowledged number blade count switch.directory.entries) ended-weight
    ∙ sum-first_changed entry_weight (λ entry. is_number number entry.busy) (plus_hits count) (map answer switch.directory.entries) (λ entry. refl)
    ∙ sum-mapped entry_weight answer switch.directory.entries (answered-weight number blade))) where
      answer : Entry → Entry
      answer entry = with_busy (after_answer number blade entry.busy) entry

      plain : (rs new old : ℕ) → new ≡ old → rs + new + 0 + 1 ≤ rs + old + 1
      plain rs new old e = omega arith

hears_image : (switch : SwitchView) (blade : ℕ) (page : PageView) (image : PageImageView) (r : Request) → Hears switch (Image (Some blade) page image) (filling (Some r) image switch)
hears_image switch blade page image r =
    plain _ _ _ _ _ (waiting-weight (without_request r switch.requests)) (waiting-weight switch.requests) (waiting-filter (λ q. not (is_of r.blade r.page q)) switch.requests) where
      plain : (new old n m es : ℕ) → new ≡ 13 * n → old ≡ 13 * m → n ≤ m → new + es + 4 + 1 ≤ old + es + 5
      plain new old n m es e f le = omega arith

handling-lightens : IsHeard (λ kind message switch effect. Hears switch message effect)
handling-lightens = record {
  nothing = λ kind message switch. hears_nothing switch message;
  asks = λ blade page write switch. hears_get switch blade page write;
  goes_back = λ page image switch. hears_back switch page image;
  answers = λ blade number count switch. hears_ack switch blade number count;
  fills = λ blade page image r switch. hears_image switch blade page image r;
}

-- what is still to come when a message is handled is less than what was to come with it, whatever the switch
pub switch_lightens : (name : LinkName) (message : Msg) (switch : SwitchView) (effect : SwitchEffect) → Receives name message switch effect
    → switch_weight effect.switch + sent_weight effect.sent + 1 ≤ switch_weight switch + weight_of message
switch_lightens name message switch effect receives =
    let first : SwitchEffect = handled_from name.kind name.number message switch in
    plain _ _ _ (receives-kept serving-adds (effect_weight first) name message switch effect receives (same _)) (handled-heard handling-lightens name.kind name.number message switch) where
      same : (n : ℕ) → n ≤ n
      same n = omega arith

      plain : (last first old : ℕ) → last ≤ first → first + 1 ≤ old → last + 1 ≤ old
      plain last first old le lt = omega arith
