-- What a compute blade acknowledges is at most what it notes as given up or lowered.
use Rattle.std.proofs.Common.{◌≡◌, refl, sym, ◌∙◌, ap, subst, ℕ, suc, ◌+◌, ◌≤◌, Bool, true, false, cond, not, List, [], ◌∷◌, ◌++◌, length, filter, slice_get, Option, Some, None, option_map, arith}
use Rattle.std.specs.Prelude.{if◌then◌else◌, is_some, unwrap_or, option_and_then}
use Rattle.std.specs.List.{AllByRecursion, IsDistinct}
use Rattle.std.specs.Map.{keys_of, set_value}
use Rattle.std.specs.Option.{option_map_or}
use Rattle.std.proofs.lemmas.Bool.{and_parts, and_from, false≢true}
use Rattle.std.proofs.lemmas.List.{length-map, length-reverse}
use Rattle.std.proofs.lemmas.Option.{same_Some}
use Rattle.mind_base.specs.Page.{PageView}
use Rattle.mind_base.specs.Pending.{PendingView}
use Rattle.mind_base.specs.Place.{place_of, page_at}
use Rattle.mind_base.specs.Range.{RangeView}
use Rattle.mind_base.specs.declared.ends.End.{End}
use Rattle.mind_base.specs.declared.ends.End.TheVariants.{Running, Exit, Fault}
use Rattle.mind_base.specs.declared.images.Image.{Image}
use Rattle.mind_base.specs.declared.notes.Note.{Note}
use Rattle.mind_base.specs.declared.plans.ThreadPlan.{ThreadPlan}
use Rattle.hart_effect.specs.Deed.{Deed, carried_out, drains_first, found}
use Rattle.hart_effect.specs.declared.finds.Found.{Found}
use Rattle.page_cache.specs.PageCache.{IsPageCache, same_page, frame_of, without_page, with_change, lowered_frame, newest_first, oldest_first, put_of, stands_in, stands_writable_in, is_writable}
use Rattle.page_cache.specs.declared.frames.Frame.{Frame}
use Rattle.page_cache.specs.declared.frames.Put.{Put}
use Rattle.page_cache.specs.declared.frames.Put.TheVariants.{Fresh, Replaced, Pushed}
use Rattle.page_cache.proofs.Callers.{same_page-true, same_page-refl}
use Rattle.wire_msg.specs.declared.msgs.Msg.{Msg}
use Rattle.wire_msg.specs.declared.msgs.Msg.TheVariants.{Get, Fill, Deny, Back, Inv, Lower, Ack}
use Rattle.compute_blade.specs.Blade.{HartView, BladeView, BladeEffect, hart_of, with_hart, is_asked, request_for, requests_without, only}
use Rattle.compute_blade.specs.Denials.{denial_in, refused_by}
use Rattle.compute_blade.specs.Frames.{around_held, thread_of}
use Rattle.compute_blade.specs.Messages.{acknowledging, after_message, answered_by, awake, need_asked, resumed_by, resumed_for}
use Rattle.compute_blade.specs.Pages.{back_of, each_in, given_up, giving_up, held_in, lowered, lowering, sent_out, run_of_block, spared, taken, writable_in}
use Rattle.compute_blade.specs.Steps.{blade_after_drain, after_step, asking, drain_of, drained, draining_by, need_in, performed, performed_by, serves, step_at, stepping_at, waiting}
use Rattle.compute_blade.specs.declared.kept.Answer.{Answer}
use Rattle.compute_blade.specs.declared.kept.Answer.TheVariants.{Filled, Denied}
use Rattle.compute_blade.specs.declared.kept.Asked.{Asked}
use Rattle.compute_blade.specs.declared.kept.Denial.{Denial}
use Rattle.compute_blade.specs.declared.kept.Need.{Need}
use Rattle.compute_blade.specs.declared.kept.Waits.{Waits}
use Rattle.compute_blade.specs.declared.kept.Waits.TheVariants.{Step, Drain}
use Rattle.coherence.specs.Counts.{bit}
use Rattle.rack_core.specs.Released.{ack_counts, released}
use Rattle.rack_core.proofs.Moves.Blade.Calls.{ChangesPages, block_gone, each, given_up-changes, lowered-changes}
use Rattle.rack_core.proofs.Moves.Blade.Steps.{for_hart-some}
use Rattle.rack_core.proofs.Lists.Lookups.{Entries}
use Rattle.rack_core.proofs.Moves.Blade.Resuming.{resumes-as}

-- ---- one list behind another

pub released-then : (first later : List Note) → released (first ++ later) ≡ released first + released later
released-then [] later = omega arith
released-then (n ∷ first) later = omega (arith, released-then first later)

pub counts-then : (first later : List Msg) → ack_counts (first ++ later) ≡ ack_counts first + ack_counts later
counts-then [] later = omega arith
counts-then (message ∷ first) later = omega (arith, counts-then first later)

-- ---- what a hart's blade does acknowledges nothing

abbrev AcksNothing : BladeEffect → Type 0
AcksNothing e = ack_counts e.sent ≡ 0

performed-nothing : (h : ℕ) (plan : ThreadPlan) (found : Found) (pc : ℕ) (blade : BladeView) (hart : HartView) → AcksNothing (performed h plan found pc blade hart)
performed-nothing h plan found pc blade hart = by (carried_out found (around_held blade.cache.entries h plan.domain) pc (thread_of blade.cache.entries hart)) where
  by : (o : Option Deed) → AcksNothing (performed_by o h plan found blade hart)
  by None = refl
  by (Some deed) = refl

asking-nothing : (h : ℕ) (waits : Waits) (need : Need) (blade : BladeView) (hart : HartView) → AcksNothing (asking h waits need blade hart)
asking-nothing h waits need blade hart = by (is_asked need.page blade.requests) where
  by : (b : Bool) → AcksNothing (if b then only blade else record {
    blade = with_hart h (waiting waits hart) (record blade { requests = blade.requests ++ record { page = need.page; write = need.write; hart = h; waits = waits } ∷ [] });
    sent = Get need.page need.write ∷ [];
    noted = [];
  })
  by true = refl
  by false = refl

draining-nothing : (h : ℕ) (plan : ThreadPlan) (stores : List PendingView) (blade : BladeView) (hart : HartView) → AcksNothing (draining_by h plan stores blade hart)
draining-nothing h plan [] blade hart = refl
draining-nothing h plan (oldest ∷ newer) blade hart = by (is_writable (frame_of (page_at (place_of plan.domain oldest.address)) blade.cache.entries)) where
  by : (b : Bool) → AcksNothing (if b then drained h plan oldest newer blade hart
      else asking h Drain (record { page = page_at (place_of plan.domain oldest.address); write = true }) blade hart)
  by true = refl
  by false = asking-nothing h Drain (record { page = page_at (place_of plan.domain oldest.address); write = true }) blade hart

drain_of-nothing : (h : ℕ) (plan : ThreadPlan) (blade : BladeView) (hart : HartView) → AcksNothing (drain_of h plan blade hart)
drain_of-nothing h plan blade hart = by hart.draining where
  by : (b : Bool) → AcksNothing (if b then only blade else draining_by h plan hart.queue.stores blade hart)
  by true = refl
  by false = draining-nothing h plan hart.queue.stores blade hart

stepping-nothing : (need : Option Need) (h : ℕ) (plan : ThreadPlan) (found : Found) (pc : ℕ) (blade : BladeView) (hart : HartView) → AcksNothing (stepping_at need h plan found pc blade hart)
stepping-nothing None h plan found pc blade hart = performed-nothing h plan found pc blade hart
stepping-nothing (Some need) h plan found pc blade hart = by (serves found (frame_of need.page blade.cache.entries)) where
  by : (b : Bool) → AcksNothing (if b then performed h plan found pc blade hart else asking h Step need blade hart)
  by true = performed-nothing h plan found pc blade hart
  by false = asking-nothing h Step need blade hart

step_at-nothing : (end : End) (h : ℕ) (plan : ThreadPlan) (image : Image) (blade : BladeView) (hart : HartView) → AcksNothing (step_at end h plan image blade hart)
step_at-nothing (Exit value) h plan image blade hart = refl
step_at-nothing (Fault kind value pc) h plan image blade hart = refl
step_at-nothing (Running pc) h plan image blade hart = by hart.stepping (drains_first (found image hart.regs pc) hart.queue.stores hart.queue.capacity) where
  by : (b c : Bool) → AcksNothing (if b then only blade else (if c then drain_of h plan blade hart
      else stepping_at (need_in (found image hart.regs pc) plan.domain) h plan (found image hart.regs pc) pc blade hart))
  by true c = refl
  by false true = drain_of-nothing h plan blade hart
  by false false = stepping-nothing (need_in (found image hart.regs pc) plan.domain) h plan (found image hart.regs pc) pc blade hart

pub step-nothing : (images : List Image) (h : ℕ) (blade : BladeView) (e : BladeEffect) → after_step images h blade ≡ Some e → AcksNothing e
step-nothing images h blade e given =
    let o = for_hart-some blade h (λ plan hart. option_map (λ image. step_at hart.end h plan image blade hart) (slice_get images plan.image)) e given in
    by o.plan o.hart (slice_get images o.plan.image) o.does
  where
    by : (plan : ThreadPlan) (hart : HartView) (code : Option Image) → option_map (λ image. step_at hart.end h plan image blade hart) code ≡ Some e → AcksNothing e
    by plan hart None d = let never : ⊥ = cc in absurd never
    by plan hart (Some image) d = subst AcksNothing (same_Some _ _ d) (step_at-nothing hart.end h plan image blade hart)

pub drain-nothing : (h : ℕ) (blade : BladeView) (e : BladeEffect) → blade_after_drain h blade ≡ Some e → AcksNothing e
drain-nothing h blade e given =
    let o = for_hart-some blade h (λ plan hart. Some (drain_of h plan blade hart)) e given in
    subst AcksNothing (same_Some _ _ o.does) (drain_of-nothing h o.plan blade o.hart)

-- ---- nor does what waited for a page

answered-nothing : (answer : Answer) (h : ℕ) (plan : ThreadPlan) (found : Found) (pc : ℕ) (blade : BladeView) (hart : HartView) → AcksNothing (answered_by answer h plan found pc blade hart)
answered-nothing Filled h plan found pc blade hart = performed-nothing h plan found pc blade hart
answered-nothing Denied h plan found pc blade hart = by (denial_in found) where
  by : (denial : Option Denial) → AcksNothing (refused_by denial h pc blade hart)
  by None = refl
  by (Some denial) = refl

by-nothing : (waits : Waits) (answer : Answer) (asked : Need) (images : List Image) (h : ℕ) (plan : ThreadPlan) (blade : BladeView) (hart : HartView)
    → AcksNothing (resumed_by waits answer asked images h plan blade hart)
by-nothing Step answer asked images h plan blade hart =
    resumes-as AcksNothing answer asked images h plan blade hart refl (λ image pc code runs just ready. answered-nothing answer h plan (found image hart.regs pc) pc blade hart)
by-nothing Drain answer asked images h plan blade hart = draining-nothing h plan hart.queue.stores blade hart

resumed-nothing : (answer : Answer) (images : List Image) (request : Option Asked) (blade : BladeView) → AcksNothing (resumed_for answer images request blade)
resumed-nothing answer images None blade = refl
resumed-nothing answer images (Some asked) blade = by (slice_get blade.plan.threads asked.hart) (hart_of blade asked.hart) where
  goes : ThreadPlan → HartView → BladeEffect
  goes plan hart = resumed_by asked.waits answer (need_asked asked) images asked.hart plan
      (with_hart asked.hart (awake asked.waits hart) (record blade { requests = requests_without asked.page blade.requests })) (awake asked.waits hart)

  by : (p : Option ThreadPlan) (x : Option HartView) → AcksNothing (unwrap_or (option_and_then (λ plan. option_and_then (λ hart. Some (goes plan hart)) x) p) (only blade))
  by None x = refl
  by (Some plan) None = refl
  by (Some plan) (Some hart) = by-nothing asked.waits answer (need_asked asked) images asked.hart plan
      (with_hart asked.hart (awake asked.waits hart) (record blade { requests = requests_without asked.page blade.requests })) (awake asked.waits hart)

-- ---- pages

back-nothing : (page : PageView) (frame : Frame) → ack_counts (back_of page frame) ≡ 0
back-nothing page frame = by frame.dirty where
  by : (b : Bool) → ack_counts (if b then Back page frame.image ∷ [] else []) ≡ 0
  by true = refl
  by false = refl

out-nothing : (put : Put) → ack_counts (sent_out put) ≡ 0
out-nothing Fresh = refl
out-nothing (Replaced old) = refl
out-nothing (Pushed page old) = back-nothing page old

-- how many entries pass a test
abbrev pub marked : (PageView × Frame → Bool) → Entries → ℕ
marked test entries = length (filter test entries)

pub marked-cons : (test : PageView × Frame → Bool) (entry : PageView × Frame) (entries : Entries) → marked test (entry ∷ entries) ≡ bit (test entry) + marked test entries
marked-cons test entry entries = by (test entry) (filter test entries) where
  by : (b : Bool) (rest : Entries) → length (cond b (entry ∷ rest) rest) ≡ bit b + length rest
  by true rest = omega arith
  by false rest = omega arith

pub bit-most : (b : Bool) → bit b ≤ 1
bit-most true = omega arith
bit-most false = omega arith

-- one entry fewer, or changed
marked-without : (test : PageView × Frame → Bool) (page : PageView) (entries : Entries) → marked test entries ≤ marked test (without_page page entries) + 1
marked-without test page [] = omega arith
marked-without test page (first ∷ entries) = by (marked-without test page entries) (same_page page first.0) where
  by : marked test entries ≤ marked test (without_page page entries) + 1 → (b : Bool) → marked test (first ∷ entries) ≤ marked test (cond b entries (first ∷ without_page page entries)) + 1
  by rest true = omega (arith, marked-cons test first entries, bit-most (test first))
  by rest false = omega (arith, marked-cons test first entries, marked-cons test first (without_page page entries), rest)

marked-set : (test : PageView × Frame → Bool) (page : PageView) (new : Frame) (entries : Entries) → marked test entries ≤ marked test (set_value (same_page page) entries new) + 1
marked-set test page new [] = omega arith
marked-set test page new (first ∷ entries) = by (marked-set test page new entries) (same_page page first.0) where
  by : marked test entries ≤ marked test (set_value (same_page page) entries new) + 1 → (b : Bool)
      → marked test (first ∷ entries) ≤ marked test (cond b ((first.0, new) ∷ entries) (first ∷ set_value (same_page page) entries new)) + 1
  by rest true = omega (arith, marked-cons test first entries, marked-cons test (first.0, new) entries, bit-most (test first))
  by rest false = omega (arith, marked-cons test first entries, marked-cons test first (set_value (same_page page) entries new), rest)

marked-change : (test : PageView × Frame → Bool) (change : Frame → Frame) (page : PageView) (entries : Entries) → marked test entries ≤ marked test (with_change change page entries) + 1
marked-change test change page entries = by (frame_of page entries) where
  by : (held : Option Frame) → marked test entries ≤ marked test (option_map_or (λ frame. set_value (same_page page) entries (change frame)) held entries) + 1
  by None = omega arith
  by (Some frame) = marked-set test page (change frame) entries

-- what is done acknowledges nothing, and there is a note for each entry that passes the test no longer
record Releases (test : PageView × Frame → Bool) (blade : BladeView) (e : BladeEffect) : Type 0 where
  none : AcksNothing e
  noted : marked test blade.cache.entries ≤ marked test e.blade.cache.entries + released e.noted

gives-released : (test : PageView × Frame → Bool) (page : PageView) (blade : BladeView) → Releases test blade (given_up page blade)
gives-released test page blade = by (frame_of page blade.cache.entries) where
  by : (held : Option Frame) → Releases test blade (giving_up page held blade)
  by None = record { none = refl; noted = omega arith }
  by (Some frame) = record { none = back-nothing page frame; noted = marked-without test page blade.cache.entries }

lowers-released : (test : PageView × Frame → Bool) (page : PageView) (blade : BladeView) → Releases test blade (lowered page blade)
lowers-released test page blade = by (frame_of page blade.cache.entries) where
  by : (held : Option Frame) → Releases test blade (lowering page held blade)
  by None = record { none = refl; noted = omega arith }
  by (Some frame) = record { none = back-nothing page frame; noted = marked-change test lowered_frame page blade.cache.entries }

each-released : (test : PageView × Frame → Bool) (change : PageView → BladeView → BladeEffect) → ((page : PageView) (blade : BladeView) → Releases test blade (change page blade))
    → (pages : List PageView) (blade : BladeView) → Releases test blade (each_in change pages blade)
each-released test change one [] blade = record { none = refl; noted = omega arith }
each-released test change one (page ∷ pages) blade =
    let first = one page blade in
    let mid = (change page blade).blade in
    let rest = each-released test change one pages mid in
    record {
      none = counts-then (change page blade).sent (each_in change pages mid).sent ∙ (let both : ack_counts (change page blade).sent + ack_counts (each_in change pages mid).sent ≡ 0 = omega (arith, first.none, rest.none) in both);
      noted = omega (arith, first.noted, rest.noted, released-then (change page blade).noted (each_in change pages mid).noted);
    }

-- ---- at the end no entry passes

unheld : (page : PageView) (entries : Entries) → AllByRecursion (λ other. same_page page other ≡ false) (keys_of entries) → frame_of page entries ≡ None
unheld page [] apart = refl
unheld page (entry ∷ entries) apart = ap (λ b. cond b (Some entry.1) (frame_of page entries)) apart.0 ∙ unheld page entries apart.1

none-marked : (test : PageView × Frame → Bool) (entries : Entries) → IsDistinct same_page (keys_of entries)
    → ((page : PageView) (frame : Frame) → frame_of page entries ≡ Some frame → test (page, frame) ≡ false) → marked test entries ≡ 0
unfolding IsDistinct
none-marked test [] distinct fails = refl
none-marked test (entry ∷ entries) distinct fails =
    let first : test entry ≡ false = fails entry.0 entry.1 (ap (λ b. cond b (Some entry.1) (frame_of entry.0 entries)) (same_page-refl entry.0)) in
    let rest : marked test entries ≡ 0 = none-marked test entries distinct.1 later in
    omega (arith, marked-cons test entry entries, ap bit first, rest)
  where
    later : (page : PageView) (frame : Frame) → frame_of page entries ≡ Some frame → test (page, frame) ≡ false
    later page frame held = by (same_page page entry.0) refl where
      by : (b : Bool) → same_page page entry.0 ≡ b → test (page, frame) ≡ false
      by true e = let never : ⊥ = (let gone : frame_of page entries ≡ None = subst (λ p. frame_of p entries ≡ None) (sym (same_page-true page entry.0 e)) (unheld entry.0 entries distinct.0) in cc) in absurd never
      by false e = fails page frame (ap (λ b. cond b (Some entry.1) (frame_of page entries)) e ∙ held)

-- pages that pass a test were changed until none of them does
all-released : (on : Option Frame → Bool) (test : PageView × Frame → Bool) (change : PageView → BladeView → BladeEffect) (blade : BladeView)
    → ((page : PageView) (frame : Frame) → test (page, frame) ≡ true → on (Some frame) ≡ true)
    → ((page : PageView) (frame other : Frame) → test (page, frame) ≡ true → on (Some other) ≡ true → test (page, other) ≡ true) → on None ≡ false
    → ChangesPages on blade (oldest_first test blade.cache.entries) (each_in change (oldest_first test blade.cache.entries) blade)
    → Releases test blade (each_in change (oldest_first test blade.cache.entries) blade)
    → length (oldest_first test blade.cache.entries) ≤ released (each_in change (oldest_first test blade.cache.entries) blade).noted
all-released on test change blade is again off changes releases =
    let entries = blade.cache.entries in
    let after = (each_in change (oldest_first test entries) blade).blade.cache.entries in
    let many : length (oldest_first test entries) ≡ marked test entries = length-reverse (newest_first test entries) ∙ length-map (filter test entries) (λ entry. entry.0) in
    let none : marked test after ≡ 0 = none-marked test after changes.shape.distinct fails in
    omega (arith, many, none, releases.noted)
  where
    fails : (page : PageView) (frame : Frame) → frame_of page (each_in change (oldest_first test blade.cache.entries) blade).blade.cache.entries ≡ Some frame → test (page, frame) ≡ false
    fails page frame held = by (test (page, frame)) refl where
      by : (b : Bool) → test (page, frame) ≡ b → b ≡ false
      by false e = refl
      by true e = absurd (false≢true (sym (block_gone on test page blade.cache.entries (each_in change (oldest_first test blade.cache.entries) blade).blade.cache.entries
          (λ other o. again page frame other e o) off (changes.gone page)) ∙ ap on held ∙ is page frame e))

spared-few : (asked : Option PageView) (pages : List PageView) → spared asked pages ≤ length pages
spared-few None pages = omega arith
spared-few (Some asked) pages = few pages where
  few : (pages : List PageView) → length (filter (λ page. not (same_page asked page)) pages) ≤ length pages
  few [] = omega arith
  few (page ∷ pages) = by (not (same_page asked page)) (few pages) where
    by : (b : Bool) → length (filter (λ page. not (same_page asked page)) pages) ≤ length pages
        → length (cond b (page ∷ filter (λ page. not (same_page asked page)) pages) (filter (λ page. not (same_page asked page)) pages)) ≤ suc (length pages)
    by true le = omega (arith, le)
    by false le = omega (arith, le)

-- ---- messages

-- the acknowledgements that are sent count at most the pages that are noted
abbrev pub CountsReleased : BladeEffect → Type 0
CountsReleased e = ack_counts e.sent ≤ released e.noted

pub nothing-counts : (e : BladeEffect) → AcksNothing e → CountsReleased e
nothing-counts e none = omega (arith, none)

acknowledges : (test : PageView × Frame → Bool) (change : PageView → BladeView → BladeEffect) (pages : List PageView) (number : ℕ) (asked : Option PageView) (blade : BladeView)
    → Releases test blade (each_in change pages blade) → length pages ≤ released (each_in change pages blade).noted → CountsReleased (acknowledging change pages number asked blade)
acknowledges test change pages number asked blade releases few =
    omega (
      arith,
      counts-then (each_in change pages blade).sent (Ack number (spared asked pages) ∷ []),
      released-then (each_in change pages blade).noted [],
      releases.none,
      spared-few asked pages,
      few,
    )

invalidated-counts : (range : RangeView) (number : ℕ) (asked : Option PageView) (blade : BladeView) → IsPageCache blade.cache → CountsReleased (acknowledging given_up (held_in range blade) number asked blade)
invalidated-counts range number asked blade is =
    let test = stands_in (run_of_block range) in
    let releases = each-released test given_up (gives-released test) (held_in range blade) blade in
    acknowledges test given_up (held_in range blade) number asked blade releases
    (all-released is_some test given_up blade (λ page frame e. refl) (λ page frame other e o. e) refl (each is_some given_up given_up-changes (held_in range blade) blade is) releases)

lowered-counts : (range : RangeView) (number : ℕ) (asked : Option PageView) (blade : BladeView) → IsPageCache blade.cache → CountsReleased (acknowledging lowered (writable_in range blade) number asked blade)
lowered-counts range number asked blade is =
    let test = stands_writable_in (run_of_block range) in
    let releases = each-released test lowered (lowers-released test) (writable_in range blade) blade in
    acknowledges test lowered (writable_in range blade) number asked blade releases
    (all-released is_writable test lowered blade (λ page frame e. (and_parts _ _ e).1) (λ page frame other e o. and_from _ _ (and_parts _ _ e).0 o) refl
    (each is_writable lowered lowered-changes (writable_in range blade) blade is) releases)

pub message-counts : (images : List Image) (message : Msg) (blade : BladeView) → IsPageCache blade.cache → CountsReleased (after_message images message blade)
message-counts images (Fill page perm writable image) blade is =
    let after = (taken page perm writable image blade).blade in
    let sent = (taken page perm writable image blade).sent in
    nothing-counts (after_message images (Fill page perm writable image) blade)
    (counts-then sent (resumed_for Filled images (request_for page after.requests) after).sent
    ∙ (let none : ack_counts sent + ack_counts (resumed_for Filled images (request_for page after.requests) after).sent ≡ 0 =
    omega (arith, out-nothing (put_of blade.cache page), resumed-nothing Filled images (request_for page after.requests) after) in none))
message-counts images (Deny page) blade is = nothing-counts (after_message images (Deny page) blade) (resumed-nothing Denied images (request_for page blade.requests) blade)
message-counts images (Inv number range asked) blade is = invalidated-counts range number asked blade is
message-counts images (Lower number range asked) blade is = lowered-counts range number (Some asked) blade is
message-counts images message blade is = omega arith

pub evicted-nothing : (page : PageView) (blade : BladeView) → AcksNothing (given_up page blade)
evicted-nothing page blade = (gives-released (λ entry. true) page blade).none
