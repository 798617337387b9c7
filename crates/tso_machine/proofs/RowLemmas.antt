-- The labels of a command: which drain is first, what is left behind it, and when there is none.
use Rattle.std.proofs.Common.{◌≡◌, ℕ, ◌+◌, ◌<◌, zero, suc, Bool, true, false, cond, ◌&&◌, ◌||◌, ◌==◌, not, ◌⊎◌, ◌↔◌, inl, inr, List, [], ◌∷◌, ◌++◌, Option, Some, None, is_some, slice_get, slice_set, refl, ap, sym, subst, ◌∙◌, arith}
use Rattle.std.specs.List.{list_any}
use Rattle.std.specs.Option.{option_map, option_and_then}
use Rattle.std.proofs.lemmas.Bool.{cases_Bool, false≢true}
use Rattle.std.proofs.lemmas.Bool.Decides.{nat_tests}
use Rattle.std.proofs.lemmas.List.{map-set}
use Rattle.std.proofs.lemmas.Option.{same_Some, none-some, option_and_then_some}
use Rattle.mind_base.specs.Inside.{stores_in}
use Rattle.mind_base.specs.Pending.{PendingView}
use Rattle.mind_base.specs.Place.{Granule, place_of, granule_at}
use Rattle.mind_base.specs.Span.{SpanView}
use Rattle.mind_base.specs.declared.commands.Command.{Command}
use Rattle.mind_base.specs.declared.commands.Command.TheVariants.{Map, Unmap, Protect, Migrate}
use Rattle.mind_base.specs.declared.plans.ThreadPlan.{ThreadPlan}
use Rattle.hart_effect.specs.Deed.{Storing, drained_of}
use Rattle.hart_effect.specs.Thread.{Thread}
use Rattle.tso_machine.specs.Commands.{is_change, outcome_at, next_from, next_command, command_span, buffers_in, is_buffered, is_held_up, taken_as, outcome_in_state, taken_unless_held_up}
use Rattle.tso_machine.specs.Rows.{left_in, drains, drains_from, buffers_of, own_label, row_of, BuffersIn, BuffersLowest}
use Rattle.tso_machine.specs.State.{Setup, State, Taken}
use Rattle.tso_machine.specs.Step.{threads_off, done_by, after}
use Rattle.tso_machine.specs.declared.labels.Label.{Label}
use Rattle.tso_machine.specs.declared.labels.Label.TheVariants as label

-- ---- one thread

left-none : (span : SpanView) (domain : ℕ) (buffer : List PendingView) → list_any (stores_in span domain) buffer ≡ false → left_in span domain buffer ≡ 0
left-none span domain [] e = refl
left-none span domain (s ∷ r) e = ap (λ b. cond b (suc (left_in span domain r)) 0) e

left-some : (span : SpanView) (domain : ℕ) (s : PendingView) (r : List PendingView) → list_any (stores_in span domain) (s ∷ r) ≡ true → left_in span domain (s ∷ r) ≡ suc (left_in span domain r)
left-some span domain s r e = ap (λ b. cond b (suc (left_in span domain r)) 0) e

-- a thread that buffers nothing in the span drains nothing
drains-none : (span : SpanView) (domain hart : ℕ) (buffer : List PendingView) (rest : List Label) → list_any (stores_in span domain) buffer ≡ false → drains hart (left_in span domain buffer) ++ rest ≡ rest
drains-none span domain hart buffer rest e = ap (λ n. drains hart n ++ rest) (left-none span domain buffer e)

drains-some : (span : SpanView) (domain hart : ℕ) (s : PendingView) (r : List PendingView) (rest : List Label) → list_any (stores_in span domain) (s ∷ r) ≡ true
    → drains hart (left_in span domain (s ∷ r)) ++ rest ≡ label.Drain hart ∷ (drains hart (left_in span domain r) ++ rest)
drains-some span domain hart s r rest e = ap (λ n. drains hart n ++ rest) (left-some span domain s r e)

-- ---- all threads

-- thread number k buffers a store in the span
abbrev At : SpanView → List ThreadPlan → List (List PendingView) → ℕ → Type 0
At span [] buffers k = ⊥
At span (plan ∷ plans) [] k = ⊥
At span (plan ∷ plans) (buffer ∷ buffers) zero = list_any (stores_in span plan.domain) buffer ≡ true
At span (plan ∷ plans) (buffer ∷ buffers) (suc k) = At span plans buffers k

abbrev Lowest : SpanView → List ThreadPlan → List (List PendingView) → ℕ → Type 0
Lowest span plans buffers k = At span plans buffers k × ((j : ℕ) → j < k → At span plans buffers j → ⊥)

abbrev Begins : SpanView → ℕ → List ThreadPlan → List (List PendingView) → ℕ → Type 0
Begins span n plans buffers hart = (k : ℕ) × (hart ≡ n + k) × Lowest span plans buffers k

-- no drain is among the labels behind the drains
abbrev IsOwn : List Label → Type 0
IsOwn tail = (hart : ℕ) → slice_get tail 0 ≡ Some (label.Drain hart) → ⊥

drain-hart : (a b : ℕ) → ◌≡◌ {A = Option Label} (Some (label.Drain a)) (Some (label.Drain b)) → b ≡ a
drain-hart a b e = cc

begins-later : (span : SpanView) (n hart : ℕ) (plan : ThreadPlan) (plans : List ThreadPlan) (buffer : List PendingView) (buffers : List (List PendingView)) → list_any (stores_in span plan.domain) buffer ≡ false → Begins span (suc n) plans buffers hart → Begins span n (plan ∷ plans) (buffer ∷ buffers) hart
begins-later span n hart plan plans buffer buffers f b =
    let lower : (j : ℕ) → j < suc b.0 → At span (plan ∷ plans) (buffer ∷ buffers) j → ⊥ = λ j.
    elim j as (λ j. j < suc b.0 → At span (plan ∷ plans) (buffer ∷ buffers) j → ⊥) [
      | zero ↦ λ lt at. false≢true (sym f ∙ at)
      | suc i ↦ λ lt at. b.2.1 i (omega arith) at
    ] in
    (suc b.0, omega (arith, b.1), (b.2.0, lower))

begins : (span : SpanView) (n : ℕ) (plans : List ThreadPlan) (buffers : List (List PendingView)) (tail : List Label) (hart : ℕ) → IsOwn tail → slice_get (drains_from span n plans buffers ++ tail) 0 ≡ Some (label.Drain hart) → Begins span n plans buffers hart
begins span n [] buffers tail hart own e = absurd (own hart e)
begins span n (plan ∷ plans) [] tail hart own e = absurd (own hart e)
begins span n (plan ∷ plans) (buffer ∷ buffers) tail hart own e = by (λ later. begins span (suc n) plans buffers tail hart own later) buffer (cases_Bool (list_any (stores_in span plan.domain) buffer)) e where
  by : (slice_get (drains_from span (suc n) plans buffers ++ tail) 0 ≡ Some (label.Drain hart) → Begins span (suc n) plans buffers hart) → (buffer : List PendingView) → (list_any (stores_in span plan.domain) buffer ≡ true) ⊎ (list_any (stores_in span plan.domain) buffer ≡ false)
      → slice_get ((drains n (left_in span plan.domain buffer) ++ drains_from span (suc n) plans buffers) ++ tail) 0 ≡ Some (label.Drain hart) → Begins span n (plan ∷ plans) (buffer ∷ buffers) hart
  by rest [] (inl t) e = absurd (false≢true t)
  by rest (s ∷ r) (inl t) e =
      let first : slice_get ((drains n (left_in span plan.domain (s ∷ r)) ++ drains_from span (suc n) plans buffers) ++ tail) 0 ≡ Some (label.Drain n) =
      ap (λ ls. slice_get (ls ++ tail) 0) (drains-some span plan.domain n s r (drains_from span (suc n) plans buffers) t) in
      let same : hart ≡ n = drain-hart n hart (sym first ∙ e) in
      (0, omega (arith, same), (t, λ j lt. absurd (omega arith)))
  by rest buffer (inr f) e =
      let later : slice_get (drains_from span (suc n) plans buffers ++ tail) 0 ≡ Some (label.Drain hart) =
      sym (ap (λ ls. slice_get (ls ++ tail) 0) (drains-none span plan.domain n buffer (drains_from span (suc n) plans buffers) f)) ∙ e in
      begins-later span n hart plan plans buffer buffers f (rest later)

begun : (span : SpanView) (n : ℕ) (plans : List ThreadPlan) (buffers : List (List PendingView)) (tail : List Label) (k : ℕ) → Lowest span plans buffers k → slice_get (drains_from span n plans buffers ++ tail) 0 ≡ Some (label.Drain (n + k))
begun span n [] buffers tail k h = absurd h.0
begun span n (plan ∷ plans) [] tail k h = absurd h.0
begun span n (plan ∷ plans) ([] ∷ buffers) tail zero h = absurd (false≢true h.0)
begun span n (plan ∷ plans) ((s ∷ r) ∷ buffers) tail zero h =
    let same : n ≡ n + 0 = omega arith in
    ap (λ ls. slice_get (ls ++ tail) 0) (drains-some span plan.domain n s r (drains_from span (suc n) plans buffers) h.0) ∙ ap (λ m. Some (label.Drain m)) same
begun span n (plan ∷ plans) (buffer ∷ buffers) tail (suc k) h =
    elim (cases_Bool (list_any (stores_in span plan.domain) buffer)) [
      | inl t ↦ absurd (h.1 0 (omega arith) t)
      | inr f ↦
          let same : suc n + k ≡ n + suc k = omega arith in
          ap (λ ls. slice_get (ls ++ tail) 0) (drains-none span plan.domain n buffer (drains_from span (suc n) plans buffers) f)
          ∙ begun span (suc n) plans buffers tail k (h.0, λ j lt at. h.1 (suc j) (omega arith) at) ∙ ap (λ m. Some (label.Drain m)) same
    ]

-- behind the first drain the labels are those of the buffers that it leaves
lowered : (span : SpanView) (n : ℕ) (plans : List ThreadPlan) (buffers : List (List PendingView)) (k : ℕ) (s : PendingView) (r : List PendingView) → Lowest span plans buffers k → slice_get buffers k ≡ Some (s ∷ r)
    → drains_from span n plans buffers ≡ label.Drain (n + k) ∷ drains_from span n plans (slice_set buffers k r)
lowered span n [] buffers k s r h e = absurd h.0
lowered span n (plan ∷ plans) [] k s r h e = absurd h.0
lowered span n (plan ∷ plans) (buffer ∷ buffers) zero s r h e =
    let rest : List Label = drains_from span (suc n) plans buffers in
    let whole : buffer ≡ s ∷ r = same_Some buffer (s ∷ r) e in
    let some : list_any (stores_in span plan.domain) (s ∷ r) ≡ true = subst (λ b. list_any (stores_in span plan.domain) b ≡ true) whole h.0 in
    let same : n ≡ n + 0 = omega arith in
    ap (λ b. drains n (left_in span plan.domain b) ++ rest) whole ∙ drains-some span plan.domain n s r rest some ∙ ap (λ m. label.Drain m ∷ (drains n (left_in span plan.domain r) ++ rest)) same
lowered span n (plan ∷ plans) (buffer ∷ buffers) (suc k) s r h e =
    let rest : List Label = drains_from span (suc n) plans buffers in
    let left : List Label = drains_from span (suc n) plans (slice_set buffers k r) in
    elim (cases_Bool (list_any (stores_in span plan.domain) buffer)) [
      | inl t ↦ absurd (h.1 0 (omega arith) t)
      | inr f ↦
          let same : suc n + k ≡ n + suc k = omega arith in
          drains-none span plan.domain n buffer rest f ∙ lowered span (suc n) plans buffers k s r (h.0, λ j lt at. h.1 (suc j) (omega arith) at) e
          ∙ ap (λ m. label.Drain m ∷ left) same ∙ ap (λ ls. label.Drain (n + suc k) ∷ ls) (sym (drains-none span plan.domain n buffer left f))
    ]

-- where no thread buffers in the span there is none
undrained : (span : SpanView) (n : ℕ) (plans : List ThreadPlan) (buffers : List (List PendingView)) → ((k : ℕ) → At span plans buffers k → ⊥) → drains_from span n plans buffers ≡ []
undrained span n [] buffers h = refl
undrained span n (plan ∷ plans) [] h = refl
undrained span n (plan ∷ plans) (buffer ∷ buffers) h =
    elim (cases_Bool (list_any (stores_in span plan.domain) buffer)) [
      | inl t ↦ absurd (h 0 t)
      | inr f ↦ drains-none span plan.domain n buffer (drains_from span (suc n) plans buffers) f ∙ undrained span (suc n) plans buffers (λ k at. h (suc k) at)
    ]

-- the test for a thread that buffers in the span
free-test : (span : SpanView) (plans : List ThreadPlan) (threads : List Thread) → ((k : ℕ) → At span plans (buffers_of threads) k → ⊥) → is_buffered span plans threads ≡ false
free-test span [] threads h = refl
free-test span (plan ∷ plans) [] h = refl
free-test span (plan ∷ plans) (thread ∷ threads) h =
    elim (cases_Bool (list_any (stores_in span plan.domain) thread.buffer)) [
      | inl t ↦ absurd (h 0 t)
      | inr f ↦ ap (λ b. b || is_buffered span plans threads) f ∙ free-test span plans threads (λ k at. h (suc k) at)
    ]

or-false : (a b : Bool) → (a || b) ≡ false → (a ≡ false) × (b ≡ false)
or-false true b e = absurd (false≢true (sym e))
or-false false b e = (refl, e)

test-free : (span : SpanView) (plans : List ThreadPlan) (threads : List Thread) (k : ℕ) → is_buffered span plans threads ≡ false → At span plans (buffers_of threads) k → ⊥
test-free span [] threads k e at = at
test-free span (plan ∷ plans) [] k e at = at
test-free span (plan ∷ plans) (thread ∷ threads) zero e at = false≢true (sym (or-false (buffers_in span plan.domain thread) (is_buffered span plans threads) e).0 ∙ at)
test-free span (plan ∷ plans) (thread ∷ threads) (suc k) e at = test-free span plans threads k (or-false (buffers_in span plan.domain thread) (is_buffered span plans threads) e).1 at

-- ---- in words

at-of : (span : SpanView) (plans : List ThreadPlan) (threads : List Thread) (k : ℕ) (plan : ThreadPlan) (thread : Thread) → slice_get plans k ≡ Some plan → slice_get threads k ≡ Some thread → list_any (stores_in span plan.domain) thread.buffer ≡ true → At span plans (buffers_of threads) k
at-of span [] threads k plan thread e f h = absurd (none-some plan e)
at-of span (p ∷ plans) [] k plan thread e f h = absurd (none-some thread f)
at-of span (p ∷ plans) (t ∷ threads) zero plan thread e f h =
    ap (λ (q : ThreadPlan). list_any (stores_in span q.domain) t.buffer) (same_Some p plan e) ∙ ap (λ (u : Thread). list_any (stores_in span plan.domain) u.buffer) (same_Some t thread f) ∙ h
at-of span (p ∷ plans) (t ∷ threads) (suc k) plan thread e f h = at-of span plans threads k plan thread e f h

abbrev Shown : SpanView → List ThreadPlan → List Thread → ℕ → Type 0
Shown span plans threads k = (plan : ThreadPlan) × (thread : Thread) × (slice_get plans k ≡ Some plan) × (slice_get threads k ≡ Some thread) × (list_any (stores_in span plan.domain) thread.buffer ≡ true)

shown-at : (span : SpanView) (plans : List ThreadPlan) (threads : List Thread) (k : ℕ) → At span plans (buffers_of threads) k → Shown span plans threads k
shown-at span [] threads k at = absurd at
shown-at span (plan ∷ plans) [] k at = absurd at
shown-at span (plan ∷ plans) (thread ∷ threads) zero at = (plan, thread, refl, refl, at)
shown-at span (plan ∷ plans) (thread ∷ threads) (suc k) at = shown-at span plans threads k at

buffers-at : (u : Setup) (threads : List Thread) (span : SpanView) (k : ℕ) → BuffersIn u threads span k → At span u.plan.threads (buffers_of threads) k
buffers-at u threads span k h = at-of span u.plan.threads threads k h.plan h.thread h.planned h.there h.buffers

at-buffers : (u : Setup) (threads : List Thread) (span : SpanView) (k : ℕ) → At span u.plan.threads (buffers_of threads) k → BuffersIn u threads span k
at-buffers u threads span k at =
    let s = shown-at span u.plan.threads threads k at in
    record { plan = s.0; thread = s.1; planned = s.2; there = s.3; buffers = s.4 }

own-label : (index : ℕ) (command : Command) → IsOwn (own_label index command)
own-label index command hart e = by (is_change command) e where
  by : (b : Bool) → slice_get (cond b (label.Command index ∷ []) []) 0 ≡ Some (label.Drain hart) → ⊥
  by true e = absurd (cc)
  by false e = absurd (cc)

lowest-of : (u : Setup) (threads : List Thread) (span : SpanView) (hart : ℕ) → BuffersLowest u threads span hart → Lowest span u.plan.threads (buffers_of threads) hart
lowest-of u threads span hart h = (buffers-at u threads span hart h.here, λ j lt at. h.lowest j lt (at-buffers u threads span j at))

-- ---- the laws

pub head : (u : Setup) (threads : List Thread) (index : ℕ) (command : Command) (hart : ℕ) → (slice_get (row_of u threads index command) 0 ≡ Some (label.Drain hart)) ↔ BuffersLowest u threads (command_span command) hart
head u threads index command hart =
    let span : SpanView = command_span command in (
      λ e.
          let b = begins span 0 u.plan.threads (buffers_of threads) (own_label index command) hart (own-label index command) e in
          let same : b.0 ≡ hart = omega (arith, b.1) in
          let lowest : Lowest span u.plan.threads (buffers_of threads) hart = subst (Lowest span u.plan.threads (buffers_of threads)) same b.2 in
          record { here = at-buffers u threads span hart lowest.0; lowest = λ j lt h. lowest.1 j lt (buffers-at u threads span j h) },
      λ h.
          let same : 0 + hart ≡ hart = omega arith in
          begun span 0 u.plan.threads (buffers_of threads) (own_label index command) hart (lowest-of u threads span hart h) ∙ ap (λ m. Some (label.Drain m)) same,
    )

off-buffers : (granule : Granule) (threads : List Thread) → buffers_of (threads_off granule threads) ≡ buffers_of threads
off-buffers granule [] = refl
off-buffers granule (t ∷ threads) = ap (λ bs. t.buffer ∷ bs) (off-buffers granule threads)

-- a drain takes the oldest store out of the buffer of its thread, and no other buffer changes
drained-of : (s m : State) (hart domain : ℕ) (thread : Thread) (buffer : List PendingView) → thread.buffer ≡ buffer → option_map (done_by hart domain s) (drained_of buffer thread) ≡ Some m
    → (oldest : PendingView) × (newer : List PendingView) × (thread.buffer ≡ oldest ∷ newer) × (buffers_of m.threads ≡ slice_set (buffers_of s.threads) hart newer)
drained-of s m hart domain thread [] e k = absurd (none-some m k)
drained-of s m hart domain thread (oldest ∷ newer) e k =
    let next : Thread = record thread { buffer = newer } in
    let granule : Granule = granule_at (place_of domain oldest.address) in
    let same : done_by hart domain s (Storing next oldest) ≡ m = same_Some _ _ k in (
      oldest,
      newer,
      e,
      ap (λ (x : State). buffers_of x.threads) (sym same) ∙ off-buffers granule (slice_set s.threads hart next) ∙ map-set (λ (t : Thread). t.buffer) s.threads hart next,
    )

buffer-there : (threads : List Thread) (k : ℕ) (thread : Thread) → slice_get threads k ≡ Some thread → slice_get (buffers_of threads) k ≡ Some thread.buffer
buffer-there [] k thread e = absurd (none-some thread e)
buffer-there (t ∷ threads) zero thread e = ap (λ (u : Thread). Some u.buffer) (same_Some t thread e)
buffer-there (t ∷ threads) (suc k) thread e = buffer-there threads k thread e

pub tail : (u : Setup) (s m : State) (index : ℕ) (command : Command) (hart : ℕ) → BuffersLowest u s.threads (command_span command) hart → after u s (label.Drain hart) ≡ Some m → row_of u s.threads index command ≡ label.Drain hart ∷ row_of u m.threads index command
tail u s m index command hart h e =
    let span : SpanView = command_span command in
    let own : List Label = own_label index command in
    option_and_then_some _ (slice_get u.plan.threads hart) m e (λ plan planned g.
    option_and_then_some _ (slice_get s.threads hart) m g (λ thread there k.
    let d = drained-of s m hart plan.domain thread thread.buffer refl k in
    let at : slice_get (buffers_of s.threads) hart ≡ Some (d.0 ∷ d.1) = buffer-there s.threads hart thread there ∙ ap Some d.2 in
    let same : 0 + hart ≡ hart = omega arith in
    ap (λ ls. ls ++ own) (lowered span 0 u.plan.threads (buffers_of s.threads) hart d.0 d.1 (lowest-of u s.threads span hart h) at)
    ∙ ap (λ n. label.Drain n ∷ (drains_from span 0 u.plan.threads (slice_set (buffers_of s.threads) hart d.1) ++ own)) same
    ∙ ap (λ bs. label.Drain hart ∷ (drains_from span 0 u.plan.threads bs ++ own)) (sym d.3)))

pub bare : (u : Setup) (threads : List Thread) (index : ℕ) (command : Command) → ((hart : ℕ) → BuffersIn u threads (command_span command) hart → ⊥) → row_of u threads index command ≡ own_label index command
bare u threads index command h =
    ap (λ ls. ls ++ own_label index command) (undrained (command_span command) 0 u.plan.threads (buffers_of threads) (λ k at. h k (at-buffers u threads (command_span command) k at)))

-- what is next is a change
and-first : (a b : Bool) → (a && b) ≡ true → a ≡ true
and-first true b e = refl
and-first false b e = absurd (false≢true e)

abbrev Changing : List Command → ℕ → Type 0
Changing commands k = (c : Command) → slice_get commands k ≡ Some c → is_change c ≡ true

next-changes : (n : ℕ) (commands : List Command) (taken : List Taken) (i : ℕ) → next_from n commands taken ≡ Some i → (k : ℕ) × (i ≡ n + k) × Changing commands k
next-changes n [] taken i e = absurd (none-some i e)
next-changes n (command ∷ commands) taken i e = by (λ e. next-changes (suc n) commands taken i e) (is_change command && not (is_some (outcome_at taken n))) refl e where
  by : (next_from (suc n) commands taken ≡ Some i → (k : ℕ) × (i ≡ suc n + k) × Changing commands k) → (b : Bool) → (is_change command && not (is_some (outcome_at taken n))) ≡ b → cond b (Some n) (next_from (suc n) commands taken) ≡ Some i → (k : ℕ) × (i ≡ n + k) × Changing (command ∷ commands) k
  by rest true t e =
      let same : n ≡ i = same_Some n i e in
      (0, omega (arith, same), λ c there. subst (λ x. is_change x ≡ true) (same_Some command c there) (and-first (is_change command) (not (is_some (outcome_at taken n))) t))
  by rest false t e =
      let later = rest e in
      (suc later.0, omega (arith, later.1), later.2)

next-is-change : (commands : List Command) (taken : List Taken) (i : ℕ) (c : Command) → next_command commands taken ≡ Some i → slice_get commands i ≡ Some c → is_change c ≡ true
next-is-change commands taken i c e there =
    let n = next-changes 0 commands taken i e in
    let same : i ≡ n.0 = omega (arith, n.1) in
    n.2 c (subst (λ k. slice_get commands k ≡ Some c) same there)

-- a change is held up by a store in its span
held-up : (command : Command) (plans : List ThreadPlan) (threads : List Thread) → is_change command ≡ true → is_held_up command plans threads ≡ is_buffered (command_span command) plans threads
held-up (Map span perm) plans threads e = refl
held-up (Unmap span) plans threads e = refl
held-up (Protect span perm) plans threads e = refl
held-up (Migrate range memory) plans threads e = absurd (false≢true e)

self-test : (n : ℕ) → (n == n) ≡ true
self-test n = grind (arith, nat_tests)

taken-when : (u : Setup) (s : State) (index : ℕ) (command : Command) → next_command u.commands s.taken ≡ Some index → slice_get u.commands index ≡ Some command → after u s (label.Command index) ≡ taken_unless_held_up u s index command
taken-when u s index command next there =
    ap (λ o. option_and_then (λ n. cond (n == index) (option_and_then (taken_unless_held_up u s index) (slice_get u.commands index)) None) o) next
    ∙ ap (λ b. cond b (option_and_then (taken_unless_held_up u s index) (slice_get u.commands index)) None) (self-test index)
    ∙ ap (option_and_then (taken_unless_held_up u s index)) there

unless-held : (b : Bool) (state : State) → is_some (cond b None (Some state)) ≡ true → b ≡ false
unless-held true state e = absurd (false≢true e)
unless-held false state e = refl

pub enabled : (u : Setup) (s : State) (index : ℕ) (command : Command) → next_command u.commands s.taken ≡ Some index → slice_get u.commands index ≡ Some command
    → (is_some (after u s (label.Command index)) ≡ true) ↔ ((hart : ℕ) → BuffersIn u s.threads (command_span command) hart → ⊥)
enabled u s index command next there =
    let span : SpanView = command_span command in
    let state : State = taken_as command index (outcome_in_state u s command) s in
    let by = taken-when u s index command next there in
    let held = held-up command u.plan.threads s.threads (next-is-change u.commands s.taken index command next there) in (
      λ e hart h.
          let free : is_held_up command u.plan.threads s.threads ≡ false = unless-held (is_held_up command u.plan.threads s.threads) state (sym (ap is_some by) ∙ e) in
          test-free span u.plan.threads s.threads hart (sym held ∙ free) (buffers-at u s.threads span hart h),
      λ none.
          let free : is_held_up command u.plan.threads s.threads ≡ false = held ∙ free-test span u.plan.threads s.threads (λ k at. none k (at-buffers u s.threads span k at)) in
          ap is_some by ∙ ap (λ b. is_some (cond b None (Some state))) free,
    )
