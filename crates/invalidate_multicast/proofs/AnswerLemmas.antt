-- After a blade's answer no transition with the number waits for it.
use Rattle.std.proofs.Common.{ℕ, Bool, cond, ◌==◌, inl, inr, Option, Some, None, List, [], ◌∷◌, map, get_or, sym, ◌∙◌, subst}
use Rattle.std.specs.List.{All}
use Rattle.std.proofs.lemmas.Bool.{cases_Bool, eq-eqb, false≢true}
use Rattle.std.proofs.lemmas.List.Elements.{All-map, All-nil, All-cons, All-head, All-tail}
use Rattle.region_directory.specs.Entry.{with_busy, plus_hits}
use Rattle.region_directory.specs.declared.entries.Busy.{Busy}
use Rattle.region_directory.specs.declared.entries.Entry.{Entry}
use Rattle.invalidate_multicast.specs.First.{first_changed}
use Rattle.invalidate_multicast.specs.Transition.{is_number, after_answer, without_waiting, acknowledged, WaitsFor}
use Rattle.invalidate_multicast.proofs.BladeLemmas.{without-gone}

-- what holds of each entry, and is kept by the change, holds when the first that passes is changed
all-first_changed : (P : Entry → Type 0) (test : Entry → Bool) (change : Entry → Entry) → ((e : Entry) → P e → P (change e)) → (es : List Entry) → All P es → All P (first_changed test change es)
all-first_changed P test change keeps [] h = All-nil P
all-first_changed P test change keeps (e ∷ es) h =
    let chosen = λ (b : Bool). All P (cond b (change e ∷ es) (e ∷ first_changed test change es)) in
    elim (cases_Bool (test e)) as (λ _. chosen (test e)) [
      | inl t ↦ subst chosen (sym t) (All-cons P (change e) es (keeps e (All-head P e es h)) (All-tail P e es h))
      | inr f ↦ subst chosen (sym f) (All-cons P e (first_changed test change es) (All-head P e es h) (all-first_changed P test change keeps es (All-tail P e es h)))
    ]

-- the answer ends the waiting of a transition
answer-ends : (number blade : ℕ) (busy : Option Busy) → WaitsFor number blade (after_answer number blade busy) → ⊥
answer-ends number blade None = λ h. h
answer-ends number blade (Some busy) =
    let chosen = λ (b : Bool). WaitsFor number blade (cond b (Some (without_waiting blade busy)) (Some busy)) → ⊥ in
    elim (cases_Bool (busy.number == number)) as (λ _. chosen (busy.number == number)) [
      | inl t ↦ subst chosen (sym t) (λ h. false≢true (sym (without-gone busy.waiting blade) ∙ h.1))
      | inr f ↦ subst chosen (sym f) (λ h. false≢true (sym f ∙ eq-eqb busy.number number h.0))
    ]

pub acknowledged-ends : (number blade count : ℕ) (es : List Entry) → All (λ e. WaitsFor number blade e.busy → ⊥) (acknowledged number blade count es)
acknowledged-ends number blade count es =
    all-first_changed (λ e. WaitsFor number blade e.busy → ⊥) (λ e. is_number number e.busy) (plus_hits count) (λ e h. h) (map (λ e. with_busy (after_answer number blade e.busy) e) es)
    (All-map (λ e. WaitsFor number blade e.busy → ⊥) (λ e. with_busy (after_answer number blade e.busy) e) es (λ k d lt. answer-ends number blade (get_or es k d).busy))
