-- Runs label by label, and what a run gave along its way.
use Rattle.std.proofs.Common.{◌≡◌, ℕ, ◌+◌, suc, ◌∙◌, ap, sym, refl, subst, List, [], ◌∷◌, ◌++◌, length, Option, Some, None, inl, inr, ◌⊎◌}
use Rattle.std.specs.List.{cons_option, Contains}
use Rattle.tso_machine.specs.State.{Setup, State}
use Rattle.tso_machine.specs.Step.{after}
use Rattle.tso_machine.specs.Replay.{Whole, Stuck, advanced, advance_all}
use Rattle.tso_machine.specs.Laws.{RunsTo, IsStep, GivenBy}
use Rattle.tso_machine.specs.Orders.{along}
use Rattle.tso_machine.specs.declared.labels.Label.{Label}
use Rattle.tso_machine.proofs.LawsLists.{contains-nil, contains-cons}
use Rattle.tso_machine.proofs.Threads.{after-length}
use Rattle.tso_machine.proofs.Runs.{advance_all-append, advance_all-stuck, replay-more}

-- the first label of a whole run is enabled, and the others go on from where it leads
pub enabled : (u : Setup) (n : ℕ) (s t : State) (l : Label) (ls : List Label) → advance_all u n (Whole s) (l ∷ ls) ≡ Whole t
    → (m : State) × (after u s l ≡ Some m) × (advance_all u (suc n) (Whole m) ls ≡ Whole t)
enabled u n s t l ls e = by_step (after u s l) refl e where
  by_step : (o : Option State) → after u s l ≡ o → advance_all u (suc n) (advanced n s o) ls ≡ Whole t
      → (m : State) × (after u s l ≡ Some m) × (advance_all u (suc n) (Whole m) ls ≡ Whole t)
  by_step None is e = absurd (let no_whole : Stuck n s ≡ Whole t = sym (advance_all-stuck u (suc n) n s ls) ∙ e in cc)
  by_step (Some m) is e = (m, is, e)

-- where a whole run leads does not hang on the number of its first label
pub renumbered : (u : Setup) (n k : ℕ) (s t : State) (ls : List Label) → advance_all u n (Whole s) ls ≡ Whole t → advance_all u k (Whole s) ls ≡ Whole t
renumbered u n k s t [] e = e
renumbered u n k s t (l ∷ ls) e =
    let first = enabled u n s t l ls e in
    ap (λ o. advance_all u (suc k) (advanced k s o) ls) first.1 ∙ renumbered u (suc n) (suc k) first.0 t ls first.2

pub runs-uncons : (u : Setup) (s t : State) (l : Label) (ls : List Label) → RunsTo u s (l ∷ ls) t
    → (m : State) × (after u s l ≡ Some m) × RunsTo u m ls t
runs-uncons u s t l ls e =
    let first = enabled u 0 s t l ls e in
    (first.0, first.1, renumbered u 1 0 first.0 t ls first.2)

pub runs-cons : (u : Setup) (s m t : State) (l : Label) (ls : List Label) → after u s l ≡ Some m → RunsTo u m ls t → RunsTo u s (l ∷ ls) t
runs-cons u s m t l ls e r = ap (λ o. advance_all u 1 (advanced 0 s o) ls) e ∙ renumbered u 0 1 m t ls r

-- a run over a front of labels goes on with the rest
pub runs-rest : (u : Setup) (s m t : State) (front rest : List Label) → RunsTo u s front m → RunsTo u s (front ++ rest) t → RunsTo u m rest t
runs-rest u s m t front rest reached e =
    renumbered u (0 + length front) 0 m t rest
    (sym (ap (λ r. advance_all u (0 + length front) r rest) reached) ∙ sym (advance_all-append u 0 (Whole s) front rest) ∙ e)

-- ---- steps

-- the label of a step leads from the state before it to the one after it
pub step-after : (u : Setup) (s : State) (ls : List Label) (before : State) (l : Label) (next : State) → IsStep u s ls before l next → after u before l ≡ Some next
step-after u s ls before l next step =
    by_step (after u before l) (sym (replay-more u s before step.front l step.reached) ∙ step.taken) where
      by_step : (o : Option State) → advanced (length step.front) before o ≡ Whole next → o ≡ Some next
      by_step None e = absurd (let no_whole : Stuck (length step.front) before ≡ Whole next = e in cc)
      by_step (Some m) e = ap Some (let same : Whole m ≡ Whole next = e in cc)

-- the first label of a run is a step
first-step : (u : Setup) (s m : State) (l : Label) (ls : List Label) → after u s l ≡ Some m → IsStep u s (l ∷ ls) s l m
first-step u s m l ls e = record { front = []; rest = ls; split = refl; reached = refl; taken = runs-cons u s m m l [] e refl }

-- a step of what follows a label is a step
later-step : (u : Setup) (s m : State) (first : Label) (ls : List Label) (before : State) (l : Label) (next : State) → after u s first ≡ Some m
    → IsStep u m ls before l next → IsStep u s (first ∷ ls) before l next
later-step u s m first ls before l next e step = record {
  front = first ∷ step.front;
  rest = step.rest;
  split = ap (λ xs. first ∷ xs) step.split;
  reached = runs-cons u s m before first step.front e step.reached;
  taken = runs-cons u s m next first (step.front ++ l ∷ []) e step.taken;
}

-- what a run gave along its way some step of it gave
pub given-along : {X : Type 0} (give : State → Label → Option X) (u : Setup) (s t : State) (ls : List Label) → RunsTo u s ls t
    → (x : X) → Contains (along give u (Some s) ls) x → GivenBy give u s ls x
given-along give u s t [] r x has = absurd (contains-nil x has)
given-along {X = X} give u s t (l ∷ ls) r x has =
    let first = runs-uncons u s t l ls r in
    let P : Option State → Type 0 = λ o. Contains (cons_option (give s l) (along give u o ls)) x in
    by_given (give s l) refl first.0 first.1 (λ h. given-along give u first.0 t ls first.2 x h) (subst P first.1 has) where
      later-given : (m : State) → after u s l ≡ Some m → GivenBy give u m ls x → GivenBy give u s (l ∷ ls) x
      later-given m e g = record {
        before = g.before;
        label = g.label;
        next = g.next;
        step = later-step u s m l ls g.before g.label g.next e g.step;
        given = g.given;
      }

      by_part : (y : X) → give s l ≡ Some y → (m : State) → after u s l ≡ Some m → (Contains (along give u (Some m) ls) x → GivenBy give u m ls x)
          → (y ≡ x) ⊎ Contains (along give u (Some m) ls) x → GivenBy give u s (l ∷ ls) x
      by_part y is m e later (inl same) = record { before = s; label = l; next = m; step = first-step u s m l ls e; given = is ∙ ap Some same }
      by_part y is m e later (inr tail) = later-given m e (later tail)

      by_given : (o : Option X) → give s l ≡ o → (m : State) → after u s l ≡ Some m → (Contains (along give u (Some m) ls) x → GivenBy give u m ls x)
          → Contains (cons_option o (along give u (Some m) ls)) x → GivenBy give u s (l ∷ ls) x
      by_given None is m e later has = later-given m e (later has)
      by_given (Some y) is m e later has = by_part y is m e later (contains-cons y (along give u (Some m) ls) x has)

-- no thread comes or goes in a run
pub run-length : (u : Setup) (s t : State) (ls : List Label) → RunsTo u s ls t → length t.threads ≡ length s.threads
run-length u s t [] r = let same : s ≡ t = cc in ap (λ x. length x.threads) (sym same)
run-length u s t (l ∷ ls) r =
    let first = runs-uncons u s t l ls r in
    run-length u first.0 t ls first.2 ∙ after-length u s first.0 l first.1
