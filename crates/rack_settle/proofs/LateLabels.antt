-- A log with a label one event too late is none of the events that asked for it.
use Rattle.std.proofs.Common.{◌≡◌, inl, ℕ, ◌∙◌, ap, sym, refl, subst, List, [], ◌∷◌, ◌++◌, append-nil, Some, arith}
use Rattle.std.specs.List.{AllByRecursion}
use Rattle.std.specs.Option.{option_to_list}
use Rattle.std.proofs.lemmas.List.{append_assoc}
use Rattle.mind_base.specs.declared.events.Event.TheVariants.{Step, Settle}
use Rattle.mind_base.specs.declared.notes.Note.{Note}
use Rattle.mind_base.specs.declared.notes.Note.TheVariants as note
use Rattle.mind_base.specs.declared.plans.RackPlan.{RackPlan}
use Rattle.coherence.specs.Held.{no_holdings, held_by}
use Rattle.tso_machine.specs.Replay.{Replayed, Whole, labels, replay}
use Rattle.tso_machine.specs.Scheduled.{step_label}
use Rattle.tso_machine.specs.State.{Setup, State, start_state}
use Rattle.tso_machine.specs.declared.labels.Label.{Label}
use Rattle.tso_machine.specs.declared.labels.Label.TheVariants as label
use Rattle.rack_core.specs.AtOnce.{ExecutesAtOnce}
use Rattle.rack_settle.specs.Numbered.{IsNoNumber, AreOfEvents}
use Rattle.rack_settle.specs.Prompt.{HappensInLog}
use Rattle.rack_settle.specs.Stretches.{HasSettledLabels}

-- a step, a settling, and a step again in which the label of the first one stands
abbrev pub late_log : List Note
late_log = note.Event 0 ∷ note.Event 1 ∷ note.Event 2 ∷ note.Exec 0 ∷ []

-- before the next number nothing is noted
none-before : (noted rest behind : List Note) (index : ℕ) → AllByRecursion IsNoNumber noted → (let ns : List Note = note.Event index ∷ behind in ns) ≡ noted ++ rest → noted ≡ []
none-before [] rest behind index all is = refl
none-before (n ∷ noted) rest behind index all is = let same : n ≡ note.Event index = cc in absurd (all.0 index same)

first-silent : (now after rest : List Note) → AreOfEvents 0 1 now → after ≡ note.Event 1 ∷ rest → late_log ≡ now ++ after → labels now ≡ []
first-silent now after rest (noted, later, all, end, is) next split =
    let whole : late_log ≡ note.Event 0 ∷ ((noted ++ later) ++ note.Event 1 ∷ rest) = split ∙ (λ i. is i ++ next i) in
    let tail : (let ns : List Note = note.Event 1 ∷ note.Event 2 ∷ note.Exec 0 ∷ [] in ns) ≡ (noted ++ later) ++ note.Event 1 ∷ rest = cc in
    let none = none-before noted (later ++ note.Event 1 ∷ rest) (note.Event 2 ∷ note.Exec 0 ∷ []) 1 all (tail ∙ append_assoc noted later (note.Event 1 ∷ rest)) in
    ap labels is ∙ (λ i. labels (none i ++ end i))

two-silent : (now after rest : List Note) → AreOfEvents 0 2 now → after ≡ note.Event 2 ∷ rest → late_log ≡ now ++ after → labels now ≡ []
two-silent now after rest (first, later, all, (second, behind, all_second, end, is_later), is) next split =
    let whole : late_log ≡ note.Event 0 ∷ ((first ++ later) ++ note.Event 2 ∷ rest) = split ∙ (λ i. is i ++ next i) in
    let tail : (let ns : List Note = note.Event 1 ∷ note.Event 2 ∷ note.Exec 0 ∷ [] in ns) ≡ (first ++ later) ++ note.Event 2 ∷ rest = cc in
    let none = none-before first (later ++ note.Event 2 ∷ rest) (note.Event 2 ∷ note.Exec 0 ∷ []) 1 all (tail ∙ append_assoc first later (note.Event 2 ∷ rest)) in
    let on : (let ns : List Note = note.Event 1 ∷ note.Event 2 ∷ note.Exec 0 ∷ [] in ns) ≡ note.Event 1 ∷ ((second ++ behind) ++ note.Event 2 ∷ rest) = tail ∙ (λ i. (none i ++ is_later i) ++ note.Event 2 ∷ rest) in
    let tail_on : (let ns : List Note = note.Event 2 ∷ note.Exec 0 ∷ [] in ns) ≡ (second ++ behind) ++ note.Event 2 ∷ rest = cc in
    let none_on = none-before second (behind ++ note.Event 2 ∷ rest) (note.Exec 0 ∷ []) 2 all_second (tail_on ∙ append_assoc second behind (note.Event 2 ∷ rest)) in
    ap labels is ∙ (λ i. labels (none i ++ is_later i)) ∙ (λ i. labels (none_on i ++ end i))

-- the state at the start of a log
starts-so : (setup : Setup) (before : List Note) (state : State) → before ≡ [] → replay setup (start_state setup) (labels before) ≡ Whole state → start_state setup ≡ state
starts-so setup before state none run = same _ _ (sym (ap (λ ns. replay setup (start_state setup) (labels ns)) none) ∙ run) where
  same : (s t : State) → (let x : Replayed = Whole s in x) ≡ Whole t → s ≡ t
  same s t e = cc

no-label : (l : Label) → (let ls : List Label = [] in ls) ≡ l ∷ [] → ⊥
no-label l e = cc

pub late_unsettled : (setup : Setup) (plan : RackPlan) → step_label setup (start_state setup).threads 0 ≡ Some (label.Exec 0) → HasSettledLabels setup plan (Step 0 ∷ Settle ∷ Step 0 ∷ []) late_log → ⊥
late_unsettled setup plan steps has =
    let its = has.stretches [] (Step 0 ∷ []) (Step 0 ∷ []) (record { split = refl; begins = inl refl; unsettled = (λ is. cc, tt); together = inl refl }) in
    let silent = two-silent its.now its.after _ its.own its.behind.4 (its.split ∙ ap (λ ns. ns ++ (its.now ++ its.after)) its.ahead) in
    let same = starts-so setup its.before its.state its.ahead its.run in
    no-label (label.Exec 0) (sym silent ∙ its.exact (omega arith) ∙ append-nil (option_to_list (step_label setup its.state.threads 0))
    ∙ ap (λ (s : State). option_to_list (step_label setup s.threads 0)) (sym same) ∙ ap option_to_list steps)

pub late_unprompted : (setup : Setup) → ExecutesAtOnce setup no_holdings (start_state setup) 0 → HappensInLog setup late_log 0 (Step 0) 2 → ⊥
late_unprompted setup executes its =
    let silent = first-silent its.now its.after _ its.own its.behind.4 (its.split ∙ ap (λ ns. ns ++ (its.now ++ its.after)) its.ahead) in
    let same = starts-so setup its.before its.state its.ahead its.run in
    let here : ExecutesAtOnce setup (held_by its.before) its.state 0 = subst (λ s. ExecutesAtOnce setup (held_by its.before) s 0) same
    (subst (λ ns. ExecutesAtOnce setup (held_by ns) (start_state setup) 0) (sym its.ahead) executes) in
    no-label (label.Exec 0) (sym silent ∙ its.prompt.executes here)
