-- One order: what a run writes, what it does to each thread's buffer, and which commands it takes.
use Rattle.std.proofs.Common.{◌≡◌, ℕ, ◌∙◌, ap, sym, refl, subst, List, [], ◌∷◌, ◌++◌, Option, Some, None, append-nil, append_assoc}
use Rattle.std.specs.List.{cons_option, flat_map}
use Rattle.std.specs.Option.{option_map, option_to_list}
use Rattle.std.proofs.lemmas.Option.{same_Some}
use Rattle.std.proofs.lemmas.Grind.{flat_map-append}
use Rattle.std.proofs.lemmas.List.Elements.{filter_map-append}
use Rattle.mind_base.specs.Pending.{PendingView}
use Rattle.tso_machine.specs.State.{Setup, State}
use Rattle.tso_machine.specs.Step.{after}
use Rattle.tso_machine.specs.Replay.{Whole}
use Rattle.tso_machine.specs.Laws.{RunsTo, KeepsProgramOrder, KeepsCommandOrder, OnlyGrows, Agree, OneOrder}
use Rattle.tso_machine.specs.Orders.{executes, performs, along, program_order, memory_order, store_if, stores_of, effect_if, effects_of, span_if, spans_of, accepted_span, accepted_spans, writes_of}
use Rattle.tso_machine.specs.declared.labels.Label.{Label}
use Rattle.tso_machine.proofs.LawsCommands.{buffer_at}
use Rattle.tso_machine.proofs.LawsRuns.{runs-uncons, runs-rest}
use Rattle.tso_machine.proofs.LawsSeen.{sees-memory}
use Rattle.tso_machine.proofs.LawsSteps.{step-writes, step-keeps, step-takes}

-- ---- runs

same_state : (s t : State) → Whole s ≡ Whole t → s ≡ t
same_state s t e = cc

-- what a run gives begins with what its first label gives
pub along-cons : {X : Type 0} (give : State → Label → Option X) (u : Setup) (s m : State) (l : Label) (ls : List Label) → after u s l ≡ Some m
    → along give u (Some s) (l ∷ ls) ≡ option_to_list (give s l) ++ along give u (Some m) ls
along-cons {X = X} give u s m l ls e = ap (λ o. cons_option (give s l) (along give u o ls)) e ∙ by_given (give s l) (along give u (Some m) ls) where
  by_given : (o : Option X) (xs : List X) → cons_option o xs ≡ option_to_list o ++ xs
  by_given None xs = refl
  by_given (Some x) xs = refl

-- what a run gives is what its front gives, and then what the rest does
pub along-append : {X : Type 0} (give : State → Label → Option X) (u : Setup) (s m : State) (front rest : List Label) → RunsTo u s front m
    → along give u (Some s) (front ++ rest) ≡ along give u (Some s) front ++ along give u (Some m) rest
along-append give u s m [] rest r = ap (λ x. along give u (Some x) rest) (same_state s m r)
along-append give u s m (l ∷ front) rest r =
    let first = runs-uncons u s m l front r in
    let now = option_to_list (give s l) in
    along-cons give u s first.0 l (front ++ rest) first.1
    ∙ ap (λ xs. now ++ xs) (along-append give u first.0 m front rest first.2)
    ∙ sym (append_assoc now (along give u (Some first.0) front) (along give u (Some m) rest))
    ∙ ap (λ xs. xs ++ along give u (Some m) rest) (sym (along-cons give u s first.0 l front first.1))

-- what the run up to a step gives ends with what the step gives
pub along-step : {X : Type 0} (give : State → Label → Option X) (u : Setup) (s before : State) (front : List Label) (l : Label) → RunsTo u s front before
    → along give u (Some s) (front ++ l ∷ []) ≡ along give u (Some s) front ++ option_to_list (give before l)
along-step {X = X} give u s before front l r =
    along-append give u s before front (l ∷ []) r ∙ ap (λ xs. along give u (Some s) front ++ xs) (by_given (give before l) (after u before l)) where
      by_given : (o : Option X) (next : Option State) → cons_option o (along give u next []) ≡ option_to_list o
      by_given None next = refl
      by_given (Some x) next = refl

-- memory after a run is what took effect in memory order, behind what was there
pub run-writes : (u : Setup) (s t : State) (ls : List Label) → RunsTo u s ls t → t.writes ≡ s.writes ++ flat_map writes_of (memory_order u s ls)
run-writes u s t [] r = ap (λ x. x.writes) (sym (same_state s t r)) ∙ sym (append-nil s.writes)
run-writes u s t (l ∷ ls) r =
    let first = runs-uncons u s t l ls r in
    let m = first.0 in
    let now = option_to_list (performs u s l) in
    run-writes u m t ls first.2
    ∙ ap (λ ws. ws ++ flat_map writes_of (memory_order u m ls)) (step-writes u s m l first.1)
    ∙ append_assoc s.writes (flat_map writes_of now) (flat_map writes_of (memory_order u m ls))
    ∙ ap (λ ws. s.writes ++ ws) (sym (flat_map-append writes_of now (memory_order u m ls)))
    ∙ ap (λ es. s.writes ++ flat_map writes_of es) (sym (along-cons (performs u) u s m l ls first.1))

-- what two stretches of a run do to a buffer, one after the other
both-keep : {X : Type 0} (first put put' took took' middle last : List X) → first ++ put ≡ took ++ middle → middle ++ put' ≡ took' ++ last
    → first ++ (put ++ put') ≡ (took ++ took') ++ last
both-keep first put put' took took' middle last e g = sym (append_assoc first put put')
    ∙ ap (λ xs. xs ++ put') e ∙ append_assoc took middle put' ∙ ap (λ xs. took ++ xs) g ∙ sym (append_assoc took took' last)

-- a thread's buffer after a run, likewise
pub run-keeps : (u : Setup) (s t : State) (ls : List Label) → RunsTo u s ls t → (hart : ℕ) (first last : List PendingView)
    → buffer_at s.threads hart ≡ Some first → buffer_at t.threads hart ≡ Some last
    → first ++ stores_of hart (program_order u s ls) ≡ effects_of hart (memory_order u s ls) ++ last
run-keeps u s t [] r hart first last has gets =
    append-nil first ∙ same_Some _ _ (sym has ∙ ap (λ x. buffer_at x.threads hart) (same_state s t r) ∙ gets)
run-keeps u s t (l ∷ ls) r hart first last has gets =
    let step = runs-uncons u s t l ls r in
    let m = step.0 in
    let k = step-keeps u s m l step.1 hart first has in
    let put = option_to_list (executes u s l) in
    let took = option_to_list (performs u s l) in
    ap (λ es. first ++ stores_of hart es) (along-cons (executes u) u s m l ls step.1)
    ∙ ap (λ xs. first ++ xs) (filter_map-append (store_if hart) put (program_order u m ls))
    ∙ both-keep first (stores_of hart put) (stores_of hart (program_order u m ls)) (effects_of hart took) (effects_of hart (memory_order u m ls)) k.next last k.kept
    (run-keeps u m t ls step.2 hart k.next last k.gets gets)
    ∙ ap (λ xs. xs ++ last) (sym (filter_map-append (effect_if hart) took (memory_order u m ls)))
    ∙ ap (λ es. effects_of hart es ++ last) (sym (along-cons (performs u) u s m l ls step.1))

pub keeps_program_order : (u : Setup) (s t : State) (ls : List Label) → RunsTo u s ls t → KeepsProgramOrder u s t ls
keeps_program_order u s t ls r hart first last has gets = run-keeps u s t ls r hart first.buffer last.buffer
    (ap (option_map (λ thread. thread.buffer)) has) (ap (option_map (λ thread. thread.buffer)) gets)

-- the commands that a run takes, likewise
pub keeps_command_order : (u : Setup) (s t : State) (ls : List Label) → RunsTo u s ls t → KeepsCommandOrder u s t ls
keeps_command_order u s t [] r = record { later = []; taken = ap (λ x. x.taken) (sym (same_state s t r)) ∙ sym (append-nil s.taken); zeroed = refl }
keeps_command_order u s t (l ∷ ls) r =
    let step = runs-uncons u s t l ls r in
    let m = step.0 in
    let now = step-takes u s m l step.1 in
    let then = keeps_command_order u m t ls step.2 in
    let took = option_to_list (performs u s l) in record {
      later = now.later ++ then.later;
      taken = then.taken ∙ ap (λ ts. ts ++ then.later) now.taken ∙ append_assoc s.taken now.later then.later;
      zeroed = ap spans_of (along-cons (performs u) u s m l ls step.1)
          ∙ filter_map-append span_if took (memory_order u m ls)
          ∙ ap (λ xs. xs ++ spans_of (memory_order u m ls)) now.zeroed
          ∙ ap (λ xs. accepted_spans u.commands now.later ++ xs) then.zeroed
          ∙ sym (filter_map-append (accepted_span u.commands) now.later then.later);
    }

only_grows : (u : Setup) (s t : State) (ls : List Label) → RunsTo u s ls t → OnlyGrows u s t ls
only_grows u s t ls r front earlier moment =
    let P : List Label → Type 0 = λ xs. RunsTo u s xs t in
    let rest = moment.rest in (
      flat_map writes_of (memory_order u earlier rest),
      run-writes u earlier t rest (runs-rest u s earlier t front rest moment.reached (subst P moment.split r)),
    )

-- ---- the law

agrees : (setup : Setup) (state : State) → Agree setup state
agrees setup state one other domain a b _ _ address none nor =
    sees-memory state domain a address none ∙ sym (sees-memory state domain b address nor)

pub one_order : (setup : Setup) (start : State) (labels : List Label) → OneOrder setup start labels
one_order setup start labels front state moment = record {
  writes = run-writes setup start state front moment.reached;
  program = keeps_program_order setup start state front moment.reached;
  commands = keeps_command_order setup start state front moment.reached;
  grows = only_grows setup start state front moment.reached;
  agree = agrees setup state;
}
