-- What a command does that is taken: it leaves the threads' buffers alone, and makes its span zero where it is
-- an accepted map.
use Rattle.std.proofs.Common.{◌≡◌, ℕ, zero, suc, Bool, true, false, cond, ◌∙◌, ap, sym, refl, List, [], ◌∷◌, ◌++◌, Option, Some, None, is_some, append-nil}
use Rattle.std.specs.Prelude.{◌==◌}
use Rattle.std.specs.List.{slice_get, cons_option, flat_map}
use Rattle.std.specs.Option.{option_map, option_and_then, option_to_list}
use Rattle.std.proofs.lemmas.Option.{same_Some, none-some, option_and_then_some}
use Rattle.mind_base.specs.Pending.{PendingView}
use Rattle.mind_base.specs.Span.{SpanView}
use Rattle.mind_base.specs.declared.commands.Command.{Command}
use Rattle.mind_base.specs.declared.commands.Command.TheVariants.{Map, Unmap, Protect, Migrate}
use Rattle.mind_base.specs.declared.commands.Outcome.{Outcome}
use Rattle.mind_base.specs.declared.commands.Outcome.TheVariants as outcome
use Rattle.mind_base.specs.declared.commands.Perm.{Perm}
use Rattle.hart_effect.specs.Thread.{Thread}
use Rattle.tso_machine.specs.State.{Setup, State, Write, Taken}
use Rattle.tso_machine.specs.Commands.{threads_outside, threads_after, writes_after, is_fine, is_held_up, taken_as, outcome_in_state, taken_unless_held_up, next_command}
use Rattle.tso_machine.specs.Step.{after}
use Rattle.tso_machine.specs.Orders.{Zeroed, mapped_span, zeroed_in_state, zeroes, span_if, spans_of, accepted_span, accepted_spans, writes_of}
use Rattle.tso_machine.specs.declared.labels.Label.TheVariants as label
use Rattle.tso_machine.proofs.LawsLists.{made-picked}

-- a command is taken by a label
pub record Commanded (u : Setup) (s m : State) (index : ℕ) : Type 0 where
  pub command : Command
  pub named : slice_get u.commands index ≡ Some command
  pub leads : taken_as command index (outcome_in_state u s command) s ≡ m
  pub zeroed : zeroes u s index ≡ zeroed_in_state u s command

pub commanded : (u : Setup) (s m : State) (index : ℕ) → after u s (label.Command index) ≡ Some m → Commanded u s m index
commanded u s m index e = option_and_then_some _ (next_command u.commands s.taken) m e (λ next is g. by_number (next == index) g) where
  by_hold : (b : Bool) (command : Command) → slice_get u.commands index ≡ Some command
      → cond b None (Some (taken_as command index (outcome_in_state u s command) s)) ≡ Some m → Commanded u s m index
  by_hold true command named k = absurd (none-some m k)
  by_hold false command named k = record {
    command = command;
    named = named;
    leads = same_Some _ _ k;
    zeroed = ap (λ o. cond (is_some o) (option_and_then (zeroed_in_state u s) (slice_get u.commands index)) None) e
        ∙ ap (option_and_then (zeroed_in_state u s)) named;
  }

  by_number : (b : Bool) → cond b (option_and_then (taken_unless_held_up u s index) (slice_get u.commands index)) None ≡ Some m → Commanded u s m index
  by_number true g = option_and_then_some _ (slice_get u.commands index) m g (λ command named k.
      by_hold (is_held_up command u.plan.threads s.threads) command named k)
  by_number false g = absurd (none-some m g)

-- ---- buffers

-- the buffer of thread number hart
abbrev pub buffer_at : List Thread → ℕ → Option (List PendingView)
buffer_at threads hart = option_map (λ thread. thread.buffer) (slice_get threads hart)

outside-kept : (span : SpanView) (threads : List Thread) (hart : ℕ) → buffer_at (threads_outside span threads) hart ≡ buffer_at threads hart
outside-kept span [] hart = refl
outside-kept span (t ∷ threads) zero = refl
outside-kept span (t ∷ threads) (suc hart) = outside-kept span threads hart

taken-kept : (command : Command) (threads : List Thread) (hart : ℕ) → buffer_at (threads_after command threads) hart ≡ buffer_at threads hart
taken-kept (Map span perm) threads hart = outside-kept span threads hart
taken-kept (Unmap span) threads hart = outside-kept span threads hart
taken-kept (Protect span perm) threads hart = refl
taken-kept (Migrate range memory) threads hart = refl

pub command-kept : {u : Setup} {s m : State} {index : ℕ} (c : Commanded u s m index) (hart : ℕ) → buffer_at m.threads hart ≡ buffer_at s.threads hart
command-kept {s = s} c hart = ap (λ x. buffer_at x.threads hart) (sym c.leads) ∙ taken-kept c.command s.threads hart

-- ---- memory

taken-writes : (fine : Bool) (command : Command) (writes : List Write) → cond fine (writes_after command writes) writes
    ≡ writes ++ flat_map writes_of (option_to_list (option_map Zeroed (cond fine (mapped_span command) None)))
taken-writes false command writes = sym (append-nil writes)
taken-writes true (Map span perm) writes = refl
taken-writes true (Unmap span) writes = sym (append-nil writes)
taken-writes true (Protect span perm) writes = sym (append-nil writes)
taken-writes true (Migrate range memory) writes = sym (append-nil writes)

pub command-writes : {u : Setup} {s m : State} {index : ℕ} (c : Commanded u s m index)
    → m.writes ≡ s.writes ++ flat_map writes_of (option_to_list (option_map Zeroed (zeroes u s index)))
command-writes {u = u} {s = s} c = ap (λ x. x.writes) (sym c.leads)
    ∙ taken-writes (is_fine (outcome_in_state u s c.command)) c.command s.writes
    ∙ ap (λ o. s.writes ++ flat_map writes_of (option_to_list (option_map Zeroed o))) (sym c.zeroed)

-- ---- the order of the commands

-- what is noted of a command that is taken: its number, and how it ends
abbrev pub entry_of : Setup → State → ℕ → Command → Taken
entry_of u s index command = record { index = index; outcome = outcome_in_state u s command }

pub command-taken : {u : Setup} {s m : State} {index : ℕ} (c : Commanded u s m index) → m.taken ≡ s.taken ++ entry_of u s index c.command ∷ []
command-taken c = ap (λ x. x.taken) (sym c.leads)

-- what it makes zero is its span where it is an accepted map
pub command-spans : {u : Setup} {s m : State} {index : ℕ} (c : Commanded u s m index)
    → spans_of (option_to_list (option_map Zeroed (zeroes u s index))) ≡ accepted_spans u.commands (entry_of u s index c.command ∷ [])
command-spans {u = u} {s = s} {index = index} c =
    made-picked span_if Zeroed (λ span. refl) (zeroes u s index)
    ∙ ap option_to_list c.zeroed
    ∙ sym (ap (λ o. option_to_list (cond (is_fine (outcome_in_state u s c.command)) (option_and_then mapped_span o) None)) c.named)
    ∙ alone (accepted_span u.commands (entry_of u s index c.command)) where
      alone : (o : Option SpanView) → option_to_list o ≡ cons_option o []
      alone None = refl
      alone (Some span) = refl

-- what becomes zero is the span of an accepted map
mapped-accepted : (result : Outcome) (command : Command) (span : SpanView) → cond (is_fine result) (mapped_span command) None ≡ Some span
    → (result ≡ outcome.Fine) × (perm : Perm) × (command ≡ Map span perm)
mapped-accepted outcome.Fine (Map s perm) span e = (refl, perm, ap (λ x. Map x perm) (same_Some _ _ e))
mapped-accepted outcome.Fine (Unmap s) span e = absurd (none-some span e)
mapped-accepted outcome.Fine (Protect s perm) span e = absurd (none-some span e)
mapped-accepted outcome.Fine (Migrate range memory) span e = absurd (none-some span e)
mapped-accepted outcome.Unplaced command span e = absurd (none-some span e)
mapped-accepted outcome.Overlap command span e = absurd (none-some span e)
mapped-accepted outcome.Unmapped command span e = absurd (none-some span e)
mapped-accepted outcome.Slots command span e = absurd (none-some span e)
mapped-accepted outcome.Same command span e = absurd (none-some span e)
mapped-accepted outcome.Room command span e = absurd (none-some span e)

pub command-accepted : {u : Setup} {s m : State} {index : ℕ} (c : Commanded u s m index) (span : SpanView) → zeroes u s index ≡ Some span
    → (perm : Perm) × (slice_get u.commands index ≡ Some (Map span perm)) × (m.taken ≡ s.taken ++ record { index = index; outcome = outcome.Fine } ∷ [])
command-accepted {u = u} {s = s} {index = index} c span e =
    let a = mapped-accepted (outcome_in_state u s c.command) c.command span (sym c.zeroed ∙ e) in
    (a.1, c.named ∙ ap Some a.2, command-taken c ∙ ap (λ o. s.taken ++ record { index = index; outcome = o } ∷ []) a.0)
