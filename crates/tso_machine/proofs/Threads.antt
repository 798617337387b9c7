-- No thread comes or goes.
use Rattle.std.proofs.Common.{◌≡◌, ℕ, ◌∙◌, ap, sym, refl, List, length, Option, Some, None, Bool, true, false, ◌==◌, if◌then◌else◌}
use Rattle.std.specs.List.{slice_get}
use Rattle.std.specs.Option.{option_map, option_and_then}
use Rattle.std.proofs.lemmas.List.{length-set, length-map}
use Rattle.std.proofs.lemmas.Option.{same_Some, option_and_then_some}
use Rattle.mind_base.specs.declared.commands.Command.{Command}
use Rattle.mind_base.specs.declared.commands.Command.TheVariants.{Map, Unmap, Protect, Migrate}
use Rattle.mind_base.specs.declared.commands.Outcome.{Outcome}
use Rattle.hart_effect.specs.Thread.{Thread}
use Rattle.tso_machine.specs.State.{Setup, State}
use Rattle.tso_machine.specs.Commands.{next_command, is_held_up, thread_outside, threads_after, taken_as, outcome_in_state, taken_unless_held_up}
use Rattle.hart_effect.specs.Deed.{Deed, Alone, Storing, executed, drain_deed}
use Rattle.mind_base.specs.Place.{place_of, granule_at}
use Rattle.tso_machine.specs.Step.{done_by, around_in, thread_off, after}
use Rattle.tso_machine.specs.declared.labels.Label.{Label}
use Rattle.tso_machine.specs.declared.labels.Label.TheVariants as label

done_by-length : (hart domain : ℕ) (s : State) (deed : Deed) → length (done_by hart domain s deed).threads ≡ length s.threads
done_by-length hart domain s (Alone thread) = length-set s.threads hart thread
done_by-length hart domain s (Storing thread store) = length-map _ (thread_off (granule_at (place_of domain store.address))) ∙ length-set s.threads hart thread

deed-length : (hart domain : ℕ) (s t : State) (o : Option Deed) → option_map (done_by hart domain s) o ≡ Some t → length t.threads ≡ length s.threads
deed-length hart domain s t None e = absurd (cc)
deed-length hart domain s t (Some deed) e = ap (λ x. length x.threads) (sym (same_Some _ _ e)) ∙ done_by-length hart domain s deed

threads_after-length : (command : Command) (threads : List Thread) → length (threads_after command threads) ≡ length threads
threads_after-length (Map span perm) threads = length-map threads (thread_outside span)
threads_after-length (Unmap span) threads = length-map threads (thread_outside span)
threads_after-length (Protect span perm) threads = refl
threads_after-length (Migrate range memory) threads = refl

taken-length : (s t : State) (index : ℕ) (command : Command) (outcome : Outcome) (waits : Bool)
    → (if waits then None else Some (taken_as command index outcome s)) ≡ Some t → length t.threads ≡ length s.threads
taken-length s t index command outcome true e = absurd (let no : None ≡ Some t = e in cc)
taken-length s t index command outcome false e = ap (λ x. length x.threads) (sym (same_Some _ _ e)) ∙ threads_after-length command s.threads

next-length : (setup : Setup) (s t : State) (index : ℕ) (next : Bool)
    → (if next then option_and_then (taken_unless_held_up setup s index) (slice_get setup.commands index) else None) ≡ Some t → length t.threads ≡ length s.threads
next-length setup s t index true e =
    option_and_then_some _ (slice_get setup.commands index) t e (λ command f g.
    taken-length s t index command (outcome_in_state setup s command) (is_held_up command setup.plan.threads s.threads) g)
next-length setup s t index false e = absurd (let no : None ≡ Some t = e in cc)

pub after-length : (setup : Setup) (s t : State) (l : Label) → after setup s l ≡ Some t → length t.threads ≡ length s.threads
after-length setup s t (label.Exec hart) e =
    option_and_then_some _ (slice_get setup.plan.threads hart) t e (λ plan f g.
    option_and_then_some _ (slice_get setup.images plan.image) t g (λ image h i.
    option_and_then_some _ (slice_get s.threads hart) t i (λ thread j k.
    deed-length hart plan.domain s t (executed image (around_in s hart plan.domain) thread) k)))
after-length setup s t (label.Drain hart) e =
    option_and_then_some _ (slice_get setup.plan.threads hart) t e (λ plan f g.
    option_and_then_some _ (slice_get s.threads hart) t g (λ thread j k.
    deed-length hart plan.domain s t (drain_deed thread) k))
after-length setup s t (label.Command index) e =
    option_and_then_some _ (next_command setup.commands s.taken) t e (λ n f g. next-length setup s t index (n == index) g)
