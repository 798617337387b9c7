-- Which label a step of a schedule stands for, where every access finds its page.
use Rattle.std.specs.Prelude.{ℕ, Bool, List, slice_get, Option, Some, None, if◌then◌else◌, option_and_then}
use Rattle.mind_base.specs.declared.ends.End.{End}
use Rattle.mind_base.specs.declared.ends.End.TheVariants.{Running, Exit, Fault}
use Rattle.mind_base.specs.declared.images.Image.{Image}
use Rattle.hart_effect.specs.Thread.{Thread}
use Rattle.tso_machine.specs.State.{Setup}
use Rattle.hart_effect.specs.Deed.{found, drains_first, holds_stores}
use Rattle.tso_machine.specs.declared.labels.Label.{Label}
use Rattle.tso_machine.specs.declared.labels.Label.TheVariants as label

abbrev pub running_label : Bool → ℕ → Label
running_label drains hart = if drains then label.Drain hart else label.Exec hart

abbrev pub label_at : End → Image → Thread → ℕ → ℕ → Option Label
label_at (Running pc) image thread queue hart = Some (running_label (drains_first (found image thread.regs pc) thread.buffer queue) hart)
label_at (Exit value) image thread queue hart = None
label_at (Fault kind value pc) image thread queue hart = None

-- The label of a step of thread hart: its drain where that must come first, else its execution; none
-- where it has ended.
abbrev pub step_label : Setup → List Thread → ℕ → Option Label
step_label setup threads hart =
    option_and_then (λ plan. option_and_then (λ image. option_and_then (λ thread.
    label_at thread.end image thread plan.queue hart)
    (slice_get threads hart)) (slice_get setup.images plan.image)) (slice_get setup.plan.threads hart)

-- the label of a drain of thread hart: none where it buffers nothing
abbrev pub drain_label : List Thread → ℕ → Option Label
drain_label threads hart =
    option_and_then (λ thread. if holds_stores thread.buffer then Some (label.Drain hart) else None) (slice_get threads hart)
