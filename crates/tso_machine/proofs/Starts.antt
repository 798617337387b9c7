-- The machine at its start stands for the state at the start.
use Rattle.std.proofs.Common.{◌≡◌, ◌∙◌, ap, sym, List, [], map}
use Rattle.flat_memory.specs.FlatMemory.{MemoryView, byte_in}
use Rattle.mind_base.specs.Permission.{permission_of}
use Rattle.mind_base.specs.declared.commands.Command.{Command}
use Rattle.mind_base.specs.declared.images.Image.{Image}
use Rattle.mind_base.specs.declared.plans.RackPlan.{RackPlan}
use Rattle.mind_base.specs.Plan.{image_place}
use Rattle.protect_table.specs.Protect.{ProtectView, permission_at}
use Rattle.hart_effect.specs.Thread.{Thread, first_thread}
use Rattle.tso_machine.specs.State.{Taken, start_state}
use Rattle.tso_machine.specs.Machine.{StandsFor}

pub stands-start : (plan copied : RackPlan) (images : List Image) (commands : List Command) (threads : List Thread) (memory : MemoryView) (perms : ProtectView) (taken : List Taken)
    → threads ≡ map (λ thread. first_thread (image_place plan.images thread.image)) plan.threads
    → byte_in memory ≡ (λ _ _. 0) → permission_at perms ≡ permission_of plan.maps → copied ≡ plan → taken ≡ []
    → StandsFor (record { setup = record { plan = copied; images = images; commands = commands }; threads = threads; memory = memory; perms = perms; taken = taken })
    (start_state (record { plan = copied; images = images; commands = commands }))
stands-start plan copied images commands threads memory perms taken at zero maps same none = record {
  threads = at ∙ ap (λ p. map (λ thread. first_thread (image_place p.images thread.image)) p.threads) (sym same);
  bytes = zero;
  perms = maps ∙ ap (λ p. permission_of p.maps) (sym same);
  taken = none;
}
