-- The state of the machine: threads with their registers and buffers over one flat memory for each domain.
use Rattle.std.specs.Prelude.{ℕ, List, [], map}
use Rattle.mind_base.specs.Span.{SpanView}
use Rattle.mind_base.specs.declared.commands.Command.{Command}
use Rattle.mind_base.specs.declared.commands.Outcome.{Outcome}
use Rattle.mind_base.specs.declared.images.Image.{Image}
use Rattle.mind_base.specs.declared.plans.MapPlan.{MapPlan}
use Rattle.mind_base.specs.declared.plans.RackPlan.{RackPlan}
use Rattle.mind_base.specs.declared.plans.ThreadPlan.{ThreadPlan}
use Rattle.mind_base.specs.Plan.{image_place}
use Rattle.hart_effect.specs.Thread.{Thread, first_thread}

-- what a machine is made from, which never changes
pub record Setup : Type 0 where
  pub plan : RackPlan
  pub images : List Image
  pub commands : List Command

-- one write to memory: a byte at an address of a domain, or zeros over a run of pages
pub data Write : Type 0 where
  Byte : (domain address value : ℕ) → Write
  Zeros : (span : SpanView) → Write

-- a command that was taken, by its number, and how it ended
pub record Taken : Type 0 where
  pub index : ℕ
  pub outcome : Outcome

-- the threads; the writes to memory, the permissions and the commands in the order in which they took effect
pub record State : Type 0 where
  pub threads : List Thread
  pub writes : List Write
  pub perms : List MapPlan
  pub taken : List Taken

-- the state at the start: each thread at its image, the maps of the plan, and nothing written
abbrev pub start_state : Setup → State
start_state setup = record {
  threads = map (λ (t : ThreadPlan). first_thread (image_place setup.plan.images t.image)) setup.plan.threads;
  writes = [];
  perms = setup.plan.maps;
  taken = [];
}
