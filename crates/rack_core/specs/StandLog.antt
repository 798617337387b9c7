-- The rack stands for a log: the labels in it are a run of the abstract machine, to a state that the rack stands for.
use Rattle.std.specs.Prelude.{◌≡◌, ℕ, List, [], slice_get, Some}
use Rattle.mind_base.specs.Page.{PageView}
use Rattle.mind_base.specs.declared.images.Image.{Image}
use Rattle.mind_base.specs.declared.notes.Note.{Note}
use Rattle.mind_base.specs.declared.plans.RackPlan.{RackPlan}
use Rattle.mind_base.specs.declared.plans.ThreadPlan.{ThreadPlan}
use Rattle.page_image.specs.PageImage.{PageImageView}
use Rattle.compute_blade.specs.Blade.{HartView, BladeView, hart_of}
use Rattle.coherence.specs.Facts.{IsCoherent}
use Rattle.coherence.specs.Held.{no_holdings}
use Rattle.tso_machine.specs.Replay.{Whole, labels, replay}
use Rattle.tso_machine.specs.State.{Setup, State, start_state}
use Rattle.rack_core.specs.Accesses.{AreAccessesHeld}
use Rattle.rack_core.specs.Rack.{RackView}
use Rattle.rack_core.specs.Released.{AreReleased}
use Rattle.rack_core.specs.Safe.{IsSound}
use Rattle.rack_core.specs.Seen.{seen}
use Rattle.rack_core.specs.StandRuns.{GoesWith}
use Rattle.rack_core.specs.Telling.{HasRoom, IsLogOf}

-- what a machine of a plan and of images is made from, which takes no commands
abbrev pub made_from : List Image → RackPlan → Setup
made_from images plan = record { plan = plan; images = images; commands = [] }

-- each hart stands at the blade that the plan has for it
abbrev pub AreHartsPlaced : RackView → Type 0
AreHartsPlaced rack = (c : ℕ) (blade : BladeView) (h : ℕ) (hart : HartView) (plan : ThreadPlan) → slice_get rack.blades c ≡ Some blade → hart_of blade h ≡ Some hart
    → slice_get rack.plan.threads h ≡ Some plan → plan.blade ≡ c

-- The rack is coherent with some newest images and sound, its harts are where the plan has them, and with these images
-- it stands for a state of a machine made of the same plan.
pub record StandsAt (images : List Image) (setup : Setup) (rack : RackView) (state : State) : Type 0 where
  pub flat : PageView → PageImageView
  pub coherent : IsCoherent (seen rack flat)
  pub sound : IsSound rack
  pub placed : AreHartsPlaced rack
  pub goes : GoesWith images setup rack flat state

-- The labels of the log, replayed from the start of a machine of the rack's plan and of these images, lead whole to a
-- state for which the rack stands. The log is lawful at every point, and leads to what is held and in force in the rack,
-- which has room for it. Each access noted is performed by a blade that holds its page, and each hit of the directory is of
-- a page that it says was given up or lowered.
pub record StandsForLog (images : List Image) (rack : RackView) (log : List Note) : Type 0 where
  pub state : State
  pub run : replay (made_from images rack.plan) (start_state (made_from images rack.plan)) (labels log) ≡ Whole state
  pub at : StandsAt images (made_from images rack.plan) rack state
  pub room : HasRoom rack.plan rack
  pub told : IsLogOf rack.plan rack log
  pub accesses : AreAccessesHeld (made_from images rack.plan) (start_state (made_from images rack.plan)) no_holdings log
  pub released : AreReleased rack log
