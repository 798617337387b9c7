-- What befalls a frame of a wire.
use Rattle.std.specs.Prelude.{ℕ}
use Rattle.mind_base.specs.declared.links.LinkName.{LinkName}
use Rattle.mind_base.specs.declared.links.Side.{Side}
use Rattle.mind_base.specs.declared.events.Event.{Event}
use Rattle.mind_base.specs.declared.events.Event.TheVariants as events
use Rattle.schedule_text.specs.declared.fates.Fate.{Fate}
use Rattle.schedule_text.specs.declared.fates.Fate.TheVariants.{Deliver, Lose, Repeat}

-- the event in which this befalls the frame with this number on a wire
abbrev pub befalls : Fate → LinkName → Side → ℕ → Event
befalls Deliver link side k = events.Deliver link side k
befalls Lose link side k = events.Lose link side k
befalls Repeat link side k = events.Repeat link side k
