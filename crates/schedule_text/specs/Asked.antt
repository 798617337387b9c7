-- The commands of a schedule.
use Rattle.std.specs.Prelude.{Option, Some, None}
use Rattle.mind_base.specs.declared.events.Event.{Event}
use Rattle.mind_base.specs.declared.events.Event.TheVariants.{Ask}
use Rattle.mind_base.specs.declared.commands.Command.{Command}

-- the command that an event hands to the switch
abbrev pub command_of : Event → Option Command
command_of (Ask command) = Some command
command_of _ = None
