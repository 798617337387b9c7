-- Which events a rack can take.
use Rattle.std.specs.Prelude.{◌<◌}
use Rattle.mind_base.specs.declared.plans.RackPlan.{RackPlan}
use Rattle.mind_base.specs.declared.links.LinkName.{LinkName}
use Rattle.mind_base.specs.declared.events.Event.{Event}
use Rattle.mind_base.specs.declared.events.Event.TheVariants.{Step, Drain, Evict, Deliver, Lose, Repeat, Resend, Epoch, Ask, Settle}
use Rattle.mind_base.specs.declared.commands.Command.{Command}
use Rattle.mind_base.specs.declared.commands.Command.TheVariants.{Map, Unmap, Protect, Migrate}
use Rattle.schedule_text.specs.declared.sizes.Sizes.{Sizes}
use Rattle.schedule_text.specs.declared.entries.Entry.{Entry}
use Rattle.schedule_text.specs.declared.entries.Entry.TheVariants.{Nothing, One, Rounds}
use Rattle.schedule_text.specs.Size.{sizes_of}
use Rattle.schedule_text.specs.Link.{ends_of}

-- there is a blade at the link's other end
abbrev pub IsLinkIn : Sizes → LinkName → Type 0
IsLinkIn sizes link = link.number < ends_of sizes link.kind

-- a block moves to a memory blade that is there
abbrev pub IsCommandIn : Sizes → Command → Type 0
IsCommandIn sizes (Map span perm) = Unit {0}
IsCommandIn sizes (Unmap span) = Unit {0}
IsCommandIn sizes (Protect span perm) = Unit {0}
IsCommandIn sizes (Migrate range memory) = memory < sizes.memories

-- the thread, the blade, the link or the memory blade of an event is there
abbrev pub IsEventIn : Sizes → Event → Type 0
IsEventIn sizes (Step hart) = hart < sizes.threads
IsEventIn sizes (Drain hart) = hart < sizes.threads
IsEventIn sizes (Evict blade page) = blade < sizes.blades
IsEventIn sizes (Deliver link side k) = IsLinkIn sizes link
IsEventIn sizes (Lose link side k) = IsLinkIn sizes link
IsEventIn sizes (Repeat link side k) = IsLinkIn sizes link
IsEventIn sizes (Resend link) = IsLinkIn sizes link
IsEventIn sizes Epoch = Unit {0}
IsEventIn sizes (Ask command) = IsCommandIn sizes command
IsEventIn sizes Settle = Unit {0}

abbrev pub IsEntryIn : Sizes → Entry → Type 0
IsEntryIn sizes Nothing = Unit {0}
IsEntryIn sizes (One event) = IsEventIn sizes event
IsEntryIn sizes (Rounds count) = Unit {0}

-- the event is one of this rack's
abbrev pub IsEventOf : RackPlan → Event → Type 0
IsEventOf plan event = IsEventIn (sizes_of plan) event
