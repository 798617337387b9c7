-- How many pages blades gave up or lowered, and how many of them the switch has counted or is about to.
use Rattle.std.specs.Prelude.{ℕ, ◌+◌, ◌≤◌, List, [], ◌∷◌}
use Rattle.mind_base.specs.Cover.{sum_below}
use Rattle.mind_base.specs.declared.links.LinkKind.TheVariants.{Up}
use Rattle.mind_base.specs.declared.notes.Note.{Note}
use Rattle.mind_base.specs.declared.notes.Note.TheVariants as note
use Rattle.region_directory.specs.declared.entries.Entry.{Entry}
use Rattle.wire_msg.specs.declared.msgs.Msg.{Msg}
use Rattle.wire_msg.specs.declared.msgs.Msg.TheVariants.{Ack}
use Rattle.rack_net.specs.Net.{NetView}
use Rattle.rack_core.specs.Rack.{RackView}
use Rattle.rack_core.specs.Seen.{pending_on}

-- how many of the notes say that a page was given up or may be written no longer
abbrev pub released_by : Note → ℕ
released_by (note.Give blade page) = 1
released_by (note.Down blade page) = 1
released_by other = 0

abbrev pub released : List Note → ℕ
released [] = 0
released (n ∷ notes) = released_by n + released notes

-- the hits of all entries of a directory
abbrev pub hits_of : List Entry → ℕ
hits_of [] = 0
hits_of (entry ∷ entries) = entry.hits + hits_of entries

-- the counts of the acknowledgements among messages
abbrev pub count_in : Msg → ℕ
count_in (Ack number count) = count
count_in other = 0

abbrev pub ack_counts : List Msg → ℕ
ack_counts [] = 0
ack_counts (message ∷ messages) = count_in message + ack_counts messages

-- the counts of the acknowledgements under way, from the 8 blades that there may be
abbrev pub acks_under_way : NetView → ℕ
acks_under_way net = sum_below (λ c. ack_counts (pending_on net Up c)) 8

-- all hits, with those that are under way
abbrev pub all_hits : RackView → ℕ
all_hits rack = hits_of rack.switch.directory.entries + acks_under_way rack.net

-- each hit is of a page that the log says was given up or lowered
abbrev pub AreReleased : RackView → List Note → Type 0
AreReleased rack log = all_hits rack ≤ released log
