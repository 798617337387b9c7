use Rattle.coherence.proofs.TellingNotes.{take_told, give_told, down_told, region_told, gone_told}
use Rattle.coherence.proofs.laws_of_notes.each_note_tells.Goals as goal

pub returns : goal.returns
returns c = record { takes = take_told; gives_up = give_told; lowers = down_told; changes = region_told; drops = gone_told }
