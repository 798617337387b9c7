-- How the text of a schedule is read.
use Rattle.std.specs.Prelude.{ℕ, ◌+◌, nat_le, List, [], ◌++◌, length, Result, Ok, Err, if◌then◌else◌}
use Rattle.std.specs.Str.Lines.{lines}
use Rattle.mind_base.specs.declared.plans.RackPlan.{RackPlan}
use Rattle.mind_base.specs.declared.events.Event.{Event}
use Rattle.schedule_text.specs.declared.faults.LineFault.{LineFault}
use Rattle.schedule_text.specs.declared.faults.LineFault.TheVariants as faults
use Rattle.schedule_text.specs.declared.sizes.Sizes.{Sizes}
use Rattle.plain_text.specs.Reading.{◌>>=◌, at_line, lines_read}
use Rattle.schedule_text.specs.Refusal.{Refusal}
use Rattle.schedule_text.specs.Size.{sizes_of}
use Rattle.schedule_text.specs.Entry.{entry_of}
use Rattle.schedule_text.specs.Round.{written_out}

-- the events before a line and those that it stands for, at most 1,000,000 in all
unfoldable pub with_line : Sizes → List Event → List ℕ → Result (List Event) LineFault
with_line sizes before text = do
  entry ← entry_of sizes text
  if nat_le (length before + length (written_out sizes.threads entry)) 1000000
      then Ok (before ++ written_out sizes.threads entry)
      else Err faults.Events

-- the same, where the line has this number
unfoldable pub after_line : Sizes → ℕ → List Event → List ℕ → Result (List Event) Refusal
after_line sizes line before text = at_line line (with_line sizes before text)

-- the events before these lines and those of the lines, the first of which has this number
abbrev pub read_from : Sizes → ℕ → List Event → List (List ℕ) → Result (List Event) Refusal
read_from sizes line before texts = lines_read (after_line sizes) line before texts

-- The events of a schedule for a rack, or the first line that is refused. Lines end with LF or with CR and LF; the last end may be missing.
unfoldable pub schedule_in : RackPlan → List ℕ → Result (List Event) Refusal
schedule_in plan bytes = read_from (sizes_of plan) 1 [] (lines bytes)
