-- What a line says.
use Rattle.std.specs.Prelude.{ℕ, ◌||◌, ◌==◌, not, List, length, slice_index, Result, Ok, Err, if◌then◌else◌}
use Rattle.mind_base.specs.declared.events.Event.{Event}
use Rattle.mind_base.specs.declared.events.Event.TheVariants as events
use Rattle.mind_base.specs.declared.commands.Perm.{Perm}
use Rattle.mind_base.specs.declared.commands.Command.{Command}
use Rattle.mind_base.specs.declared.commands.Command.TheVariants as commands
use Rattle.mind_base.specs.Span.{SpanView}
use Rattle.schedule_text.specs.declared.faults.LineFault.{LineFault}
use Rattle.schedule_text.specs.declared.faults.LineFault.TheVariants as faults
use Rattle.schedule_text.specs.declared.keywords.Keyword.{Keyword}
use Rattle.schedule_text.specs.declared.keywords.Keyword.TheVariants as keywords
use Rattle.schedule_text.specs.declared.fates.Fate.{Fate}
use Rattle.schedule_text.specs.declared.entries.Entry.{Entry}
use Rattle.schedule_text.specs.declared.entries.Entry.TheVariants.{Nothing, One, Rounds}
use Rattle.schedule_text.specs.declared.sizes.Sizes.{Sizes}
use Rattle.plain_text.specs.Blank.{is_text}
use Rattle.plain_text.specs.Reading.{◌>>=◌}
use Rattle.schedule_text.specs.Word.{words_of, word_numbered}
use Rattle.schedule_text.specs.Argument.{number_up_to, number_below, perm_named, page_on, span_on, range_on}
use Rattle.schedule_text.specs.Link.{link_named, wire_named}
use Rattle.schedule_text.specs.Keyword.{keyword_of, words_wanted}
use Rattle.schedule_text.specs.Fate.{befalls}

-- a wire, and the number of a frame on it
unfoldable pub frame_event : Sizes → Fate → List ℕ → Result Event LineFault
frame_event sizes fate line = do
  wire ← wire_named sizes (word_numbered 1 line)
  k ← number_up_to 4294967295 (word_numbered 2 line)
  Ok (befalls fate wire.0 wire.1 k)

-- pages and a permission
unfoldable pub permission_on : List ℕ → Result (SpanView × Perm) LineFault
permission_on line = do
  span ← span_on line
  perm ← perm_named (word_numbered 4 line)
  Ok (span, perm)

-- a command is one event
abbrev pub one_command : Command → Entry
one_command command = One (events.Ask command)

-- what the arguments say behind a first word
unfoldable pub said : Sizes → Keyword → List ℕ → Result Entry LineFault
said sizes keywords.Step line = number_below sizes.threads (word_numbered 1 line) >>= (λ hart. Ok (One (events.Step hart)))
said sizes keywords.Drain line = number_below sizes.threads (word_numbered 1 line) >>= (λ hart. Ok (One (events.Drain hart)))
said sizes keywords.Evict line = do
  blade ← number_below sizes.blades (word_numbered 1 line)
  page ← page_on 2 line
  Ok (One (events.Evict blade page))
said sizes (keywords.Frame fate) line = frame_event sizes fate line >>= (λ event. Ok (One event))
said sizes keywords.Resend line = link_named sizes (word_numbered 1 line) >>= (λ link. Ok (One (events.Resend link)))
said sizes keywords.Epoch line = Ok (One events.Epoch)
said sizes keywords.Settle line = Ok (One events.Settle)
said sizes keywords.Map line = permission_on line >>= (λ given. Ok (one_command (commands.Map given.0 given.1)))
said sizes keywords.Protect line = permission_on line >>= (λ given. Ok (one_command (commands.Protect given.0 given.1)))
said sizes keywords.Unmap line = span_on line >>= (λ span. Ok (one_command (commands.Unmap span)))
said sizes keywords.Migrate line = do
  range ← range_on line
  memory ← number_below sizes.memories (word_numbered 4 line)
  Ok (one_command (commands.Migrate range memory))
said sizes keywords.Run line = number_up_to 1000000 (word_numbered 1 line) >>= (λ count. Ok (Rounds count))

-- the first word is known, the number of words is its own, and the arguments are read from left to right
unfoldable pub worded : Sizes → List ℕ → Result Entry LineFault
worded sizes line = do
  keyword ← keyword_of (word_numbered 0 line)
  if length (words_of line) == words_wanted keyword then said sizes keyword line else Err faults.Count

-- Every line is a text. One without words, or with a first word that begins with #, says nothing.
unfoldable pub entry_of : Sizes → List ℕ → Result Entry LineFault
entry_of sizes line =
    if not (is_text line) then Err faults.Text
    else if length (word_numbered 0 line) == 0 || slice_index (word_numbered 0 line) 0 == 35 then Ok Nothing
    else worded sizes line
