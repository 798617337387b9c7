-- A text of instructions, or an image, read and judged alone.
use Rattle.std.specs.Prelude.{ℕ, List, length, Result, Ok, Err, if◌then◌else◌}
use Rattle.plain_text.specs.Reading.{FirstFault}
use Rattle.rack_file.specs.Images.{is_image_length}
use Rattle.rv32_text.specs.Image.{assembled}
use Rattle.rv32_text.specs.declared.faults.TextFault.{TextFault}
use Rattle.mind_inputs.specs.Inputs.{Seen, Absent, Long, Bytes, Ending, Missing, Refused}
use Rattle.mind_inputs.specs.declared.refusals.Refusal.TheVariants.{ImageLength, ImageLong, TextRefused, TextLong}

abbrev pub text_answer : Result (List ℕ) (FirstFault TextFault) → Result (List ℕ) Ending
text_answer (Ok image) = Ok image
text_answer (Err fault) = Err (Refused (TextRefused fault.line fault.what))

-- the image that the text stands for
abbrev pub text_seen_judged : Seen → Result (List ℕ) Ending
text_seen_judged Absent = Err Missing
text_seen_judged Long = Err (Refused TextLong)
text_seen_judged (Bytes bytes) = text_answer (assembled bytes)

-- the bytes of an image, wherever it is to stand; it is the first and the only one
abbrev pub words_seen_judged : Seen → Result (List ℕ) Ending
words_seen_judged Absent = Err Missing
words_seen_judged Long = Err (Refused (ImageLong 0))
words_seen_judged (Bytes bytes) = if is_image_length (length bytes) then Ok bytes else Err (Refused (ImageLength 0))
