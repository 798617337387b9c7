-- What the arguments of a line stand for, from left to right.
use Rattle.std.specs.Prelude.{ℕ, ◌+◌, ◌%◌, ◌^◌, ◌||◌, ◌==◌, nat_lt, List, codes, Result, Ok, Err, if◌then◌else◌}
use Rattle.std.specs.Str.{bytes_eq}
use Rattle.mind_base.specs.declared.numbers.NumberFault.{NumberFault}
use Rattle.mind_base.specs.declared.numbers.NumberFault.TheVariants.{NotANumber, TooLarge}
use Rattle.mind_base.specs.declared.commands.Perm.{Perm}
use Rattle.mind_base.specs.declared.commands.Perm.TheVariants as perms
use Rattle.mind_base.specs.Number.{number_of}
use Rattle.mind_base.specs.Page.{PageView}
use Rattle.mind_base.specs.Span.{SpanView}
use Rattle.mind_base.specs.Range.{RangeView}
use Rattle.schedule_text.specs.declared.faults.LineFault.{LineFault}
use Rattle.schedule_text.specs.declared.faults.LineFault.TheVariants as faults
use Rattle.plain_text.specs.Reading.{◌>>=◌}
use Rattle.schedule_text.specs.Word.{word_numbered}

-- a number that is too large is out of its range
abbrev pub as_line_number : Result ℕ NumberFault → Result ℕ LineFault
as_line_number (Ok n) = Ok n
as_line_number (Err (NotANumber place)) = Err faults.Number
as_line_number (Err (TooLarge place)) = Err faults.Range

-- a number from 0 to the limit
unfoldable pub number_up_to : ℕ → List ℕ → Result ℕ LineFault
number_up_to limit word = as_line_number (number_of word limit)

-- a number below the bound
unfoldable pub number_below : ℕ → List ℕ → Result ℕ LineFault
number_below bound word = do
  number ← number_up_to 4294967295 word
  if nat_lt number bound then Ok number else Err faults.Range

-- r or rw
unfoldable pub perm_named : List ℕ → Result Perm LineFault
perm_named word =
    if bytes_eq word (codes "r") then Ok perms.R else if bytes_eq word (codes "rw") then Ok perms.Rw else Err faults.Perm

-- a domain and a page number
unfoldable pub page_on : ℕ → List ℕ → Result PageView LineFault
page_on from line = do
  domain ← number_up_to 15 (word_numbered from line)
  number ← number_up_to 1048575 (word_numbered (from + 1) line)
  Ok (record { domain = domain; number = number })

-- a domain, the first page, and 1 to 4096 pages that lie in the domain
unfoldable pub span_on : List ℕ → Result SpanView LineFault
span_on line = do
  page ← page_on 1 line
  pages ← number_up_to 4096 (word_numbered 3 line)
  if pages == 0 || nat_lt 1048576 (page.number + pages)
      then Err faults.Range
      else Ok (record { domain = page.domain; base = page.number; pages = pages })

-- a domain, the first page, and the logarithm of the number of pages, of which the first is a multiple
unfoldable pub range_on : List ℕ → Result RangeView LineFault
range_on line = do
  page ← page_on 1 line
  log ← number_up_to 9 (word_numbered 3 line)
  if page.number % 2 ^ log == 0
      then Ok (record { domain = page.domain; base = page.number; log = log })
      else Err faults.Range
