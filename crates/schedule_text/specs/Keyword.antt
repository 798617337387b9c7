-- The first words of lines, and how many words such lines have.
use Rattle.std.specs.Prelude.{ℕ, List, codes, Result, Ok, Err, if◌then◌else◌}
use Rattle.std.specs.Str.{bytes_eq}
use Rattle.schedule_text.specs.declared.faults.LineFault.{LineFault}
use Rattle.schedule_text.specs.declared.faults.LineFault.TheVariants as faults
use Rattle.schedule_text.specs.declared.keywords.Keyword.{Keyword}
use Rattle.schedule_text.specs.declared.keywords.Keyword.TheVariants.{Step, Drain, Evict, Frame, Resend, Epoch, Settle, Map, Protect, Unmap, Migrate, Run}
use Rattle.schedule_text.specs.declared.fates.Fate.TheVariants.{Deliver, Lose, Repeat}

unfoldable pub keyword_of : List ℕ → Result Keyword LineFault
keyword_of word =
    if bytes_eq word (codes "step") then Ok Step else
    if bytes_eq word (codes "drain") then Ok Drain else
    if bytes_eq word (codes "evict") then Ok Evict else
    if bytes_eq word (codes "deliver") then Ok (Frame Deliver) else
    if bytes_eq word (codes "lose") then Ok (Frame Lose) else
    if bytes_eq word (codes "repeat") then Ok (Frame Repeat) else
    if bytes_eq word (codes "resend") then Ok Resend else
    if bytes_eq word (codes "epoch") then Ok Epoch else
    if bytes_eq word (codes "settle") then Ok Settle else
    if bytes_eq word (codes "map") then Ok Map else
    if bytes_eq word (codes "protect") then Ok Protect else
    if bytes_eq word (codes "unmap") then Ok Unmap else
    if bytes_eq word (codes "migrate") then Ok Migrate else
    if bytes_eq word (codes "run") then Ok Run else
    Err faults.Word

-- the first word counts, and most lines name one thing behind it
abbrev pub words_wanted : Keyword → ℕ
words_wanted Epoch = 1
words_wanted Settle = 1
words_wanted Evict = 4
words_wanted (Frame fate) = 3
words_wanted Map = 5
words_wanted Protect = 5
words_wanted Unmap = 4
words_wanted Migrate = 5
words_wanted _ = 2
