-- How a policy judges an entry of the directory.
use Rattle.std.specs.Prelude.{ℕ, Bool, true, false, ◌&&◌, ◌==◌, nat_lt, if◌then◌else◌}
use Rattle.bounded_split.specs.declared.loads.Load.{Load}
use Rattle.bounded_split.specs.declared.loads.Verdict.{Verdict}
use Rattle.bounded_split.specs.declared.loads.Verdict.TheVariants.{Split, Keep, Cold}

-- the threshold policy: a block of more than one page with more hits than the threshold is to be split; an entry
-- without hits is cold; any other stays
abbrev pub verdict_of : ℕ → Load → Verdict
verdict_of threshold load =
    if nat_lt 0 load.log && nat_lt threshold load.hits then Split else (if load.hits == 0 then Cold else Keep)

abbrev pub is_split : Verdict → Bool
is_split Split = true
is_split Keep = false
is_split Cold = false

abbrev pub is_cold : Verdict → Bool
is_cold Split = false
is_cold Keep = false
is_cold Cold = true
