-- Which line of a schedule is refused and for what.
use Rattle.plain_text.specs.Reading.{FirstFault}
use Rattle.schedule_text.specs.declared.faults.LineFault.{LineFault}

abbrev pub Refusal : Type 0
Refusal = FirstFault LineFault
