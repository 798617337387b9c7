use Rattle.report_text.proofs.Keeping.{keeps-none}
use Rattle.report_text.proofs.force.make_empty.Goals as goal

pub returns : goal.returns
returns c = keeps-none c.new.result c.new.ensures.empty
