use Rattle.std.proofs.Common.{◌-◌, take, drop, sym, take-append-drop, arith}
use Rattle.std.proofs.lemmas.Grind.{common_steps}
use Rattle.mind_base.proofs.memory_sinks.MemSinkSink.write_all.Goals as goal

pub returns-clause-written : goal.returns-clause-written
returns-clause-written c = (
  grind (arith, common_steps),
  (
    take (c.self.inside.room - c.len.result) c.args.bytes.now,
    drop (c.self.inside.room - c.len.result) c.args.bytes.now,
    sym (take-append-drop (c.self.inside.room - c.len.result) c.args.bytes.now),
    grind (arith, common_steps),
  ),
)
