use Rattle.std.proofs.Common.{◌<◌, length, ap, ◌∙◌, arith}
use Rattle.region_directory.specs.Directory.{DirectoryView}
use Rattle.region_directory.specs.Entry.{with_busy}
use Rattle.region_directory.specs.declared.entries.Entry.{Entry}
use Rattle.invalidate_multicast.specs.Transition.{after_answer}
use Rattle.invalidate_multicast.proofs.FirstLemmas.{changed-more}
use Rattle.invalidate_multicast.proofs.transitions.answer.Goals as goal

pub loop-i-preserved : goal.loop-i-preserved
loop-i-preserved c = record {
  entries =
      let f = λ (e : Entry). with_busy (after_answer c.args.number c.args.blade e.busy) e in
      let within : c.loop-i.i < length c.args.directory.now.entries = omega (arith, c.len-count.ensures.len) in
      ap (λ (v : DirectoryView). v.entries) c.set_busy.ensures.changed ∙
      changed-more f (with_busy c.answered.result) c.args.directory.now.entries c.loop-i.directory.entries c.loop-i.i c.entry-entry.result within c.loop-i.invariant.entries c.entry-entry.ensures.entry (ap (λ b. with_busy b c.entry-entry.result) c.answered.ensures);
  slots = ap (λ (v : DirectoryView). v.slots) c.set_busy.ensures.changed ∙ c.loop-i.invariant.slots;
  most = ap (λ (v : DirectoryView). v.most) c.set_busy.ensures.changed ∙ c.loop-i.invariant.most;
  count = c.set_busy.ensures.count ∙ c.loop-i.invariant.count;
  valid = c.set_busy.ensures.valid;
}
