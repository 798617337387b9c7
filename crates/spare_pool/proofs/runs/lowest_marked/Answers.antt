use Rattle.std.proofs.Common.{◌*◌, length, refl, inl, inr, below_more}
use Rattle.std.proofs.lemmas.Bool.{cases_lt, false≢true}
use Rattle.spare_pool.proofs.Blocks.{no_run_below, no_run, inside_block, aligned_block}
use Rattle.spare_pool.proofs.runs.lowest_marked.Goals as goal

pub returns-then-is_marked-clause-found : goal.returns-then-is_marked-clause-found
returns-then-is_marked-clause-found c = record {
  aligned = aligned_block c.args.size c.loop-block.block c.requires;
  inside = inside_block c.args.size c.loop-block.block (length c.args.marks.now) c.requires c.loop-block-test.true;
  marked = c.if-is_marked.ensures.0 refl;
}

pub returns-then-is_marked-clause-lowest : goal.returns-then-is_marked-clause-lowest
returns-then-is_marked-clause-lowest c = λ other run.
    elim (cases_lt other (c.loop-block.block * c.args.size)) [
      | inl l ↦ absurd (no_run_below c.args.marks.now c.args.size c.loop-block.block other c.requires c.loop-block.invariant run l)
      | inr h ↦ h
    ]

pub loop-block-preserved : goal.loop-block-preserved
loop-block-preserved c = below_more _ _ c.loop-block.invariant (λ h. let e = c.if-is_marked.ensures.1 h in absurd (false≢true e))

pub returns-clause-none : goal.returns-clause-none
returns-clause-none c = λ first run. no_run c.args.marks.now c.args.size c.loop-block.block first c.requires c.loop-block.invariant c.loop-block-test.false run
