use Rattle.coherence.specs.Moves.{split_into, merged_into}
use Rattle.coherence.proofs.SwitchReshape.{reshapes, splits, merges}
use Rattle.coherence.proofs.laws.regions_change_size.Goals as goal

pub returns-clause-splits : goal.returns-clause-splits
returns-clause-splits c = λ w page region lower upper safe is halves. reshapes w (split_into lower upper region w.regions) safe (splits w page region lower upper safe is halves)

pub returns-clause-merges : goal.returns-clause-merges
returns-clause-merges c = λ w range lower upper state safe halves can. reshapes w (merged_into range state w.regions) safe (merges w range lower upper state safe halves can)
