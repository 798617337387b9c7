use Rattle.std.proofs.Common.{ap, [], ◌++◌}
use Rattle.wire_msg.proofs.Messages.{spelled_apart}
use Rattle.wire_msg.proofs.laws.no_spelling_begins_another.Goals as goal

pub returns-clause-begins : goal.returns-clause-begins
returns-clause-begins c = λ a b x y p q e. spelled_apart a b x y p q e

pub returns-clause-shares : goal.returns-clause-shares
returns-clause-shares c = λ a b p q e. (spelled_apart a b [] [] p q (ap (λ s. s ++ []) e)).0
