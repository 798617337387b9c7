-- Facts of tests and options that std does not name.
use Rattle.std.proofs.Common.{◌≡◌, Some}

-- what stands in two options that are one is one
pub some-is : {A : Type 0} (a b : A) → Some a ≡ Some b → a ≡ b
some-is a b e = (cc)
