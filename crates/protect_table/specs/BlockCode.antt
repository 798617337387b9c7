-- A block as a list of numbers, from which it is read back.
use Rattle.std.specs.Prelude.{◌≡◌, ℕ, zero, suc, List, [], ◌∷◌, refl}
use Rattle.std.specs.Coded.{Coded, code_by, coded_list, coded_ℕ}
use Rattle.std.proofs.Common.{◌∙◌, ap}
use Rattle.mind_base.specs.Cover.{level}
use Rattle.mind_base.specs.declared.commands.Perm.TheVariants.{No, R, Rw}
use Rattle.protect_table.specs.Block.{BlockView, whole, halves}

-- the level of each block of one permission, and 3 behind the two halves of a block
abbrev pub block_words : BlockView → List ℕ → List ℕ
block_words (whole perm) words = level perm ∷ words
block_words (halves lower upper) words = block_words lower (block_words upper (3 ∷ words))

-- the blocks that stand after a word, the last one first
abbrev pub after_word : ℕ → List BlockView → List BlockView
after_word zero blocks = whole No ∷ blocks
after_word (suc zero) blocks = whole R ∷ blocks
after_word (suc (suc zero)) blocks = whole Rw ∷ blocks
after_word (suc (suc (suc n))) [] = []
after_word (suc (suc (suc n))) (upper ∷ []) = upper ∷ []
after_word (suc (suc (suc n))) (upper ∷ (lower ∷ blocks)) = halves lower upper ∷ blocks

abbrev pub after_words : List ℕ → List BlockView → List BlockView
after_words [] blocks = blocks
after_words (word ∷ words) blocks = after_words words (after_word word blocks)

abbrev pub first_block : List BlockView → BlockView
first_block [] = whole No
first_block (block ∷ blocks) = block

pub after_words-spelled : (block : BlockView) (words : List ℕ) (blocks : List BlockView) → after_words (block_words block words) blocks ≡ after_words words (block ∷ blocks)
after_words-spelled (whole No) words blocks = refl
after_words-spelled (whole R) words blocks = refl
after_words-spelled (whole Rw) words blocks = refl
after_words-spelled (halves lower upper) words blocks =
    after_words-spelled lower (block_words upper (3 ∷ words)) blocks ∙ after_words-spelled upper (3 ∷ words) (lower ∷ blocks)

abbrev pub block_code : Coded BlockView
block_code =
    code_by (List ℕ) (coded_list coded_ℕ) (λ block. block_words block []) (λ words. first_block (after_words words [])) (λ block. ap first_block (after_words-spelled block [] []))
