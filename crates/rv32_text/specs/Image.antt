-- The words of items and of images, each little-endian in four bytes.
use Rattle.std.specs.Prelude.{◌≡◌, ℕ, ◌*◌, ◌≤◌, ◌<◌, List, [], ◌∷◌, length, Some, Result, Ok}
use Rattle.std.specs.List.{flat_map}
use Rattle.std.specs.Int.{w32, to_le_bytes, from_le_bytes}
use Rattle.rv32_decode.specs.Instr.{instr_of, word_of}
use Rattle.rv32_text.specs.declared.faults.TextFault.{TextFault}
use Rattle.rv32_text.specs.declared.items.Item.{Item}
use Rattle.rv32_text.specs.declared.items.Item.TheVariants as item
use Rattle.plain_text.specs.Reading.{FirstFault, ◌>>=◌}
use Rattle.rv32_text.specs.Meaning.{some_item, meaning}

abbrev pub item_word : Item → ℕ
item_word (item.Instr instr) = word_of instr
item_word (item.Word word) = word

abbrev pub item_bytes : Item → List ℕ
item_bytes item = to_le_bytes w32 (item_word item)

-- the words of items, one behind the other
unfoldable pub image_of : List Item → List ℕ
image_of items = flat_map item_bytes items

-- the image of items, of which there is at least one
unfoldable pub encoded_items : List Item → Result (List ℕ) (FirstFault TextFault)
encoded_items items = some_item items >>= (λ some. Ok (image_of some))

-- the image that a text stands for, or the text's first fault
unfoldable pub assembled : List ℕ → Result (List ℕ) (FirstFault TextFault)
assembled text = meaning text >>= (λ items. Ok (image_of items))

-- the words of an image, as far as there are four bytes
unfoldable pub image_words : List ℕ → List ℕ
image_words (a ∷ b ∷ c ∷ d ∷ rest) = from_le_bytes w32 (a ∷ b ∷ c ∷ d ∷ []) ∷ image_words rest
image_words _ = []

-- the word decodes to the item, or is its plain word
abbrev pub IsWordOf : ℕ → Item → Type 0
IsWordOf word (item.Instr instr) = instr_of word ≡ Some instr
IsWordOf word (item.Word plain) = word ≡ plain

-- one word for each item
abbrev pub AreWordsOf : List ℕ → List Item → Type 0
AreWordsOf [] [] = Unit {0}
AreWordsOf (word ∷ words) (item ∷ items) = IsWordOf word item × AreWordsOf words items
AreWordsOf _ _ = ⊥

-- the image has the words of the text's items and nothing else
pub record IsImageOf (text image : List ℕ) : Type 0 where
  pub items : List Item
  pub read : meaning text ≡ Ok items
  pub some : 0 < length items
  pub few : length items ≤ 16384
  pub size : length image ≡ 4 * length items
  pub words : AreWordsOf (image_words image) items
