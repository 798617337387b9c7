-- The text of words is read as their items, and the image of these has the words.
use Rattle.std.proofs.Common.{◌≡◌, ℕ, zero, suc, ◌+◌, ◌*◌, ◌%◌, ◌<◌, ◌≤◌, ◌^◌, Bool, true, false, cond, List, [], ◌∷◌, ◌++◌, length, get_or, map, refl, sym, ap, ◌∙◌, arith, Option, Some, None, Ok}
use Rattle.std.specs.Prelude.{nat_lt}
use Rattle.std.specs.List.{flat_map, AllByRecursion}
use Rattle.std.specs.Int.{w32, to_le_bytes, from_le_bytes}
use Rattle.std.specs.Str.Lines.{lines}
use Rattle.std.proofs.lemmas.Bool.{lt-ltb}
use Rattle.std.proofs.lemmas.List.{append_assoc, append-nil, length-append}
use Rattle.std.proofs.lemmas.Nat.{le_bytes_4}
use Rattle.rv32_decode.specs.declared.instruction.Instr.{Instr}
use Rattle.rv32_decode.specs.Instr.{Fits, instr_of, word_of}
use Rattle.rv32_decode.proofs.Callers.{fits_answer, again_answer}
use Rattle.rv32_text.specs.declared.items.Item.{Item}
use Rattle.rv32_text.specs.declared.items.Item.TheVariants as item
use Rattle.plain_text.specs.Reading.{lines_read}
use Rattle.rv32_text.specs.Meaning.{items_after_line, items_from, labels_of, meaning}
use Rattle.rv32_text.specs.Image.{item_word, item_bytes, image_of, assembled, image_words}
use Rattle.rv32_text.specs.Written.{has_text, item_for, item_of_word, item_text, word_line, disassembled}
use Rattle.plain_text.proofs.Callers.{first_line}
use Rattle.rv32_text.proofs.LinesAgain.{line_text, Labels, IsRead, reads_line}
use Rattle.rv32_text.proofs.ItemsAgain.{instr_read, word_read}
use Rattle.rv32_text.proofs.Steps.{some_ok}

-- ---- the items of words

read_told : (w : ℕ) (i : Instr) (b : Bool) → has_text i ≡ b → w < 2 ^ 32 → Fits i → IsRead (item_text (cond b (item.Instr i) (item.Word w))) (cond b (item.Instr i) (item.Word w))
unfolding item_text
read_told w i true told small fits = instr_read i fits told
read_told w i false told small fits = word_read w small

read_for : (w : ℕ) (found : Option Instr) → w < 2 ^ 32 → found ≡ instr_of w → IsRead (item_text (item_for w found)) (item_for w found)
unfolding item_text
read_for w None small e = word_read w small
read_for w (Some i) small e = read_told w i (has_text i) refl small (fits_answer w (Some i) small e)

item_read : (w : ℕ) → w < 2 ^ 32 → IsRead (item_text (item_of_word w)) (item_of_word w)
unfolding item_of_word
item_read w small = read_for w (instr_of w) small refl

word_told : (w : ℕ) (i : Instr) (b : Bool) → word_of i ≡ w → item_word (cond b (item.Instr i) (item.Word w)) ≡ w
word_told w i true again = again
word_told w i false again = refl

word_for : (w : ℕ) (found : Option Instr) → w < 2 ^ 32 → found ≡ instr_of w → item_word (item_for w found) ≡ w
word_for w None small e = refl
word_for w (Some i) small e = word_told w i (has_text i) (again_answer w (Some i) small e)

item_word_again : (w : ℕ) → w < 2 ^ 32 → item_word (item_of_word w) ≡ w
unfolding item_of_word
item_word_again w small = word_for w (instr_of w) small refl

-- ---- lines

word_lines : (w : ℕ) (ws : List ℕ) → w < 2 ^ 32 → lines (disassembled (w ∷ ws)) ≡ item_text (item_of_word w) ∷ lines (disassembled ws)
unfolding disassembled
word_lines w ws small =
    let text = item_text (item_of_word w) in
    ap lines (append_assoc text (10 ∷ []) (flat_map word_line ws)) ∙ first_line text (flat_map word_line ws) (line_text text (item_read w small).shape)

abbrev pub AreWords : List ℕ → Type 0
AreWords ws = AllByRecursion (λ w. w < 2 ^ 32) ws

one_line : (labels : Labels) (number : ℕ) (before : List Item) (w : ℕ) → w < 2 ^ 32 → length before < 16384 → items_after_line labels number before (item_text (item_of_word w)) ≡ Ok (before ++ item_of_word w ∷ [])
unfolding items_after_line
one_line labels number before w small room =
    let r = item_read w small in
    let read = reads_line labels number (length before) (item_text (item_of_word w)) (item_of_word w) r.shape (r.read labels (length before)) in
    let e : nat_lt (length before) 16384 ≡ true = lt-ltb _ _ room in
    rw (read, e) refl

no_lines : lines (disassembled []) ≡ []
unfolding disassembled
no_lines = refl

pub items_again : (labels : Labels) (number : ℕ) (before : List Item) (ws : List ℕ) → AreWords ws → length before + length ws ≤ 16384
    → items_from labels number before (lines (disassembled ws)) ≡ Ok (before ++ map item_of_word ws)
unfolding lines_read
items_again labels number before [] words few = rw no_lines (ap Ok (sym (append-nil before)))
items_again labels number before (w ∷ ws) words few =
    let one = one_line labels number before w words.0 (omega arith) in
    let more = items_again labels (number + 1) (before ++ item_of_word w ∷ []) ws words.1 (omega (arith, length-append before (item_of_word w ∷ []))) in
    rw (word_lines w ws words.0, one, more, append_assoc before (item_of_word w ∷ []) (map item_of_word ws)) refl

pub meaning_again : (ws : List ℕ) → AreWords ws → 0 < length ws → length ws ≤ 16384 → meaning (disassembled ws) ≡ Ok (map item_of_word ws)
unfolding meaning
meaning_again [] words some few = absurd (omega arith)
meaning_again (w ∷ ws) words some few =
    rw (items_again (labels_of (disassembled (w ∷ ws))) 1 [] (w ∷ ws) words (omega arith)) (some_ok (map item_of_word (w ∷ ws)) (omega arith))

-- ---- words of images

abbrev pub IsBytes : List ℕ → Type 0
IsBytes bytes = (i : ℕ) → get_or bytes i 0 < 256

-- the words are four bytes each, and the image of their items is the image again
pub record IsWhole (image : List ℕ) : Type 0 where
  pub words : AreWords (image_words image)
  pub count : 4 * length (image_words image) ≡ length image
  pub again : flat_map item_bytes (map item_of_word (image_words image)) ≡ image

four_bytes : (a b c d : ℕ) → a < 256 → b < 256 → c < 256 → d < 256 → IsBytes (a ∷ b ∷ c ∷ d ∷ [])
four_bytes a b c d p q r s zero = p
four_bytes a b c d p q r s (suc zero) = q
four_bytes a b c d p q r s (suc (suc zero)) = r
four_bytes a b c d p q r s (suc (suc (suc zero))) = s
four_bytes a b c d p q r s (suc (suc (suc (suc i)))) = omega arith

joined : (x y xs ys : List ℕ) → x ≡ y → xs ≡ ys → x ++ xs ≡ y ++ ys
joined x y xs ys e f = ap (λ (z : List ℕ). z ++ xs) e ∙ ap (λ (zs : List ℕ). y ++ zs) f

word_small : (a b c d : ℕ) → a < 256 → b < 256 → c < 256 → d < 256 → from_le_bytes w32 (a ∷ b ∷ c ∷ d ∷ []) < 2 ^ 32
word_small a b c d p q r s = omega arith

pub whole_image : (image : List ℕ) → IsBytes image → length image % 4 ≡ 0 → IsWhole image
unfolding image_words
whole_image [] bytes whole = record { words = tt; count = refl; again = refl }
whole_image (a ∷ []) bytes whole = absurd (omega arith)
whole_image (a ∷ b ∷ []) bytes whole = absurd (omega arith)
whole_image (a ∷ b ∷ c ∷ []) bytes whole = absurd (omega arith)
whole_image (a ∷ b ∷ c ∷ d ∷ rest) bytes whole =
    let small = word_small a b c d (bytes 0) (bytes 1) (bytes 2) (bytes 3) in
    let more = whole_image rest (λ i. bytes (suc (suc (suc (suc i))))) (omega arith) in
    let four : IsBytes (a ∷ b ∷ c ∷ d ∷ []) = four_bytes a b c d (bytes 0) (bytes 1) (bytes 2) (bytes 3) in
    let word = from_le_bytes w32 (a ∷ b ∷ c ∷ d ∷ []) in
    let first : item_bytes (item_of_word word) ≡ a ∷ b ∷ c ∷ d ∷ [] = ap (to_le_bytes w32) (item_word_again word small) ∙ le_bytes_4 (a ∷ b ∷ c ∷ d ∷ []) word refl four refl in
    record {
      words = (small, more.words);
      count = omega (arith, more.count);
      again = joined (item_bytes (item_of_word word)) (a ∷ b ∷ c ∷ d ∷ []) (flat_map item_bytes (map item_of_word (image_words rest))) rest first more.again;
    }

pub assembled_again : (image : List ℕ) → IsBytes image → length image % 4 ≡ 0 → 0 < length image → length image ≤ 65536 → assembled (disassembled (image_words image)) ≡ Ok image
unfolding assembled image_of
assembled_again image bytes whole some few =
    let w = whole_image image bytes whole in
    rw (meaning_again (image_words image) w.words (omega (arith, w.count)) (omega (arith, w.count)), w.again) refl

-- ---- how long the text is

line_size : (w : ℕ) → w < 2 ^ 32 → length (word_line w) ≤ 80
line_size w small = omega (arith, length-append (item_text (item_of_word w)) (10 ∷ []), (item_read w small).shape.size)

text_size : (ws : List ℕ) → AreWords ws → length (disassembled ws) ≤ 80 * length ws
unfolding disassembled
text_size [] words = omega arith
text_size (w ∷ ws) words = omega (arith, length-append (word_line w) (flat_map word_line ws), line_size w words.0, text_size ws words.1)

pub text_within : (image : List ℕ) → IsBytes image → length image % 4 ≡ 0 → length (disassembled (image_words image)) ≤ 20 * length image
text_within image bytes whole =
    let w = whole_image image bytes whole in
    omega (arith, text_size (image_words image) w.words, w.count)
