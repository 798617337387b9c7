-- What an image has of the items that were read.
use Rattle.std.proofs.Common.{◌≡◌, ℕ, zero, suc, ◌+◌, ◌*◌, ◌<◌, ◌≤◌, ◌^◌, false, ◌==◌, List, [], ◌∷◌, ◌++◌, length, get_or, take, drop, Result, Ok, Err, refl, sym, ap, ◌∙◌, subst, arith}
use Rattle.std.specs.Prelude.{IfOk}
use Rattle.std.specs.List.{AllByRecursion, flat_map}
use Rattle.std.specs.Int.{w32, from_le_bytes}
use Rattle.std.specs.Str.Lines.{lines}
use Rattle.std.proofs.lemmas.Bool.{ne_eqb}
use Rattle.std.proofs.lemmas.List.{append_assoc, append-nil, length-append, flat_map_more, take_more}
use Rattle.std.proofs.lemmas.Nat.{from_le_bytes-to_le_bytes_4}
use Rattle.rv32_decode.specs.Instr.{word_of}
use Rattle.rv32_decode.proofs.Callers.{instr_of-word_of, word_of-below}
use Rattle.plain_text.specs.declared.refusals.LineRefusal.{LineRefusal}
use Rattle.plain_text.specs.declared.refusals.LineRefusal.TheVariants as refusals
use Rattle.plain_text.specs.Reading.{FirstFault, Fails, Gives, ◌>>=◌}
use Rattle.rv32_text.specs.declared.faults.TextFault.{TextFault}
use Rattle.rv32_text.specs.declared.items.Item.{Item}
use Rattle.rv32_text.specs.declared.items.Item.TheVariants as item
use Rattle.rv32_text.specs.Statement.{FitsItem}
use Rattle.rv32_text.specs.Meaning.{items_from, labels_of, some_item, meaning}
use Rattle.rv32_text.specs.Image.{item_word, item_bytes, image_of, assembled, image_words, IsWordOf, AreWordsOf, IsImageOf, encoded_items}
use Rattle.rv32_text.specs.Written.{word_line, disassembled}
use Rattle.rv32_text.proofs.LinesAgain.{Labels}

-- ---- the whole text

pub fails_whole : (e : LineRefusal TextFault) (labels : Labels) (text : List ℕ) → labels ≡ labels_of text → Fails e (items_from labels 1 [] (lines text)) → Fails e (assembled text)
unfolding assembled meaning
fails_whole refusals.NoMemory labels text same fails = tt
fails_whole (refusals.Refused l what) labels text same fails = rw (← same, fails) refl

pub some_ok : (items : List Item) → 0 < length items → some_item items ≡ Ok items
unfolding some_item
some_ok items some =
    let e : (length items == 0) ≡ false = ne_eqb _ _ (λ z. omega arith) in
    rw e refl

pub meaning_whole : (labels : Labels) (items : List Item) (text : List ℕ) → labels ≡ labels_of text → items_from labels 1 [] (lines text) ≡ Ok items → 0 < length items
    → meaning text ≡ Ok items
unfolding meaning
meaning_whole labels items text same read some = rw (← same, read) (some_ok items some)

-- ---- the image of items

pub all_at : {A : Type 0} (P : A → Type 0) (xs : List A) (i : ℕ) (d : A) → AllByRecursion P xs → i < length xs → P (get_or xs i d)
all_at P [] i d all lt = absurd (omega arith)
all_at P (x ∷ xs) zero d all lt = all.0
all_at P (x ∷ xs) (suc i) d all lt = all_at P xs i d all.1 (omega arith)

pub one_item_more : (items : List Item) (n : ℕ) (d : Item) → n < length items → image_of (take n items) ++ item_bytes (get_or items n d) ≡ image_of (take (n + 1) items)
unfolding image_of
one_item_more items n d lt = flat_map_more item_bytes [] (take n items) (get_or items n d) ∙ ap (λ (xs : List Item). flat_map item_bytes xs) (sym (take_more items n d lt))

pub image_size : (items : List Item) → length (image_of items) ≡ 4 * length items
unfolding image_of
image_size [] = refl
image_size (i ∷ items) = omega (arith, length-append (item_bytes i) (flat_map item_bytes items), image_size items)

word_below : (i : Item) → FitsItem i → item_word i < 2 ^ 32
unfolding FitsItem
word_below (item.Instr i) fits = word_of-below i fits
word_below (item.Word w) fits = fits

is_word : (i : Item) → FitsItem i → IsWordOf (item_word i) i
unfolding FitsItem
is_word (item.Instr i) fits = instr_of-word_of (word_of i) i fits refl
is_word (item.Word w) fits = refl

pub are_words : (items : List Item) → AllByRecursion FitsItem items → AreWordsOf (image_words (image_of items)) items
unfolding image_of image_words
are_words [] fits = tt
are_words (i ∷ items) fits =
    let word : from_le_bytes w32 (item_bytes i) ≡ item_word i = from_le_bytes-to_le_bytes_4 (item_word i) (word_below i fits.0) in
    rw word (is_word i fits.0, are_words items fits.1)

-- an image of at least four bytes begins with the word of the first four
pub first_word_is : (image : List ℕ) (word : ℕ) → 4 ≤ length image → word ≡ from_le_bytes w32 (get_or image 0 0 ∷ get_or image 1 0 ∷ get_or image 2 0 ∷ get_or image 3 0 ∷ [])
    → image_words image ≡ word ∷ image_words (drop 4 image)
unfolding image_words
first_word_is [] word le e = absurd (omega arith)
first_word_is (a ∷ []) word le e = absurd (omega arith)
first_word_is (a ∷ b ∷ []) word le e = absurd (omega arith)
first_word_is (a ∷ b ∷ c ∷ []) word le e = absurd (omega arith)
first_word_is (a ∷ b ∷ c ∷ d ∷ rest) word le e = ap (λ (w : ℕ). w ∷ image_words rest) (sym e)

pub no_words : (image : List ℕ) → length image < 4 → image_words image ≡ []
unfolding image_words
no_words [] lt = refl
no_words (a ∷ []) lt = refl
no_words (a ∷ b ∷ []) lt = refl
no_words (a ∷ b ∷ c ∷ []) lt = refl
no_words (a ∷ b ∷ c ∷ d ∷ rest) lt = absurd (omega arith)

-- ---- writing line by line

pub writes_on : (old new : List ℕ) (w : ℕ) (ws words total : List ℕ) → new ≡ old ++ word_line w → words ≡ w ∷ ws → old ++ disassembled words ≡ total → new ++ disassembled ws ≡ total
unfolding disassembled
writes_on old new w ws words total e cut all =
    ap (λ (x : List ℕ). x ++ disassembled ws) e ∙ append_assoc old (word_line w) (disassembled ws) ∙ ap (λ (xs : List ℕ). old ++ disassembled xs) (sym cut) ∙ all

pub written_whole : (out rest total : List ℕ) → length rest < 4 → out ++ disassembled (image_words rest) ≡ total → out ≡ total
unfolding disassembled
written_whole out rest total few all =
    sym (append-nil out) ∙ ap (λ (ws : List ℕ). out ++ disassembled ws) (sym (no_words rest few)) ∙ all

-- ---- from the items to the answer

same_ok : (r : Result (List ℕ) (FirstFault TextFault)) (a b : List ℕ) → r ≡ Ok a → r ≡ Ok b → a ≡ b
same_ok r a b p q = cc

pub same_whole : (labels : Labels) (items : List Item) (text : List ℕ) → labels ≡ labels_of text → items_from labels 1 [] (lines text) ≡ Ok items → assembled text ≡ encoded_items items
unfolding assembled meaning encoded_items
same_whole labels items text same read = rw (← same, read) refl

encoded_ok : (items : List Item) (image : List ℕ) → encoded_items items ≡ Ok image → (0 < length items) × (image ≡ image_of items)
unfolding encoded_items some_item
encoded_ok [] image e = cc
encoded_ok (i ∷ items) image e =
    let whole = ap (λ (r : Result (List Item) (FirstFault TextFault)). r >>= (λ xs. Ok (image_of xs))) (some_ok (i ∷ items) (omega arith)) in
    (omega arith, same_ok _ image (image_of (i ∷ items)) e whole)

image_is : (labels : Labels) (items : List Item) (text image : List ℕ) → labels ≡ labels_of text → items_from labels 1 [] (lines text) ≡ Ok items
    → AllByRecursion FitsItem items → length items ≤ 16384 → encoded_items items ≡ Ok image → IsImageOf text image
image_is labels items text image same read fits few e =
    let parts = encoded_ok items image e in
    record {
      items = items;
      read = meaning_whole labels items text same read parts.0;
      some = parts.0;
      few = few;
      size = ap length parts.1 ∙ image_size items;
      words = subst (λ (xs : List ℕ). AreWordsOf (image_words xs) items) (sym parts.1) (are_words items fits);
    }

pub gives_whole : {X : Type 0} (view : X → List ℕ) (r : Result X (LineRefusal TextFault)) (labels : Labels) (items shown : List Item) (text : List ℕ) → labels ≡ labels_of text
    → items_from labels 1 [] (lines text) ≡ Ok items → shown ≡ items → Gives view r (encoded_items shown) → Gives view r (assembled text)
gives_whole view r labels items shown text same read e given =
    subst (λ (read : Result (List ℕ) (FirstFault TextFault)). Gives view r read) (ap encoded_items e ∙ sym (same_whole labels items text same read)) given

given_image : {X : Type 0} (view : X → List ℕ) (r : Result X (LineRefusal TextFault)) (labels : Labels) (items : List Item) (text : List ℕ) → labels ≡ labels_of text
    → items_from labels 1 [] (lines text) ≡ Ok items → AllByRecursion FitsItem items → length items ≤ 16384 → Gives view r (encoded_items items)
    → IfOk r (λ x. IsImageOf text (view x))
given_image view (Ok x) labels items text same read fits few given = image_is labels items text (view x) same read fits few given
given_image view (Err e) labels items text same read fits few given = tt

pub image_whole : {X : Type 0} (view : X → List ℕ) (r : Result X (LineRefusal TextFault)) (labels : Labels) (items shown : List Item) (text : List ℕ) → labels ≡ labels_of text
    → items_from labels 1 [] (lines text) ≡ Ok items → AllByRecursion FitsItem items → length items ≤ 16384 → shown ≡ items → Gives view r (encoded_items shown)
    → IfOk r (λ x. IsImageOf text (view x))
image_whole view r labels items shown text same read fits few e given =
    given_image view r labels items text same read fits few (subst (λ (xs : List Item). Gives view r (encoded_items xs)) e given)
