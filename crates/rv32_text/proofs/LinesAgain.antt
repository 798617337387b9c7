-- A written line is read as its row and its operands.
use Rattle.std.proofs.Common.{◌≡◌, ℕ, ◌≤◌, Bool, true, false, not, ◌&&◌, ◌||◌, ◌==◌, List, [], ◌∷◌, ◌++◌, length, refl, sym, ap, ◌∙◌, arith, Option, Some, Ok}
use Rattle.std.specs.Prelude.{nat_lt}
use Rattle.std.specs.Char.{is_ascii_graphic}
use Rattle.std.specs.List.{list_all}
use Rattle.std.proofs.lemmas.Bool.{le-ltb, eq-eqb, ne_eqb}
use Rattle.std.proofs.lemmas.List.{append_assoc, length-append, drop_at, drop_all}
use Rattle.rv32_text.specs.declared.items.Item.{Item}
use Rattle.rv32_text.specs.declared.labels.Defined.{Defined}
use Rattle.rv32_text.specs.declared.rows.Row.{Row}
use Rattle.plain_text.specs.Blank.{is_blank, is_text}
use Rattle.rv32_text.specs.Name.{row_name}
use Rattle.rv32_text.specs.Label.{before_comment, has_colon, statement_of}
use Rattle.rv32_text.specs.Operand.{operand_count}
use Rattle.rv32_text.specs.Statement.{item_name, operands_of, operands_wanted, item_at, item_in, is_labelled, line_item}
use Rattle.rv32_text.specs.Written.{with_one, with_two, with_three}
use Rattle.rv32_text.proofs.Clean.{Lacks, all_join, all_weaken, cut_before, cut_place, uncut, uncut_place, Starts, Ends, starts_more, ends_behind, is_solid, kept}
use Rattle.rv32_text.proofs.NamesAgain.{is_clean, IsPiece, piece, row_again}
use Rattle.rv32_text.proofs.OperandsAgain.{piece_starts, piece_ends, one_operand, two_operands, three_operands, no_operands}

-- a byte of a written line: clean, a space or a comma
abbrev pub is_written : ℕ → Bool
is_written b = nat_lt 31 b && nat_lt b 127 && not (b == 35) && not (b == 58)

clean_written : (b : ℕ) → is_clean b ≡ true → is_written b ≡ true
clean_written b e = grind arith

piece_written : (a : List ℕ) → IsPiece a → list_all is_written a ≡ true
piece_written a p = all_weaken is_clean is_written clean_written a p.clean

written_text : (b : ℕ) → is_written b ≡ true → (is_blank b || is_ascii_graphic b) ≡ true
written_text b e = grind arith

written_no_hash : (b : ℕ) → is_written b ≡ true → not (b == 35) ≡ true
written_no_hash b e = grind arith

written_no_colon : (b : ℕ) → is_written b ≡ true → not (b == 58) ≡ true
written_no_colon b e = grind arith

-- what is known of a written line
pub record IsLine (line : List ℕ) : Type 0 where
  pub size : length line ≤ 79
  pub written : list_all is_written line ≡ true
  pub start : Starts is_solid line
  pub finish : Ends is_solid line

pub line_text : (line : List ℕ) → IsLine line → is_text line ≡ true
line_text line l = all_weaken is_written (λ b. is_blank b || is_ascii_graphic b) written_text line l.written

line_code : (line : List ℕ) → IsLine line → before_comment line ≡ line
line_code line l = uncut (λ b. b == 35) line (all_weaken is_written (λ b. not (b == 35)) written_no_hash line l.written)

line_colon : (line : List ℕ) → IsLine line → has_colon line ≡ false
line_colon line l =
    let e = uncut_place (λ b. b == 58) line (all_weaken is_written (λ b. not (b == 58)) written_no_colon line l.written) in
    le-ltb _ _ (omega (arith, e))

line_statement : (line : List ℕ) → IsLine line → statement_of line ≡ line
unfolding statement_of
line_statement line l = rw (line_colon line l) (kept line l.start l.finish)

line_some : (line : List ℕ) → IsLine line → (length line == 0) ≡ false
line_some line l = ne_eqb _ _ (λ e. omega (arith, e, ap length l.start.is))

abbrev pub Labels : Type 0
Labels = List ℕ → Option Defined

pub reads_line : (labels : Labels) (number items : ℕ) (line : List ℕ) (item : Item) → IsLine line → item_in labels items line ≡ Ok item → line_item labels number items line ≡ Ok (Some item)
unfolding line_item is_labelled
reads_line labels number items line item l read =
    rw (line_text line l, line_code line l, line_colon line l, line_statement line l, line_some line l, read) refl

-- ---- the name and what stands behind it

clean_no_blank : (b : ℕ) → is_clean b ≡ true → not (is_blank b) ≡ true
clean_no_blank b e = grind arith

no_blank : (name : List ℕ) → IsPiece name → Lacks is_blank name
no_blank name p = all_weaken is_clean (λ b. not (is_blank b)) clean_no_blank name p.clean

name_piece : (r : Row) → IsPiece (row_name r)
name_piece r = piece (row_name r) (row_again r).1 (row_again r).2

same_number : (n : ℕ) → (n == n) ≡ true
same_number n = eq-eqb n n refl

reads_named : (labels : Labels) (items : ℕ) (r : Row) (statement operands : List ℕ) (item : Item)
    → item_name statement ≡ row_name r → operands_of statement ≡ operands → operand_count operands ≡ operands_wanted r
    → item_at labels items r operands ≡ Ok item → item_in labels items statement ≡ Ok item
unfolding item_in
reads_named labels items r statement operands item name rest count read =
    let same : (operand_count operands == operands_wanted r) ≡ true = ap (λ (n : ℕ). n == operands_wanted r) count ∙ same_number (operands_wanted r) in
    rw (name, rest, (row_again r).0, same, read) refl

pub reads_bare : (labels : Labels) (items : ℕ) (r : Row) (item : Item) → operands_wanted r ≡ 0
    → item_at labels items r [] ≡ Ok item → item_in labels items (row_name r) ≡ Ok item
reads_bare labels items r item wanted read =
    let lacks = no_blank (row_name r) (name_piece r) in
    reads_named labels items r (row_name r) [] item (uncut is_blank (row_name r) lacks)
    (drop_all _ (row_name r) (omega (arith, uncut_place is_blank (row_name r) lacks)))
    (no_operands ∙ sym wanted) read

pub reads_behind : (labels : Labels) (items : ℕ) (r : Row) (rest : List ℕ) (item : Item)
    → operand_count (32 ∷ rest) ≡ operands_wanted r → item_at labels items r (32 ∷ rest) ≡ Ok item
    → item_in labels items (row_name r ++ 32 ∷ rest) ≡ Ok item
reads_behind labels items r rest item count read =
    let lacks = no_blank (row_name r) (name_piece r) in
    reads_named labels items r (row_name r ++ 32 ∷ rest) (32 ∷ rest) item
    (cut_before is_blank (row_name r) 32 rest lacks refl)
    (drop_at (row_name r) (32 ∷ rest) _ (sym (cut_place is_blank (row_name r) 32 rest lacks refl)))
    count read

pub bare_line : (r : Row) → IsLine (row_name r)
bare_line r = record { size = omega (arith, (name_piece r).short); written = piece_written (row_name r) (name_piece r); start = piece_starts (row_name r) (name_piece r); finish = piece_ends (row_name r) (name_piece r) }

behind_line : (r : Row) (rest : List ℕ) → length rest ≤ 62 → list_all is_written rest ≡ true → Ends is_solid rest → IsLine (row_name r ++ 32 ∷ rest)
behind_line r rest room written finish =
    record {
      size = omega (arith, length-append (row_name r) (32 ∷ rest), (name_piece r).short);
      written = all_join is_written (row_name r) (32 ∷ rest) (piece_written (row_name r) (name_piece r)) written;
      start = starts_more is_solid (row_name r) (32 ∷ rest) (piece_starts (row_name r) (name_piece r));
      finish = ends_behind is_solid (row_name r) (32 ∷ rest) (ends_behind is_solid (32 ∷ []) rest finish);
    }

-- ---- lines with one, two and three operands

abbrev pub two : List ℕ → List ℕ → List ℕ
two a b = a ++ 44 ∷ 32 ∷ b

abbrev pub three : List ℕ → List ℕ → List ℕ → List ℕ
three a b c = a ++ 44 ∷ 32 ∷ (b ++ 44 ∷ 32 ∷ c)

pub with_one_is : (r : Row) (a : List ℕ) → with_one r a ≡ row_name r ++ 32 ∷ a
with_one_is r a = append_assoc (row_name r) (32 ∷ []) a

pub with_two_is : (r : Row) (a b : List ℕ) → with_two r a b ≡ row_name r ++ 32 ∷ two a b
with_two_is r a b = simp append_assoc

pub with_three_is : (r : Row) (a b c : List ℕ) → with_three r a b c ≡ row_name r ++ 32 ∷ three a b c
with_three_is r a b c = simp append_assoc

one_line : (r : Row) (a : List ℕ) → IsPiece a → IsLine (row_name r ++ 32 ∷ a)
one_line r a p = behind_line r a (omega (arith, p.short)) (piece_written a p) (piece_ends a p)

two_line : (r : Row) (a b : List ℕ) → IsPiece a → IsPiece b → IsLine (row_name r ++ 32 ∷ two a b)
two_line r a b p q =
    behind_line r (two a b) (omega (arith, length-append a (44 ∷ 32 ∷ b), p.short, q.short)) (all_join is_written a (44 ∷ 32 ∷ b) (piece_written a p) (piece_written b q))
    (ends_behind is_solid a (44 ∷ 32 ∷ b) (ends_behind is_solid (44 ∷ 32 ∷ []) b (piece_ends b q)))

three_line : (r : Row) (a b c : List ℕ) → IsPiece a → IsPiece b → IsPiece c → IsLine (row_name r ++ 32 ∷ three a b c)
three_line r a b c p q s =
    behind_line r (three a b c)
    (omega (arith, length-append a (44 ∷ 32 ∷ (b ++ 44 ∷ 32 ∷ c)), length-append b (44 ∷ 32 ∷ c), p.short, q.short, s.short))
    (all_join is_written a (44 ∷ 32 ∷ (b ++ 44 ∷ 32 ∷ c)) (piece_written a p) (all_join is_written b (44 ∷ 32 ∷ c) (piece_written b q) (piece_written c s)))
    (ends_behind is_solid a (44 ∷ 32 ∷ (b ++ 44 ∷ 32 ∷ c)) (ends_behind is_solid (44 ∷ 32 ∷ []) (b ++ 44 ∷ 32 ∷ c) (ends_behind is_solid b (44 ∷ 32 ∷ c) (ends_behind is_solid (44 ∷ 32 ∷ []) c (piece_ends c s)))))

-- a written line is read as this item, whatever its number and the items before it; its text has no line end
pub record IsRead (line : List ℕ) (item : Item) : Type 0 where
  pub shape : IsLine line
  pub read : (labels : Labels) (items : ℕ) → item_in labels items line ≡ Ok item

pub bare_read : (r : Row) (item : Item) → operands_wanted r ≡ 0 → ((labels : Labels) (items : ℕ) → item_at labels items r [] ≡ Ok item) → IsRead (row_name r) item
bare_read r item wanted read = record { shape = bare_line r; read = λ labels items. reads_bare labels items r item wanted (read labels items) }

moved : (xs ys : List ℕ) (item : Item) → xs ≡ ys → IsRead ys item → IsRead xs item
moved xs ys item e r = rw e r

pub one_read : (r : Row) (a : List ℕ) (item : Item) → IsPiece a → operands_wanted r ≡ 1
    → ((labels : Labels) (items : ℕ) → item_at labels items r (32 ∷ a) ≡ Ok item) → IsRead (with_one r a) item
one_read r a item p wanted read =
    moved (with_one r a) (row_name r ++ 32 ∷ a) item (with_one_is r a)
    (record { shape = one_line r a p; read = λ labels items. reads_behind labels items r a item (one_operand a p ∙ sym wanted) (read labels items) })

pub two_read : (r : Row) (a b : List ℕ) (item : Item) → IsPiece a → IsPiece b → operands_wanted r ≡ 2
    → ((labels : Labels) (items : ℕ) → item_at labels items r (32 ∷ two a b) ≡ Ok item) → IsRead (with_two r a b) item
two_read r a b item p q wanted read =
    moved (with_two r a b) (row_name r ++ 32 ∷ two a b) item (with_two_is r a b)
    (record { shape = two_line r a b p q; read = λ labels items. reads_behind labels items r (two a b) item (two_operands a b p q ∙ sym wanted) (read labels items) })

pub three_read : (r : Row) (a b c : List ℕ) (item : Item) → IsPiece a → IsPiece b → IsPiece c → operands_wanted r ≡ 3
    → ((labels : Labels) (items : ℕ) → item_at labels items r (32 ∷ three a b c) ≡ Ok item) → IsRead (with_three r a b c) item
three_read r a b c item p q s wanted read =
    moved (with_three r a b c) (row_name r ++ 32 ∷ three a b c) item (with_three_is r a b c)
    (record { shape = three_line r a b c p q s; read = λ labels items. reads_behind labels items r (three a b c) item (three_operands a b c p q s ∙ sym wanted) (read labels items) })
