-- The text of each item that fits is read as that item.
use Rattle.std.proofs.Common.{◌≡◌, ℕ, ◌-◌, ◌*◌, ◌/◌, ◌%◌, ◌<◌, ◌≤◌, ◌^◌, Bool, true, false, not, cond, ◌&&◌, ◌||◌, ◌==◌, List, [], ◌∷◌, ◌++◌, length, refl, ap, ◌∙◌, arith, Ok}
use Rattle.std.specs.Prelude.{ℤ, pos, negsuc, ◌≤ℤ◌, ◌<ℤ◌, MatchBool}
use Rattle.std.specs.List.{list_all, before_first, after_first}
use Rattle.std.specs.Char.{is_ascii_digit}
use Rattle.std.specs.Fmt.{decimal, signed_decimal}
use Rattle.std.proofs.lemmas.Bool.{eqb-true, and_parts}
use Rattle.std.proofs.lemmas.Int.{ints}
use Rattle.std.proofs.lemmas.List.{append_assoc, length-append}
use Rattle.rv32_decode.specs.declared.instruction.Instr.{Instr}
use Rattle.rv32_decode.specs.declared.instruction.Instr.TheVariants as instr
use Rattle.rv32_decode.specs.declared.instruction.BranchKind.{BranchKind}
use Rattle.rv32_decode.specs.declared.instruction.OpImmKind.{OpImmKind}
use Rattle.rv32_decode.specs.declared.instruction.OpKind.{OpKind}
use Rattle.rv32_decode.specs.Kinds.{is_shift}
use Rattle.rv32_decode.specs.Instr.{Fits, IsSigned, IsEven, FitsImmediate}
use Rattle.rv32_text.specs.declared.items.Item.TheVariants as item
use Rattle.rv32_text.specs.declared.rows.Atomic.TheVariants as atomic
use Rattle.rv32_text.specs.declared.rows.Row.TheVariants as row
use Rattle.rv32_text.specs.declared.writing.Operands.TheVariants as operands
use Rattle.plain_text.specs.Reading.{◌>>=◌}
use Rattle.rv32_text.specs.Blank.{trimmed}
use Rattle.rv32_text.specs.Number.{greatest_word, up_to, signed_within}
use Rattle.rv32_text.specs.Name.{number_names, register_name, set_name, row_name}
use Rattle.rv32_text.specs.Label.{is_label}
use Rattle.rv32_text.specs.Operand.{based_in, target_in, third_operand, pair_at, upper_at, jump_at, branch_at, based_at, immediate_within, immediate_at, registers_at, sets_at, address_at, exchange_at, plain_at}
use Rattle.rv32_text.specs.Statement.{item_at, stored_at, atomic_at}
use Rattle.rv32_text.specs.Written.{has_text, based_text, address_text, word_text, instr_text, item_text, row_text, fence_row, instr_row}
use Rattle.rv32_text.proofs.Clean.{Lacks, all_join, all_weaken, cut_before, cut_behind, Starts, starts, kept}
use Rattle.rv32_text.proofs.NamesAgain.{is_clean, IsPiece, piece, at_most, register_again, set_again}
use Rattle.rv32_text.proofs.Numerals.{IsShort, number_again, decimal_piece, signed_piece, signed_size, is_numeral_byte, signed_bytes, decimal_digits, up_to_again, signed_again, even_again, short_from, word_again, word_piece}
use Rattle.rv32_text.proofs.OperandsAgain.{piece_starts, piece_ends, first_alone, first_before, second_alone, second_before, third_alone}
use Rattle.rv32_text.proofs.LinesAgain.{Labels, two, three, IsRead, bare_read, one_read, two_read, three_read}

-- ---- pieces

reg_piece : (n : ℕ) → n < 32 → IsPiece (register_name n)
reg_piece n lt = let r = register_again n lt in piece (register_name n) r.1 r.2

reg_size : (n : ℕ) → length (register_name n) ≤ 3
reg_size n = at_most 3 number_names n refl

address_piece : (n : ℕ) → n < 32 → IsPiece (address_text n)
address_piece n lt = let r = register_again n lt in piece (address_text n) r.5 r.6

set_piece : (n : ℕ) → n < 16 → IsPiece (set_name n)
set_piece n lt = let s = set_again n lt in piece (set_name n) s.1 s.2

-- the number, and the register in parentheses
based_is : (z : ℤ) (n : ℕ) → based_text z n ≡ signed_decimal z ++ 40 ∷ (register_name n ++ 41 ∷ [])
based_is z n = simp append_assoc

based_piece : (z : ℤ) (n : ℕ) → IsShort z → n < 32 → IsPiece (based_text z n)
based_piece z n known lt =
    let number = signed_piece z known in
    let name = reg_piece n lt in
    let all : list_all is_clean (signed_decimal z ++ 40 ∷ (register_name n ++ 41 ∷ [])) ≡ true =
    all_join is_clean (signed_decimal z) (40 ∷ (register_name n ++ 41 ∷ [])) number.clean (all_join is_clean (register_name n) (41 ∷ []) name.clean refl) in
    let size = length-append (signed_decimal z) (40 ∷ (register_name n ++ 41 ∷ [])) in
    let more = length-append (register_name n) (41 ∷ []) in
    let short : length (signed_decimal z ++ 40 ∷ (register_name n ++ 41 ∷ [])) ≤ 16 = omega (arith, size, more, signed_size z known, reg_size n) in
    rw (based_is z n) (record { some = omega (arith, size); short = short; clean = all })

no_open : (b : ℕ) → is_numeral_byte b ≡ true → not (b == 40) ≡ true
no_open b e = grind arith

lacks_open : (z : ℤ) → IsShort z → Lacks (λ b. b == 40) (signed_decimal z)
lacks_open z short = all_weaken is_numeral_byte (λ b. not (b == 40)) no_open (signed_decimal z) (signed_bytes z short)

trimmed_number : (z : ℤ) → IsShort z → trimmed (signed_decimal z) ≡ signed_decimal z
trimmed_number z short = let p = signed_piece z short in kept (signed_decimal z) (piece_starts _ p) (piece_ends _ p)

based_again : (z : ℤ) (n : ℕ) → IsShort z → n < 32 → based_in (based_text z n) ≡ Ok (z, n)
unfolding based_in
based_again z n short lt =
    let rest = register_name n ++ 41 ∷ [] in
    let number : before_first (λ b. b == 40) (based_text z n) ≡ signed_decimal z =
    ap (before_first (λ b. b == 40)) (based_is z n) ∙ cut_before (λ b. b == 40) (signed_decimal z) 40 rest (lacks_open z short) refl in
    let base : after_first (λ b. b == 40) (based_text z n) ≡ rest =
    ap (after_first (λ b. b == 40)) (based_is z n) ∙ cut_behind (λ b. b == 40) (signed_decimal z) 40 rest (lacks_open z short) refl in
    rw (number, base, trimmed_number z short, number_again z short, (register_again n lt).3) refl

-- a number is no label
or_true : (a : Bool) → (a || true) ≡ true
or_true true = refl
or_true false = refl

either_false : (a : Bool) → cond a false false ≡ false
either_false true = refl
either_false false = refl

digit_first : (xs : List ℕ) → Starts is_ascii_digit xs → is_label xs ≡ false
unfolding is_label
digit_first xs s = rw (s.is, s.passes) (either_false _)

number_no_label : (z : ℤ) → IsShort z → is_label (signed_decimal z) ≡ false
unfolding is_label
number_no_label (pos n) short = digit_first (decimal n) (starts is_ascii_digit (decimal n) (decimal_digits n short) (decimal_piece n short).some)
number_no_label (negsuc n) short = rw (or_true _) refl

target_again : (labels : Labels) (items : ℕ) (z : ℤ) → IsShort z → target_in labels items (signed_decimal z) ≡ Ok z
unfolding target_in
target_again labels items z short = rw (number_no_label z short) (number_again z short)

-- ---- the operands of the rows

-- the two registers before a third operand
pair_again : (a b : ℕ) (c : List ℕ) → a < 32 → b < 32 → IsPiece c
    → (pair_at (32 ∷ three (register_name a) (register_name b) c) ≡ Ok (a, b)) × (third_operand (32 ∷ three (register_name a) (register_name b) c) ≡ c)
unfolding pair_at
pair_again a b c r s t =
    let p = reg_piece a r in
    let q = reg_piece b s in
    (rw (first_before (register_name a) (32 ∷ two (register_name b) c) p, second_before (register_name a) (register_name b) (32 ∷ c) p q, (register_again a r).0, (register_again b s).0) refl, third_alone (register_name a) (register_name b) c p q t)

upper_again : (rd imm : ℕ) → rd < 32 → imm < 2 ^ 32 → imm % 2 ^ 12 ≡ 0 → upper_at (32 ∷ two (register_name rd) (decimal (imm / 2 ^ 12))) ≡ Ok (rd, imm)
unfolding upper_at
upper_again rd imm r small even =
    let p = reg_piece rd r in
    let q = decimal_piece (imm / 2 ^ 12) (omega arith) in
    let high : (imm / 2 ^ 12) * 2 ^ 12 ≡ imm = omega arith in
    rw (first_before (register_name rd) (32 ∷ decimal (imm / 2 ^ 12)) p, second_alone (register_name rd) (decimal (imm / 2 ^ 12)) p q, (register_again rd r).0, number_again (pos (imm / 2 ^ 12)) (omega arith), up_to_again (2 ^ 20 - 1) (imm / 2 ^ 12) (omega arith), high) refl

jump_again : (labels : Labels) (items rd : ℕ) (z : ℤ) → rd < 32 → IsSigned (2 ^ 20) z → IsEven z → jump_at labels items (32 ∷ two (register_name rd) (signed_decimal z)) ≡ Ok (instr.Jal rd z)
unfolding jump_at
jump_again labels items rd z r within even =
    let p = reg_piece rd r in
    let short = short_from (2 ^ 20) z (omega arith) within in
    let q = signed_piece z short in
    rw (first_before (register_name rd) (32 ∷ signed_decimal z) p, second_alone (register_name rd) (signed_decimal z) p q, (register_again rd r).0, target_again labels items z short, even_again (2 ^ 20) z within even) refl

branch_again : (kind : BranchKind) (labels : Labels) (items a b : ℕ) (z : ℤ) → a < 32 → b < 32 → IsSigned (2 ^ 12) z → IsEven z → branch_at kind labels items (32 ∷ three (register_name a) (register_name b) (signed_decimal z)) ≡ Ok (instr.Branch kind a b z)
unfolding branch_at
branch_again kind labels items a b z r s within even =
    let short = short_from (2 ^ 12) z (omega arith) within in
    let operands = pair_again a b (signed_decimal z) r s (signed_piece z short) in
    rw (operands.0, operands.1, target_again labels items z short, even_again (2 ^ 12) z within even) refl

based_at_again : (a b : ℕ) (z : ℤ) → a < 32 → b < 32 → IsSigned (2 ^ 11) z → based_at (32 ∷ two (register_name a) (based_text z b)) ≡ Ok (a, b, z)
unfolding based_at
based_at_again a b z r s within =
    let p = reg_piece a r in
    let short = short_from (2 ^ 11) z (omega arith) within in
    let q = based_piece z b short s in
    rw (first_before (register_name a) (32 ∷ based_text z b) p, second_alone (register_name a) (based_text z b) p q, (register_again a r).0, based_again z b short s, signed_again (2 ^ 11) z within) refl

short_of : (shift : Bool) (z : ℤ) → MatchBool shift ((pos 0 ≤ℤ z) × (z <ℤ pos 32)) (IsSigned (2 ^ 11) z) → IsShort z
short_of true (pos n) fits = omega (arith, ints)
short_of true (negsuc n) fits = omega (arith, ints)
short_of false z fits = short_from (2 ^ 11) z (omega arith) fits

immediate_short : (kind : OpImmKind) (z : ℤ) → FitsImmediate kind z → IsShort z
immediate_short kind z fits = short_of (is_shift kind) z fits

within_of : (shift : Bool) (z : ℤ) → MatchBool shift ((pos 0 ≤ℤ z) × (z <ℤ pos 32)) (IsSigned (2 ^ 11) z)
    → cond shift (up_to 31 z >>= (λ amount. Ok (pos amount))) (signed_within (2 ^ 11) z) ≡ Ok z
within_of true (pos n) fits = rw (up_to_again 31 n (omega (arith, ints))) refl
within_of true (negsuc n) fits = absurd (omega (arith, ints))
within_of false z fits = signed_again (2 ^ 11) z fits

within_again : (kind : OpImmKind) (z : ℤ) → FitsImmediate kind z → immediate_within kind z ≡ Ok z
unfolding immediate_within
within_again kind z fits = within_of (is_shift kind) z fits

immediate_again : (kind : OpImmKind) (a b : ℕ) (z : ℤ) → a < 32 → b < 32 → FitsImmediate kind z → immediate_at kind (32 ∷ three (register_name a) (register_name b) (signed_decimal z)) ≡ Ok (instr.OpImm kind a b z)
unfolding immediate_at
immediate_again kind a b z r s fits =
    let short = immediate_short kind z fits in
    let operands = pair_again a b (signed_decimal z) r s (signed_piece z short) in
    rw (operands.0, operands.1, number_again z short, within_again kind z fits) refl

registers_again : (kind : OpKind) (a b c : ℕ) → a < 32 → b < 32 → c < 32 → registers_at kind (32 ∷ three (register_name a) (register_name b) (register_name c)) ≡ Ok (instr.Op kind a b c)
unfolding registers_at
registers_again kind a b c r s t =
    let operands = pair_again a b (register_name c) r s (reg_piece c t) in
    rw (operands.0, operands.1, (register_again c t).0) refl

sets_again : (a b : ℕ) → a < 16 → b < 16 → sets_at (32 ∷ two (set_name a) (set_name b)) ≡ Ok (instr.Fence 0 a b 0 0)
unfolding sets_at
sets_again a b r s =
    let p = set_piece a r in
    let q = set_piece b s in
    rw (first_before (set_name a) (32 ∷ set_name b) p, second_alone (set_name a) (set_name b) p q, (set_again a r).0, (set_again b s).0) refl

address_again : (aq rl : Bool) (a b : ℕ) → a < 32 → b < 32 → address_at aq rl (32 ∷ two (register_name a) (address_text b)) ≡ Ok (instr.Lr a b aq rl)
unfolding address_at
address_again aq rl a b r s =
    let p = reg_piece a r in
    let q = address_piece b s in
    rw (first_before (register_name a) (32 ∷ address_text b) p, second_alone (register_name a) (address_text b) p q, (register_again a r).0, (register_again b s).4) refl

exchange_again : (a b c : ℕ) → a < 32 → b < 32 → c < 32 → exchange_at (32 ∷ three (register_name a) (register_name c) (address_text b)) ≡ Ok (record { rd = a; rs1 = b; rs2 = c })
unfolding exchange_at
exchange_again a b c r s t =
    let operands = pair_again a c (address_text b) r t (address_piece b s) in
    rw (operands.0, operands.1, (register_again b s).4) refl

plain_again : (w : ℕ) → w < 2 ^ 32 → plain_at (32 ∷ word_text w) ≡ Ok w
unfolding plain_at
plain_again w small =
    rw (first_alone (word_text w) (word_piece w), word_again w small, up_to_again greatest_word w (omega arith)) refl

-- ---- items

fence_of : (mode : Bool) (fm pred succ : ℕ) → (fm == 0) ≡ mode → pred < 16 → succ < 16 → (mode || (fm == 8 && pred == 3 && succ == 3)) ≡ true
    → IsRead (row_text (cond mode (row.Fence, operands.Sets pred succ) (row.FenceTso, operands.Bare))) (item.Instr (instr.Fence fm pred succ 0 0))
unfolding item_at
fence_of true fm pred succ e p s told =
    rw (eqb-true fm 0 e) (two_read row.Fence (set_name pred) (set_name succ) _ (set_piece pred p) (set_piece succ s) refl (λ labels items. rw (sets_again pred succ p s) refl))
fence_of false fm pred succ e p s told =
    let parts = and_parts (fm == 8 && pred == 3) (succ == 3) told in
    let front = and_parts (fm == 8) (pred == 3) parts.0 in
    rw (eqb-true fm 8 front.0, eqb-true pred 3 front.1, eqb-true succ 3 parts.1) (bare_read row.FenceTso _ refl (λ labels items. refl))

fence_read : (fm pred succ rd rs1 : ℕ) → pred < 16 → succ < 16 → has_text (instr.Fence fm pred succ rd rs1) ≡ true → IsRead (row_text (fence_row fm pred succ)) (item.Instr (instr.Fence fm pred succ rd rs1))
fence_read fm pred succ rd rs1 p s told =
    let parts = and_parts (rd == 0 && rs1 == 0) (fm == 0 || (fm == 8 && pred == 3 && succ == 3)) told in
    let zeros = and_parts (rd == 0) (rs1 == 0) parts.0 in
    rw (eqb-true rd 0 zeros.0, eqb-true rs1 0 zeros.1) (fence_of (fm == 0) fm pred succ refl p s parts.1)

pub instr_read : (i : Instr) → Fits i → has_text i ≡ true → IsRead (instr_text i) (item.Instr i)
unfolding instr_text instr_row Fits item_at stored_at atomic_at
instr_read (instr.Lui rd imm) fits told = two_read row.Lui _ _ _ (reg_piece rd fits.0) (decimal_piece (imm / 2 ^ 12) (omega arith)) refl (λ labels items. rw (upper_again rd imm fits.0 fits.1 fits.2) refl)
instr_read (instr.Auipc rd imm) fits told = two_read row.Auipc _ _ _ (reg_piece rd fits.0) (decimal_piece (imm / 2 ^ 12) (omega arith)) refl (λ labels items. rw (upper_again rd imm fits.0 fits.1 fits.2) refl)
instr_read (instr.Jal rd z) fits told = two_read row.Jal _ _ _ (reg_piece rd fits.0) (signed_piece z (short_from (2 ^ 20) z (omega arith) fits.1)) refl (λ labels items. rw (jump_again labels items rd z fits.0 fits.1 fits.2) refl)
instr_read (instr.Jalr rd rs1 z) fits told = two_read row.Jalr _ _ _ (reg_piece rd fits.0) (based_piece z rs1 (short_from (2 ^ 11) z (omega arith) fits.2) fits.1) refl (λ labels items. rw (based_at_again rd rs1 z fits.0 fits.1 fits.2) refl)
instr_read (instr.Branch kind rs1 rs2 z) fits told = three_read (row.Branch kind) _ _ _ _ (reg_piece rs1 fits.0) (reg_piece rs2 fits.1) (signed_piece z (short_from (2 ^ 12) z (omega arith) fits.2)) refl (λ labels items. rw (branch_again kind labels items rs1 rs2 z fits.0 fits.1 fits.2 fits.3) refl)
instr_read (instr.Load kind rd rs1 z) fits told = two_read (row.Load kind) _ _ _ (reg_piece rd fits.0) (based_piece z rs1 (short_from (2 ^ 11) z (omega arith) fits.2) fits.1) refl (λ labels items. rw (based_at_again rd rs1 z fits.0 fits.1 fits.2) refl)
instr_read (instr.Store kind rs1 rs2 z) fits told = two_read (row.Store kind) _ _ _ (reg_piece rs2 fits.1) (based_piece z rs1 (short_from (2 ^ 11) z (omega arith) fits.2) fits.0) refl (λ labels items. rw (based_at_again rs2 rs1 z fits.1 fits.0 fits.2) refl)
instr_read (instr.OpImm kind rd rs1 z) fits told = three_read (row.OpImm kind) _ _ _ _ (reg_piece rd fits.0) (reg_piece rs1 fits.1) (signed_piece z (immediate_short kind z fits.2)) refl (λ labels items. rw (immediate_again kind rd rs1 z fits.0 fits.1 fits.2) refl)
instr_read (instr.Op kind rd rs1 rs2) fits told = three_read (row.Op kind) _ _ _ _ (reg_piece rd fits.0) (reg_piece rs1 fits.1) (reg_piece rs2 fits.2) refl (λ labels items. rw (registers_again kind rd rs1 rs2 fits.0 fits.1 fits.2) refl)
instr_read (instr.Fence fm pred succ rd rs1) fits told = fence_read fm pred succ rd rs1 fits.1 fits.2 told
instr_read instr.Ecall fits told = bare_read row.Ecall _ refl (λ labels items. refl)
instr_read instr.Ebreak fits told = bare_read row.Ebreak _ refl (λ labels items. refl)
instr_read (instr.Lr rd rs1 aq rl) fits told = two_read (row.Atomic atomic.Lr aq rl) _ _ _ (reg_piece rd fits.0) (address_piece rs1 fits.1) refl (λ labels items. rw (address_again aq rl rd rs1 fits.0 fits.1) refl)
instr_read (instr.Sc rd rs1 rs2 aq rl) fits told = three_read (row.Atomic atomic.Sc aq rl) _ _ _ _ (reg_piece rd fits.0) (reg_piece rs2 fits.2) (address_piece rs1 fits.1) refl (λ labels items. rw (exchange_again rd rs1 rs2 fits.0 fits.1 fits.2) refl)
instr_read (instr.Amo kind rd rs1 rs2 aq rl) fits told = three_read (row.Atomic (atomic.Amo kind) aq rl) _ _ _ _ (reg_piece rd fits.0) (reg_piece rs2 fits.2) (address_piece rs1 fits.1) refl (λ labels items. rw (exchange_again rd rs1 rs2 fits.0 fits.1 fits.2) refl)

pub word_read : (w : ℕ) → w < 2 ^ 32 → IsRead (item_text (item.Word w)) (item.Word w)
unfolding item_text item_at
word_read w small = one_read row.Word _ _ (word_piece w) refl (λ labels items. rw (plain_again w small) refl)
