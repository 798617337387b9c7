-- The instruction of a word is the one that the word spells.
use Rattle.std.proofs.Common.{◌≡◌, ℕ, ℤ, Bool, cond, eqb, Option, Some, None, refl, ap, ◌∙◌, subst}
use Rattle.std.specs.Option.{option_map}
use Rattle.std.proofs.lemmas.Bool.{eqb-true}
use Rattle.std.proofs.lemmas.Option.{none-some, same_Some}
use Rattle.rv32_decode.specs.declared.instruction.AmoKind.{AmoKind}
use Rattle.rv32_decode.specs.declared.instruction.AmoKind.TheVariants as amo
use Rattle.rv32_decode.specs.declared.instruction.Instr.{Instr}
use Rattle.rv32_decode.specs.declared.instruction.Instr.TheVariants.{Lui, Auipc, Jal, Jalr, Branch, Load, Store, OpImm, Op, Fence, Ecall, Ebreak, Lr, Sc, Amo}
use Rattle.rv32_decode.specs.Fields.{field, opcode_of, rd_of, funct3_of, rs1_of, rs2_of, funct7_of, funct5_of, imm_i}
use Rattle.rv32_decode.specs.Kinds.{branch_kind, load_kind, store_kind, op_imm_kind, op_kind, amo_kind, branch_kinds, load_kinds, store_kinds, amo_kinds, branch_funct3, load_funct3, store_funct3, op_funct3, amo_funct5}
use Rattle.rv32_decode.specs.Instr.{Spells, instr_of, row_of, jalr_of, branch_of, load_of, store_of, op_imm_of, op_of, fence_of, system_of, lr_of, amo_of, atomic_of, bit_of}
use Rattle.rv32_decode.proofs.Codes.{chosen, option_map_some, code_found, branch_kind-at, load_kind-at, store_kind-at, op_imm_kind-code, op_imm_kind-at, op_kind-code, op_kind-at, amo_kind-at}

-- ---- what is read is spelled

-- which opcode it is
when : {P : Type 0} (a b : ℕ) (x y : Option Instr) (i : Instr) → cond (eqb a b) x y ≡ Some i → (a ≡ b → x ≡ Some i → P) → (y ≡ Some i → P) → P
when a b x y i e f g = chosen (eqb a b) x y (Some i) e (λ t s. f (eqb-true a b t) s) g

spelled : (w : ℕ) (i j : Instr) → Spells w i → Some i ≡ Some j → Spells w j
spelled w i j s e = subst (Spells w) (same_Some i j e) s

jalr_spelled : (w : ℕ) (i : Instr) → opcode_of w ≡ 0b1100111 → jalr_of w ≡ Some i → Spells w i
unfolding Spells jalr_of
jalr_spelled w i h e =
    when (funct3_of w) 0 (Some (Jalr (rd_of w) (rs1_of w) (imm_i w))) None i e
    (λ c s. spelled w (Jalr (rd_of w) (rs1_of w) (imm_i w)) i (h, c, refl, refl, refl) s)
    (λ n. absurd (none-some i n))

-- what a kind that was found is made into
kind_spelled : {K : Type 0} (w : ℕ) (i : Instr) (make : K → Instr) (found : Option K) → option_map make found ≡ Some i → ((k : K) → found ≡ Some k → Spells w (make k)) → Spells w i
kind_spelled w i make found e each = option_map_some make found i e (λ k is s. subst (Spells w) s (each k is))

fence_spelled : (w : ℕ) (i : Instr) → opcode_of w ≡ 0b0001111 → fence_of w ≡ Some i → Spells w i
unfolding Spells fence_of
fence_spelled w i h e =
    let fence : Instr = Fence (field w 31 28) (field w 27 24) (field w 23 20) (rd_of w) (rs1_of w) in
    when (funct3_of w) 0 (Some fence) None i e
    (λ c s. spelled w fence i (h, c, refl, refl, refl, refl, refl) s)
    (λ n. absurd (none-some i n))

system_spelled : (w : ℕ) (i : Instr) → system_of w ≡ Some i → Spells w i
unfolding Spells system_of
system_spelled w i e =
    when w 0x00000073 (Some Ecall) (cond (eqb w 0x00100073) (Some Ebreak) None) i e
    (λ c s. spelled w Ecall i c s)
    (λ f. when w 0x00100073 (Some Ebreak) None i f
    (λ c s. spelled w Ebreak i c s)
    (λ n. absurd (none-some i n)))

lr_spelled : (w : ℕ) (i : Instr) → opcode_of w ≡ 0b0101111 → funct3_of w ≡ 0b010 → funct5_of w ≡ 0b00010 → lr_of w ≡ Some i → Spells w i
unfolding Spells lr_of
lr_spelled w i h k f e =
    let lr : Instr = Lr (rd_of w) (rs1_of w) (bit_of w 26) (bit_of w 25) in
    when (rs2_of w) 0 (Some lr) None i e
    (λ c s. spelled w lr i (h, k, f, c, refl, refl, refl, refl) s)
    (λ n. absurd (none-some i n))

amo_spelled : (w : ℕ) (i : Instr) → opcode_of w ≡ 0b0101111 → funct3_of w ≡ 0b010 → amo_of w ≡ Some i → Spells w i
unfolding Spells amo_of
amo_spelled w i h c e =
    kind_spelled w i _ _ e (λ k found. (h, c, code_found amo_funct5 amo_kinds (funct5_of w) k found, refl, refl, refl, refl, refl))

atomic_spelled : (w : ℕ) (i : Instr) → opcode_of w ≡ 0b0101111 → atomic_of w ≡ Some i → Spells w i
unfolding Spells atomic_of
atomic_spelled w i h e =
    let sc : Instr = Sc (rd_of w) (rs1_of w) (rs2_of w) (bit_of w 26) (bit_of w 25) in
    when (funct3_of w) 2 (cond (eqb (funct5_of w) 2) (lr_of w) (cond (eqb (funct5_of w) 3) (Some sc) (amo_of w))) None i e
    (λ c s. when (funct5_of w) 2 (lr_of w) (cond (eqb (funct5_of w) 3) (Some sc) (amo_of w)) i s
    (λ f r. lr_spelled w i h c f r)
    (λ r. when (funct5_of w) 3 (Some sc) (amo_of w) i r
    (λ f q. spelled w sc i (h, c, f, refl, refl, refl, refl, refl) q)
    (λ q. amo_spelled w i h c q)))
    (λ n. absurd (none-some i n))

row_spelled : (o w : ℕ) (i : Instr) → opcode_of w ≡ o → row_of o w ≡ Some i → Spells w i
unfolding row_of Spells branch_of load_of store_of op_imm_of op_of
row_spelled o w i h e =
    when o 0b0110111 _ _ i e (λ c s. spelled w _ i (h ∙ c, refl, refl) s) (λ e.
    when o 0b0010111 _ _ i e (λ c s. spelled w _ i (h ∙ c, refl, refl) s) (λ e.
    when o 0b1101111 _ _ i e (λ c s. spelled w _ i (h ∙ c, refl, refl) s) (λ e.
    when o 0b1100111 _ _ i e (λ c s. jalr_spelled w i (h ∙ c) s) (λ e.
    when o 0b1100011 _ _ i e (λ c s. kind_spelled w i _ _ s (λ k found. (h ∙ c, code_found branch_funct3 branch_kinds (funct3_of w) k found, refl, refl, refl))) (λ e.
    when o 0b0000011 _ _ i e (λ c s. kind_spelled w i _ _ s (λ k found. (h ∙ c, code_found load_funct3 load_kinds (funct3_of w) k found, refl, refl, refl))) (λ e.
    when o 0b0100011 _ _ i e (λ c s. kind_spelled w i _ _ s (λ k found. (h ∙ c, code_found store_funct3 store_kinds (funct3_of w) k found, refl, refl, refl))) (λ e.
    when o 0b0010011 _ _ i e (λ c s. kind_spelled w i _ _ s (λ k found. let both = op_imm_kind-code (funct3_of w) (funct7_of w) k found in (h ∙ c, both.0, both.1, refl, refl, refl))) (λ e.
    when o 0b0110011 _ _ i e (λ c s. kind_spelled w i _ _ s (λ k found. let both = op_kind-code (funct3_of w) (funct7_of w) k found in (h ∙ c, both.0, both.1, refl, refl, refl))) (λ e.
    when o 0b0001111 _ _ i e (λ c s. fence_spelled w i (h ∙ c) s) (λ e.
    when o 0b1110011 _ _ i e (λ c s. system_spelled w i s) (λ e.
    when o 0b0101111 _ _ i e (λ c s. atomic_spelled w i (h ∙ c) s) (λ e.
    absurd (none-some i e)))))))))))))

pub instr_of-spelled : (w : ℕ) (i : Instr) → instr_of w ≡ Some i → Spells w i
unfolding instr_of
instr_of-spelled w i e = row_spelled (opcode_of w) w i refl e

-- ---- what is spelled is read

jalr_read : (w rd rs1 : ℕ) (offset : ℤ) → Spells w (Jalr rd rs1 offset) → jalr_of w ≡ Some (Jalr rd rs1 offset)
unfolding Spells jalr_of
jalr_read w rd rs1 offset h =
    ap (λ f. cond (eqb f 0) (Some (Jalr (rd_of w) (rs1_of w) (imm_i w))) None) h.1 ∙ cc

-- what a kind at its code is made into
kind_read : {K : Type 0} (make : K → Instr) (found : Option K) (k : K) (i : Instr) → found ≡ Some k → make k ≡ i → option_map make found ≡ Some i
kind_read make found k i e is = ap (option_map make) e ∙ ap Some is

fence_read : (w fm pred succ rd rs1 : ℕ) → Spells w (Fence fm pred succ rd rs1) → fence_of w ≡ Some (Fence fm pred succ rd rs1)
unfolding Spells fence_of
fence_read w fm pred succ rd rs1 h =
    ap (λ f. cond (eqb f 0) (Some (Fence (field w 31 28) (field w 27 24) (field w 23 20) (rd_of w) (rs1_of w))) None) h.1 ∙ cc

atomic_at : (w : ℕ) → funct3_of w ≡ 2 → (f : ℕ) → funct5_of w ≡ f → atomic_of w ≡ cond (eqb f 2) (lr_of w) (cond (eqb f 3) (Some (Sc (rd_of w) (rs1_of w) (rs2_of w) (bit_of w 26) (bit_of w 25))) (amo_of w))
unfolding atomic_of
atomic_at w h f e =
    ap (λ n. cond (eqb n 2) (cond (eqb (funct5_of w) 2) (lr_of w) (cond (eqb (funct5_of w) 3) (Some (Sc (rd_of w) (rs1_of w) (rs2_of w) (bit_of w 26) (bit_of w 25))) (amo_of w))) None) h
    ∙ ap (λ n. cond (eqb n 2) (lr_of w) (cond (eqb n 3) (Some (Sc (rd_of w) (rs1_of w) (rs2_of w) (bit_of w 26) (bit_of w 25))) (amo_of w))) e

lr_read : (w rd rs1 : ℕ) (aq rl : Bool) → Spells w (Lr rd rs1 aq rl) → atomic_of w ≡ Some (Lr rd rs1 aq rl)
unfolding Spells lr_of
lr_read w rd rs1 aq rl h =
    atomic_at w h.1 2 h.2 ∙ ap (λ n. cond (eqb n 0) (Some (Lr (rd_of w) (rs1_of w) (bit_of w 26) (bit_of w 25))) None) h.3 ∙ cc

sc_read : (w rd rs1 rs2 : ℕ) (aq rl : Bool) → Spells w (Sc rd rs1 rs2 aq rl) → atomic_of w ≡ Some (Sc rd rs1 rs2 aq rl)
unfolding Spells
sc_read w rd rs1 rs2 aq rl h = atomic_at w h.1 3 h.2 ∙ cc

-- no AMO has the code of LR or SC
amo_at : (w : ℕ) (kind : AmoKind) (x y : Option Instr) → cond (eqb (amo_funct5 kind) 2) x (cond (eqb (amo_funct5 kind) 3) y (amo_of w)) ≡ amo_of w
amo_at w amo.Swap x y = refl
amo_at w _ x y = refl

amo_read : (w : ℕ) (kind : AmoKind) (rd rs1 rs2 : ℕ) (aq rl : Bool) → Spells w (Amo kind rd rs1 rs2 aq rl) → atomic_of w ≡ Some (Amo kind rd rs1 rs2 aq rl)
unfolding Spells amo_of
amo_read w kind rd rs1 rs2 aq rl h =
    atomic_at w h.1 (amo_funct5 kind) h.2 ∙ amo_at w kind _ _ ∙ kind_read _ _ kind _ (ap amo_kind h.2 ∙ amo_kind-at kind) cc

at_opcode : (w o : ℕ) → opcode_of w ≡ o → instr_of w ≡ row_of o w
unfolding instr_of
at_opcode w o h = ap (λ o. row_of o w) h

pub spelled-instr_of : (w : ℕ) (i : Instr) → Spells w i → instr_of w ≡ Some i
unfolding Spells row_of system_of instr_of branch_of load_of store_of op_imm_of op_of
spelled-instr_of w (Lui rd imm) h = at_opcode w 0b0110111 h.0 ∙ cc
spelled-instr_of w (Auipc rd imm) h = at_opcode w 0b0010111 h.0 ∙ cc
spelled-instr_of w (Jal rd offset) h = at_opcode w 0b1101111 h.0 ∙ cc
spelled-instr_of w (Jalr rd rs1 offset) h = at_opcode w 0b1100111 h.0 ∙ jalr_read w rd rs1 offset h
spelled-instr_of w (Branch kind rs1 rs2 offset) h = at_opcode w 0b1100011 h.0 ∙ kind_read _ _ kind _ (ap branch_kind h.1 ∙ branch_kind-at kind) cc
spelled-instr_of w (Load kind rd rs1 offset) h = at_opcode w 0b0000011 h.0 ∙ kind_read _ _ kind _ (ap load_kind h.1 ∙ load_kind-at kind) cc
spelled-instr_of w (Store kind rs1 rs2 offset) h = at_opcode w 0b0100011 h.0 ∙ kind_read _ _ kind _ (ap store_kind h.1 ∙ store_kind-at kind) cc
spelled-instr_of w (OpImm kind rd rs1 imm) h = at_opcode w 0b0010011 h.0 ∙ kind_read _ _ kind _ (ap (λ f. op_imm_kind f (funct7_of w)) h.1 ∙ op_imm_kind-at kind (funct7_of w) h.2) cc
spelled-instr_of w (Op kind rd rs1 rs2) h = at_opcode w 0b0110011 h.0 ∙ kind_read _ _ kind _ (ap (λ f. op_kind f (funct7_of w)) h.1 ∙ ap (op_kind (op_funct3 kind)) h.2 ∙ op_kind-at kind) cc
spelled-instr_of w (Fence fm pred succ rd rs1) h = at_opcode w 0b0001111 h.0 ∙ fence_read w fm pred succ rd rs1 h
spelled-instr_of w Ecall h = ap instr_of h
spelled-instr_of w Ebreak h = ap instr_of h
spelled-instr_of w (Lr rd rs1 aq rl) h = at_opcode w 0b0101111 h.0 ∙ lr_read w rd rs1 aq rl h
spelled-instr_of w (Sc rd rs1 rs2 aq rl) h = at_opcode w 0b0101111 h.0 ∙ sc_read w rd rs1 rs2 aq rl h
spelled-instr_of w (Amo kind rd rs1 rs2 aq rl) h = at_opcode w 0b0101111 h.0 ∙ amo_read w kind rd rs1 rs2 aq rl h
