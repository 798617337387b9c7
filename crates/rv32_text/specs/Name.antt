-- The names of registers, rows and sets of accesses.
use Rattle.std.specs.Prelude.{ℕ, ◌-◌, Bool, true, false, List, [], ◌∷◌, ◌++◌, length, take, drop, slice_index_or, codes, find, position, Option, Some, None, if◌then◌else◌}
use Rattle.std.specs.Option.{option_map, option_or}
use Rattle.std.specs.Str.{bytes_eq}
use Rattle.rv32_decode.specs.declared.instruction.BranchKind.{BranchKind}
use Rattle.rv32_decode.specs.declared.instruction.BranchKind.TheVariants as branch
use Rattle.rv32_decode.specs.declared.instruction.LoadKind.{LoadKind}
use Rattle.rv32_decode.specs.declared.instruction.LoadKind.TheVariants as load
use Rattle.rv32_decode.specs.declared.instruction.StoreKind.{StoreKind}
use Rattle.rv32_decode.specs.declared.instruction.StoreKind.TheVariants as store
use Rattle.rv32_decode.specs.declared.instruction.OpImmKind.{OpImmKind}
use Rattle.rv32_decode.specs.declared.instruction.OpImmKind.TheVariants as op_imm
use Rattle.rv32_decode.specs.declared.instruction.OpKind.{OpKind}
use Rattle.rv32_decode.specs.declared.instruction.OpKind.TheVariants as op
use Rattle.rv32_decode.specs.declared.instruction.AmoKind.{AmoKind}
use Rattle.rv32_decode.specs.declared.instruction.AmoKind.TheVariants as amo
use Rattle.rv32_text.specs.declared.rows.Atomic.{Atomic}
use Rattle.rv32_text.specs.declared.rows.Atomic.TheVariants as atomic
use Rattle.rv32_text.specs.declared.rows.Row.{Row}
use Rattle.rv32_text.specs.declared.rows.Row.TheVariants as row

-- ---- registers

-- by number
abbrev pub number_names : List (List ℕ)
number_names =
    codes "x0" ∷ codes "x1" ∷ codes "x2" ∷ codes "x3" ∷ codes "x4" ∷ codes "x5" ∷ codes "x6" ∷ codes "x7" ∷
    codes "x8" ∷ codes "x9" ∷ codes "x10" ∷ codes "x11" ∷ codes "x12" ∷ codes "x13" ∷ codes "x14" ∷ codes "x15" ∷
    codes "x16" ∷ codes "x17" ∷ codes "x18" ∷ codes "x19" ∷ codes "x20" ∷ codes "x21" ∷ codes "x22" ∷ codes "x23" ∷
    codes "x24" ∷ codes "x25" ∷ codes "x26" ∷ codes "x27" ∷ codes "x28" ∷ codes "x29" ∷ codes "x30" ∷ codes "x31" ∷ []

-- by use, as the calling convention of RISC-V names them
abbrev pub use_names : List (List ℕ)
use_names =
    codes "zero" ∷ codes "ra" ∷ codes "sp" ∷ codes "gp" ∷ codes "tp" ∷ codes "t0" ∷ codes "t1" ∷ codes "t2" ∷
    codes "s0" ∷ codes "s1" ∷ codes "a0" ∷ codes "a1" ∷ codes "a2" ∷ codes "a3" ∷ codes "a4" ∷ codes "a5" ∷
    codes "a6" ∷ codes "a7" ∷ codes "s2" ∷ codes "s3" ∷ codes "s4" ∷ codes "s5" ∷ codes "s6" ∷ codes "s7" ∷
    codes "s8" ∷ codes "s9" ∷ codes "s10" ∷ codes "s11" ∷ codes "t3" ∷ codes "t4" ∷ codes "t5" ∷ codes "t6" ∷ []

-- the place of a text among names
abbrev pub place_among : List (List ℕ) → List ℕ → Option ℕ
place_among names text = position (bytes_eq text) names

unfoldable pub number_named : List ℕ → Option ℕ
number_named text = place_among number_names text

unfoldable pub use_named : List ℕ → Option ℕ
use_named text = place_among use_names text

-- the register that a text names, if it names one; s0 is also called fp
unfoldable pub register_of : List ℕ → Option ℕ
register_of text = option_or (number_named text) (option_or (use_named text) (if bytes_eq text (codes "fp") then Some 8 else None))

abbrev pub register_name : ℕ → List ℕ
register_name number = slice_index_or number_names number []

-- ---- sets of accesses

-- by number: i is worth 8, o 4, r 2 and w 1
abbrev pub set_names : List (List ℕ)
set_names =
    codes "0" ∷ codes "w" ∷ codes "r" ∷ codes "rw" ∷ codes "o" ∷ codes "ow" ∷ codes "or" ∷ codes "orw" ∷
    codes "i" ∷ codes "iw" ∷ codes "ir" ∷ codes "irw" ∷ codes "io" ∷ codes "iow" ∷ codes "ior" ∷ codes "iorw" ∷ []

unfoldable pub set_of : List ℕ → Option ℕ
set_of text = place_among set_names text

abbrev pub set_name : ℕ → List ℕ
set_name number = slice_index_or set_names number []

-- ---- rows

abbrev pub branch_name : BranchKind → List ℕ
branch_name branch.Beq = codes "beq"
branch_name branch.Bne = codes "bne"
branch_name branch.Blt = codes "blt"
branch_name branch.Bge = codes "bge"
branch_name branch.Bltu = codes "bltu"
branch_name branch.Bgeu = codes "bgeu"

abbrev pub load_name : LoadKind → List ℕ
load_name load.Lb = codes "lb"
load_name load.Lh = codes "lh"
load_name load.Lw = codes "lw"
load_name load.Lbu = codes "lbu"
load_name load.Lhu = codes "lhu"

abbrev pub store_name : StoreKind → List ℕ
store_name store.Sb = codes "sb"
store_name store.Sh = codes "sh"
store_name store.Sw = codes "sw"

abbrev pub op_imm_name : OpImmKind → List ℕ
op_imm_name op_imm.Addi = codes "addi"
op_imm_name op_imm.Slti = codes "slti"
op_imm_name op_imm.Sltiu = codes "sltiu"
op_imm_name op_imm.Xori = codes "xori"
op_imm_name op_imm.Ori = codes "ori"
op_imm_name op_imm.Andi = codes "andi"
op_imm_name op_imm.Slli = codes "slli"
op_imm_name op_imm.Srli = codes "srli"
op_imm_name op_imm.Srai = codes "srai"

abbrev pub op_name : OpKind → List ℕ
op_name op.Add = codes "add"
op_name op.Sll = codes "sll"
op_name op.Slt = codes "slt"
op_name op.Sltu = codes "sltu"
op_name op.Xor = codes "xor"
op_name op.Srl = codes "srl"
op_name op.Or = codes "or"
op_name op.And = codes "and"
op_name op.Sub = codes "sub"
op_name op.Sra = codes "sra"

abbrev pub amo_name : AmoKind → List ℕ
amo_name amo.Swap = codes "amoswap.w"
amo_name amo.Add = codes "amoadd.w"
amo_name amo.Xor = codes "amoxor.w"
amo_name amo.And = codes "amoand.w"
amo_name amo.Or = codes "amoor.w"
amo_name amo.Min = codes "amomin.w"
amo_name amo.Max = codes "amomax.w"
amo_name amo.Minu = codes "amominu.w"
amo_name amo.Maxu = codes "amomaxu.w"

-- without the ordering that may stand behind it
abbrev pub atomic_name : Atomic → List ℕ
atomic_name atomic.Lr = codes "lr.w"
atomic_name atomic.Sc = codes "sc.w"
atomic_name (atomic.Amo kind) = amo_name kind

-- acquire, and release
abbrev pub ordering_name : Bool → Bool → List ℕ
ordering_name true true = codes ".aqrl"
ordering_name true false = codes ".aq"
ordering_name false true = codes ".rl"
ordering_name false false = []

-- without the ordering of an atomic row
abbrev pub base_name : Row → List ℕ
base_name row.Lui = codes "lui"
base_name row.Auipc = codes "auipc"
base_name row.Jal = codes "jal"
base_name row.Jalr = codes "jalr"
base_name (row.Branch kind) = branch_name kind
base_name (row.Load kind) = load_name kind
base_name (row.Store kind) = store_name kind
base_name (row.OpImm kind) = op_imm_name kind
base_name (row.Op kind) = op_name kind
base_name row.Fence = codes "fence"
base_name row.FenceTso = codes "fence.tso"
base_name row.Ecall = codes "ecall"
base_name row.Ebreak = codes "ebreak"
base_name (row.Atomic kind aq rl) = atomic_name kind
base_name row.Word = codes ".word"

abbrev pub ending_name : Row → List ℕ
ending_name (row.Atomic kind aq rl) = ordering_name aq rl
ending_name _ = []

abbrev pub row_name : Row → List ℕ
row_name r = base_name r ++ ending_name r

-- the rows without an ordering
abbrev pub plain_rows : List Row
plain_rows =
    row.Lui ∷ row.Auipc ∷ row.Jal ∷ row.Jalr ∷
    row.Branch branch.Beq ∷ row.Branch branch.Bne ∷ row.Branch branch.Blt ∷ row.Branch branch.Bge ∷ row.Branch branch.Bltu ∷ row.Branch branch.Bgeu ∷
    row.Load load.Lb ∷ row.Load load.Lh ∷ row.Load load.Lw ∷ row.Load load.Lbu ∷ row.Load load.Lhu ∷
    row.Store store.Sb ∷ row.Store store.Sh ∷ row.Store store.Sw ∷
    row.OpImm op_imm.Addi ∷ row.OpImm op_imm.Slti ∷ row.OpImm op_imm.Sltiu ∷ row.OpImm op_imm.Xori ∷ row.OpImm op_imm.Ori ∷
    row.OpImm op_imm.Andi ∷ row.OpImm op_imm.Slli ∷ row.OpImm op_imm.Srli ∷ row.OpImm op_imm.Srai ∷
    row.Op op.Add ∷ row.Op op.Sll ∷ row.Op op.Slt ∷ row.Op op.Sltu ∷ row.Op op.Xor ∷
    row.Op op.Srl ∷ row.Op op.Or ∷ row.Op op.And ∷ row.Op op.Sub ∷ row.Op op.Sra ∷
    row.Fence ∷ row.FenceTso ∷ row.Ecall ∷ row.Ebreak ∷ row.Word ∷ []

abbrev pub atomics : List Atomic
atomics =
    atomic.Lr ∷ atomic.Sc ∷ atomic.Amo amo.Swap ∷ atomic.Amo amo.Add ∷ atomic.Amo amo.Xor ∷ atomic.Amo amo.And ∷ atomic.Amo amo.Or ∷
    atomic.Amo amo.Min ∷ atomic.Amo amo.Max ∷ atomic.Amo amo.Minu ∷ atomic.Amo amo.Maxu ∷ []

-- the first of these rows that has the name
unfoldable pub named_among : List Row → List ℕ → Option Row
named_among rows text = find (λ r. bytes_eq text (base_name r)) rows

unfoldable pub plain_of : List ℕ → Option Row
plain_of text = named_among plain_rows text

-- an atomic row with this ordering, by its name without it
unfoldable pub ordered_of : List ℕ → Bool → Bool → Option Row
ordered_of text aq rl = option_map (λ kind. row.Atomic kind aq rl) (find (λ kind. bytes_eq text (atomic_name kind)) atomics)

-- whether a text ends so
abbrev pub ends_in : List ℕ → List ℕ → Bool
ends_in text ending = bytes_eq (drop (length text - length ending) text) ending

-- what stands before an ending
abbrev pub before_ending : List ℕ → List ℕ → List ℕ
before_ending text ending = take (length text - length ending) text

-- an atomic row by its name, behind which .aq, .rl or .aqrl may stand
unfoldable pub atomic_named : List ℕ → Option Row
atomic_named text =
    if ends_in text (codes ".aqrl") then ordered_of (before_ending text (codes ".aqrl")) true true else
    if ends_in text (codes ".aq") then ordered_of (before_ending text (codes ".aq")) true false else
    if ends_in text (codes ".rl") then ordered_of (before_ending text (codes ".rl")) false true else
    ordered_of text false false

-- the row that a text names, if it names one
unfoldable pub row_named : List ℕ → Option Row
row_named text = option_or (plain_of text) (atomic_named text)
