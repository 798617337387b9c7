-- Adding labels line by line, as a loop does.
use Rattle.std.proofs.Common.{◌≡◌, ℕ, ◌+◌, Bool, true, false, cond, List, [], ◌∷◌, refl, sym, ap, ◌∙◌, Option, Some, None}
use Rattle.std.specs.Prelude.{is_some}
use Rattle.std.specs.Option.{option_or}
use Rattle.std.specs.Str.{bytes_eq}
use Rattle.std.proofs.lemmas.Slice.Eq.{bytes_eq-Decides}
use Rattle.rv32_text.specs.declared.labels.Defined.{Defined}
use Rattle.rv32_text.specs.Label.{items_on, label_defined, defined_on, defined_from}

or_assoc : {A : Type 0} (a b c : Option A) → option_or (option_or a b) c ≡ option_or a (option_or b c)
or_assoc None b c = refl
or_assoc (Some x) b c = refl

pub or_none : {A : Type 0} (a : Option A) → option_or a None ≡ a
or_none None = refl
or_none (Some x) = refl

pub labels_go : (line items : ℕ) (first : List ℕ) (texts : List (List ℕ)) (name : List ℕ) (old new total : Option Defined)
    → new ≡ option_or old (defined_on first (record { line = line; items = items }) name)
    → option_or old (defined_from line items (first ∷ texts) name) ≡ total
    → option_or new (defined_from (line + 1) (items + items_on first) texts name) ≡ total
unfolding defined_from
labels_go line items first texts name old new total one all =
    rw one (or_assoc old (defined_on first (record { line = line; items = items }) name) (defined_from (line + 1) (items + items_on first) texts name) ∙ all)

pub labels_end : (line items : ℕ) (texts : List (List ℕ)) (name : List ℕ) (old total : Option Defined) → texts ≡ []
    → option_or old (defined_from line items texts name) ≡ total → old ≡ total
unfolding defined_from
labels_end line items texts name old total none all =
    let same : option_or old (defined_from line items texts name) ≡ old = rw none (or_none old) in
    sym same ∙ all

-- ---- one label

bytes_same : (xs ys : List ℕ) → bytes_eq xs ys ≡ true → xs ≡ ys
bytes_same xs ys e = (bytes_eq-Decides xs ys).0 e

bytes_back : (xs ys : List ℕ) → bytes_eq xs ys ≡ true → bytes_eq ys xs ≡ true
bytes_back xs ys e = (bytes_eq-Decides ys xs).1 (sym (bytes_same xs ys e))

bytes_flip : (xs ys : List ℕ) (a b : Bool) → bytes_eq xs ys ≡ a → bytes_eq ys xs ≡ b → a ≡ b
bytes_flip xs ys true true p q = refl
bytes_flip xs ys true false p q = sym (bytes_back xs ys p) ∙ q
bytes_flip xs ys false true p q = sym p ∙ bytes_back ys xs q
bytes_flip xs ys false false p q = refl

some_first : (o : Option Defined) (b : Bool) (place : Defined) → (b ≡ true → is_some o ≡ true) → o ≡ option_or o (cond b (Some place) None)
some_first None true place some = cc (some refl)
some_first None false place some = refl
some_first (Some x) b place some = refl

-- a label that is there stays
pub stays : (f : List ℕ → Option Defined) (name cs : List ℕ) (place : Defined) → is_some (f name) ≡ true → f cs ≡ option_or (f cs) (cond (bytes_eq cs name) (Some place) None)
stays f name cs place there =
    some_first (f cs) (bytes_eq cs name) place (λ e. ap (λ (x : List ℕ). is_some (f x)) (bytes_same cs name e) ∙ there)

put_first : (old : Option Defined) (b : Bool) (place : Defined) → (b ≡ true → old ≡ None) → cond b (Some place) old ≡ option_or old (cond b (Some place) None)
put_first old true place none = rw (none refl) refl
put_first old false place none = sym (or_none old)

-- a new label is put
pub put : (f : List ℕ → Option Defined) (new : Option Defined) (name cs : List ℕ) (place : Defined) → f name ≡ None
    → new ≡ cond (bytes_eq name cs) (Some place) (f cs) → new ≡ option_or (f cs) (cond (bytes_eq cs name) (Some place) None)
put f new name cs place none after =
    let flip : bytes_eq name cs ≡ bytes_eq cs name = bytes_flip name cs (bytes_eq name cs) (bytes_eq cs name) refl refl in
    after ∙ ap (λ (b : Bool). cond b (Some place) (f cs)) flip
    ∙ put_first (f cs) (bytes_eq cs name) place (λ e. ap f (bytes_same cs name e) ∙ none)

pub none_from : (o : Option Defined) (b : Bool) → b ≡ is_some o → b ≡ false → o ≡ None
none_from None b e f = refl
none_from (Some x) b e f = cc

pub defined_label : (line name cs : List ℕ) (place : Defined) → label_defined line ≡ Some name → defined_on line place cs ≡ cond (bytes_eq cs name) (Some place) None
defined_label line name cs place e = rw e refl

pub defined_none : (line cs : List ℕ) (place : Defined) → label_defined line ≡ None → defined_on line place cs ≡ None
defined_none line cs place e = rw e refl
