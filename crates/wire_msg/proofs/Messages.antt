-- Messages: what is read is spelled so, what is spelled so is read, and no spelling begins another.
use Rattle.std.proofs.Common.{◌≡◌, ℕ, suc, Bool, true, false, cond, eqb, List, [], ◌∷◌, ◌++◌, length, Option, Some, None, refl, sym, ap, subst, ◌∙◌}
use Rattle.std.specs.Prelude.{Result, Ok, Err, IfOk}
use Rattle.std.proofs.lemmas.Bool.{eqb-true}
use Rattle.std.proofs.lemmas.List.{append-nil, nil_from_length}
use Rattle.std.proofs.lemmas.Option.{cond_some}
use Rattle.wire_msg.specs.declared.msgs.Msg.{Msg}
use Rattle.wire_msg.specs.declared.msgs.Msg.TheVariants.{Get, Fill, Deny, Back, Inv, Lower, Ack, Close, Closed, Reopen, Read, Image, Write, Zero}
use Rattle.wire_msg.specs.declared.refusals.WireRefusal.{WireRefusal}
use Rattle.wire_msg.specs.declared.refusals.WireRefusal.TheVariants.{BadFrame, NoMemory}
use Rattle.wire_msg.specs.Spelling.{kind_byte, fields_of, spelling}
use Rattle.wire_msg.specs.WellFormed.{IsWellFormed}
use Rattle.wire_msg.specs.Reading.{◌>>=◌, GivesRead, readers, kind_read, fields_read, message_read, message_of}
use Rattle.wire_msg.proofs.Fields.{IsBytes, bind_some, some_is}
use Rattle.wire_msg.proofs.KindLaws.{IsRead, Reads, get_reads, fill_reads, deny_reads, back_reads, inv_reads, lower_reads, ack_reads, close_reads, closed_reads, reopen_reads, read_reads, image_reads, write_reads, zero_reads, get_again, fill_again, deny_again, back_again, inv_again, lower_again, ack_again, close_again, closed_again, reopen_again, read_again, image_again, write_again, zero_again}

-- each reader reads its own kind
abbrev AllRead : ℕ → List (List ℕ → Option (Msg × List ℕ)) → Type 0
AllRead first [] = Unit {0}
AllRead first (reader ∷ others) = Reads first reader × AllRead (suc first) others

kind_takes : (first : ℕ) (all : List (List ℕ → Option (Msg × List ℕ))) (kind : ℕ) (bytes : List ℕ) (m : Msg × List ℕ) → AllRead first all → IsBytes bytes → kind_read first all kind bytes ≡ Some m → IsRead kind bytes m.0 m.1
unfolding kind_read
kind_takes first [] kind bytes m read h e = absurd cc
kind_takes first (reader ∷ others) kind bytes m read h e = by (eqb kind first) refl e (kind_takes (suc first) others kind bytes m read.1 h) where
  by : (b : Bool) → eqb kind first ≡ b → cond b (reader bytes) (kind_read (suc first) others kind bytes) ≡ Some m → (kind_read (suc first) others kind bytes ≡ Some m → IsRead kind bytes m.0 m.1) → IsRead kind bytes m.0 m.1
  by true same e later = subst (λ (n : ℕ). IsRead n bytes m.0 m.1) (sym (eqb-true kind first same)) (read.0 bytes m h e)
  by false same e later = later e

fields_take : (kind : ℕ) (bytes : List ℕ) (m : Msg × List ℕ) → IsBytes bytes → fields_read kind bytes ≡ Some m → IsRead kind bytes m.0 m.1
unfolding fields_read
fields_take kind bytes m h e = kind_takes 1 readers kind bytes m
    (get_reads, (fill_reads, (deny_reads, (back_reads, (inv_reads, (lower_reads, (ack_reads, (close_reads, (closed_reads, (reopen_reads, (read_reads, (image_reads, (write_reads, (zero_reads, tt)))))))))))))) h e

fields_again : (m : Msg) (rest : List ℕ) → IsWellFormed m → fields_read (kind_byte m) (fields_of m ++ rest) ≡ Some (m, rest)
unfolding fields_read kind_read
fields_again (Get page write) rest h = get_again page write rest h
fields_again (Fill page perm writable image) rest h = fill_again page perm writable image rest h
fields_again (Deny page) rest h = deny_again page rest h
fields_again (Back page image) rest h = back_again page image rest h
fields_again (Inv number range asked) rest h = inv_again number range asked rest h
fields_again (Lower number range asked) rest h = lower_again number range asked rest h
fields_again (Ack number count) rest h = ack_again number count rest h
fields_again (Close number span ends) rest h = close_again number span ends rest h
fields_again (Closed number) rest h = closed_again number rest h
fields_again (Reopen number) rest h = reopen_again number rest h
fields_again (Read phys blade page) rest h = read_again phys blade page rest h
fields_again (Image blade page image) rest h = image_again blade page image rest h
fields_again (Write phys image) rest h = write_again phys image rest h
fields_again (Zero phys pages) rest h = zero_again phys pages rest h

-- the message at the front is spelled so
message_takes : (bytes : List ℕ) (m : Msg × List ℕ) → IsBytes bytes → message_read bytes ≡ Some m → IsWellFormed m.0 × (bytes ≡ spelling m.0 ++ m.1)
unfolding message_read
message_takes [] m h e = absurd cc
message_takes (kind ∷ bytes) m h e =
    let read = fields_take kind bytes m (λ i. h (suc i)) e in
    (read.well_formed, λ i. sym read.kind_is i ∷ read.taken.parts i)

-- and a message that is spelled is the one at the front
message_again : (m : Msg) (rest : List ℕ) → IsWellFormed m → message_read (spelling m ++ rest) ≡ Some (m, rest)
unfolding message_read
message_again m rest h = fields_again m rest h

whole_takes : (bytes : List ℕ) (m : Msg) → IsBytes bytes → message_of bytes ≡ Some m → IsWellFormed m × (spelling m ≡ bytes)
unfolding message_of
whole_takes bytes m h e =
    let first = bind_some (message_read bytes) (λ m. cond (eqb (length m.1) 0) (Some m.0) None) m e in
    let end = cond_some (eqb (length first.0.1) 0) first.0.0 m first.2 in
    let read = message_takes bytes first.0 h first.1 in
    let nothing : first.0.1 ≡ [] = nil_from_length first.0.1 (eqb-true _ _ end.0) in
    let spelled : spelling first.0.0 ≡ bytes = sym (read.1 ∙ ap (λ (r : List ℕ). spelling first.0.0 ++ r) nothing ∙ append-nil (spelling first.0.0)) in
    subst (λ (x : Msg). IsWellFormed x × (spelling x ≡ bytes)) end.1 (read.0, spelled)

pub whole_again : (m : Msg) → IsWellFormed m → message_of (spelling m) ≡ Some m
unfolding message_of
whole_again m h =
    let front : message_read (spelling m) ≡ Some (m, []) = ap message_read (sym (append-nil (spelling m))) ∙ message_again m [] h in
    ap (λ (o : Option (Msg × List ℕ)). o >>= λ m. cond (eqb (length m.1) 0) (Some m.0) None) front

-- no spelling begins another
pub spelled_apart : (a b : Msg) (x y : List ℕ) → IsWellFormed a → IsWellFormed b → spelling a ++ x ≡ spelling b ++ y → (a ≡ b) × (x ≡ y)
spelled_apart a b x y p q e =
    let same : (let one : Msg × List ℕ = (a, x) in one) ≡ (b, y) = some_is (a, x) (b, y) (sym (message_again a x p) ∙ ap message_read e ∙ message_again b y q) in
    (ap (λ (z : Msg × List ℕ). z.0) same, ap (λ (z : Msg × List ℕ). z.1) same)

pub is_found : (bytes : List ℕ) (r : Result Msg WireRefusal) → IsBytes bytes → GivesRead (λ m. m) r (message_of bytes) → IfOk r (λ m. IsWellFormed m × (spelling m ≡ bytes))
is_found bytes (Ok m) h given = whole_takes bytes m h given
is_found bytes (Err e) h given = tt

pub is_refused : (bytes : List ℕ) (r : Result Msg WireRefusal) → GivesRead (λ m. m) r (message_of bytes) → r ≡ Err BadFrame → (m : Msg) → IsWellFormed m → spelling m ≡ bytes → ⊥
is_refused bytes (Ok m) given bad m' h e = absurd cc
is_refused bytes (Err NoMemory) given bad m' h e = absurd cc
is_refused bytes (Err BadFrame) given bad m h e =
    let some : message_of bytes ≡ Some m = ap message_of (sym e) ∙ whole_again m h in absurd cc
