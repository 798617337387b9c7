-- Fields in general: what a reader takes is spelled so, and what is spelled so is read again, whatever follows.
use Rattle.std.proofs.Common.{◌≡◌, ℕ, suc, ◌+◌, ◌^◌, ◌<◌, ◌≤◌, Bool, true, false, cond, ltb, List, [], ◌∷◌, ◌++◌, length, get_or, take, drop, Option, Some, None, refl, sym, ap, subst, ◌∙◌, append_assoc, arith, inl, inr}
use Rattle.std.specs.Int.{w32, to_be_bytes, from_be_bytes}
use Rattle.std.proofs.lemmas.Bool.{cases_lt, ltb-false, le-ltb}
use Rattle.std.proofs.lemmas.List.{take_at, drop_at, take-append-drop, length-append, length-take, length-take-le, get_or-drop, get_or-take, get_or_past}
use Rattle.std.proofs.lemmas.Option.{cond_some}
use Rattle.std.proofs.lemmas.Nat.{be_bytes_4}
use Rattle.byteorder.specs.Endian.{big_number}
use Rattle.byteorder.specs.Numbers.{big_number-reads_back}
use Rattle.wire_msg.specs.Spelling.{number_bytes}
use Rattle.wire_msg.specs.Reading.{◌>>=◌, then_read, where_read, parsed_read, made_read, number_read, byte_read, bytes_read}

abbrev pub IsBytes : List ℕ → Type 0
IsBytes bytes = (i : ℕ) → get_or bytes i 0 < 256

pub IsBytes-drop : (n : ℕ) (bytes : List ℕ) → IsBytes bytes → IsBytes (drop n bytes)
IsBytes-drop n bytes h i = rw get_or-drop (h (n + i))

pub IsBytes-take : (n : ℕ) (bytes : List ℕ) → IsBytes bytes → IsBytes (take n bytes)
IsBytes-take n bytes h i =
    elim (cases_lt i n) [
      | inl lt ↦ rw (get_or-take n bytes i 0 lt) (h i)
      | inr le ↦ rw (get_or_past (take n bytes) i 0 (omega (arith, length-take n bytes))) (omega arith)
    ]

-- a step that gave something
pub bind_some : {A B : Type 0} (o : Option A) (f : A → Option B) (y : B) → (o >>= f) ≡ Some y → (x : A) × (o ≡ Some x) × (f x ≡ Some y)
bind_some (Some x) f y e = (x, refl, e)
bind_some None f y e = absurd cc

pub some_is : {A : Type 0} (x y : A) → Some x ≡ Some y → x ≡ y
some_is x y e = cc

-- a test that let something through
pub guard_some : {A : Type 0} (b : Bool) (x y : A) → cond b None (Some x) ≡ Some y → (b ≡ false) × (x ≡ y)
guard_some true x y e = absurd cc
guard_some false x y e = (refl, cc)

-- what a reader took from the front
pub record Takes (bytes text rest : List ℕ) : Type 0 where
  pub parts : bytes ≡ text ++ rest
  pub rest_fits : IsBytes rest

-- a reader of fields that have a spelling
pub record IsField {A : Type 0} (at : List ℕ → Option (A × List ℕ)) (spell : A → List ℕ) (fits : A → Type 0) : Type 0 where
  pub takes : (bytes : List ℕ) (x : A × List ℕ) → IsBytes bytes → at bytes ≡ Some x → Takes bytes (spell x.0) x.1 × fits x.0
  pub again : (x : A) (rest : List ℕ) → fits x → at (spell x ++ rest) ≡ Some (x, rest)

-- ---- numbers, bytes and runs of bytes

four : (a b c d : ℕ) (rest : List ℕ) → IsBytes (a ∷ b ∷ c ∷ d ∷ rest) → number_bytes (big_number 4 (a ∷ b ∷ c ∷ d ∷ rest)) ≡ a ∷ b ∷ c ∷ d ∷ []
unfolding number_bytes
four a b c d rest h =
    let same : big_number 4 (a ∷ b ∷ c ∷ d ∷ rest) ≡ from_be_bytes w32 (a ∷ b ∷ c ∷ d ∷ []) = omega arith in
    be_bytes_4 (a ∷ b ∷ c ∷ d ∷ []) (big_number 4 (a ∷ b ∷ c ∷ d ∷ rest)) refl (IsBytes-take 4 (a ∷ b ∷ c ∷ d ∷ rest) h) same

number_front : (bytes : List ℕ) → 4 ≤ length bytes → IsBytes bytes → bytes ≡ number_bytes (big_number 4 bytes) ++ drop 4 bytes
number_front [] long h = absurd (omega arith)
number_front (a ∷ []) long h = absurd (omega arith)
number_front (a ∷ b ∷ []) long h = absurd (omega arith)
number_front (a ∷ b ∷ c ∷ []) long h = absurd (omega arith)
number_front (a ∷ b ∷ c ∷ d ∷ rest) long h = ap (λ (t : List ℕ). t ++ rest) (sym (four a b c d rest h))

number_takes : (bytes : List ℕ) (x : ℕ × List ℕ) → IsBytes bytes → number_read bytes ≡ Some x → Takes bytes (number_bytes x.0) x.1 × (x.0 < 2 ^ 32)
unfolding number_read
number_takes bytes x h e =
    let g = guard_some (ltb (length bytes) 4) (big_number 4 bytes, drop 4 bytes) x e in
    let long : 4 ≤ length bytes = ltb-false _ _ g.0 in
    let bound : big_number 4 bytes < 2 ^ 32 = omega (arith, h 0, h 1, h 2, h 3) in
    subst (λ (y : ℕ × List ℕ). Takes bytes (number_bytes y.0) y.1 × (y.0 < 2 ^ 32)) g.1
    (record { parts = number_front bytes long h; rest_fits = IsBytes-drop 4 bytes h }, bound)

number_again : (n : ℕ) (rest : List ℕ) → n < 2 ^ 32 → number_read (number_bytes n ++ rest) ≡ Some (n, rest)
unfolding number_read number_bytes
number_again n rest h =
    let back : big_number 4 (to_be_bytes w32 n ++ rest) ≡ n = big_number-reads_back 4 n rest h in
    let long : ltb (length (to_be_bytes w32 n ++ rest)) 4 ≡ false = le-ltb _ _ (omega arith) in
    ap (λ (b : Bool). cond b None (Some (big_number 4 (to_be_bytes w32 n ++ rest), rest))) long ∙ ap (λ (m : ℕ). Some (m, rest)) back

pub number_field : IsField number_read number_bytes (λ n. n < 2 ^ 32)
number_field = record { takes = number_takes; again = number_again }

byte_takes : (bytes : List ℕ) (x : ℕ × List ℕ) → IsBytes bytes → byte_read bytes ≡ Some x → Takes bytes (x.0 ∷ []) x.1 × (x.0 < 256)
unfolding byte_read
byte_takes [] x h e = absurd cc
byte_takes (b ∷ bytes) x h e =
    subst (λ (y : ℕ × List ℕ). Takes (b ∷ bytes) (y.0 ∷ []) y.1 × (y.0 < 256)) (some_is (b, bytes) x e)
    (record { parts = refl; rest_fits = λ i. h (suc i) }, h 0)

byte_again : (b : ℕ) (rest : List ℕ) → b < 256 → byte_read (b ∷ rest) ≡ Some (b, rest)
unfolding byte_read
byte_again b rest h = refl

pub byte_field : IsField byte_read (λ b. b ∷ []) (λ b. b < 256)
byte_field = record { takes = byte_takes; again = byte_again }

pub bytes_takes : (count : ℕ) (bytes : List ℕ) (x : List ℕ × List ℕ) → IsBytes bytes → bytes_read count bytes ≡ Some x → Takes bytes x.0 x.1 × (length x.0 ≡ count) × IsBytes x.0
unfolding bytes_read
bytes_takes count bytes x h e =
    let g = guard_some (ltb (length bytes) count) (take count bytes, drop count bytes) x e in
    let long : count ≤ length bytes = ltb-false _ _ g.0 in
    subst (λ (y : List ℕ × List ℕ). Takes bytes y.0 y.1 × (length y.0 ≡ count) × IsBytes y.0) g.1
    (record { parts = sym (take-append-drop count bytes); rest_fits = IsBytes-drop count bytes h }, length-take-le count bytes long, IsBytes-take count bytes h)

pub bytes_again : (run rest : List ℕ) → bytes_read (length run) (run ++ rest) ≡ Some (run, rest)
unfolding bytes_read
bytes_again run rest =
    let long : ltb (length (run ++ rest)) (length run) ≡ false = le-ltb _ _ (omega (arith, length-append run rest)) in
    ap (λ (b : Bool). cond b None (Some (take (length run) (run ++ rest), drop (length run) (run ++ rest)))) long
    ∙ ap (λ (t : List ℕ). Some (t, drop (length run) (run ++ rest))) (take_at run rest (length run) refl)
    ∙ ap (λ (d : List ℕ). Some (run, d)) (drop_at run rest (length run) refl)

-- ---- one field and then another, fields that pass a test, and what is made of fields

pub then_field : {A B : Type 0} {a : List ℕ → Option (A × List ℕ)} {b : List ℕ → Option (B × List ℕ)} {sa : A → List ℕ} {sb : B → List ℕ} {fa : A → Type 0} {fb : B → Type 0} → IsField a sa fa → IsField b sb fb → IsField (then_read a b) (λ (p : A × B). sa p.0 ++ sb p.1) (λ (p : A × B). fa p.0 × fb p.1)
then_field {A} {B} {a} {b} {sa} {sb} {fa} {fb} p q = record { takes = both_take; again = both_again } where
  both_take : (bytes : List ℕ) (x : (A × B) × List ℕ) → IsBytes bytes → then_read a b bytes ≡ Some x → Takes bytes (sa x.0.0 ++ sb x.0.1) x.1 × (fa x.0.0 × fb x.0.1)
  both_take bytes x h e =
      let first = bind_some (a bytes) (λ x. b x.1 >>= λ y. Some ((x.0, y.0), y.1)) x e in
      let second = bind_some (b first.0.1) (λ y. Some ((first.0.0, y.0), y.1)) x first.2 in
      let t0 = p.takes bytes first.0 h first.1 in
      let t1 = q.takes first.0.1 second.0 t0.0.rest_fits second.1 in
      let whole : bytes ≡ (sa first.0.0 ++ sb second.0.0) ++ second.0.1 =
      t0.0.parts ∙ ap (λ (t : List ℕ). sa first.0.0 ++ t) t1.0.parts ∙ sym (append_assoc (sa first.0.0) (sb second.0.0) second.0.1) in
      subst (λ (z : (A × B) × List ℕ). Takes bytes (sa z.0.0 ++ sb z.0.1) z.1 × (fa z.0.0 × fb z.0.1)) (some_is ((first.0.0, second.0.0), second.0.1) x second.2)
      (record { parts = whole; rest_fits = t1.0.rest_fits }, (t0.1, t1.1))

  both_again : (x : A × B) (rest : List ℕ) → (fa x.0 × fb x.1) → then_read a b ((sa x.0 ++ sb x.1) ++ rest) ≡ Some (x, rest)
  both_again x rest h =
      ap (then_read a b) (append_assoc (sa x.0) (sb x.1) rest)
      ∙ ap (λ (o : Option (A × List ℕ)). o >>= λ x. b x.1 >>= λ y. Some ((x.0, y.0), y.1)) (p.again x.0 (sb x.1 ++ rest) h.0)
      ∙ ap (λ (o : Option (B × List ℕ)). o >>= λ y. Some ((x.0, y.0), y.1)) (q.again x.1 rest h.1)

pub where_field : {A : Type 0} {at : List ℕ → Option (A × List ℕ)} {spell : A → List ℕ} {fits : A → Type 0} → IsField at spell fits → (test : A → Bool) → IsField (where_read at test) spell (λ (x : A). fits x × (test x ≡ true))
where_field {A} {at} {spell} {fits} p test = record { takes = some_take; again = some_again } where
  some_take : (bytes : List ℕ) (x : A × List ℕ) → IsBytes bytes → where_read at test bytes ≡ Some x → Takes bytes (spell x.0) x.1 × (fits x.0 × (test x.0 ≡ true))
  some_take bytes x h e =
      let first = bind_some (at bytes) (λ x. cond (test x.0) (Some x) None) x e in
      let passed = cond_some (test first.0.0) first.0 x first.2 in
      let t = p.takes bytes first.0 h first.1 in
      subst (λ (z : A × List ℕ). Takes bytes (spell z.0) z.1 × (fits z.0 × (test z.0 ≡ true))) passed.1 (t.0, (t.1, passed.0))

  some_again : (x : A) (rest : List ℕ) → (fits x × (test x ≡ true)) → where_read at test (spell x ++ rest) ≡ Some (x, rest)
  some_again x rest h =
      ap (λ (o : Option (A × List ℕ)). o >>= λ x. cond (test x.0) (Some x) None) (p.again x rest h.0)
      ∙ ap (λ (b : Bool). cond b (Some (x, rest)) None) h.1

-- how what is parsed of a field is spelled
pub record Parses {A B : Type 0} (spell : A → List ℕ) (fits : A → Type 0) (parse : A → Option B) (spelled : B → List ℕ) (suits : B → Type 0) : Type 0 where
  pub takes : (x : A) (y : B) → fits x → parse x ≡ Some y → (spelled y ≡ spell x) × suits y
  pub back : B → A
  pub again : (y : B) → suits y → fits (back y) × (parse (back y) ≡ Some y) × (spelled y ≡ spell (back y))

pub parsed_field : {A B : Type 0} {at : List ℕ → Option (A × List ℕ)} {spell : A → List ℕ} {fits : A → Type 0} {parse : A → Option B} {spelled : B → List ℕ} {suits : B → Type 0} → IsField at spell fits → Parses spell fits parse spelled suits → IsField (parsed_read at parse) spelled suits
parsed_field {A} {B} {at} {spell} {fits} {parse} {spelled} {suits} p q = record { takes = parsed_take; again = parsed_again } where
  parsed_take : (bytes : List ℕ) (x : B × List ℕ) → IsBytes bytes → parsed_read at parse bytes ≡ Some x → Takes bytes (spelled x.0) x.1 × suits x.0
  parsed_take bytes x h e =
      let first = bind_some (at bytes) (λ x. parse x.0 >>= λ y. Some (y, x.1)) x e in
      let second = bind_some (parse first.0.0) (λ y. Some (y, first.0.1)) x first.2 in
      let t = p.takes bytes first.0 h first.1 in
      let s = q.takes first.0.0 second.0 t.1 second.1 in
      subst (λ (z : B × List ℕ). Takes bytes (spelled z.0) z.1 × suits z.0) (some_is (second.0, first.0.1) x second.2)
      (record { parts = t.0.parts ∙ ap (λ (w : List ℕ). w ++ first.0.1) (sym s.0); rest_fits = t.0.rest_fits }, s.1)

  parsed_again : (y : B) (rest : List ℕ) → suits y → parsed_read at parse (spelled y ++ rest) ≡ Some (y, rest)
  parsed_again y rest h =
      let a = q.again y h in
      ap (λ (w : List ℕ). parsed_read at parse (w ++ rest)) a.2
      ∙ ap (λ (o : Option (A × List ℕ)). o >>= λ x. parse x.0 >>= λ y. Some (y, x.1)) (p.again (q.back y) rest a.0)
      ∙ ap (λ (o : Option B). o >>= λ y. Some (y, rest)) a.1

pub made_take : {A B : Type 0} {at : List ℕ → Option (A × List ℕ)} {spell : A → List ℕ} {fits : A → Type 0} → IsField at spell fits → (make : A → B) (bytes : List ℕ) (y : B × List ℕ) → IsBytes bytes → made_read at make bytes ≡ Some y → (x : A) × (make x ≡ y.0) × (Takes bytes (spell x) y.1 × fits x)
made_take {A} {B} {at} {spell} {fits} p make bytes y h e =
    let first = bind_some (at bytes) (λ x. Some (make x.0, x.1)) y e in
    let same : (let z : B × List ℕ = (make first.0.0, first.0.1) in z) ≡ y = some_is (make first.0.0, first.0.1) y first.2 in
    let t = p.takes bytes first.0 h first.1 in
    (first.0.0, ap (λ (z : B × List ℕ). z.0) same, (subst (λ (z : B × List ℕ). Takes bytes (spell first.0.0) z.1) same t.0, t.1))

pub made_again : {A B : Type 0} {at : List ℕ → Option (A × List ℕ)} {spell : A → List ℕ} {fits : A → Type 0} → IsField at spell fits → (make : A → B) (x : A) (rest : List ℕ) → fits x → made_read at make (spell x ++ rest) ≡ Some (make x, rest)
made_again {A} p make x rest h = ap (λ (o : Option (A × List ℕ)). o >>= λ x. Some (make x.0, x.1)) (p.again x rest h)
