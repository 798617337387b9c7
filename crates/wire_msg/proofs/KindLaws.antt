-- Each kind of message: what is read of its fields is spelled so, and what is spelled so is read again.
use Rattle.std.proofs.Common.{◌≡◌, ℕ, ◌+◌, Bool, ◌&&◌, ltb, leb, List, ◌++◌, Option, Some, refl, sym, subst}
use Rattle.std.proofs.lemmas.Bool.{ltb-true, lt-ltb, leb-true, le-leb}
use Rattle.mind_base.specs.Page.{PageView}
use Rattle.mind_base.specs.Range.{RangeView, in_range}
use Rattle.mind_base.specs.Span.{SpanView}
use Rattle.mind_base.specs.declared.commands.Perm.{Perm}
use Rattle.page_image.specs.PageImage.{PageImageView}
use Rattle.wire_msg.specs.declared.msgs.Msg.{Msg}
use Rattle.wire_msg.specs.declared.msgs.Msg.TheVariants.{Get, Fill, Deny, Back, Inv, Lower, Ack, Close, Closed, Reopen, Read, Image, Write, Zero}
use Rattle.wire_msg.specs.Spelling.{kind_byte, fields_of}
use Rattle.wire_msg.specs.WellFormed.{IsWellFormed}
use Rattle.wire_msg.specs.Reading.{made_read, get_read, fill_message_read, deny_read, back_read, inv_read, lower_read, ack_read, close_read, closed_read, reopen_read, read_read, image_message_read, write_read, zero_read, asks_in}
use Rattle.wire_msg.proofs.Fields.{IsBytes, Takes, IsField, number_field, then_field, where_field, made_take, made_again}
use Rattle.wire_msg.proofs.Images.{image_field}
use Rattle.wire_msg.proofs.Parts.{page_field, asked_field, range_field, span_field, flag_field, fill_field, blade_field, has-InRange, lies_there, asks_inside, asks_there, and_both, both_and}

-- what was read is a message of this kind, well formed, and spelled so
pub record IsRead (kind : ℕ) (bytes : List ℕ) (message : Msg) (rest : List ℕ) : Type 0 where
  pub kind_is : kind_byte message ≡ kind
  pub well_formed : IsWellFormed message
  pub taken : Takes bytes (fields_of message) rest

abbrev pub Reads : ℕ → (List ℕ → Option (Msg × List ℕ)) → Type 0
Reads kind at = (bytes : List ℕ) (m : Msg × List ℕ) → IsBytes bytes → at bytes ≡ Some m → IsRead kind bytes m.0 m.1

-- fields from which a message is made
reads : {A : Type 0} {at : List ℕ → Option (A × List ℕ)} {spell : A → List ℕ} {fits : A → Type 0} → IsField at spell fits → (kind : ℕ) (make : A → Msg) → ((x : A) → fits x → (kind_byte (make x) ≡ kind) × IsWellFormed (make x) × (fields_of (make x) ≡ spell x)) → Reads kind (made_read at make)
reads {A} {at} {spell} {fits} p kind make h bytes m fit e =
    let made = made_take p make bytes m fit e in
    let is = h made.0 made.2.1 in
    let taken : Takes bytes (fields_of (make made.0)) m.1 = subst (λ (t : List ℕ). Takes bytes t m.1) (sym is.2) made.2.0 in
    subst (λ (x : Msg). IsRead kind bytes x m.1) made.1 (record { kind_is = is.0; well_formed = is.1; taken = taken })

pub get_reads : Reads 1 get_read
unfolding get_read
get_reads = reads (then_field page_field flag_field) 1 (λ f. Get f.0 f.1) (λ x h. (refl, (h.0, tt), refl))

pub fill_reads : Reads 2 fill_message_read
unfolding fill_message_read
fill_reads = reads (then_field page_field (then_field fill_field image_field)) 2 (λ f. Fill f.0 f.1.0.0 f.1.0.1 f.1.1) (λ x h. (refl, ((h.0, h.1.1), h.1.0), refl))

pub deny_reads : Reads 3 deny_read
unfolding deny_read
deny_reads = reads page_field 3 (λ page. Deny page) (λ x h. (refl, (h, tt), refl))

pub back_reads : Reads 4 back_read
unfolding back_read
back_reads = reads (then_field page_field image_field) 4 (λ f. Back f.0 f.1) (λ x h. (refl, (h, tt), refl))

abbrev asks : ℕ × (RangeView × Option PageView) → Bool
asks f = asks_in f.1.0 f.1.1

pub inv_reads : Reads 5 inv_read
unfolding inv_read
inv_reads = reads (where_field (then_field number_field (then_field range_field asked_field)) asks) 5 (λ f. Inv f.0 f.1.0 f.1.1) (λ x h. (refl, ((h.0.0, h.0.1.0, h.0.1.1), asks_inside x.1.0 x.1.1 h.1), refl))

abbrev lies : ℕ × (RangeView × PageView) → Bool
lies f = in_range f.1.0 f.1.1

pub lower_reads : Reads 6 lower_read
unfolding lower_read
lower_reads = reads (where_field (then_field number_field (then_field range_field page_field)) lies) 6 (λ f. Lower f.0 f.1.0 f.1.1) (λ x h. (refl, ((h.0.0, h.0.1.0, h.0.1.1), has-InRange x.1.0 x.1.1 h.1), refl))

pub ack_reads : Reads 7 ack_read
unfolding ack_read
ack_reads = reads (then_field number_field number_field) 7 (λ f. Ack f.0 f.1) (λ x h. (refl, (h, tt), refl))

pub close_reads : Reads 8 close_read
unfolding close_read
close_reads = reads (then_field number_field (then_field span_field flag_field)) 8 (λ f. Close f.0 f.1.0 f.1.1) (λ x h. (refl, ((h.0, h.1.0), tt), refl))

pub closed_reads : Reads 9 closed_read
unfolding closed_read
closed_reads = reads number_field 9 (λ number. Closed number) (λ x h. (refl, (h, tt), refl))

pub reopen_reads : Reads 10 reopen_read
unfolding reopen_read
reopen_reads = reads number_field 10 (λ number. Reopen number) (λ x h. (refl, (h, tt), refl))

pub read_reads : Reads 11 read_read
unfolding read_read
read_reads = reads (then_field number_field (then_field blade_field page_field)) 11 (λ f. Read f.0 f.1.0 f.1.1) (λ x h. (refl, ((h.0, h.1.1), h.1.0), refl))

pub image_reads : Reads 12 image_message_read
unfolding image_message_read
image_reads = reads (then_field blade_field (then_field page_field image_field)) 12 (λ f. Image f.0 f.1.0 f.1.1) (λ x h. (refl, (h.1, h.0), refl))

pub write_reads : Reads 13 write_read
unfolding write_read
write_reads = reads (then_field number_field image_field) 13 (λ f. Write f.0 f.1) (λ x h. (refl, (h, tt), refl))

abbrev zeroes : ℕ × ℕ → Bool
zeroes f = ltb 0 f.1 && leb (f.0 + f.1) 4294967295

pub zero_reads : Reads 14 zero_read
unfolding zero_read
zero_reads = reads (where_field (then_field number_field number_field) zeroes) 14 (λ f. Zero f.0 f.1)
    (λ x h. let tests = and_both (ltb 0 x.1) (leb (x.0 + x.1) 4294967295) h.1 in (refl, (h.0, (ltb-true 0 x.1 tests.0, leb-true (x.0 + x.1) 4294967295 tests.1)), refl))

-- ---- and back

pub get_again : (page : PageView) (write : Bool) (rest : List ℕ) → IsWellFormed (Get page write) → get_read (fields_of (Get page write) ++ rest) ≡ Some (Get page write, rest)
unfolding get_read
get_again page write rest h = made_again (then_field page_field flag_field) (λ f. Get f.0 f.1) (page, write) rest (h.0, tt)

pub fill_again : (page : PageView) (perm : Perm) (writable : Bool) (image : PageImageView) (rest : List ℕ) → IsWellFormed (Fill page perm writable image) → fill_message_read (fields_of (Fill page perm writable image) ++ rest) ≡ Some (Fill page perm writable image, rest)
unfolding fill_message_read
fill_again page perm writable image rest h = made_again (then_field page_field (then_field fill_field image_field)) (λ f. Fill f.0 f.1.0.0 f.1.0.1 f.1.1) (page, ((perm, writable), image)) rest (h.0.0, (h.1, h.0.1))

pub deny_again : (page : PageView) (rest : List ℕ) → IsWellFormed (Deny page) → deny_read (fields_of (Deny page) ++ rest) ≡ Some (Deny page, rest)
unfolding deny_read
deny_again page rest h = made_again page_field (λ page. Deny page) page rest h.0

pub back_again : (page : PageView) (image : PageImageView) (rest : List ℕ) → IsWellFormed (Back page image) → back_read (fields_of (Back page image) ++ rest) ≡ Some (Back page image, rest)
unfolding back_read
back_again page image rest h = made_again (then_field page_field image_field) (λ f. Back f.0 f.1) (page, image) rest h.0

pub inv_again : (number : ℕ) (range : RangeView) (asked : Option PageView) (rest : List ℕ) → IsWellFormed (Inv number range asked) → inv_read (fields_of (Inv number range asked) ++ rest) ≡ Some (Inv number range asked, rest)
unfolding inv_read
inv_again number range asked rest h = made_again (where_field (then_field number_field (then_field range_field asked_field)) asks) (λ f. Inv f.0 f.1.0 f.1.1) (number, (range, asked)) rest ((h.0.0, (h.0.1, h.0.2)), asks_there range asked h.1)

pub lower_again : (number : ℕ) (range : RangeView) (asked : PageView) (rest : List ℕ) → IsWellFormed (Lower number range asked) → lower_read (fields_of (Lower number range asked) ++ rest) ≡ Some (Lower number range asked, rest)
unfolding lower_read
lower_again number range asked rest h = made_again (where_field (then_field number_field (then_field range_field page_field)) lies) (λ f. Lower f.0 f.1.0 f.1.1) (number, (range, asked)) rest ((h.0.0, (h.0.1, h.0.2)), lies_there range asked h.1)

pub ack_again : (number count : ℕ) (rest : List ℕ) → IsWellFormed (Ack number count) → ack_read (fields_of (Ack number count) ++ rest) ≡ Some (Ack number count, rest)
unfolding ack_read
ack_again number count rest h = made_again (then_field number_field number_field) (λ f. Ack f.0 f.1) (number, count) rest h.0

pub close_again : (number : ℕ) (span : SpanView) (ends : Bool) (rest : List ℕ) → IsWellFormed (Close number span ends) → close_read (fields_of (Close number span ends) ++ rest) ≡ Some (Close number span ends, rest)
unfolding close_read
close_again number span ends rest h = made_again (then_field number_field (then_field span_field flag_field)) (λ f. Close f.0 f.1.0 f.1.1) (number, (span, ends)) rest (h.0.0, (h.0.1, tt))

pub closed_again : (number : ℕ) (rest : List ℕ) → IsWellFormed (Closed number) → closed_read (fields_of (Closed number) ++ rest) ≡ Some (Closed number, rest)
unfolding closed_read
closed_again number rest h = made_again number_field (λ number. Closed number) number rest h.0

pub reopen_again : (number : ℕ) (rest : List ℕ) → IsWellFormed (Reopen number) → reopen_read (fields_of (Reopen number) ++ rest) ≡ Some (Reopen number, rest)
unfolding reopen_read
reopen_again number rest h = made_again number_field (λ number. Reopen number) number rest h.0

pub read_again : (phys : ℕ) (blade : Option ℕ) (page : PageView) (rest : List ℕ) → IsWellFormed (Read phys blade page) → read_read (fields_of (Read phys blade page) ++ rest) ≡ Some (Read phys blade page, rest)
unfolding read_read
read_again phys blade page rest h = made_again (then_field number_field (then_field blade_field page_field)) (λ f. Read f.0 f.1.0 f.1.1) (phys, (blade, page)) rest (h.0.0, (h.1, h.0.1))

pub image_again : (blade : Option ℕ) (page : PageView) (image : PageImageView) (rest : List ℕ) → IsWellFormed (Image blade page image) → image_message_read (fields_of (Image blade page image) ++ rest) ≡ Some (Image blade page image, rest)
unfolding image_message_read
image_again blade page image rest h = made_again (then_field blade_field (then_field page_field image_field)) (λ f. Image f.0 f.1.0 f.1.1) (blade, (page, image)) rest (h.1, h.0)

pub write_again : (phys : ℕ) (image : PageImageView) (rest : List ℕ) → IsWellFormed (Write phys image) → write_read (fields_of (Write phys image) ++ rest) ≡ Some (Write phys image, rest)
unfolding write_read
write_again phys image rest h = made_again (then_field number_field image_field) (λ f. Write f.0 f.1) (phys, image) rest h.0

pub zero_again : (phys pages : ℕ) (rest : List ℕ) → IsWellFormed (Zero phys pages) → zero_read (fields_of (Zero phys pages) ++ rest) ≡ Some (Zero phys pages, rest)
unfolding zero_read
zero_again phys pages rest h = made_again (where_field (then_field number_field number_field) zeroes) (λ f. Zero f.0 f.1) (phys, pages) rest (h.0, both_and (ltb 0 pages) (leb (phys + pages) 4294967295) (lt-ltb 0 pages h.1.0) (le-leb (phys + pages) 4294967295 h.1.1))
