-- Reading from left to right. A reader gives what stands at the front of the bytes, and the bytes after it.
use Rattle.std.specs.Prelude.{◌≡◌, ℕ, zero, suc, ◌+◌, ◌/◌, ◌%◌, ◌^◌, Bool, true, false, ◌&&◌, not, ◌==◌, nat_lt, nat_le, List, [], ◌∷◌, ◌++◌, replicate, length, take, drop, Option, Some, None, option_and_then, option_map, Result, Ok, Err, if◌then◌else◌}
use Rattle.std.specs.Int.{w64, from_be_bytes}
use Rattle.byteorder.specs.Endian.{big_number}
use Rattle.mind_base.specs.Page.{PageView}
use Rattle.mind_base.specs.Range.{RangeView, in_range}
use Rattle.mind_base.specs.Span.{SpanView}
use Rattle.mind_base.specs.declared.commands.Perm.{Perm}
use Rattle.mind_base.specs.declared.commands.Perm.TheVariants.{R, Rw}
use Rattle.page_image.specs.PageImage.{PageImageView}
use Rattle.wire_msg.specs.declared.msgs.Msg.{Msg}
use Rattle.wire_msg.specs.declared.msgs.Msg.TheVariants.{Get, Fill, Deny, Back, Inv, Lower, Ack, Close, Closed, Reopen, Read, Image, Write, Zero}
use Rattle.wire_msg.specs.Spelling.{is_blank}
use Rattle.wire_msg.specs.declared.refusals.WireRefusal.{WireRefusal}
use Rattle.wire_msg.specs.declared.refusals.WireRefusal.TheVariants.{BadFrame, NoMemory}

-- What a function returned, seen by view, is what reading gives, unless memory ran out.
abbrev pub FailsRead : {Y : Type 0} → WireRefusal → Option Y → Type 0
FailsRead NoMemory read = Unit {0}
FailsRead BadFrame read = read ≡ None

abbrev pub GivesRead : {X Y : Type 0} → (X → Y) → Result X WireRefusal → Option Y → Type 0
GivesRead view (Ok x) read = read ≡ Some (view x)
GivesRead view (Err e) read = FailsRead e read

infixl 10 ◌>>=◌
abbrev pub ◌>>=◌ : {A B : Type 0} → Option A → (A → Option B) → Option B
o >>= f = option_and_then f o

-- one field and then another
abbrev pub then_read : {A B : Type 0} → (List ℕ → Option (A × List ℕ)) → (List ℕ → Option (B × List ℕ)) → List ℕ → Option ((A × B) × List ℕ)
then_read a b bytes = do
  x ← a bytes
  y ← b x.1
  Some ((x.0, y.0), y.1)

-- a field that passes a test
abbrev pub where_read : {A : Type 0} → (List ℕ → Option (A × List ℕ)) → (A → Bool) → List ℕ → Option (A × List ℕ)
where_read at test bytes = do
  x ← at bytes
  if test x.0 then Some x else None

-- what is made of a field, where something can be
abbrev pub parsed_read : {A B : Type 0} → (List ℕ → Option (A × List ℕ)) → (A → Option B) → List ℕ → Option (B × List ℕ)
parsed_read at parse bytes = do
  x ← at bytes
  y ← parse x.0
  Some (y, x.1)

-- what is made of each such field
abbrev pub made_read : {A B : Type 0} → (List ℕ → Option (A × List ℕ)) → (A → B) → List ℕ → Option (B × List ℕ)
made_read at make bytes = do
  x ← at bytes
  Some (make x.0, x.1)

unfoldable pub number_read : List ℕ → Option (ℕ × List ℕ)
number_read bytes = if nat_lt (length bytes) 4 then None else Some (big_number 4 bytes, drop 4 bytes)

unfoldable pub byte_read : List ℕ → Option (ℕ × List ℕ)
byte_read [] = None
byte_read (byte ∷ rest) = Some (byte, rest)

-- a run of so many bytes
unfoldable pub bytes_read : ℕ → List ℕ → Option (List ℕ × List ℕ)
bytes_read count bytes = if nat_lt (length bytes) count then None else Some (take count bytes, drop count bytes)

-- the page with a number among the pages of all domains
abbrev pub page_from : ℕ → PageView
page_from n = record { domain = n / 1048576; number = n % 1048576 }

unfoldable pub page_numbered : ℕ → Option PageView
page_numbered n = if nat_lt n 16777216 then Some (page_from n) else None

unfoldable pub asked_numbered : ℕ → Option (Option PageView)
asked_numbered n = if n == 4294967295 then Some None else option_map (λ page. Some page) (page_numbered n)

unfoldable pub range_numbered : PageView × ℕ → Option RangeView
range_numbered f =
    if nat_le f.1 9 && (f.0.number % 2 ^ f.1 == 0)
    then Some (record { domain = f.0.domain; base = f.0.number; log = f.1 })
    else None

unfoldable pub span_numbered : PageView × ℕ → Option SpanView
span_numbered f =
    if nat_lt 0 f.1 && nat_le (f.0.number + f.1) 1048576
    then Some (record { domain = f.0.domain; base = f.0.number; pages = f.1 })
    else None

unfoldable pub flag_of : ℕ → Option Bool
flag_of b = if nat_lt b 2 then Some (b == 1) else None

unfoldable pub fill_of : ℕ → Option (Perm × Bool)
fill_of b =
    if b == 0 then Some (R, false) else
    (if b == 2 then Some (Rw, false) else
    (if b == 3 then Some (Rw, true) else None))

unfoldable pub blade_of : ℕ → Option (Option ℕ)
blade_of b = if nat_lt b 8 then Some (Some b) else (if b == 255 then Some None else None)

-- a number of 8 bytes, the highest first
unfoldable pub long_read : List ℕ → Option (ℕ × List ℕ)
long_read = made_read (bytes_read 8) (λ run. from_be_bytes w64 run)

-- a granule that is spelled: 64 bytes and a tag, which are not all zero
unfoldable pub spelled_read : List ℕ → Option ((List ℕ × ℕ) × List ℕ)
spelled_read = where_read (then_read (bytes_read 64) long_read) (λ granule. not (is_blank granule.0 granule.1))

-- a granule: spelled where its bit is set, else zero
unfoldable pub granule_read : Bool → List ℕ → Option ((List ℕ × ℕ) × List ℕ)
granule_read false bytes = Some ((replicate 64 0, 0), bytes)
granule_read true bytes = spelled_read bytes

-- so many granules, by the bits of a mask, the lowest first: the bytes of all, and the tags of all
unfoldable pub granules_read : ℕ → ℕ → List ℕ → Option ((List ℕ × List ℕ) × List ℕ)
granules_read zero mask bytes = Some (([], []), bytes)
granules_read (suc n) mask bytes = do
  granule ← granule_read (mask % 2 == 1) bytes
  others ← granules_read n (mask / 2) granule.1
  Some ((granule.0.0 ++ others.0.0, granule.0.1 ∷ others.0.1), others.1)

unfoldable pub page_read : List ℕ → Option (PageView × List ℕ)
page_read = parsed_read number_read page_numbered

unfoldable pub asked_read : List ℕ → Option (Option PageView × List ℕ)
asked_read = parsed_read number_read asked_numbered

unfoldable pub range_read : List ℕ → Option (RangeView × List ℕ)
range_read = parsed_read (then_read page_read byte_read) range_numbered

unfoldable pub span_read : List ℕ → Option (SpanView × List ℕ)
span_read = parsed_read (then_read page_read number_read) span_numbered

unfoldable pub flag_read : List ℕ → Option (Bool × List ℕ)
flag_read = parsed_read byte_read flag_of

unfoldable pub fill_read : List ℕ → Option ((Perm × Bool) × List ℕ)
fill_read = parsed_read byte_read fill_of

unfoldable pub blade_read : List ℕ → Option (Option ℕ × List ℕ)
blade_read = parsed_read byte_read blade_of

unfoldable pub image_read : List ℕ → Option (PageImageView × List ℕ)
image_read bytes = do
  mask ← long_read bytes
  parts ← granules_read 64 mask.0 mask.1
  Some (record { bytes = parts.0.0; tags = parts.0.1 }, parts.1)

abbrev pub asks_in : RangeView → Option PageView → Bool
asks_in range None = true
asks_in range (Some page) = in_range range page

-- the fields of each kind
unfoldable pub get_read : List ℕ → Option (Msg × List ℕ)
get_read = made_read (then_read page_read flag_read) (λ f. Get f.0 f.1)

unfoldable pub fill_message_read : List ℕ → Option (Msg × List ℕ)
fill_message_read = made_read (then_read page_read (then_read fill_read image_read)) (λ f. Fill f.0 f.1.0.0 f.1.0.1 f.1.1)

unfoldable pub deny_read : List ℕ → Option (Msg × List ℕ)
deny_read = made_read page_read (λ page. Deny page)

unfoldable pub back_read : List ℕ → Option (Msg × List ℕ)
back_read = made_read (then_read page_read image_read) (λ f. Back f.0 f.1)

unfoldable pub inv_read : List ℕ → Option (Msg × List ℕ)
inv_read = made_read (where_read (then_read number_read (then_read range_read asked_read)) (λ f. asks_in f.1.0 f.1.1)) (λ f. Inv f.0 f.1.0 f.1.1)

unfoldable pub lower_read : List ℕ → Option (Msg × List ℕ)
lower_read = made_read (where_read (then_read number_read (then_read range_read page_read)) (λ f. in_range f.1.0 f.1.1)) (λ f. Lower f.0 f.1.0 f.1.1)

unfoldable pub ack_read : List ℕ → Option (Msg × List ℕ)
ack_read = made_read (then_read number_read number_read) (λ f. Ack f.0 f.1)

unfoldable pub close_read : List ℕ → Option (Msg × List ℕ)
close_read = made_read (then_read number_read (then_read span_read flag_read)) (λ f. Close f.0 f.1.0 f.1.1)

unfoldable pub closed_read : List ℕ → Option (Msg × List ℕ)
closed_read = made_read number_read (λ number. Closed number)

unfoldable pub reopen_read : List ℕ → Option (Msg × List ℕ)
reopen_read = made_read number_read (λ number. Reopen number)

unfoldable pub read_read : List ℕ → Option (Msg × List ℕ)
read_read = made_read (then_read number_read (then_read blade_read page_read)) (λ f. Read f.0 f.1.0 f.1.1)

unfoldable pub image_message_read : List ℕ → Option (Msg × List ℕ)
image_message_read = made_read (then_read blade_read (then_read page_read image_read)) (λ f. Image f.0 f.1.0 f.1.1)

unfoldable pub write_read : List ℕ → Option (Msg × List ℕ)
write_read = made_read (then_read number_read image_read) (λ f. Write f.0 f.1)

unfoldable pub zero_read : List ℕ → Option (Msg × List ℕ)
zero_read = made_read (where_read (then_read number_read number_read) (λ f. nat_lt 0 f.1 && nat_le (f.0 + f.1) 4294967295)) (λ f. Zero f.0 f.1)

-- what reads the fields of each kind, in the order of their first bytes
abbrev pub readers : List (List ℕ → Option (Msg × List ℕ))
readers =
    get_read ∷ fill_message_read ∷ deny_read ∷ back_read ∷ inv_read ∷ lower_read ∷ ack_read
    ∷ close_read ∷ closed_read ∷ reopen_read ∷ read_read ∷ image_message_read ∷ write_read ∷ zero_read ∷ []

-- the fields of this kind, where the readers are those of the kinds from a first one on
unfoldable pub kind_read : ℕ → List (List ℕ → Option (Msg × List ℕ)) → ℕ → List ℕ → Option (Msg × List ℕ)
kind_read first [] kind bytes = None
kind_read first (reader ∷ others) kind bytes = if kind == first then reader bytes else kind_read (suc first) others kind bytes

-- the fields of the kind with this first byte
unfoldable pub fields_read : ℕ → List ℕ → Option (Msg × List ℕ)
fields_read kind bytes = kind_read 1 readers kind bytes

-- the message at the front
unfoldable pub message_read : List ℕ → Option (Msg × List ℕ)
message_read [] = None
message_read (kind ∷ bytes) = fields_read kind bytes

-- the message that the bytes are, all of them
unfoldable pub message_of : List ℕ → Option Msg
message_of bytes = do
  m ← message_read bytes
  if length m.1 == 0 then Some m.0 else None
