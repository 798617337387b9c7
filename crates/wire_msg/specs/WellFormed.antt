-- Which messages there are: each field in the range of its type, and the fields in agreement.
use Rattle.std.specs.Prelude.{◌≡◌, ◌≢◌, ℕ, ◌+◌, ◌<◌, ◌≤◌, ◌^◌, Bool, true, Option, Some, None}
use Rattle.mind_base.specs.Page.{PageView, IsPage}
use Rattle.mind_base.specs.Range.{RangeView, IsRange, InRange}
use Rattle.mind_base.specs.Span.{SpanView, IsSpan}
use Rattle.mind_base.specs.declared.commands.Perm.{Perm}
use Rattle.mind_base.specs.declared.commands.Perm.TheVariants.{No, Rw}
use Rattle.page_image.specs.PageImage.{IsPageImage}
use Rattle.wire_msg.specs.declared.msgs.Msg.{Msg}
use Rattle.wire_msg.specs.declared.msgs.Msg.TheVariants.{Get, Fill, Deny, Back, Inv, Lower, Ack, Close, Closed, Reopen, Read, Image, Write, Zero}

abbrev pub FitsWord : ℕ → Type 0
FitsWord n = n < 2 ^ 32

abbrev pub IsPageView : PageView → Type 0
IsPageView page = IsPage page.domain page.number

abbrev pub IsRangeView : RangeView → Type 0
IsRangeView range = IsRange range.domain range.base range.log

abbrev pub IsSpanView : SpanView → Type 0
IsSpanView span = IsSpan span.domain span.base span.pages

abbrev pub IsAsked : Option PageView → Type 0
IsAsked None = Unit {0}
IsAsked (Some page) = IsPageView page

-- each field is one that its type allows
abbrev pub IsInBounds : Msg → Type 0
IsInBounds (Get page write) = IsPageView page
IsInBounds (Fill page perm writable image) = IsPageView page × IsPageImage image
IsInBounds (Deny page) = IsPageView page
IsInBounds (Back page image) = IsPageView page × IsPageImage image
IsInBounds (Inv number range asked) = FitsWord number × IsRangeView range × IsAsked asked
IsInBounds (Lower number range asked) = FitsWord number × IsRangeView range × IsPageView asked
IsInBounds (Ack number count) = FitsWord number × FitsWord count
IsInBounds (Close number span ends) = FitsWord number × IsSpanView span
IsInBounds (Closed number) = FitsWord number
IsInBounds (Reopen number) = FitsWord number
IsInBounds (Read phys blade page) = FitsWord phys × IsPageView page
IsInBounds (Image blade page image) = IsPageView page × IsPageImage image
IsInBounds (Write phys image) = FitsWord phys × IsPageImage image
IsInBounds (Zero phys pages) = FitsWord phys × FitsWord pages

-- a page that is filled may be read, and is writable only if it may be written
abbrev pub CanFill : Perm → Bool → Type 0
CanFill perm writable = (perm ≢ No) × (writable ≡ true → perm ≡ Rw)

-- a page that was asked for lies in the range
abbrev pub AsksIn : RangeView → Option PageView → Type 0
AsksIn range None = Unit {0}
AsksIn range (Some page) = InRange range page

-- one of eight blades, or a copy
abbrev pub IsBladeOrNone : Option ℕ → Type 0
IsBladeOrNone None = Unit {0}
IsBladeOrNone (Some blade) = blade < 8

-- the fields agree with each other, which their types do not say
abbrev pub FieldsAgree : Msg → Type 0
FieldsAgree (Get page write) = Unit {0}
FieldsAgree (Fill page perm writable image) = CanFill perm writable
FieldsAgree (Deny page) = Unit {0}
FieldsAgree (Back page image) = Unit {0}
FieldsAgree (Inv number range asked) = AsksIn range asked
FieldsAgree (Lower number range asked) = InRange range asked
FieldsAgree (Ack number count) = Unit {0}
FieldsAgree (Close number span ends) = Unit {0}
FieldsAgree (Closed number) = Unit {0}
FieldsAgree (Reopen number) = Unit {0}
FieldsAgree (Read phys blade page) = IsBladeOrNone blade
FieldsAgree (Image blade page image) = IsBladeOrNone blade
FieldsAgree (Write phys image) = Unit {0}
FieldsAgree (Zero phys pages) = (0 < pages) × (phys + pages ≤ 4294967295)

abbrev pub IsWellFormed : Msg → Type 0
IsWellFormed message = IsInBounds message × FieldsAgree message
