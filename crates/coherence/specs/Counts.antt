-- How many messages of a kind are under way on a link.
use Rattle.std.specs.Prelude.{ℕ, ◌+◌, ◌==◌, Bool, true, false, ◌&&◌, List, [], ◌∷◌, Option, Some, None}
use Rattle.mind_base.specs.Page.{PageView}
use Rattle.page_cache.specs.PageCache.{same_page}
use Rattle.wire_msg.specs.declared.msgs.Msg.{Msg}
use Rattle.wire_msg.specs.declared.msgs.Msg.TheVariants.{Get, Fill, Deny, Back, Inv, Lower, Ack, Read, Image}

abbrev pub bit : Bool → ℕ
bit true = 1
bit false = 0

-- how many messages pass a test
abbrev pub total : (Msg → Bool) → List Msg → ℕ
total test [] = 0
total test (message ∷ rest) = bit (test message) + total test rest

abbrev pub is_get : PageView → Msg → Bool
is_get page (Get other write) = same_page page other
is_get page message = false

abbrev pub is_back : PageView → Msg → Bool
is_back page (Back other image) = same_page page other
is_back page message = false

abbrev pub is_fill : PageView → Msg → Bool
is_fill page (Fill other perm writable image) = same_page page other
is_fill page message = false

abbrev pub is_deny : PageView → Msg → Bool
is_deny page (Deny other) = same_page page other
is_deny page message = false

-- an invalidation or lowering with this number
abbrev pub is_call : ℕ → Msg → Bool
is_call number (Inv other range asked) = number == other
is_call number (Lower other range asked) = number == other
is_call number message = false

abbrev pub is_ack : ℕ → Msg → Bool
is_ack number (Ack other count) = number == other
is_ack number message = false

abbrev pub is_of_blade : ℕ → Option ℕ → Bool
is_of_blade blade None = false
is_of_blade blade (Some other) = blade == other

-- the reading of a page for a blade, and the image that answers it
abbrev pub is_read : ℕ → PageView → Msg → Bool
is_read blade page (Read phys reader other) = is_of_blade blade reader && same_page page other
is_read blade page message = false

abbrev pub is_image : ℕ → PageView → Msg → Bool
is_image blade page (Image reader other image) = is_of_blade blade reader && same_page page other
is_image blade page message = false

-- no message of the list passes the test
abbrev pub none_is : (Msg → Bool) → List Msg → Bool
none_is test messages = total test messages == 0
