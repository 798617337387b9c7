-- What is true at every moment. Two ideas carry it: an image that goes back counts as a writer, and an
-- acknowledgement carries its blade's promise.
use Rattle.std.specs.Prelude.{◌≡◌, ◌≢◌, ◌≤◌, ◌⊎◌, ℕ, ◌+◌, ◌==◌, Bool, true, false, ◌&&◌, ◌||◌, List, [], ◌∷◌, Option, Some, None, is_some, IfSome, if◌then◌else◌}
use Rattle.mind_base.specs.Page.{PageView}
use Rattle.mind_base.specs.declared.commands.Perm.{Perm}
use Rattle.mind_base.specs.declared.commands.Perm.TheVariants.{No}
use Rattle.mind_base.specs.declared.notes.State.{State}
use Rattle.mind_base.specs.declared.notes.State.TheVariants.{I, S, M}
use Rattle.invalidate_multicast.specs.Blades.{has_blade}
use Rattle.page_cache.specs.declared.frames.Frame.{Frame}
use Rattle.page_image.specs.PageImage.{PageImageView}
use Rattle.mind_base.specs.Range.{in_range}
use Rattle.mind_base.specs.Permission.{allows}
use Rattle.page_cache.specs.PageCache.{is_writable}
use Rattle.region_directory.specs.declared.entries.Busy.{Busy}
use Rattle.wire_msg.specs.declared.msgs.Msg.{Msg}
use Rattle.wire_msg.specs.declared.msgs.Msg.TheVariants.{Get, Fill, Deny, Back, Inv, Lower, Ack, Read, Image, Write}
use Rattle.coherence.specs.Counts.{bit, total, none_is, is_get, is_back, is_fill, is_deny, is_call, is_ack, is_read, is_image}
use Rattle.coherence.specs.World.{Region, Wanted, World, put}

-- ---- what an entry lets a blade do

abbrev pub names : State → ℕ → Bool
names I blade = false
names (S sharers) blade = has_blade sharers blade
names (M owner) blade = owner == blade

abbrev pub owns : State → ℕ → Bool
owns I blade = false
owns (S sharers) blade = false
owns (M owner) blade = owner == blade

-- while a transition is under way: the blade has not answered yet, or the target names it
abbrev pub stays : Option Busy → ℕ → Bool
stays None blade = true
stays (Some busy) blade = has_blade busy.waiting blade || names busy.target blade

abbrev pub has_not_answered : Option Busy → ℕ → Bool
has_not_answered None blade = true
has_not_answered (Some busy) blade = has_blade busy.waiting blade

-- the blade may hold the page
abbrev pub may : Option Region → ℕ → Bool
may None blade = false
may (Some region) blade = names region.state blade && stays region.busy blade

-- the blade may hold the page to write, or send it back
abbrev pub may_hold_writable : Option Region → ℕ → Bool
may_hold_writable None blade = false
may_hold_writable (Some region) blade = owns region.state blade && has_not_answered region.busy blade

-- the transition with this number, where it is under way at the page
abbrev pub numbered : ℕ → Option Busy → Option Busy
numbered number None = None
numbered number (Some busy) = if busy.number == number then Some busy else None

abbrev pub transition : ℕ → Option Region → Option Busy
transition number None = None
transition number (Some region) = numbered number region.busy

-- ---- frames

abbrev pub is_dirty : Option Frame → Bool
is_dirty None = false
is_dirty (Some frame) = frame.dirty

-- a page that is held: its entry lets the blade hold it, and write it where the frame says so, and then no
-- request for it is out; only such a frame is dirty; its content is the newest
pub record IsFrame (region : Option Region) (asked : Option Bool) (flat : PageImageView) (given : Perm) (blade : ℕ) (frame : Frame) : Type 0 where
  pub held : may region blade ≡ true
  pub writer : frame.writable ≡ true → may_hold_writable region blade ≡ true
  pub alone : frame.writable ≡ true → asked ≡ None
  pub dirty : frame.dirty ≡ true → frame.writable ≡ true
  pub newest : frame.image ≡ flat
  pub perm : frame.perm ≡ given
  pub readable : allows frame.writable given ≡ true

abbrev pub AreFrames : World → Type 0
AreFrames w = (blade : ℕ) (page : PageView) (frame : Frame) → w.frames blade page ≡ Some frame
    → IsFrame (w.regions page) (w.asks blade page) (w.flat page) (w.perms page) blade frame

-- ---- messages up to the switch, each with what is behind it

-- an acknowledgement: at each page of its transition nothing of the blade's is behind it or comes down, and
-- the blade holds the page no longer, or only to read, as the target lets it
pub record KeepsAtMost (held : Option Frame) (downs behind : List Msg) (page : PageView) (blade : ℕ) (busy : Busy) : Type 0 where
  pub back : none_is (is_back page) behind ≡ true
  pub fill : none_is (is_fill page) downs ≡ true
  pub left : (held ≡ None) ⊎ ((is_writable held ≡ false) × (names busy.target blade ≡ true))

-- somewhere the transition with this number waits for the blade
abbrev pub WaitsSomewhere : (PageView → Option Region) → ℕ → ℕ → Type 0
WaitsSomewhere regions number blade =
    (page : PageView) × (busy : Busy) × (transition number (regions page) ≡ Some busy) × (has_blade busy.waiting blade ≡ true)

pub record IsBack (region : Option Region) (frame : Option Frame) (wanted : Option Wanted) (downs : List Msg) (flat : PageImageView) (place : Option (ℕ × ℕ)) (blade : ℕ) (page : PageView) (image : PageImageView) : Type 0 where
  pub writer : may_hold_writable region blade ≡ true
  pub newest : image ≡ flat
  pub placed : is_some place ≡ true
  pub lowered : is_writable frame ≡ false
  pub unwanted : wanted ≡ None
  pub unfilled : none_is (is_fill page) downs ≡ true

abbrev pub IsUp : World → ℕ → Msg → List Msg → Type 0
IsUp w blade (Get page write) behind = (none_is (is_back page) behind ≡ true) × (w.asks blade page ≡ Some write)
IsUp w blade (Back page image) behind =
    IsBack (w.regions page) (w.frames blade page) (w.wants blade page) (w.downs blade) (w.flat page) (w.places page) blade page image
IsUp w blade (Ack number count) behind = WaitsSomewhere w.regions number blade
    × ((page : PageView) (busy : Busy) → transition number (w.regions page) ≡ Some busy
    → KeepsAtMost (w.frames blade page) (w.downs blade) behind page blade busy)
IsUp w blade message behind = ⊥

abbrev pub AreUps : World → ℕ → List Msg → Type 0
AreUps w blade [] = Unit {0}
AreUps w blade (message ∷ behind) = IsUp w blade message behind × AreUps w blade behind

-- ---- messages down from it

-- a page that comes: its entry lets the blade hold it, and write it where the message says so
pub record IsFill (region : Option Region) (flat : PageImageView) (allowed : Perm) (request : Option Bool) (blade : ℕ) (given : Perm) (writable : Bool) (image : PageImageView) : Type 0 where
  pub held : may region blade ≡ true
  pub writer : writable ≡ true → may_hold_writable region blade ≡ true
  pub newest : image ≡ flat
  pub perm : given ≡ allowed
  pub readable : allows writable allowed ≡ true
  pub asked : request ≡ Some writable

-- a call with this number: the pages of its transition are the block's, and no page of them comes behind it
pub record IsCall (region : Option Region) (page : PageView) (in_block : Bool) (behind : List Msg) : Type 0 where
  pub block : in_block ≡ true
  pub fill : none_is (is_fill page) behind ≡ true

abbrev pub IsDown : World → ℕ → Msg → List Msg → Type 0
IsDown w blade (Fill page perm writable image) behind =
    IsFill (w.regions page) (w.flat page) (w.perms page) (w.asks blade page) blade perm writable image
IsDown w blade (Deny page) behind = IfSome (w.asks blade page) (λ write. allows write (w.perms page) ≡ false)
IsDown w blade (Inv number range asked) behind = WaitsSomewhere w.regions number blade
    × ((page : PageView) (busy : Busy) → transition number (w.regions page) ≡ Some busy
    → IsCall (w.regions page) page (in_range range page) behind)
IsDown w blade (Lower number range asked) behind = WaitsSomewhere w.regions number blade
    × ((page : PageView) (busy : Busy) → transition number (w.regions page) ≡ Some busy
    → IsCall (w.regions page) page (in_range range page) behind × (names busy.target blade ≡ true))
IsDown w blade message behind = ⊥

abbrev pub AreDowns : World → ℕ → List Msg → Type 0
AreDowns w blade [] = Unit {0}
AreDowns w blade (message ∷ behind) = IsDown w blade message behind × AreDowns w blade behind

-- ---- how many of each are under way

-- just one thing answers a request that is out
abbrev pub AreAnswered : World → Type 0
AreAnswered w = (blade : ℕ) (page : PageView)
    → total (is_get page) (w.ups blade) + bit (is_some (w.wants blade page))
    + total (is_fill page) (w.downs blade) + total (is_deny page) (w.downs blade) ≡ bit (is_some (w.asks blade page))

-- a request at the switch is the blade's
abbrev pub AreWanted : World → Type 0
AreWanted w = (blade : ℕ) (page : PageView) (wanted : Wanted) → w.wants blade page ≡ Some wanted → w.asks blade page ≡ Some wanted.write

abbrev pub is_fetching : Option Wanted → Bool
is_fetching None = false
is_fetching (Some wanted) = wanted.fetching

-- just one thing answers a request that fetches its page, at the memory blade where the page lies
abbrev pub AreFetched : World → Type 0
AreFetched w = (blade : ℕ) (page : PageView) (place : ℕ × ℕ) → w.places page ≡ Some place
    → total (is_read blade page) (w.tos place.0) + total (is_image blade page) (w.froms place.0) ≡ bit (is_fetching (w.wants blade page))

-- a transition waits for the blades whose call is under way to them, or whose acknowledgement from them
abbrev pub AreCalled : World → Type 0
AreCalled w = (blade number : ℕ) (page : PageView) (busy : Busy) → transition number (w.regions page) ≡ Some busy
    → total (is_call number) (w.downs blade) + total (is_ack number) (w.ups blade) ≡ bit (has_blade busy.waiting blade)

-- ---- the switch

-- a request that fetches its page: its entry has no transition, and names the blade, as owner if it is for writing
pub record IsFetch (region : Option Region) (perm : Perm) (write : Bool) (blade : ℕ) : Type 0 where
  pub held : may region blade ≡ true
  pub writer : write ≡ true → may_hold_writable region blade ≡ true
  pub idle : IfSome region (λ r. r.busy ≡ None)
  pub allowed : allows write perm ≡ true

abbrev pub AreFetches : World → Type 0
AreFetches w = (blade : ℕ) (page : PageView) (wanted : Wanted) → w.wants blade page ≡ Some wanted → wanted.fetching ≡ true
    → IsFetch (w.regions page) (w.perms page) wanted.write blade

-- transitions have numbers up to the last one
abbrev pub AreNumbered : World → Type 0
AreNumbered w = (page : PageView) (region : Region) (busy : Busy) → w.regions page ≡ Some region → region.busy ≡ Some busy → busy.number ≤ w.last

-- the entry of a page is the entry of each page of its block, and of no other page
abbrev pub AreBlocksOf : (PageView → Option Region) → Type 0
AreBlocksOf regions = (page : PageView) (region : Region) → regions page ≡ Some region
    → (in_range region.range page ≡ true) × ((other : PageView) → in_range region.range other ≡ true → regions other ≡ Some region)

abbrev pub AreBlocks : World → Type 0
AreBlocks w = AreBlocksOf w.regions

-- a target keeps none that was not named, and has no owner
abbrev pub IsTarget : State → Busy → Type 0
IsTarget state busy = (blade : ℕ) → (owns busy.target blade ≡ false) × (names busy.target blade ≡ true → names state blade ≡ true)

abbrev pub AreTargets : World → Type 0
AreTargets w = (page : PageView) (region : Region) (busy : Busy) → w.regions page ≡ Some region → region.busy ≡ Some busy → IsTarget region.state busy

-- ---- memory blades

-- what is read is the newest, once the writes ahead of it have come
abbrev pub AreTos : World → ℕ → (ℕ → PageImageView) → List Msg → Type 0
AreTos w memory images [] = Unit {0}
AreTos w memory images (Read phys (Some blade) page ∷ behind) =
    (w.places page ≡ Some (memory, phys)) × (images phys ≡ w.flat page) × (is_fetching (w.wants blade page) ≡ true) × AreTos w memory images behind
AreTos w memory images (Write phys image ∷ behind) = AreTos w memory (put phys image images) behind
AreTos w memory images (message ∷ behind) = ⊥

-- the images once all writes have come
abbrev pub images_written : List Msg → (ℕ → PageImageView) → ℕ → PageImageView
images_written [] images = images
images_written (Write phys image ∷ behind) images = images_written behind (put phys image images)
images_written (message ∷ behind) images = images_written behind images

-- a page that no blade holds dirty, and that no blade sends back, is then the newest where it lies
abbrev pub AreWritten : World → Type 0
AreWritten w = (page : PageView) (place : ℕ × ℕ) → w.places page ≡ Some place
    → ((blade : ℕ) → (is_dirty (w.frames blade page) ≡ false) × (none_is (is_back page) (w.ups blade) ≡ true))
    → images_written (w.tos place.0) (w.images place.0) place.1 ≡ w.flat page

abbrev pub IsFrom : World → ℕ → Msg → Type 0
IsFrom w memory (Image (Some blade) page image) =
    (image ≡ w.flat page) × (is_fetching (w.wants blade page) ≡ true) × IfSome (w.places page) (λ place. place.0 ≡ memory) × (is_some (w.places page) ≡ true)
IsFrom w memory message = ⊥

abbrev pub AreFroms : World → ℕ → List Msg → Type 0
AreFroms w memory [] = Unit {0}
AreFroms w memory (message ∷ behind) = IsFrom w memory message × AreFroms w memory behind

-- no two pages lie at one place, and a page with a permission lies somewhere
pub record ArePlaced (w : World) : Type 0 where
  pub apart : (a b : PageView) (place : ℕ × ℕ) → w.places a ≡ Some place → w.places b ≡ Some place → a ≡ b
  pub placed : (page : PageView) → w.perms page ≢ No → is_some (w.places page) ≡ true

-- ---- all of it

pub record IsCoherent (w : World) : Type 0 where
  pub frames : AreFrames w
  pub ups : (blade : ℕ) → AreUps w blade (w.ups blade)
  pub downs : (blade : ℕ) → AreDowns w blade (w.downs blade)
  pub answered : AreAnswered w
  pub wanted : AreWanted w
  pub fetched : AreFetched w
  pub called : AreCalled w
  pub fetches : AreFetches w
  pub numbered : AreNumbered w
  pub blocks : AreBlocks w
  pub targets : AreTargets w
  pub tos : (memory : ℕ) → AreTos w memory (w.images memory) (w.tos memory)
  pub written : AreWritten w
  pub froms : (memory : ℕ) → AreFroms w memory (w.froms memory)
  pub placed : ArePlaced w
