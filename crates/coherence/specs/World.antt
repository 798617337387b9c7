-- The rack as its coherence sees it: who holds which page, what the switch knows of each page, and what is
-- under way on each link. Loss, repeats and acknowledgements are not seen: a link is the list of the
-- messages that were sent and not yet taken, the oldest first.
use Rattle.std.specs.Prelude.{ℕ, ◌==◌, ◌&&◌, Bool, List, Option, if◌then◌else◌}
use Rattle.mind_base.specs.Page.{PageView}
use Rattle.mind_base.specs.Range.{RangeView, in_range}
use Rattle.mind_base.specs.declared.commands.Perm.{Perm}
use Rattle.mind_base.specs.declared.notes.State.{State}
use Rattle.page_cache.specs.PageCache.{same_page}
use Rattle.page_cache.specs.declared.frames.Frame.{Frame}
use Rattle.page_image.specs.PageImage.{PageImageView}
use Rattle.region_directory.specs.declared.entries.Busy.{Busy}
use Rattle.wire_msg.specs.declared.msgs.Msg.{Msg}

-- an entry of the directory, as each page of its block sees it
pub record Region : Type 0 where
  pub range : RangeView
  pub state : State
  pub busy : Option Busy

-- a request of a blade for a page, at the switch
pub record Wanted : Type 0 where
  pub write : Bool
  pub fetching : Bool

-- by blade and page: the frame, and whether the request that is out is for writing; by blade: the messages
-- up to the switch and down from it; at the switch, by blade and page: the request; by page: the entry; the
-- number of the last transition; by memory blade: the messages to it and from it, and its images by
-- number; by page: the newest image, where it lies, and what its domain may do with it
pub record World : Type 0 where
  pub frames : ℕ → PageView → Option Frame
  pub asks : ℕ → PageView → Option Bool
  pub ups : ℕ → List Msg
  pub downs : ℕ → List Msg
  pub wants : ℕ → PageView → Option Wanted
  pub regions : PageView → Option Region
  pub last : ℕ
  pub tos : ℕ → List Msg
  pub froms : ℕ → List Msg
  pub images : ℕ → ℕ → PageImageView
  pub flat : PageView → PageImageView
  pub places : PageView → Option (ℕ × ℕ)
  pub perms : PageView → Perm

-- ---- functions with one value changed

-- at one number
abbrev pub put : {X : Type 0} → ℕ → X → (ℕ → X) → ℕ → X
put k x f n = if n == k then x else f n

-- at one page
abbrev pub put_page : {X : Type 0} → PageView → X → (PageView → X) → PageView → X
put_page page x f other = if same_page other page then x else f other

-- at one number and page
abbrev pub put_both : {X : Type 0} → ℕ → PageView → X → (ℕ → PageView → X) → ℕ → PageView → X
put_both k page x f n other = if n == k && same_page other page then x else f n other

-- at all pages of a block
abbrev pub put_range : {X : Type 0} → RangeView → X → (PageView → X) → PageView → X
put_range range x f page = if in_range range page then x else f page
