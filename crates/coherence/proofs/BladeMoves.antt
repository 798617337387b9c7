-- Each move of a blade keeps what is true at every moment, and of all blades one alone may write a page.
use Rattle.std.proofs.Common.{◌≡◌, ℕ, Bool, true, Option, Some, List, sym}
use Rattle.mind_base.specs.Page.{PageView}
use Rattle.mind_base.specs.Range.{RangeView}
use Rattle.mind_base.specs.declared.commands.Perm.{Perm}
use Rattle.page_cache.specs.declared.frames.Frame.{Frame}
use Rattle.page_image.specs.PageImage.{PageImageView}
use Rattle.wire_msg.specs.declared.msgs.Msg.{Msg}
use Rattle.coherence.specs.World.{World}
use Rattle.coherence.specs.Facts.{IsCoherent}
use Rattle.coherence.specs.Moves.{Asks, Stores, GivesUp, Lowers, TakesFill, TakesDeny, AnswersInv, AnswersLower, May, moved}
use Rattle.coherence.proofs.BladeLinks.{writes_alone}
use Rattle.coherence.proofs.BladeAsks.{asks-keeps}
use Rattle.coherence.proofs.BladeStores.{stores-keeps}
use Rattle.coherence.proofs.BladeSheds.{gives_up-keeps, lowers-keeps}
use Rattle.coherence.proofs.BladeTakes.{takes_fill-keeps, takes_deny-keeps}
use Rattle.coherence.proofs.BladeAnswers.{answers_inv-keeps, answers_lower-keeps}

pub asks : (w : World) (blade : ℕ) (page : PageView) (write : Bool)
    → IsCoherent w → May w (Asks blade page write) → IsCoherent (moved w (Asks blade page write))
asks w blade page write h may = asks-keeps blade page write w may h

pub stores : (w : World) (blade : ℕ) (page : PageView) (frame : Frame) (image : PageImageView)
    → IsCoherent w → May w (Stores blade page frame image) → IsCoherent (moved w (Stores blade page frame image))
stores w blade page frame image h may = stores-keeps blade page frame image w may.0 may.1 h

pub gives_up : (w : World) (blade : ℕ) (page : PageView) (frame : Frame)
    → IsCoherent w → May w (GivesUp blade page frame) → IsCoherent (moved w (GivesUp blade page frame))
gives_up w blade page frame h may = gives_up-keeps blade page frame w may h

pub lowers : (w : World) (blade : ℕ) (page : PageView) (frame : Frame)
    → IsCoherent w → May w (Lowers blade page frame) → IsCoherent (moved w (Lowers blade page frame))
lowers w blade page frame h may = lowers-keeps blade page frame w may h

pub takes_fill : (w : World) (blade : ℕ) (page : PageView) (perm : Perm) (writable : Bool) (image : PageImageView) (behind : List Msg)
    → IsCoherent w → May w (TakesFill blade page perm writable image behind) → IsCoherent (moved w (TakesFill blade page perm writable image behind))
takes_fill w blade page perm writable image behind h may = takes_fill-keeps blade page perm writable image behind w may h

pub takes_deny : (w : World) (blade : ℕ) (page : PageView) (behind : List Msg)
    → IsCoherent w → May w (TakesDeny blade page behind) → IsCoherent (moved w (TakesDeny blade page behind))
takes_deny w blade page behind h may = takes_deny-keeps blade page behind w may h

pub answers_inv : (w : World) (blade number : ℕ) (range : RangeView) (asked : Option PageView) (count : ℕ) (behind : List Msg)
    → IsCoherent w → May w (AnswersInv blade number range asked count behind) → IsCoherent (moved w (AnswersInv blade number range asked count behind))
answers_inv w blade number range asked count behind h may = answers_inv-keeps blade number range asked count behind w may.0 may.1 h

pub answers_lower : (w : World) (blade number : ℕ) (range : RangeView) (asked : PageView) (count : ℕ) (behind : List Msg)
    → IsCoherent w → May w (AnswersLower blade number range asked count behind) → IsCoherent (moved w (AnswersLower blade number range asked count behind))
answers_lower w blade number range asked count behind h may = answers_lower-keeps blade number range asked count behind w may.0 may.1 h

-- ---- what follows at every moment

-- a page that one blade holds to write is held by no other
pub single_writer : (w : World) (a b : ℕ) (page : PageView) (f g : Frame)
    → IsCoherent w → w.frames a page ≡ Some f → f.writable ≡ true → w.frames b page ≡ Some g → a ≡ b
single_writer w a b page f g h e writable k =
    sym (writes_alone (w.regions page) a b ((h.frames a page f e).writer writable) (h.frames b page g k).held)
