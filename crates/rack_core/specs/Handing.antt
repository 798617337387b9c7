-- Messages that a link gave and its end has not been handed yet.
use Rattle.std.specs.Prelude.{ℕ, List, Option}
use Rattle.std.specs.List.{AllByRecursion}
use Rattle.mind_base.specs.Fit.{FitImages}
use Rattle.mind_base.specs.Page.{PageView}
use Rattle.mind_base.specs.declared.images.Image.{Image}
use Rattle.mind_base.specs.declared.links.LinkKind.{LinkKind}
use Rattle.mind_base.specs.declared.links.LinkKind.TheVariants.{To}
use Rattle.mind_base.specs.declared.links.LinkName.{LinkName}
use Rattle.page_image.specs.PageImage.{PageImageView}
use Rattle.wire_msg.specs.declared.msgs.Msg.{Msg}
use Rattle.switch_core.specs.Switch.{place_in}
use Rattle.coherence.specs.Facts.{IsCoherent}
use Rattle.rack_core.specs.BladeMoves.{AreBladesSound}
use Rattle.rack_core.specs.Rack.{RackView}
use Rattle.rack_core.specs.Safe.{IsSound}
use Rattle.rack_core.specs.Seen.{seen}
use Rattle.rack_core.specs.Shape.{IsShaped}
use Rattle.rack_core.specs.SwitchMoves.{AsksAt, with_front}

-- what is handed to a memory blade asks for a page that lies there
abbrev pub AsksOn : LinkKind → (PageView → Option (ℕ × ℕ)) → ℕ → Msg → Type 0
AsksOn To places number message = AsksAt places number message
AsksOn kind places number message = Unit {0}

abbrev pub AskOn : LinkKind → (PageView → Option (ℕ × ℕ)) → ℕ → List Msg → Type 0
AskOn kind places number messages = AllByRecursion (AsksOn kind places number) messages

-- The rack is coherent with these messages before those that are pending on the link, and sound.
pub record IsHanding (name : LinkName) (messages : List Msg) (rack : RackView) : Type 0 where
  pub flat : PageView → PageImageView
  pub coherent : IsCoherent (with_front name.kind name.number messages (seen rack flat))
  pub sound : IsSound rack
  pub asks : AskOn name.kind (place_in rack.switch) name.number messages

-- A node of the rack may be handed a message: the rack has its plan's shape, its blades are sound, and the images are its plan's.
pub record MayHear (images : List Image) (rack : RackView) : Type 0 where
  pub shape : IsShaped rack
  pub sound : AreBladesSound rack
  pub fit : FitImages rack.plan.images images
