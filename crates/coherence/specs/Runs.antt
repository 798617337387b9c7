-- Moves one after another, from a rack in which nothing has been done.
use Rattle.std.specs.Prelude.{◌≡◌, ℕ, List, [], ◌∷◌, Option, None}
use Rattle.mind_base.specs.Page.{PageView}
use Rattle.mind_base.specs.declared.commands.Perm.{Perm}
use Rattle.page_image.specs.PageImage.{zero_image}
use Rattle.coherence.specs.Moves.{Move, May, moved}
use Rattle.coherence.specs.World.{World}

-- each move can be made where the moves before it lead
unfoldable pub Run : World → List Move → World → Type 0
Run first [] last = last ≡ first
Run first (move ∷ moves) last = May first move × Run (moved first move) moves last

-- no page is held, nothing is asked for or under way, there is no entry, and all pages are zero
abbrev pub start : (PageView → Option (ℕ × ℕ)) → (PageView → Perm) → World
start places perms = record {
  frames = λ blade page. None;
  asks = λ blade page. None;
  ups = λ blade. [];
  downs = λ blade. [];
  wants = λ blade page. None;
  regions = λ page. None;
  last = 0;
  tos = λ memory. [];
  froms = λ memory. [];
  images = λ memory phys. zero_image;
  flat = λ page. zero_image;
  places = places;
  perms = perms;
}
