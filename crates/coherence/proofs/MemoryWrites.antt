-- A memory blade that writes an image keeps all that is true.
use Rattle.std.proofs.Common.{◌≡◌, ℕ, List, ◌∷◌, subst, arith}
use Rattle.std.specs.Prelude.{if◌then◌else◌}
use Rattle.std.proofs.lemmas.Bool.Decides.{nat_tests}
use Rattle.page_image.specs.PageImage.{PageImageView}
use Rattle.wire_msg.specs.declared.msgs.Msg.{Msg}
use Rattle.wire_msg.specs.declared.msgs.Msg.TheVariants.{Write}
use Rattle.coherence.specs.World.{World, put}
use Rattle.coherence.specs.Facts.{IsCoherent, AreTos, AreWritten, AreFetched, images_written}
use Rattle.coherence.specs.Moves.{May, moved, Writes, wrote}
use Rattle.coherence.proofs.Changes.{by-number}
use Rattle.coherence.proofs.MemoryMoves.{memory_moved}

fetched_wrote : (w : World) (memory phys : ℕ) (image : PageImageView) (behind : List Msg) → w.tos memory ≡ Write phys image ∷ behind
    → AreFetched w → AreFetched (wrote memory phys image behind w)
fetched_wrote w memory phys image behind head fetched b p place lies = grind (arith, nat_tests, fetched b p place lies)

tos_wrote : (w : World) (memory phys : ℕ) (image : PageImageView) (behind : List Msg) → w.tos memory ≡ Write phys image ∷ behind
    → ((m : ℕ) → AreTos w m (w.images m) (w.tos m))
    → (m : ℕ) → AreTos w m (put memory (put phys image (w.images memory)) w.images m) (put memory behind w.tos m)
tos_wrote w memory phys image behind head tos m =
    by-number (λ n b. AreTos w n (if b then put phys image (w.images memory) else w.images n) (if b then behind else w.tos n)) m memory
    (subst (AreTos w memory (w.images memory)) head (tos memory)) (λ e. tos m)

written_wrote : (w : World) (memory phys : ℕ) (image : PageImageView) (behind : List Msg) → w.tos memory ≡ Write phys image ∷ behind
    → AreWritten w → AreWritten (wrote memory phys image behind w)
written_wrote w memory phys image behind head all p place lies clean =
    by-number (λ n b. images_written (w.tos n) (w.images n) place.1 ≡ w.flat p → images_written (if b then behind else w.tos n) (if b then put phys image (w.images memory) else w.images n) place.1 ≡ w.flat p) place.0 memory
    (λ known. subst (λ q. images_written q (w.images memory) place.1 ≡ w.flat p) head known) (λ e known. known) (all p place lies clean)

pub writes : (w : World) (memory phys : ℕ) (image : PageImageView) (behind : List Msg) → IsCoherent w → May w (Writes memory phys image behind)
    → IsCoherent (moved w (Writes memory phys image behind))
writes w memory phys image behind safe head =
    memory_moved (put memory behind w.tos) w.froms (put memory (put phys image (w.images memory)) w.images) w safe
    (fetched_wrote w memory phys image behind head safe.fetched) (tos_wrote w memory phys image behind head safe.tos)
    (written_wrote w memory phys image behind head safe.written) safe.froms
