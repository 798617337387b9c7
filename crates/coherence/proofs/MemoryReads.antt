-- A memory blade that answers a reading keeps all that is true.
use Rattle.std.proofs.Common.{◌≡◌, ℕ, false, List, [], ◌∷◌, ◌++◌, Some, subst, arith}
use Rattle.std.specs.Prelude.{if◌then◌else◌}
use Rattle.std.proofs.lemmas.Bool.Decides.{nat_tests}
use Rattle.mind_base.specs.Page.{PageView}
use Rattle.wire_msg.specs.declared.msgs.Msg.{Msg}
use Rattle.wire_msg.specs.declared.msgs.Msg.TheVariants.{Read, Image}
use Rattle.coherence.specs.World.{World, put}
use Rattle.coherence.specs.Facts.{IsCoherent, AreFroms, AreTos, AreWritten, AreFetched, images_written}
use Rattle.coherence.specs.Moves.{May, moved, Reads, read}
use Rattle.coherence.proofs.Changes.{by-number}
use Rattle.coherence.proofs.MemoryMoves.{memory_moved}
use Rattle.coherence.proofs.Lists.{total-append}
use Rattle.coherence.proofs.Queues.{none-never, froms-kept}

fetched_read : (w : World) (memory phys blade : ℕ) (page : PageView) (behind : List Msg) → w.tos memory ≡ Read phys (Some blade) page ∷ behind
    → AreFetched w → AreFetched (read memory phys blade page behind w)
fetched_read w memory phys blade page behind head fetched b p place lies = grind (arith, nat_tests, total-append, fetched b p place lies)

tos_read : (w : World) (memory phys blade : ℕ) (page : PageView) (behind : List Msg) → w.tos memory ≡ Read phys (Some blade) page ∷ behind
    → ((m : ℕ) → AreTos w m (w.images m) (w.tos m)) → (m : ℕ) → AreTos (read memory phys blade page behind w) m (w.images m) (put memory behind w.tos m)
tos_read w memory phys blade page behind head tos m =
    by-number (λ n b. AreTos w n (w.images n) (if b then behind else w.tos n)) m memory (subst (AreTos w memory (w.images memory)) head (tos memory)).3 (λ e. tos m)

froms_read : (w : World) (memory phys blade : ℕ) (page : PageView) (behind : List Msg) → w.tos memory ≡ Read phys (Some blade) page ∷ behind
    → ((m : ℕ) → AreTos w m (w.images m) (w.tos m)) → ((m : ℕ) → AreFroms w m (w.froms m))
    → (m : ℕ) → AreFroms w m (put memory (w.froms memory ++ Image (Some blade) page (w.images memory phys) ∷ []) w.froms m)
froms_read w memory phys blade page behind head tos froms m =
    let there = subst (AreTos w memory (w.images memory)) head (tos memory) in
    let last : AreFroms w memory (Image (Some blade) page (w.images memory phys) ∷ []) = ((there.1, there.2, grind (arith, there.0), grind (arith, there.0)), tt) in
    by-number (λ n b. AreFroms w n (if b then w.froms memory ++ Image (Some blade) page (w.images memory phys) ∷ [] else w.froms n)) m memory
    (froms-kept w w memory (λ x. false) (Image (Some blade) page (w.images memory phys) ∷ []) (λ x e is. is) last (w.froms memory) (none-never (w.froms memory)) (froms memory))
    (λ e. froms m)

written_read : (w : World) (memory phys blade : ℕ) (page : PageView) (behind : List Msg) → w.tos memory ≡ Read phys (Some blade) page ∷ behind
    → AreWritten w → AreWritten (read memory phys blade page behind w)
written_read w memory phys blade page behind head wrote p place lies clean =
    by-number (λ n b. images_written (w.tos n) (w.images n) place.1 ≡ w.flat p → images_written (if b then behind else w.tos n) (w.images n) place.1 ≡ w.flat p) place.0 memory
    (λ known. subst (λ q. images_written q (w.images memory) place.1 ≡ w.flat p) head known) (λ e known. known) (wrote p place lies clean)

pub reads : (w : World) (memory phys blade : ℕ) (page : PageView) (behind : List Msg) → IsCoherent w → May w (Reads memory phys blade page behind)
    → IsCoherent (moved w (Reads memory phys blade page behind))
reads w memory phys blade page behind safe head =
    memory_moved (put memory behind w.tos) (put memory (w.froms memory ++ Image (Some blade) page (w.images memory phys) ∷ []) w.froms) w.images w safe
    (fetched_read w memory phys blade page behind head safe.fetched) (tos_read w memory phys blade page behind head safe.tos)
    (written_read w memory phys blade page behind head safe.written) (froms_read w memory phys blade page behind head safe.tos safe.froms)
