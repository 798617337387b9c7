-- What a memory blade does with a message is a move.
use Rattle.std.proofs.Common.{◌≡◌, refl, sym, ◌∙◌, ap, subst, ℕ, ◌<◌, Bool, true, false, ◌==◌, List, [], ◌∷◌, ◌++◌, append-nil, length, zero, suc, arith, Some}
use Rattle.std.specs.Prelude.{if◌then◌else◌, slice_set}
use Rattle.std.proofs.Math.Path.{fun_ext}
use Rattle.std.proofs.lemmas.Bool.{eqb-true, eq-eqb}
use Rattle.std.proofs.lemmas.Bool.Decides.{nat_tests}
use Rattle.mind_base.specs.Page.{PageView}
use Rattle.mind_base.specs.declared.links.LinkKind.TheVariants.{From}
use Rattle.page_image.specs.PageImage.{PageImageView}
use Rattle.wire_msg.specs.declared.msgs.Msg.{Msg}
use Rattle.wire_msg.specs.declared.msgs.Msg.TheVariants.{Read, Image, Write}
use Rattle.memory_blade.specs.MemoryBlade.{IsFor, image_at}
use Rattle.coherence.specs.Facts.{IsCoherent, AreTos}
use Rattle.coherence.specs.Moves.{Reads, Writes}
use Rattle.coherence.specs.World.{World, put}
use Rattle.rack_core.specs.Events.{answer_to_switch}
use Rattle.rack_core.specs.Seen.{sent_on}
use Rattle.rack_core.specs.SwitchMoves.{LeadsByMoves, with_seen_memory}
use Rattle.rack_core.proofs.Moves.Runs.{one_move}

pub suc-zero : (n : ℕ) → (suc n == 0) ≡ false
suc-zero n = grind (arith, nat_tests)

pub zero-suc : (n : ℕ) → (0 == suc n) ≡ false
zero-suc n = grind (arith, nat_tests)

pub suc-suc : (n k : ℕ) → (suc n == suc k) ≡ (n == k)
suc-suc n k = by (n == k) refl where
  by : (b : Bool) → (n == k) ≡ b → (suc n == suc k) ≡ b
  by true e = let same = eqb-true n k e in eq-eqb (suc n) (suc k) (ap suc same)
  by false e = grind (arith, nat_tests)

-- one image changes
image_at-set : (images : List PageImageView) (phys : ℕ) (image : PageImageView) (n : ℕ) → phys < length images
    → image_at (slice_set images phys image) n ≡ (if n == phys then image else image_at images n)
image_at-set [] phys image n lt = absurd (omega arith)
image_at-set (i ∷ images) zero image zero lt = refl
image_at-set (i ∷ images) zero image (suc n) lt = ap (λ b. if b then image else image_at images n) (sym (suc-zero n))
image_at-set (i ∷ images) (suc phys) image zero lt = ap (λ b. if b then image else i) (sym (zero-suc phys))
image_at-set (i ∷ images) (suc phys) image (suc n) lt =
    image_at-set images phys image n (omega arith) ∙ ap (λ b. if b then image else image_at images n) (sym (suc-suc n phys))

put-same : {X : Type 0} (f : ℕ → X) (k : ℕ) (x : X) → f k ≡ x → f ≡ put k x f
put-same {X} f k x e = fun_ext (λ n. by n (n == k) refl) where
  by : (n : ℕ) (b : Bool) → (n == k) ≡ b → f n ≡ (if b then x else f n)
  by n true t = ap f (eqb-true n k t) ∙ e
  by n false t = refl

-- an answer goes onto its link alone
answered : (f : ℕ → List Msg) (number : ℕ) (message : Msg)
    → (λ memory. f memory ++ sent_on From memory (answer_to_switch number (Some message))) ≡ put number (f number ++ message ∷ []) f
answered f number message = fun_ext (λ n. by n (n == number) refl) where
  by : (n : ℕ) (b : Bool) → (n == number) ≡ b → f n ++ (if b then message ∷ [] else []) ≡ (if b then f number ++ message ∷ [] else f n)
  by n true t = ap (λ k. f k ++ message ∷ []) (eqb-true n number t)
  by n false t = append-nil (f n)

unanswered : (f : ℕ → List Msg) → (λ memory. f memory ++ []) ≡ f
unanswered f = fun_ext (λ n. append-nil (f n))

reads : (w : World) (number phys : ℕ) (blade : ℕ) (page : PageView) (images : List PageImageView) (behind : List Msg)
    → w.tos number ≡ Read phys (Some blade) page ∷ behind → w.images number ≡ image_at images
    → LeadsByMoves w (with_seen_memory number images (Read phys (Some blade) page) behind w)
reads w number phys blade page images behind head is =
    let first : Msg = Image (Some blade) page (image_at images phys) in
    let froms : (λ memory. w.froms memory ++ sent_on From memory (answer_to_switch number (Some first))) ≡ put number (w.froms number ++ Image (Some blade) page (w.images number phys) ∷ []) w.froms =
    answered w.froms number first ∙ ap (λ f. put number (w.froms number ++ Image (Some blade) page (f phys) ∷ []) w.froms) (sym is) in
    let same : put number (image_at images) w.images ≡ w.images = sym (put-same w.images number (image_at images) is) in
    one_move w (with_seen_memory number images (Read phys (Some blade) page) behind w) (Reads number phys blade page behind) head
    (λ i. record w { tos = put number behind w.tos; froms = froms i; images = same i })

writes : (w : World) (number phys : ℕ) (image : PageImageView) (images : List PageImageView) (behind : List Msg)
    → w.tos number ≡ Write phys image ∷ behind → w.images number ≡ image_at images → phys < length images
    → LeadsByMoves w (with_seen_memory number images (Write phys image) behind w)
writes w number phys image images behind head is lt =
    let set : image_at (slice_set images phys image) ≡ put phys image (w.images number) =
    fun_ext (λ n. image_at-set images phys image n lt) ∙ ap (put phys image) (sym is) in
    let froms : (λ memory. w.froms memory ++ []) ≡ w.froms = unanswered w.froms in
    one_move w (with_seen_memory number images (Write phys image) behind w) (Writes number phys image behind) head
    (λ i. record w { tos = put number behind w.tos; froms = froms i; images = put number (set i) w.images })

-- a message that a memory blade may be sent is taken by a move
pub memory_moves : (w : World) (number : ℕ) (message : Msg) (images : List PageImageView) (behind : List Msg) → IsCoherent w
    → w.tos number ≡ message ∷ behind → w.images number ≡ image_at images → IsFor (length images) message
    → LeadsByMoves w (with_seen_memory number images message behind w)
memory_moves w number message images behind safe head is fits =
    by message head fits (subst (AreTos w number (w.images number)) head (safe.tos number)) where
      by : (m : Msg) → w.tos number ≡ m ∷ behind → IsFor (length images) m → AreTos w number (w.images number) (m ∷ behind)
          → LeadsByMoves w (with_seen_memory number images m behind w)
      by (Read phys (Some blade) page) at fit known = reads w number phys blade page images behind at is
      by (Write phys image) at fit known = writes w number phys image images behind at is fit
      by m at fit known = absurd known
