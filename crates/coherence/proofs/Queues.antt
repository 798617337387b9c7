-- What holds of a queue still holds when what surrounds it changes.
use Rattle.std.proofs.Common.{◌≡◌, ℕ, Bool, true, false, List, [], ◌∷◌, ◌++◌, Some, refl, sym, subst, ◌∙◌, append-nil, arith}
use Rattle.std.proofs.lemmas.Bool.Decides.{nat_tests}
use Rattle.mind_base.specs.Page.{PageView}
use Rattle.page_image.specs.PageImage.{PageImageView}
use Rattle.wire_msg.specs.declared.msgs.Msg.{Msg}
use Rattle.wire_msg.specs.declared.msgs.Msg.TheVariants.{Read, Write}
use Rattle.coherence.specs.Counts.{none_is}
use Rattle.coherence.specs.World.{World, put}
use Rattle.coherence.specs.Facts.{IsUp, AreUps, IsDown, AreDowns, IsFrom, AreFroms, AreTos, images_written, is_fetching}
use Rattle.coherence.proofs.Lists.{among-not, along, ups_kept, downs_kept}

-- ---- counts

-- a queue without such a message
pub none-head : (test : Msg → Bool) (m : Msg) (q : List Msg) → none_is test (m ∷ q) ≡ true → test m ≡ false
none-head test m q h = grind (arith, nat_tests)

pub none-rest : (test : Msg → Bool) (m : Msg) (q : List Msg) → none_is test (m ∷ q) ≡ true → none_is test q ≡ true
none-rest test m q h = grind (arith, nat_tests)

pub none-more : (test : Msg → Bool) (m : Msg) (q : List Msg) → test m ≡ false → none_is test q ≡ true → none_is test (m ∷ q) ≡ true
none-more test m q h t = grind (arith, nat_tests)

pub none-never : (q : List Msg) → none_is (λ m. false) q ≡ true
none-never [] = refl
none-never (m ∷ q) = let rest = none-never q in grind (arith, nat_tests, rest)

-- ---- up queues

pub ups-kept : (w w' : World) (blade : ℕ) (bad : Msg → Bool)
    → ((m : Msg) (behind : List Msg) → bad m ≡ false → IsUp w blade m behind → IsUp w' blade m behind)
    → (q : List Msg) → none_is bad q ≡ true → AreUps w blade q → AreUps w' blade q
ups-kept w w' blade bad keeps q none = ups_kept w w' blade q (λ m behind among. keeps m behind (among-not bad m q among none))

-- ---- down queues, with what is sent down behind them

pub downs-kept : (w w' : World) (blade : ℕ) (bad : Msg → Bool) (tail : List Msg)
    → ((m : Msg) (behind : List Msg) → bad m ≡ false → IsDown w blade m behind → IsDown w' blade m (behind ++ tail))
    → AreDowns w' blade tail → (q : List Msg) → none_is bad q ≡ true → AreDowns w blade q → AreDowns w' blade (q ++ tail)
downs-kept w w' blade bad tail keeps last q none = along (AreDowns w blade) (λ queue. AreDowns w' blade (queue ++ tail)) q
    (λ m behind among down. (down.1, λ rest. (keeps m behind (among-not bad m q among none) down.0, rest))) last

pub downs-same : (w w' : World) (blade : ℕ) (bad : Msg → Bool)
    → ((m : Msg) (behind : List Msg) → bad m ≡ false → IsDown w blade m behind → IsDown w' blade m behind)
    → (q : List Msg) → none_is bad q ≡ true → AreDowns w blade q → AreDowns w' blade q
downs-same w w' blade bad keeps q none = downs_kept w w' blade q (λ m behind among. keeps m behind (among-not bad m q among none))

-- ---- queues from memory blades

pub froms-kept : (w w' : World) (memory : ℕ) (bad : Msg → Bool) (tail : List Msg)
    → ((m : Msg) → bad m ≡ false → IsFrom w memory m → IsFrom w' memory m)
    → AreFroms w' memory tail → (q : List Msg) → none_is bad q ≡ true → AreFroms w memory q → AreFroms w' memory (q ++ tail)
froms-kept w w' memory bad tail keeps last [] none froms = last
froms-kept w w' memory bad tail keeps last (m ∷ q) none froms =
    (keeps m (none-head bad m q none) froms.0, froms-kept w w' memory bad tail keeps last q (none-rest bad m q none) froms.1)

pub froms-same : (w w' : World) (memory : ℕ) (bad : Msg → Bool)
    → ((m : Msg) → bad m ≡ false → IsFrom w memory m → IsFrom w' memory m)
    → (q : List Msg) → none_is bad q ≡ true → AreFroms w memory q → AreFroms w' memory q
froms-same w w' memory bad keeps q none froms = subst (λ q. AreFroms w' memory q) (append-nil q) (froms-kept w w' memory bad [] keeps tt q none froms)

-- ---- queues to memory blades

-- what has to hold of the readings of a queue
abbrev pub KeepsReads : World → World → ℕ → (Msg → Bool) → Type 0
KeepsReads w w' memory bad = (phys blade : ℕ) (page : PageView) → bad (Read phys (Some blade) page) ≡ false → w.places page ≡ Some (memory, phys)
    → is_fetching (w.wants blade page) ≡ true → (w'.places page ≡ Some (memory, phys)) × (w'.flat page ≡ w.flat page) × (is_fetching (w'.wants blade page) ≡ true)

pub tos-kept : (w w' : World) (memory : ℕ) (bad : Msg → Bool) (tail : List Msg) → KeepsReads w w' memory bad
    → (q : List Msg) (images : ℕ → PageImageView) → none_is bad q ≡ true → AreTos w' memory (images_written q images) tail → AreTos w memory images q → AreTos w' memory images (q ++ tail)
tos-kept w w' memory bad tail keeps [] images none last tos = last
tos-kept w w' memory bad tail keeps (Read phys (Some blade) page ∷ q) images none last tos =
    let kept = keeps phys blade page (none-head bad (Read phys (Some blade) page) q none) tos.0 tos.2 in
    (kept.0, tos.1 ∙ sym kept.1, kept.2, tos-kept w w' memory bad tail keeps q images (none-rest bad (Read phys (Some blade) page) q none) last tos.3)
tos-kept w w' memory bad tail keeps (Write phys image ∷ q) images none last tos =
    tos-kept w w' memory bad tail keeps q (put phys image images) (none-rest bad (Write phys image) q none) last tos
tos-kept w w' memory bad tail keeps (m ∷ q) images none last tos = absurd tos

pub tos-same : (w w' : World) (memory : ℕ) (bad : Msg → Bool) → KeepsReads w w' memory bad
    → (q : List Msg) (images : ℕ → PageImageView) → none_is bad q ≡ true → AreTos w memory images q → AreTos w' memory images q
tos-same w w' memory bad keeps q images none tos = subst (λ q. AreTos w' memory images q) (append-nil q) (tos-kept w w' memory bad [] keeps q images none tt tos)

-- the images once one more message has come
pub written-append : (q tail : List Msg) (images : ℕ → PageImageView) → images_written (q ++ tail) images ≡ images_written tail (images_written q images)
written-append [] tail images = refl
written-append (Write phys image ∷ q) tail images = written-append q tail (put phys image images)
written-append (m ∷ q) tail images = written-append q tail images
