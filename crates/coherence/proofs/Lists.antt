-- Links: how many messages pass a test, and what is true of all of them when what surrounds them changes.
use Rattle.std.proofs.Common.{◌≡◌, ℕ, ◌+◌, Bool, true, false, ap, sym, refl, subst, List, [], ◌∷◌, ◌++◌, Some, arith, ◌∙◌, append-nil}
use Rattle.std.specs.Prelude.{IfSome, is_some}
use Rattle.std.proofs.lemmas.Bool.{eqb-true, eq-eqb}
use Rattle.mind_base.specs.Page.{PageView}
use Rattle.page_image.specs.PageImage.{PageImageView}
use Rattle.wire_msg.specs.declared.msgs.Msg.{Msg}
use Rattle.wire_msg.specs.declared.msgs.Msg.TheVariants.{Read, Image, Write}
use Rattle.coherence.specs.World.{World, put}
use Rattle.coherence.specs.Counts.{bit, total, none_is}
use Rattle.coherence.specs.Facts.{IsUp, AreUps, IsDown, AreDowns, AreTos, AreFroms, IsFrom, is_fetching}

-- ---- counts

pub total-append : (test : Msg → Bool) (queue tail : List Msg) → total test (queue ++ tail) ≡ total test queue + total test tail
total-append test [] tail = omega arith
total-append test (m ∷ queue) tail = omega (arith, total-append test queue tail)

pub total-cons : (test : Msg → Bool) (m : Msg) (queue : List Msg) → total test (m ∷ queue) ≡ bit (test m) + total test queue
total-cons test m queue = refl

pub total-none : (test : Msg → Bool) → total test [] ≡ 0
total-none test = refl

pub total-one : (test : Msg → Bool) (m : Msg) → total test (m ∷ []) ≡ bit (test m)
total-one test m = omega (arith, total-cons test m [], total-none test)

pub none_is-total : (test : Msg → Bool) (queue : List Msg) → none_is test queue ≡ true → total test queue ≡ 0
none_is-total test queue e = eqb-true _ _ e

pub total-none_is : (test : Msg → Bool) (queue : List Msg) → total test queue ≡ 0 → none_is test queue ≡ true
total-none_is test queue e = eq-eqb _ _ e

pub none_is-nothing : (test : Msg → Bool) → none_is test [] ≡ true
none_is-nothing test = total-none_is test [] (total-none test)

-- none of two lists is none of them joined
pub none_is-append : (test : Msg → Bool) (queue tail : List Msg) → none_is test queue ≡ true → none_is test tail ≡ true → none_is test (queue ++ tail) ≡ true
none_is-append test queue tail a b =
    total-none_is test (queue ++ tail) (omega (arith, total-append test queue tail, none_is-total test queue a, none_is-total test tail b))

-- ---- all messages of a link

-- a message of a link: what the link has none of, it is not
pub Among : Msg → List Msg → Type 0
Among m queue = (test : Msg → Bool) → total test queue ≡ 0 → test m ≡ false

pub among-none : (m : Msg) (queue : List Msg) → Among m queue → (test : Msg → Bool) → total test queue ≡ 0 → test m ≡ false
unfolding Among
among-none m queue h = h

pub bit-zero : (b : Bool) → bit b ≡ 0 → b ≡ false
bit-zero true e = absurd (omega arith)
bit-zero false e = refl

among-head : (m : Msg) (queue : List Msg) → Among m (m ∷ queue)
unfolding Among
among-head m queue test e = bit-zero (test m) (omega (arith, total-cons test m queue))

among-tail : (m n : Msg) (queue : List Msg) → Among m queue → Among m (n ∷ queue)
unfolding Among
among-tail m n queue h test e = h test (omega (arith, total-cons test n queue))

-- nor is it one that passes a test which none of the link's passes
pub among-not : (test : Msg → Bool) (m : Msg) (queue : List Msg) → Among m queue → none_is test queue ≡ true → test m ≡ false
among-not test m queue among none = among-none m queue among test (none_is-total test queue none)

-- what is true of a link, message by message, becomes another thing that is true of it
pub along : (A B : List Msg → Type 0) (queue : List Msg) → ((m : Msg) (behind : List Msg) → Among m queue → A (m ∷ behind) → A behind × (B behind → B (m ∷ behind))) → B [] → A queue → B queue
along A B [] step end h = end
along A B (m ∷ queue) step end h =
    let here = step m queue (among-head m queue) h in
    here.1 (along A B queue (λ n behind among. step n behind (among-tail n m queue among)) end here.0)

-- what is true of the messages up stays true, and is true of those that are appended
pub ups_changed : (w v : World) (blade : ℕ) (queue tail : List Msg)
    → ((m : Msg) (behind : List Msg) → Among m queue → IsUp w blade m behind → IsUp v blade m (behind ++ tail))
    → AreUps v blade tail → AreUps w blade queue → AreUps v blade (queue ++ tail)
ups_changed w v blade queue tail step =
    along (AreUps w blade) (λ q. AreUps v blade (q ++ tail)) queue (λ m behind among up. (up.1, λ rest. (step m behind among up.0, rest)))

-- the same where nothing is appended, and of the messages down
pub ups_kept : (w v : World) (blade : ℕ) (queue : List Msg)
    → ((m : Msg) (behind : List Msg) → Among m queue → IsUp w blade m behind → IsUp v blade m behind) → AreUps w blade queue → AreUps v blade queue
ups_kept w v blade queue step = along (AreUps w blade) (AreUps v blade) queue (λ m behind among up. (up.1, λ rest. (step m behind among up.0, rest))) tt

pub downs_kept : (w v : World) (blade : ℕ) (queue : List Msg)
    → ((m : Msg) (behind : List Msg) → Among m queue → IsDown w blade m behind → IsDown v blade m behind) → AreDowns w blade queue → AreDowns v blade queue
downs_kept w v blade queue step =
    along (AreDowns w blade) (AreDowns v blade) queue (λ m behind among down. (down.1, λ rest. (step m behind among down.0, rest))) tt

-- a link with no message, with one, and the first message of a link
pub ups-none : (w : World) (blade : ℕ) → AreUps w blade []
ups-none w blade = tt

pub ups-one : (w : World) (blade : ℕ) (m : Msg) → IsUp w blade m [] → AreUps w blade (m ∷ [])
ups-one w blade m h = (h, tt)

pub downs-cons : (w : World) (blade : ℕ) (m : Msg) (queue : List Msg) → AreDowns w blade (m ∷ queue) → IsDown w blade m queue × AreDowns w blade queue
downs-cons w blade m queue h = h

-- ---- the links of the memory blades

-- what is read stays the newest where the images of the pages that are fetched stay as they are
pub tos_kept : (w v : World) (memory : ℕ) (images : ℕ → PageImageView) (queue : List Msg) → v.places ≡ w.places → v.wants ≡ w.wants
    → ((blade : ℕ) (page : PageView) → is_fetching (w.wants blade page) ≡ true → v.flat page ≡ w.flat page)
    → AreTos w memory images queue → AreTos v memory images queue
tos_kept w v memory images [] places wants flat h = h
tos_kept w v memory images (Read phys (Some blade) page ∷ queue) places wants flat h = (
  ap (λ f. f page) places ∙ h.0,
  h.1 ∙ sym (flat blade page h.2),
  ap (λ f. is_fetching (f blade page)) wants ∙ h.2,
  tos_kept w v memory images queue places wants flat h.3,
)
tos_kept w v memory images (Write phys image ∷ queue) places wants flat h = tos_kept w v memory (put phys image images) queue places wants flat h
tos_kept w v memory images (message ∷ queue) places wants flat h = absurd h

from_kept : (w v : World) (memory : ℕ) (message : Msg) → v.places ≡ w.places → v.wants ≡ w.wants
    → ((blade : ℕ) (page : PageView) → is_fetching (w.wants blade page) ≡ true → v.flat page ≡ w.flat page)
    → IsFrom w memory message → IsFrom v memory message
from_kept w v memory (Image (Some blade) page image) places wants flat h = (
  h.0 ∙ sym (flat blade page h.1),
  ap (λ f. is_fetching (f blade page)) wants ∙ h.1,
  subst (λ f. IfSome (f page) (λ place. place.0 ≡ memory)) (sym places) h.2,
  ap (λ f. is_some (f page)) places ∙ h.3,
)
from_kept w v memory message places wants flat h = absurd h

pub froms_kept : (w v : World) (memory : ℕ) (queue : List Msg) → v.places ≡ w.places → v.wants ≡ w.wants
    → ((blade : ℕ) (page : PageView) → is_fetching (w.wants blade page) ≡ true → v.flat page ≡ w.flat page)
    → AreFroms w memory queue → AreFroms v memory queue
froms_kept w v memory [] places wants flat h = h
froms_kept w v memory (message ∷ queue) places wants flat h =
    (from_kept w v memory message places wants flat h.0, froms_kept w v memory queue places wants flat h.1)
