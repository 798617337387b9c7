-- A message that is handed to a memory blade leads the rack on by moves.
use Rattle.std.proofs.Common.{◌≡◌, refl, sym, ◌∙◌, ap, subst, ℕ, ◌<◌, Bool, true, false, ◌==◌, List, [], ◌∷◌, ◌++◌, append-nil, length, zero, suc, arith, Option, Some, None}
use Rattle.std.specs.Prelude.{if◌then◌else◌, slice_set, slice_index_or}
use Rattle.std.specs.List.{AllByRecursion}
use Rattle.std.proofs.Math.Path.{fun_ext}
use Rattle.std.proofs.lemmas.Option.{slice_get_within, get_or_from_slice_get}
use Rattle.mind_base.specs.Page.{PageView}
use Rattle.mind_base.specs.declared.links.LinkKind.TheVariants.{Up, Down, To, From}
use Rattle.mind_base.specs.declared.notes.Note.{Note}
use Rattle.page_image.specs.PageImage.{PageImageView}
use Rattle.wire_msg.specs.declared.msgs.Msg.{Msg}
use Rattle.wire_msg.specs.declared.msgs.Msg.TheVariants.{Read, Write}
use Rattle.switch_core.specs.Switch.{place_in}
use Rattle.memory_blade.specs.MemoryBlade.{IsFor, image_at, images_after, answer_to}
use Rattle.coherence.proofs.Callers.{put-here}
use Rattle.coherence.specs.Facts.{IsCoherent}
use Rattle.coherence.specs.World.{put}
use Rattle.rack_core.specs.Events.{MemoryHears, answer_to_switch}
use Rattle.rack_core.specs.Rack.{RackView, with_net, with_memory}
use Rattle.rack_core.specs.Seen.{pending_on, seen, sent_on}
use Rattle.rack_core.specs.SwitchMoves.{AreAsked, AsksAt, LieBelow, LeadsByMoves, with_front, with_seen_memory}
use Rattle.rack_core.proofs.Moves.Memory.Acts.{memory_moves, suc-zero, zero-suc, suc-suc}
use Rattle.rack_core.proofs.Moves.Switch.Handed.{put-twice}
use Rattle.rack_core.proofs.Moves.Sent.{sends_all}

-- the images of one memory blade change
memories-set : (memories : List (List PageImageView)) (number : ℕ) (images : List PageImageView) (n : ℕ) → number < length memories
    → slice_index_or (slice_set memories number images) n [] ≡ (if n == number then images else slice_index_or memories n [])
memories-set [] number images n lt = absurd (omega arith)
memories-set (m ∷ memories) zero images zero lt = refl
memories-set (m ∷ memories) zero images (suc n) lt = ap (λ b. if b then images else slice_index_or memories n []) (sym (suc-zero n))
memories-set (m ∷ memories) (suc number) images zero lt = ap (λ b. if b then images else m) (sym (zero-suc number))
memories-set (m ∷ memories) (suc number) images (suc n) lt =
    memories-set memories number images n (omega arith) ∙ ap (λ b. if b then images else slice_index_or memories n []) (sym (suc-suc n number))

images-set : (memories : List (List PageImageView)) (number : ℕ) (images : List PageImageView) → number < length memories
    → put number (image_at images) (λ n. image_at (slice_index_or memories n [])) ≡ (λ n. image_at (slice_index_or (slice_set memories number images) n []))
images-set memories number images lt = fun_ext (λ n. by n (n == number) ∙ ap image_at (sym (memories-set memories number images n lt))) where
  by : (n : ℕ) (b : Bool) → (if b then image_at images else image_at (slice_index_or memories n [])) ≡ image_at (if b then images else slice_index_or memories n [])
  by n true = refl
  by n false = refl

-- an answer goes onto no other kind of link
pub answers-quiet : (number : ℕ) (answer : Option Msg) (n : ℕ) → (sent_on Up n (answer_to_switch number answer) ≡ []) × (sent_on Down n (answer_to_switch number answer) ≡ []) × (sent_on To n (answer_to_switch number answer) ≡ [])
answers-quiet number None n = (refl, refl, refl)
answers-quiet number (Some message) n = (refl, refl, refl)

pub memory_handed : (old new : RackView) (flat : PageView → PageImageView) (number : ℕ) (message : Msg) (rest : List Msg) (noted : List Note)
    → IsCoherent (with_front To number (message ∷ rest) (seen old flat)) → (hears : MemoryHears number message old new noted) → IsFor (length hears.images) message
    → LeadsByMoves (with_front To number (message ∷ rest) (seen old flat)) (with_front To number rest (seen new flat))
memory_handed old new flat number message rest noted safe hears fits =
    let w = with_front To number (message ∷ rest) (seen old flat) in
    let images = hears.images in
    let net = hears.net in
    let behind = rest ++ pending_on old.net To number in
    let sent = answer_to_switch number (answer_to images message) in
    let at : w.images number ≡ image_at images = ap image_at (get_or_from_slice_get old.memories number images [] hears.before) in
    let moves = memory_moves w number message images behind safe (put-here number (message ∷ behind) (pending_on old.net To)) at fits in
    let ups : pending_on old.net Up ≡ pending_on net Up =
    fun_ext (λ n. sym (sends_all Up n sent old.net net hears.sent ∙ ap (λ s. pending_on old.net Up n ++ s) (answers-quiet number (answer_to images message) n).0 ∙ append-nil (pending_on old.net Up n))) in
    let downs : pending_on old.net Down ≡ pending_on net Down =
    fun_ext (λ n. sym (sends_all Down n sent old.net net hears.sent ∙ ap (λ s. pending_on old.net Down n ++ s) (answers-quiet number (answer_to images message) n).1 ∙ append-nil (pending_on old.net Down n))) in
    let kept : pending_on old.net To ≡ pending_on net To =
    fun_ext (λ n. sym (sends_all To n sent old.net net hears.sent ∙ ap (λ s. pending_on old.net To n ++ s) (answers-quiet number (answer_to images message) n).2 ∙ append-nil (pending_on old.net To n))) in
    let tos : put number behind (put number (message ∷ behind) (pending_on old.net To)) ≡ put number (rest ++ pending_on net To number) (pending_on net To) =
    put-twice number behind (message ∷ behind) (pending_on old.net To) ∙ ap (λ f. put number (rest ++ f number) f) kept in
    let froms : (λ n. pending_on old.net From n ++ sent_on From n sent) ≡ pending_on net From = fun_ext (λ n. sym (sends_all From n sent old.net net hears.sent)) in
    let set : put number (image_at (images_after images message)) (λ n. image_at (slice_index_or old.memories n [])) ≡ (λ n. image_at (slice_index_or (slice_set old.memories number (images_after images message)) n [])) =
    images-set old.memories number (images_after images message) (slice_get_within old.memories number images hears.before) in
    let after : RackView = with_net net (with_memory number (images_after images message) old) in
    let same : with_seen_memory number images message behind w ≡ with_front To number rest (seen after flat) =
    λ i. record (seen after flat) { ups = ups i; downs = downs i; tos = tos i; froms = froms i; images = set i } in
    subst (λ r. LeadsByMoves w (with_front To number rest (seen r flat))) (sym hears.after) (subst (λ v. LeadsByMoves w v) same moves)

-- what lies in the memory blade may be asked of it
pub asked_for : (places : PageView → Option (ℕ × ℕ)) (number count : ℕ) (message : Msg) → AsksAt places number message → LieBelow places number count → IsFor count message
asked_for places number count (Read phys blade page) asks below = below page phys asks
asked_for places number count (Write phys image) asks below = below asks.0 phys asks.1
asked_for places number count message asks below = absurd asks

-- nothing more goes to a memory blade
pub memory_keeps : (old new : RackView) (number : ℕ) (message : Msg) (noted : List Note) → MemoryHears number message old new noted → AreAsked old → AreAsked new
memory_keeps old new number message noted hears before = subst AreAsked (sym hears.after) (λ m.
    let answer = answer_to hears.images message in
    subst (AllByRecursion (AsksAt (place_in old.switch) m))
    (sym (sends_all To m (answer_to_switch number answer) old.net hears.net hears.sent ∙ ap (λ s. pending_on old.net To m ++ s) (answers-quiet number answer m).2 ∙ append-nil (pending_on old.net To m)))
    (before m))
