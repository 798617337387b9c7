-- The code lets the switch and the memory blades of the rack hear messages.
use Rattle.std.proofs.Common.{◌≡◌, refl, sym, ap, subst, ◌∙◌, ℕ, ◌<◌, List, [], ◌∷◌, length, slice_get, slice_set, Option, Some, get_or}
use Rattle.std.specs.List.{AllByRecursion}
use Rattle.std.proofs.lemmas.List.{length-set}
use Rattle.std.proofs.lemmas.Option.{slice_get-get_or}
use Rattle.mind_base.specs.declared.links.LinkKind.{LinkKind}
use Rattle.mind_base.specs.declared.links.LinkKind.TheVariants.{Up, Down, To, From}
use Rattle.mind_base.specs.declared.links.LinkName.{LinkName}
use Rattle.mind_base.specs.declared.notes.Note.{Note}
use Rattle.mind_base.specs.declared.plans.RackPlan.{RackPlan}
use Rattle.page_image.specs.PageImage.{PageImageView}
use Rattle.memory_blade.specs.MemoryBlade as memory
use Rattle.wire_msg.specs.WellFormed.{FieldsAgree}
use Rattle.wire_msg.specs.declared.msgs.Msg.{Msg}
use Rattle.switch_core.specs.Handling.{Receives}
use Rattle.switch_core.specs.Invariant.{IsSwitch}
use Rattle.switch_core.specs.Sending.{IsSendable, LeadsOut, Remains, start_at, Comes}
use Rattle.switch_core.specs.Switch.{SwitchView, SwitchEffect}
use Rattle.rack_net.specs.Net.{NetView, IsLinkOf, IsNet, links_of_kind}
use Rattle.rack_core.specs.Calls.{Notes}
use Rattle.rack_core.specs.Events.{SendsOn, SendsAll, SwitchHears, MemoryHears, answer_to_switch}
use Rattle.rack_core.specs.Rack.{RackView, with_net, with_switch, with_memory}
use Rattle.rack_core.specs.Shape.{IsShaped}
use Rattle.rack_core.proofs.Events.Sending.{as-many}

-- ---- the switch

-- what the switch may send goes out on a link of the net
pub sendable-there : (rack : RackView) (plan : RackPlan) (sent : List (LinkName × Msg)) → IsShaped rack → plan ≡ rack.plan → AllByRecursion (IsSendable plan) sent
    → AllByRecursion (λ m. IsLinkOf rack.net m.0 × FieldsAgree m.1) sent
sendable-there rack plan [] shape is all = tt
sendable-there rack plan (m ∷ sent) shape is all = ((there m.0.kind (subst (λ p. LeadsOut p m.0.kind m.0.number) is all.0.link), all.0.fields), sendable-there rack plan sent shape is all.1)
  where
    there : (kind : LinkKind) → LeadsOut rack.plan kind m.0.number → m.0.number < links_of_kind rack.net.blades rack.net.memories kind
    there Up lt = absurd lt
    there Down lt = subst (λ n. m.0.number < n) (sym shape.links.0) lt
    there To lt = subst (λ n. m.0.number < n) (sym shape.links.1) lt
    there From lt = absurd lt

-- the switch heard the message
pub switch-heard : (link : LinkName) (message : Msg) (effect : SwitchEffect) (old new : RackView) (switch : SwitchView) (net : NetView) (sent : List (LinkName × Msg)) (notes notes' : List Note)
    → Receives link message old.switch effect → Comes (start_at old.switch [] notes) effect switch sent notes' → SendsAll sent old.net net
    → new ≡ with_net net (with_switch switch old) → Notes (SwitchHears link message old new) notes notes'
switch-heard link message effect old new switch net sent notes notes' hears comes sends became = (
  effect.noted,
  record {
    effect = effect;
    heard = hears;
    net = net;
    sent = subst (λ s. SendsAll s old.net net) comes.sent sends;
    after = became ∙ ap (λ s. with_net net (with_switch s old)) comes.after;
    notes = refl;
  },
  comes.noted,
)

pub switch-shape : (old new : RackView) (switch : SwitchView) (net : NetView) (sent : List (LinkName × Msg)) → SendsAll sent old.net net
    → new ≡ with_net net (with_switch switch old) → Remains old.switch switch → IsSwitch switch → (IsNet old.net → IsNet net) → IsShaped old → IsShaped new
switch-shape old new switch net sent sends became remains is sound shape =
    let many = as-many sent old.net net sends in
    subst IsShaped (sym became) (record {
      fit = shape.fit;
      blades = shape.blades;
      each = shape.each;
      switch = remains.plan ∙ shape.switch;
      memories = shape.memories;
      links = (many.0 ∙ shape.links.0, many.1 ∙ shape.links.1);
      net = sound shape.net;
      core = is;
      slots = remains.slots ∙ shape.slots;
    })

-- ---- a memory blade

-- memory blade number, as it was read at its place
pages-there : (inside now : RackView) (i number : ℕ) (pages : List PageImageView) → inside ≡ now → i ≡ number → pages ≡ get_or inside.memories i pages
    → number < length now.memories → slice_get now.memories number ≡ Some pages
pages-there inside now i number pages view index value lt =
    slice_get-get_or now.memories number pages lt
    ∙ ap Some (sym (value ∙ ap (λ k. get_or inside.memories k pages) index ∙ ap (λ (rack : RackView). get_or rack.memories number pages) view))

memory-within : (number : ℕ) (rack : RackView) → IsShaped rack → number < length rack.plan.memories → number < length rack.memories
memory-within number rack shape lt = subst (λ n. number < n) (sym shape.memories) lt

pub memory-there : (inside now : RackView) (i number : ℕ) (pages : List PageImageView) → inside ≡ now → i ≡ number → pages ≡ get_or inside.memories i pages → IsShaped now
    → number < length now.plan.memories → slice_get now.memories number ≡ Some pages
memory-there inside now i number pages view index value shape lt = pages-there inside now i number pages view index value (memory-within number now shape lt)

-- the rack after it changed
pub memory-at : (inside now : RackView) (i number : ℕ) (later : List PageImageView) (net : NetView) → inside ≡ now → i ≡ number
    → with_net net (record inside { memories = slice_set inside.memories i later }) ≡ with_net net (with_memory number later now)
memory-at inside now i number later net view index =
    ap (λ k. with_net net (record inside { memories = slice_set inside.memories k later })) index ∙ ap (λ (rack : RackView). with_net net (with_memory number later rack)) view

-- and where its links are as they were
pub memory-same : (inside now : RackView) (i number : ℕ) (later : List PageImageView) → inside ≡ now → i ≡ number
    → with_net inside.net (record inside { memories = slice_set inside.memories i later }) ≡ with_net now.net (with_memory number later now)
memory-same inside now i number later view index =
    memory-at inside now i number later inside.net view index ∙ ap (λ (rack : RackView). with_net rack.net (with_memory number later now)) view

-- its answer is sent
pub answer-sent : (inside now : RackView) (number : ℕ) (answer : Msg) (net : NetView) → inside ≡ now → SendsOn (record { kind = From; number = number }) answer inside.net net
    → SendsAll (answer_to_switch number (Some answer)) now.net net
answer-sent inside now number answer net view sends = subst (λ (rack : RackView). SendsAll (answer_to_switch number (Some answer)) rack.net net) view (net, sends, refl)

-- memory blade number did what the message asks, and its answer went onto its link
pub memory-heard : (number : ℕ) (message : Msg) (images : List PageImageView) (answer : Option Msg) (later : List PageImageView) (old new : RackView) (net : NetView)
    → slice_get old.memories number ≡ Some images → answer ≡ memory.answer_to images message → later ≡ memory.images_after images message
    → SendsAll (answer_to_switch number answer) old.net net → new ≡ with_net net (with_memory number later old) → MemoryHears number message old new []
memory-heard number message images answer later old new net there is after sends became = record {
  images = images;
  before = there;
  net = net;
  sent = subst (λ a. SendsAll (answer_to_switch number a) old.net net) is sends;
  after = became ∙ ap (λ l. with_net net (with_memory number l old)) after;
  notes = refl;
}

pub memory-shape : (number : ℕ) (answer : Option Msg) (later : List PageImageView) (old new : RackView) (net : NetView) → SendsAll (answer_to_switch number answer) old.net net
    → new ≡ with_net net (with_memory number later old) → IsNet net → IsShaped old → IsShaped new
memory-shape number answer later old new net sends became sound shape =
    let many = as-many (answer_to_switch number answer) old.net net sends in
    subst IsShaped (sym became) (record {
      fit = shape.fit;
      blades = shape.blades;
      each = shape.each;
      switch = shape.switch;
      memories = length-set old.memories number later ∙ shape.memories;
      links = (many.0 ∙ shape.links.0, many.1 ∙ shape.links.1);
      net = sound;
      core = shape.core;
      slots = shape.slots;
    })
