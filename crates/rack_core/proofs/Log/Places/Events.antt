-- The notes that an event adds stand in their places.
use Rattle.std.proofs.Common.{arith, ◌≡◌, refl, sym, ◌∙◌, ap, subst, ◌⊎◌, inl, inr, ℕ, ◌<◌, true, List, [], ◌∷◌, length, Option, Some, None, slice_get}
use Rattle.std.specs.Prelude.{◌≤◌, is_some, map, get_or, option_and_then, IsSomeAnd}
use Rattle.std.proofs.lemmas.Bool.{eqb-true}
use Rattle.std.proofs.lemmas.Option.{same_Some, slice_get_within, slice_get_cases}
use Rattle.mind_base.specs.Page.{PageView}
use Rattle.mind_base.specs.declared.events.Event.{Event}
use Rattle.mind_base.specs.declared.events.Event.TheVariants.{Step, Drain, Evict, Deliver, Lose, Repeat, Resend, Epoch, Ask, Settle}
use Rattle.mind_base.specs.declared.images.Image.{Image}
use Rattle.mind_base.specs.declared.links.LinkKind.{LinkKind}
use Rattle.mind_base.specs.declared.links.LinkKind.TheVariants.{Up, Down, To, From}
use Rattle.mind_base.specs.declared.links.LinkName.{LinkName}
use Rattle.mind_base.specs.declared.links.Side.TheVariants.{Messages, Acks}
use Rattle.mind_base.specs.declared.notes.Note.{Note}
use Rattle.mind_base.specs.declared.notes.Note.TheVariants as note
use Rattle.mind_base.specs.declared.plans.RackPlan.{RackPlan}
use Rattle.mind_base.specs.declared.plans.ThreadPlan.{ThreadPlan}
use Rattle.link_retry.specs.Link.{LinkView, DeliversAck}
use Rattle.link_retry.specs.Wire.{frame_at}
use Rattle.page_cache.specs.PageCache.{frame_of}
use Rattle.page_cache.specs.declared.frames.Frame.{Frame}
use Rattle.page_image.specs.PageImage.{PageImageView}
use Rattle.rack_net.specs.Net.{links_of, spelled}
use Rattle.switch_core.specs.Switch.{place_in}
use Rattle.switch_core.proofs.Callers.{all-append}
use Rattle.wire_msg.specs.Spelling.{spelling}
use Rattle.wire_msg.specs.declared.msgs.Msg.{Msg}
use Rattle.compute_blade.specs.Blade.{HartView, BladeView, BladeEffect, hart_of}
use Rattle.compute_blade.specs.Messages.{after_message}
use Rattle.compute_blade.specs.Pages.{giving_up, given_up}
use Rattle.compute_blade.specs.Steps.{after_step, blade_after_drain}
use Rattle.compute_blade.proofs.Callers.{message_acts}
use Rattle.coherence.specs.Facts.{IsCoherent}
use Rattle.rack_core.specs.Events.{HartDoes, HandsTo, HandsAll, Leads}
use Rattle.rack_core.specs.Handing.{AskOn}
use Rattle.rack_core.specs.Noted.{IsThreadOf, StandsIn, AreInPlace, IsOfBlade, IsOfSwitch}
use Rattle.rack_core.specs.Rack.{RackView, with_net}
use Rattle.rack_core.specs.Safe.{IsOfRack, IsSound, IsSafe}
use Rattle.rack_core.specs.Seen.{seen}
use Rattle.rack_core.specs.Shape.{IsShaped}
use Rattle.rack_core.specs.SwitchMoves.{with_front}
use Rattle.rack_core.proofs.Log.AtOnce.Events.{step-one, drain-one}
use Rattle.rack_core.proofs.Log.AtOnce.Steps.{NotesOne, NotesDrain}
use Rattle.rack_core.proofs.Events.Delivering.{gave_on, with_net-sound, asks_taken}
use Rattle.rack_core.proofs.Events.Handing.{each-handed}
use Rattle.rack_core.proofs.Log.Places.Blades.{HasHart, AreOfBlade, acts-note}
use Rattle.rack_core.proofs.Log.Places.Switch.{AreOfSwitch, receives-done}
use Rattle.rack_core.proofs.Machine.Counts.{BladesStay}
use Rattle.rack_core.proofs.Moves.Blade.Handed.{did, handed_may_come}
use Rattle.rack_core.proofs.Machine.Handed.{one-stays}

-- ---- whose harts and pages are a blade's

-- each blade has its place as its number, and its harts are those of the plan's threads there
pub record AreOwn (rack : RackView) : Type 0 where
  pub numbers : (c : ℕ) (blade : BladeView) → slice_get rack.blades c ≡ Some blade → blade.number ≡ c
  pub harts : (c : ℕ) (blade : BladeView) (h : ℕ) → slice_get rack.blades c ≡ Some blade → HasHart blade h → IsThreadOf rack.plan c h

pub own-after : (old new : RackView) → BladesStay old new → AreOwn old → AreOwn new
own-after old new stay own = record {
  numbers = λ c blade there. let was = stay.back c blade there in was.2.number ∙ own.numbers c was.0 was.1;
  harts = harts;
} where
  found : (h : ℕ) (o : Option HartView) → is_some o ≡ true → (x : HartView) × (o ≡ Some x)
  found h None is = let never : ⊥ = cc in absurd never
  found h (Some x) is = (x, refl)

  harts : (c : ℕ) (blade : BladeView) (h : ℕ) → slice_get new.blades c ≡ Some blade → HasHart blade h → IsThreadOf new.plan c h
  harts c blade h there has =
      let was = stay.back c blade there in
      let now = found h (hart_of blade h) has in
      subst (λ p. IsThreadOf p c h) (sym stay.plan) (own.harts c was.0 h was.1 (ap is_some (was.2.back h now.0 now.1).1))

-- something stands at each place of a list
some-within : {X : Type 0} (xs : List X) (i : ℕ) → i < length xs → is_some (slice_get xs i) ≡ true
some-within {X = X} xs i lt = by (slice_get_cases xs i).1 where
  by : ((x : X) × (i < length xs) × (slice_get xs i ≡ Some x) × (get_or xs i x ≡ x)) ⊎ ((length xs ≤ i) × (slice_get xs i ≡ None)) → is_some (slice_get xs i) ≡ true
  by (inl found) = ap is_some found.2
  by (inr past) = let never : ⊥ = omega (arith, lt, past.0) in absurd never

-- so it is in a rack of its plan's shape
pub shaped-own : (rack : RackView) → IsShaped rack → AreOwn rack
shaped-own rack shaped = record { numbers = λ c blade there. (shaped.each c blade there).number; harts = harts } where
  threads : (blade : BladeView) (h : ℕ) → length blade.harts ≡ length blade.plan.threads → HasHart blade h → is_some (slice_get blade.plan.threads h) ≡ true
  threads blade h same has = by (slice_get blade.harts h) refl has where
    by : (o : Option (Option HartView)) → slice_get blade.harts h ≡ o → is_some (option_and_then (λ hart. hart) o) ≡ true → is_some (slice_get blade.plan.threads h) ≡ true
    by None e is = let never : ⊥ = cc in absurd never
    by (Some hart) e is = some-within blade.plan.threads h (subst (λ n. h < n) same (slice_get_within blade.harts h hart e))

  harts : (c : ℕ) (blade : BladeView) (h : ℕ) → slice_get rack.blades c ≡ Some blade → HasHart blade h → IsThreadOf rack.plan c h
  harts c blade h there has =
      let its = shaped.each c blade there in
      by (slice_get rack.plan.threads h) refl (subst (λ p. is_some (slice_get p.threads h) ≡ true) its.plan (threads blade h its.shape.places has))
    where
      by : (o : Option ThreadPlan) → slice_get rack.plan.threads h ≡ o → is_some o ≡ true → IsSomeAnd o (λ thread. thread.blade ≡ c)
      by None e is = let never : ⊥ = cc in absurd never
      by (Some thread) e is =
          let its = shaped.each c blade there in
          eqb-true thread.blade blade.number (sym (its.shape.own h thread (ap (λ p. slice_get p.threads h) its.plan ∙ e)) ∙ has) ∙ its.number

-- ---- in their places

none-placed : (plan : RackPlan) (event : Event) (noted : List Note) → noted ≡ [] → AreInPlace plan event noted
none-placed plan event noted none = subst (AreInPlace plan event) (sym none) tt

switch-places : (plan : RackPlan) (event : Event) (notes : List Note) → AreOfSwitch notes → AreInPlace plan event notes
switch-places plan event [] all = tt
switch-places plan event (n ∷ notes) all = (one n all.0, switch-places plan event notes all.1) where
  one : (n : Note) → IsOfSwitch n → StandsIn plan event n
  one (note.Region range state) is = tt
  one (note.Gone range) is = tt
  one (note.Exec h) is = absurd is
  one (note.Drain h) is = absurd is
  one (note.Take c page writable) is = absurd is
  one (note.Give c page) is = absurd is
  one (note.Down c page) is = absurd is
  one (note.Event index) is = absurd is
  one (note.Command index) is = absurd is
  one (note.Moved index outcome) is = absurd is
  one (note.Split range) is = absurd is
  one (note.Merge range) is = absurd is

-- what a blade notes of a message that comes to it
blade-places : (plan : RackPlan) (c k : ℕ) (blade : BladeView) → blade.number ≡ c → ((h : ℕ) → HasHart blade h → IsThreadOf plan c h) → (notes : List Note) → AreOfBlade blade notes
    → AreInPlace plan (Deliver (record { kind = Down; number = c }) Messages k) notes
blade-places plan c k blade number harts [] all = tt
blade-places plan c k blade number harts (n ∷ notes) all = (one n all.0, blade-places plan c k blade number harts notes all.1) where
  one : (n : Note) → IsOfBlade blade.number (HasHart blade) n → StandsIn plan (Deliver (record { kind = Down; number = c }) Messages k) n
  one (note.Exec h) is = inr (c, harts h is, (refl, refl))
  one (note.Drain h) is = inr (inr (c, harts h is, (refl, refl)))
  one (note.Take b page writable) is = (refl, sym (is ∙ number))
  one (note.Give b page) is = inl (refl, sym (is ∙ number))
  one (note.Down b page) is = (refl, sym (is ∙ number))
  one (note.Event index) is = absurd is
  one (note.Command index) is = absurd is
  one (note.Moved index outcome) is = absurd is
  one (note.Region range state) is = absurd is
  one (note.Gone range) is = absurd is
  one (note.Split range) is = absurd is
  one (note.Merge range) is = absurd is

-- ---- messages are handed over

hands-place : (images : List Image) (kind : LinkKind) (number k : ℕ) (message : Msg) (rest : List Msg) (old new : RackView) (flat : PageView → PageImageView) (noted : List Note)
    → IsCoherent (with_front kind number (message ∷ rest) (seen old flat)) → IsSound old → AreOwn old → HandsTo kind images number message old new noted
    → AreInPlace old.plan (Deliver (record { kind = kind; number = number }) Messages k) noted
hands-place images Up number k message rest old new flat noted coherent sound own hands =
    subst (AreInPlace old.plan (Deliver (record { kind = Up; number = number }) Messages k)) (sym hands.notes)
    (switch-places old.plan (Deliver (record { kind = Up; number = number }) Messages k) hands.effect.noted (receives-done (record { kind = Up; number = number }) message old.switch hands.effect hands.heard))
hands-place images From number k message rest old new flat noted coherent sound own hands =
    subst (AreInPlace old.plan (Deliver (record { kind = From; number = number }) Messages k)) (sym hands.notes)
    (switch-places old.plan (Deliver (record { kind = From; number = number }) Messages k) hands.effect.noted (receives-done (record { kind = From; number = number }) message old.switch hands.effect hands.heard))
hands-place images To number k message rest old new flat noted coherent sound own hands = none-placed old.plan (Deliver (record { kind = To; number = number }) Messages k) noted hands.notes
hands-place images Down number k message rest old new flat noted coherent sound own hands =
    let d = did number (λ blade. Some (after_message images message blade)) old new noted hands in
    let acts = message_acts images message d.blade (sound.blades number d.blade d.there).cache (handed_may_come images old flat number d.blade message rest coherent sound.blades d.there) in
    subst (AreInPlace old.plan (Deliver (record { kind = Down; number = number }) Messages k)) (sym d.acts.notes)
    (blade-places old.plan number k d.blade (own.numbers number d.blade d.there) (λ h has. own.harts number d.blade h d.there has) d.effect.noted
    (subst (λ (e : BladeEffect). AreOfBlade d.blade e.noted) (same_Some (after_message images message d.blade) d.effect d.does) (acts-note d.blade (after_message images message d.blade) acts)))

all-place : (images : List Image) (kind : LinkKind) (number k : ℕ) (messages : List Msg) (old new : RackView) (flat : PageView → PageImageView) (noted : List Note)
    → IsCoherent (with_front kind number messages (seen old flat)) → IsSound old → number < 8 → AskOn kind (place_in old.switch) number messages → AreOwn old
    → HandsAll images (record { kind = kind; number = number }) messages old new noted
    → AreInPlace old.plan (Deliver (record { kind = kind; number = number }) Messages k) noted
all-place images kind number k messages old new flat noted coherent sound lt asks own hands =
    let event = Deliver (record { kind = kind; number = number }) Messages k in
    each-handed images kind number (λ messages old new noted. AreOwn old → AreInPlace old.plan event noted)
    (λ old new noted same none own. none-placed old.plan event noted none)
    (λ message rest old mid new flat first later coherent sound hands rest_placed own.
    let stay = one-stays images kind number message rest old mid flat first coherent sound hands in
    all-append (StandsIn old.plan event) first later (hands-place images kind number k message rest old mid flat first coherent sound own hands)
    (subst (λ p. AreInPlace p event later) stay.plan (rest_placed (own-after old mid stay own))))
    messages old new flat noted coherent sound lt asks hands own

-- a delivered acknowledgement hands nothing over
none-taken : (old new : LinkView) (k : ℕ) (frame : Option ℕ) (taken : List (List ℕ)) → DeliversAck old k frame taken new → taken ≡ []
none-taken old new k None taken given = given.0
none-taken old new k (Some number) taken given = given.none

none-spelled : (messages : List Msg) → map spelling messages ≡ [] → messages ≡ []
none-spelled [] e = refl
none-spelled (message ∷ messages) e = let never : ⊥ = cc in absurd never

none-handed : (images : List Image) (name : LinkName) (messages : List Msg) (old new : RackView) (noted : List Note) → messages ≡ [] → HandsAll images name messages old new noted → noted ≡ []
none-handed images name [] old new noted none hands = hands.1
none-handed images name (message ∷ messages) old new noted none hands = let never : ⊥ = cc in absurd never

-- ---- a hart's event

pub step-places : (plan : RackPlan) (h : ℕ) (noted : List Note) → NotesOne h noted → AreInPlace plan (Step h) noted
step-places plan h noted (inl e) = none-placed plan (Step h) noted e
step-places plan h noted (inr (inl e)) = subst (AreInPlace plan (Step h)) (sym e) (inl refl, tt)
step-places plan h noted (inr (inr e)) = subst (AreInPlace plan (Step h)) (sym e) (inl refl, tt)

pub drain-places : (plan : RackPlan) (h : ℕ) (noted : List Note) → NotesDrain h noted → AreInPlace plan (Drain h) noted
drain-places plan h noted (inl e) = none-placed plan (Drain h) noted e
drain-places plan h noted (inr e) = subst (AreInPlace plan (Drain h)) (sym e) (inr (inl refl), tt)

-- what the hart's blade notes is what it does there
hart-notes : (P : List Note → Type 0) (act : BladeView → Option BladeEffect) (thread : Option ThreadPlan) (old new : RackView) (noted : List Note)
    → ((blade : BladeView) (e : BladeEffect) → act blade ≡ Some e → P e.noted) → HartDoes thread act old new noted → P noted
hart-notes P act None old new noted each does = absurd does
hart-notes P act (Some thread) old new noted each does =
    let d = did thread.blade act old new noted does in
    subst P (sym d.acts.notes) (each d.blade d.effect d.does)

-- ---- an eviction

give-places : (plan : RackPlan) (c : ℕ) (page : PageView) (blade : BladeView) → blade.number ≡ c → AreInPlace plan (Evict c page) (given_up page blade).noted
give-places plan c page blade number = by (frame_of page blade.cache.entries) where
  by : (o : Option Frame) → AreInPlace plan (Evict c page) (giving_up page o blade).noted
  by None = tt
  by (Some frame) = (inr (inl number), tt)

-- ---- every event

pub places_of : (images : List Image) (event : Event) (old new : RackView) (noted : List Note) → IsOfRack event → IsSafe old → AreOwn old → Leads images event old new noted
    → AreInPlace old.plan event noted
places_of images (Step h) old new noted fits safe own given =
    hart-notes (AreInPlace old.plan (Step h)) (after_step images h) (slice_get old.plan.threads h) old new noted (λ blade e does. step-places old.plan h e.noted (step-one images h blade e does)) given
places_of images (Drain h) old new noted fits safe own given =
    hart-notes (AreInPlace old.plan (Drain h)) (blade_after_drain h) (slice_get old.plan.threads h) old new noted (λ blade e does. drain-places old.plan h e.noted (drain-one h blade e does)) given
places_of images (Evict c page) old new noted fits safe own given =
    let d = did c (λ b. Some (given_up page b)) old new noted given in
    subst (AreInPlace old.plan (Evict c page)) (sym d.acts.notes)
    (subst (λ (e : BladeEffect). AreInPlace old.plan (Evict c page) e.noted) (same_Some _ _ d.does) (give-places old.plan c page d.blade (own.numbers c d.blade d.there)))
places_of images (Deliver link Messages k) old new noted fits safe own given =
    let fifo = given.gives.fifo in
    all-place images link.kind link.number k given.taken (with_net given.net old) new safe.flat noted (subst IsCoherent (gave_on link.kind link.number given.taken old given.net safe.flat fifo given.only) safe.coherent)
    (with_net-sound link.kind link.number given.taken old given.net fifo given.only safe.sound) fits (asks_taken link.kind link.number given.taken old given.net fifo safe.sound.asked)
    (record { numbers = own.numbers; harts = own.harts }) given.handed
places_of images (Deliver link Acks k) old new noted fits safe own given =
    none-placed old.plan (Deliver link Acks k) noted (none-handed images link given.taken (with_net given.net old) new noted
    (none-spelled given.taken (none-taken (spelled (links_of old.net link)) (spelled (links_of given.net link)) k (frame_at (links_of old.net link).acks k) (map spelling given.taken) given.gives.link)) given.handed)
places_of images (Lose link side k) old new noted fits safe own given = none-placed old.plan (Lose link side k) noted given.notes
places_of images (Repeat link side k) old new noted fits safe own given = none-placed old.plan (Repeat link side k) noted given.notes
places_of images (Resend link) old new noted fits safe own given = none-placed old.plan (Resend link) noted given.notes
places_of images Epoch old new noted fits safe own given = none-placed old.plan Epoch noted given.1
places_of images (Ask command) old new noted fits safe own given = absurd given
places_of images Settle old new noted fits safe own given = absurd given

-- ---- a settling

-- what may stand in any event may stand in a settling, but that a command was decided
pub in-settling : (plan : RackPlan) (event : Event) (n : Note) → StandsIn plan event n → StandsIn plan Settle n
in-settling plan event (note.Event index) is = absurd is
in-settling plan event (note.Command index) is = absurd is
in-settling plan event (note.Moved index outcome) is = absurd is
in-settling plan event n is = tt
