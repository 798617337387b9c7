-- What waits needs what it asked for, in every rack that is reached.
use Rattle.std.proofs.Common.{◌≡◌, ℕ, zero, suc, ◌==◌, Bool, true, false, ap, sym, refl, subst, List, [], ◌∷◌, length, map, slice_get, slice_set, Option, Some, None, ◌∙◌, arith}
use Rattle.std.specs.Prelude.{if◌then◌else◌}
use Rattle.std.specs.List.{range_with_len}
use Rattle.std.proofs.lemmas.Bool.{eqb-true}
use Rattle.std.proofs.lemmas.Option.{same_Some}
use Rattle.mind_base.specs.Fit.{IsFit}
use Rattle.mind_base.specs.Page.{PageView}
use Rattle.mind_base.specs.declared.events.Event.{Event}
use Rattle.mind_base.specs.declared.events.Event.TheVariants.{Step, Drain, Evict, Deliver, Lose, Repeat, Resend, Epoch, Ask, Settle}
use Rattle.mind_base.specs.declared.images.Image.{Image}
use Rattle.mind_base.specs.declared.links.LinkKind.{LinkKind}
use Rattle.mind_base.specs.declared.links.LinkKind.TheVariants.{Up, Down, To, From}
use Rattle.mind_base.specs.declared.notes.Note.{Note}
use Rattle.mind_base.specs.declared.plans.RackPlan.{RackPlan}
use Rattle.mind_base.specs.declared.plans.ThreadPlan.{ThreadPlan}
use Rattle.mind_base.specs.Plan.{image_place}
use Rattle.page_image.specs.PageImage.{PageImageView}
use Rattle.protect_table.specs.Protect.{permission_at}
use Rattle.wire_msg.specs.declared.msgs.Msg.{Msg}
use Rattle.compute_blade.specs.Blade.{HartView, BladeView, BladeEffect}
use Rattle.compute_blade.specs.Harts.{first_hart}
use Rattle.compute_blade.specs.Messages.{after_message}
use Rattle.compute_blade.specs.Pages.{given_up}
use Rattle.compute_blade.specs.Start.{first_blade, hart_for}
use Rattle.compute_blade.specs.Steps.{after_step, blade_after_drain}
use Rattle.coherence.specs.Facts.{IsCoherent}
use Rattle.coherence.proofs.Callers.{run_keeps}
use Rattle.rack_core.specs.BladeMoves.{AreBladesSound, handing, hart_in}
use Rattle.rack_core.specs.Events.{BladeActs, BladeDoes, Delivers, HandsAll, HandsTo, HartDoes, Leads}
use Rattle.rack_core.specs.Rack.{RackView, with_net}
use Rattle.rack_core.specs.Safe.{IsSafe, AreOfRack, Reaches}
use Rattle.rack_core.specs.Seen.{seen}
use Rattle.rack_core.specs.Start.{IsStart}
use Rattle.rack_core.specs.Waits.{IsNeeded, AreNeeded, IsQueueOf}
use Rattle.rack_core.proofs.Moves.Blade.Handed.{did, blade_handed, handed_may_come}
use Rattle.rack_core.proofs.Events.Delivering.{gave_on}
use Rattle.rack_core.proofs.Lists.Lookups.{slice_get-set, slice_get-set_other}
use Rattle.rack_core.proofs.Events.Starting.{starts}
use Rattle.rack_core.proofs.Waits.Messages.{firm, evict_keeps, message_keeps}
use Rattle.rack_core.proofs.Waits.Steps.{step_keeps, drain_keeps}
use Rattle.rack_core.proofs.Events.Whole.{event_keeps}

-- ---- one blade did something

-- the blades are those that there were
blades_same : (images : List Image) (old new : RackView) → new.blades ≡ old.blades → AreNeeded images old → AreNeeded images new
blades_same images old new same all c blade e = all c blade (ap (λ blades. slice_get blades c) (sym same) ∙ e)

-- one of them became this one
blade_set : (images : List Image) (c : ℕ) (blade : BladeView) (e : BladeEffect) (old new : RackView) (noted : List Note) → slice_get old.blades c ≡ Some blade → BladeActs c e old new noted
    → IsNeeded images e.blade → AreNeeded images old → AreNeeded images new
blade_set images c blade e old new noted there acts its all n other is = by (n == c) refl where
  now : slice_get (slice_set old.blades c e.blade) n ≡ Some other
  now = ap (λ (rack : RackView). slice_get rack.blades n) (sym acts.after) ∙ is

  by : (b : Bool) → (n == c) ≡ b → IsNeeded images other
  by true s = subst (IsNeeded images) (same_Some _ _ (sym (slice_get-set old.blades c blade e.blade there) ∙ ap (slice_get (slice_set old.blades c e.blade)) (sym (eqb-true n c s)) ∙ now)) its
  by false s = all n other (sym (slice_get-set_other old.blades c e.blade n s) ∙ now)

-- what a blade does keeps what each blade needs, where it does so at the blade
pub blade_keeps : (images : List Image) (c : ℕ) (act : BladeView → Option BladeEffect) (old new : RackView) (noted : List Note)
    → ((blade : BladeView) (e : BladeEffect) → slice_get old.blades c ≡ Some blade → IsNeeded images blade → act blade ≡ Some e → IsNeeded images e.blade)
    → AreNeeded images old → BladeDoes c act old new noted → AreNeeded images new
blade_keeps images c act old new noted keeps all does =
    let d = did c act old new noted does in
    blade_set images c d.blade d.effect old new noted d.there d.acts (keeps d.blade d.effect d.there (all c d.blade d.there) d.does) all

hart_keeps : (images : List Image) (thread : Option ThreadPlan) (act : BladeView → Option BladeEffect) (old new : RackView) (noted : List Note)
    → ((c : ℕ) (blade : BladeView) (e : BladeEffect) → slice_get old.blades c ≡ Some blade → IsNeeded images blade → act blade ≡ Some e → IsNeeded images e.blade)
    → AreNeeded images old → HartDoes thread act old new noted → AreNeeded images new
hart_keeps images None act old new noted keeps all does = absurd does
hart_keeps images (Some thread) act old new noted keeps all does = blade_keeps images thread.blade act old new noted (keeps thread.blade) all does

-- ---- messages

blade_hears_all : (images : List Image) (c : ℕ) (taken : List Msg) (old new : RackView) (flat : PageView → PageImageView) (noted : List Note)
    → IsCoherent (handing c taken (seen old flat)) → AreBladesSound old → AreNeeded images old
    → HandsAll images (record { kind = Down; number = c }) taken old new noted → AreNeeded images new
blade_hears_all images c [] old new flat noted safe sound all hands = subst (AreNeeded images) (sym hands.0) all
blade_hears_all images c (message ∷ rest) old new flat noted safe sound all hands =
    let led = blade_handed images old hands.0 flat c message rest hands.1 safe sound hands.3 in
    let first = blade_keeps images c (λ blade. Some (after_message images message blade)) old hands.0 hands.1
    (λ blade e there is does. subst (λ (x : BladeEffect). IsNeeded images x.blade) (same_Some _ _ does)
    (message_keeps images (permission_at old.switch.protect) blade message (sound c blade there) (handed_may_come images old flat c blade message rest safe sound there) is)) all hands.3 in
    blade_hears_all images c rest hands.0 new led.leads.flat hands.2
    (run_keeps (handing c (message ∷ rest) (seen old flat)) (handing c rest (seen hands.0 led.leads.flat)) led.leads.moves safe led.leads.run) led.leads.sound first hands.4

-- the switch and the memory blades leave the blades
others_hear : (images : List Image) (kind : LinkKind) (number : ℕ) → (kind ≡ Down → ⊥) → (taken : List Msg) (old new : RackView) (noted : List Note)
    → HandsAll images (record { kind = kind; number = number }) taken old new noted → new.blades ≡ old.blades
others_hear images kind number away [] old new noted hands = ap (λ (r : RackView). r.blades) hands.0
others_hear images kind number away (message ∷ rest) old new noted hands = others_hear images kind number away rest hands.0 new hands.2 hands.4 ∙ by kind away hands.3 where
  by : (k : LinkKind) → (k ≡ Down → ⊥) → HandsTo k images number message old hands.0 hands.1 → hands.0.blades ≡ old.blades
  by Up away h = ap (λ (r : RackView). r.blades) h.after
  by Down away h = absurd (away refl)
  by To away h = ap (λ (r : RackView). r.blades) h.after
  by From away h = ap (λ (r : RackView). r.blades) h.after

-- ---- events

pub event_needs : (images : List Image) (event : Event) (old new : RackView) (noted : List Note) → IsSafe old → Leads images event old new noted → AreNeeded images old → AreNeeded images new
event_needs images (Step hart) old new noted safe given all = hart_keeps images (slice_get old.plan.threads hart) (after_step images hart) old new noted
    (λ c blade e there is does. step_keeps images hart blade e (firm (permission_at old.switch.protect) blade (safe.sound.blades c blade there)) is does) all given
event_needs images (Drain hart) old new noted safe given all = hart_keeps images (slice_get old.plan.threads hart) (blade_after_drain hart) old new noted
    (λ c blade e there is does. drain_keeps images hart blade e (firm (permission_at old.switch.protect) blade (safe.sound.blades c blade there)) is does) all given
event_needs images (Evict number page) old new noted safe given all = blade_keeps images number (λ b. Some (given_up page b)) old new noted
    (λ blade e there is does. subst (λ (x : BladeEffect). IsNeeded images x.blade) (same_Some _ _ does)
    (evict_keeps images page blade (firm (permission_at old.switch.protect) blade (safe.sound.blades number blade there)) is)) all given
event_needs images (Deliver link side k) old new noted safe given all = by link.kind refl where
  by : (kind : LinkKind) → link.kind ≡ kind → AreNeeded images new
  by Down e =
      let P : LinkKind → Type 0 = λ kind. Delivers images (record { kind = kind; number = link.number }) side k old new noted in
      let d = subst P e given in
      blade_hears_all images link.number d.taken (with_net d.net old) new safe.flat noted
      (subst IsCoherent (gave_on Down link.number d.taken old d.net safe.flat d.gives.fifo d.only) safe.coherent) safe.sound.blades all d.handed
  by Up e = let never : Up ≡ Down → ⊥ = λ (s : Up ≡ Down). cc in blades_same images old new (others_hear images link.kind link.number (λ s. never (sym e ∙ s)) given.taken (with_net given.net old) new noted given.handed) all
  by To e = let never : To ≡ Down → ⊥ = λ (s : To ≡ Down). cc in blades_same images old new (others_hear images link.kind link.number (λ s. never (sym e ∙ s)) given.taken (with_net given.net old) new noted given.handed) all
  by From e = let never : From ≡ Down → ⊥ = λ (s : From ≡ Down). cc in blades_same images old new (others_hear images link.kind link.number (λ s. never (sym e ∙ s)) given.taken (with_net given.net old) new noted given.handed) all
event_needs images (Lose link side k) old new noted safe given all = blades_same images old new (ap (λ (r : RackView). r.blades) given.after) all
event_needs images (Repeat link side k) old new noted safe given all = blades_same images old new (ap (λ (r : RackView). r.blades) given.after) all
event_needs images (Resend link) old new noted safe given all = blades_same images old new (ap (λ (r : RackView). r.blades) given.after) all
event_needs images Epoch old new noted safe given all = subst (AreNeeded images) (sym given.0) all
event_needs images (Ask command) old new noted safe given all = absurd given
event_needs images Settle old new noted safe given all = absurd given

pub run_needs : (images : List Image) (events : List Event) (old new : RackView) (noted : List Note) → AreOfRack events → IsSafe old → Reaches images events old new noted
    → AreNeeded images old → AreNeeded images new
run_needs images [] old new noted fits safe given all = subst (AreNeeded images) (sym given.0) all
run_needs images (event ∷ events) old new noted fits safe given all =
    run_needs images events given.0 new given.2 fits.1 (event_keeps images event old given.0 given.1 fits.0 safe given.3) given.4
    (event_needs images event old given.0 given.1 safe given.3 all)

-- ---- the start

-- the queue of a hart that starts is empty, and has the thread's places
first_queue : (plan : RackPlan) (number : ℕ) (thread : ThreadPlan) (hart : HartView) → hart_for plan number thread ≡ Some hart → IsQueueOf thread hart.queue
first_queue plan number thread hart e = by (thread.blade == number) e where
  by : (b : Bool) → (if b then Some (first_hart (image_place plan.images thread.image) thread.queue) else None) ≡ Some hart → IsQueueOf thread hart.queue
  by true e = subst (λ (x : HartView). IsQueueOf thread x.queue) (same_Some _ _ e) (record { places = refl; room = omega arith })
  by false e = let never : ⊥ = cc in absurd never

first_queues : (plan : RackPlan) (number : ℕ) (threads : List ThreadPlan) (h : ℕ) (thread : ThreadPlan) (hart : HartView) → slice_get threads h ≡ Some thread
    → hart_in (map (hart_for plan number) threads) h ≡ Some hart → IsQueueOf thread hart.queue
first_queues plan number [] h thread hart planned own = let never : ⊥ = cc in absurd never
first_queues plan number (first ∷ threads) zero thread hart planned own =
    first_queue plan number thread hart (ap (hart_for plan number) (sym (same_Some _ _ planned)) ∙ own)
first_queues plan number (first ∷ threads) (suc h) thread hart planned own = first_queues plan number threads h thread hart planned own

-- a blade that starts has no request
first_needed : (images : List Image) (plan : RackPlan) (number : ℕ) → IsNeeded images (first_blade plan number)
first_needed images plan number = record { requests = tt; queues = λ h thread hart planned own. first_queues plan number plan.threads h thread hart planned own }

first_needs : (images : List Image) (plan : RackPlan) (numbers : List ℕ) (c : ℕ) (blade : BladeView) → slice_get (map (first_blade plan) numbers) c ≡ Some blade → IsNeeded images blade
first_needs images plan [] c blade e = let never : ⊥ = cc in absurd never
first_needs images plan (number ∷ numbers) zero blade e = subst (IsNeeded images) (same_Some _ _ e) (first_needed images plan number)
first_needs images plan (number ∷ numbers) (suc c) blade e = first_needs images plan numbers c blade e

pub start_needs : (images : List Image) (plan : RackPlan) (rack : RackView) → IsStart plan rack → AreNeeded images rack
start_needs images plan rack start c blade e =
    first_needs images plan (range_with_len 0 (length plan.frames)) c blade (ap (λ (blades : List BladeView). slice_get blades c) (sym start.blades) ∙ e)

-- along every run from it
pub reached_needs : (images : List Image) (plan : RackPlan) (first last : RackView) (events : List Event) (noted : List Note) → IsFit plan → IsStart plan first → AreOfRack events
    → Reaches images events first last noted → AreNeeded images last
reached_needs images plan first last events noted fit start of reaches =
    run_needs images events first last noted of (starts plan first fit start) reaches (start_needs images plan first start)
