-- What events do to the labels that a rack owes.
use Rattle.std.proofs.Common.{◌≡◌, ℕ, ◌==◌, Bool, true, false, ap, sym, refl, subst, List, [], ◌∷◌, ◌++◌, length, map, slice_get, slice_set, Option, Some, None, option_map, append-nil, ◌∙◌}
use Rattle.std.specs.Prelude.{option_and_then, if◌then◌else◌}
use Rattle.std.specs.List.{flat_map}
use Rattle.std.specs.List.Sorted.{IsPermutation}
use Rattle.std.specs.Option.{option_to_list}
use Rattle.std.proofs.lemmas.Bool.{eqb-true}
use Rattle.std.proofs.lemmas.List.Elements.{filter_map-append}
use Rattle.std.proofs.lemmas.List.Sorted.{IsPermutation-refl}
use Rattle.std.proofs.lemmas.Option.{same_Some}
use Rattle.mind_base.specs.Fit.{IsFit, IsFitThread}
use Rattle.mind_base.specs.Page.{PageView}
use Rattle.mind_base.specs.declared.events.Event.{Event}
use Rattle.mind_base.specs.declared.events.Event.TheVariants.{Step, Drain, Evict, Deliver, Lose, Repeat, Resend, Epoch, Ask, Settle}
use Rattle.mind_base.specs.declared.images.Image.{Image}
use Rattle.mind_base.specs.declared.links.LinkKind.{LinkKind}
use Rattle.mind_base.specs.declared.links.LinkKind.TheVariants.{Up, Down, To, From}
use Rattle.mind_base.specs.declared.notes.Note.{Note}
use Rattle.mind_base.specs.declared.plans.ThreadPlan.{ThreadPlan}
use Rattle.hart_effect.specs.Deed.{holds_stores}
use Rattle.hart_effect.specs.Thread.{Thread}
use Rattle.page_image.specs.PageImage.{PageImageView}
use Rattle.protect_table.specs.Protect.{permission_at}
use Rattle.wire_msg.specs.declared.msgs.Msg.{Msg}
use Rattle.compute_blade.specs.Blade.{HartView, BladeView, BladeEffect, hart_of}
use Rattle.compute_blade.specs.Messages.{after_message}
use Rattle.compute_blade.specs.Pages.{given_up}
use Rattle.compute_blade.specs.Steps.{step_at, drain_of, after_step, blade_after_drain}
use Rattle.coherence.specs.Facts.{IsCoherent}
use Rattle.coherence.proofs.Callers.{run_keeps}
use Rattle.tso_machine.specs.Replay.{label_of, labels}
use Rattle.tso_machine.specs.Scheduled.{label_at, step_label, drain_label}
use Rattle.tso_machine.specs.State.{Setup}
use Rattle.tso_machine.specs.declared.labels.Label.{Label}
use Rattle.tso_machine.specs.declared.labels.Label.TheVariants as label
use Rattle.rack_core.specs.BladeMoves.{AreBladesSound, handing}
use Rattle.rack_core.specs.Events.{BladeActs, BladeDoes, Delivers, HandsAll, HandsTo, HartDoes, Leads}
use Rattle.rack_net.specs.Net.{NetView}
use Rattle.rack_core.specs.Rack.{RackView, with_net}
use Rattle.rack_core.specs.Safe.{IsSafe}
use Rattle.rack_core.specs.Seen.{seen}
use Rattle.rack_core.specs.Stands.{machine_thread}
use Rattle.rack_core.specs.Waits.{IsNeeded, AreNeeded}
use Rattle.rack_core.proofs.Callers.{looked-up, blade_keeps, did, blade_handed, handed_may_come, OfHart, for_hart-some, gave_on, slice_get-set, slice_get-set_other, receives-silent, message_keeps}
use Rattle.rack_settle.specs.Labels.{asked_blade, asked_labels, owed, owed_by, owed_for, AsksNothing}
use Rattle.rack_settle.proofs.LabelLists.{both-changed, one-changed}
use Rattle.rack_settle.proofs.LabelMessages.{IsLeft, Pays, gives-silent, message-pays, silent-pays}
use Rattle.rack_settle.proofs.LabelSteps.{comes_of, drain-comes, step-comes}
use Rattle.switch_core.proofs.Callers.{all-at}

-- ---- one thing after another

-- what is noted and what is owed then is what was asked for and what was owed; a blade of which nothing was asked, and
-- that owed nothing, stays as it was
pub record Does (asked : List Label) (Elsewhere : ℕ → Type 0) (old new : RackView) (noted : List Note) : Type 0 where
  pub same : IsPermutation (labels noted ++ owed new) (asked ++ owed old)
  pub plan : new.plan ≡ old.plan
  pub rests : (c : ℕ) (now : BladeView) → Elsewhere c → slice_get new.blades c ≡ Some now → (was : BladeView) × (slice_get old.blades c ≡ Some was) × (was.requests ≡ [] → IsLeft was now)

-- any blade
abbrev pub Any : ℕ → Type 0
Any c = Unit {0}

pub left-then : (a b c : BladeView) → IsLeft a b → IsLeft b c → IsLeft a c
left-then a b c one two = record { plan = two.plan ∙ one.plan; harts = two.harts ∙ one.harts; free = two.free }

pub does-nothing : (old new : RackView) (noted : List Note) → new.plan ≡ old.plan → new.blades ≡ old.blades → labels noted ≡ [] → Does [] Any old new noted
does-nothing old new noted plan blades silent = record {
  same = subst (λ l. IsPermutation l (owed old)) (λ i. sym silent i ++ flat_map owed_by (sym blades i)) (IsPermutation-refl (owed old));
  plan = plan;
  rests = λ c now apart there. (now, ap (λ all. slice_get all c) (sym blades) ∙ there, λ free. record { plan = refl; harts = refl; free = free });
}

pub does-then : (asked more : List Label) (One Two Both : ℕ → Type 0) (old mid new : RackView) (noted later : List Note) → ((c : ℕ) → Both c → One c × Two c)
    → Does asked One old mid noted → Does more Two mid new later → Does (asked ++ more) Both old new (noted ++ later)
does-then asked more One Two Both old mid new noted later each one two = record {
  same = subst (λ l. IsPermutation (l ++ owed new) ((asked ++ more) ++ owed old)) (sym (filter_map-append label_of noted later))
      (both-changed (labels noted) (labels later) asked more (owed old) (owed mid) (owed new) one.same two.same);
  plan = two.plan ∙ one.plan;
  rests = λ c now apart there.
      let last = two.rests c now (each c apart).1 there in
      let first = one.rests c last.0 (each c apart).0 last.1 in
      (first.0, first.1, λ free. let left = first.2 free in left-then first.0 last.0 now left (last.2 left.free));
}

-- the links are no matter
from-net : (net : NetView) (old new : RackView) (noted : List Note) → Does [] Any (with_net net old) new noted → Does [] Any old new noted
from-net net old new noted does = record { same = does.same; plan = does.plan; rests = does.rests }

-- ---- one blade does something

-- Elsewhere are other blades, or what was done left the blade alone where it owed nothing.
acts-does : (asked : List Label) (Elsewhere : ℕ → Type 0) (n : ℕ) (blade : BladeView) (e : BladeEffect) (old new : RackView) (noted : List Note) → slice_get old.blades n ≡ Some blade → BladeActs n e old new noted
    → IsPermutation (comes_of e) (asked ++ owed_by blade) → (Elsewhere n → blade.requests ≡ [] → IsLeft blade e.blade) → Does asked Elsewhere old new noted
acts-does asked Elsewhere n blade e old new noted there acts same left = record {
  same = subst (λ l. IsPermutation l (asked ++ owed old)) (λ i. labels (sym acts.notes i) ++ owed (sym acts.after i)) (one-changed owed_by (labels e.noted) asked old.blades n blade e.blade there same);
  plan = ap (λ (r : RackView). r.plan) acts.after;
  rests = λ c now apart is. by c now apart is (c == n) refl;
} where
  by : (c : ℕ) (now : BladeView) → Elsewhere c → slice_get new.blades c ≡ Some now → (b : Bool) → (c == n) ≡ b → (was : BladeView) × (slice_get old.blades c ≡ Some was) × (was.requests ≡ [] → IsLeft was now)
  by c now apart is true s =
      let at : c ≡ n = eqb-true c n s in
      let became : e.blade ≡ now = same_Some _ _ (sym (slice_get-set old.blades n blade e.blade there) ∙ ap (slice_get (slice_set old.blades n e.blade)) (sym at)
      ∙ ap (λ (r : RackView). slice_get r.blades c) (sym acts.after) ∙ is) in
      (blade, ap (slice_get old.blades) at ∙ there, λ free. subst (IsLeft blade) became (left (subst Elsewhere at apart) free))
  by c now apart is false s =
      (now, sym (slice_get-set_other old.blades n e.blade c s) ∙ ap (λ (r : RackView). slice_get r.blades c) (sym acts.after) ∙ is, λ free. record { plan = refl; harts = refl; free = free })

pays-does : (n : ℕ) (act : BladeView → Option BladeEffect) (old new : RackView) (noted : List Note)
    → ((blade : BladeView) (e : BladeEffect) → slice_get old.blades n ≡ Some blade → act blade ≡ Some e → Pays blade e) → BladeDoes n act old new noted → Does [] Any old new noted
pays-does n act old new noted each does =
    let d = did n act old new noted does in
    let pays = each d.blade d.effect d.there d.does in
    acts-does [] Any n d.blade d.effect old new noted d.there d.acts pays.same (λ apart. pays.rests)

-- ---- messages

blade-hears : (images : List Image) (n : ℕ) (taken : List Msg) (old new : RackView) (flat : PageView → PageImageView) (noted : List Note)
    → IsCoherent (handing n taken (seen old flat)) → AreBladesSound old → AreNeeded images old → HandsAll images (record { kind = Down; number = n }) taken old new noted → Does [] Any old new noted
blade-hears images n [] old new flat noted coherent sound all hands = does-nothing old new noted (ap (λ (r : RackView). r.plan) hands.0) (ap (λ (r : RackView). r.blades) hands.0) (ap labels hands.1)
blade-hears images n (message ∷ rest) old new flat noted coherent sound all hands =
    let mid = hands.0 in
    let act : BladeView → Option BladeEffect = λ blade. Some (after_message images message blade) in
    let led = blade_handed images old mid flat n message rest hands.1 coherent sound hands.3 in
    let first = pays-does n act old mid hands.1
    (λ blade e there does. subst (Pays blade) (same_Some _ _ does) (message-pays images (permission_at old.switch.protect) blade message (sound n blade there) (all n blade there)
    (handed_may_come images old flat n blade message rest coherent sound there))) hands.3 in
    let needed = blade_keeps images n act old mid hands.1
    (λ blade e there its does. subst (λ (x : BladeEffect). IsNeeded images x.blade) (same_Some _ _ does) (message_keeps images (permission_at old.switch.protect) blade message (sound n blade there)
    (handed_may_come images old flat n blade message rest coherent sound there) (all n blade there))) all hands.3 in
    let later = blade-hears images n rest mid new led.leads.flat hands.2
    (run_keeps (handing n (message ∷ rest) (seen old flat)) (handing n rest (seen mid led.leads.flat)) led.leads.moves coherent led.leads.run) led.leads.sound needed hands.4 in
    subst (Does [] Any old new) (sym hands.5) (does-then [] [] Any Any Any old mid new hands.1 hands.2 (λ c apart. (apart, apart)) first later)

-- the switch and the memory blades perform nothing
others-hear : (images : List Image) (kind : LinkKind) (number : ℕ) → (kind ≡ Down → ⊥) → (taken : List Msg) (old new : RackView) (noted : List Note)
    → HandsAll images (record { kind = kind; number = number }) taken old new noted → Does [] Any old new noted
others-hear images kind number away [] old new noted hands = does-nothing old new noted (ap (λ (r : RackView). r.plan) hands.0) (ap (λ (r : RackView). r.blades) hands.0) (ap labels hands.1)
others-hear images kind number away (message ∷ rest) old new noted hands =
    subst (Does [] Any old new) (sym hands.5) (does-then [] [] Any Any Any old hands.0 new hands.1 hands.2 (λ c apart. (apart, apart)) (by kind away hands.3)
    (others-hear images kind number away rest hands.0 new hands.2 hands.4))
  where
    by : (k : LinkKind) → (k ≡ Down → ⊥) → HandsTo k images number message old hands.0 hands.1 → Does [] Any old hands.0 hands.1
    by Up away h = does-nothing old hands.0 hands.1 (ap (λ (r : RackView). r.plan) h.after) (ap (λ (r : RackView). r.blades) h.after)
        (ap labels h.notes ∙ (receives-silent (record { kind = Up; number = number }) message old.switch h.effect h.heard).silent)
    by Down away h = absurd (away refl)
    by To away h = does-nothing old hands.0 hands.1 (ap (λ (r : RackView). r.plan) h.after) (ap (λ (r : RackView). r.blades) h.after) (ap labels h.notes)
    by From away h = does-nothing old hands.0 hands.1 (ap (λ (r : RackView). r.plan) h.after) (ap (λ (r : RackView). r.blades) h.after)
        (ap labels h.notes ∙ (receives-silent (record { kind = From; number = number }) message old.switch h.effect h.heard).silent)

-- ---- events in which no hart is to step or to drain

pub pays-owed : (images : List Image) (event : Event) (old new : RackView) (noted : List Note) → AsksNothing event → IsSafe old → AreNeeded images old → Leads images event old new noted → Does [] Any old new noted
pays-owed images (Step hart) old new noted none safe all given = absurd none
pays-owed images (Drain hart) old new noted none safe all given = absurd none
pays-owed images (Evict number page) old new noted none safe all given = pays-does number (λ b. Some (given_up page b)) old new noted
    (λ blade e there does. subst (Pays blade) (same_Some _ _ does) (silent-pays blade (given_up page blade) (gives-silent page blade))) given
pays-owed images (Deliver link side k) old new noted none safe all given = by link.kind refl where
  other : (kind : LinkKind) → link.kind ≡ kind → (kind ≡ Down → ⊥) → Does [] Any old new noted
  other kind e away = from-net given.net old new noted (others-hear images link.kind link.number (λ s. away (sym e ∙ s)) given.taken (with_net given.net old) new noted given.handed)

  by : (kind : LinkKind) → link.kind ≡ kind → Does [] Any old new noted
  by Down e =
      let P : LinkKind → Type 0 = λ kind. Delivers images (record { kind = kind; number = link.number }) side k old new noted in
      let d = subst P e given in
      from-net d.net old new noted (blade-hears images link.number d.taken (with_net d.net old) new safe.flat noted
      (subst IsCoherent (gave_on Down link.number d.taken old d.net safe.flat d.gives.fifo d.only) safe.coherent) safe.sound.blades all d.handed)
  by Up e = let never : Up ≡ Down → ⊥ = λ (s : Up ≡ Down). cc in other Up e never
  by To e = let never : To ≡ Down → ⊥ = λ (s : To ≡ Down). cc in other To e never
  by From e = let never : From ≡ Down → ⊥ = λ (s : From ≡ Down). cc in other From e never
pays-owed images (Lose link side k) old new noted none safe all given = does-nothing old new noted (ap (λ (r : RackView). r.plan) given.after) (ap (λ (r : RackView). r.blades) given.after) (ap labels given.notes)
pays-owed images (Repeat link side k) old new noted none safe all given = does-nothing old new noted (ap (λ (r : RackView). r.plan) given.after) (ap (λ (r : RackView). r.blades) given.after) (ap labels given.notes)
pays-owed images (Resend link) old new noted none safe all given = does-nothing old new noted (ap (λ (r : RackView). r.plan) given.after) (ap (λ (r : RackView). r.blades) given.after) (ap labels given.notes)
pays-owed images Epoch old new noted none safe all given = does-nothing old new noted (ap (λ (r : RackView). r.plan) given.0) (ap (λ (r : RackView). r.blades) given.0) (ap labels given.1)
pays-owed images (Ask command) old new noted none safe all given = absurd given
pays-owed images Settle old new noted none safe all given = absurd given

-- ---- a step and a drain

-- the machine is made from the rack's plan and the images
pub record FitsSetup (images : List Image) (setup : Setup) (rack : RackView) : Type 0 where
  pub plan : setup.plan ≡ rack.plan
  pub code : setup.images ≡ images
  pub fit : IsFit rack.plan

-- the hart's blade owes nothing, and has the hart as the machine has its thread
pub record IsReadyAt (threads : List Thread) (flat : PageView → PageImageView) (rack : RackView) (h : ℕ) (blade : BladeView) : Type 0 where
  pub plan : blade.plan ≡ rack.plan
  pub free : blade.requests ≡ []
  pub stands : (hart : HartView) → hart_of blade h ≡ Some hart → slice_get threads h ≡ Some (machine_thread flat hart)

abbrev pub IsReady : List Thread → (PageView → PageImageView) → RackView → ℕ → Type 0
IsReady threads flat rack h = (thread : ThreadPlan) (blade : BladeView) → slice_get rack.plan.threads h ≡ Some thread → slice_get rack.blades thread.blade ≡ Some blade → IsReadyAt threads flat rack h blade

-- a blade of which the event asks nothing
abbrev pub NotOf : RackView → Event → ℕ → Type 0
NotOf rack event c = asked_blade rack.plan event ≡ Some c → ⊥

-- what a hart of a blade that owes nothing does, where its label is what comes of it
hart-does : (event : Event) (h : ℕ) (act : BladeView → Option BladeEffect) (asked : List Label) (old new : RackView) (noted : List Note)
    → asked_blade old.plan event ≡ option_map (λ (t : ThreadPlan). t.blade) (slice_get old.plan.threads h)
    → ((thread : ThreadPlan) (blade : BladeView) (e : BladeEffect) → slice_get old.plan.threads h ≡ Some thread → slice_get old.blades thread.blade ≡ Some blade → act blade ≡ Some e
    → (comes_of e ≡ asked) × (blade.requests ≡ []))
    → HartDoes (slice_get old.plan.threads h) act old new noted → Does asked (NotOf old event) old new noted
hart-does event h act asked old new noted its comes does = by (slice_get old.plan.threads h) refl does where
  by : (thread : Option ThreadPlan) → slice_get old.plan.threads h ≡ thread → HartDoes thread act old new noted → Does asked (NotOf old event) old new noted
  by None planned does = absurd does
  by (Some thread) planned does =
      let d = did thread.blade act old new noted does in
      let c = comes thread d.blade d.effect planned d.there d.does in
      let nothing : asked ≡ asked ++ owed_by d.blade = sym (append-nil asked) ∙ (λ i. asked ++ map owed_for (sym c.1 i)) in
      acts-does asked (NotOf old event) thread.blade d.blade d.effect old new noted d.there d.acts
      (subst (λ l. IsPermutation l (asked ++ owed_by d.blade)) (sym (c.0 ∙ nothing)) (IsPermutation-refl (asked ++ owed_by d.blade)))
      (λ apart free. absurd (apart (its ∙ ap (option_map (λ (t : ThreadPlan). t.blade)) planned)))

step-label : (images : List Image) (setup : Setup) (threads : List Thread) (flat : PageView → PageImageView) (old : RackView) (h : ℕ) (thread : ThreadPlan) (blade : BladeView) (e : BladeEffect)
    → FitsSetup images setup old → AreBladesSound old → AreNeeded images old → slice_get old.blades thread.blade ≡ Some blade → IsReadyAt threads flat old h blade
    → after_step images h blade ≡ Some e → comes_of e ≡ option_to_list (step_label setup threads h)
step-label images setup threads flat old h thread blade e fits sound all there ready does = by (slice_get images o.plan.image) refl o.does where
  o : OfHart blade h (λ plan hart. option_map (λ image. step_at hart.end h plan image blade hart) (slice_get images plan.image)) e
  o = for_hart-some blade h (λ plan hart. option_map (λ image. step_at hart.end h plan image blade hart) (slice_get images plan.image)) e does

  planned : slice_get old.plan.threads h ≡ Some o.plan
  planned = ap (λ p. slice_get p.threads h) (sym ready.plan) ∙ o.thread

  by : (code : Option Image) → slice_get images o.plan.image ≡ code → option_map (λ image. step_at o.hart.end h o.plan image blade o.hart) code ≡ Some e
      → comes_of e ≡ option_to_list (step_label setup threads h)
  by None code d = let never : ⊥ = cc in absurd never
  by (Some image) code d =
      ap comes_of (sym (same_Some _ _ d))
      ∙ step-comes (permission_at old.switch.protect) blade h o.plan image o.hart flat (record {
        sound = sound thread.blade blade there;
        free = ready.free;
        own = o.own;
        places = ((all thread.blade blade there).queues h o.plan o.hart o.thread o.own).places;
        some = (all-at (IsFitThread (length old.plan.frames) (length old.plan.images)) old.plan.threads h o.plan fits.fit.each_thread planned).queue.0;
      }) o.hart.end
      ∙ ap option_to_list (sym (looked-up (λ image thread plan. label_at thread.end image thread plan.queue h) setup threads h o.plan image (machine_thread flat o.hart)
      (ap (λ p. slice_get p.threads h) fits.plan ∙ planned) (ap (λ all. slice_get all o.plan.image) fits.code ∙ code) (ready.stands o.hart o.own)))

drain-label : (images : List Image) (threads : List Thread) (flat : PageView → PageImageView) (old : RackView) (h : ℕ) (thread : ThreadPlan) (blade : BladeView) (e : BladeEffect)
    → AreBladesSound old → slice_get old.blades thread.blade ≡ Some blade → IsReadyAt threads flat old h blade → blade_after_drain h blade ≡ Some e → comes_of e ≡ option_to_list (drain_label threads h)
drain-label images threads flat old h thread blade e sound there ready does =
    let o = for_hart-some blade h (λ plan hart. Some (drain_of h plan blade hart)) e does in
    ap comes_of (sym (same_Some _ _ o.does))
    ∙ drain-comes (permission_at old.switch.protect) blade h o.plan o.hart (sound thread.blade blade there) ready.free o.own
    ∙ ap (λ t. option_to_list (option_and_then (λ (thread : Thread). if holds_stores thread.buffer then Some (label.Drain h) else None) t)) (sym (ready.stands o.hart o.own))

-- the events of which something is asked
pub step-asks : (images : List Image) (setup : Setup) (threads : List Thread) (flat : PageView → PageImageView) (h : ℕ) (old new : RackView) (noted : List Note) → FitsSetup images setup old
    → AreBladesSound old → AreNeeded images old → IsReady threads flat old h → Leads images (Step h) old new noted → Does (asked_labels setup threads (Step h)) (NotOf old (Step h)) old new noted
step-asks images setup threads flat h old new noted fits sound all ready given = hart-does (Step h) h (after_step images h) (option_to_list (step_label setup threads h)) old new noted refl
    (λ thread blade e planned there does. let is = ready thread blade planned there in (step-label images setup threads flat old h thread blade e fits sound all there is does, is.free)) given

pub drain-asks : (images : List Image) (setup : Setup) (threads : List Thread) (flat : PageView → PageImageView) (h : ℕ) (old new : RackView) (noted : List Note)
    → AreBladesSound old → IsReady threads flat old h → Leads images (Drain h) old new noted → Does (asked_labels setup threads (Drain h)) (NotOf old (Drain h)) old new noted
drain-asks images setup threads flat h old new noted sound ready given = hart-does (Drain h) h (blade_after_drain h) (option_to_list (drain_label threads h)) old new noted refl
    (λ thread blade e planned there does. let is = ready thread blade planned there in (drain-label images threads flat old h thread blade e sound there is does, is.free)) given
