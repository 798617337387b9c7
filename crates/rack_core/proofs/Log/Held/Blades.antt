-- What a blade of the rack notes tells, lawfully, what it did, and no blade holds more pages than it has frames.
use Rattle.std.proofs.Common.{◌≡◌, ℕ, ◌≤◌, Bool, true, false, ◌||◌, ap, sym, refl, subst, ◌∙◌, arith, List, [], ◌∷◌, length, fold, slice_get, slice_set, Option, Some, None, IfSome, is_some}
use Rattle.std.specs.Prelude.{if◌then◌else◌, option_and_then}
use Rattle.std.specs.List.{AllByRecursion, IsDistinct}
use Rattle.std.specs.Map.{keys_of}
use Rattle.std.specs.Set.{is_member}
use Rattle.std.proofs.lemmas.Bool.{false≢true}
use Rattle.std.proofs.lemmas.List.{length-map}
use Rattle.std.proofs.lemmas.Map.Made.{length-le_from_is_member}
use Rattle.std.proofs.lemmas.Option.{same_Some}
use Rattle.mind_base.specs.Page.{PageView}
use Rattle.mind_base.specs.declared.events.Event.TheVariants.{Step, Drain, Evict}
use Rattle.mind_base.specs.declared.images.Image.{Image}
use Rattle.mind_base.specs.declared.links.LinkKind.TheVariants.{Down}
use Rattle.mind_base.specs.declared.notes.Note.{Note}
use Rattle.mind_base.specs.declared.plans.RackPlan.{RackPlan}
use Rattle.mind_base.specs.declared.plans.ThreadPlan.{ThreadPlan}
use Rattle.page_cache.specs.PageCache.{IsPageCache, same_page, frame_of}
use Rattle.page_cache.proofs.Callers.{same_page-is_equivalence, same_page-true}
use Rattle.page_image.specs.PageImage.{PageImageView}
use Rattle.wire_msg.specs.declared.msgs.Msg.{Msg}
use Rattle.compute_blade.specs.Actions.{Action, GivesUp, Lowers, Takes, Asks, Wakes, Performs, Refuses, Drains, Acks, IsActions, after_action, after_actions}
use Rattle.compute_blade.specs.Blade.{BladeView, BladeEffect}
use Rattle.compute_blade.specs.Messages.{MayComeToBlade, after_message}
use Rattle.compute_blade.specs.Pages.{given_up}
use Rattle.compute_blade.specs.Steps.{after_step, blade_after_drain}
use Rattle.compute_blade.proofs.Callers.{step_acts, drain_acts, gives, message_acts}
use Rattle.switch_core.specs.Switch.{SwitchView}
use Rattle.coherence.specs.Facts.{IsCoherent}
use Rattle.coherence.specs.Held.{Holdings, held_after}
use Rattle.coherence.specs.Lawful.{IsLawful, IsWithin, Tells, frames_of, state_in}
use Rattle.coherence.specs.World.{World}
use Rattle.coherence.proofs.Callers.{at_number, put-here, put-other, held_in, entries_in, lawful_when_coherent, tells-from, writable_of, run_keeps}
use Rattle.rack_core.specs.BladeMoves.{AreBladesSound, handing, with_seen_blade}
use Rattle.rack_core.specs.Events.{BladeActs, BladeDoes, HartDoes, HandsTo, Leads}
use Rattle.rack_core.specs.Frames.{HaveFrames}
use Rattle.rack_core.specs.Rack.{RackView, with_blade_at, with_net}
use Rattle.rack_core.specs.Seen.{frame_at, region_at, seen}
use Rattle.rack_core.proofs.Moves.Blade.Handed.{did, blade_handed, handed_may_come}
use Rattle.rack_core.proofs.Moves.Blade.Seen.{seen-has, seen-acted}
use Rattle.rack_core.proofs.Moves.Blade.Still.{IsStill, step-still, drain-still}
use Rattle.rack_core.proofs.Log.Held.BladeNotes.{HoldsAs, AreOthers, IsToldBy, still-told, evict-told, message-told}
use Rattle.rack_core.proofs.Lists.Lookups.{Entries, slice_get-set, slice_get-set_other}
use Rattle.rack_core.proofs.Lists.Parts.{all-member}

-- ---- frames

-- a page that is held is among those of the entries
has_page : (entries : Entries) (page : PageView) → is_some (frame_of page entries) ≡ true → is_member same_page (keys_of entries) page ≡ true
has_page [] page h = absurd (false≢true h)
has_page (entry ∷ entries) page h = by (has_page entries page) (same_page page entry.0) h where
  by : (is_some (frame_of page entries) ≡ true → is_member same_page (keys_of entries) page ≡ true) → (b : Bool) → is_some (if b then Some entry.1 else frame_of page entries) ≡ true
      → (b || is_member same_page (keys_of entries) page) ≡ true
  by rest true e = refl
  by rest false e = rest e

pub pages-few : (blade : BladeView) (pages : List PageView) → IsPageCache blade.cache → IsDistinct same_page pages
    → AllByRecursion (λ page. is_some (frame_of page blade.cache.entries) ≡ true) pages → length pages ≤ blade.cache.frames
pages-few blade pages shape distinct all =
    let few : length pages ≤ length (keys_of blade.cache.entries) = length-le_from_is_member same_page-is_equivalence pages (keys_of blade.cache.entries) distinct
    (λ page m. has_page blade.cache.entries page (all-member same_page same_page-true (λ q. is_some (frame_of q blade.cache.entries) ≡ true) pages page all m)) in
    let fits : length blade.cache.entries ≤ blade.cache.frames = shape.fits in
    omega (arith, few, fits, length-map blade.cache.entries (λ entry. entry.0))

-- no blade holds more pages than it has frames
pub holds_few : (plan : RackPlan) (rack : RackView) → AreBladesSound rack → HaveFrames plan rack.blades → (c : ℕ) (pages : List PageView) → IsDistinct same_page pages
    → AllByRecursion (λ page. is_some (frame_at rack.blades c page) ≡ true) pages → length pages ≤ frames_of plan c
holds_few plan rack sound frames c pages distinct all = by (slice_get rack.blades c) refl pages distinct all where
  by : (b : Option BladeView) → slice_get rack.blades c ≡ b → (pages : List PageView) → IsDistinct same_page pages
      → AllByRecursion (λ page. is_some (option_and_then (λ blade. frame_of page blade.cache.entries) b) ≡ true) pages → length pages ≤ frames_of plan c
  by None there [] distinct all = omega arith
  by None there (page ∷ pages) distinct all = absurd (false≢true all.0)
  by (Some blade) there pages distinct all = subst (λ n. length pages ≤ n) (frames c blade there).1 (pages-few blade pages (sound c blade there).cache distinct all)

-- ---- actions leave a blade's number and its frames

pub record IsSameBlade (old new : BladeView) : Type 0 where
  pub number : new.number ≡ old.number
  pub frames : new.cache.frames ≡ old.cache.frames

action-same : (action : Action) (blade : BladeView) → IsSameBlade blade (after_action action blade).blade
action-same (GivesUp page frame) blade = record { number = refl; frames = refl }
action-same (Lowers page frame) blade = record { number = refl; frames = refl }
action-same (Takes page frame) blade = record { number = refl; frames = refl }
action-same (Asks h hart waits need) blade = record { number = refl; frames = refl }
action-same (Wakes hart asked) blade = record { number = refl; frames = refl }
action-same (Performs h hart plan found pc deed) blade = record { number = refl; frames = refl }
action-same (Refuses h hart denial pc) blade = record { number = refl; frames = refl }
action-same (Drains h hart plan oldest newer) blade = record { number = refl; frames = refl }
action-same (Acks number count) blade = record { number = refl; frames = refl }

actions-same : (actions : List Action) (blade : BladeView) → IsSameBlade blade (after_actions actions blade).blade
actions-same [] blade = record { number = refl; frames = refl }
actions-same (action ∷ actions) blade =
    let one = action-same action blade in
    let more = actions-same actions (after_action action blade).blade in
    record { number = more.number ∙ one.number; frames = more.frames ∙ one.frames }

acts-same : (blade : BladeView) (e : BladeEffect) → IsActions blade e → IsSameBlade blade e.blade
acts-same blade e is = subst (λ (x : BladeEffect). IsSameBlade blade x.blade) (sym is.done) (actions-same is.actions blade)

-- of what a call does where it does something
some-so : (P : BladeEffect → Type 0) (act : Option BladeEffect) (e : BladeEffect) → IfSome act P → act ≡ Some e → P e
some-so P None e given is = let never : ⊥ = cc in absurd never
some-so P (Some x) e given is = subst P (same_Some x e is) given

-- all blades have their frames when one did something
have_frames : (plan : RackPlan) (c : ℕ) (blade : BladeView) (e : BladeEffect) (old new : RackView) (noted : List Note) → slice_get old.blades c ≡ Some blade → BladeActs c e old new noted
    → HaveFrames plan old.blades → IsSameBlade blade e.blade → HaveFrames plan new.blades
have_frames plan c blade e old new noted there acts frames same = subst (λ (r : RackView). HaveFrames plan r.blades) (sym acts.after) each where
  each : HaveFrames plan (with_net acts.net (with_blade_at c e.blade old)).blades
  each n other is = at_number (λ n. slice_get (slice_set old.blades c e.blade) n ≡ Some other → (other.number ≡ n) × (other.cache.frames ≡ frames_of plan n)) c
      (λ is. let its : e.blade ≡ other = same_Some _ _ (sym (slice_get-set old.blades c blade e.blade there) ∙ is) in
      (sym (ap (λ (b : BladeView). b.number) its) ∙ same.number ∙ (frames c blade there).0, sym (ap (λ (b : BladeView). b.cache.frames) its) ∙ same.frames ∙ (frames c blade there).1))
      (λ m away is. frames m other (sym (slice_get-set_other old.blades c e.blade m away) ∙ is)) n is

-- ---- worlds

-- what is held when a blade did something
acted-here : (c : ℕ) (blade : BladeView) (sent : List Msg) (newer : PageView → PageImageView) (w : World) → HoldsAs c blade (held_in (with_seen_blade c blade sent newer w))
acted-here c blade sent newer w page = ap (λ f. writable_of (f page)) (put-here c (λ q. frame_of q blade.cache.entries) w.frames)

acted-away : (c : ℕ) (blade : BladeView) (sent : List Msg) (newer : PageView → PageImageView) (w : World) → AreOthers c (held_in w) (held_in (with_seen_blade c blade sent newer w))
acted-away c blade sent newer w n e page = ap (λ f. writable_of (f page)) (put-other c (λ q. frame_of q blade.cache.entries) w.frames n e)

told-tells : (plan : RackPlan) (c : ℕ) (w : World) (e : BladeEffect) (newer : PageView → PageImageView) → IsToldBy plan c (held_in w) (entries_in w) e
    → Tells plan w e.noted (with_seen_blade c e.blade e.sent newer w)
told-tells plan c w e newer told =
    let v : World = with_seen_blade c e.blade e.sent newer w in
    let last : Holdings = fold held_after (held_in w) e.noted in
    tells-from plan w v e.noted told.lawful (record {
      frames = λ n page. at_number (λ n. last n page ≡ held_in v n page) c
          (told.here page ∙ sym (acted-here c e.blade e.sent newer w page))
          (λ n a. told.away n a page ∙ sym (acted-away c e.blade e.sent newer w n a page)) n;
      states = λ range. ap (λ es. es range) told.states;
    })

-- ---- the rack

-- The notes tell how the rack came about, and its blades have their frames.
pub record IsToldOf (plan : RackPlan) (old new : RackView) (noted : List Note) (flat newer : PageView → PageImageView) : Type 0 where
  pub tells : Tells plan (seen old flat) noted (seen new newer)
  pub frames : HaveFrames plan new.blades

-- what is held and in force as the rack is seen
abbrev pub IsLawfulAt : RackPlan → World → Type 0
IsLawfulAt plan w = IsLawful plan (held_in w) (entries_in w)

module _ (plan : RackPlan) (c : ℕ) (act : BladeView → Option BladeEffect) (old new : RackView) (noted : List Note) (flat newer : PageView → PageImageView) where
  does-told : HaveFrames plan old.blades
      → ((blade : BladeView) (e : BladeEffect) → slice_get old.blades c ≡ Some blade → blade.number ≡ c → HoldsAs c blade (held_in (seen old flat)) → act blade ≡ Some e
      → BladeActs c e old new noted → IsToldBy plan c (held_in (seen old flat)) (entries_in (seen old flat)) e × IsActions blade e)
      → BladeDoes c act old new noted → IsToldOf plan old new noted flat newer
  does-told frames told given =
      let d = did c act old new noted given in
      let has = seen-has old flat c d.blade d.there in
      let it = told d.blade d.effect d.there (frames c d.blade d.there).0 (λ page. ap writable_of (has.frames page)) d.does d.acts in
      record {
        tells = subst (λ n. Tells plan (seen old flat) n (seen new newer)) (sym d.acts.notes)
            (subst (Tells plan (seen old flat) d.effect.noted) (sym (seen-acted c d.blade d.effect old new noted flat newer d.there d.acts)) (told-tells plan c (seen old flat) d.effect newer it.0));
        frames = have_frames plan c d.blade d.effect old new noted d.there d.acts frames (acts-same d.blade d.effect it.1);
      }

-- what a hart's blade does
hart-told : (plan : RackPlan) (hart : ℕ) (act : BladeView → Option BladeEffect) (old new : RackView) (noted : List Note) (flat newer : PageView → PageImageView)
    → ((c : ℕ) → BladeDoes c act old new noted → IsToldOf plan old new noted flat newer)
    → HartDoes (slice_get old.plan.threads hart) act old new noted → IsToldOf plan old new noted flat newer
hart-told plan hart act old new noted flat newer told does = by (slice_get old.plan.threads hart) does where
  by : (thread : Option ThreadPlan) → HartDoes thread act old new noted → IsToldOf plan old new noted flat newer
  by None does = absurd does
  by (Some thread) does = told thread.blade does

pub step_tells : (images : List Image) (hart : ℕ) (plan : RackPlan) (old new : RackView) (noted : List Note) (flat newer : PageView → PageImageView)
    → IsLawfulAt plan (seen old flat) → AreBladesSound old → HaveFrames plan old.blades → Leads images (Step hart) old new noted → IsToldOf plan old new noted flat newer
step_tells images hart plan old new noted flat newer lawful sound frames = hart-told plan hart (after_step images hart) old new noted flat newer
    (λ c. does-told plan c (after_step images hart) old new noted flat newer frames
    (λ blade e there number holds does acts. (
      still-told plan c (entries_in (seen old flat)) (held_in (seen old flat)) blade e lawful holds
          (some-so (IsStill blade) (after_step images hart blade) e (step-still blade (sound c blade there).cache.distinct images hart) does),
      some-so (IsActions blade) (after_step images hart blade) e (step_acts images hart blade) does,
    )))

pub drain_tells : (images : List Image) (hart : ℕ) (plan : RackPlan) (old new : RackView) (noted : List Note) (flat newer : PageView → PageImageView)
    → IsLawfulAt plan (seen old flat) → AreBladesSound old → HaveFrames plan old.blades → Leads images (Drain hart) old new noted → IsToldOf plan old new noted flat newer
drain_tells images hart plan old new noted flat newer lawful sound frames = hart-told plan hart (blade_after_drain hart) old new noted flat newer
    (λ c. does-told plan c (blade_after_drain hart) old new noted flat newer frames
    (λ blade e there number holds does acts. (
      still-told plan c (entries_in (seen old flat)) (held_in (seen old flat)) blade e lawful holds
          (some-so (IsStill blade) (blade_after_drain hart blade) e (drain-still blade (sound c blade there).cache.distinct hart) does),
      some-so (IsActions blade) (blade_after_drain hart blade) e (drain_acts hart blade) does,
    )))

pub evict_tells : (images : List Image) (c : ℕ) (page : PageView) (plan : RackPlan) (old new : RackView) (noted : List Note) (flat newer : PageView → PageImageView)
    → IsLawfulAt plan (seen old flat) → AreBladesSound old → HaveFrames plan old.blades → Leads images (Evict c page) old new noted → IsToldOf plan old new noted flat newer
evict_tells images c page plan old new noted flat newer lawful sound frames =
    does-told plan c (λ blade. Some (given_up page blade)) old new noted flat newer frames
    (λ blade e there number holds does acts. (
      subst (IsToldBy plan c (held_in (seen old flat)) (entries_in (seen old flat))) (same_Some _ _ does)
          (evict-told plan c (entries_in (seen old flat)) (held_in (seen old flat)) page blade lawful holds number (sound c blade there).cache),
      subst (IsActions blade) (same_Some _ _ does) (gives page blade),
    ))

-- a message, where it may come, and where what is held then is lawful too
pub message_tells : (images : List Image) (c : ℕ) (message : Msg) (plan : RackPlan) (old new : RackView) (noted : List Note) (flat newer : PageView → PageImageView)
    → IsLawfulAt plan (seen old flat) → IsLawfulAt plan (seen new newer) → AreBladesSound old → HaveFrames plan old.blades
    → ((blade : BladeView) → slice_get old.blades c ≡ Some blade → MayComeToBlade blade message)
    → HandsTo Down images c message old new noted → IsToldOf plan old new noted flat newer
message_tells images c message plan old new noted flat newer lawful lawful_then sound frames may =
    does-told plan c (λ blade. Some (after_message images message blade)) old new noted flat newer frames
    (λ blade e there number holds does acts.
    let w : World = seen old flat in
    let is : after_message images message blade ≡ e = same_Some _ _ does in
    let v : World = with_seen_blade c e.blade e.sent newer w in
    let shown : seen new newer ≡ v = seen-acted c blade e old new noted flat newer there acts in
    let effect : BladeEffect = after_message images message blade in
    let told = message-told plan c (entries_in w) images message blade (held_in w) (held_in v) (sound c blade there).cache number holds lawful
    (subst (λ (x : BladeEffect). HoldsAs c x.blade (held_in v)) (sym is) (acted-here c e.blade e.sent newer w))
    (acted-away c e.blade e.sent newer w) (subst (IsLawfulAt plan) shown lawful_then) in (
      subst (IsToldBy plan c (held_in w) (entries_in w)) is told,
      subst (IsActions blade) is (message_acts images message blade (sound c blade there).cache (may blade there)),
    ))

-- as many entries as slots, and as many pages as frames
pub within_new : (plan : RackPlan) (old new : RackView) (flat newer : PageView → PageImageView) → AreBladesSound new → HaveFrames plan new.blades
    → IsWithin plan (seen old flat) → new.switch ≡ old.switch → IsWithin plan (seen new newer)
within_new plan old new flat newer sound frames within switch = record {
  slots = λ ranges distinct all. within.slots ranges distinct
      (subst (λ (s : SwitchView). AllByRecursion (λ range. is_some (state_in (region_at s.directory.entries) range) ≡ true) ranges) switch all);
  frames = λ blade pages distinct all. holds_few plan new sound frames blade pages distinct all;
}

-- in a coherent rack, whatever else is to be handed over
pub lawful_at : (plan : RackPlan) (rack : RackView) (flat : PageView → PageImageView) (front : World → World) → IsCoherent (front (seen rack flat))
    → (front (seen rack flat)).frames ≡ (seen rack flat).frames → (front (seen rack flat)).regions ≡ (seen rack flat).regions
    → IsWithin plan (seen rack flat) → IsLawfulAt plan (seen rack flat)
lawful_at plan rack flat front coherent frames regions within =
    lawful_when_coherent plan (held_in (seen rack flat)) (entries_in (seen rack flat)) (front (seen rack flat)) coherent
    (record {
      slots = λ ranges distinct all. within.slots ranges distinct (subst (λ r. AllByRecursion (λ range. is_some (state_in r range) ≡ true) ranges) regions all);
      frames = λ blade pages distinct all. within.frames blade pages distinct (subst (λ f. AllByRecursion (λ page. is_some (f blade page) ≡ true) pages) frames all);
    })
    (record {
      frames = λ blade page. sym (ap (λ f. writable_of (f blade page)) frames);
      states = λ range. sym (ap (λ r. state_in r range) regions);
    })

-- a message that blade c is handed, before those that it has not been handed yet
pub handed_tells : (images : List Image) (c : ℕ) (message : Msg) (rest : List Msg) (plan : RackPlan) (old new : RackView) (noted : List Note) (flat newer : PageView → PageImageView)
    → IsCoherent (handing c (message ∷ rest) (seen old flat)) → IsWithin plan (seen old flat) → AreBladesSound old → HaveFrames plan old.blades
    → HandsTo Down images c message old new noted → IsToldOf plan old new noted flat newer
handed_tells images c message rest plan old new noted flat newer coherent within sound frames hands =
    let led = blade_handed images old new flat c message rest noted coherent sound hands in
    let last : PageView → PageImageView = led.leads.flat in
    let may : (blade : BladeView) → slice_get old.blades c ≡ Some blade → MayComeToBlade blade message = λ blade there. handed_may_come images old flat c blade message rest coherent sound there in
    let d = did c (λ blade. Some (after_message images message blade)) old new noted hands in
    let acts : IsActions d.blade d.effect = subst (IsActions d.blade) (same_Some _ _ d.does) (message_acts images message d.blade (sound c d.blade d.there).cache (may d.blade d.there)) in
    let frames_then : HaveFrames plan new.blades = have_frames plan c d.blade d.effect old new noted d.there d.acts frames (acts-same d.blade d.effect acts) in
    let within_then : IsWithin plan (seen new newer) = within_new plan old new flat newer led.leads.sound frames_then within (ap (λ (r : RackView). r.switch) d.acts.after) in
    let coherent_then : IsCoherent (handing c rest (seen new last)) = run_keeps _ _ led.leads.moves coherent led.leads.run in
    message_tells images c message plan old new noted flat newer
    (lawful_at plan old flat (handing c (message ∷ rest)) coherent refl refl within)
    (lawful_at plan new last (handing c rest) coherent_then refl refl (record { slots = within_then.slots; frames = within_then.frames }))
    sound frames may hands
