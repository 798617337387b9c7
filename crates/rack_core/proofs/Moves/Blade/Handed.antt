-- What a blade of the rack does in one event, and with one message that it is handed, leads the rack on by moves.
use Rattle.std.proofs.Common.{◌≡◌, ℕ, ◌==◌, Bool, true, false, ap, sym, refl, subst, List, ◌∷◌, ◌++◌, slice_get, slice_set, Option, Some, None, ◌∙◌}
use Rattle.std.specs.Prelude.{option_and_then}
use Rattle.std.proofs.lemmas.Bool.{eqb-true}
use Rattle.std.proofs.lemmas.Option.{same_Some}
use Rattle.mind_base.specs.Page.{PageView}
use Rattle.mind_base.specs.declared.events.Event.TheVariants.{Step, Drain, Evict}
use Rattle.mind_base.specs.declared.images.Image.{Image}
use Rattle.mind_base.specs.declared.links.LinkKind.TheVariants.{Down}
use Rattle.mind_base.specs.declared.notes.Note.{Note}
use Rattle.mind_base.specs.declared.plans.ThreadPlan.{ThreadPlan}
use Rattle.page_cache.specs.PageCache.{frame_of}
use Rattle.page_cache.specs.declared.frames.Frame.{Frame}
use Rattle.page_image.specs.PageImage.{PageImageView}
use Rattle.protect_table.specs.Protect.{permission_at}
use Rattle.wire_msg.specs.declared.msgs.Msg.{Msg}
use Rattle.wire_msg.specs.declared.msgs.Msg.TheVariants.{Fill, Deny, Inv, Lower}
use Rattle.compute_blade.specs.Blade.{BladeView, BladeEffect}
use Rattle.compute_blade.specs.Messages.{MayComeToBlade, after_message}
use Rattle.compute_blade.specs.Pages.{given_up}
use Rattle.compute_blade.specs.Steps.{after_step, blade_after_drain}
use Rattle.coherence.specs.Facts.{IsCoherent, IsDown, AreDowns}
use Rattle.coherence.specs.Moves.{took}
use Rattle.coherence.specs.Runs.{Run}
use Rattle.coherence.specs.World.{World}
use Rattle.coherence.proofs.Callers.{run_keeps, put-here, downs-cons}
use Rattle.rack_core.specs.BladeMoves.{with_seen_blade, HasBlade, IsSoundBlade, DoesMoves, handing, AreBladesSound, BladeLeads, image_or}
use Rattle.rack_core.specs.Events.{BladeActs, Acts, ActsWith, BladeDoes, HartDoes, HandsTo, Leads}
use Rattle.rack_core.specs.Rack.{RackView, with_blade_at, with_net}
use Rattle.rack_core.specs.Seen.{pending_on, frame_at, seen}
use Rattle.rack_core.proofs.Moves.Blade.Calls.{evict, invalidate, lower}
use Rattle.rack_core.proofs.Moves.Blade.Fills.{fill, deny}
use Rattle.rack_core.proofs.Moves.Blade.Hears.{may_come}
use Rattle.rack_core.proofs.Moves.Blade.Seen.{seen-has, seen-acted}
use Rattle.rack_core.proofs.Moves.Blade.Steps.{step, drain}
use Rattle.rack_core.proofs.Moves.Blade.Worlds.{put-again}
use Rattle.rack_core.proofs.Lists.Lookups.{slice_get-set, slice_get-set_other}

-- ---- all blades

-- a blade of the rack did this
pub record Did (c : ℕ) (act : BladeView → Option BladeEffect) (old new : RackView) (noted : List Note) : Type 0 where
  pub blade : BladeView
  pub effect : BladeEffect
  pub there : slice_get old.blades c ≡ Some blade
  pub does : act blade ≡ Some effect
  pub acts : BladeActs c effect old new noted

pub did : (c : ℕ) (act : BladeView → Option BladeEffect) (old new : RackView) (noted : List Note) → BladeDoes c act old new noted → Did c act old new noted
did c act old new noted given = by (slice_get old.blades c) refl given where
  its : (blade : BladeView) → slice_get old.blades c ≡ Some blade → (e : Option BladeEffect) → act blade ≡ e → Acts c e old new noted → Did c act old new noted
  its blade there None does g = absurd g
  its blade there (Some effect) does g = record { blade = blade; effect = effect; there = there; does = does; acts = g }

  by : (b : Option BladeView) → slice_get old.blades c ≡ b → ActsWith b c act old new noted → Did c act old new noted
  by None there g = absurd g
  by (Some blade) there g = its blade there (act blade) refl g

-- all blades are sound when one that did something is
pub still_sound : (c : ℕ) (blade : BladeView) (e : BladeEffect) (old new : RackView) (noted : List Note) → slice_get old.blades c ≡ Some blade → BladeActs c e old new noted
    → AreBladesSound old → IsSoundBlade (permission_at old.switch.protect) e.blade → AreBladesSound new
still_sound c blade e old new noted there acts all its = subst AreBladesSound (sym acts.after) each where
  each : AreBladesSound (with_net acts.net (with_blade_at c e.blade old))
  each n other is = by (n == c) refl where
    by : (b : Bool) → (n == c) ≡ b → IsSoundBlade (permission_at old.switch.protect) other
    by true s =
        let same : e.blade ≡ other = same_Some _ _ (sym (slice_get-set old.blades c blade e.blade there) ∙ ap (slice_get (slice_set old.blades c e.blade)) (sym (eqb-true n c s)) ∙ is) in
        subst (IsSoundBlade (permission_at old.switch.protect)) same its
    by false s = all n other (sym (slice_get-set_other old.blades c e.blade n s) ∙ is)

-- ---- events

-- the newest image of a page is the one that the blade holds, or what it was
newest_after : (c : ℕ) (blade : BladeView) (e : BladeEffect) (old new : RackView) (noted : List Note) (flat newer : PageView → PageImageView)
    → slice_get old.blades c ≡ Some blade → BladeActs c e old new noted
    → ((page : PageView) → frame_of page e.blade.cache.entries ≡ None → newer page ≡ flat page)
    → ((page : PageView) (frame : Frame) → frame_at new.blades c page ≡ Some frame → frame.image ≡ newer page)
    → (page : PageView) → newer page ≡ image_or (flat page) (frame_at new.blades c page)
newest_after c blade e old new noted flat newer there acts kept held page = by (frame_at new.blades c page) refl where
  now : frame_at new.blades c page ≡ frame_of page e.blade.cache.entries
  now = ap (λ (rack : RackView). frame_at rack.blades c page) acts.after
      ∙ ap (option_and_then (λ b. frame_of page b.cache.entries)) (slice_get-set old.blades c blade e.blade there)

  by : (f : Option Frame) → frame_at new.blades c page ≡ f → newer page ≡ image_or (flat page) f
  by None e = kept page (sym now ∙ e)
  by (Some frame) e = sym (held page frame e)

leads : (c : ℕ) (act : BladeView → Option BladeEffect) (old new : RackView) (noted : List Note) (flat : PageView → PageImageView)
    → ((blade : BladeView) (e : BladeEffect) → HasBlade c blade (seen old flat) → IsSoundBlade (permission_at old.switch.protect) blade → act blade ≡ Some e → DoesMoves (seen old flat) (seen old flat) c e)
    → IsCoherent (seen old flat) → AreBladesSound old → BladeDoes c act old new noted → BladeLeads c (seen old flat) (seen new) new
leads c act old new noted flat moves safe all given =
    let d = did c act old new noted given in
    let does = moves d.blade d.effect (seen-has old flat c d.blade d.there) (all c d.blade d.there) d.does in
    let run = subst (Run (seen old flat) does.leads.moves) (sym (seen-acted c d.blade d.effect old new noted flat does.flat d.there d.acts)) does.leads.run in
    record {
      leads = record { flat = does.flat; moves = does.leads.moves; run = run; sound = still_sound c d.blade d.effect old new noted d.there d.acts all does.sound };
      newest = newest_after c d.blade d.effect old new noted flat does.flat d.there d.acts does.kept
          (λ page frame held. ((run_keeps (seen old flat) (seen new does.flat) does.leads.moves safe run).frames c page frame held).newest);
    }

-- what a hart's blade does, by the plan
pub record OfHart (hart : ℕ) (old : RackView) (P : ℕ → Type 0) : Type 0 where
  pub thread : ThreadPlan
  pub planned : slice_get old.plan.threads hart ≡ Some thread
  pub does : P thread.blade

of_hart : (P : ℕ → Type 0) (hart : ℕ) (act : BladeView → Option BladeEffect) (old new : RackView) (noted : List Note)
    → ((blade : ℕ) → BladeDoes blade act old new noted → P blade) → HartDoes (slice_get old.plan.threads hart) act old new noted → OfHart hart old P
of_hart P hart act old new noted given does = by (slice_get old.plan.threads hart) refl does where
  by : (thread : Option ThreadPlan) → slice_get old.plan.threads hart ≡ thread → HartDoes thread act old new noted → OfHart hart old P
  by None e does = absurd does
  by (Some thread) e does = record { thread = thread; planned = e; does = given thread.blade does }

pub step_leads : (images : List Image) (hart : ℕ) (old new : RackView) (noted : List Note) (flat : PageView → PageImageView) → IsCoherent (seen old flat) → AreBladesSound old
    → Leads images (Step hart) old new noted → OfHart hart old (λ c. BladeLeads c (seen old flat) (seen new) new)
step_leads images hart old new noted flat safe all = of_hart (λ c. BladeLeads c (seen old flat) (seen new) new) hart (after_step images hart) old new noted
    (λ c. leads c (after_step images hart) old new noted flat (λ blade e has sound is. step images (seen old flat) c blade hart e safe has sound is) safe all)

pub drain_leads : (images : List Image) (hart : ℕ) (old new : RackView) (noted : List Note) (flat : PageView → PageImageView) → IsCoherent (seen old flat) → AreBladesSound old
    → Leads images (Drain hart) old new noted → OfHart hart old (λ c. BladeLeads c (seen old flat) (seen new) new)
drain_leads images hart old new noted flat safe all = of_hart (λ c. BladeLeads c (seen old flat) (seen new) new) hart (blade_after_drain hart) old new noted
    (λ c. leads c (blade_after_drain hart) old new noted flat (λ blade e has sound is. drain (seen old flat) c blade hart e has sound is) safe all)

pub evict_leads : (images : List Image) (c : ℕ) (page : PageView) (old new : RackView) (noted : List Note) (flat : PageView → PageImageView) → IsCoherent (seen old flat) → AreBladesSound old
    → Leads images (Evict c page) old new noted → BladeLeads c (seen old flat) (seen new) new
evict_leads images c page old new noted flat safe all = leads c (λ blade. Some (given_up page blade)) old new noted flat
    (λ blade e has sound is. subst (DoesMoves (seen old flat) (seen old flat) c) (same_Some _ _ is) (evict (seen old flat) c blade page has sound)) safe all

-- ---- messages

-- any message that comes
hears : (images : List Image) (w : World) (c : ℕ) (blade : BladeView) (message : Msg) (behind : List Msg)
    → IsCoherent w → HasBlade c blade w → IsSoundBlade w.perms blade → w.downs c ≡ message ∷ behind
    → DoesMoves w (took c behind w) c (after_message images message blade)
hears images w c blade message behind coherent has sound head = by message head (downs-cons w c message behind (subst (AreDowns w c) head (coherent.downs c))).0 where
  by : (m : Msg) → w.downs c ≡ m ∷ behind → IsDown w c m behind → DoesMoves w (took c behind w) c (after_message images m blade)
  by (Fill page perm writable image) head down = fill images w c blade page perm writable image behind coherent has sound head
  by (Deny page) head down = deny images w c blade page behind coherent has sound head
  by (Inv number range asked) head down = invalidate images w c blade number range asked behind has sound head
  by (Lower number range asked) head down = lower images w c blade number range asked behind has sound head
  by m head down = absurd down

-- a message that a blade is handed, before those that it has not been handed yet
pub blade_handed : (images : List Image) (old new : RackView) (flat : PageView → PageImageView) (c : ℕ) (message : Msg) (rest : List Msg) (noted : List Note)
    → IsCoherent (handing c (message ∷ rest) (seen old flat)) → AreBladesSound old → HandsTo Down images c message old new noted
    → BladeLeads c (handing c (message ∷ rest) (seen old flat)) (λ newer. handing c rest (seen new newer)) new
blade_handed images old new flat c message rest noted safe all given =
    let w = handing c (message ∷ rest) (seen old flat) in
    let behind = rest ++ pending_on old.net Down c in
    let d = did c (λ blade. Some (after_message images message blade)) old new noted given in
    let has : HasBlade c d.blade w = let h = seen-has old flat c d.blade d.there in record { frames = h.frames; asks = h.asks } in
    let does : DoesMoves w (took c behind w) c d.effect = subst (DoesMoves w (took c behind w) c) (same_Some _ _ d.does)
    (hears images w c d.blade message behind safe has (all c d.blade d.there) (put-here c (message ∷ behind) (pending_on old.net Down))) in
    let newer = does.flat in
    let last : with_seen_blade c d.effect.blade d.effect.sent newer (took c behind w) ≡ handing c rest (with_seen_blade c d.effect.blade d.effect.sent newer (seen old flat)) =
    λ i. record (with_seen_blade c d.effect.blade d.effect.sent newer (seen old flat)) { downs = λ n. put-again c behind (message ∷ behind) (pending_on old.net Down) n i } in
    let run = subst (Run w does.leads.moves) (last ∙ ap (handing c rest) (sym (seen-acted c d.blade d.effect old new noted flat newer d.there d.acts))) does.leads.run in
    record {
      leads = record { flat = newer; moves = does.leads.moves; run = run; sound = still_sound c d.blade d.effect old new noted d.there d.acts all does.sound };
      newest = newest_after c d.blade d.effect old new noted flat newer d.there d.acts does.kept
          (λ page frame held. ((run_keeps w (handing c rest (seen new newer)) does.leads.moves safe run).frames c page frame held).newest);
    }

-- and it may come to that blade
pub handed_may_come : (images : List Image) (old : RackView) (flat : PageView → PageImageView) (c : ℕ) (blade : BladeView) (message : Msg) (rest : List Msg)
    → IsCoherent (handing c (message ∷ rest) (seen old flat)) → AreBladesSound old → slice_get old.blades c ≡ Some blade → MayComeToBlade blade message
handed_may_come images old flat c blade message rest safe all there =
    let w = handing c (message ∷ rest) (seen old flat) in
    let behind = rest ++ pending_on old.net Down c in
    let has : HasBlade c blade w = let h = seen-has old flat c blade there in record { frames = h.frames; asks = h.asks } in
    may_come w c blade message behind safe has (all c blade there) (put-here c (message ∷ behind) (pending_on old.net Down))
