-- The code lets a compute blade of the rack act: it does what the definitions say, and the rack keeps its shape.
use Rattle.std.proofs.Common.{◌≡◌, refl, sym, ap, subst, ◌∙◌, ℕ, ◌<◌, ◌==◌, Bool, true, false, List, [], ◌∷◌, length, slice_get, slice_set, Option, Some, None, eqb-true, zero, suc, get_or}
use Rattle.std.specs.Prelude.{IfSome, IsSome, IsSomeAnd, OnOk, Result, Ok, Err}
use Rattle.std.specs.List.{AllByRecursion}
use Rattle.std.proofs.lemmas.Bool.{eq-eqb}
use Rattle.std.proofs.lemmas.List.{length-set}
use Rattle.std.proofs.lemmas.Option.{same_Some, none-some, slice_get-get_or}
use Rattle.mind_base.specs.Fit.{IsFitThread}
use Rattle.mind_base.specs.declared.images.Image.{Image}
use Rattle.mind_base.specs.declared.links.LinkKind.TheVariants.{Up}
use Rattle.mind_base.specs.declared.notes.Note.{Note}
use Rattle.mind_base.specs.declared.plans.RackPlan.{RackPlan}
use Rattle.mind_base.specs.declared.plans.ThreadPlan.{ThreadPlan}
use Rattle.wire_msg.specs.WellFormed.{FieldsAgree}
use Rattle.wire_msg.specs.declared.msgs.Msg.{Msg}
use Rattle.compute_blade.specs.Actions.{IsActions}
use Rattle.compute_blade.specs.Blade.{BladeView, BladeEffect, Did, DidSome, StaysBlade, HasSpent, hart_of}
use Rattle.compute_blade.specs.declared.kept.Asked.{Asked}
use Rattle.compute_blade.proofs.Callers.{step_acts, drain_acts}
use Rattle.rack_net.specs.Net.{IsNet, NetView}
use Rattle.rack_core.specs.Calls.{HasSpentHart, Notes}
use Rattle.rack_core.specs.Events.{BladeDoes, Acts, ActsWith, HartDoes, Leads, SendsAll, on}
use Rattle.rack_core.specs.HartActs.{hart_acted, hart_event}
use Rattle.rack_core.specs.declared.acts.HartAct.{HartAct}
use Rattle.rack_core.specs.declared.acts.HartAct.TheVariants.{Step, Drain}
use Rattle.rack_core.specs.Rack.{RackView, with_blade_at, with_net}
use Rattle.rack_core.specs.Shape.{IsShaped, IsBladeOf}
use Rattle.rack_core.proofs.Lists.Lookups.{slice_get-set, slice_get-set_other}
use Rattle.rack_core.proofs.Events.Sending.{as-many, sent-agrees}

-- ---- what was done

-- blade c of the rack did something, sent what it sent, and noted what it noted
pub record Went (c : ℕ) (blade after : BladeView) (sent : List Msg) (old new : RackView) : Type 0 where
  pub there : slice_get old.blades c ≡ Some blade
  pub net : NetView
  pub sends : SendsAll (on Up c sent) old.net net
  pub became : new ≡ with_net net (with_blade_at c after old)

did-acts : (c : ℕ) (e : BladeEffect) (blade after : BladeView) (sent : List Msg) (old new : RackView) (notes notes' : List Note)
    → Went c blade after sent old new → Did e after [] sent notes notes' → Notes (Rattle.rack_core.specs.Events.BladeActs c e old new) notes notes'
did-acts c e blade after sent old new notes notes' went done = (
  e.noted,
  record {
    net = went.net;
    sent = subst (λ s. SendsAll (on Up c s) old.net went.net) done.1 went.sends;
    after = went.became ∙ ap (λ b. with_net went.net (with_blade_at c b old)) done.0;
    notes = refl;
  },
  done.2,
)

pub blade-did : (act : BladeView → Option BladeEffect) (c : ℕ) (blade after : BladeView) (sent : List Msg) (old new : RackView) (notes notes' : List Note)
    → Went c blade after sent old new → DidSome (act blade) after [] sent notes notes' → Notes (BladeDoes c act old new) notes notes'
blade-did act c blade after sent old new notes notes' went done = by (act blade) refl done where
  by : (e : Option BladeEffect) → act blade ≡ e → DidSome e after [] sent notes notes' → Notes (BladeDoes c act old new) notes notes'
  by None is d = absurd d
  by (Some e) is d =
      let acts = did-acts c e blade after sent old new notes notes' went d in
      (acts.0, subst (λ b. ActsWith b c act old new acts.0) (sym went.there) (subst (λ x. Acts c x old new acts.0) (sym is) acts.1), acts.2)

-- it is the blade of a hart
pub hart-did : (act : BladeView → Option BladeEffect) (h c : ℕ) (thread : ThreadPlan) (old new : RackView) (notes notes' : List Note)
    → slice_get old.plan.threads h ≡ Some thread → c ≡ thread.blade → Notes (BladeDoes c act old new) notes notes'
    → Notes (HartDoes (slice_get old.plan.threads h) act old new) notes notes'
hart-did act h c thread old new notes notes' planned is done =
    (done.0, subst (λ t. HartDoes t act old new done.0) (sym planned) (subst (λ k. BladeDoes k act old new done.0) is done.1), done.2)

-- what was sent may be sent
pub did-agrees : (act : Option BladeEffect) (blade after : BladeView) (sent : List Msg) (notes notes' : List Note) → IfSome act (IsActions blade)
    → DidSome act after [] sent notes notes' → AllByRecursion FieldsAgree sent
did-agrees None blade after sent notes notes' is done = absurd done
did-agrees (Some e) blade after sent notes notes' is done = subst (AllByRecursion FieldsAgree) (sym done.1) (sent-agrees blade e is)

-- ---- a blade that was read at its place

-- The rack as its fields say it, and blade c as it was read at its place.
pub record IsAtPlace (inside now : RackView) (i c : ℕ) (blade : BladeView) : Type 0 where
  pub view : inside ≡ now
  pub index : i ≡ c
  pub value : blade ≡ get_or inside.blades i blade
  pub within : c < length now.blades

pub there : (inside now : RackView) (i c : ℕ) (blade : BladeView) → IsAtPlace inside now i c blade → slice_get now.blades c ≡ Some blade
there inside now i c blade r =
    slice_get-get_or now.blades c blade r.within
    ∙ ap Some (sym (r.value ∙ ap (λ k. get_or inside.blades k blade) r.index ∙ ap (λ (rack : RackView). get_or rack.blades c blade) r.view))

-- it became this one, and what it sent went onto its link
pub went : (inside now new : RackView) (i c : ℕ) (blade after : BladeView) (sent : List Msg) → IsAtPlace inside now i c blade
    → ((net : NetView) × SendsAll (on Up c sent) inside.net net × (new ≡ with_net net (record inside { blades = slice_set inside.blades i after })))
    → Went c blade after sent now new
went inside now new i c blade after sent r done = record {
  there = there inside now i c blade r;
  net = done.0;
  sends = subst (λ (rack : RackView). SendsAll (on Up c sent) rack.net done.0) r.view done.1;
  became = done.2 ∙ ap (λ k. with_net done.0 (record inside { blades = slice_set inside.blades k after })) r.index
      ∙ ap (λ (rack : RackView). with_net done.0 (with_blade_at c after rack)) r.view;
}

-- it gave its last tag
pub spent-place : (inside now : RackView) (i c : ℕ) (blade after : BladeView) (h : ℕ) → IsAtPlace inside now i c blade → HasSpent h after → HasSpentHart (slice_set inside.blades i after)
spent-place inside now i c blade after h r spent = (
  c,
  after,
  h,
  ap (λ k. slice_get (slice_set inside.blades k after) c) r.index
      ∙ slice_get-set inside.blades c blade after (ap (λ (rack : RackView). slice_get rack.blades c) r.view ∙ there inside now i c blade r),
  spent,
)

-- where there is an answer
pub when-ok : {A E : Type 0} {P Q : Type 0} (r : Result A E) → (P → Q) → OnOk r P → OnOk r Q
when-ok (Ok a) f p = f p
when-ok (Err e) f p = tt

pub both-ok : {A E : Type 0} {P Q R : Type 0} (r : Result A E) → (P → Q → R) → OnOk r P → OnOk r Q → OnOk r R
both-ok (Ok a) f p q = f p q
both-ok (Err e) f p q = tt

-- ---- the shape stays

-- the rack has the same plan, as many links, and its blades and memory blades are those of the plan
pub shape-went : (c : ℕ) (blade after : BladeView) (sent : List Msg) (old new : RackView) → Went c blade after sent old new → StaysBlade blade after → IsNet new.net → IsShaped old → IsShaped new
shape-went c blade after sent old new went keeps net shape =
    let many = as-many (on Up c sent) old.net went.net went.sends in
    subst IsShaped (sym went.became) (record {
      fit = shape.fit;
      blades = length-set old.blades c after ∙ shape.blades;
      each = each;
      switch = shape.switch;
      memories = shape.memories;
      links = (many.0 ∙ shape.links.0, many.1 ∙ shape.links.1);
      net = subst (λ (r : RackView). IsNet r.net) went.became net;
      core = shape.core;
      slots = shape.slots;
    })
  where
    was : IsBladeOf old.plan c blade
    was = shape.each c blade went.there

    each : (n : ℕ) (other : BladeView) → slice_get (slice_set old.blades c after) n ≡ Some other → IsBladeOf old.plan n other
    each n other is = by (n == c) refl where
      by : (b : Bool) → (n == c) ≡ b → IsBladeOf old.plan n other
      by true s =
          let here : n ≡ c = eqb-true n c s in
          let same : after ≡ other = same_Some _ _ (sym (slice_get-set old.blades c blade after went.there) ∙ ap (slice_get (slice_set old.blades c after)) (sym here) ∙ is) in
          subst (IsBladeOf old.plan n) same (record { plan = keeps.plan ∙ was.plan; number = keeps.number ∙ was.number ∙ sym here; shape = keeps.shape })
      by false s = shape.each n other (sym (slice_get-set_other old.blades c after n s) ∙ is)

-- ---- what the calls of a blade want

-- hart h is one of its blade
pub hart-own : (rack : RackView) (h : ℕ) (thread : ThreadPlan) (blade : BladeView) → IsShaped rack → slice_get rack.plan.threads h ≡ Some thread
    → slice_get rack.blades thread.blade ≡ Some blade → IsSome (hart_of blade h)
hart-own rack h thread blade shape planned there =
    let is = shape.each thread.blade blade there in
    is.shape.own h thread (ap (λ (p : RackPlan). slice_get p.threads h) is.plan ∙ planned)
    ∙ ap (λ n. thread.blade == n) is.number ∙ eq-eqb thread.blade thread.blade refl

fit-thread : (blades images : ℕ) (threads : List ThreadPlan) (h : ℕ) (thread : ThreadPlan) → AllByRecursion (IsFitThread blades images) threads → slice_get threads h ≡ Some thread → thread.blade < blades
fit-thread blades images [] h thread all is = absurd (none-some thread is)
fit-thread blades images (t ∷ threads) zero thread all is = subst (λ (x : ThreadPlan). x.blade < blades) (same_Some _ _ is) all.0.blade
fit-thread blades images (t ∷ threads) (suc h) thread all is = fit-thread blades images threads h thread all.1 is

-- the blade of a thread is there
pub blade-there : (rack : RackView) (h : ℕ) (thread : ThreadPlan) → IsShaped rack → slice_get rack.plan.threads h ≡ Some thread → thread.blade < length rack.blades
blade-there rack h thread shape planned =
    subst (λ n. thread.blade < n) (sym shape.blades) (fit-thread (length rack.plan.frames) (length rack.plan.images) rack.plan.threads h thread shape.fit.each_thread planned)

-- the blade of a hart, as it was found
abbrev pub IsBladeAt : RackView → ℕ → ℕ → Type 0
IsBladeAt rack h c = (thread : ThreadPlan) × (slice_get rack.plan.threads h ≡ Some thread) × (c ≡ thread.blade)

pub blade-within : (rack : RackView) (h c : ℕ) → IsShaped rack → IsBladeAt rack h c → c < length rack.blades
blade-within rack h c shape found = subst (λ n. n < length rack.blades) (sym found.2) (blade-there rack h found.0 shape found.1)

pub blade-own : (rack : RackView) (h c : ℕ) (blade : BladeView) → IsShaped rack → IsBladeAt rack h c → slice_get rack.blades c ≡ Some blade → IsSome (hart_of blade h)
blade-own rack h c blade shape found is = hart-own rack h found.0 blade shape found.1 (ap (slice_get rack.blades) (sym found.2) ∙ is)

-- its images are those of the rack
pub blade-plan : (rack : RackView) (c : ℕ) (blade : BladeView) → IsShaped rack → slice_get rack.blades c ≡ Some blade → blade.plan ≡ rack.plan
blade-plan rack c blade shape is = (shape.each c blade is).plan

-- and its link is there
pub of-net : (c : ℕ) (rack : RackView) (blades : ℕ) → blades ≡ rack.net.blades → IsShaped rack → c < length rack.blades → c < blades
of-net c rack blades is shape lt = subst (λ n. c < n) (sym (is ∙ shape.links.0 ∙ sym shape.blades)) lt

pub number-within : (c : ℕ) (rack : RackView) → IsShaped rack → c < length rack.plan.frames → c < length rack.blades
number-within c rack shape lt = subst (λ n. c < n) (sym shape.blades) lt

-- the hart for which a message came has given its last tag
pub some-spent : (old new : BladeView) (asked : Option Asked) → IsSomeAnd asked (λ a. HasSpent a.hart old × HasSpent a.hart new) → (h : ℕ) × HasSpent h new
some-spent old new None spent = absurd spent
some-spent old new (Some asked) spent = (asked.hart, spent.1)

-- ---- a call of a blade in the rack

-- the blade of hart h, and blade c, as they were read
pub hart-at : (inside now : RackView) (i c h : ℕ) (blade : BladeView) → inside ≡ now → i ≡ c → blade ≡ get_or inside.blades i blade → IsShaped now → IsBladeAt now h c → IsAtPlace inside now i c blade
hart-at inside now i c h blade view index value shape found = record { view = view; index = index; value = value; within = blade-within now h c shape found }

pub number-at : (inside now : RackView) (i c : ℕ) (blade : BladeView) → inside ≡ now → i ≡ c → blade ≡ get_or inside.blades i blade → IsShaped now → c < length now.plan.frames → IsAtPlace inside now i c blade
number-at inside now i c blade view index value shape lt = record { view = view; index = index; value = value; within = number-within c now shape lt }

-- what was sent stands in a list that was empty
pub did-sent : (act : Option BladeEffect) (after : BladeView) (none all sent : List Msg) (notes notes' : List Note) → none ≡ [] → sent ≡ all → DidSome act after none all notes notes'
    → DidSome act after [] sent notes notes'
did-sent act after none all sent notes notes' empty is did = subst (λ s. DidSome act after [] s notes notes') (sym is) (subst (λ s. DidSome act after s all notes notes') empty did)

-- what the blade sent went onto its link, and the rack is new
abbrev pub SentUp : RackView → ℕ → ℕ → BladeView → List Msg → RackView → Type 0
SentUp inside i c after sent new = (net : NetView) × SendsAll (on Up c sent) inside.net net × (new ≡ with_net net (record inside { blades = slice_set inside.blades i after }))

pub blade-acted : {A E : Type 0} (act : BladeView → Option BladeEffect) (inside now new : RackView) (i c : ℕ) (blade after : BladeView) (sent : List Msg) (notes notes' : List Note) (r : Result A E)
    → IsAtPlace inside now i c blade → DidSome (act blade) after [] sent notes notes' → OnOk r (SentUp inside i c after sent new) → OnOk r (Notes (BladeDoes c act now new) notes notes')
blade-acted act inside now new i c blade after sent notes notes' r at did sends =
    when-ok r (λ done. blade-did act c blade after sent now new notes notes' (went inside now new i c blade after sent at done) did) sends

pub hart-acted : {A E : Type 0} (act : BladeView → Option BladeEffect) (h : ℕ) (inside now new : RackView) (i c : ℕ) (blade after : BladeView) (sent : List Msg) (notes notes' : List Note) (r : Result A E)
    → IsAtPlace inside now i c blade → IsBladeAt now h c → DidSome (act blade) after [] sent notes notes' → OnOk r (SentUp inside i c after sent new)
    → OnOk r (Notes (HartDoes (slice_get now.plan.threads h) act now new) notes notes')
hart-acted act h inside now new i c blade after sent notes notes' r at found did sends =
    when-ok r (λ done. hart-did act h c found.0 now new notes notes' found.1 found.2 done) (blade-acted act inside now new i c blade after sent notes notes' r at did sends)

pub shape-acted : {A E : Type 0} (inside now new : RackView) (i c : ℕ) (blade after : BladeView) (sent : List Msg) (r : Result A E) → IsAtPlace inside now i c blade → StaysBlade blade after
    → (IsNet inside.net → IsNet new.net) → IsShaped now → OnOk r (SentUp inside i c after sent new) → OnOk r (IsShaped new)
shape-acted inside now new i c blade after sent r at keeps net shape sends =
    when-ok r (λ done. shape-went c blade after sent now new (went inside now new i c blade after sent at done) keeps (net (subst (λ (x : RackView). IsNet x.net) (sym at.view) shape.net)) shape) sends

-- ---- a hart is let act

pub acted-acts : (act : HartAct) (images : List Image) (h : ℕ) (blade : BladeView) → IfSome (hart_acted act images h blade) (IsActions blade)
acted-acts Step images h blade = step_acts images h blade
acted-acts Drain images h blade = drain_acts h blade

acted-leads : (act : HartAct) (images : List Image) (h : ℕ) (old new : RackView) (noted : List Note) → HartDoes (slice_get old.plan.threads h) (hart_acted act images h) old new noted
    → Leads images (hart_event act h) old new noted
acted-leads Step images h old new noted does = does
acted-leads Drain images h old new noted does = does

pub act-leads : {A E : Type 0} (act : HartAct) (images : List Image) (h : ℕ) (old new : RackView) (notes notes' : List Note) (r : Result A E)
    → OnOk r (Notes (HartDoes (slice_get old.plan.threads h) (hart_acted act images h) old new) notes notes') → OnOk r (Notes (Leads images (hart_event act h) old new) notes notes')
act-leads act images h old new notes notes' r = when-ok r (λ done. (done.0, acted-leads act images h old new done.0 done.1, done.2))
