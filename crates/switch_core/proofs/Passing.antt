-- What a pass does to a request, in the words of the definitions.
use Rattle.std.proofs.Common.{◌≡◌, ◌≢◌, ℕ, ◌+◌, ◌<◌, ◌≤◌, Bool, true, false, cond, ◌&&◌, ◌==◌, Option, Some, None, List, [], ◌∷◌, ◌++◌, length, get_or, refl, ap, sym, subst, ◌∙◌, inl, inr, zero, suc, arith, append_assoc}
use Rattle.std.specs.List.{All, AllByRecursion, list_any, remove, slice_get, position}
use Rattle.std.specs.Option.{is_none}
use Rattle.std.proofs.lemmas.Bool.{cases_Bool, false≢true, not-true}
use Rattle.std.proofs.lemmas.List.{append-nil}
use Rattle.std.proofs.lemmas.List.Quantifiers.{position-Some}
use Rattle.std.proofs.lemmas.Option.{get_or_from_slice_get, slice_get_within}
use Rattle.mind_base.specs.Page.{PageView}
use Rattle.mind_base.specs.Range.{InRange, in_range}
use Rattle.mind_base.specs.declared.links.LinkName.{LinkName}
use Rattle.mind_base.specs.declared.notes.Note.{Note}
use Rattle.mind_base.specs.declared.notes.State.{State}
use Rattle.mind_base.specs.declared.notes.State.TheVariants.{I, S, M}
use Rattle.mind_base.specs.declared.plans.RackPlan.{RackPlan}
use Rattle.mind_base.specs.Permission.{allows}
use Rattle.protect_table.specs.Protect.{permission_at}
use Rattle.invalidate_multicast.specs.Blades.{without_blade}
use Rattle.region_directory.specs.Directory.{DirectoryView}
use Rattle.region_directory.specs.Room.{room_of, first_rule, is_unheld, is_droppable, is_evictable}
use Rattle.region_directory.specs.declared.entries.Busy.{Busy}
use Rattle.region_directory.specs.declared.entries.Entry.{Entry}
use Rattle.region_directory.specs.declared.rooms.Room.TheVariants.{Drop, Evict}
use Rattle.region_directory.proofs.Callers.{all-fail}
use Rattle.request_list.specs.declared.requests.Request.{Request}
use Rattle.wire_msg.specs.declared.msgs.Msg.{Msg}
use Rattle.switch_core.specs.Invariant.{IsFitState, IsFitEntry, IsFitRequest, IsSwitch}
use Rattle.switch_core.specs.Sending.{AreFetchesAllowed, IsSendable, Start, Comes, Begins, Stays, KeepsStart, start_at}
use Rattle.switch_core.specs.Standing.{left_to_do, PassTells, InPass, IsTreatable}
use Rattle.switch_core.specs.Switch.{SwitchView, SwitchEffect, and_then}
use Rattle.switch_core.specs.Treating.{Pass, waits, blocks, does, grants, holders, changed_for, invalidated, lowered}
use Rattle.switch_core.specs.declared.stands.Stand.{Stand}
use Rattle.switch_core.proofs.Lists.{all-at, all-append}
use Rattle.switch_core.proofs.Safety.{Safe, safe-invalidated, safe-lowered, less-invalidated, less-lowered}
use Rattle.invalidate_multicast.proofs.Callers.{without-other_power}

-- ---- one thing after another

pub comes-then : (start : Start) (done : SwitchEffect) (change : SwitchView → SwitchEffect) (s s' : SwitchView) (o o' : List (LinkName × Msg)) (n n' : List Note) → Comes start done s o n → Safe s (change s) → s' ≡ (change s).switch → o' ≡ o ++ (change s).sent → n' ≡ n ++ (change s).noted → Comes start (and_then done change) s' o' n'
comes-then start done change s s' o o' n n' h safe e f g = record {
  after = e ∙ ap (λ (x : SwitchView). (change x).switch) h.after;
  sent = f ∙ ap (λ (x : SwitchView). o ++ (change x).sent) h.after ∙ ap (λ (x : List (LinkName × Msg)). x ++ (change done.switch).sent) h.sent ∙ append_assoc start.out done.sent (change done.switch).sent;
  noted = g ∙ ap (λ (x : SwitchView). n ++ (change x).noted) h.after ∙ ap (λ (x : List Note). x ++ (change done.switch).noted) h.noted ∙ append_assoc start.notes done.noted (change done.switch).noted;
  plan = ap (λ (x : SwitchView). x.plan) e ∙ safe.stays.plan ∙ h.plan;
  sendable = λ all. all-append (IsSendable start.switch.plan) done.sent (change done.switch).sent (h.sendable all)
      (subst (λ (x : SwitchView). AllByRecursion (IsSendable start.switch.plan) (change x).sent) h.after
      (subst (λ (p : RackPlan). AllByRecursion (IsSendable p) (change s).sent) h.plan safe.sendable));
  allowed = λ all. subst (λ (x : SwitchView). AreFetchesAllowed x) (sym e) (safe.allowed (h.allowed all));
}

-- a pass that did nothing has as much left to do, and one that did something less
pub tells-most : (changed : Bool) (first : SwitchView) (done : SwitchEffect) → PassTells changed first done → left_to_do done.switch ≤ left_to_do first
tells-most false first done e = let same : left_to_do done.switch ≡ left_to_do first = ap (λ (x : SwitchEffect). left_to_do x.switch) e in omega (arith, same)
tells-most true first done lt = omega (arith, lt)

pub less-on : (start : Start) (pass : Pass) (s : SwitchView) (stand : Stand) (o : List (LinkName × Msg)) (n : List Note) (x : ℕ) → InPass start pass s stand o n → x < left_to_do s → x < left_to_do start.switch
less-on start pass s stand o n x h lt =
    let most : left_to_do pass.done.switch ≤ left_to_do start.switch = tells-most stand.changed start.switch pass.done h.tells in
    let same : left_to_do s ≡ left_to_do pass.done.switch = ap left_to_do h.comes.after in
    omega (arith, most, same, lt)

-- something is done in a pass
pub in-does : (start : Start) (pass : Pass) (change : SwitchView → SwitchEffect) (s s' : SwitchView) (stand : Stand) (o o' : List (LinkName × Msg)) (n n' : List Note) → InPass start pass s stand o n → Safe s (change s) → left_to_do (change s).switch < left_to_do s → s' ≡ (change s).switch → o' ≡ o ++ (change s).sent → n' ≡ n ++ (change s).noted → InPass start (does change pass) s' (record stand { changed = true }) o' n'
in-does start pass change s s' stand o o' n n' h safe less e f g = record {
  comes = comes-then start pass.done change s s' o o' n n' h.comes safe e f g;
  at = h.at;
  blocked = h.blocked;
  tells = subst (λ (x : SwitchView). left_to_do (change x).switch < left_to_do start.switch) h.comes.after (less-on start pass s stand o n (left_to_do (change s).switch) h less);
}

pub in-waits : (start : Start) (pass : Pass) (s : SwitchView) (stand : Stand) (o : List (LinkName × Msg)) (n : List Note) → InPass start pass s stand o n → InPass start (waits pass) s (record stand { at = stand.at + 1 }) o n
in-waits start pass s stand o n h = record { comes = h.comes; at = ap (λ k. k + 1) h.at; blocked = h.blocked; tells = h.tells }

pub in-blocks : (start : Start) (pass : Pass) (s : SwitchView) (stand : Stand) (o : List (LinkName × Msg)) (n : List Note) → InPass start pass s stand o n → InPass start (blocks pass) s (record stand { at = stand.at + 1; blocked = true }) o n
in-blocks start pass s stand o n h = record { comes = h.comes; at = ap (λ k. k + 1) h.at; blocked = refl; tells = h.tells }

-- ---- what stays

pub keeps-done : (s s' : SwitchView) (e : SwitchEffect) (o o' : List (LinkName × Msg)) (n n' : List Note) → Safe s e → s' ≡ e.switch → o' ≡ o ++ e.sent → n' ≡ n ++ e.noted → KeepsStart (start_at s o n) s' o' n'
keeps-done s s' e o o' n n' safe p q r = record {
  stays = subst (λ (x : SwitchView). Stays s x) (sym p) safe.stays;
  sent = (e.sent, q);
  noted = (e.noted, r);
}

pub begins-then : {A : Type 0} (a b c : List A) → Begins a b → Begins b c → Begins a c
begins-then a b c h k = (h.0 ++ k.0, k.1 ∙ ap (λ x. x ++ k.0) h.1 ∙ append_assoc a h.0 k.0)

pub keeps-then : (s s1 s2 : SwitchView) (o o1 o2 : List (LinkName × Msg)) (n n1 n2 : List Note) → KeepsStart (start_at s o n) s1 o1 n1 → KeepsStart (start_at s1 o1 n1) s2 o2 n2 → KeepsStart (start_at s o n) s2 o2 n2
keeps-then s s1 s2 o o1 o2 n n1 n2 h k = record {
  stays = record {
    plan = k.stays.plan ∙ h.stays.plan;
    slots = k.stays.slots ∙ h.stays.slots;
    numbers = omega (arith, h.stays.numbers, k.stays.numbers);
  };
  sent = begins-then o o1 o2 h.sent k.sent;
  noted = begins-then n n1 n2 h.noted k.noted;
}

-- ---- a transition for a request

-- where a state does not grant what is asked, another blade holds pages
pub others : (write : Bool) (blade : ℕ) (state : State) → grants write blade state ≡ false → without_blade (holders state) blade ≢ 0
others false blade I f = absurd (false≢true (sym f))
others true blade I f = absurd (false≢true (sym f))
others false blade (S sharers) f = absurd (false≢true (sym f))
others true blade (S sharers) f = λ e. absurd (false≢true (sym f ∙ ap (λ k. k == 0) e))
others false blade (M owner) f = without-other_power owner blade (owner-other owner blade f)
  where
    owner-other : (a b : ℕ) → (a == b) ≡ false → a ≢ b
    owner-other a b g = grind arith
others true blade (M owner) f = without-other_power owner blade (owner-other owner blade f)
  where
    owner-other : (a b : ℕ) → (a == b) ≡ false → a ≢ b
    owner-other a b g = grind arith

pub safe-changed : (s : SwitchView) (r : Request) (at i : ℕ) (entry : Entry) (state : State) → entry.state ≡ state → IsSwitch s → slice_get s.requests at ≡ Some r → slice_get s.directory.entries i ≡ Some entry → entry.busy ≡ None → InRange entry.range r.page → grants r.write r.blade state ≡ false → Safe s (changed_for r state i entry s)
safe-changed s r at i entry I e h place found idle has f = absurd (grants-I r.write r.blade f)
  where
    grants-I : (write : Bool) (blade : ℕ) → grants write blade I ≡ false → ⊥
    grants-I false blade g = false≢true (sym g)
    grants-I true blade g = false≢true (sym g)
safe-changed s r at i entry (S sharers) e h place found idle has f = safe-invalidated s r at i entry h place found idle has
    (subst (λ (x : State). without_blade (holders x) r.blade ≢ 0) (sym e) (others r.write r.blade (S sharers) f))
safe-changed s r at i entry (M owner) e h place found idle has f =
    let chosen = λ (b : Bool). Safe s (cond b (invalidated r i entry s) (lowered r owner i entry s)) in
    let n = length s.plan.frames in
    let fit : IsFitState n entry.state = (all-at (IsFitEntry n) s.directory.entries i entry h.entries found).state in
    let lt : owner < n = subst (λ (x : State). IsFitState n x) e fit in
    let some = subst (λ (x : State). without_blade (holders x) r.blade ≢ 0) (sym e) (others r.write r.blade (M owner) f) in
    elim (cases_Bool r.write) [
      | inl t ↦ subst chosen (sym t) (safe-invalidated s r at i entry h place found idle has some)
      | inr g ↦ subst chosen (sym g) (safe-lowered s r owner i entry h found idle lt has)
    ]

pub less-changed : (s : SwitchView) (r : Request) (i : ℕ) (entry : Entry) (state : State) → slice_get s.directory.entries i ≡ Some entry → entry.busy ≡ None → grants r.write r.blade state ≡ false → left_to_do (changed_for r state i entry s).switch < left_to_do s
less-changed s r i entry I found idle f = absurd (grants-I r.write r.blade f)
  where
    grants-I : (write : Bool) (blade : ℕ) → grants write blade I ≡ false → ⊥
    grants-I false blade g = false≢true (sym g)
    grants-I true blade g = false≢true (sym g)
less-changed s r i entry (S sharers) found idle f = less-invalidated s r i entry found idle
less-changed s r i entry (M owner) found idle f =
    let chosen = λ (b : Bool). left_to_do (cond b (invalidated r i entry s) (lowered r owner i entry s)).switch < left_to_do s in
    elim (cases_Bool r.write) [
      | inl t ↦ subst chosen (sym t) (less-invalidated s r i entry found idle)
      | inr g ↦ subst chosen (sym g) (less-lowered s r owner i entry found idle)
    ]

-- ---- room

pub none-of : (b : Option Busy) → is_none b ≡ true → b ≡ None
none-of None e = refl
none-of (Some x) e = absurd (false≢true e)

both : (a b : Bool) → a && b ≡ true → (a ≡ true) × (b ≡ true)
both true b e = (refl, e)
both false b e = absurd (false≢true e)

unheld-not : (state : State) → (state ≢ I → ⊥) → state ≡ I
unheld-not I h = refl
unheld-not (S sharers) h = absurd (h (λ e. absurd (cc)))
unheld-not (M owner) h = absurd (h (λ e. absurd (cc)))

first-drop : (o : Option ℕ) (b : Bool) (v : Option ℕ) (i : ℕ) → first_rule o b v ≡ Drop i → o ≡ Some i
first-drop (Some k) b v i e = (cc)
first-drop None true v i e = absurd (cc)
first-drop None false (Some k) i e = absurd (cc)
first-drop None false None i e = absurd (cc)

first-evict : (o : Option ℕ) (b : Bool) (v : Option ℕ) (i : ℕ) → first_rule o b v ≡ Evict i → (o ≡ None) × (v ≡ Some i)
first-evict (Some k) b v i e = absurd (cc)
first-evict None true v i e = absurd (cc)
first-evict None false (Some k) i e = (refl, cc)
first-evict None false None i e = absurd (cc)

pub passed : (p : Entry → Bool) (es : List Entry) (i : ℕ) (e : Entry) → position p es ≡ Some i → slice_get es i ≡ Some e → p e ≡ true
passed p es i e found at = ap p (sym (get_or_from_slice_get es i e e at)) ∙ (position-Some p es i e found).1

-- the entry that is dropped has no transition
pub dropped-idle : (d : DirectoryView) (pages : List PageView) (i : ℕ) (e : Entry) → room_of d pages ≡ Drop i → slice_get d.entries i ≡ Some e → e.busy ≡ None
dropped-idle d pages i e h at =
    let es : List Entry = d.entries in
    let first : position is_droppable es ≡ Some i = first-drop _ _ _ i h in
    let test : is_droppable e ≡ true = passed is_droppable es i e first at in
    none-of e.busy (both _ (is_none e.busy) test).1

-- and is in I
pub dropped-unheld : (d : DirectoryView) (pages : List PageView) (i : ℕ) (e : Entry) → room_of d pages ≡ Drop i → slice_get d.entries i ≡ Some e → e.state ≡ I
dropped-unheld d pages i e h at = unheld-so e.state (both (is_unheld e.state) _ (passed is_droppable d.entries i e (first-drop _ _ _ i h) at)).0 where
  unheld-so : (state : State) → is_unheld state ≡ true → state ≡ I
  unheld-so I t = refl
  unheld-so (S sharers) t = absurd (false≢true t)
  unheld-so (M owner) t = absurd (false≢true t)

-- the entry that is taken from its holders has no transition, no page of it is fetched, and it is not in I
pub evicted-idle : (d : DirectoryView) (pages : List PageView) (i : ℕ) (e : Entry) → room_of d pages ≡ Evict i → slice_get d.entries i ≡ Some e → e.busy ≡ None
evicted-idle d pages i e h at =
    let es : List Entry = d.entries in
    let first : position (is_evictable pages) es ≡ Some i = (first-evict _ _ _ i h).1 in
    let test : is_evictable pages e ≡ true = passed (is_evictable pages) es i e first at in
    none-of e.busy (both (is_none e.busy) _ test).0

pub evicted-free : (d : DirectoryView) (pages : List PageView) (i : ℕ) (e : Entry) → room_of d pages ≡ Evict i → slice_get d.entries i ≡ Some e → list_any (in_range e.range) pages ≡ false
evicted-free d pages i e h at = not-true (list_any (in_range e.range) pages) (both (is_none e.busy) _ (passed (is_evictable pages) d.entries i e (first-evict _ _ _ i h).1 at)).1

droppable-I : (e : Entry) → e.state ≡ I → e.busy ≡ None → is_droppable e ≡ true
droppable-I e s b =
    ap (λ (x : State). is_unheld x && is_none e.busy) s ∙ ap (λ (x : Option Busy). true && is_none x) b

pub evicted-held : (d : DirectoryView) (pages : List PageView) (i : ℕ) (e : Entry) → room_of d pages ≡ Evict i → slice_get d.entries i ≡ Some e → e.state ≢ I
evicted-held d pages i e h at =
    let es : List Entry = d.entries in
    let none : position is_droppable es ≡ None = (first-evict _ _ _ i h).0 in
    let fails : is_droppable (get_or es i e) ≡ false = all-fail is_droppable es none i e (slice_get_within es i e at) in
    let here : is_droppable e ≡ false = ap is_droppable (sym (get_or_from_slice_get es i e e at)) ∙ fails in
    λ s. absurd (false≢true (sym here ∙ droppable-I e s (evicted-idle d pages i e h at)))

pub all-left : (P : Entry → Type 0) (es : List Entry) (i : ℕ) → All P es → All P (remove es i)
all-left P [] zero h k d lt = absurd (omega arith)
all-left P [] (suc i) h k d lt = absurd (omega arith)
all-left P (e ∷ es) zero h k d lt = h (suc k) d (omega arith)
all-left P (e ∷ es) (suc i) h zero d lt = h 0 d (omega arith)
all-left P (e ∷ es) (suc i) h (suc k) d lt = all-left P es i (λ j x l. h (suc j) x (omega arith)) k d (omega arith)

-- a request that waits, and that the permissions allow, may be treated
pub treatable : {v s : SwitchView} (stand : Stand) (r : Request) → v ≡ s → AllByRecursion (IsFitRequest (length v.plan.frames)) v.requests → stand.at < 4294967295 → slice_get s.requests stand.at ≡ Some r → r.fetching ≡ false
    → allows r.write (permission_at v.protect r.page) ≡ true → IsTreatable s stand r
treatable {v} {s} stand r same fit at place waits allowed =
    let there : slice_get v.requests stand.at ≡ Some r = subst (λ (x : SwitchView). slice_get x.requests stand.at ≡ Some r) (sym same) place in
    subst (λ (x : SwitchView). IsTreatable x stand r) same (record {
      at = at;
      place = there;
      blade = (all-at (IsFitRequest (length v.plan.frames)) v.requests stand.at r fit there).blade;
      waits = waits;
      allowed = allowed;
    })

-- a transition that begins makes no note
pub no-note : (s : SwitchView) (r : Request) (i : ℕ) (entry : Entry) (state : State) (n : List Note) → n ≡ n ++ (changed_for r state i entry s).noted
no-note s r i entry I n = sym (append-nil n)
no-note s r i entry (S sharers) n = sym (append-nil n)
no-note s r i entry (M owner) n =
    let chosen = λ (b : Bool). n ≡ n ++ (cond b (invalidated r i entry s) (lowered r owner i entry s)).noted in
    elim (cases_Bool r.write) [
      | inl t ↦ subst chosen (sym t) (sym (append-nil n))
      | inr f ↦ subst chosen (sym f) (sym (append-nil n))
    ]

pub keeps-same : (s s' : SwitchView) (o o' : List (LinkName × Msg)) (n n' : List Note) → s' ≡ s → Begins o o' → Begins n n' → KeepsStart (start_at s o n) s' o' n'
keeps-same s s' o o' n n' e f g = record {
  stays = subst (λ (x : SwitchView). Stays s x) (sym e) (record { plan = refl; slots = refl; numbers = refl });
  sent = f;
  noted = g;
}
