-- What the code carries out of a deed, and the state that the deed leads to.
use Rattle.std.proofs.Common.{◌≡◌, ℕ, ◌∙◌, ap, sym, refl, subst, Bool, List, ◌<◌, length, get_or, Option, Some, None}
use Rattle.std.specs.List.{slice_get, slice_set}
use Rattle.std.specs.Option.{option_and_then, option_map}
use Rattle.std.proofs.lemmas.List.{set-get_or}
use Rattle.std.proofs.lemmas.Option.{slice_get_read}
use Rattle.flat_memory.specs.FlatMemory.{MemoryView, byte_in}
use Rattle.mind_base.specs.declared.images.Image.{Image}
use Rattle.mind_base.specs.declared.plans.ThreadPlan.{ThreadPlan}
use Rattle.protect_table.specs.Protect.{permission_at}
use Rattle.hart_effect.specs.Thread.{Thread}
use Rattle.tso_machine.specs.State.{State}
use Rattle.mind_base.specs.Place.{place_of, granule_at}
use Rattle.tso_machine.specs.Memory.{byte_of}
use Rattle.hart_effect.specs.Access.{Around}
use Rattle.hart_effect.specs.Deed.{Deed, Alone, Storing, executed, drain_deed}
use Rattle.tso_machine.specs.Done.{ThreadDoes, EndsReservations}
use Rattle.tso_machine.specs.Step.{threads_off, around_in, done_by, after_exec, after_drain}
use Rattle.tso_machine.specs.Machine.{MachineView, StandsFor, StepLeadsTo, CarriesOut, around_at}
use Rattle.tso_machine.specs.declared.deeds.Done.{Done}
use Rattle.tso_machine.specs.Storing.{stored_by}
use Rattle.tso_machine.proofs.Writing.{stored-is}

-- thread hart did its deed, and what it did is settled
pub carried : (answer : Done) (result : Bool) (hart domain : ℕ) (threads new : List Thread) (old thread : Thread) (m m' : MemoryView) (o : Option Deed)
    → get_or threads hart old ≡ old → ThreadDoes answer domain old m thread m' o → EndsReservations result domain answer (slice_set threads hart thread) new
    → CarriesOut result hart domain threads m new m' o
carried answer result hart domain threads new old thread m m' None is does settled =
    let P : Done → Type 0 = λ d. EndsReservations result domain d (slice_set threads hart thread) new in
    let s = subst P does.0 settled in
    (s.0, s.1 ∙ ap (λ t. slice_set threads hart t) (does.1 ∙ sym is) ∙ set-get_or threads hart old, does.2)
carried answer result hart domain threads new old thread m m' (Some (Alone t)) is does settled =
    let P : Done → Type 0 = λ d. EndsReservations result domain d (slice_set threads hart thread) new in
    let s = subst P does.0 settled in
    (s.0, s.1 ∙ ap (λ x. slice_set threads hart x) does.1, does.2)
carried answer result hart domain threads new old thread m m' (Some (Storing t store)) is does settled =
    let P : Done → Type 0 = λ d. EndsReservations result domain d (slice_set threads hart thread) new in
    let s = subst P does.0 settled in
    (s.0, s.1 ∙ ap (λ x. threads_off (granule_at (place_of domain store.address)) (slice_set threads hart x)) does.1, does.2)

-- the same for what a thread that is there may do
pub carried-at : (f : Thread → Option Deed) (answer : Done) (result : Bool) (i hart domain : ℕ) (threads new : List Thread) (old thread : Thread) (m m' : MemoryView)
    → i ≡ hart → i < length threads → old ≡ get_or threads i old → ThreadDoes answer domain old m thread m' (f old)
    → EndsReservations result domain answer (slice_set threads i thread) new
    → CarriesOut result hart domain threads m new m' (option_and_then f (slice_get threads hart))
carried-at f answer result i hart domain threads new old thread m m' at within is does settled =
    let P : ℕ → Type 0 = λ h. CarriesOut result h domain threads m new m' (option_and_then f (slice_get threads h)) in
    let Q : Option Thread → Type 0 = λ o. CarriesOut result i domain threads m new m' (option_and_then f o) in
    subst P at (subst Q (sym (slice_get_read threads (length threads) i old refl within is)) (carried answer result i domain threads new old thread m m' (f old) (sym is) does settled))

-- ---- the state that a deed leads to

-- a machine with the same plan, permissions and taken commands
pub record Same (old new : MachineView) : Type 0 where
  pub setup : new.setup ≡ old.setup
  pub perms : new.perms ≡ old.perms
  pub taken : new.taken ≡ old.taken

same-machine : (old new : MachineView) → Same old new → new.threads ≡ old.threads → new.memory ≡ old.memory → new ≡ old
same-machine old new same threads memory =
    ap (λ s. record { setup = s; threads = new.threads; memory = new.memory; perms = new.perms; taken = new.taken }) same.setup
    ∙ ap (λ t. record { setup = old.setup; threads = t; memory = new.memory; perms = new.perms; taken = new.taken }) threads
    ∙ ap (λ m. record { setup = old.setup; threads = old.threads; memory = m; perms = new.perms; taken = new.taken }) memory
    ∙ ap (λ p. record { setup = old.setup; threads = old.threads; memory = old.memory; perms = p; taken = new.taken }) same.perms
    ∙ ap (λ k. record { setup = old.setup; threads = old.threads; memory = old.memory; perms = old.perms; taken = k }) same.taken

pub leads-deed : (old new : MachineView) (s : State) (hart domain : ℕ) (result : Bool) (o : Option Deed) → Same old new → StandsFor old s
    → CarriesOut result hart domain old.threads old.memory new.threads new.memory o → StepLeadsTo result old new (option_map (done_by hart domain s) o)
leads-deed old new s hart domain result None same stands c = (c.0, same-machine old new same c.1 c.2)
leads-deed old new s hart domain result (Some (Alone t)) same stands c = (
  c.0,
  record {
    threads = c.1 ∙ ap (λ ts. slice_set ts hart t) stands.threads;
    bytes = ap byte_in c.2 ∙ stands.bytes;
    perms = ap permission_at same.perms ∙ stands.perms;
    taken = same.taken ∙ stands.taken;
  },
)
leads-deed old new s hart domain result (Some (Storing t store)) same stands c = (
  c.0,
  record {
    threads = c.1 ∙ ap (λ ts. threads_off (granule_at (place_of domain store.address)) (slice_set ts hart t)) stands.threads;
    bytes = c.2 ∙ ap (λ b. stored_by b domain store) stands.bytes ∙ stored-is s.writes domain store;
    perms = ap permission_at same.perms ∙ stands.perms;
    taken = same.taken ∙ stands.taken;
  },
)

-- what the deed looks at may be seen first
map-behind : {A B C : Type 0} (f : A → Option B) (g : B → C) (o : Option A) → option_map g (option_and_then f o) ≡ option_and_then (λ a. option_map g (f a)) o
map-behind f g None = refl
map-behind f g (Some a) = refl

around-is : (old : MachineView) (s : State) (hart domain : ℕ) → StandsFor old s → around_at hart domain old.memory old.perms ≡ around_in s hart domain
around-is old s hart domain stands =
    ap (λ b. record { hart = hart; domain = domain; byte = b; perm = permission_at old.perms }) stands.bytes
    ∙ ap (λ p. record { hart = hart; domain = domain; byte = byte_of s.writes; perm = p }) stands.perms

pub exec-leads : (old new : MachineView) (s : State) (hart : ℕ) (result : Bool) (plan : ThreadPlan) (image : Image)
    → slice_get old.setup.plan.threads hart ≡ Some plan → slice_get old.setup.images plan.image ≡ Some image
    → CarriesOut result hart plan.domain old.threads old.memory new.threads new.memory
    (option_and_then (λ thread. executed image (around_at hart plan.domain old.memory old.perms) thread) (slice_get old.threads hart))
    → Same old new → StandsFor old s → StepLeadsTo result old new (after_exec old.setup s hart)
exec-leads old new s hart result plan image at there c same stands =
    let P : Around → List Thread → Type 0 = λ around threads. StepLeadsTo result old new (option_map (done_by hart plan.domain s) (option_and_then (λ thread. executed image around thread) (slice_get threads hart))) in
    let leads : P (around_at hart plan.domain old.memory old.perms) old.threads = leads-deed old new s hart plan.domain result _ same stands c in
    let here : P (around_in s hart plan.domain) s.threads =
    subst (λ ts. P (around_in s hart plan.domain) ts) stands.threads (subst (λ a. P a old.threads) (around-is old s hart plan.domain stands) leads) in
    let f : Thread → Option State = λ thread. option_map (done_by hart plan.domain s) (executed image (around_in s hart plan.domain) thread) in
    let Q : Option State → Type 0 = λ o. StepLeadsTo result old new o in
    let inside : Q (option_and_then f (slice_get s.threads hart)) = subst Q (map-behind (λ thread. executed image (around_in s hart plan.domain) thread) (done_by hart plan.domain s) (slice_get s.threads hart)) here in
    let g : ThreadPlan → Image → Option State = λ p i. option_and_then (λ thread. option_map (done_by hart p.domain s) (executed i (around_in s hart p.domain) thread)) (slice_get s.threads hart) in
    let R : Option Image → Type 0 = λ o. Q (option_and_then (g plan) o) in
    let S : Option ThreadPlan → Type 0 = λ o. Q (option_and_then (λ p. option_and_then (g p) (slice_get old.setup.images p.image)) o) in
    subst S (sym at) (subst R (sym there) inside)

pub drain-leads : (old new : MachineView) (s : State) (hart : ℕ) (result : Bool) (plan : ThreadPlan)
    → slice_get old.setup.plan.threads hart ≡ Some plan
    → CarriesOut result hart plan.domain old.threads old.memory new.threads new.memory (option_and_then drain_deed (slice_get old.threads hart))
    → Same old new → StandsFor old s → StepLeadsTo result old new (after_drain old.setup s hart)
drain-leads old new s hart result plan at c same stands =
    let P : List Thread → Type 0 = λ threads. StepLeadsTo result old new (option_map (done_by hart plan.domain s) (option_and_then drain_deed (slice_get threads hart))) in
    let leads : P s.threads = subst P stands.threads (leads-deed old new s hart plan.domain result _ same stands c) in
    let Q : Option State → Type 0 = λ o. StepLeadsTo result old new o in
    let inside : Q (option_and_then (λ thread. option_map (done_by hart plan.domain s) (drain_deed thread)) (slice_get s.threads hart)) =
    subst Q (map-behind drain_deed (done_by hart plan.domain s) (slice_get s.threads hart)) leads in
    let S : Option ThreadPlan → Type 0 = λ o. Q (option_and_then (λ p. option_and_then (λ thread. option_map (done_by hart p.domain s) (drain_deed thread)) (slice_get s.threads hart)) o) in
    subst S (sym at) inside

-- what a list has at a place that the code read
pub found-at : {X : Type 0} (xs ys : List X) (i n : ℕ) (x : X) → xs ≡ ys → i ≡ n → i < length xs → x ≡ get_or xs i x → slice_get ys n ≡ Some x
found-at xs ys i n x same at within is = ap (λ l. slice_get l n) (sym same) ∙ ap (slice_get xs) (sym at) ∙ slice_get_read xs (length xs) i x refl within is
