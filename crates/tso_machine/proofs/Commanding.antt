-- What the code carries out of a command, and the state that the command leads to.
use Rattle.std.proofs.Common.{◌≡◌, ℕ, ◌∙◌, ap, sym, refl, subst, Bool, true, false, ◌==◌, List, [], ◌∷◌, ◌++◌, Option, Some, None, if◌then◌else◌}
use Rattle.std.specs.List.{slice_get}
use Rattle.std.specs.Option.{option_and_then}
use Rattle.std.proofs.Math.Path.{fun_ext}
use Rattle.control_plane.specs.Outcome.{setting_of, permissions_with, permissions_after, outcome_of}
use Rattle.flat_memory.specs.FlatMemory.{byte_in, zeroed}
use Rattle.mind_base.specs.Page.{PageView}
use Rattle.mind_base.specs.Span.{SpanView, in_span}
use Rattle.mind_base.specs.Permission.{permission_from, permission_of}
use Rattle.mind_base.specs.declared.commands.Perm.{Perm}
use Rattle.mind_base.specs.declared.commands.Perm.TheVariants.{No}
use Rattle.mind_base.specs.declared.commands.Command.{Command}
use Rattle.mind_base.specs.declared.commands.Command.TheVariants.{Map, Unmap, Protect, Migrate}
use Rattle.mind_base.specs.declared.commands.Outcome.{Outcome}
use Rattle.mind_base.specs.declared.plans.MapPlan.{MapPlan}
use Rattle.protect_table.specs.Protect.{permission_at}
use Rattle.tso_machine.specs.State.{State, Write, Zeros, Taken}
use Rattle.tso_machine.specs.Memory.{byte_of}
use Rattle.tso_machine.specs.Commands.{next_command, is_held_up, threads_after, writes_after, perms_with, perms_after, is_fine, taken_as, outcome_in_state, taken_unless_held_up, after_command}
use Rattle.tso_machine.specs.Queue.{CommandQueueView, command_if_next, bytes_after}
use Rattle.tso_machine.specs.Machine.{MachineView, StandsFor, StepLeadsTo}
use Rattle.tso_machine.proofs.Writing.{byte_from-append}

-- ---- one record more

permission_from-append : (perm : Perm) (xs ys : List MapPlan) (page : PageView) → permission_from perm (xs ++ ys) page ≡ permission_from (permission_from perm xs page) ys page
permission_from-append perm [] ys page = refl
permission_from-append perm (x ∷ xs) ys page = permission_from-append (if in_span x.span page then x.perm else perm) xs ys page

perms-with : (setting : Option MapPlan) (perms : List MapPlan) → permissions_with setting (permission_of perms) ≡ permission_of (perms_with setting perms)
perms-with None perms = refl
perms-with (Some setting) perms = fun_ext (λ page. sym (permission_from-append No perms (setting ∷ []) page))

zeroed-is : (writes : List Write) (span : SpanView) → zeroed (byte_of writes) span ≡ byte_of (writes ++ Zeros span ∷ [])
zeroed-is writes span = fun_ext (λ d. fun_ext (λ a. sym (byte_from-append 0 writes (Zeros span ∷ []) d a)))

bytes-is : (command : Command) (writes : List Write) → bytes_after command (byte_of writes) ≡ byte_of (writes_after command writes)
bytes-is (Map span perm) writes = zeroed-is writes span
bytes-is (Unmap span) writes = refl
bytes-is (Protect span perm) writes = refl
bytes-is (Migrate range memory) writes = refl

-- where it ended fine or did not
perms-by : (fine : Bool) (command : Command) (perms : List MapPlan)
    → (if fine then permissions_after command (permission_of perms) else permission_of perms) ≡ permission_of (if fine then perms_after command perms else perms)
perms-by true command perms = perms-with (setting_of command) perms
perms-by false command perms = refl

bytes-by : (fine : Bool) (command : Command) (writes : List Write)
    → (if fine then bytes_after command (byte_of writes) else byte_of writes) ≡ byte_of (if fine then writes_after command writes else writes)
bytes-by true command writes = bytes-is command writes
bytes-by false command writes = refl

-- ---- the state that a command leads to

-- what the code does of a command that ends so
pub record Takes (old new : MachineView) (command : Command) (index : ℕ) (outcome : Outcome) : Type 0 where
  pub outcome_is : outcome ≡ outcome_of command old.setup.plan.memories (permission_at old.perms) old.setup.plan.protect
  pub threads : new.threads ≡ threads_after command old.threads
  pub bytes : byte_in new.memory ≡ (if is_fine outcome then bytes_after command (byte_in old.memory) else byte_in old.memory)
  pub perms : permission_at new.perms ≡ (if is_fine outcome then permissions_after command (permission_at old.perms) else permission_at old.perms)
  pub taken : new.taken ≡ old.taken ++ record { index = index; outcome = outcome } ∷ []

takes-stands : (old new : MachineView) (s : State) (command : Command) (index : ℕ) (outcome : Outcome) → Takes old new command index outcome → StandsFor old s
    → StandsFor new (taken_as command index outcome s)
takes-stands old new s command index outcome t stands = record {
  threads = t.threads ∙ ap (threads_after command) stands.threads;
  bytes = t.bytes ∙ ap (λ b. if is_fine outcome then bytes_after command b else b) stands.bytes ∙ bytes-by (is_fine outcome) command s.writes;
  perms = t.perms ∙ ap (λ p. if is_fine outcome then permissions_after command p else p) stands.perms ∙ perms-by (is_fine outcome) command s.perms;
  taken = t.taken ∙ ap (λ ts. ts ++ record { index = index; outcome = outcome } ∷ []) stands.taken;
}

outcome-is : (old new : MachineView) (s : State) (command : Command) (index : ℕ) (outcome : Outcome) → Takes old new command index outcome → StandsFor old s
    → outcome ≡ outcome_in_state old.setup s command
outcome-is old new s command index outcome t stands = t.outcome_is ∙ ap (λ p. outcome_of command old.setup.plan.memories p old.setup.plan.protect) stands.perms

-- the machine's queue
abbrev pub queue_of : MachineView → CommandQueueView
queue_of machine = record { commands = machine.setup.commands; taken = machine.taken }

-- what is known where a command is next, or none is
next-found : (next : Option ℕ) (commands : List Command) (index : ℕ) (command : Command) (f : Command → Option State)
    → Some command ≡ option_and_then (λ n. if n == index then slice_get commands index else None) next
    → option_and_then (λ n. if n == index then option_and_then f (slice_get commands index) else None) next ≡ f command
next-found None commands index command f e = absurd (cc)
next-found (Some n) commands index command f e = by (n == index) e where
  by : (b : Bool) → Some command ≡ (if b then slice_get commands index else None) → (if b then option_and_then f (slice_get commands index) else None) ≡ f command
  by true h = rw (← h) refl
  by false h = absurd (cc)

next-none : (next : Option ℕ) (commands : List Command) (index : ℕ) (f : Command → Option State)
    → None ≡ option_and_then (λ n. if n == index then slice_get commands index else None) next
    → option_and_then (λ n. if n == index then option_and_then f (slice_get commands index) else None) next ≡ None
next-none None commands index f e = refl
next-none (Some n) commands index f e = by (n == index) e where
  by : (b : Bool) → None ≡ (if b then slice_get commands index else None) → (if b then option_and_then f (slice_get commands index) else None) ≡ None
  by true h = rw (← h) refl
  by false h = refl

-- a command that is not next leads nowhere
pub no-command : (old : MachineView) (s : State) (index : ℕ) → None ≡ command_if_next (queue_of old) index → StandsFor old s
    → StepLeadsTo false old old (after_command old.setup s index)
no-command old s index e stands =
    let P : Option State → Type 0 = λ o. StepLeadsTo false old old o in
    let Q : List Taken → Type 0 = λ ts. None ≡ command_if_next (record { commands = old.setup.commands; taken = ts }) index in
    subst P (sym (next-none (next_command old.setup.commands s.taken) old.setup.commands index (taken_unless_held_up old.setup s index) (subst Q stands.taken e))) (refl, refl)

-- by whether a buffered store holds up the command that is next
command-by : (old new : MachineView) (s : State) (index : ℕ) (command : Command) (done : Bool) → Some command ≡ command_if_next (queue_of old) index → StandsFor old s
    → StepLeadsTo done old new (taken_unless_held_up old.setup s index command) → StepLeadsTo done old new (after_command old.setup s index)
command-by old new s index command done e stands leads =
    let P : Option State → Type 0 = λ o. StepLeadsTo done old new o in
    let Q : List Taken → Type 0 = λ ts. Some command ≡ command_if_next (record { commands = old.setup.commands; taken = ts }) index in
    subst P (sym (next-found (next_command old.setup.commands s.taken) old.setup.commands index command (taken_unless_held_up old.setup s index) (subst Q stands.taken e))) leads

pub held-up : (old : MachineView) (s : State) (index : ℕ) (command : Command) → Some command ≡ command_if_next (queue_of old) index
    → is_held_up command old.setup.plan.threads old.threads ≡ true → StandsFor old s → StepLeadsTo false old old (after_command old.setup s index)
held-up old s index command e waits stands =
    let w : is_held_up command old.setup.plan.threads s.threads ≡ true = ap (is_held_up command old.setup.plan.threads) (sym stands.threads) ∙ waits in
    let P : Bool → Type 0 = λ b. StepLeadsTo false old old (if b then None else Some (taken_as command index (outcome_in_state old.setup s command) s)) in
    command-by old old s index command false e stands (subst P (sym w) (refl, refl))

pub command-leads : (old new : MachineView) (s : State) (index : ℕ) (command : Command) (outcome : Outcome) → Some command ≡ command_if_next (queue_of old) index
    → is_held_up command old.setup.plan.threads old.threads ≡ false → Takes old new command index outcome → StandsFor old s
    → StepLeadsTo true old new (after_command old.setup s index)
command-leads old new s index command outcome e free takes stands =
    let w : is_held_up command old.setup.plan.threads s.threads ≡ false = ap (is_held_up command old.setup.plan.threads) (sym stands.threads) ∙ free in
    let P : Bool → Type 0 = λ b. StepLeadsTo true old new (if b then None else Some (taken_as command index (outcome_in_state old.setup s command) s)) in
    let Q : Outcome → Type 0 = λ o. StandsFor new (taken_as command index o s) in
    command-by old new s index command true e stands
    (subst P (sym w) (refl, subst Q (outcome-is old new s command index outcome takes stands) (takes-stands old new s command index outcome takes stands)))
