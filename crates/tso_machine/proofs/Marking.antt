-- The commands that were taken, as the outcomes of the queue say it.
use Rattle.std.proofs.Common.{◌≡◌, ℕ, zero, suc, ◌+◌, ◌<◌, ◌≤◌, ◌∙◌, ap, sym, refl, subst, Bool, true, false, ◌==◌, ◌&&◌, not, List, [], ◌∷◌, ◌++◌, length, get_or, take, drop, Option, Some, None, is_some, IfSome, IsSomeAnd, arith, add-zero, if◌then◌else◌}
use Rattle.std.specs.List.{slice_get, slice_set}
use Rattle.std.specs.Option.{option_and_then}
use Rattle.std.proofs.Math.Seq.{drop-cons}
use Rattle.std.proofs.lemmas.Grind.{common_steps}
use Rattle.std.proofs.lemmas.List.{take_more_set, get_or-take, get_or_past, length-set, length-take-le, length-drop}
use Rattle.std.proofs.lemmas.Option.{slice_get_read, get_or_from_slice_get}
use Rattle.control_plane.specs.Outcome.{IsChange}
use Rattle.mind_base.specs.declared.commands.Command.{Command}
use Rattle.mind_base.specs.declared.commands.Outcome.{Outcome}
use Rattle.tso_machine.specs.State.{Taken}
use Rattle.tso_machine.specs.Commands.{is_change, outcome_at, next_from, next_command}
use Rattle.tso_machine.specs.Queue.{taken_commands, AreMarked, IsPassed, StartsWithChange, IsQueue, command_if_next}

-- ---- the outcome of a number

greater : (n k : ℕ) → k < n → (n == k) ≡ false
greater n k lt = grind (arith, common_steps)

less : (n k : ℕ) → n < k → (n == k) ≡ false
less n k lt = grind (arith, common_steps)

same : (n k : ℕ) → n ≡ k → (n == k) ≡ true
same n k e = grind (arith, common_steps)

none-below : (n k : ℕ) (os : List (Option Outcome)) → k < n → outcome_at (taken_commands n os) k ≡ None
none-below n k [] lt = refl
none-below n k (None ∷ os) lt = none-below (suc n) k os (omega arith)
none-below n k (Some o ∷ os) lt = rw (greater n k lt) (none-below (suc n) k os (omega arith))

outcome-from : (n k : ℕ) (os : List (Option Outcome)) → outcome_at (taken_commands n os) (n + k) ≡ get_or os k None
outcome-from n k [] = refl
outcome-from n zero (None ∷ os) = none-below (suc n) (n + 0) os (omega arith)
outcome-from n zero (Some o ∷ os) = rw (same n (n + 0) (omega arith)) refl
outcome-from n (suc k) (None ∷ os) = ap (outcome_at (taken_commands (suc n) os)) (omega arith) ∙ outcome-from (suc n) k os
outcome-from n (suc k) (Some o ∷ os) = rw (less n (n + suc k) (omega arith)) (ap (outcome_at (taken_commands (suc n) os)) (omega arith) ∙ outcome-from (suc n) k os)

-- the outcome of the command with this number
pub outcome-is : (os : List (Option Outcome)) (k : ℕ) → outcome_at (taken_commands 0 os) k ≡ get_or os k None
outcome-is os k = ap (outcome_at (taken_commands 0 os)) (omega arith) ∙ outcome-from 0 k os

-- ---- which command is next

-- the first of these commands has this number
abbrev pub first_number : ℕ → List Command → Option ℕ
first_number n [] = None
first_number n (command ∷ commands) = Some n

kept : (b : Bool) → (b && not b) ≡ false
kept true = refl
kept false = refl

next-from : (T : List Taken) (n : ℕ) (os : List (Option Outcome)) (cs : List Command) → AreMarked os cs → StartsWithChange (drop (length os) cs)
    → ((k : ℕ) → outcome_at T (n + k) ≡ get_or os k None) → next_from n cs T ≡ first_number (n + length os) (drop (length os) cs)
next-from T n [] [] marked stands h = refl
next-from T n [] (c ∷ cs) marked stands h =
    let e : outcome_at T n ≡ None = ap (outcome_at T) (omega arith) ∙ h 0 in
    rw (stands, e) (ap Some (sym (add-zero n)))
next-from T n (o ∷ os) [] marked stands h = absurd marked
next-from T n (o ∷ os) (c ∷ cs) marked stands h =
    let e : outcome_at T n ≡ o = ap (outcome_at T) (omega arith) ∙ h 0 in
    let m = marked.0 in
    let passed : (is_change c && not (is_some (outcome_at T n))) ≡ false = rw (e, ← m) (kept (is_some o)) in
    rw passed (next-from T (suc n) os cs marked.1 stands (λ k. ap (outcome_at T) (omega arith) ∙ h (suc k)) ∙ ap (λ i. first_number i (drop (length os) cs)) (omega arith))

pub next-is : (cs : List Command) (os : List (Option Outcome)) (next : ℕ) → IsQueue cs os next
    → next_command cs (taken_commands 0 (take next os)) ≡ first_number next (drop next cs)
next-is cs os next q =
    let e : length (take next os) ≡ next = length-take-le next os (omega (arith, q.passed.room, q.passed.within)) in
    let P : ℕ → Type 0 = λ n. StartsWithChange (drop n cs) in
    next-from (taken_commands 0 (take next os)) 0 (take next os) cs q.passed.marked (subst P (sym e) q.stands) (λ k. outcome-from 0 k (take next os))
    ∙ ap (λ n. first_number n (drop (length (take next os)) cs)) (let at : 0 + length (take next os) ≡ next = omega (arith, e) in at)
    ∙ ap (λ n. first_number next (drop n cs)) e

known : (n i : ℕ) (cs : List Command) → first_number n cs ≡ Some i → (n ≡ i) × (0 < length cs)
known n i [] e = absurd (cc)
known n i (c ∷ cs) e = (cc, omega arith)

-- where a command is next, the queue stands at it
pub next-known : (cs : List Command) (os : List (Option Outcome)) (next index : ℕ) → IsQueue cs os next
    → next_command cs (taken_commands 0 (take next os)) ≡ Some index → (next ≡ index) × (next < length cs)
next-known cs os next index q e =
    let k = known next index (drop next cs) (sym (next-is cs os next q) ∙ e) in
    (k.0, omega (arith, k.1, length-drop next cs))

-- the command at which the queue stands is next
pub is-next : (cs : List Command) (os : List (Option Outcome)) (next index : ℕ) (command : Command) → IsQueue cs os next → index ≡ next → next < length cs
    → command ≡ get_or cs next command → Some command ≡ command_if_next (record { commands = cs; taken = taken_commands 0 (take next os) }) index
is-next cs os next index command q at within is = rw (next-is cs os next q, drop-cons cs next command within, same next index (sym at), at) (sym (slice_get_read cs (length cs) next command refl within is))

none-at : (cs : List Command) (next index : ℕ) (rest : List Command) → (index ≡ next → length rest ≤ 0)
    → None ≡ option_and_then (λ n. if n == index then slice_get cs index else None) (first_number next rest)
none-at cs next index [] h = refl
none-at cs next index (c ∷ rest) h =
    let other : ¬ (index ≡ next) = λ e. let few : suc (length rest) ≤ 0 = h e in omega arith in
    let e : (next == index) ≡ false = grind (arith, common_steps) in rw e refl

-- no other is
pub not-next : (cs : List Command) (os : List (Option Outcome)) (next index : ℕ) → IsQueue cs os next → (index ≡ next → length cs ≤ next)
    → None ≡ command_if_next (record { commands = cs; taken = taken_commands 0 (take next os) }) index
not-next cs os next index q h = rw (next-is cs os next q) (none-at cs next index (drop next cs) (λ e. omega (arith, length-drop next cs, h e)))

-- and it is a change
pub next-changes : (cs : List Command) (os : List (Option Outcome)) (next : ℕ) (command : Command) → IsQueue cs os next → next < length cs → command ≡ get_or cs next command → IsChange command
next-changes cs os next command q within is =
    let stands : is_change (get_or cs next command) ≡ true = subst StartsWithChange (drop-cons cs next command within) q.stands in
    ap is_change is ∙ stands

-- ---- the outcomes that are kept

pub outcome-at : (os : List (Option Outcome)) (next index : ℕ) (o : Option Outcome) → index < next → index < length os → o ≡ get_or os index o
    → o ≡ outcome_at (taken_commands 0 (take next os)) index
outcome-at os next index o before within is = sym (outcome-is (take next os) index ∙ get_or-take next os index None before ∙ get_or_from_slice_get os index o None (slice_get_read os (length os) index o refl within is))

-- where a command has an outcome, it is a change
marked-at : (os : List (Option Outcome)) (cs : List Command) (k : ℕ) → AreMarked os cs → IfSome (get_or os k None) (λ o. IsSomeAnd (slice_get cs k) IsChange)
marked-at [] cs k marked = tt
marked-at (o ∷ os) [] k marked = absurd marked
marked-at (None ∷ os) (c ∷ cs) zero marked = tt
marked-at (Some o ∷ os) (c ∷ cs) zero marked = sym marked.0
marked-at (o ∷ os) (c ∷ cs) (suc k) marked = marked-at os cs k marked.1

pub outcome-changes : (cs : List Command) (os : List (Option Outcome)) (next index : ℕ) (o : Option Outcome) → IsQueue cs os next → index < next → index < length os → o ≡ get_or os index o
    → IfSome o (λ p. IsSomeAnd (slice_get cs index) IsChange)
outcome-changes cs os next index o q before within is =
    let e : get_or (take next os) index None ≡ o = get_or-take next os index None before ∙ get_or_from_slice_get os index o None (slice_get_read os (length os) index o refl within is) in
    let P : Option Outcome → Type 0 = λ p. IfSome p (λ _. IsSomeAnd (slice_get cs index) IsChange) in
    subst P e (marked-at (take next os) cs index q.passed.marked)

pub no-outcome : (os : List (Option Outcome)) (next index : ℕ) → next ≤ length os → next ≤ index → None ≡ outcome_at (taken_commands 0 (take next os)) index
no-outcome os next index within past = sym (outcome-is (take next os) index ∙ get_or_past (take next os) index None (omega (arith, length-take-le next os within)))

-- ---- one more command

-- the first of these commands is a change where there is an outcome
abbrev StartsLike : Option Outcome → List Command → Type 0
StartsLike o [] = ⊥
StartsLike o (c ∷ cs) = is_some o ≡ is_change c

marked-more : (os : List (Option Outcome)) (cs : List Command) (o : Option Outcome) → AreMarked os cs → StartsLike o (drop (length os) cs) → AreMarked (os ++ o ∷ []) cs
marked-more [] [] o marked like = like
marked-more [] (c ∷ cs) o marked like = (like, tt)
marked-more (p ∷ os) [] o marked like = absurd marked
marked-more (p ∷ os) (c ∷ cs) o marked like = (marked.0, marked-more os cs o marked.1 like)

passed-like : (cs : List Command) (os : List (Option Outcome)) (i : ℕ) (o : Option Outcome) → IsPassed cs os i → i < length cs
    → StartsLike o (drop i cs) → IsPassed cs (slice_set os i o) (i + 1)
passed-like cs os i o p within like =
    let inside : i < length os = omega (arith, p.room) in
    let l : length (take i os) ≡ i = length-take-le i os (omega arith) in
    let Q : ℕ → Type 0 = λ n. StartsLike o (drop n cs) in
    let R : List (Option Outcome) → Type 0 = λ marks. AreMarked marks cs in
    record {
      room = length-set os i o ∙ p.room;
      within = omega arith;
      marked = subst R (sym (take_more_set os i o inside)) (marked-more (take i os) cs o p.marked (subst Q (sym l) like));
    }

pub passed-more : (cs : List Command) (os : List (Option Outcome)) (i : ℕ) (o : Option Outcome) (c : Command) → IsPassed cs os i → i < length cs
    → is_some o ≡ is_change (get_or cs i c) → IsPassed cs (slice_set os i o) (i + 1)
passed-more cs os i o c p within e = let P : List Command → Type 0 = λ rest. StartsLike o rest in passed-like cs os i o p within (subst P (sym (drop-cons cs i c within)) e)

changes : (cs : List Command) (o : Outcome) → 0 < length cs → StartsWithChange cs → StartsLike (Some o) cs
changes [] o some stands = absurd (omega arith)
changes (c ∷ cs) o some stands = sym stands

-- the command at which the queue stands is taken
pub passed-taken : (cs : List Command) (os : List (Option Outcome)) (i : ℕ) (o : Outcome) → IsQueue cs os i → i < length cs → IsPassed cs (slice_set os i (Some o)) (i + 1)
passed-taken cs os i o q within = passed-like cs os i (Some o) q.passed within (changes (drop i cs) o (omega (arith, length-drop i cs)) q.stands)

one-more : (n : ℕ) (os : List (Option Outcome)) (o : Outcome) → taken_commands n (os ++ Some o ∷ []) ≡ taken_commands n os ++ record { index = n + length os; outcome = o } ∷ []
one-more n [] o = ap (λ i. record { index = i; outcome = o } ∷ []) (sym (add-zero n))
one-more n (None ∷ os) o = one-more (suc n) os o ∙ ap (λ i. taken_commands (suc n) os ++ record { index = i; outcome = o } ∷ []) (omega arith)
one-more n (Some p ∷ os) o = ap (λ ts. record { index = n; outcome = p } ∷ ts) (one-more (suc n) os o ∙ ap (λ i. taken_commands (suc n) os ++ record { index = i; outcome = o } ∷ []) (omega arith))

no-more : (n : ℕ) (os : List (Option Outcome)) → taken_commands n (os ++ None ∷ []) ≡ taken_commands n os
no-more n [] = refl
no-more n (None ∷ os) = no-more (suc n) os
no-more n (Some p ∷ os) = ap (λ ts. record { index = n; outcome = p } ∷ ts) (no-more (suc n) os)

pub taken-more : (os : List (Option Outcome)) (i : ℕ) (o : Outcome) → i < length os
    → taken_commands 0 (take (i + 1) (slice_set os i (Some o))) ≡ taken_commands 0 (take i os) ++ record { index = i; outcome = o } ∷ []
taken-more os i o within = ap (taken_commands 0) (take_more_set os i (Some o) within) ∙ one-more 0 (take i os) o
    ∙ ap (λ n. taken_commands 0 (take i os) ++ record { index = n; outcome = o } ∷ []) (let l : length (take i os) ≡ i = length-take-le i os (omega arith) in omega arith)

pub taken-same : (os : List (Option Outcome)) (i : ℕ) → i < length os → taken_commands 0 (take (i + 1) (slice_set os i None)) ≡ taken_commands 0 (take i os)
taken-same os i within = ap (taken_commands 0) (take_more_set os i None within) ∙ no-more 0 (take i os)

-- the command that is next is taken
pub taken-next : (cs : List Command) (os new : List (Option Outcome)) (next after index : ℕ) (o : Outcome) → IsQueue cs os next
    → next_command cs (taken_commands 0 (take next os)) ≡ Some index → taken_commands 0 (take after new) ≡ taken_commands 0 (take (next + 1) (slice_set os next (Some o)))
    → taken_commands 0 (take after new) ≡ taken_commands 0 (take next os) ++ record { index = index; outcome = o } ∷ []
taken-next cs os new next after index o q is e =
    let k = next-known cs os next index q is in
    e ∙ taken-more os next o (omega (arith, k.1, q.passed.room)) ∙ ap (λ i. taken_commands 0 (take next os) ++ record { index = i; outcome = o } ∷ []) k.0
