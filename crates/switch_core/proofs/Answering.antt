-- What a blade's acknowledgement and a fetched page make of the switch.
use Rattle.std.proofs.Common.{◌≡◌, ℕ, ◌+◌, ◌<◌, ◌≤◌, Bool, true, false, cond, not, ◌&&◌, ◌==◌, Option, Some, None, List, [], ◌∷◌, ◌++◌, length, map, filter, take, refl, ap, sym, subst, ◌∙◌, inl, inr, zero, suc, arith, append_assoc}
use Rattle.std.specs.List.{AllByRecursion, Any, find, flat_map, slice_get, slice_index_or}
use Rattle.std.specs.Option.{is_some, option_map, IfSome}
use Rattle.std.specs.Prelude.{Result, Ok, Err, OnOk}
use Rattle.mind_base.specs.declared.failures.NoMemory.{NoMemory}
use Rattle.mind_base.specs.declared.failures.Stop.{Stop}
use Rattle.std.proofs.lemmas.Bool.{cases_Bool, eqb-true, false≢true}
use Rattle.std.proofs.lemmas.Grind.{flat_map-append}
use Rattle.std.proofs.lemmas.List.{append-nil, take_more}
use Rattle.std.proofs.lemmas.Option.{get_or_from_slice_get, slice_get_within}
use Rattle.mind_base.specs.Page.{PageView}
use Rattle.mind_base.specs.Range.{RangeView}
use Rattle.mind_base.specs.declared.commands.Perm.{Perm}
use Rattle.mind_base.specs.declared.commands.Perm.TheVariants.{No, R, Rw}
use Rattle.mind_base.specs.declared.links.LinkName.{LinkName}
use Rattle.mind_base.specs.declared.notes.Note.{Note}
use Rattle.mind_base.specs.declared.notes.State.{State}
use Rattle.mind_base.specs.declared.plans.RackPlan.{RackPlan}
use Rattle.mind_base.specs.Permission.{allows}
use Rattle.invalidate_multicast.specs.First.{first_changed}
use Rattle.invalidate_multicast.specs.Transition.{is_number, after_answer, without_waiting, acknowledged, is_answered, target_of, finished, first_ended, with_first_ended}
use Rattle.page_image.specs.PageImage.{PageImageView}
use Rattle.protect_table.specs.Protect.{permission_at}
use Rattle.region_directory.specs.Directory.{DirectoryView}
use Rattle.region_directory.specs.Entry.{with_busy, plus_hits}
use Rattle.region_directory.specs.declared.entries.Busy.{Busy}
use Rattle.region_directory.specs.declared.entries.Entry.{Entry}
use Rattle.request_list.specs.Requests.{is_of, AskOncePerPage}
use Rattle.request_list.specs.declared.requests.Request.{Request}
use Rattle.wire_msg.specs.WellFormed.{CanFill}
use Rattle.wire_msg.specs.declared.msgs.Msg.{Msg}
use Rattle.wire_msg.specs.declared.msgs.Msg.TheVariants.{Fill}
use Rattle.switch_core.specs.Handling.{all_ended, answered, request_noted, ended, noted_end, filled, filling, handled_from, went_back, writing, Received}
use Rattle.switch_core.specs.Invariant.{IsFitState, IsFitTarget, IsFitEntry, IsFitRequest, IsSpent, IsSwitch}
use Rattle.switch_core.specs.Sending.{AreFetchesAllowed, IsSendable, Start, Comes, Begins, Stays, start_at}
use Rattle.switch_core.specs.Serving.{Serves}
use Rattle.switch_core.specs.Switch.{SwitchView, SwitchEffect, with_requests, place_in, to_blade}
use Rattle.switch_core.specs.Treating.{without_request}
use Rattle.switch_core.proofs.EachEnding.{answered-is}
use Rattle.switch_core.proofs.Lists.{all-append, all-filter, under-le-length}
use Rattle.switch_core.proofs.Safety.{IsAllowed, place-in-rack}

-- ---- transitions that wait for nobody end one after another

abbrev pub answered_in : List Entry → ℕ
answered_in [] = 0
answered_in (e ∷ es) = cond (is_answered e.busy) 1 0 + answered_in es

record EndsFirst (es : List Entry) : Type 0 where
  same : map ended (with_first_ended es) ≡ map ended es
  fewer : answered_in es ≡ answered_in (with_first_ended es) + 1

first-changed-here : (e : Entry) (es : List Entry) → is_answered e.busy ≡ true → with_first_ended (e ∷ es) ≡ finished e ∷ es
first-changed-here e es t = ap (λ (b : Bool). cond b (finished e ∷ es) (e ∷ with_first_ended es)) t

first-changed-later : (e : Entry) (es : List Entry) → is_answered e.busy ≡ false → with_first_ended (e ∷ es) ≡ e ∷ with_first_ended es
first-changed-later e es f = ap (λ (b : Bool). cond b (finished e ∷ es) (e ∷ with_first_ended es)) f

first-here : (e : Entry) (es : List Entry) → is_answered e.busy ≡ true → first_ended (e ∷ es) ≡ Some (e.range, target_of e e.busy)
first-here e es t = ap (λ (b : Bool). option_map {T = Entry} {U = RangeView × State} (λ y. (y.range, target_of y y.busy)) (cond b (Some e) (find (λ y. is_answered y.busy) es))) t

first-later : (e : Entry) (es : List Entry) → is_answered e.busy ≡ false → first_ended (e ∷ es) ≡ first_ended es
first-later e es f = ap (λ (b : Bool). option_map {T = Entry} {U = RangeView × State} (λ y. (y.range, target_of y y.busy)) (cond b (Some e) (find (λ y. is_answered y.busy) es))) f

some-first : {A : Type 0} (e : Entry) (es : List Entry) → is_answered e.busy ≡ true → first_ended (e ∷ es) ≡ None → A
some-first e es t h =
    let clash : (let first : Option (RangeView × State) = Some (e.range, target_of e e.busy) in first) ≡ None = sym (first-here e es t) ∙ h in
    absurd (cc)

step-here : (e : Entry) (es : List Entry) → is_answered e.busy ≡ true → EndsFirst (e ∷ es)
step-here e es t =
    let w : with_first_ended (e ∷ es) ≡ finished e ∷ es = first-changed-here e es t in
    let count : answered_in (e ∷ es) ≡ 1 + answered_in es = ap (λ (b : Bool). cond b 1 0 + answered_in es) t in
    let left : answered_in (with_first_ended (e ∷ es)) ≡ 0 + answered_in es = ap answered_in w in
    record {
      same = ap (map ended) w ∙ sym (ap (λ (b : Bool). cond b (finished e) e ∷ map ended es) t);
      fewer = omega (arith, count, left);
    }

step-later : (e : Entry) (es : List Entry) → is_answered e.busy ≡ false → EndsFirst es → EndsFirst (e ∷ es)
step-later e es f h =
    let w : with_first_ended (e ∷ es) ≡ e ∷ with_first_ended es = first-changed-later e es f in
    let left : answered_in (with_first_ended (e ∷ es)) ≡ cond (is_answered e.busy) 1 0 + answered_in (with_first_ended es) = ap answered_in w in
    record {
      same = ap (map ended) w ∙ ap (λ (ys : List Entry). ended e ∷ ys) h.same;
      fewer = omega (arith, h.fewer, left);
    }

pub some-is : {A : Type 0} (a b : A) → Some a ≡ Some b → a ≡ b
some-is a b e = (cc)

ends-first : (es : List Entry) (x : RangeView × State) → first_ended es ≡ Some x → EndsFirst es
ends-first [] x h = absurd (cc)
ends-first (e ∷ es) x h =
    elim (cases_Bool (is_answered e.busy)) [
      | inl t ↦ step-here e es t
      | inr f ↦
          step-later e es f (ends-first es x (sym (first-later e es f) ∙ h))
    ]

-- none waits for nobody
pub none-answered : (es : List Entry) → first_ended es ≡ None → AllByRecursion (λ e. is_answered e.busy ≡ false) es
none-answered [] h = tt
none-answered (e ∷ es) h =
    elim (cases_Bool (is_answered e.busy)) [
      | inl t ↦ some-first e es t h
      | inr f ↦
          (f, none-answered es (sym (first-later e es f) ∙ h))
    ]

record EndsNone (es : List Entry) : Type 0 where
  same : map ended es ≡ es
  left : with_first_ended es ≡ es

ends-none : (es : List Entry) → first_ended es ≡ None → EndsNone es
ends-none [] h = record { same = refl; left = refl }
ends-none (e ∷ es) h =
    elim (cases_Bool (is_answered e.busy)) [
      | inl t ↦ some-first e es t h
      | inr f ↦
          let rest = ends-none es (sym (first-later e es f) ∙ h) in
          record {
            same = ap (λ (b : Bool). cond b (finished e) e ∷ map ended es) f ∙ ap (λ (ys : List Entry). e ∷ ys) rest.same;
            left = first-changed-later e es f ∙ ap (λ (ys : List Entry). e ∷ ys) rest.left;
          }
    ]

-- ---- entries stay fit

all-first : (P : Entry → Type 0) (test : Entry → Bool) (change : Entry → Entry) → ((e : Entry) → P e → P (change e)) → (es : List Entry) → AllByRecursion P es → AllByRecursion P (first_changed test change es)
all-first P test change keeps [] h = tt
all-first P test change keeps (e ∷ es) h =
    let chosen = λ (b : Bool). AllByRecursion P (cond b (change e ∷ es) (e ∷ first_changed test change es)) in
    elim (cases_Bool (test e)) [
      | inl t ↦ subst chosen (sym t) (keeps e h.0, h.1)
      | inr f ↦ subst chosen (sym f) (h.0, all-first P test change keeps es h.1)
    ]

all-mapped : (P : Entry → Type 0) (change : Entry → Entry) → ((e : Entry) → P e → P (change e)) → (es : List Entry) → AllByRecursion P es → AllByRecursion P (map change es)
all-mapped P change keeps [] h = tt
all-mapped P change keeps (e ∷ es) h = (keeps e h.0, all-mapped P change keeps es h.1)

fit-target : (n : ℕ) (e : Entry) (busy : Option Busy) → IsFitState n e.state → IsFitTarget n busy → IsFitState n (target_of e busy)
fit-target n e None h k = h
fit-target n e (Some busy) h k = k

fit-finished : (n : ℕ) (e : Entry) → IsFitEntry n e → IsFitEntry n (finished e)
fit-finished n e h = record { state = fit-target n e e.busy h.state h.target; target = tt }

pub fit-first : (n : ℕ) (es : List Entry) → AllByRecursion (IsFitEntry n) es → AllByRecursion (IsFitEntry n) (with_first_ended es)
fit-first n es h = all-first (IsFitEntry n) (λ e. is_answered e.busy) finished (fit-finished n) es h

answer-target : (n number blade : ℕ) (busy : Option Busy) → IsFitTarget n busy → IsFitTarget n (after_answer number blade busy)
answer-target n number blade None h = h
answer-target n number blade (Some busy) h =
    let chosen = λ (b : Bool). IsFitTarget n (cond b (Some (without_waiting blade busy)) (Some busy)) in
    elim (cases_Bool (busy.number == number)) [ inl t ↦ subst chosen (sym t) h | inr f ↦ subst chosen (sym f) h ]

fit-answer : (n number blade : ℕ) (e : Entry) → IsFitEntry n e → IsFitEntry n (with_busy (after_answer number blade e.busy) e)
fit-answer n number blade e h = record { state = h.state; target = answer-target n number blade e.busy h.target }

fit-hits : (n count : ℕ) (e : Entry) → IsFitEntry n e → IsFitEntry n (plus_hits count e)
fit-hits n count e h = record { state = h.state; target = h.target }

pub fit-acknowledged : (n number blade count : ℕ) (es : List Entry) → AllByRecursion (IsFitEntry n) es → AllByRecursion (IsFitEntry n) (acknowledged number blade count es)
fit-acknowledged n number blade count es h =
    all-first (IsFitEntry n) (λ e. is_number number e.busy) (plus_hits count) (fit-hits n count) (map (λ e. with_busy (after_answer number blade e.busy) e) es)
    (all-mapped (IsFitEntry n) (λ e. with_busy (after_answer number blade e.busy) e) (fit-answer n number blade) es h)

-- the switch when an acknowledgement was heard and the transitions that wait for nobody have ended
pub switch-answered : (s : SwitchView) (number blade count : ℕ) (d d' : DirectoryView) → IsSwitch s → d ≡ record s.directory { entries = acknowledged number blade count s.directory.entries } → length d.entries ≡ length s.directory.entries
    → length d'.entries ≡ length d.entries → d'.slots ≡ d.slots → ((n : ℕ) → AllByRecursion (IsFitEntry n) d.entries → AllByRecursion (IsFitEntry n) d'.entries) → AllByRecursion (λ entry. is_answered entry.busy ≡ false) d'.entries → IsSwitch (record s { directory = d' })
switch-answered s number blade count d d' h heard same-count same-length slots fit waits =
    let n = length s.plan.frames in
    let middle : AllByRecursion (IsFitEntry n) d.entries = subst (λ (x : DirectoryView). AllByRecursion (IsFitEntry n) x.entries) (sym heard) (fit-acknowledged n number blade count s.directory.entries h.entries) in
    let fits : length d'.entries ≤ d'.slots = omega (arith, same-length, same-count, slots, ap (λ (x : DirectoryView). x.slots) heard, h.fits) in
    record { plan = h.plan; homes = h.homes; outliers = h.outliers; slots = h.slots; fits = fits; entries = fit n middle; waits = waits; requests = h.requests }

-- ---- the loop over the endings

-- how far it has come: what is left to end leads to the same end
pub record Ending (first now : DirectoryView) : Type 0 where
  pub same : map ended now.entries ≡ map ended first.entries
  pub slots : now.slots ≡ first.slots
  pub most : now.most ≡ first.most
  pub count : length now.entries ≡ length first.entries
  pub fit : (n : ℕ) → AllByRecursion (IsFitEntry n) first.entries → AllByRecursion (IsFitEntry n) now.entries

pub ending-first : (d : DirectoryView) → Ending d d
ending-first d = record { same = refl; slots = refl; most = refl; count = refl; fit = λ n h. h }

-- the first that waits for nobody, if there is one, changes nothing of where the endings lead
same-ended : (es : List Entry) (o : Option (RangeView × State)) → first_ended es ≡ o → map ended (with_first_ended es) ≡ map ended es
same-ended es None h = ap (map ended) (ends-none es h).left
same-ended es (Some x) h = (ends-first es x h).same

pub ending-more : (first now d : DirectoryView) → Ending first now → d ≡ record now { entries = with_first_ended now.entries } → length d.entries ≡ length now.entries → Ending first d
ending-more first now d h e same-count = record {
  same = ap (λ (x : DirectoryView). map ended x.entries) e ∙ same-ended now.entries (first_ended now.entries) refl ∙ h.same;
  slots = ap (λ (x : DirectoryView). x.slots) e ∙ h.slots;
  most = ap (λ (x : DirectoryView). x.most) e ∙ h.most;
  count = same-count ∙ h.count;
  fit = λ n k. subst (λ (x : DirectoryView). AllByRecursion (IsFitEntry n) x.entries) (sym e) (fit-first n now.entries (h.fit n k));
}

falls-by : (es : List Entry) (o : Option (RangeView × State)) → first_ended es ≡ o → is_some o ≡ true → answered_in (with_first_ended es) < answered_in es
falls-by es None h t = absurd (false≢true t)
falls-by es (Some x) h t = omega (arith, (ends-first es x h).fewer)

pub ending-falls : (now d : DirectoryView) → is_some (first_ended now.entries) ≡ true → d ≡ record now { entries = with_first_ended now.entries } → answered_in d.entries < answered_in now.entries
ending-falls now d found e =
    let left : answered_in d.entries ≡ answered_in (with_first_ended now.entries) = ap (λ (x : DirectoryView). answered_in x.entries) e in
    omega (arith, falls-by now.entries (first_ended now.entries) refl found, left)

-- none is left to end
pub ending-end : (first now d : DirectoryView) → Ending first now → first_ended now.entries ≡ None → d ≡ record now { entries = with_first_ended now.entries } → d ≡ record first { entries = map ended first.entries }
ending-end first now d h none e =
    let rest = ends-none now.entries none in
    let entries : with_first_ended now.entries ≡ map ended first.entries = rest.left ∙ sym rest.same ∙ h.same in
    e ∙ ap (λ (ys : List Entry). record now { entries = ys }) entries ∙ ap (λ (k : ℕ). record now { slots = k; entries = map ended first.entries }) h.slots ∙ ap (λ (k : ℕ). record first { most = k; entries = map ended first.entries }) h.most

-- and so no transition waits for nobody
pub ending-waits : (now d : DirectoryView) → first_ended now.entries ≡ None → d ≡ record now { entries = with_first_ended now.entries } → AllByRecursion (λ e. is_answered e.busy ≡ false) d.entries
ending-waits now d none e =
    subst (λ (es : List Entry). AllByRecursion (λ x. is_answered x.busy ≡ false) es) (sym (ap (λ (x : DirectoryView). x.entries) e ∙ (ends-none now.entries none).left)) (none-answered now.entries none)

-- ---- the notes of the endings, one entry more at a time

pub noted-more : (old : List Note) (es : List Entry) (i : ℕ) (e : Entry) → slice_get es i ≡ Some e → (old ++ flat_map noted_end (take i es)) ++ noted_end e ≡ old ++ flat_map noted_end (take (i + 1) es)
noted-more old es i e at =
    let more : take (i + 1) es ≡ take i es ++ e ∷ [] = take_more es i e (slice_get_within es i e at) ∙ ap (λ y. take i es ++ y ∷ []) (get_or_from_slice_get es i e e at) in
    append_assoc old (flat_map noted_end (take i es)) (noted_end e)
    ∙ ap (λ ns. old ++ ns) (ap (λ ns. flat_map noted_end (take i es) ++ ns) (sym (append-nil (noted_end e))) ∙ sym (flat_map-append noted_end (take i es) (e ∷ [])) ∙ ap (flat_map noted_end) (sym more))

-- ---- a page that was fetched

both-true : (a b : Bool) → a && b ≡ true → (a ≡ true) × (b ≡ true)
both-true true b e = (refl, e)
both-true false b e = absurd (false≢true e)

is_of-same : (blade : ℕ) (page : PageView) (r : Request) → is_of blade page r ≡ true → (blade ≡ r.blade) × (page ≡ r.page)
is_of-same blade page r t =
    let first = both-true (blade == r.blade) (page.domain == r.page.domain && page.number == r.page.number) t in
    let second = both-true (page.domain == r.page.domain) (page.number == r.page.number) first.1 in
    let domain : page.domain ≡ r.page.domain = eqb-true page.domain r.page.domain second.0 in
    let number : page.number ≡ r.page.number = eqb-true page.number r.page.number second.1 in
    let pages : page ≡ r.page = ap (λ (k : ℕ). record page { domain = k }) domain ∙ ap (λ (k : ℕ). record r.page { number = k }) number in
    (eqb-true blade r.blade first.0, pages)

is_of-alike : (blade : ℕ) (page : PageView) (r q : Request) → is_of blade page r ≡ true → is_of r.blade r.page q ≡ is_of blade page q
is_of-alike blade page r q t =
    let same = is_of-same blade page r t in
    ap (λ (b : ℕ). is_of b r.page q) (sym same.0) ∙ ap (λ (p : PageView). is_of blade p q) (sym same.1)

abbrev pub IsFetched : ℕ → PageView → Request → Type 0
IsFetched blade page r = (is_of blade page r ≡ true) × (r.fetching ≡ true)

all-at-place : (P : Request → Type 0) (rs : List Request) (k : ℕ) (x : Request) → AllByRecursion P rs → k < length rs → P (slice_index_or rs k x)
all-at-place P [] k x h lt = absurd (omega arith)
all-at-place P (r ∷ rs) zero x h lt = h.0
all-at-place P (r ∷ rs) (suc k) x h lt = all-at-place P rs k x h.1 (omega arith)

pub found-fetched : (blade : ℕ) (page : PageView) (rs : List Request) (r : Request) → AskOncePerPage rs → Any (IsFetched blade page) rs → find (is_of blade page) rs ≡ Some r → r.fetching ≡ true
found-fetched blade page [] r a (k, x, lt, at, p) e = absurd (omega arith)
found-fetched blade page (q ∷ rs) r a (k, x, lt, at, p) e =
    elim (cases_Bool (is_of blade page q)) [
      | inl t ↦
          let here : find (is_of blade page) (q ∷ rs) ≡ Some q = ap (λ (b : Bool). cond b (Some q) (find (is_of blade page) rs)) t in
          let same : q ≡ r = some-is q r (sym here ∙ e) in
          ap (λ (y : Request). y.fetching) (sym same) ∙ first-fetched blade page q rs a t k x lt at p
      | inr f ↦
          let later : find (is_of blade page) (q ∷ rs) ≡ find (is_of blade page) rs = ap (λ (b : Bool). cond b (Some q) (find (is_of blade page) rs)) f in
          found-fetched blade page rs r a.1 (later-fetched blade page q rs f k x lt at p) (sym later ∙ e)
    ]
  where
    first-fetched : (blade : ℕ) (page : PageView) (q : Request) (rs : List Request) → AskOncePerPage (q ∷ rs) → is_of blade page q ≡ true → (k : ℕ) (x : Request) → k < length (q ∷ rs) → slice_index_or (q ∷ rs) k x ≡ x → IsFetched blade page x → q.fetching ≡ true
    first-fetched blade page q rs a t zero x lt at p = ap (λ (y : Request). y.fetching) at ∙ p.1
    first-fetched blade page q rs a t (suc k) x lt at p =
        let apart : is_of q.blade q.page x ≡ false = subst (λ (y : Request). is_of q.blade q.page y ≡ false) at (all-at-place (λ y. is_of q.blade q.page y ≡ false) rs k x a.0 (omega arith)) in
        absurd (false≢true (sym apart ∙ is_of-alike blade page q x t ∙ p.0))

    later-fetched : (blade : ℕ) (page : PageView) (q : Request) (rs : List Request) → is_of blade page q ≡ false → (k : ℕ) (x : Request) → k < length (q ∷ rs) → slice_index_or (q ∷ rs) k x ≡ x → IsFetched blade page x → Any (IsFetched blade page) rs
    later-fetched blade page q rs f zero x lt at p = absurd (false≢true (sym f ∙ ap (is_of blade page) at ∙ p.0))
    later-fetched blade page q rs f (suc k) x lt at p = (k, x, omega arith, at, p)

pub fetched-found : (blade : ℕ) (page : PageView) (rs : List Request) → Any (IsFetched blade page) rs → find (is_of blade page) rs ≡ None → ⊥
fetched-found blade page [] (k, x, lt, at, p) e = absurd (omega arith)
fetched-found blade page (q ∷ rs) (k, x, lt, at, p) e =
    elim (cases_Bool (is_of blade page q)) [
      | inl t ↦
          let here : Some q ≡ None = sym (ap (λ (b : Bool). cond b (Some q) (find (is_of blade page) rs)) t) ∙ e in
          absurd (cc)
      | inr f ↦
          let later : find (is_of blade page) (q ∷ rs) ≡ find (is_of blade page) rs = ap (λ (b : Bool). cond b (Some q) (find (is_of blade page) rs)) f in
          fetched-found blade page rs (behind blade page q rs f k x lt at p) (sym later ∙ e)
    ]
  where
    behind : (blade : ℕ) (page : PageView) (q : Request) (rs : List Request) → is_of blade page q ≡ false → (k : ℕ) (x : Request) → k < length (q ∷ rs) → slice_index_or (q ∷ rs) k x ≡ x → IsFetched blade page x → Any (IsFetched blade page) rs
    behind blade page q rs f zero x lt at p = absurd (false≢true (sym f ∙ ap (is_of blade page) at ∙ p.0))
    behind blade page q rs f (suc k) x lt at p = (k, x, omega arith, at, p)

found-is : (blade : ℕ) (page : PageView) (rs : List Request) (r : Request) → find (is_of blade page) rs ≡ Some r → is_of blade page r ≡ true
found-is blade page [] r e = absurd (cc)
found-is blade page (q ∷ rs) r e =
    elim (cases_Bool (is_of blade page q)) [
      | inl t ↦
          let here : find (is_of blade page) (q ∷ rs) ≡ Some q = ap (λ (b : Bool). cond b (Some q) (find (is_of blade page) rs)) t in
          ap (is_of blade page) (sym (some-is q r (sym here ∙ e))) ∙ t
      | inr f ↦
          let later : find (is_of blade page) (q ∷ rs) ≡ find (is_of blade page) rs = ap (λ (b : Bool). cond b (Some q) (find (is_of blade page) rs)) f in
          found-is blade page rs r (sym later ∙ e)
    ]

found-all : (P : Request → Type 0) (blade : ℕ) (page : PageView) (rs : List Request) (r : Request) → AllByRecursion P rs → find (is_of blade page) rs ≡ Some r → P r
found-all P blade page [] r h e = absurd (cc)
found-all P blade page (q ∷ rs) r h e =
    elim (cases_Bool (is_of blade page q)) [
      | inl t ↦
          let here : find (is_of blade page) (q ∷ rs) ≡ Some q = ap (λ (b : Bool). cond b (Some q) (find (is_of blade page) rs)) t in
          subst P (some-is q r (sym here ∙ e)) h.0
      | inr f ↦
          let later : find (is_of blade page) (q ∷ rs) ≡ find (is_of blade page) rs = ap (λ (b : Bool). cond b (Some q) (find (is_of blade page) rs)) f in
          found-all P blade page rs r h.1 (sym later ∙ e)
    ]

-- what the permissions allow may be filled
can-fill : (write : Bool) (perm : Perm) → allows write perm ≡ true → CanFill perm write
can-fill write No e = absurd (false≢true e)
can-fill false R e = (λ q. absurd (cc), λ w. absurd (false≢true w))
can-fill true R e = absurd (false≢true e)
can-fill write Rw e = (λ q. absurd (cc), λ w. refl)

pub fill-comes : (s s' : SwitchView) (o o' : List (LinkName × Msg)) (blade : ℕ) (page : PageView) (image : PageImageView) (r : Request) (rs : List Request) → IsSwitch s → AskOncePerPage s.requests → Any (IsFetched blade page) s.requests → find (is_of blade page) s.requests ≡ Some r → rs ≡ filter (λ q. not (is_of blade page q)) s.requests → s' ≡ with_requests s rs → o' ≡ o ++ to_blade r.blade (Fill r.page (permission_at s.protect r.page) r.write image) ∷ [] → Comes (start_at s o []) (filled (Some blade) page image s) s' o' []
fill-comes s s' o o' blade page image r rs h apart fetched found left e f =
    let n = length s.plan.frames in
    let fit : IsFitRequest n r = found-all (IsFitRequest n) blade page s.requests r h.requests found in
    let same = is_of-same blade page r (found-is blade page s.requests r found) in
    let gone : rs ≡ without_request r s.requests =
    left ∙ ap (λ (b : ℕ). filter (λ q. not (is_of b page q)) s.requests) same.0 ∙ ap (λ (p : PageView). filter (λ q. not (is_of r.blade p q)) s.requests) same.1 in
    let may = λ (all : AreFetchesAllowed s). found-all (IsAllowed s) blade page s.requests r all found (found-fetched blade page s.requests r apart fetched found) in
    let one : Comes (start_at s o []) (filling (Some r) image s) s' o' [] = record {
      after = e ∙ ap (λ (q : List Request). with_requests s q) gone;
      sent = f;
      noted = refl;
      plan = ap (λ (v : SwitchView). v.plan) e;
      sendable = λ all. (record { link = fit.blade; fields = can-fill r.write (permission_at s.protect r.page) (may all) }, tt);
      allowed = λ all. subst (λ (x : SwitchView). AreFetchesAllowed x) (sym (e ∙ ap (λ (q : List Request). with_requests s q) gone)) (all-filter (IsAllowed s) _ s.requests all);
    } in
    subst (λ (x : Option Request). Comes (start_at s o []) (filling x image s) s' o' []) (sym found) one

-- a page that comes back goes to a memory blade of the rack
written : (plan : RackPlan) (place : Option (ℕ × ℕ)) (image : PageImageView) → IfSome place (λ p. p.0 < length plan.memories) → AllByRecursion (IsSendable plan) (writing place image)
written plan None image h = tt
written plan (Some place) image h = (record { link = h; fields = tt }, tt)

pub written-sendable : (s : SwitchView) (page : PageView) (image : PageImageView) → IsSwitch s → AllByRecursion (IsSendable s.plan) (writing (place_in s page) image)
written-sendable s page image h = written s.plan (place_in s page) image (place-in-rack s page h)

-- ---- nothing is left to do

pub none-length : (rs : List Request) → length rs ≡ 0 → rs ≡ []
none-length [] e = refl
none-length (r ∷ rs) e = absurd (omega arith)

-- ---- a message is handled, and then the switch serves

pub back-comes : (result : Result (Unit {0}) NoMemory) (s : SwitchView) (o o' : List (LinkName × Msg)) (n : List Note) (page : PageView) (image : PageImageView) → OnOk result (IsSwitch s) → OnOk result (o' ≡ o ++ (went_back page image s).sent) → OnOk result (Comes (start_at s o n) (went_back page image s) s o' n)
back-comes (Ok u) s o o' n page image h e = record { after = refl; sent = e; noted = sym (append-nil n); plan = refl; sendable = λ all. written-sendable s page image h; allowed = λ all. all }
back-comes (Err x) s o o' n page image h e = h

pub asked-comes : (result : Result (Unit {0}) NoMemory) (s s' : SwitchView) (o : List (LinkName × Msg)) (n : List Note) (blade : ℕ) (page : PageView) (write : Bool) → OnOk result (s' ≡ (request_noted blade page write s).switch) → OnOk result (Comes (start_at s o n) (request_noted blade page write s) s' o n)
asked-comes (Ok u) s s' o n blade page write e = record {
  after = e;
  sent = sym (append-nil o);
  noted = sym (append-nil n);
  plan = ap (λ (x : SwitchView). x.plan) e;
  sendable = λ all. tt;
  allowed = λ all. subst (λ (x : SwitchView). AreFetchesAllowed x) (sym e)
      (all-append (IsAllowed s) s.requests (record { blade = blade; page = page; write = write; fetching = false } ∷ []) all ((λ t. absurd (false≢true t)), tt));
}
asked-comes (Err x) s s' o n blade page write e = e

pub answered-comes : (result : Result (Unit {0}) NoMemory) (s s' : SwitchView) (o : List (LinkName × Msg)) (n n' : List Note) (number blade count : ℕ) → OnOk result (s' ≡ (all_ended (acknowledged number blade count s.directory.entries) s).switch)
    → OnOk result (n' ≡ n ++ (all_ended (acknowledged number blade count s.directory.entries) s).noted) → OnOk result (Comes (start_at s o n) (answered number blade count s) s' o n')
answered-comes (Ok u) s s' o n n' number blade count e f =
    subst (λ (x : SwitchEffect). Comes (start_at s o n) x s' o n') (sym (answered-is number blade count s)) (record {
      after = e;
      sent = sym (append-nil o);
      noted = f;
      plan = ap (λ (x : SwitchView). x.plan) e;
      sendable = λ all. tt;
      allowed = λ all. subst (λ (x : SwitchView). AreFetchesAllowed x) (sym e) all;
    })
answered-comes (Err x) s s' o n n' number blade count e f = e

pub received-then : (result : Result (Unit {0}) Stop) (link : LinkName) (message : Msg) (start : Start) (s s' : SwitchView) (o o' : List (LinkName × Msg)) (n n' : List Note) → Comes start (handled_from link.kind link.number message start.switch) s o n → OnOk result ((begin : Start) → (first : SwitchEffect) → Comes begin first s o n → (last : SwitchEffect) × Serves first last × Comes begin last s' o' n') → Begins start.out o' → Begins start.notes n' → Received result link message start s' o' n'
received-then (Ok u) link message start s s' o o' n n' h serves b c =
    let done = serves start (handled_from link.kind link.number message start.switch) h in
    (done.0, done.1, done.2)
received-then (Err x) link message start s s' o o' n n' h serves b c = (b, c)

-- ---- numbers

-- a spent switch has begun at most as many transitions as there are slots
pub spent-count : (old middle new : SwitchView) → middle.last ≡ old.last → middle.directory.slots ≡ old.directory.slots → Stays middle new → IsSpent new → (new.last ≡ 4294967295) × (4294967295 ≤ old.last + old.directory.slots)
spent-count old middle new e f stays spent =
    (spent.last, omega (arith, stays.numbers, stays.slots, spent.last, spent.fits, under-le-length new.directory.entries, e, f))
