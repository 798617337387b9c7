-- Over every list of calls: commands are taken one at a time and in order, and each is closed by all blades.
use Rattle.std.proofs.Common.{◌≡◌, ◌≢◌, ℕ, ◌+◌, ◌^◌, ◌<◌, ◌≤◌, ◌==◌, ◌&&◌, Bool, true, false, cond, List, [], ◌∷◌, ◌++◌, length, drop, Option, Some, None, IsSome, IsTrue, refl, sym, ap, ◌∙◌, subst, arith, inl, inr, append_assoc, length-append, length-drop}
use Rattle.std.specs.Prelude.{bit_xor}
use Rattle.std.specs.Int.{bit_at}
use Rattle.std.proofs.lemmas.Bool.{cases_Bool, cases_lt, eqb-true, eq-eqb, false≢true}
use Rattle.std.proofs.lemmas.List.{drop-append-le, drop-drop}
use Rattle.std.proofs.lemmas.Nat.Bits.{bit_at_xor, bit_at-pow_same, bit_at-pow_other, bit_at-zero, bit_at-lt}
use Rattle.mind_base.specs.declared.commands.Command.{Command}
use Rattle.control_plane.specs.Control.{ControlView, FitsPhase, IsControl, PhaseWaitsFor, IsApplying, no_commands, is_free, is_some_waiting, can_begin, begun_from, after_ask, after_begin, phase_answered, closed_by, after_closed, after_finish}
use Rattle.control_plane.specs.Calls.{ControlCall, Ask, Begin, Answer, Finish, ControlStep, ControlRun, asked_by, ended_by, answer_count, with_index, command_under_way}
use Rattle.control_plane.specs.declared.phases.Asked.{Asked}
use Rattle.control_plane.specs.declared.phases.Phase.{Phase}
use Rattle.control_plane.specs.declared.phases.Phase.TheVariants.{Free, Closing, Applying}

-- the command under way has the last number, and each blade has answered to it or is waited for
abbrev pub PhaseHolds : ℕ → List ControlCall → ℕ → Option Command → Phase → Type 0
PhaseHolds blades calls last current Free = Unit {0}
PhaseHolds blades calls last current (Closing index number waiting) =
    IsSome current × (number ≡ last) × ((b : ℕ) → answer_count number b calls + bit_at waiting b ≡ bit_at blades b)
PhaseHolds blades calls last current (Applying index number) = IsSome current × (number ≡ last) × ((b : ℕ) → answer_count number b calls ≡ bit_at blades b)

pub record Holds (blades : ℕ) (calls : List ControlCall) (c : ControlView) : Type 0 where
  pub rack : c.blades ≡ blades
  pub order : command_under_way c.phase c.current ++ c.waiting ≡ drop (ended_by calls) (asked_by calls)
  pub within : ended_by calls ≤ length (asked_by calls)
  pub number : c.last ≡ ended_by calls + length (command_under_way c.phase c.current)
  pub phase : PhaseHolds blades calls c.last c.current c.phase
  pub none_yet : (n b : ℕ) → c.last < n → answer_count n b calls ≡ 0

at_first : (blades : ℕ) → Holds blades [] (no_commands blades)
at_first blades = record {
  rack = refl;
  order = refl;
  within = omega arith;
  number = refl;
  phase = tt;
  none_yet = λ n b l. refl;
}

asks : (blades : ℕ) (calls : List ControlCall) (c : ControlView) (a : Asked) → Holds blades calls c → Holds blades (Ask a ∷ calls) (after_ask c a)
asks blades calls c a h = record {
  rack = h.rack;
  order = sym (append_assoc (command_under_way c.phase c.current) c.waiting (a ∷ [])) ∙ ap (λ (xs : List Asked). xs ++ a ∷ []) h.order
      ∙ sym (drop-append-le (ended_by calls) (asked_by calls) (a ∷ []) h.within);
  within = omega (arith, h.within, length-append (asked_by calls) (a ∷ []));
  number = h.number;
  phase = h.phase;
  none_yet = h.none_yet;
}

begin_from : (blades : ℕ) (calls : List ControlCall) (c : ControlView) (p : Phase) (w : List Asked) → c.phase ≡ p → c.waiting ≡ w →
    IsTrue (cond (is_free p) (is_some_waiting w) false) → Holds blades calls c → Holds blades (Begin ∷ calls) (cond (is_free p) (begun_from w c) c)
begin_from blades calls c Free [] e ew can h = absurd (false≢true can)
begin_from blades calls c Free (a ∷ rest) e ew can h =
    let order : c.waiting ≡ drop (ended_by calls) (asked_by calls) =
    subst (λ (p : Phase). command_under_way p c.current ++ c.waiting ≡ drop (ended_by calls) (asked_by calls)) e h.order in
    let number : c.last ≡ ended_by calls + 0 = subst (λ (p : Phase). c.last ≡ ended_by calls + length (command_under_way p c.current)) e h.number in
    record {
      rack = h.rack;
      order = sym ew ∙ order;
      within = h.within;
      number = omega (arith, number);
      phase = (refl, refl, λ b. ap (λ n. n + bit_at c.blades b) (h.none_yet (c.last + 1) b (omega arith)) ∙ (let z : 0 + bit_at c.blades b ≡ bit_at c.blades b = omega arith in z) ∙ ap (λ s. bit_at s b) h.rack);
      none_yet = λ n b l. h.none_yet n b (omega (arith, l));
    }
begin_from blades calls c (Closing index number waiting) w e ew can h = absurd (false≢true can)
begin_from blades calls c (Applying index number) w e ew can h = absurd (false≢true can)

begins : (blades : ℕ) (calls : List ControlCall) (c : ControlView) → IsTrue (can_begin c) → Holds blades calls c → Holds blades (Begin ∷ calls) (after_begin c)
begins blades calls c can h = begin_from blades calls c c.phase c.waiting refl refl can h

abbrev bit_of : Bool → ℕ
bit_of b = cond b 1 0

-- an answer that was waited for is one more, and its blade is waited for no longer
abbrev BitMoves : ℕ → ℕ → ℕ → Type 0
BitMoves w blade b = bit_at w b ≡ bit_at (bit_xor w (2 ^ blade)) b + cond (blade == b) 1 0

bit-moves : (w blade b : ℕ) → bit_at w blade ≡ 1 → BitMoves w blade b
bit-moves w blade b one = elim (cases_Bool (blade == b)) [
  | inl t ↦ (let same : blade ≡ b = eqb-true blade b t in
      subst (BitMoves w blade) same (here (ap bit_of (t_of same t))))
  | inr f ↦ there (λ e. false≢true (sym f ∙ eq-eqb blade b (sym e))) f
] where
  t_of : blade ≡ b → (blade == b) ≡ true → (blade == blade) ≡ true
  t_of same t = subst (λ n. (blade == n) ≡ true) (sym same) t

  here : bit_of (blade == blade) ≡ 1 → BitMoves w blade blade
  here t = omega (arith, one, bit_at_xor w (2 ^ blade) blade, bit_at-pow_same blade, t)

  there : b ≢ blade → (blade == b) ≡ false → BitMoves w blade b
  there apart f =
      let other : bit_at (2 ^ blade) b ≡ 0 = bit_at-pow_other blade b apart in
      let none : bit_of (blade == b) ≡ 0 = ap bit_of f in
      omega (arith, bit_at_xor w (2 ^ blade) b, other, bit_at-lt w b, none)

-- one answer more
answers-more : (n blade b : ℕ) (calls : List ControlCall) → answer_count n b (Answer n blade ∷ calls) ≡ answer_count n b calls + cond (blade == b) 1 0
answers-more n blade b calls = ap (λ v. cond (v && blade == b) (answer_count n b calls + 1) (answer_count n b calls)) (eq-eqb n n refl) ∙ step (blade == b) (answer_count n b calls) where
  step : (v : Bool) (k : ℕ) → cond v (k + 1) k ≡ k + cond v 1 0
  step true k = refl
  step false k = omega arith

answers-other : (n m blade b : ℕ) (calls : List ControlCall) → (m ≡ n → ⊥) → answer_count n b (Answer m blade ∷ calls) ≡ answer_count n b calls
answers-other n m blade b calls apart = elim (cases_Bool (m == n)) [
  | inl t ↦ absurd (apart (eqb-true m n t))
  | inr f ↦ ap (λ v. cond (v && blade == b) (answer_count n b calls + 1) (answer_count n b calls)) f
]

closes_by : (blades : ℕ) (calls : List ControlCall) (c : ControlView) (index n waiting blade left : ℕ) (t : Bool) → c.phase ≡ Closing index n waiting →
    ((b : ℕ) → answer_count n b (Answer n blade ∷ calls) + bit_at left b ≡ bit_at blades b) → (t ≡ true → left ≡ 0) → Holds blades calls c →
    Holds blades (Answer n blade ∷ calls) (record c { phase = cond t (Applying index n) (Closing index n left) })
closes_by blades calls c index n waiting blade left t e bits gone h =
    let phase : PhaseHolds blades calls c.last c.current (Closing index n waiting) = subst (PhaseHolds blades calls c.last c.current) e h.phase in
    let order : with_index index c.current ++ c.waiting ≡ drop (ended_by calls) (asked_by calls) =
    subst (λ (p : Phase). command_under_way p c.current ++ c.waiting ≡ drop (ended_by calls) (asked_by calls)) e h.order in
    let number : c.last ≡ ended_by calls + length (with_index index c.current) = subst (λ (p : Phase). c.last ≡ ended_by calls + length (command_under_way p c.current)) e h.number in
    record {
      rack = h.rack;
      order = under t order;
      within = h.within;
      number = counted t number;
      phase = both t gone phase.0 phase.1;
      none_yet = λ m b l. answers-other m n blade b calls (λ s. differ m phase.1 s l) ∙ h.none_yet m b l;
    } where
      differ : (m : ℕ) → n ≡ c.last → n ≡ m → c.last < m → ⊥
      differ m p s l = omega (arith, p, s, l)

      under : (v : Bool) → with_index index c.current ++ c.waiting ≡ drop (ended_by calls) (asked_by calls) → command_under_way (cond v (Applying index n) (Closing index n left)) c.current ++ c.waiting ≡ drop (ended_by calls) (asked_by calls)
      under true o = o
      under false o = o

      counted : (v : Bool) → c.last ≡ ended_by calls + length (with_index index c.current) → c.last ≡ ended_by calls + length (command_under_way (cond v (Applying index n) (Closing index n left)) c.current)
      counted true o = o
      counted false o = o

      both : (v : Bool) → (v ≡ true → left ≡ 0) → IsSome c.current → n ≡ c.last → PhaseHolds blades (Answer n blade ∷ calls) c.last c.current (cond v (Applying index n) (Closing index n left))
      both true z some last = (some, last, λ b. (let none : bit_at left b ≡ 0 = ap (λ s. bit_at s b) (z refl) ∙ bit_at-zero b in omega (arith, bits b, none)))
      both false z some last = (some, last, bits)

closes_in : (blades : ℕ) (calls : List ControlCall) (c : ControlView) (number blade : ℕ) (p : Phase) → c.phase ≡ p → PhaseWaitsFor number blade p → Holds blades calls c →
    Holds blades (Answer number blade ∷ calls) (record c { phase = phase_answered blade p })
closes_in blades calls c number blade Free e w h = absurd w
closes_in blades calls c number blade (Applying index n) e w h = absurd w
closes_in blades calls c number blade (Closing index n waiting) e w h =
    let left = bit_xor waiting (2 ^ blade) in
    let phase : PhaseHolds blades calls c.last c.current (Closing index n waiting) = subst (PhaseHolds blades calls c.last c.current) e h.phase in
    let bits : (b : ℕ) → answer_count n b (Answer n blade ∷ calls) + bit_at left b ≡ bit_at blades b =
    λ b. omega (arith, answers-more n blade b calls, bit-moves waiting blade b w.1, phase.2 b) in
    subst (λ m. Holds blades (Answer m blade ∷ calls) (record c { phase = closed_by index n left })) w.0
    (closes_by blades calls c index n waiting blade left (left == 0) e bits (eqb-true left 0) h)

finishes_with : (blades : ℕ) (calls : List ControlCall) (c : ControlView) (index n : ℕ) (o : Option Command) → c.phase ≡ Applying index n → c.current ≡ o → IsSome o → Holds blades calls c → Holds blades (Finish ∷ calls) (after_finish c)
finishes_with blades calls c index n None e eo some h = absurd (false≢true some)
finishes_with blades calls c index n (Some command) e eo some h =
    let a : Asked = record { index = index; command = command } in
    let order_at : with_index index c.current ++ c.waiting ≡ drop (ended_by calls) (asked_by calls) =
    subst (λ (p : Phase). command_under_way p c.current ++ c.waiting ≡ drop (ended_by calls) (asked_by calls)) e h.order in
    let order : a ∷ c.waiting ≡ drop (ended_by calls) (asked_by calls) =
    subst (λ (o : Option Command). with_index index o ++ c.waiting ≡ drop (ended_by calls) (asked_by calls)) eo order_at in
    let number_at : c.last ≡ ended_by calls + length (with_index index c.current) = subst (λ (p : Phase). c.last ≡ ended_by calls + length (command_under_way p c.current)) e h.number in
    let number : c.last ≡ ended_by calls + 1 = subst (λ (o : Option Command). c.last ≡ ended_by calls + length (with_index index o)) eo number_at in
    let more = ap length order in
    record {
      rack = h.rack;
      order = ap (drop 1) order ∙ drop-drop 1 (ended_by calls) (asked_by calls);
      within = omega (arith, more, length-drop (ended_by calls) (asked_by calls), h.within);
      number = omega (arith, number);
      phase = tt;
      none_yet = h.none_yet;
    }

finishes_in : (blades : ℕ) (calls : List ControlCall) (c : ControlView) (p : Phase) → c.phase ≡ p → IsApplying p → Holds blades calls c → Holds blades (Finish ∷ calls) (after_finish c)
finishes_in blades calls c Free e w h = absurd w
finishes_in blades calls c (Closing index n waiting) e w h = absurd w
finishes_in blades calls c (Applying index n) e w h =
    let phase : PhaseHolds blades calls c.last c.current (Applying index n) = subst (PhaseHolds blades calls c.last c.current) e h.phase in
    finishes_with blades calls c index n c.current e refl phase.0 h

keeps : (blades : ℕ) (call : ControlCall) (calls : List ControlCall) (old new : ControlView) → ControlStep old call new → Holds blades calls old → Holds blades (call ∷ calls) new
keeps blades (Ask command) calls old new s h = subst (Holds blades (Ask command ∷ calls)) (sym s) (asks blades calls old command h)
keeps blades Begin calls old new s h = subst (Holds blades (Begin ∷ calls)) (sym s.1) (begins blades calls old s.0 h)
keeps blades (Answer number blade) calls old new s h = subst (Holds blades (Answer number blade ∷ calls)) (sym s.1) (closes_in blades calls old number blade old.phase refl s.0 h)
keeps blades Finish calls old new s h = subst (Holds blades (Finish ∷ calls)) (sym s.1) (finishes_in blades calls old old.phase refl s.0 h)

pub always : (blades : ℕ) (calls : List ControlCall) (c : ControlView) → ControlRun blades calls c → Holds blades calls c
always blades [] c run = subst (Holds blades []) (sym run) (at_first blades)
always blades (call ∷ calls) c run = keeps blades call calls run.0 c run.2 (always blades calls run.0 run.1)

pub all_closed : (blades : ℕ) (calls : List ControlCall) (c : ControlView) (index number blade : ℕ) → ControlRun blades calls c → c.phase ≡ Applying index number → answer_count number blade calls ≡ bit_at blades blade
all_closed blades calls c index number blade run e =
    let phase : PhaseHolds blades calls c.last c.current (Applying index number) = subst (PhaseHolds blades calls c.last c.current) e (always blades calls c run).phase in
    phase.2 blade

-- a control with one answer more is still one
valid_in : (c : ControlView) (number blade : ℕ) (p : Phase) → c.phase ≡ p → PhaseWaitsFor number blade p → IsControl c → IsControl (record c { phase = phase_answered blade p })
valid_in c number blade Free e w i = absurd w
valid_in c number blade (Applying index n) e w i = absurd w
valid_in c number blade (Closing index n waiting) e w i = step (bit_xor waiting (2 ^ blade) == 0) refl (subst (FitsPhase c) e i.phase) where
  some : (left : ℕ) → (left == 0) ≡ false → 0 < left
  some left f = elim (cases_lt 0 left) [
    | inl l ↦ l
    | inr l ↦ (let none : left ≡ 0 = omega (arith, l) in absurd (false≢true (sym f ∙ eq-eqb left 0 none)))
  ]

  among : FitsPhase c (Closing index n waiting) → (b : ℕ) → bit_at (bit_xor waiting (2 ^ blade)) b ≡ 1 → bit_at c.blades b ≡ 1
  among h b one = h.3 b (let moves = bit-moves waiting blade b w.1 in let few = bit_at-lt waiting b in omega (arith, moves, one, few))

  step : (t : Bool) → (bit_xor waiting (2 ^ blade) == 0) ≡ t → FitsPhase c (Closing index n waiting) → IsControl (record c { phase = cond t (Applying index n) (Closing index n (bit_xor waiting (2 ^ blade))) })
  step true z h = record { blades = i.blades; few = i.few; phase = (h.0, h.1); count = i.count; limit = i.limit }
  step false z h = record { blades = i.blades; few = i.few; phase = (h.0, h.1, some (bit_xor waiting (2 ^ blade)) z, among h); count = i.count; limit = i.limit }

pub valid-closed : (c : ControlView) (number blade : ℕ) → PhaseWaitsFor number blade c.phase → IsControl c → IsControl (after_closed c blade)
valid-closed c number blade w i = valid_in c number blade c.phase refl w i
