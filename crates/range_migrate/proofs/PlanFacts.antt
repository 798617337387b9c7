-- What a plan that was accepted says, and that two descriptions of places and runs that agree give the same end.
use Rattle.std.proofs.Common.{◌≡◌, ℕ, zero, suc, ◌+◌, ◌-◌, ◌<◌, ◌^◌, ◌↔◌, ◌⊎◌, Bool, true, false, cond, not, ◌&&◌, Option, None, Result, Ok, Err, is_some, refl, sym, ap, ◌∙◌, subst, arith, inl, inr}
use Rattle.std.proofs.lemmas.Bool.{cases_Bool, cases_lt, false≢true}
use Rattle.mind_base.specs.Page.{PageView}
use Rattle.mind_base.specs.Range.{RangeView, InRange}
use Rattle.mind_base.specs.Cover.{all_below}
use Rattle.mind_base.specs.declared.commands.Outcome.{Outcome}
use Rattle.mind_base.specs.declared.commands.Outcome.TheVariants.{Fine, Unplaced, Overlap, Unmapped, Slots, Same, Room}
use Rattle.range_migrate.specs.Plan.{block_page, each_page, is_at, Way, Refused, Homeward, ByRun, way_of, IsFreeRunAt, HasFreeRun, IsLowestRunAt, new_move, EndsByRun, EndsBy}
use Rattle.range_migrate.specs.declared.moves.Move.{Move}

-- all numbers below n pass a test that passes at each
both_true : (a b : Bool) → (a && b) ≡ true → (a ≡ true) × (b ≡ true)
both_true true b e = (refl, e)
both_true false b e = absurd (false≢true e)

pub all_below-at : (test : ℕ → Bool) (n i : ℕ) → all_below test n ≡ true → i < n → test i ≡ true
unfolding all_below
all_below-at test zero i e l = absurd (omega (arith, l))
all_below-at test (suc n) i e l =
    let both = both_true (all_below test n) (test n) e in
    elim (cases_lt i n) [
      | inl lt ↦ all_below-at test n i both.0 lt
      | inr le ↦ (let same : n ≡ i = omega (arith, l, le) in subst (λ k. test k ≡ true) same both.1)
    ]

pub all_below-same : (t u : ℕ → Bool) (n : ℕ) → ((i : ℕ) → t i ≡ u i) → all_below t n ≡ all_below u n
unfolding all_below
all_below-same t u zero h = refl
all_below-same t u (suc n) h = ap (λ b. b && t n) (all_below-same t u n h) ∙ ap (λ b. all_below u n && b) (h n)

-- one more number
pub all_below-more : (test : ℕ → Bool) (n : ℕ) → all_below test n ≡ true → test n ≡ true → all_below test (n + 1) ≡ true
unfolding all_below
all_below-more test n so_far here =
    let next : all_below test (suc n) ≡ true = ap (λ c. c && test n) so_far ∙ here in
    subst (λ k. all_below test k ≡ true) (let e : suc n ≡ n + 1 = omega arith in e) next

pub all_below-zero : (test : ℕ → Bool) → all_below test 0 ≡ true
unfolding all_below
all_below-zero test = refl

pub all_below-fails : (test : ℕ → Bool) (n i : ℕ) → i < n → test i ≡ false → all_below test n ≡ false
all_below-fails test n i l f = elim (cases_Bool (all_below test n)) [
  | inl t ↦ absurd (false≢true (sym f ∙ all_below-at test n i t l))
  | inr e ↦ e
]

-- each page of a block where all pass
pub each_page-at : (range : RangeView) (test : PageView → Bool) (page : PageView) → each_page range test ≡ true → InRange range page → test page ≡ true
each_page-at range test page e h =
    let number : range.base + (page.number - range.base) ≡ page.number = omega (arith, h.from) in
    let here = all_below-at (λ n. test (block_page range n)) (2 ^ range.log) (page.number - range.base) e (omega (arith, h.below, h.from)) in
    let same : block_page range (page.number - range.base) ≡ page =
    ap (λ (n : ℕ). let p : PageView = record { domain = range.domain; number = n } in p) number
    ∙ ap (λ (d : ℕ). let p : PageView = record { domain = d; number = page.number } in p) (sym h.domain) in
    subst (λ p. test p ≡ true) same here

-- the value of an answer
abbrev value_or : Move → Result Move Outcome → Move
value_or d (Ok move) = move
value_or d (Err outcome) = d

-- an accepted plan: all pages have a home, and the move is one home, which no larger moved block has, or one by a run
pub record Accepts (range : RangeView) (memory : ℕ) (placed enclosed : Bool) (others slots : ℕ) (free : ℕ → ℕ → Type 0) (move : Move) : Type 0 where
  pub has_homes : placed ≡ true
  pub way : ((enclosed ≡ false) × (move ≡ new_move range memory None)) ⊎ EndsByRun range memory others slots free (Ok move)

second_false : (a b : Bool) → (a && not b) ≡ true → b ≡ false
second_false true true e = absurd (false≢true e)
second_false true false e = refl
second_false false b e = absurd (false≢true e)

pub accepts : (range : RangeView) (memory : ℕ) (placed same at_home enclosed : Bool) (others slots : ℕ) (free : ℕ → ℕ → Type 0) (move : Move) →
    EndsBy (cond (not placed) (Refused Unplaced) (cond same (Refused Same) (cond (at_home && not enclosed) Homeward ByRun))) range memory others slots free (Ok move) →
    Accepts range memory placed enclosed others slots free move
accepts range memory false same at_home enclosed others slots free move e = absurd (not_ok e) where
  not_ok : Ok move ≡ Err Unplaced → ⊥
  not_ok e = cc
accepts range memory true true at_home enclosed others slots free move e = absurd (not_ok e) where
  not_ok : Ok move ≡ Err Same → ⊥
  not_ok e = cc
accepts range memory true false at_home enclosed others slots free move e = step (at_home && not enclosed) refl e where
  step : (b : Bool) → (at_home && not enclosed) ≡ b → EndsBy (cond b Homeward ByRun) range memory others slots free (Ok move) → Accepts range memory true enclosed others slots free move
  step true h w = record { has_homes = refl; way = inl (second_false at_home enclosed h, ap (value_or move) w) }
  step false h w = record { has_homes = refl; way = inr w }

-- two descriptions that agree
pub way-same : (range : RangeView) (memory : ℕ) (p q home : PageView → Option (ℕ × ℕ)) (a b : Bool) → ((page : PageView) → p page ≡ q page) → a ≡ b → way_of range memory p home a ≡ way_of range memory q home b
way-same range memory p q home a b same e =
    ap (λ t. cond (not (each_page range (λ page. is_some (home page)))) (Refused Unplaced) (cond t (Refused Same) (cond (each_page range (λ page. is_at memory (home page)) && not a) Homeward ByRun)))
    (all_below-same (λ n. is_at memory (p (block_page range n))) (λ n. is_at memory (q (block_page range n))) (2 ^ range.log) (λ n. ap (is_at memory) (same (block_page range n))))
    ∙ ap (λ c. way_of range memory q home c) e

abbrev Agree : (ℕ → ℕ → Type 0) → (ℕ → ℕ → Type 0) → Type 0
Agree free other = (memory page : ℕ) → free memory page ↔ other memory page

turned : (free other : ℕ → ℕ → Type 0) → Agree free other → Agree other free
turned free other h = λ memory page. ((h memory page).1, (h memory page).0)

run-along : (free other : ℕ → ℕ → Type 0) (memory log first : ℕ) → Agree free other → IsFreeRunAt free memory log first → IsFreeRunAt other memory log first
run-along free other memory log first h run = record { aligned = run.aligned; each = λ page l. (h memory page).0 (run.each page l) }

has-along : (free other : ℕ → ℕ → Type 0) (memory log : ℕ) → Agree free other → HasFreeRun free memory log → HasFreeRun other memory log
has-along free other memory log h run = (run.0, run-along free other memory log run.0 h run.1)

lowest-along : (free other : ℕ → ℕ → Type 0) (memory log first : ℕ) → Agree free other → IsLowestRunAt free memory log first → IsLowestRunAt other memory log first
lowest-along free other memory log first h low = record {
  run = run-along free other memory log first h low.run;
  lowest = λ o run. low.lowest o (run-along other free memory log o (turned free other h) run);
}

run_ends-along : (range : RangeView) (memory others slots : ℕ) (free other : ℕ → ℕ → Type 0) (result : Result Move Outcome) → Agree free other →
    EndsByRun range memory others slots free result → EndsByRun range memory others slots other result
run_ends-along range memory others slots free other (Ok move) h w = (w.0, (w.1.0, lowest-along free other memory range.log w.1.0 h w.1.1, w.1.2))
run_ends-along range memory others slots free other (Err Room) h w = λ run. w (has-along other free memory range.log (turned free other h) run)
run_ends-along range memory others slots free other (Err Slots) h w = (w.0, has-along free other memory range.log h w.1)
run_ends-along range memory others slots free other (Err Fine) h w = absurd w
run_ends-along range memory others slots free other (Err Unplaced) h w = absurd w
run_ends-along range memory others slots free other (Err Overlap) h w = absurd w
run_ends-along range memory others slots free other (Err Unmapped) h w = absurd w
run_ends-along range memory others slots free other (Err Same) h w = absurd w

pub ends-along : (way : Way) (range : RangeView) (memory others slots : ℕ) (free other : ℕ → ℕ → Type 0) (result : Result Move Outcome) → Agree free other →
    EndsBy way range memory others slots free result → EndsBy way range memory others slots other result
ends-along (Refused outcome) range memory others slots free other result h w = w
ends-along Homeward range memory others slots free other result h w = w
ends-along ByRun range memory others slots free other result h w = run_ends-along range memory others slots free other result h w
