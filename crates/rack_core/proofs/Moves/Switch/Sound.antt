-- A switch that meets its invariant is sound, and which messages may come to it.
use Rattle.std.proofs.Common.{ℕ, ◌<◌, ◌≤◌, ◌^◌, List, [], ◌∷◌, length, get_or, suc, arith, Option, Some, None}
use Rattle.std.specs.Prelude.{All}
use Rattle.std.specs.List.{AllByRecursion}
use Rattle.std.proofs.Math.Nat.{pow-le-pow_right}
use Rattle.mind_base.specs.declared.notes.State.{State}
use Rattle.mind_base.specs.declared.notes.State.TheVariants.{I, S, M}
use Rattle.region_directory.specs.Block.{AreBlocksApart}
use Rattle.region_directory.specs.Directory.{IsDirectory}
use Rattle.region_directory.specs.declared.entries.Busy.{Busy}
use Rattle.region_directory.specs.declared.entries.Entry.{Entry}
use Rattle.request_list.specs.Requests.{AskOncePerPage}
use Rattle.switch_core.specs.Invariant.{IsFitState, IsFitTarget, IsFitEntry, IsFitRequest, IsSwitch}
use Rattle.switch_core.specs.Switch.{SwitchView}
use Rattle.rack_core.specs.SwitchMoves.{IsSoundSwitch, AreEntriesApart}
use Rattle.rack_core.proofs.Lists.Parts.{all-same}

-- ---- soundness

pub all-from : {X : Type 0} (P : X → Type 0) (xs : List X) → All P xs → AllByRecursion P xs
all-from P [] h = tt
all-from P (x ∷ xs) h = (h 0 x (omega arith), all-from P xs (λ k d lt. h (suc k) d (omega arith)))

apart-from : (es : List Entry) → ((i j : ℕ) (d : Entry) → i < j → j < length es → AreBlocksApart (get_or es i d).range (get_or es j d).range) → AreEntriesApart es
apart-from [] h = tt
apart-from (e ∷ es) h = (
  all-from (λ l. AreBlocksApart e.range l.range) es (λ k d lt. h 0 (suc k) d (omega arith) (omega arith)),
  apart-from es (λ i j d lt lu. h (suc i) (suc j) d (omega arith) (omega arith)),
)

power : (n : ℕ) → n ≤ 8 → 2 ^ n ≤ 2 ^ 8
power n le = pow-le-pow_right {n = 2} (omega arith) le

fit-more : (n : ℕ) → n ≤ 8 → (state : State) → IsFitState n state → IsFitState 8 state
fit-more n le I h = tt
fit-more n le (S sharers) h = (h.0, omega (arith, power n le, h.1))
fit-more n le (M owner) h = omega (arith, h)

target-more : (n : ℕ) → n ≤ 8 → (busy : Option Busy) → IsFitTarget n busy → IsFitTarget 8 busy
target-more n le None h = tt
target-more n le (Some busy) h = fit-more n le busy.target h

pub sound_from : (switch : SwitchView) → IsDirectory switch.directory → AskOncePerPage switch.requests → IsSwitch switch → IsSoundSwitch switch
sound_from switch directory apart h =
    let n = length switch.plan.frames in
    let few : n ≤ 8 = h.plan.blades.1 in
    record {
      requests = apart;
      blades = all-same (IsFitRequest n) (λ r. r.blade < 8) (λ r f. omega (arith, f.blade, few)) switch.requests h.requests;
      blocks = apart-from switch.directory.entries (λ i j d lt lu. directory.apart i j d lt lu);
      entries = all-same (IsFitEntry n) (IsFitEntry 8) (λ e f. record { state = fit-more n few e.state f.state; target = target-more n few e.busy f.target }) switch.directory.entries h.entries;
      region = h.plan.region;
    }
