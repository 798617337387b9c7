-- Which transition a number names.
use Rattle.std.proofs.Common.{◌≡◌, ◌≤◌, refl, ℕ, ◌==◌, Option, Some, None, subst, eqb-true}
use Rattle.std.specs.Prelude.{if◌then◌else◌}
use Rattle.mind_base.specs.Page.{PageView}
use Rattle.region_directory.specs.declared.entries.Busy.{Busy}
use Rattle.coherence.specs.World.{Region, World}
use Rattle.coherence.specs.Facts.{AreNumbered, WaitsSomewhere, numbered, transition}
use Rattle.coherence.proofs.Changes.{by-test}

-- the transition is the entry's, and has the number
pub record Tells (n : ℕ) (here : Option Region) (under : Busy) : Type 0 where
  pub region : Region
  pub entry : here ≡ Some region
  pub busy : region.busy ≡ Some under
  pub number : under.number ≡ n

numbered_tells : (number : ℕ) (under : Option Busy) (busy : Busy) → numbered number under ≡ Some busy → (under ≡ Some busy) × (busy.number ≡ number)
numbered_tells number None busy is = absurd (cc is)
numbered_tells number (Some other) busy is =
    by-test (λ t. (other.number == number) ≡ t → (if t then Some other else None) ≡ Some busy → (Some other ≡ Some busy) × (busy.number ≡ number)) (other.number == number)
    (λ _ e at. (at, let same = eqb-true _ _ e in let eq : other ≡ busy = cc in subst (λ x. x.number ≡ number) eq same)) (λ _ _ at. absurd (cc at)) refl is

pub transition_tells : (number : ℕ) (entry : Option Region) (busy : Busy) → transition number entry ≡ Some busy → Tells number entry busy
transition_tells number None busy is = absurd (cc is)
transition_tells number (Some region) busy is =
    let tells = numbered_tells number region.busy busy is in
    record { region = region; entry = refl; busy = tells.0; number = tells.1 }

-- its number is no more than the last
pub number_used : (w : World) → AreNumbered w → (number : ℕ) (page : PageView) (busy : Busy) → transition number (w.regions page) ≡ Some busy → number ≤ w.last
number_used w numbered number page busy is =
    let tells = transition_tells number (w.regions page) busy is in
    subst (λ n. n ≤ w.last) tells.number (numbered page tells.region busy tells.entry tells.busy)

pub waits_used : (w : World) → AreNumbered w → (number blade : ℕ) → WaitsSomewhere w.regions number blade → number ≤ w.last
waits_used w numbered number blade (page, busy, is, waits) = number_used w numbered number page busy is
