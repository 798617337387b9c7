-- Events that the generator makes are built, and its text is judged as they are.
use Rattle.std.proofs.Common.{◌≡◌, ℕ, ◌≤◌, ◌↔◌, ◌∙◌, true, cond, List, [], ◌∷◌, length, map, Some, Result, Ok, Err, ap, sym, refl, subst}
use Rattle.std.specs.List.{AllByRecursion, list_all}
use Rattle.std.specs.FinMap as finite
use Rattle.std.proofs.lemmas.Bool.{le-ltb}
use Rattle.mind_base.specs.Fit.{IsFit}
use Rattle.mind_base.specs.Store.{Files}
use Rattle.mind_base.specs.declared.events.Event.{Event}
use Rattle.mind_base.specs.declared.plans.RackPlan.{RackPlan}
use Rattle.schedule_text.specs.declared.fates.Fate.TheVariants.{Deliver, Lose, Repeat}
use Rattle.schedule_text.specs.Size.{sizes_of}
use Rattle.rack_gen.specs.declared.lines.Line.{Line}
use Rattle.rack_gen.specs.declared.lines.Line.TheVariants.{Step, Drain, Frame, Epoch, Settle}
use Rattle.rack_gen.specs.Line.{event_of}
use Rattle.rack_gen.specs.Generator.{lines_for, generated, generated_text}
use Rattle.rack_gen.proofs.Callers.{IsSized, text_reads, text_fits}
use Rattle.mind_inputs.specs.Inputs.{Long, Bytes, Ending, Judged, ImagesSeen, Judges, JudgesMade, is_built, IsBuilt, schedule_answer, schedule_judged, seen_of, rack_seen_judged, judged_then, images_judged, events_then, made_judged, judge, judge_made}
use Rattle.mind_inputs.proofs.Chains.{judges-judge, judges-made, judge-judges, made-judges}
use Rattle.mind_inputs.specs.Words.{Paths}
use Rattle.mind_base.specs.declared.images.Image.{Image}

built-line : (line : Line) → IsBuilt (event_of line)
built-line (Step hart) = refl
built-line (Drain hart) = refl
built-line (Frame Deliver wire k) = refl
built-line (Frame Lose wire k) = refl
built-line (Frame Repeat wire k) = refl
built-line Epoch = refl
built-line Settle = refl

built-lines : (lines : List Line) → AllByRecursion IsBuilt (map event_of lines)
built-lines [] = tt
built-lines (line ∷ lines) = (built-line line, built-lines lines)

pub generated-built : (plan : RackPlan) (count seed : ℕ) → AllByRecursion IsBuilt (generated plan count seed)
generated-built plan count seed = built-lines (lines_for (sizes_of plan) count seed)

-- the same events under another name
pub built-as : (plan : RackPlan) (count seed : ℕ) (events : List Event) → events ≡ generated plan count seed → AllByRecursion IsBuilt events
built-as plan count seed events same = subst (λ (es : List Event). AllByRecursion IsBuilt es) (sym same) (generated-built plan count seed)

all-built : (events : List Event) → AllByRecursion IsBuilt events → list_all is_built events ≡ true
all-built [] all = refl
all-built (event ∷ events) all = rw (all.0) (all-built events all.1)

-- ---- the text

sized : (plan : RackPlan) → IsFit plan → IsSized plan
sized plan fit = record { threads = fit.threads; blades = fit.blades; memories = fit.memories }

pub seen-whole : (bytes : List ℕ) (limit : ℕ) → length bytes ≤ limit → seen_of (Some bytes) limit ≡ Bytes bytes
seen-whole bytes limit le = ap (λ b. cond b Long (Bytes bytes)) (le-ltb limit (length bytes) le)

schedule-made : (plan : RackPlan) (count seed : ℕ) → IsFit plan → count ≤ 200000
    → schedule_judged plan (seen_of (Some (generated_text plan count seed)) 4194304) ≡ Ok (generated plan count seed)
schedule-made plan count seed fit few =
    ap (schedule_judged plan) (seen-whole (generated_text plan count seed) 4194304 (text_fits plan count seed (sized plan fit) few))
    ∙ ap schedule_answer (text_reads plan count seed (sized plan fit) few)
    ∙ rw (all-built (generated plan count seed) (generated-built plan count seed)) refl

-- events that are the same for the rack that is read are judged the same
same-judged : (events other : RackPlan → Result (List Event) Ending) (r : Result RackPlan Ending) (plan : RackPlan) (images : ImagesSeen) → r ≡ Ok plan → events plan ≡ other plan
    → events_then events (judged_then r (λ p. judged_then (images_judged images [] p.images) (λ accepted. Ok (p, accepted))))
    ≡ events_then other (judged_then r (λ p. judged_then (images_judged images [] p.images) (λ accepted. Ok (p, accepted))))
same-judged events other r plan images is same = rw (is) (behind (images_judged images [] plan.images))
  where
    behind : (x : Result (List Image) Ending) → events_then events (judged_then x (λ accepted. Ok (plan, accepted))) ≡ events_then other (judged_then x (λ accepted. Ok (plan, accepted)))
    behind (Ok accepted) = ap (λ es. judged_then es (λ made. Ok (record { plan = plan; images = accepted; events = made }))) same
    behind (Err ending) = refl

pub judged-made : (files : Files) (rack schedule : List ℕ) (plan : RackPlan) (count seed : ℕ) → IsFit plan → count ≤ 200000
    → rack_seen_judged (seen_of (finite.get files rack) 65536) ≡ Ok plan → finite.get files schedule ≡ Some (generated_text plan count seed)
    → (judged : Judged) → JudgesMade (Some files) rack count seed judged ↔ Judges (Some files) (record { rack = rack; schedule = schedule }) judged
judged-made files rack schedule plan count seed fit few read held judged =
    let paths : Paths = record { rack = rack; schedule = schedule } in
    let text : schedule_judged plan (seen_of (finite.get files schedule) 4194304) ≡ Ok (generated plan count seed) =
    ap (λ h. schedule_judged plan (seen_of h 4194304)) held ∙ schedule-made plan count seed fit few in
    let same : judge files paths ≡ judge_made files rack count seed =
    same-judged (λ p. schedule_judged p (seen_of (finite.get files schedule) 4194304)) (made_judged count seed) (rack_seen_judged (seen_of (finite.get files rack) 65536)) plan
    (λ n name. seen_of (finite.get files name) 65536) read text in (
      (λ made. judge-judges files paths judged (judges-made files rack count seed judged made ∙ sym same)),
      (λ run. made-judges files rack count seed judged (judges-judge files paths judged run ∙ same)),
    )
