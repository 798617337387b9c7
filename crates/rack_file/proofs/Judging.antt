-- How what the code answers meets how things are judged one after another.
use Rattle.std.proofs.Common.{◌≡◌, ◌∙◌, sym, ap, subst, Result, Ok, Err}
use Rattle.rack_file.specs.Keys.{Refused, and_then}
use Rattle.rack_file.specs.Judged.{Says, RefusesAs, GivesJudged}
use Rattle.rack_file.specs.declared.refusals.RackRefusal.{RackRefusal}
use Rattle.rack_file.specs.declared.refusals.RackRefusal.TheVariants as refusal

-- what the code says is what is judged
pub stops-says : {Y : Type 0} (e : RackRefusal) (refused : Refused) (judged : Result Y Refused) → Says e refused → judged ≡ Err refused → RefusesAs e judged
stops-says {Y} (refusal.Refused what path) refused judged says is = is ∙ ap (λ r. let e : Result Y Refused = Err r in e) says
stops-says refusal.NoMemory refused judged says is = tt

-- a refusal ends the judgement
pub stops-here : {X Y : Type 0} (e : RackRefusal) (judged : Result X Refused) (next : X → Result Y Refused) → RefusesAs e judged → RefusesAs e (and_then judged next)
stops-here {X} {Y} (refusal.Refused what path) judged next stops = ap (λ j. and_then j next) stops
stops-here refusal.NoMemory judged next stops = tt

-- a refusal further on is one of the whole
pub stops-on : {X Y : Type 0} (e : RackRefusal) (judged : Result X Refused) (x : X) (next : X → Result Y Refused) → judged ≡ Ok x → RefusesAs e (next x) → RefusesAs e (and_then judged next)
stops-on {X} {Y} e judged x next is stops = let P : Result X Refused → Type 0 = λ j. RefusesAs e (and_then j next) in subst P (sym is) stops

-- what is judged further on is what the whole is judged
pub goes-on : {X Y : Type 0} (judged : Result X Refused) (x : X) (y : Y) (next : X → Result Y Refused) → judged ≡ Ok x → next x ≡ Ok y → and_then judged next ≡ Ok y
goes-on judged x y next is rest = ap (λ j. and_then j next) is ∙ rest

-- what the code gives further on is what it gives for the whole
pub gives-on : {X Y Z : Type 0} (view : X → Z) (result : Result X RackRefusal) (judged : Result Y Refused) (y : Y) (next : Y → Result Z Refused) → judged ≡ Ok y → GivesJudged view result (next y) → GivesJudged view result (and_then judged next)
gives-on {X} {Y} {Z} view result judged y next is gives = let P : Result Y Refused → Type 0 = λ j. GivesJudged view result (and_then j next) in subst P (sym is) gives
