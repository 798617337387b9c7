-- The switch serves: it goes over the waiting requests until a pass changes nothing.
use Rattle.std.specs.Prelude.{◌≡◌, ℕ, zero, suc, false, length, Option, Some, None, slice_get}
use Rattle.request_list.specs.declared.requests.Request.{Request}
use Rattle.switch_core.specs.Switch.{SwitchView, SwitchEffect, only, and_then}
use Rattle.switch_core.specs.Treating.{Pass, treated}

-- the request that comes next in a pass is treated
abbrev pub treated_if : Option Request → Pass → Pass
treated_if None pass = pass
treated_if (Some r) pass = treated r pass

abbrev pub treated_next : Pass → Pass
treated_next pass = treated_if (slice_get pass.done.switch.requests pass.at) pass

-- so many requests are treated, one after another
abbrev pub over : ℕ → Pass → Pass
over zero pass = pass
over (suc left) pass = over left (treated_next pass)

-- a pass at its beginning
abbrev pub first_pass : SwitchView → Pass
first_pass switch = record { done = only switch; at = 0; blocked = false }

-- one pass over all requests in order of arrival
abbrev pub one_pass : SwitchView → SwitchEffect
one_pass switch = (over (length switch.requests) (first_pass switch)).done

-- so many passes
abbrev pub passes : ℕ → SwitchEffect → SwitchEffect
passes zero done = done
passes (suc n) done = passes n (and_then done one_pass)

-- a pass changes nothing
abbrev pub IsServed : SwitchView → Type 0
IsServed switch = one_pass switch ≡ only switch

-- the switch has served after what was done first
abbrev pub Serves : SwitchEffect → SwitchEffect → Type 0
Serves first last = (n : ℕ) × (last ≡ passes n first) × IsServed last.switch
