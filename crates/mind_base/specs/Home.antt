-- Where pages have their home.
use Rattle.std.specs.Prelude.{ℕ, ◌+◌, ◌-◌, List, [], ◌∷◌, Option, Some, None, is_some, if◌then◌else◌, option_map}
use Rattle.mind_base.specs.Page.{PageView}
use Rattle.mind_base.specs.Span.{SpanView, in_span}
use Rattle.mind_base.specs.declared.plans.MemoryPlan.{MemoryPlan}

-- the number of a page among the pages of these runs, counted from 0 in order
abbrev pub number_in_homes : List SpanView → PageView → Option ℕ
number_in_homes [] page = None
number_in_homes (span ∷ spans) page =
    if in_span span page then Some (page.number - span.base) else option_map (λ n. span.pages + n) (number_in_homes spans page)

-- the home of a page as a memory blade, numbered from this one on, and the page's number there
abbrev pub home_from : ℕ → List MemoryPlan → PageView → Option (ℕ × ℕ)
home_from blade [] page = None
home_from blade (memory ∷ memories) page =
    if is_some (number_in_homes memory.homes page)
    then option_map (λ n. (blade, n)) (number_in_homes memory.homes page)
    else home_from (blade + 1) memories page

-- the memory blade where a page has its home, and the page's number there; None: it has no home
abbrev pub home_of : List MemoryPlan → PageView → Option (ℕ × ℕ)
home_of memories page = home_from 0 memories page
