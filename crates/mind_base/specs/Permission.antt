-- What a domain may do with a page: the last record that covers the page says it.
use Rattle.std.specs.Prelude.{Bool, true, false, not, List, [], ◌∷◌, if◌then◌else◌}
use Rattle.mind_base.specs.Page.{PageView}
use Rattle.mind_base.specs.Span.{in_span}
use Rattle.mind_base.specs.declared.commands.Perm.{Perm}
use Rattle.mind_base.specs.declared.commands.Perm.TheVariants.{No, R, Rw}
use Rattle.mind_base.specs.declared.plans.MapPlan.{MapPlan}

-- a page of this permission may be read
abbrev pub may_read : Perm → Bool
may_read No = false
may_read R = true
may_read Rw = true

-- a page of this permission may be written
abbrev pub may_write : Perm → Bool
may_write No = false
may_write R = false
may_write Rw = true

-- a page of this permission may be read, or written
abbrev pub allows : Bool → Perm → Bool
allows write No = false
allows write R = not write
allows write Rw = true

-- the permission that the last of these records gives the page, the oldest first, and this one where none covers it
abbrev pub permission_from : Perm → List MapPlan → PageView → Perm
permission_from perm [] page = perm
permission_from perm (entry ∷ newer) page =
    permission_from (if in_span entry.span page then entry.perm else perm) newer page

-- the permission of a page: that of the last record that covers it, none where no record does
abbrev pub permission_of : List MapPlan → PageView → Perm
permission_of records page = permission_from No records page
