use Rattle.std.proofs.Common.{◌≡◌, true, false, Some, None, refl, ap, sym, ◌∙◌}
use Rattle.mind_base.specs.declared.commands.Command.{Command}
use Rattle.mind_base.specs.declared.commands.Command.TheVariants.{Map}
use Rattle.mind_base.specs.declared.commands.Outcome.TheVariants.{Overlap}
use Rattle.protect_table.specs.Protect.{permission_at}
use Rattle.control_plane.specs.Outcome.{are_placed, are_unmapped, refusal_of}
use Rattle.control_plane.proofs.changes.refusal_of.Goals as goal

pub returns-then-not-are_unmapped : goal.returns-then-not-are_unmapped
returns-then-not-are_unmapped c =
    let permissions = permission_at c.args.protect.now in
    let placed : are_placed c.args.homes.now c.in-Map.span ≡ true = sym c.are_placed.ensures ∙ c.if-not-are_placed.false in
    let mapped : are_unmapped permissions c.in-Map.span ≡ false = sym c.are_unmapped.ensures ∙ c.if-not-are_unmapped.true in
    let here : refusal_of (Map c.in-Map.span c.in-Map.perm) c.args.homes.now permissions ≡ Some Overlap = rw (placed, mapped) refl in
    sym (ap (λ (k : Command). refusal_of k c.args.homes.now permissions) c.in-Map.is ∙ here)

pub returns-else-not-are_unmapped : goal.returns-else-not-are_unmapped
returns-else-not-are_unmapped c =
    let permissions = permission_at c.args.protect.now in
    let placed : are_placed c.args.homes.now c.in-Map.span ≡ true = sym c.are_placed.ensures ∙ c.if-not-are_placed.false in
    let unmapped : are_unmapped permissions c.in-Map.span ≡ true = sym c.are_unmapped.ensures ∙ c.if-not-are_unmapped.false in
    let here : refusal_of (Map c.in-Map.span c.in-Map.perm) c.args.homes.now permissions ≡ None = rw (placed, unmapped) refl in
    sym (ap (λ (k : Command). refusal_of k c.args.homes.now permissions) c.in-Map.is ∙ here)

pub returns-in-Protect : goal.returns-in-Protect
returns-in-Protect c =
    c.refusal_of_unmapped-in-Protect.ensures
    ∙ ap (λ (k : Command). refusal_of k c.args.homes.now (permission_at c.args.protect.now)) (sym c.in-Protect.is)
