use Rattle.std.proofs.Common.{◌≡◌, ◌∙◌, ◌++◌, ◌∷◌, [], All, ap, sym, subst, map, rules, arith}
use Rattle.std.proofs.lemmas.List.Elements.{All-push}
use Rattle.std.proofs.lemmas.List.FromFn.{map-range_with_len_more}
use Rattle.compute_blade.specs.Blade.{IsBlade}
use Rattle.compute_blade.specs.Start.{first_blade}
use Rattle.rack_core.proofs.starts.start_blades.Goals as goal

pub loop-number-preserved : goal.loop-number-preserved
loop-number-preserved c =
    let items : c.push.new.self.items ≡ c.loop-number.blades.items ++ c.in_ok-new.field-0 ∷ [] = search rules in (
      items ∙ ap (λ bs. bs ++ c.in_ok-new.field-0 ∷ []) c.loop-number.invariant.0
          ∙ ap (λ b. map (first_blade c.args.plan.now) (Rattle.std.specs.List.range_with_len 0 c.loop-number.number) ++ b ∷ []) c.in_ok-new.ensures.first
          ∙ sym (map-range_with_len_more (first_blade c.args.plan.now) 0 c.loop-number.number c.loop-number.number (omega arith)),
      subst (All IsBlade) (sym items) (All-push IsBlade c.loop-number.blades.items c.in_ok-new.field-0 c.loop-number.invariant.1 c.in_ok-new.ensures.shape),
    )
