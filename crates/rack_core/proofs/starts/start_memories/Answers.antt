use Rattle.std.proofs.Common.{◌≡◌, ◌∙◌, ◌+◌, ◌++◌, ◌∷◌, [], ap, sym, subst, drop, map, rules, arith}
use Rattle.std.specs.List.{AllByRecursion}
use Rattle.std.proofs.lemmas.Grind.{common_steps}
use Rattle.std.proofs.lemmas.List.{append_assoc}
use Rattle.mind_base.specs.Fit.{IsFitMemory, AreApart, all_homes}
use Rattle.range_translate.proofs.Callers.{AreApart-front, AreApart-rest}
use Rattle.rack_core.specs.Start.{first_memory}
use Rattle.rack_core.proofs.starts.start_memories.Goals as goal

pub start_memory-requires-clause-apart : goal.start_memory-requires-clause-apart
start_memory-requires-clause-apart c =
    let rest = drop (c.loop-memory.memory-index + 1) c.args.memories.now in
    let here : drop c.loop-memory.memory-index c.args.memories.now ≡ c.memory-item.result ∷ rest = grind (arith, common_steps) in
    AreApart-front c.memory-item.result.homes (all_homes rest) (subst (λ ms. AreApart (all_homes ms)) here c.loop-memory.invariant.2)

pub loop-memory-preserved : goal.loop-memory-preserved
loop-memory-preserved c =
    let rest = drop (c.loop-memory.memory-index + 1) c.args.memories.now in
    let here : drop c.loop-memory.memory-index c.args.memories.now ≡ c.memory-item.result ∷ rest = grind (arith, common_steps) in
    let items : c.push.new.self.items ≡ c.loop-memory.blades.items ++ c.in_ok-start_memory.field-0 ∷ [] = search rules in (
      ap (λ bs. bs ++ map first_memory rest) items
          ∙ append_assoc c.loop-memory.blades.items (c.in_ok-start_memory.field-0 ∷ []) (map first_memory rest)
          ∙ ap (λ b. c.loop-memory.blades.items ++ b ∷ map first_memory rest) c.in_ok-start_memory.ensures
          ∙ ap (λ ms. c.loop-memory.blades.items ++ map first_memory ms) (sym here)
          ∙ c.loop-memory.invariant.0,
      (subst (AllByRecursion IsFitMemory) here c.loop-memory.invariant.1).1,
      AreApart-rest c.memory-item.result.homes (all_homes rest) (subst (λ ms. AreApart (all_homes ms)) here c.loop-memory.invariant.2),
    )
