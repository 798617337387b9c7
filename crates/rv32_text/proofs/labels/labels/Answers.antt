use Rattle.std.proofs.Common.{◌≡◌, ◌+◌, [], ◌∙◌, length, ap, sym, arith, List, ℕ}
use Rattle.std.specs.Str.Lines.{lines}
use Rattle.std.specs.Option.{option_or}
use Rattle.std.proofs.lemmas.List.{nil_from_length}
use Rattle.std.proofs.lemmas.Bool.{eqb-true}
use Rattle.rv32_text.specs.Found.{found_in}
use Rattle.rv32_text.specs.Label.{defined_from}
use Rattle.rv32_text.specs.Meaning.{labels_of}
use Rattle.rv32_text.proofs.LabelSteps.{labels_go, labels_end}
use Rattle.rv32_text.proofs.labels.labels.Goals as goal

pub loop-rest-preserved : goal.loop-rest-preserved
loop-rest-preserved c =
    let line = c.loop-rest.line + 1 in
    record {
      same = λ name.
          let split = ap (λ (texts : List (List ℕ)). option_or (found_in c.loop-rest.labels name) (defined_from line c.loop-rest.items texts name)) (sym c.split_line.ensures.lines) ∙ c.loop-rest.invariant.same name in
          rw c.items_on-items.ensures.count (labels_go line c.loop-rest.items c.split_line.result.0.now (lines c.split_line.result.1.now) name _ _ _ (c.in_ok-define.ensures name) split);
      consumed = omega (arith, c.split_line.ensures.rest);
      fewer = omega arith;
    }

pub returns : goal.returns
unfolding labels_of
returns c =
    let none : length c.loop-rest.rest.now ≡ 0 = eqb-true (length c.loop-rest.rest.now) 0 (sym c.is_empty.ensures ∙ c.loop-rest-test.false) in
    let no_lines : lines c.loop-rest.rest.now ≡ [] = ap lines (nil_from_length c.loop-rest.rest.now none) in
    λ name. labels_end (c.loop-rest.line + 1) c.loop-rest.items (lines c.loop-rest.rest.now) name _ _ no_lines (c.loop-rest.invariant.same name)
