use Rattle.std.proofs.Common.{rules, tests, ◌∙◌}
use Rattle.std.specs.Str.{bytes_eq}
use Rattle.std.proofs.lemmas.Iterator.{YieldsList-from_slice}
use Rattle.std.proofs.lemmas.Iterator.Search.{find_from_yields_List}
use Rattle.rv32_text.specs.Name.{base_name, named_among}
use Rattle.rv32_text.proofs.names.named_among.Goals as goal

pub returns : goal.returns
unfolding named_among
returns c =
    c.copied.ensures
    ∙ find_from_yields_List (λ r. bytes_eq c.args.text.now (base_name r)) _ _ c.find.result c.find.ensures.ran (YieldsList-from_slice c.args.rows.now cc) (λ x b q k. search (rules, tests))
