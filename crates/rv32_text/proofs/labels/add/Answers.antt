use Rattle.std.proofs.lemmas.Map.Text.{btree_map_updates_str}
use Rattle.rv32_text.specs.Found.{found_in}
use Rattle.rv32_text.proofs.LabelSteps.{none_from, put}
use Rattle.rv32_text.proofs.labels.add.Goals as goal

pub returns : goal.returns
returns c = λ name.
    put (found_in c.args.labels.now) _ c.args.label.now name c.args.place (none_from _ _ c.contains_key.ensures c.if-contains_key.false)
    (btree_map_updates_str c.args.label.now c.args.labels.now c.insert.new.self _ c.in_ok-insert.ensures.updates name)
