use Rattle.std.proofs.Common.{sym, ◌∙◌}
use Rattle.std.specs.Str.{bytes_eq}
use Rattle.std.proofs.lemmas.List.Folds.{list_any-append}
use Rattle.rack_file.specs.Keys.{names_of}
use Rattle.rack_file.specs.Tables.{top_keys, array_names}
use Rattle.rack_file.proofs.sections.is_top_key.Goals as goal

pub returns : goal.returns
returns c = c.is_setting_or_array_key.ensures ∙ sym (list_any-append (bytes_eq c.args.key.now) (names_of top_keys) array_names)
