use Rattle.std.proofs.Common.{◌∙◌, refl, sym, ap, subst, Err}
use Rattle.toml.specs.Parse.{parse_document}
use Rattle.rack_file.specs.Judged.{GivesDocument}
use Rattle.rack_file.specs.Racks.{document_of}
use Rattle.rack_file.specs.declared.refusals.RackRefusal.{RackRefusal}
use Rattle.rack_file.proofs.Documents.{document_of-text, document_of-no_text}
use Rattle.rack_file.proofs.racks.document_from.Goals as goal

pub returns-in-Err : goal.returns-in-Err
returns-in-Err c =
    let P : RackRefusal → Type 0 = λ e. GivesDocument (Err e) (document_of c.args.bytes.now) in
    subst P (sym c.no_document.ensures) (document_of-no_text _ c.in-Err.ensures.cases.0, refl, refl)

pub returns-in-Ok-table_from_str : goal.returns-in-Ok-table_from_str
returns-in-Ok-table_from_str c = let text = c.in-Ok.ensures.cases in
    document_of-text _ text.1 ∙ ap parse_document (sym text.0) ∙ c.in-Ok-table_from_str.ensures.ok
