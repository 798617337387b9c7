use Rattle.std.proofs.Common.{Some, sym, ap, ◌∙◌}
use Rattle.std.specs.Option.{option_map}
use Rattle.std.proofs.lemmas.Option.{slice_get-map}
use Rattle.request_list.specs.Waiting.{request_of}
use Rattle.request_list.specs.declared.requests.Request.{Request}
use Rattle.request_list.proofs.waiting.request_at.Goals as goal

pub returns : goal.returns
returns c =
    slice_get-map request_of c.args.waiting.now.entries c.args.at
    ∙ ap (option_map request_of) (sym c.in-Some.ensures.entry)
    ∙ ap (λ (r : Request). Some r) (sym c.request_of.ensures)
