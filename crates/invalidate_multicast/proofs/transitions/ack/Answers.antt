use Rattle.std.proofs.Common.{List, ap, sym, subst, ◌∙◌}
use Rattle.std.specs.List.{All}
use Rattle.region_directory.specs.Directory.{DirectoryView}
use Rattle.region_directory.specs.Entry.{plus_hits}
use Rattle.region_directory.specs.declared.entries.Entry.{Entry}
use Rattle.invalidate_multicast.specs.First.{first_changed}
use Rattle.invalidate_multicast.specs.Transition.{is_number, WaitsFor}
use Rattle.invalidate_multicast.proofs.AnswerLemmas.{acknowledged-ends}
use Rattle.invalidate_multicast.proofs.FirstLemmas.{first_changed-at, first_changed-none}
use Rattle.invalidate_multicast.proofs.transitions.ack.Goals as goal

pub returns-in-Some-clause-acknowledged : goal.returns-in-Some-clause-acknowledged
returns-in-Some-clause-acknowledged c =
    let d = c.answer.new.directory in
    let test = λ (e : Entry). is_number c.args.number e.busy in
    let with = λ (v : DirectoryView) (es : List Entry). record v { entries = es } in
    let counted = λ (v : DirectoryView). with v (first_changed test (plus_hits c.args.count) v.entries) in
    c.add_hits.ensures.changed ∙ ap (with d) (sym (first_changed-at test (plus_hits c.args.count) d.entries c.in-Some.i c.in-Some.ensures.some.0 c.in-Some.ensures.some.1)) ∙ ap counted c.answer.ensures.answered

pub returns-in_default-clause-acknowledged : goal.returns-in_default-clause-acknowledged
returns-in_default-clause-acknowledged c =
    let d = c.answer.new.directory in
    let test = λ (e : Entry). is_number c.args.number e.busy in
    let with = λ (v : DirectoryView) (es : List Entry). record v { entries = es } in
    let counted = λ (v : DirectoryView). with v (first_changed test (plus_hits c.args.count) v.entries) in
    ap (with d) (sym (first_changed-none test (plus_hits c.args.count) d.entries c.in_default.ensures.none)) ∙ ap counted c.answer.ensures.answered

pub returns-in-Some-clause-answered : goal.returns-in-Some-clause-answered
returns-in-Some-clause-answered c =
    let is = ap (λ (v : DirectoryView). v.entries) (returns-in-Some-clause-acknowledged c) in
    subst (λ (es : List Entry). All (λ e. WaitsFor c.args.number c.args.blade e.busy → ⊥) es) (sym is) (acknowledged-ends c.args.number c.args.blade c.args.count c.args.directory.now.entries)

pub returns-in_default-clause-answered : goal.returns-in_default-clause-answered
returns-in_default-clause-answered c =
    let is = ap (λ (v : DirectoryView). v.entries) (returns-in_default-clause-acknowledged c) in
    subst (λ (es : List Entry). All (λ e. WaitsFor c.args.number c.args.blade e.busy → ⊥) es) (sym is) (acknowledged-ends c.args.number c.args.blade c.args.count c.args.directory.now.entries)
