use Rattle.std.proofs.Common.{◌<◌, List, length, Some, None, ap, sym, ◌∙◌, arith}
use Rattle.std.proofs.lemmas.Bool.{true≢false}
use Rattle.std.proofs.lemmas.Option.{slice_get_within}
use Rattle.std.specs.Option.{option_map}
use Rattle.region_directory.specs.Directory.{DirectoryView}
use Rattle.region_directory.specs.Entry.{changed_at, in_state, with_busy}
use Rattle.region_directory.specs.declared.entries.Entry.{Entry}
use Rattle.invalidate_multicast.specs.Transition.{is_answered, target_of, finished}
use Rattle.invalidate_multicast.proofs.FirstLemmas.{first_changed-at, first_changed-none, find-first, find-none, first-not_none, changed-twice, changed-agree, IsFirst-read}
use Rattle.invalidate_multicast.proofs.transitions.ended.Goals as goal

pub returns-in_default-clause-named : goal.returns-in_default-clause-named
returns-in_default-clause-named c =
    sym (ap (option_map (λ (e : Entry). (e.range, target_of e e.busy))) (find-none (λ e. is_answered e.busy) c.args.directory.now.entries c.in_default.ensures.none))

pub returns-in_default-clause-ended : goal.returns-in_default-clause-ended
returns-in_default-clause-ended c =
    let v = c.args.directory.now in
    let with = λ (es : List Entry). let d : DirectoryView = record v { entries = es } in d in
    ap with (sym (first_changed-none (λ e. is_answered e.busy) finished v.entries c.in_default.ensures.none))

pub entry-entry-requires : goal.entry-entry-requires
entry-entry-requires c = slice_get_within c.args.directory.now.entries c.in-Some.i c.in-Some.ensures.some.0 c.in-Some.ensures.some.1.stands

pub set_state-requires : goal.set_state-requires
set_state-requires c = slice_get_within c.args.directory.now.entries c.in-Some.i c.in-Some.ensures.some.0 c.in-Some.ensures.some.1.stands

pub set_busy-requires : goal.set_busy-requires
set_busy-requires c =
    let within : c.in-Some.i < length c.args.directory.now.entries = slice_get_within c.args.directory.now.entries c.in-Some.i c.in-Some.ensures.some.0 c.in-Some.ensures.some.1.stands in
    omega (arith, c.set_state.ensures.count)

pub returns-clause-named : goal.returns-clause-named
returns-clause-named c =
    let es = c.args.directory.now.entries in
    let entry = c.entry-entry.result in
    let first = IsFirst-read (λ e. is_answered e.busy) es c.in-Some.i c.in-Some.ensures.some.0 entry c.in-Some.ensures.some.1 c.entry-entry.ensures.entry in
    sym (ap (option_map (λ (e : Entry). (e.range, target_of e e.busy))) (find-first (λ e. is_answered e.busy) es c.in-Some.i entry first) ∙ ap (λ b. Some (entry.range, target_of entry b)) c.in-Some-busy.is)

pub returns-clause-none : goal.returns-clause-none
returns-clause-none c = (
  λ e. absurd (true≢false e),
  λ none. absurd (first-not_none (λ e. is_answered e.busy) c.args.directory.now.entries c.in-Some.i c.in-Some.ensures.some.0 c.in-Some.ensures.some.1 none),
)

pub returns-clause-ended : goal.returns-clause-ended
returns-clause-ended c =
    let v = c.args.directory.now in
    let i = c.in-Some.i in
    let entry = c.entry-entry.result in
    let target = c.in-Some-busy.busy.target in
    let first = IsFirst-read (λ e. is_answered e.busy) v.entries i c.in-Some.ensures.some.0 entry c.in-Some.ensures.some.1 c.entry-entry.ensures.entry in
    let with = λ (d : DirectoryView) (es : List Entry). record d { entries = es } in
    let idle = λ (d : DirectoryView). with d (changed_at i (with_busy None) d.entries) in
    let agrees = ap (λ b. with_busy None (in_state (target_of entry b) entry)) (sym c.in-Some-busy.is) in
    c.set_busy.ensures.changed ∙ ap idle c.set_state.ensures.changed ∙
    ap (with v) (changed-twice i (with_busy None) (in_state target) v.entries ∙ changed-agree i (λ e. with_busy None (in_state target e)) finished v.entries entry c.entry-entry.ensures.entry agrees ∙ sym (first_changed-at (λ e. is_answered e.busy) finished v.entries i entry first))
