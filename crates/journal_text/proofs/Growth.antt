-- Lines of notes grow by one note.
use Rattle.std.proofs.Common.{◌≡◌, ℕ, ◌+◌, ◌∙◌, List, [], ◌∷◌, ◌++◌, take, ap, sym, Some, append_assoc, append-nil}
use Rattle.std.proofs.lemmas.List.{take_more}
use Rattle.std.specs.List.{slice_get}
use Rattle.std.proofs.lemmas.Grind.{flat_map-append}
use Rattle.std.proofs.lemmas.Option.{slice_get_within, get_or_from_slice_get}
use Rattle.mind_base.specs.declared.notes.Note.{Note}
use Rattle.journal_text.specs.Journal.{note_line, note_lines, heading}

take-at : (notes : List Note) (i : ℕ) (note : Note) → slice_get notes i ≡ Some note → take (i + 1) notes ≡ take i notes ++ note ∷ []
take-at notes i note e = take_more notes i note (slice_get_within notes i note e)
    ∙ ap (λ y. take i notes ++ y ∷ []) (get_or_from_slice_get notes i note note e)

pub line-more : (notes : List Note) (note : Note) → note_lines (notes ++ note ∷ []) ≡ note_lines notes ++ note_line note
line-more notes note = flat_map-append note_line notes (note ∷ []) ∙ ap (λ text. note_lines notes ++ text) (append-nil (note_line note))

pub line-at : (notes : List Note) (i : ℕ) (note : Note) (old new : List ℕ) → slice_get notes i ≡ Some note → old ≡ heading ++ note_lines (take i notes)
    → new ≡ old ++ note_line note → new ≡ heading ++ note_lines (take (i + 1) notes)
line-at notes i note old new at before more = more ∙ ap (λ text. text ++ note_line note) before
    ∙ append_assoc heading (note_lines (take i notes)) (note_line note)
    ∙ ap (λ text. heading ++ text) (sym (line-more (take i notes) note) ∙ ap note_lines (sym (take-at notes i note at)))
