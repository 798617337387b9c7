-- The endings of transitions one after another are the same as all at once.
use Rattle.std.proofs.Common.{◌≡◌, ℕ, Option, Some, List, [], ◌∷◌, ◌++◌, length, map, refl, ap, sym, ◌∙◌, append_assoc}
use Rattle.std.specs.List.{flat_map, slice_get}
use Rattle.std.proofs.lemmas.List.{append-nil, length-append}
use Rattle.mind_base.specs.declared.links.LinkName.{LinkName}
use Rattle.mind_base.specs.declared.notes.Note.{Note}
use Rattle.invalidate_multicast.specs.Transition.{acknowledged}
use Rattle.region_directory.specs.Entry.{changed_at}
use Rattle.region_directory.specs.declared.entries.Entry.{Entry}
use Rattle.wire_msg.specs.declared.msgs.Msg.{Msg}
use Rattle.switch_core.specs.Handling.{ended, noted_end, noted_at, ended_at, ended_over, ack_heard, all_ended, answered}
use Rattle.switch_core.specs.Switch.{SwitchView, SwitchEffect, with_entries, and_then}

changed-there : (change : Entry → Entry) (xs : List Entry) (y : Entry) (ys : List Entry) → changed_at (length xs) change (xs ++ y ∷ ys) ≡ xs ++ change y ∷ ys
changed-there change [] y ys = refl
changed-there change (x ∷ xs) y ys = ap (λ (es : List Entry). x ∷ es) (changed-there change xs y ys)

found-there : (xs : List Entry) (y : Entry) (ys : List Entry) → slice_get (xs ++ y ∷ ys) (length xs) ≡ Some y
found-there [] y ys = refl
found-there (x ∷ xs) y ys = found-there xs y ys

-- the switch with these entries, these messages and these notes
abbrev with_these : SwitchView → List Entry → List (LinkName × Msg) → List Note → SwitchEffect
with_these switch es sent notes = record { switch = with_entries switch es; sent = sent; noted = notes }

over-is : (ys xs : List Entry) (done : SwitchEffect) → done.switch.directory.entries ≡ xs ++ ys
    → ended_over (length ys) (length xs) done ≡ with_these done.switch (xs ++ map ended ys) done.sent (done.noted ++ flat_map noted_end ys)
over-is [] xs done h =
    ap (λ (es : List Entry). with_these done.switch es done.sent done.noted) h
    ∙ ap (λ (notes : List Note). with_these done.switch (xs ++ []) done.sent notes) (sym (append-nil done.noted))
over-is (y ∷ ys) xs done h =
    let next : SwitchEffect = and_then done (ended_at (length xs)) in
    let front : List Entry = xs ++ ended y ∷ [] in
    let here : Option Entry = slice_get done.switch.directory.entries (length xs) in
    let entries : next.switch.directory.entries ≡ front ++ ys =
    ap (changed_at (length xs) ended) h ∙ changed-there ended xs y ys ∙ sym (append_assoc xs (ended y ∷ []) ys) in
    let told : noted_at here ≡ noted_end y = ap (λ (es : List Entry). noted_at (slice_get es (length xs))) h ∙ ap noted_at (found-there xs y ys) in
    ap (λ (i : ℕ). ended_over (length ys) i next) (sym (length-append xs (ended y ∷ [])))
    ∙ over-is ys front next entries
    ∙ ap (λ (es : List Entry). with_these done.switch es (done.sent ++ []) ((done.noted ++ noted_at here) ++ flat_map noted_end ys)) (append_assoc xs (ended y ∷ []) (map ended ys))
    ∙ ap (λ (sent : List (LinkName × Msg)). with_these done.switch (xs ++ ended y ∷ map ended ys) sent ((done.noted ++ noted_at here) ++ flat_map noted_end ys)) (append-nil done.sent)
    ∙ ap (λ (notes : List Note). with_these done.switch (xs ++ ended y ∷ map ended ys) done.sent notes)
    (append_assoc done.noted (noted_at here) (flat_map noted_end ys) ∙ ap (λ (notes : List Note). done.noted ++ (notes ++ flat_map noted_end ys)) told)

-- what an acknowledgement makes of the switch
pub answered-is : (number blade count : ℕ) (switch : SwitchView) → answered number blade count switch ≡ all_ended (acknowledged number blade count switch.directory.entries) switch
answered-is number blade count switch = over-is (acknowledged number blade count switch.directory.entries) [] (ack_heard number blade count switch) refl
