-- A loop that turns the entries one by one: what is still to do from here was what was to do at first.
use Rattle.std.proofs.Common.{◌≡◌, ℕ, ◌+◌, ◌<◌, ◌≤◌, List, [], ◌∷◌, ◌++◌, length, take, drop, ap, subst, ◌∙◌, suc, arith, append_assoc}
use Rattle.mind_base.specs.declared.notes.Note.{Note}
use Rattle.region_directory.specs.Directory.{DirectoryView}
use Rattle.region_directory.specs.declared.entries.Entry.{Entry}
use Rattle.bounded_split.specs.Epoch.{Turn, entries_left}

-- what becomes of the list when the entries from i on are still to be turned, and their notes
abbrev pub left_from : (List Entry → List Turn) → List Entry → ℕ → List Entry
left_from turns es i = take i es ++ entries_left (turns (drop i es))

abbrev pub notes_from : (List Turn → List Note) → (List Entry → List Turn) → List Entry → ℕ → List Note
notes_from told turns es i = told (turns (drop i es))

-- where the loop stands: the directory and the log as they are, how many entries there may be, and how many turned
pub record IsWalking (turns : List Entry → List Turn) (told : List Turn → List Note) (all : List Turn) (first now : DirectoryView) (before notes : List Note) (spare i done : ℕ) : Type 0 where
  pub slots : now.slots ≡ first.slots
  pub most : now.most ≡ first.most
  pub left : left_from turns now.entries i ≡ entries_left all
  pub noted : notes ++ notes_from told turns now.entries i ≡ before ++ told all
  pub count : done + length (notes_from told turns now.entries i) ≡ length (told all)
  pub room : length now.entries ≤ spare
  pub few : done ≤ i
  pub within : i ≤ length now.entries

-- an entry stays as it is
pub walking-stays : (turns : List Entry → List Turn) (told : List Turn → List Note) (all : List Turn) (first now : DirectoryView) (before notes : List Note) (spare less i done : ℕ) → IsWalking turns told all first now before notes spare i done → i < length now.entries
    → left_from turns now.entries (suc i) ≡ left_from turns now.entries i → notes_from told turns now.entries (suc i) ≡ notes_from told turns now.entries i → spare ≤ less → IsWalking turns told all first now before notes less (i + 1) done
walking-stays turns told all first now before notes spare less i done h lt left same room =
    let n : suc i ≡ i + 1 = omega arith in
    subst (λ (k : ℕ). IsWalking turns told all first now before notes less k done) n (record {
      slots = h.slots;
      most = h.most;
      left = left ∙ h.left;
      noted = ap (λ xs. notes ++ xs) same ∙ h.noted;
      count = ap (λ xs. done + length xs) same ∙ h.count;
      room = omega (arith, h.room, room);
      few = omega (arith, h.few);
      within = omega arith;
    })

-- one entry is turned, and noted so
pub walking-turns : (turns after : List Entry → List Turn) (told : List Turn → List Note) (all : List Turn) (first now : DirectoryView) (es : List Entry) (before notes noted : List Note) (note : Note) (spare less i j done : ℕ) → IsWalking turns told all first now before notes spare i done
    → left_from after es j ≡ left_from turns now.entries i → note ∷ notes_from told after es j ≡ notes_from told turns now.entries i → noted ≡ notes ++ note ∷ [] → length es ≤ less → suc i ≤ j → j ≤ length es
    → IsWalking after told all first (record now { entries = es }) before noted less j (done + 1)
walking-turns turns after told all first now es before notes noted note spare less i j done h left same log room far within =
    let rest = notes_from told after es j in record {
      slots = h.slots;
      most = h.most;
      left = left ∙ h.left;
      noted = ap (λ xs. xs ++ rest) log ∙ append_assoc notes (note ∷ []) rest ∙ ap (λ xs. notes ++ xs) same ∙ h.noted;
      count = omega (arith, h.count, ap length same);
      room = room;
      few = omega (arith, h.few);
      within = within;
    }
