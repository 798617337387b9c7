-- A scan of files from the front, one step at a time.
use Rattle.std.proofs.Common.{◌≡◌, ℕ, ◌+◌, ◌<◌, List, ◌∙◌, ap, sym, subst, length, suc, drop, get_or, cond, nat_eq, Some, add-one, drop-cons}
use Rattle.std.specs.Global.{Vec}
use Rattle.std.specs.FinMap.{get, get-insert}
use Rattle.std.specs.Cmp.Lexicographic.{texts_ties, pointwise}
use Rattle.std.proofs.lemmas.Cmp.{nat_list_cmp_total}
use Rattle.mind_base.specs.Store.{file_map}
use Rattle.mind_base.specs.MemStore.{contents}

pub get-scanned : (files : List (List ℕ × Vec ℕ)) (i : ℕ) (d : List ℕ × Vec ℕ) (name : List ℕ) → i < length files
    → get (file_map (contents (drop i files))) name
    ≡ cond (pointwise nat_eq name (get_or files i d).0) (Some (get_or files i d).1.items) (get (file_map (contents (drop (i + 1) files))) name)
get-scanned files i d name within =
    ap (λ fs. get (file_map (contents fs)) name) (drop-cons files i d within)
    ∙ get-insert nat_list_cmp_total (file_map (contents (drop (suc i) files))) (get_or files i d).0 (get_or files i d).1.items name
    ∙ ap (λ b. cond b (Some (get_or files i d).1.items) (get (file_map (contents (drop (suc i) files))) name)) (sym (texts_ties name (get_or files i d).0))
    ∙ ap (λ n. cond (pointwise nat_eq name (get_or files i d).0) (Some (get_or files i d).1.items) (get (file_map (contents (drop n files))) name)) (sym (add-one i))

-- the same for the file that stands at that place
pub get-at_file : (files : List (List ℕ × Vec ℕ)) (i : ℕ) (file : List ℕ × Vec ℕ) (name : List ℕ) → i < length files → file ≡ get_or files i file
    → get (file_map (contents (drop i files))) name
    ≡ cond (pointwise nat_eq name file.0) (Some file.1.items) (get (file_map (contents (drop (i + 1) files))) name)
get-at_file files i file name within is =
    let P : List ℕ × Vec ℕ → Type 0 = λ f. get (file_map (contents (drop i files))) name
    ≡ cond (pointwise nat_eq name f.0) (Some f.1.items) (get (file_map (contents (drop (i + 1) files))) name) in
    subst P (sym is) (get-scanned files i file name within)
