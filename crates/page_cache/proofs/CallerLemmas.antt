-- What a caller's proof cites: which frame a page has after each call, and what the answers of a put tell.
use Rattle.std.proofs.Common.{◌≡◌, ℕ, zero, suc, ◌+◌, ◌-◌, ◌<◌, ◌≤◌, Bool, true, false, cond, List, [], ◌∷◌, ◌++◌, length, take, slice_get, Option, Some, None, option_map, refl, sym, ap, subst, ◌∙◌, arith}
use Rattle.std.specs.Cmp.{IsEquivalence}
use Rattle.std.specs.Option.{option_map_or}
use Rattle.std.specs.List.{IsDistinct}
use Rattle.std.specs.Map.{keys_of, set_value}
use Rattle.std.proofs.lemmas.Map.{lookup-remove_entry, lookup-set_value}
use Rattle.mind_base.specs.Page.{PageView}
use Rattle.page_cache.specs.declared.frames.Frame.{Frame}
use Rattle.page_cache.specs.declared.frames.Put.TheVariants.{Fresh, Replaced, Pushed}
use Rattle.page_cache.specs.PageCache.{CacheView, IsPageCache, same_page, frame_of, without_page, with_first, with_change, entries_after_put, put_from, put_of}
use Rattle.page_cache.proofs.Laws.{same_page-true, same_page-refl, same_Bool}

same_page-flip : (a b : PageView) → same_page a b ≡ true → same_page b a ≡ true
same_page-flip a b h = subst (λ x. same_page b x ≡ true) (sym (same_page-true a b h)) (same_page-refl b)

pub same_page-is_equivalence : IsEquivalence same_page
same_page-is_equivalence = record {
  refl = same_page-refl;
  symm = λ a b. same_Bool (same_page a b) (same_page b a) (same_page-flip a b) (same_page-flip b a);
  congr = λ a b c h. ap (λ p. same_page p c) (same_page-true a b h);
}

-- the test of a page is that of each page that passes it
one_page : (page x y : PageView) → same_page page x ≡ true → same_page page y ≡ same_page x y
one_page page x y h = ap (λ p. same_page p y) (same_page-true page x h)

-- a page that is not held, by its other name
absent : (page other : PageView) (entries : List (PageView × Frame)) (b : Bool) → same_page page other ≡ b → frame_of page entries ≡ None → frame_of other entries ≡ cond b None (frame_of other entries)
absent page other entries true is h = ap (λ p. frame_of p entries) (sym (same_page-true page other is)) ∙ h
absent page other entries false is h = refl

-- a page that is taken out is held no more, and every other page as before
pub frame_of-without : (page other : PageView) (entries : List (PageView × Frame)) → IsDistinct same_page (keys_of entries) → frame_of other (without_page page entries) ≡ cond (same_page page other) None (frame_of other entries)
frame_of-without page other entries distinct = lookup-remove_entry same_page-is_equivalence (same_page page) (one_page page) other entries distinct

-- a page whose frame is changed in its place has the changed frame, and every other page its own
pub frame_of-with_change : (change : Frame → Frame) (page other : PageView) (entries : List (PageView × Frame)) → frame_of other (with_change change page entries) ≡ cond (same_page page other) (option_map change (frame_of page entries)) (frame_of other entries)
frame_of-with_change change page other entries = by_frame (frame_of page entries) refl where
  by_frame : (found : Option Frame) → frame_of page entries ≡ found → frame_of other (option_map_or (λ frame. set_value (same_page page) entries (change frame)) found entries) ≡ cond (same_page page other) (option_map change found) (frame_of other entries)
  by_frame None h = absent page other entries (same_page page other) refl h
  by_frame (Some frame) h = lookup-set_value same_page-is_equivalence (same_page page) (one_page page) other (change frame) entries (rw h refl)

first_or : (page other : PageView) (frame : Frame) (entries : List (PageView × Frame)) (b : Bool) → same_page page other ≡ b → cond b (Some frame) (cond b None (frame_of other entries)) ≡ cond b (Some frame) (frame_of other entries)
first_or page other frame entries true is = refl
first_or page other frame entries false is = refl

-- a page that goes first with another frame has that frame, and every other page its own
pub frame_of-first : (page other : PageView) (frame : Frame) (entries : List (PageView × Frame)) → IsDistinct same_page (keys_of entries) → frame_of other ((page, frame) ∷ without_page page entries) ≡ cond (same_page page other) (Some frame) (frame_of other entries)
frame_of-first page other frame entries distinct =
    ap (λ b. cond b (Some frame) (frame_of other (without_page page entries))) (same_page-is_equivalence.symm other page)
    ∙ (ap (λ rest. cond (same_page page other) (Some frame) rest) (frame_of-without page other entries distinct)
    ∙ first_or page other frame entries (same_page page other) refl)

-- a page that is used has the changed frame, and every other page its own
pub frame_of-with_first : (change : Frame → Frame) (page other : PageView) (entries : List (PageView × Frame)) → IsDistinct same_page (keys_of entries) → frame_of other (with_first change page entries) ≡ cond (same_page page other) (option_map change (frame_of page entries)) (frame_of other entries)
frame_of-with_first change page other entries distinct = by_frame (frame_of page entries) refl where
  by_frame : (found : Option Frame) → frame_of page entries ≡ found → frame_of other (option_map_or (λ frame. (page, change frame) ∷ without_page page entries) found entries) ≡ cond (same_page page other) (option_map change found) (frame_of other entries)
  by_frame None h = absent page other entries (same_page page other) refl h
  by_frame (Some frame) h = frame_of-first page other (change frame) entries distinct

-- a place that is empty has no entry behind it
take-empty : (entries : List (PageView × Frame)) (i : ℕ) → slice_get entries i ≡ None → take i entries ≡ entries
take-empty [] zero h = refl
take-empty [] (suc i) h = refl
take-empty (entry ∷ entries) zero h = let never : ⊥ = cc in absurd never
take-empty (entry ∷ entries) (suc i) h = ap (λ es. entry ∷ es) (take-empty entries i h)

-- the entry in the last place is the last
take-last : (entries : List (PageView × Frame)) (i : ℕ) (last : PageView × Frame) → slice_get entries i ≡ Some last → length entries ≤ suc i → entries ≡ take i entries ++ last ∷ []
take-last [] i last h fits = let never : ⊥ = cc in absurd never
take-last (entry ∷ []) zero last h fits = let same : entry ≡ last = cc in ap (λ e. e ∷ []) same
take-last (entry ∷ next ∷ entries) zero last h fits = absurd (omega arith)
take-last (entry ∷ entries) (suc i) last h fits = ap (λ es. entry ∷ es) (take-last entries i last h (omega arith))

fresh_from : (found : Option Frame) (last : Option (PageView × Frame)) → put_from found last ≡ Fresh → (found ≡ None) × (last ≡ None)
fresh_from None None h = (refl, refl)
fresh_from None (Some last) h = let never : ⊥ = cc in absurd never
fresh_from (Some old) last h = let never : ⊥ = cc in absurd never

replaced_from : (found : Option Frame) (last : Option (PageView × Frame)) (old : Frame) → put_from found last ≡ Replaced old → found ≡ Some old
replaced_from None None old h = let never : ⊥ = cc in absurd never
replaced_from None (Some last) old h = let never : ⊥ = cc in absurd never
replaced_from (Some was) last old h = let same : was ≡ old = cc in ap Some same

pushed_from : (found : Option Frame) (last : Option (PageView × Frame)) (page : PageView) (old : Frame) → put_from found last ≡ Pushed page old → (found ≡ None) × (last ≡ Some (page, old))
pushed_from None None page old h = let never : ⊥ = cc in absurd never
pushed_from None (Some last) page old h = let key : last.0 ≡ page = cc in let frame : last.1 ≡ old = cc in (refl, λ i. Some (key i, frame i))
pushed_from (Some was) last page old h = let never : ⊥ = cc in absurd never

-- the entries after a put, by the frame that the page had
put_entries_by : CacheView → PageView → Frame → Option Frame → List (PageView × Frame)
put_entries_by cache page frame found = option_map_or (λ old. (page, frame) ∷ without_page page cache.entries) found ((page, frame) ∷ take (cache.frames - 1) cache.entries)

-- a fresh page was not held, and comes before all that were
pub put_of-Fresh : (cache : CacheView) (page : PageView) (frame : Frame) → put_of cache page ≡ Fresh → (frame_of page cache.entries ≡ None) × (entries_after_put cache page frame ≡ (page, frame) ∷ cache.entries)
unfolding put_entries_by
put_of-Fresh cache page frame h =
    let parts : (frame_of page cache.entries ≡ None) × (slice_get cache.entries (cache.frames - 1) ≡ None) = fresh_from (frame_of page cache.entries) (slice_get cache.entries (cache.frames - 1)) h in
    (parts.0, ap (put_entries_by cache page frame) parts.0 ∙ ap (λ es. (page, frame) ∷ es) (take-empty cache.entries (cache.frames - 1) parts.1))

-- a replaced frame was the page's
pub put_of-Replaced : (cache : CacheView) (page : PageView) (frame old : Frame) → put_of cache page ≡ Replaced old → (frame_of page cache.entries ≡ Some old) × (entries_after_put cache page frame ≡ (page, frame) ∷ without_page page cache.entries)
unfolding put_entries_by
put_of-Replaced cache page frame old h =
    let held : frame_of page cache.entries ≡ Some old = replaced_from (frame_of page cache.entries) (slice_get cache.entries (cache.frames - 1)) old h in
    (held, ap (put_entries_by cache page frame) held)

-- what is known of a put that pushed a page out
pub record HasPushed (cache : CacheView) (page : PageView) (frame : Frame) (out : PageView) (old : Frame) : Type 0 where
  pub absent : frame_of page cache.entries ≡ None
  pub others : List (PageView × Frame)
  pub before : cache.entries ≡ others ++ (out, old) ∷ []
  pub after : entries_after_put cache page frame ≡ (page, frame) ∷ others

-- a page that is pushed out was the last, and the page was not held
pub put_of-Pushed : (cache : CacheView) (page : PageView) (frame : Frame) (out : PageView) (old : Frame) → IsPageCache cache → put_of cache page ≡ Pushed out old → HasPushed cache page frame out old
unfolding put_entries_by
put_of-Pushed cache page frame out old is h =
    let parts : (frame_of page cache.entries ≡ None) × (slice_get cache.entries (cache.frames - 1) ≡ Some (out, old)) = pushed_from (frame_of page cache.entries) (slice_get cache.entries (cache.frames - 1)) out old h in
    let some : 0 < cache.frames = is.some in
    let fits : length cache.entries ≤ cache.frames = is.fits in
    record {
      absent = parts.0;
      others = take (cache.frames - 1) cache.entries;
      before = take-last cache.entries (cache.frames - 1) (out, old) parts.1 (omega arith);
      after = ap (put_entries_by cache page frame) parts.0;
    }

-- a page that is held is one of the entries
pub length-held : (page : PageView) (frame : Frame) (entries : List (PageView × Frame)) → frame_of page entries ≡ Some frame → length (without_page page entries) + 1 ≡ length entries
length-held page frame [] h = let never : ⊥ = cc in absurd never
length-held page frame (entry ∷ entries) h = by (length-held page frame entries) (same_page page entry.0) h where
  by : (frame_of page entries ≡ Some frame → length (without_page page entries) + 1 ≡ length entries) → (b : Bool)
      → cond b (Some entry.1) (frame_of page entries) ≡ Some frame → length (cond b entries (entry ∷ without_page page entries)) + 1 ≡ length (entry ∷ entries)
  by rest true e = omega arith
  by rest false e = omega (arith, rest e)
