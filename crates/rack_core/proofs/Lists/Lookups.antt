-- What is found in the lists that a blade keeps, after each change of them.
use Rattle.std.proofs.Common.{◌≡◌, ℕ, zero, suc, ◌+◌, ◌-◌, ◌<◌, ◌≤◌, Bool, true, false, cond, not, ◌||◌, ap, sym, refl, subst, List, [], ◌∷◌, ◌++◌, length, take, slice_get, slice_set, length-take, Option, Some, None, option_map, arith, ◌∙◌, ◌==◌}
use Rattle.std.specs.Prelude.{if◌then◌else◌}
use Rattle.std.specs.List.{AllByRecursion, IsDistinct}
use Rattle.std.specs.Option.{option_map_or}
use Rattle.std.specs.Map.{keys_of, set_value}
use Rattle.std.proofs.lemmas.Map.{keys-set_value, length-set_value}
use Rattle.std.proofs.lemmas.Bool.{eqb-true, eq-eqb}
use Rattle.mind_base.specs.Page.{PageView}
use Rattle.page_cache.specs.PageCache.{CacheView, IsPageCache, same_page, frame_of, without_page, with_first, with_change, entries_after_put, put_of}
use Rattle.page_cache.specs.declared.frames.Frame.{Frame}
use Rattle.page_cache.specs.declared.frames.Put.{Put}
use Rattle.page_cache.specs.declared.frames.Put.TheVariants.{Fresh, Replaced, Pushed}
use Rattle.page_cache.proofs.Callers.{same_page-true, same_page-refl, same_page-is_equivalence, frame_of-without, frame_of-with_change, frame_of-with_first, frame_of-first, put_of-Fresh, put_of-Replaced, put_of-Pushed, length-held}
use Rattle.compute_blade.specs.Blade.{is_for, is_asked, request_for, requests_without}
use Rattle.compute_blade.specs.Harts.{holding}
use Rattle.compute_blade.specs.declared.kept.Asked.{Asked}

-- ---- frames

abbrev pub Entries : Type 0
Entries = List (PageView × Frame)

flipped : {X : Type 0} (page other : PageView) (x y : X) → cond (same_page page other) x y ≡ (if same_page other page then x else y)
flipped page other x y = ap (λ b. cond b x y) (same_page-is_equivalence.symm page other)

-- a page that is taken out is held no more
pub found-without : (page : PageView) (entries : Entries) → IsDistinct same_page (keys_of entries) → (other : PageView)
    → frame_of other (without_page page entries) ≡ (if same_page other page then None else frame_of other entries)
found-without page entries h other = frame_of-without page other entries h ∙ flipped page other None (frame_of other entries)

-- a page that goes first, and one whose frame changes in its place, has the changed frame
pub found-with_first : (change : Frame → Frame) (page : PageView) (frame : Frame) (entries : Entries) → IsDistinct same_page (keys_of entries)
    → frame_of page entries ≡ Some frame → (other : PageView)
    → frame_of other (with_first change page entries) ≡ (if same_page other page then Some (change frame) else frame_of other entries)
found-with_first change page frame entries h e other =
    frame_of-with_first change page other entries h
    ∙ ap (λ f. cond (same_page page other) (option_map change f) (frame_of other entries)) e
    ∙ flipped page other (Some (change frame)) (frame_of other entries)

pub found-with_change : (change : Frame → Frame) (page : PageView) (frame : Frame) (entries : Entries)
    → frame_of page entries ≡ Some frame → (other : PageView)
    → frame_of other (with_change change page entries) ≡ (if same_page other page then Some (change frame) else frame_of other entries)
found-with_change change page frame entries e other =
    frame_of-with_change change page other entries
    ∙ ap (λ f. cond (same_page page other) (option_map change f) (frame_of other entries)) e
    ∙ flipped page other (Some (change frame)) (frame_of other entries)

-- a page that is used is found as it was
pub found-used : (page : PageView) (entries : Entries) → IsDistinct same_page (keys_of entries) → (other : PageView)
    → frame_of other (with_first (λ frame. frame) page entries) ≡ frame_of other entries
found-used page entries h other = frame_of-with_first (λ frame. frame) page other entries h ∙ by (same_page page other) refl (frame_of page entries) refl where
  by : (b : Bool) → same_page page other ≡ b → (f : Option Frame) → frame_of page entries ≡ f → cond b (option_map (λ frame. frame) f) (frame_of other entries) ≡ frame_of other entries
  by true e None g = sym (ap (λ q. frame_of q entries) (sym (same_page-true page other e)) ∙ g)
  by true e (Some frame) g = sym (ap (λ q. frame_of q entries) (sym (same_page-true page other e)) ∙ g)
  by false e f g = refl

-- ---- caches stay caches

-- what is true of all keys is true of those that are left
keys-without : (P : PageView → Type 0) (page : PageView) (entries : Entries) → AllByRecursion P (keys_of entries) → AllByRecursion P (keys_of (without_page page entries))
keys-without P page [] h = tt
keys-without P page (entry ∷ entries) h = by (keys-without P page entries h.1) (same_page page entry.0) where
  by : AllByRecursion P (keys_of (without_page page entries)) → (b : Bool) → AllByRecursion P (keys_of (cond b entries (entry ∷ without_page page entries)))
  by rest true = h.1
  by rest false = (h.0, rest)

distinct-without : (page : PageView) (entries : Entries) → IsDistinct same_page (keys_of entries) → IsDistinct same_page (keys_of (without_page page entries))
unfolding IsDistinct
distinct-without page [] h = tt
distinct-without page (entry ∷ entries) h = by (distinct-without page entries h.1) (same_page page entry.0) where
  by : IsDistinct same_page (keys_of (without_page page entries)) → (b : Bool) → IsDistinct same_page (keys_of (cond b entries (entry ∷ without_page page entries)))
  by rest true = h.1
  by rest false = (keys-without (λ y. same_page entry.0 y ≡ false) page entries h.0, rest)

-- the page that is taken out is none of those left
apart-without : (page : PageView) (entries : Entries) → IsDistinct same_page (keys_of entries) → AllByRecursion (λ y. same_page page y ≡ false) (keys_of (without_page page entries))
unfolding IsDistinct
apart-without page [] h = tt
apart-without page (entry ∷ entries) h = by (apart-without page entries h.1) (same_page page entry.0) refl where
  by : AllByRecursion (λ y. same_page page y ≡ false) (keys_of (without_page page entries)) → (b : Bool) → same_page page entry.0 ≡ b
      → AllByRecursion (λ y. same_page page y ≡ false) (keys_of (cond b entries (entry ∷ without_page page entries)))
  by rest true e = subst (λ q. AllByRecursion (λ y. same_page q y ≡ false) (keys_of entries)) (sym (same_page-true page entry.0 e)) h.0
  by rest false e = (e, rest)

-- a page that is not held is apart from all keys
absent_apart : (page : PageView) (entries : Entries) → frame_of page entries ≡ None → AllByRecursion (λ y. same_page page y ≡ false) (keys_of entries)
absent_apart page [] h = tt
absent_apart page (entry ∷ entries) h = by (absent_apart page entries) (same_page page entry.0) refl h where
  by : (frame_of page entries ≡ None → AllByRecursion (λ y. same_page page y ≡ false) (keys_of entries)) → (b : Bool) → same_page page entry.0 ≡ b
      → cond b (Some entry.1) (frame_of page entries) ≡ None → AllByRecursion (λ y. same_page page y ≡ false) (keys_of (entry ∷ entries))
  by rest true e n = let never : ⊥ = cc in absurd never
  by rest false e n = (e, rest n)

length-without : (page : PageView) (entries : Entries) → length (without_page page entries) ≤ length entries
length-without page [] = omega arith
length-without page (entry ∷ entries) = by (length-without page entries) (same_page page entry.0) where
  by : length (without_page page entries) ≤ length entries → (b : Bool) → length (cond b entries (entry ∷ without_page page entries)) ≤ length (entry ∷ entries)
  by rest true = omega arith
  by rest false = omega (arith, rest)

pub cache-without : (page : PageView) (cache : CacheView) → IsPageCache cache → IsPageCache (holding cache (without_page page cache.entries))
cache-without page cache h =
    let fits : length cache.entries ≤ cache.frames = h.fits in
    record {
      some = h.some;
      fits = omega (arith, length-without page cache.entries);
      distinct = distinct-without page cache.entries h.distinct;
    }

-- a page that was taken out goes first
first_again : (cache : CacheView) (page : PageView) (old frame : Frame) → IsPageCache cache → frame_of page cache.entries ≡ Some old
    → IsPageCache (holding cache ((page, frame) ∷ without_page page cache.entries))
unfolding IsDistinct
first_again cache page old frame h e =
    let fits : length cache.entries ≤ cache.frames = h.fits in
    record {
      some = h.some;
      fits = omega (arith, length-held page old cache.entries e);
      distinct = (apart-without page cache.entries h.distinct, distinct-without page cache.entries h.distinct);
    }

pub cache-with_first : (change : Frame → Frame) (page : PageView) (cache : CacheView) → IsPageCache cache → IsPageCache (holding cache (with_first change page cache.entries))
cache-with_first change page cache h = by (frame_of page cache.entries) refl where
  by : (f : Option Frame) → frame_of page cache.entries ≡ f → IsPageCache (holding cache (option_map_or (λ frame. (page, change frame) ∷ without_page page cache.entries) f cache.entries))
  by None e = h
  by (Some frame) e = first_again cache page frame (change frame) h e

pub cache-with_change : (change : Frame → Frame) (page : PageView) (cache : CacheView) → IsPageCache cache → IsPageCache (holding cache (with_change change page cache.entries))
cache-with_change change page cache h = by h.fits (frame_of page cache.entries) where
  by : length cache.entries ≤ cache.frames → (f : Option Frame) → IsPageCache (holding cache (option_map_or (λ frame. set_value (same_page page) cache.entries (change frame)) f cache.entries))
  by fits None = h
  by fits (Some frame) = record {
    some = h.some;
    fits = omega (arith, length-set_value (same_page page) cache.entries (change frame));
    distinct = subst (IsDistinct same_page) (sym (keys-set_value (same_page page) cache.entries (change frame))) h.distinct;
  }

-- ---- a page that comes

-- the last entry is apart from one before it
apart_last : (page : PageView) (others : Entries) (out : PageView) (old : Frame) → AllByRecursion (λ y. same_page page y ≡ false) (keys_of (others ++ (out, old) ∷ [])) → same_page page out ≡ false
apart_last page [] out old a = a.0
apart_last page (other ∷ others) out old a = apart_last page others out old a.1

-- the entries before the last one
last_out : (others : Entries) (out : PageView) (old : Frame) → IsDistinct same_page (keys_of (others ++ (out, old) ∷ [])) → (other : PageView)
    → frame_of other others ≡ (if same_page other out then None else frame_of other (others ++ (out, old) ∷ []))
unfolding IsDistinct
last_out [] out old h other = by (same_page other out) where
  by : (b : Bool) → None ≡ (if b then None else cond b (Some old) None)
  by true = refl
  by false = refl
last_out (entry ∷ others) out old h other = by (last_out others out old h.1 other) (same_page other entry.0) refl (same_page other out) refl where
  by : frame_of other others ≡ (if same_page other out then None else frame_of other (others ++ (out, old) ∷ [])) → (b : Bool) → same_page other entry.0 ≡ b → (c : Bool) → same_page other out ≡ c
      → cond b (Some entry.1) (frame_of other others) ≡ (if c then None else cond b (Some entry.1) (frame_of other (others ++ (out, old) ∷ [])))
  by rest true e true f =
      let never : true ≡ false = sym f ∙ ap (λ q. same_page q out) (same_page-true other entry.0 e) ∙ apart_last entry.0 others out old h.0 in
      absurd (cc)
  by rest true e false f = refl
  by rest false e c f = rest ∙ ap (λ c. if c then None else frame_of other (others ++ (out, old) ∷ [])) f

found_last : (others : Entries) (out : PageView) (old : Frame) → IsDistinct same_page (keys_of (others ++ (out, old) ∷ [])) → frame_of out (others ++ (out, old) ∷ []) ≡ Some old
unfolding IsDistinct
found_last [] out old h = ap (λ b. cond b (Some old) None) (same_page-refl out)
found_last (entry ∷ others) out old h = by (found_last others out old h.1) (same_page out entry.0) refl where
  by : frame_of out (others ++ (out, old) ∷ []) ≡ Some old → (b : Bool) → same_page out entry.0 ≡ b → cond b (Some entry.1) (frame_of out (others ++ (out, old) ∷ [])) ≡ Some old
  by rest true e =
      let never : true ≡ false = sym e ∙ same_page-is_equivalence.symm out entry.0 ∙ apart_last entry.0 others out old h.0 in
      absurd (cc)
  by rest false e = rest

-- what is true of all keys is true of the first of them
keys_before : (P : PageView → Type 0) (others : Entries) (last : Entries) → AllByRecursion P (keys_of (others ++ last)) → AllByRecursion P (keys_of others)
keys_before P [] last h = tt
keys_before P (entry ∷ others) last h = (h.0, keys_before P others last h.1)

distinct_before : (others last : Entries) → IsDistinct same_page (keys_of (others ++ last)) → IsDistinct same_page (keys_of others)
unfolding IsDistinct
distinct_before [] last h = tt
distinct_before (entry ∷ others) last h = (keys_before (λ y. same_page entry.0 y ≡ false) others last h.0, distinct_before others last h.1)

length_before : (others : Entries) (entry : PageView × Frame) → length (others ++ entry ∷ []) ≡ length others + 1
length_before [] entry = refl
length_before (other ∷ others) entry = omega (arith, length_before others entry)

-- a put into a cache with room, or in place of the page's own frame
pub found-put_fresh : (cache : CacheView) (page : PageView) (frame : Frame) → put_of cache page ≡ Fresh → (other : PageView)
    → frame_of other (entries_after_put cache page frame) ≡ (if same_page other page then Some frame else frame_of other cache.entries)
found-put_fresh cache page frame e other = ap (frame_of other) (put_of-Fresh cache page frame e).1

pub found-put_replaced : (cache : CacheView) (page : PageView) (frame old : Frame) → IsPageCache cache → put_of cache page ≡ Replaced old → (other : PageView)
    → frame_of other (entries_after_put cache page frame) ≡ (if same_page other page then Some frame else frame_of other cache.entries)
found-put_replaced cache page frame old is e other =
    ap (frame_of other) (put_of-Replaced cache page frame old e).1
    ∙ frame_of-first page other frame cache.entries is.distinct ∙ flipped page other (Some frame) (frame_of other cache.entries)

-- a put that pushes a page out: that page was held, and all others are found as they were
pub record IsPushed (cache : CacheView) (page : PageView) (frame : Frame) (out : PageView) (old : Frame) : Type 0 where
  pub held : frame_of out cache.entries ≡ Some old
  pub found : (other : PageView) → frame_of other (entries_after_put cache page frame)
      ≡ (if same_page other page then Some frame else (if same_page other out then None else frame_of other cache.entries))

pub found-put_pushed : (cache : CacheView) (page : PageView) (frame : Frame) (out : PageView) (old : Frame) → IsPageCache cache
    → put_of cache page ≡ Pushed out old → IsPushed cache page frame out old
found-put_pushed cache page frame out old is e =
    let p = put_of-Pushed cache page frame out old is e in
    let distinct : IsDistinct same_page (keys_of (p.others ++ (out, old) ∷ [])) = subst (λ es. IsDistinct same_page (keys_of es)) p.before is.distinct in
    record {
      held = ap (frame_of out) p.before ∙ found_last p.others out old distinct;
      found = λ other. ap (frame_of other) p.after
          ∙ ap (cond (same_page other page) (Some frame)) (last_out p.others out old distinct other
          ∙ ap (λ es. if same_page other out then None else frame_of other es) (sym p.before));
    }

put-shape : (cache : CacheView) (page : PageView) (frame : Frame) → IsPageCache cache → (put : Put) → put_of cache page ≡ put
    → IsPageCache (holding cache (entries_after_put cache page frame))
unfolding IsDistinct
put-shape cache page frame is Fresh e =
    let h = put_of-Fresh cache page frame e in
    let some : 0 < cache.frames = is.some in
    let all : (page, frame) ∷ take (cache.frames - 1) cache.entries ≡ (page, frame) ∷ cache.entries =
    sym (ap (λ f. option_map_or (λ old. (page, frame) ∷ without_page page cache.entries) f ((page, frame) ∷ take (cache.frames - 1) cache.entries)) h.0) ∙ h.1 in
    subst (λ es. IsPageCache (holding cache es)) (sym h.1) (record {
      some = is.some;
      fits = omega (arith, ap length all, length-take (cache.frames - 1) cache.entries);
      distinct = (absent_apart page cache.entries h.0, is.distinct);
    })
put-shape cache page frame is (Replaced old) e =
    let h = put_of-Replaced cache page frame old e in
    subst (λ es. IsPageCache (holding cache es)) (sym h.1) (first_again cache page old frame is h.0)
put-shape cache page frame is (Pushed out old) e =
    let p = put_of-Pushed cache page frame out old is e in
    let fits : length cache.entries ≤ cache.frames = is.fits in
    let absent = absent_apart page cache.entries p.absent in
    subst (λ es. IsPageCache (holding cache es)) (sym p.after) (record {
      some = is.some;
      fits = omega (arith, ap length p.before, length_before p.others (out, old));
      distinct = (
        keys_before (λ y. same_page page y ≡ false) p.others ((out, old) ∷ []) (subst (λ es. AllByRecursion (λ y. same_page page y ≡ false) (keys_of es)) p.before absent),
        distinct_before p.others ((out, old) ∷ []) (subst (λ es. IsDistinct same_page (keys_of es)) p.before is.distinct),
      );
    })

pub cache-put : (cache : CacheView) (page : PageView) (frame : Frame) → IsPageCache cache → IsPageCache (holding cache (entries_after_put cache page frame))
cache-put cache page frame is = put-shape cache page frame is (put_of cache page) refl

-- ---- requests

-- a request that is not out is not found
pub unasked : (page : PageView) (requests : List Asked) → is_asked page requests ≡ false → request_for page requests ≡ None
unasked page [] h = refl
unasked page (asked ∷ requests) h = by (unasked page requests) (is_for page asked) h where
  by : (is_asked page requests ≡ false → request_for page requests ≡ None) → (b : Bool) → (b || is_asked page requests) ≡ false → cond b (Some asked) (request_for page requests) ≡ None
  by rest true e = let never : ⊥ = cc in absurd never
  by rest false e = rest e

-- a request is appended
pub request-more : (requests : List Asked) (asked : Asked) → request_for asked.page requests ≡ None → (other : PageView)
    → request_for other (requests ++ asked ∷ []) ≡ (if same_page other asked.page then Some asked else request_for other requests)
request-more [] asked h other = refl
request-more (first ∷ requests) asked h other =
    by (λ n. request-more requests asked n other) (same_page other first.page) refl (same_page other asked.page) refl (same_page asked.page first.page) refl h
  where
    by : (request_for asked.page requests ≡ None → request_for other (requests ++ asked ∷ []) ≡ (if same_page other asked.page then Some asked else request_for other requests))
        → (b : Bool) → same_page other first.page ≡ b → (c : Bool) → same_page other asked.page ≡ c → (d : Bool) → same_page asked.page first.page ≡ d
        → cond d (Some first) (request_for asked.page requests) ≡ None
        → cond b (Some first) (request_for other (requests ++ asked ∷ [])) ≡ (if c then Some asked else cond b (Some first) (request_for other requests))
    by rest b e c f true g n = let never : ⊥ = cc in absurd never
    by rest true e true f false g n =
        let never : true ≡ false = sym e ∙ ap (λ q. same_page q first.page) (same_page-true other asked.page f) ∙ g in
        absurd (cc)
    by rest true e false f false g n = refl
    by rest false e c f false g n = rest n ∙ ap (λ c. if c then Some asked else request_for other requests) f

-- the request for a page ends
pub request-answered : (page : PageView) (requests : List Asked) (other : PageView)
    → request_for other (requests_without page requests) ≡ (if same_page other page then None else request_for other requests)
request-answered page [] other = by (same_page other page) where
  by : (b : Bool) → request_for other [] ≡ (if b then None else request_for other [])
  by true = refl
  by false = refl
request-answered page (asked ∷ requests) other = by (request-answered page requests other) (same_page page asked.page) refl (same_page other page) refl where
  by : request_for other (requests_without page requests) ≡ (if same_page other page then None else request_for other requests)
      → (b : Bool) → same_page page asked.page ≡ b → (c : Bool) → same_page other page ≡ c
      → request_for other (cond (not b) (asked ∷ requests_without page requests) (requests_without page requests)) ≡ (if c then None else request_for other (asked ∷ requests))
  by rest true e true f = rest ∙ ap (λ c. if c then None else request_for other requests) f
  by rest true e false f =
      let away : same_page other asked.page ≡ false = ap (same_page other) (sym (same_page-true page asked.page e)) ∙ f in
      rest ∙ ap (λ c. if c then None else request_for other requests) f ∙ sym (ap (λ b. cond b (Some asked) (request_for other requests)) away)
  by rest false e true f =
      let away : same_page other asked.page ≡ false = ap (λ q. same_page q asked.page) (same_page-true other page f) ∙ e in
      ap (λ b. cond b (Some asked) (request_for other (requests_without page requests))) away
      ∙ rest ∙ ap (λ c. if c then None else request_for other requests) f
  by rest false e false f = ap (cond (same_page other asked.page) (Some asked)) (rest ∙ ap (λ c. if c then None else request_for other requests) f)

-- ---- lists

pub slice_get-set : {X : Type 0} (xs : List X) (i : ℕ) (old new : X) → slice_get xs i ≡ Some old → slice_get (slice_set xs i new) i ≡ Some new
slice_get-set [] i old new h = let never : ⊥ = cc in absurd never
slice_get-set (x ∷ xs) zero old new h = refl
slice_get-set (x ∷ xs) (suc i) old new h = slice_get-set xs i old new h

suc-away : (j i : ℕ) → (suc j == suc i) ≡ false → (j == i) ≡ false
suc-away j i h = by (j == i) refl where
  by : (b : Bool) → (j == i) ≡ b → b ≡ false
  by true e = let never : true ≡ false = sym (eq-eqb (suc j) (suc i) (ap suc (eqb-true j i e))) ∙ h in never
  by false e = refl

pub slice_get-set_other : {X : Type 0} (xs : List X) (i : ℕ) (new : X) (j : ℕ) → (j == i) ≡ false → slice_get (slice_set xs i new) j ≡ slice_get xs j
slice_get-set_other [] i new j h = refl
slice_get-set_other (x ∷ xs) zero new zero h = let never : ⊥ = cc in absurd never
slice_get-set_other (x ∷ xs) zero new (suc j) h = refl
slice_get-set_other (x ∷ xs) (suc i) new zero h = refl
slice_get-set_other (x ∷ xs) (suc i) new (suc j) h = slice_get-set_other xs i new j (suc-away j i h)
