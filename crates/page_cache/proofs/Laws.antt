-- Laws of the list of pages and frames.
use Rattle.std.proofs.Common.{◌≡◌, ℕ, zero, suc, ◌+◌, ◌-◌, ◌↔◌, Bool, true, false, cond, List, [], ◌∷◌, ◌++◌, take, reverse, find, slice_get, Option, Some, None, IsTrue, IfNone, option_map, if◌then◌else◌, refl, sym, ap, subst, ◌∙◌}
use Rattle.std.specs.Option.{option_map_or, option_or}
use Rattle.std.specs.Map.{lookup_entry, set_value}
use Rattle.std.proofs.lemmas.Bool.{eqb-true, eq-eqb, and_parts, and_from, leb-true, le-leb, ltb-true, lt-ltb}
use Rattle.std.proofs.lemmas.List.Folds.{find-append}
use Rattle.std.proofs.lemmas.List.{reverse-append}
use Rattle.lru.specs.LruCache.{LruCache, lru_cache, promoted, put_entries, displaced}
use Rattle.mind_base.specs.Page.{PageView}
use Rattle.mind_base.specs.Span.{SpanView, InSpan, in_span}
use Rattle.page_cache.specs.declared.frames.Frame.{Frame}
use Rattle.page_cache.specs.PageCache.{CacheView, same_page, frame_of, without_page, with_first, entries_after_put, put_from, put_of, put_kind_of, oldest_of}

-- pages that pass the test are one page
pub same_page-true : (a b : PageView) → same_page a b ≡ true → a ≡ b
same_page-true a b h =
    let parts = and_parts _ _ h in
    let domain : a.domain ≡ b.domain = eqb-true _ _ parts.0 in
    let number : a.number ≡ b.number = eqb-true _ _ parts.1 in
    λ i. record { domain = domain i; number = number i }

pub same_page-refl : (page : PageView) → same_page page page ≡ true
same_page-refl page = and_from _ _ (eq-eqb page.domain page.domain refl) (eq-eqb page.number page.number refl)

-- the entry of a page is the page and its frame
pub lookup_entry-frame_of : (page : PageView) (entries : List (PageView × Frame)) → lookup_entry (same_page page) entries ≡ option_map (λ frame. (page, frame)) (frame_of page entries)
lookup_entry-frame_of page [] = refl
lookup_entry-frame_of page (entry ∷ entries) =
    (elim (same_page page entry.0) as (λ b. same_page page entry.0 ≡ b → cond b (Some entry) (lookup_entry (same_page page) entries) ≡ option_map (λ frame. (page, frame)) (cond b (Some entry.1) (frame_of page entries))) [
      | true ↦ λ h. let same : page ≡ entry.0 = same_page-true page entry.0 h in λ i. Some (sym same i, entry.1)
      | false ↦ λ h. lookup_entry-frame_of page entries
    ]) refl

promoted_from : (page : PageView) (entries : List (PageView × Frame)) (found : Option Frame) → option_map_or (λ entry. entry ∷ without_page page entries) (option_map (λ frame. (page, frame)) found) entries ≡ option_map_or (λ frame. (page, frame) ∷ without_page page entries) found entries
promoted_from page entries None = refl
promoted_from page entries (Some frame) = refl

-- a page that is used goes first
pub promoted-with_first : (page : PageView) (entries : List (PageView × Frame)) → promoted (same_page page) entries ≡ with_first (λ frame. frame) page entries
promoted-with_first page entries = rw lookup_entry-frame_of (promoted_from page entries (frame_of page entries))

-- a cache after a use of a page
pub touched : (page : PageView) (held new : LruCache PageView Frame) (old : CacheView) → (let v : CacheView = record { entries = held.entries; frames = held.cap } in v ≡ old) → new ≡ lru_cache (promoted (same_page page) held.entries) held.cap → let v : CacheView = record { entries = new.entries; frames = new.cap } in v ≡ record old { entries = with_first (λ frame. frame) page old.entries }
touched page held new old was is =
    let entries : new.entries ≡ with_first (λ frame. frame) page old.entries =
    ap (λ h. h.entries) is ∙ (promoted-with_first page held.entries ∙ ap (λ (v : CacheView). with_first (λ frame. frame) page v.entries) was) in
    let frames : new.cap ≡ old.frames = ap (λ h. h.cap) is ∙ ap (λ (v : CacheView). v.frames) was in
    λ i. record { entries = entries i; frames = frames i }

set_from : (page : PageView) (entries : List (PageView × Frame)) (change : Frame → Frame) (frame : Frame) (found : Option Frame) → found ≡ Some frame → set_value (same_page page) (option_map_or (λ frame. (page, frame) ∷ without_page page entries) found entries) (change frame) ≡ option_map_or (λ frame. (page, change frame) ∷ without_page page entries) found entries
set_from page entries change frame None h = cc
set_from page entries change frame (Some old) h = let same : old ≡ frame = cc in rw (same_page-refl page, same) refl

-- a frame that is changed behind a use
pub set_value-promoted : (page : PageView) (entries : List (PageView × Frame)) (change : Frame → Frame) (frame : Frame) → frame_of page entries ≡ Some frame → set_value (same_page page) (promoted (same_page page) entries) (change frame) ≡ with_first change page entries
set_value-promoted page entries change frame h = rw promoted-with_first (set_from page entries change frame (frame_of page entries) h)

-- a page that is not held changes nothing
pub with_first-absent : (page : PageView) (entries : List (PageView × Frame)) (change : Frame → Frame) → frame_of page entries ≡ None → with_first change page entries ≡ entries
with_first-absent page entries change h = ap (λ found. option_map_or (λ frame. (page, change frame) ∷ without_page page entries) found entries) h

-- without a page that is not held, the entries are the same
pub without_absent : (page : PageView) (entries : List (PageView × Frame)) → frame_of page entries ≡ None → without_page page entries ≡ entries
without_absent page [] h = refl
without_absent page (entry ∷ entries) h =
    (elim (same_page page entry.0) as (λ b. cond b (Some entry.1) (frame_of page entries) ≡ None → cond b entries (entry ∷ without_page page entries) ≡ entry ∷ entries) [
      | true ↦ λ n. cc
      | false ↦ λ n. ap (λ es. entry ∷ es) (without_absent page entries n)
    ]) h

-- a cache from which nothing was taken is the same
pub taken_none : (page : PageView) (old new : CacheView) (found : Option Frame) → found ≡ frame_of page old.entries → new ≡ record old { entries = without_page page old.entries } → IfNone found (new ≡ old)
taken_none page old new None is after = after ∙ ap (λ es. record old { entries = es }) (without_absent page old.entries (sym is))
taken_none page old new (Some frame) is after = tt

put_entries_from : (cache : CacheView) (page : PageView) (frame : Frame) (found : Option Frame) → option_map_or (λ (entry : PageView × Frame). (entry.0, frame) ∷ without_page page cache.entries) (option_map (λ old. (page, old)) found) ((page, frame) ∷ take (cache.frames - 1) cache.entries) ≡ option_map_or (λ old. (page, frame) ∷ without_page page cache.entries) found ((page, frame) ∷ take (cache.frames - 1) cache.entries)
put_entries_from cache page frame None = refl
put_entries_from cache page frame (Some old) = refl

-- the entries after a put
pub put_entries-after_put : (cache : CacheView) (page : PageView) (frame : Frame) → put_entries same_page (lru_cache cache.entries cache.frames) page frame ≡ entries_after_put cache page frame
put_entries-after_put cache page frame = rw lookup_entry-frame_of (put_entries_from cache page frame (frame_of page cache.entries))

-- a page that is not held stands nowhere
other_page : (page : PageView) (entries : List (PageView × Frame)) (i : ℕ) (entry : PageView × Frame) → frame_of page entries ≡ None → slice_get entries i ≡ Some entry → same_page page entry.0 ≡ false
other_page page [] i entry h e = cc
other_page page (first ∷ entries) zero entry h e =
    let same : first ≡ entry = cc in
    subst (λ x. same_page page x.0 ≡ false) same
    ((elim (same_page page first.0) as (λ b. same_page page first.0 ≡ b → cond b (Some first.1) (frame_of page entries) ≡ None → b ≡ false) [
      | true ↦ λ t n. cc
      | false ↦ λ t n. refl
    ]) refl h)
other_page page (first ∷ entries) (suc i) entry h e =
    other_page page entries i entry
    ((elim (same_page page first.0) as (λ b. cond b (Some first.1) (frame_of page entries) ≡ None → frame_of page entries ≡ None) [
      | true ↦ λ n. cc
      | false ↦ λ n. n
    ]) h) e

put_kind_from : (page : PageView) (found : Option Frame) (last : Option (PageView × Frame)) → (found ≡ None → (entry : PageView × Frame) → last ≡ Some entry → same_page page entry.0 ≡ false) → put_kind_of page (option_map_or (λ old. Some (page, old)) found last) ≡ put_from found last
put_kind_from page (Some old) last h = rw same_page-refl refl
put_kind_from page None None h = refl
put_kind_from page None (Some entry) h = rw (h refl entry refl) refl

-- what a put says
pub put_kind-displaced : (cache : CacheView) (page : PageView) (frame : Frame) → put_kind_of page (displaced same_page (lru_cache cache.entries cache.frames) page frame) ≡ put_of cache page
put_kind-displaced cache page frame =
    put_kind_from page (frame_of page cache.entries) (slice_get cache.entries (cache.frames - 1)) (λ h entry e. other_page page cache.entries (cache.frames - 1) entry h e)

-- the page of the last entry that passes the test, or another one
abbrev pub last_from : (PageView × Frame → Bool) → Option PageView → List (PageView × Frame) → Option PageView
last_from test page [] = page
last_from test page (entry ∷ entries) = last_from test (if test entry then Some entry.0 else page) entries

option_map-or : (a b : Option (PageView × Frame)) → option_map (λ entry. entry.0) (option_or a b) ≡ option_or (option_map (λ entry. entry.0) a) (option_map (λ entry. entry.0) b)
option_map-or None b = refl
option_map-or (Some a) b = refl

-- a later entry is less recently used
oldest_of-cons : (test : PageView × Frame → Bool) (entry : PageView × Frame) (entries : List (PageView × Frame)) → oldest_of test (entry ∷ entries) ≡ option_or (oldest_of test entries) (option_map (λ e. e.0) (find test (entry ∷ [])))
oldest_of-cons test entry entries =
    let last : reverse (entry ∷ entries) ≡ reverse entries ++ entry ∷ [] = reverse-append (entry ∷ []) entries in
    ap (λ es. option_map (λ e. e.0) (find test es)) last ∙ (ap (option_map (λ e. e.0)) (find-append test (reverse entries) (entry ∷ [])) ∙ option_map-or (find test (reverse entries)) (find test (entry ∷ [])))

or_else : (older page : Option PageView) (b : Bool) (entry : PageView × Frame) → option_or older (if b then Some entry.0 else page) ≡ option_or (option_or older (option_map (λ e. e.0) (cond b (Some entry) None))) page
or_else (Some older) page b entry = refl
or_else None page true entry = refl
or_else None page false entry = refl

last_or : (test : PageView × Frame → Bool) (page : Option PageView) (entries : List (PageView × Frame)) → last_from test page entries ≡ option_or (oldest_of test entries) page
last_or test page [] = refl
last_or test page (entry ∷ entries) =
    last_or test (if test entry then Some entry.0 else page) entries
    ∙ (or_else (oldest_of test entries) page (test entry) entry
    ∙ ap (λ older. option_or older page) (sym (oldest_of-cons test entry entries)))

-- the page of the last entry that passes is that of the least recently used one
pub last_from-oldest_of : (test : PageView × Frame → Bool) (entries : List (PageView × Frame)) → last_from test None entries ≡ oldest_of test entries
last_from-oldest_of test entries = last_or test None entries ∙ none_or (oldest_of test entries) where
  none_or : (page : Option PageView) → option_or page None ≡ page
  none_or None = refl
  none_or (Some page) = refl

pub same_Bool : (a b : Bool) → (a ≡ true → b ≡ true) → (b ≡ true → a ≡ true) → a ≡ b
same_Bool true b f g = sym (f refl)
same_Bool false true f g = g refl
same_Bool false false f g = refl

in_span-true : (span : SpanView) (page : PageView) → in_span span page ≡ true → InSpan span page
in_span-true span page h =
    let upper = and_parts _ _ h in
    let lower = and_parts _ _ upper.0 in
    record {
      domain = eqb-true page.domain span.domain lower.0;
      from = leb-true span.base page.number lower.1;
      below = ltb-true page.number (span.base + span.pages) upper.1;
    }

in_span-from : (span : SpanView) (page : PageView) → InSpan span page → in_span span page ≡ true
in_span-from span page h =
    and_from _ _ (and_from _ _ (eq-eqb page.domain span.domain h.domain) (le-leb span.base page.number h.from)) (lt-ltb page.number (span.base + span.pages) h.below)

-- the test of a run of pages computes what a run has
pub in_span-is : (span : SpanView) (page : PageView) (has : Bool) → IsTrue has ↔ InSpan span page → has ≡ in_span span page
in_span-is span page has h = same_Bool has (in_span span page) (λ t. in_span-from span page (h.0 t)) (λ t. h.1 (in_span-true span page t))
