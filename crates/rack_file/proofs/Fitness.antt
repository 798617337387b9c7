-- What is accepted is a fit plan: the settings, blades, memory blades, images and threads.
use Rattle.std.proofs.Common.{◌≡◌, ℕ, ◌-◌, ◌%◌, ◌≤◌, Bool, true, false, not, ◌||◌, ◌&&◌, ◌==◌, nat_le, codes, List, [], ◌∷◌, ◌++◌, length, refl, sym, subst, Ok, arith}
use Rattle.std.specs.List.{AllByRecursion, list_any}
use Rattle.std.proofs.lemmas.Grind.{common_steps}
use Rattle.mind_base.specs.Page.{PageView}
use Rattle.mind_base.specs.Span.{SpanView, InSpan, in_span}
use Rattle.mind_base.specs.Fit.{Within, IsApart, AreApart, IsFitImage, IsFitThread}
use Rattle.mind_base.specs.declared.plans.ImagePlan.{ImagePlan}
use Rattle.mind_base.specs.declared.plans.ThreadPlan.{ThreadPlan}
use Rattle.control_plane.proofs.Callers.{all_in-holds}
use Rattle.toml.specs.Data.{Data, Members, get_member, as_table}
use Rattle.rack_file.specs.Keys.{and_then, Key, within, number_key, kind_judged, key_judged, keys_judged, known_judged, integer_at, text_at, array_judged, items_judged, under}
use Rattle.rack_file.specs.Tables.{most_key, top_keys, blade_keys, image_keys, thread_keys, names_in, table_judged, blade_judged, blades_judged, image_judged, images_judged, thread_judged, threads_judged, thread_at, is_apart}
use Rattle.rack_file.specs.Settings.{settings_at, settings_judged}
use Rattle.rack_file.specs.declared.sections.Section.{Section}
use Rattle.rack_file.specs.declared.sections.Section.TheVariants as section
use Rattle.mind_base.specs.declared.plans.RackPlan.{RackPlan}
use Rattle.rack_file.proofs.Accepted.{both-ok, within-parts, first-ok, number-ok, all-push, items-keep, items-count, array-ok}

-- each key is accepted
abbrev pub Accepts : List ℕ → Members → List Key → Type 0
Accepts path table keys = AllByRecursion (λ key. key_judged path table key ≡ Ok tt) keys

pub all-keys : (path : List ℕ) (table : Members) (keys : List Key) (u : Unit {0}) → keys_judged path table keys ≡ Ok u → Accepts path table keys
all-keys path table [] u e = tt
all-keys path table (key ∷ keys) u e = let (here, more) = first-ok path table key keys u e in (here, all-keys path table keys u more)

pub number-in : (path : List ℕ) (table : Members) (name : List ℕ) (low high : ℕ) → key_judged path table (number_key name low high) ≡ Ok tt → Within low high (integer_at name table)
number-in path table name low high e = within-parts low high _ (number-ok (within low high) (under path name) (get_member name table) tt e)

-- the keys of an accepted table
pub table-keys : (s : Section) (keys : List Key) (path : List ℕ) (d : Data) (table : Members) → table_judged s keys path d ≡ Ok table → Accepts path table keys
table-keys s keys path d table e =
    let (t, is, rest) = both-ok (kind_judged path (as_table d)) (λ t. and_then (keys_judged path t keys) (λ done. and_then (known_judged path t (names_in s)) (λ known. Ok t))) table e in
    let (u, ks, more) = both-ok (keys_judged path t keys) (λ done. and_then (known_judged path t (names_in s)) (λ known. Ok t)) table rest in
    let (v, known, last) = both-ok (known_judged path t (names_in s)) (λ known. Ok t) table more in
    let same : t ≡ table = cc in
    let P : Members → Type 0 = λ m. Accepts path m keys in subst P same (all-keys path t keys u ks)

-- ---- settings

-- the keys of accepted settings
pub settings-keys : (top : Members) (s : RackPlan) → settings_judged top ≡ Ok s → Accepts (codes "") top top_keys × (settings_at top ≡ s)
settings-keys top s e =
    let (u, ks, rest) = both-ok (keys_judged (codes "") top top_keys) (λ done. and_then (known_judged (codes "") top (names_in section.Top)) (λ known. Ok (settings_at top))) s e in
    let (v, known, last) = both-ok (known_judged (codes "") top (names_in section.Top)) (λ known. Ok (settings_at top)) s rest in
    (all-keys (codes "") top top_keys u ks, cc)

pub most-in : (top : Members) → key_judged (codes "") top most_key ≡ Ok tt → Within (integer_at (codes "region") top) 9 (integer_at (codes "most") top)
most-in top e = within-parts _ _ _ (number-ok (within (integer_at (codes "region") top) 9) (codes "most") (get_member (codes "most") top) tt e)

-- ---- blades

blade-fit : (path : List ℕ) (d : Data) (n : ℕ) → blade_judged path d ≡ Ok n → Within 1 1024 n
blade-fit path d n e =
    let (table, is, last) = both-ok (table_judged section.Blade blade_keys path d) (λ table. Ok (integer_at (codes "frames") table)) n e in
    let same : integer_at (codes "frames") table ≡ n = cc in
    let all = table-keys section.Blade blade_keys path d table is in
    let P : ℕ → Type 0 = λ m. Within 1 1024 m in subst P same (number-in path table (codes "frames") 1 1024 all.0)

pub blades-fit : (top : Members) (frames : List ℕ) → blades_judged top ≡ Ok frames → Within 1 8 (length frames) × AllByRecursion (Within 1 1024) frames
blades-fit top frames e =
    let (items, is, walk) = both-ok (array_judged (codes "blade") 1 8 (get_member (codes "blade") top)) (λ items. items_judged (λ done. blade_judged) (codes "blade") [] items) frames e in
    let fits = array-ok (codes "blade") 1 8 (get_member (codes "blade") top) items is in
    let n = items-count (λ done. blade_judged) (codes "blade") items [] frames walk in (
      (omega (arith, n, fits.0), omega (arith, n, fits.1)),
      items-keep (λ done. blade_judged) (codes "blade") (AllByRecursion (Within 1 1024)) (λ done place d x so_far ok. all-push (Within 1 1024) done x so_far (blade-fit place d x ok)) items [] frames tt walk,
    )

-- ---- images

place-parts : (n : ℕ) → (nat_le n 4294967292 && n % 4 == 0) ≡ true → (n % 4 ≡ 0) × (n ≤ 4294967292)
place-parts n e = (grind (arith, common_steps, e), grind (arith, common_steps, e))

image-fit : (path : List ℕ) (d : Data) (plan : ImagePlan) → image_judged path d ≡ Ok plan → IsFitImage plan
image-fit path d plan e =
    let (table, is, last) = both-ok (table_judged section.Image image_keys path d) (λ table. Ok (record { name = text_at (codes "name") table; at = integer_at (codes "at") table })) plan e in
    let same : integer_at (codes "at") table ≡ plan.at = cc in
    let all = table-keys section.Image image_keys path d table is in
    let at = number-ok (λ n. nat_le n 4294967292 && n % 4 == 0) (under path (codes "at")) (get_member (codes "at") table) tt all.1.0 in
    let P : ℕ → Type 0 = λ n. (n % 4 ≡ 0) × (n ≤ 4294967292) in subst P same (place-parts _ at)

pub images-fit : (top : Members) (images : List ImagePlan) → images_judged top ≡ Ok images → Within 1 16 (length images) × AllByRecursion IsFitImage images
images-fit top images e =
    let (items, is, walk) = both-ok (array_judged (codes "image") 1 16 (get_member (codes "image") top)) (λ items. items_judged (λ done. image_judged) (codes "image") [] items) images e in
    let fits = array-ok (codes "image") 1 16 (get_member (codes "image") top) items is in
    let n = items-count (λ done. image_judged) (codes "image") items [] images walk in (
      (omega (arith, n, fits.0), omega (arith, n, fits.1)),
      items-keep (λ done. image_judged) (codes "image") (AllByRecursion IsFitImage) (λ done place d x so_far ok. all-push IsFitImage done x so_far (image-fit place d x ok)) items [] images tt walk,
    )

-- ---- threads

thread-fit : (blades images : ℕ) (path : List ℕ) (d : Data) (plan : ThreadPlan) → 1 ≤ blades → 1 ≤ images → thread_judged blades images path d ≡ Ok plan → IsFitThread blades images plan
thread-fit blades images path d plan some_blade some_image e =
    let (table, is, last) = both-ok (table_judged section.Thread (thread_keys blades images) path d) (λ table. Ok (thread_at table)) plan e in
    let same : thread_at table ≡ plan = cc in
    let all = table-keys section.Thread (thread_keys blades images) path d table is in
    let blade = number-in path table (codes "blade") 0 (blades - 1) all.0 in
    let domain = number-in path table (codes "domain") 0 15 all.1.0 in
    let image = number-in path table (codes "image") 0 (images - 1) all.1.1.0 in
    let queue = number-in path table (codes "queue") 1 64 all.1.1.1.0 in
    let found : IsFitThread blades images (thread_at table) = record {
      blade = omega (arith, blade.1, some_blade);
      domain = omega (arith, domain.1);
      image = omega (arith, image.1, some_image);
      queue = queue;
    } in
    subst (IsFitThread blades images) same found

pub threads-fit : (blades images : ℕ) (top : Members) (threads : List ThreadPlan) → 1 ≤ blades → 1 ≤ images → threads_judged blades images top ≡ Ok threads
    → Within 1 64 (length threads) × AllByRecursion (IsFitThread blades images) threads
threads-fit blades images top threads some_blade some_image e =
    let (items, is, walk) = both-ok (array_judged (codes "thread") 1 64 (get_member (codes "thread") top)) (λ items. items_judged (λ done. thread_judged blades images) (codes "thread") [] items) threads e in
    let fits = array-ok (codes "thread") 1 64 (get_member (codes "thread") top) items is in
    let n = items-count (λ done. thread_judged blades images) (codes "thread") items [] threads walk in (
      (omega (arith, n, fits.0), omega (arith, n, fits.1)),
      items-keep (λ done. thread_judged blades images) (codes "thread") (AllByRecursion (IsFitThread blades images))
          (λ done place d x so_far ok. all-push (IsFitThread blades images) done x so_far (thread-fit blades images place d x some_blade some_image ok)) items [] threads tt walk,
    )

-- ---- runs that share no page

pub in-span : (span : SpanView) (page : PageView) → InSpan span page → in_span span page ≡ true
in-span span page h = grind (arith, common_steps, h.domain, h.from, h.below)

pub not-true : (b : Bool) → not b ≡ true → b ≡ false
not-true true e = sym e
not-true false e = refl

neither : (a b : Bool) → (a || b) ≡ false → (a ≡ false) × (b ≡ false)
neither true b e = absurd (cc)
neither false b e = (refl, e)

in-none : (xs : List SpanView) (page : PageView) → list_any (λ x. in_span x page) xs ≡ false → AllByRecursion (λ x. in_span x page ≡ false) xs
in-none [] page e = tt
in-none (x ∷ xs) page e = let parts = neither (in_span x page) (list_any (λ y. in_span y page) xs) e in (parts.0, in-none xs page parts.1)

-- a run with no page in any of these
apart-last : (xs : List SpanView) (x : SpanView) → ((page : PageView) → InSpan x page → AllByRecursion (λ y. in_span y page ≡ false) xs) → AllByRecursion (λ y. IsApart y x) xs
apart-last [] x h = tt
apart-last (y ∷ ys) x h =
    ((λ page in_y in_x. let outside = (h page in_x).0 in let inside = in-span y page in_y in cc), apart-last ys x (λ page in_x. (h page in_x).1))

apart-more : (xs : List SpanView) (x : SpanView) → AreApart xs → AllByRecursion (λ y. IsApart y x) xs → AreApart (xs ++ x ∷ [])
apart-more [] x apart all = (tt, tt)
apart-more (y ∷ ys) x apart all = (all-push (IsApart y) ys x apart.0 all.0, apart-more ys x apart.1 all.1)

pub apart-push : (xs : List SpanView) (x : SpanView) → AreApart xs → is_apart xs x ≡ true → AreApart (xs ++ x ∷ [])
apart-push xs x apart free =
    apart-more xs x apart (apart-last xs x (λ page in_x. in-none xs page (not-true _ (all_in-holds x (λ p. not (list_any (λ y. in_span y p) xs)) free page in_x))))
