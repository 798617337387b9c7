-- What is accepted is a fit plan: its maps, and the whole.
use Rattle.std.proofs.Common.{◌≡◌, ◌≢◌, ℕ, ◌≤◌, Bool, true, false, cond, ◌==◌, nat_le, codes, List, [], ◌∷◌, ◌++◌, length, map, refl, sym, subst, is_some, Ok, Option, Some, None, arith}
use Rattle.std.specs.List.{AllByRecursion}
use Rattle.std.proofs.lemmas.Grind.{common_steps}
use Rattle.mind_base.specs.Page.{PageView}
use Rattle.mind_base.specs.Span.{SpanView, InSpan, in_span}
use Rattle.mind_base.specs.Home.{home_of}
use Rattle.mind_base.specs.Permission.{permission_from, permission_of}
use Rattle.mind_base.specs.Cover.{level, cover_of}
use Rattle.mind_base.specs.Fit.{IsApart, AreApart, IsFitMap, IsFit}
use Rattle.mind_base.specs.declared.commands.Perm.{Perm}
use Rattle.mind_base.specs.declared.commands.Perm.TheVariants.{No, R, Rw}
use Rattle.mind_base.specs.declared.plans.MemoryPlan.{MemoryPlan}
use Rattle.mind_base.specs.declared.plans.MapPlan.{MapPlan}
use Rattle.mind_base.specs.declared.plans.RackPlan.{RackPlan}
use Rattle.toml.specs.Data.{Data, Items, no_items, Members, get_member}
use Rattle.control_plane.specs.Outcome.{are_placed, are_unmapped}
use Rattle.control_plane.proofs.Callers.{all_in-holds}
use Rattle.rack_file.specs.Keys.{and_then, demand, optional_array_judged, items_judged, count}
use Rattle.rack_file.specs.Tables.{map_keys, table_judged, span_at, map_at, map_judged, maps_within, maps_judged, blades_judged, memories_judged, images_judged, threads_judged}
use Rattle.rack_file.specs.Settings.{settings_at, settings_judged}
use Rattle.rack_file.specs.Racks.{plan_of, top_judged}
use Rattle.rack_file.specs.declared.refusals.RackFault.TheVariants.{Overlap, Unplaced, Slots}
use Rattle.rack_file.specs.declared.sections.Section.TheVariants as section
use Rattle.rack_file.proofs.Accepted.{both-ok, demand-ok, all-push, items-keep, items-count, array-ok}
use Rattle.rack_file.proofs.Fitness.{in-span, table-keys, number-in, settings-keys, most-in, blades-fit, images-fit, threads-fit}
use Rattle.rack_file.proofs.FitHomes.{pages-most, memories-fit}

-- a permission that a text names is one
some-perm : (b : Bool) → cond b Rw R ≢ No
some-perm true = λ e. cc
some-perm false = λ e. cc

level-none : (p : Perm) → (level p == 0) ≡ true → p ≡ No
level-none No e = refl
level-none R e = absurd (cc)
level-none Rw e = absurd (cc)

covered-one : (b : Bool) (perm p : Perm) → perm ≢ No → cond b perm p ≡ No → (b ≡ false) × (p ≡ No)
covered-one true perm p some e = absurd (some e)
covered-one false perm p some e = (refl, e)

-- a page without a permission is in none of the maps
uncovered : (p : Perm) (maps : List MapPlan) (page : PageView) → AllByRecursion (λ m. m.perm ≢ No) maps → permission_from p maps page ≡ No
    → AllByRecursion (λ m. in_span m.span page ≡ false) maps × (p ≡ No)
uncovered p [] page some e = (tt, e)
uncovered p (m ∷ ms) page some e =
    let more = uncovered (cond (in_span m.span page) m.perm p) ms page some.1 e in
    let here = covered-one (in_span m.span page) m.perm p some.0 more.1 in
    ((here.0, more.0), here.1)

-- runs that share no page with the last one
apart-last : (maps : List MapPlan) (x : SpanView) → ((page : PageView) → InSpan x page → AllByRecursion (λ m. in_span m.span page ≡ false) maps)
    → AllByRecursion (λ span. IsApart span x) (map (λ m. m.span) maps)
apart-last [] x h = tt
apart-last (m ∷ ms) x h = ((λ page in_m in_x. let outside = (h page in_x).0 in let inside = in-span m.span page in_m in cc), apart-last ms x (λ page in_x. (h page in_x).1))

apart-more : (maps : List MapPlan) (x : MapPlan) → AreApart (map (λ m. m.span) maps) → AllByRecursion (λ span. IsApart span x.span) (map (λ m. m.span) maps) → AreApart (map (λ m. m.span) (maps ++ x ∷ []))
apart-more [] x apart all = (tt, tt)
apart-more (m ∷ ms) x apart all =
    (all-map ms x apart.0 all.0, apart-more ms x apart.1 all.1) where
      all-map : (ns : List MapPlan) (y : MapPlan) → AllByRecursion (IsApart m.span) (map (λ n. n.span) ns) → IsApart m.span y.span → AllByRecursion (IsApart m.span) (map (λ n. n.span) (ns ++ y ∷ []))
      all-map [] y so_far here = (here, tt)
      all-map (n ∷ ns) y so_far here = (so_far.0, all-map ns y so_far.1 here)

-- ---- maps

map-fit : (memories : List MemoryPlan) (permissions : PageView → Perm) (path : List ℕ) (d : Data) (entry : MapPlan) → map_judged (are_placed memories) permissions path d ≡ Ok entry
    → IsFitMap memories entry × (are_unmapped permissions entry.span ≡ true)
map-fit memories permissions path d entry e =
    let (table, is, rest) = both-ok (table_judged section.Map map_keys path d) (λ table. and_then (demand (are_placed memories (span_at table)) Unplaced path) (λ placed.
    and_then (demand (are_unmapped permissions (span_at table)) Overlap path) (λ unmapped. Ok (map_at table)))) entry e in
    let (u, placed, rest2) = both-ok (demand (are_placed memories (span_at table)) Unplaced path) (λ placed.
    and_then (demand (are_unmapped permissions (span_at table)) Overlap path) (λ unmapped. Ok (map_at table))) entry rest in
    let (v, free, last) = both-ok (demand (are_unmapped permissions (span_at table)) Overlap path) (λ unmapped. Ok (map_at table)) entry rest2 in
    let same : map_at table ≡ entry = cc in
    let all = table-keys section.Map map_keys path d table is in
    let home = demand-ok (are_placed memories (span_at table)) Unplaced path u placed in
    let found : IsFitMap memories (map_at table) = record {
      pages = pages-most path table all.1.1.0;
      perm = some-perm _;
      placed = λ page h. all_in-holds (span_at table) (λ p. is_some (home_of memories p)) home page h;
    } in
    let P : MapPlan → Type 0 = λ m. IsFitMap memories m × (are_unmapped permissions m.span ≡ true) in
    subst P same (found, demand-ok (are_unmapped permissions (span_at table)) Overlap path v free)

all-perms : (memories : List MemoryPlan) (maps : List MapPlan) → AllByRecursion (IsFitMap memories) maps → AllByRecursion (λ m. m.perm ≢ No) maps
all-perms memories [] all = tt
all-perms memories (m ∷ ms) all = ((all.0).perm, all-perms memories ms all.1)

abbrev pub KeepsMaps : List MemoryPlan → List MapPlan → Type 0
KeepsMaps memories maps = AllByRecursion (IsFitMap memories) maps × AreApart (map (λ m. m.span) maps)

map-step : (memories : List MemoryPlan) (done : List MapPlan) (path : List ℕ) (d : Data) (x : MapPlan) → KeepsMaps memories done → map_judged (are_placed memories) (permission_of done) path d ≡ Ok x
    → KeepsMaps memories (done ++ x ∷ [])
map-step memories done path d x kept e =
    let fit = map-fit memories (permission_of done) path d x e in
    let outside = apart-last done x.span (λ page h.
    (uncovered No done page (all-perms memories done kept.0) (level-none _ (all_in-holds x.span (λ p. level (permission_of done p) == 0) fit.1 page h))).0) in
    (all-push (IsFitMap memories) done x kept.0 fit.0, apart-more done x kept.1 outside)

optional-ok : (path : List ℕ) (value : Option Data) (items : Items) → optional_array_judged path 0 256 value ≡ Ok items → count items ≤ 256
optional-ok path None items e = let same : no_items ≡ items = cc in let P : Items → Type 0 = λ i. count i ≤ 256 in subst P same (omega arith)
optional-ok path (Some d) items e = (array-ok path 0 256 (Some d) items e).1

pub record FitMaps (memories : List MemoryPlan) (most : ℕ) (maps : List MapPlan) : Type 0 where
  pub count : length maps ≤ 256
  pub kept : KeepsMaps memories maps
  pub cover : cover_of (permission_of maps) ≤ most

room : (n most : ℕ) → nat_le n most ≡ true → n ≤ most
room n most e = grind (arith, common_steps, e)

maps-fit : (memories : List MemoryPlan) (most : ℕ) (top : Members) (maps : List MapPlan) → maps_judged (are_placed memories) most top ≡ Ok maps → FitMaps memories most maps
maps-fit memories most top maps e =
    let judge = λ (done : List MapPlan). map_judged (are_placed memories) (permission_of done) in
    let (items, is, rest) = both-ok (optional_array_judged (codes "map") 0 256 (get_member (codes "map") top)) (λ items. maps_within (are_placed memories) most items) maps e in
    let (xs, walk, rest2) = both-ok (items_judged judge (codes "map") [] items) (λ ms. and_then (demand (nat_le (cover_of (permission_of ms)) most) Slots (codes "map")) (λ fits. Ok ms)) maps rest in
    let (u, some, last) = both-ok (demand (nat_le (cover_of (permission_of xs)) most) Slots (codes "map")) (λ fits. Ok xs) maps rest2 in
    let same : xs ≡ maps = cc in
    let n = items-count judge (codes "map") items [] xs walk in
    let few = optional-ok (codes "map") (get_member (codes "map") top) items is in
    let found : FitMaps memories most xs = record {
      count = omega (arith, n, few);
      kept = items-keep judge (codes "map") (KeepsMaps memories) (map-step memories) items [] xs (tt, tt) walk;
      cover = room _ most (demand-ok _ Slots (codes "map") u some);
    } in
    subst (FitMaps memories most) same found

-- ---- the whole

pub top-fit : (top : Members) (plan : RackPlan) → top_judged top ≡ Ok plan → IsFit plan
top-fit top plan e =
    let (s, es, r1) = both-ok (settings_judged top) (λ settings. and_then (blades_judged top) (λ frames. and_then (memories_judged top) (λ memories.
    and_then (images_judged top) (λ images. and_then (threads_judged (length frames) (length images) top) (λ threads.
    and_then (maps_judged (are_placed memories) settings.protect top) (λ maps. Ok (plan_of settings frames memories images threads maps))))))) plan e in
    let (frames, ef, r2) = both-ok (blades_judged top) (λ frames. and_then (memories_judged top) (λ memories.
    and_then (images_judged top) (λ images. and_then (threads_judged (length frames) (length images) top) (λ threads.
    and_then (maps_judged (are_placed memories) s.protect top) (λ maps. Ok (plan_of s frames memories images threads maps)))))) plan r1 in
    let (memories, em, r3) = both-ok (memories_judged top) (λ memories. and_then (images_judged top) (λ images. and_then (threads_judged (length frames) (length images) top) (λ threads.
    and_then (maps_judged (are_placed memories) s.protect top) (λ maps. Ok (plan_of s frames memories images threads maps))))) plan r2 in
    let (images, ei, r4) = both-ok (images_judged top) (λ images. and_then (threads_judged (length frames) (length images) top) (λ threads.
    and_then (maps_judged (are_placed memories) s.protect top) (λ maps. Ok (plan_of s frames memories images threads maps)))) plan r3 in
    let (threads, eh, r5) = both-ok (threads_judged (length frames) (length images) top) (λ threads.
    and_then (maps_judged (are_placed memories) s.protect top) (λ maps. Ok (plan_of s frames memories images threads maps))) plan r4 in
    let (maps, ep, r6) = both-ok (maps_judged (are_placed memories) s.protect top) (λ maps. Ok (plan_of s frames memories images threads maps)) plan r5 in
    let (all, settings) = settings-keys top s es in
    let read : RackPlan = plan_of (settings_at top) frames memories images threads maps in
    let same : read ≡ plan = cc in
    let ff = blades-fit top frames ef in
    let fm = memories-fit top memories em in
    let fi = images-fit top images ei in
    let fh = threads-fit (length frames) (length images) top threads ((ff.0).0) ((fi.0).0) eh in
    let fp = maps-fit memories s.protect top maps ep in
    let found : IsFit read = record {
      slots = number-in (codes "") top (codes "slots") 1 4096 all.1.0;
      protect = number-in (codes "") top (codes "protect") 1 4096 all.1.1.0;
      outliers = (number-in (codes "") top (codes "outliers") 0 1024 all.1.1.1.0).1;
      region = (number-in (codes "") top (codes "region") 0 9 all.1.1.1.1.0).1;
      most = most-in top all.1.1.1.1.1.0;
      threshold = (number-in (codes "") top (codes "threshold") 0 1000000 all.1.1.1.1.1.1.0).1;
      blades = ff.0;
      frames = ff.1;
      memories = fm.count;
      each_memory = (fm.kept).0;
      homes_apart = (fm.kept).1;
      home_pages = fm.pages;
      images = fi.0;
      each_image = fi.1;
      threads = fh.0;
      each_thread = fh.1;
      maps = fp.count;
      each_map = (fp.kept).0;
      maps_apart = (fp.kept).1;
      cover = subst (λ (p : RackPlan). cover_of (permission_of maps) ≤ p.protect) (sym settings) fp.cover;
    } in
    subst IsFit {x = read} same found
