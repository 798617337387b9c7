-- What is accepted is a fit plan: its memory blades.
use Rattle.std.proofs.Common.{◌≡◌, ℕ, ◌+◌, ◌≤◌, ◌∙◌, true, ◌&&◌, nat_le, codes, List, [], ◌∷◌, ◌++◌, length, refl, sym, ap, subst, Ok, arith, append_assoc}
use Rattle.std.specs.List.{AllByRecursion}
use Rattle.std.proofs.lemmas.Grind.{common_steps}
use Rattle.mind_base.specs.Span.{SpanView}
use Rattle.mind_base.specs.Fit.{Within, AreApart, IsFitMemory, all_homes}
use Rattle.mind_base.specs.declared.plans.MemoryPlan.{MemoryPlan}
use Rattle.toml.specs.Data.{Data, Members, get_member, as_table}
use Rattle.rack_file.specs.Keys.{and_then, demand, within, kind_judged, keys_judged, known_judged, key_judged, integer_at, array_judged, items_judged, under}
use Rattle.rack_file.specs.Tables.{span_keys, memory_keys, pages_key, names_in, table_judged, span_at, is_apart, home_judged, homes_judged, memory_judged, memories_judged, all_home_pages}
use Rattle.rack_file.specs.declared.refusals.RackFault.TheVariants.{Overlap, Limit}
use Rattle.rack_file.specs.declared.sections.Section.TheVariants as section
use Rattle.rack_file.proofs.Accepted.{both-ok, demand-ok, number-ok, all-push, items-keep, items-count, array-ok}
use Rattle.rack_file.proofs.Fitness.{all-keys, number-in, table-keys, apart-push}

most-pages : (base n : ℕ) → (within 1 4096 n && nat_le (base + n) 1048576) ≡ true → n ≤ 4096
most-pages base n e = grind (arith, common_steps, e)

pub pages-most : (path : List ℕ) (table : Members) → key_judged path table pages_key ≡ Ok tt → (span_at table).pages ≤ 4096
pages-most path table e = most-pages (integer_at (codes "page") table) _
    (number-ok (λ n. within 1 4096 n && nat_le (integer_at (codes "page") table + n) 1048576) (under path (codes "pages")) (get_member (codes "pages") table) tt e)

home-fit : (earlier : List SpanView) (path : List ℕ) (d : Data) (span : SpanView) → home_judged (is_apart earlier) path d ≡ Ok span → (span.pages ≤ 4096) × (is_apart earlier span ≡ true)
home-fit earlier path d span e =
    let (table, is, rest) = both-ok (table_judged section.Home span_keys path d) (λ table. and_then (demand (is_apart earlier (span_at table)) Overlap path) (λ free. Ok (span_at table))) span e in
    let (u, free, last) = both-ok (demand (is_apart earlier (span_at table)) Overlap path) (λ free. Ok (span_at table)) span rest in
    let same : span_at table ≡ span = cc in
    let all = table-keys section.Home span_keys path d table is in
    let P : SpanView → Type 0 = λ s. (s.pages ≤ 4096) × (is_apart earlier s ≡ true) in
    subst P same (pages-most path table all.1.1.0, demand-ok _ Overlap path u free)

abbrev pub KeepsHomes : List SpanView → List SpanView → Type 0
KeepsHomes earlier homes = AllByRecursion (λ span. span.pages ≤ 4096) homes × AreApart (earlier ++ homes)

home-step : (earlier done : List SpanView) (path : List ℕ) (d : Data) (span : SpanView) → KeepsHomes earlier done → home_judged (is_apart (earlier ++ done)) path d ≡ Ok span → KeepsHomes earlier (done ++ span ∷ [])
home-step earlier done path d span kept e =
    let fit = home-fit (earlier ++ done) path d span e in
    (all-push (λ s. s.pages ≤ 4096) done span kept.0 fit.0, subst AreApart (append_assoc earlier done (span ∷ [])) (apart-push (earlier ++ done) span kept.1 fit.1))

append-nil : (xs : List SpanView) → xs ++ [] ≡ xs
append-nil [] = refl
append-nil (x ∷ xs) = ap (λ ys. x ∷ ys) (append-nil xs)

homes-fit : (earlier : List SpanView) (path : List ℕ) (table : Members) (homes : List SpanView) → AreApart earlier → homes_judged earlier path table ≡ Ok homes → Within 1 16 (length homes) × KeepsHomes earlier homes
homes-fit earlier path table homes apart e =
    let place = under path (codes "homes") in
    let (items, is, walk) = both-ok (array_judged place 1 16 (get_member (codes "homes") table)) (λ items. items_judged (λ done. home_judged (is_apart (earlier ++ done))) place [] items) homes e in
    let fits = array-ok place 1 16 (get_member (codes "homes") table) items is in
    let n = items-count (λ done. home_judged (is_apart (earlier ++ done))) place items [] homes walk in (
      (omega (arith, n, fits.0), omega (arith, n, fits.1)),
      items-keep (λ done. home_judged (is_apart (earlier ++ done))) place (KeepsHomes earlier) (λ done at d x so_far ok. home-step earlier done at d x so_far ok) items [] homes (tt, subst AreApart (sym (append-nil earlier)) apart) walk,
    )

memory-fit : (done : List MemoryPlan) (path : List ℕ) (d : Data) (m : MemoryPlan) → AreApart (all_homes done) → memory_judged done path d ≡ Ok m → IsFitMemory m × AreApart (all_homes done ++ m.homes)
memory-fit done path d m apart e =
    let (table, is, rest) = both-ok (kind_judged path (as_table d)) (λ table. and_then (keys_judged path table memory_keys) (λ checked.
    and_then (homes_judged (all_homes done) path table) (λ homes. and_then (known_judged path table (names_in section.Memory)) (λ known.
    Ok (record { homes = homes; spare = integer_at (codes "spare") table }))))) m e in
    let (u, ks, rest2) = both-ok (keys_judged path table memory_keys) (λ checked.
    and_then (homes_judged (all_homes done) path table) (λ homes. and_then (known_judged path table (names_in section.Memory)) (λ known.
    Ok (record { homes = homes; spare = integer_at (codes "spare") table })))) m rest in
    let (homes, hs, rest3) = both-ok (homes_judged (all_homes done) path table) (λ homes. and_then (known_judged path table (names_in section.Memory)) (λ known.
    Ok (record { homes = homes; spare = integer_at (codes "spare") table }))) m rest2 in
    let (v, known, last) = both-ok (known_judged path table (names_in section.Memory)) (λ known. Ok (record { homes = homes; spare = integer_at (codes "spare") table })) m rest3 in
    let plan : MemoryPlan = record { homes = homes; spare = integer_at (codes "spare") table } in
    let same : plan ≡ m = cc in
    let all = all-keys path table memory_keys u ks in
    let spare = number-in path table (codes "spare") 0 4096 all.0 in
    let fit = homes-fit (all_homes done) path table homes apart hs in
    let P : MemoryPlan → Type 0 = λ p. IsFitMemory p × AreApart (all_homes done ++ p.homes) in
    subst P {x = plan} same (record { spare = spare.1; homes = fit.0; pages = fit.1.0 }, fit.1.1)

homes-push : (ms : List MemoryPlan) (m : MemoryPlan) → all_homes ms ++ m.homes ≡ all_homes (ms ++ m ∷ [])
homes-push [] m = sym (append-nil m.homes)
homes-push (x ∷ xs) m = append_assoc x.homes (all_homes xs) m.homes ∙ ap (λ hs. x.homes ++ hs) (homes-push xs m)

abbrev pub KeepsMemories : List MemoryPlan → Type 0
KeepsMemories ms = AllByRecursion IsFitMemory ms × AreApart (all_homes ms)

memory-step : (done : List MemoryPlan) (path : List ℕ) (d : Data) (m : MemoryPlan) → KeepsMemories done → memory_judged done path d ≡ Ok m → KeepsMemories (done ++ m ∷ [])
memory-step done path d m kept e =
    let fit = memory-fit done path d m kept.1 e in
    (all-push IsFitMemory done m kept.0 fit.0, subst AreApart (homes-push done m) fit.1)

pub record FitMemories (ms : List MemoryPlan) : Type 0 where
  pub count : Within 1 8 (length ms)
  pub kept : KeepsMemories ms
  pub pages : all_home_pages ms ≤ 16384

room : (n : ℕ) → nat_le n 16384 ≡ true → n ≤ 16384
room n e = grind (arith, common_steps, e)

pub memories-fit : (top : Members) (ms : List MemoryPlan) → memories_judged top ≡ Ok ms → FitMemories ms
memories-fit top ms e =
    let (items, is, rest) = both-ok (array_judged (codes "memory") 1 8 (get_member (codes "memory") top)) (λ items.
    and_then (items_judged memory_judged (codes "memory") [] items) (λ memories. and_then (demand (nat_le (all_home_pages memories) 16384) Limit (codes "memory")) (λ fits. Ok memories))) ms e in
    let (xs, walk, rest2) = both-ok (items_judged memory_judged (codes "memory") [] items) (λ memories. and_then (demand (nat_le (all_home_pages memories) 16384) Limit (codes "memory")) (λ fits. Ok memories)) ms rest in
    let (u, some, last) = both-ok (demand (nat_le (all_home_pages xs) 16384) Limit (codes "memory")) (λ fits. Ok xs) ms rest2 in
    let same : xs ≡ ms = cc in
    let fits = array-ok (codes "memory") 1 8 (get_member (codes "memory") top) items is in
    let n = items-count memory_judged (codes "memory") items [] xs walk in
    let found : FitMemories xs = record {
      count = (omega (arith, n, fits.0), omega (arith, n, fits.1));
      kept = items-keep memory_judged (codes "memory") KeepsMemories memory-step items [] xs (tt, tt) walk;
      pages = room _ (demand-ok _ Limit (codes "memory") u some);
    } in
    subst FitMemories same found
