-- Tables: their cover, and what a change makes of them.
use Rattle.std.proofs.Common.{◌≡◌, ◌≢◌, ℕ, ◌+◌, ◌-◌, ◌*◌, ◌<◌, ◌≤◌, ◌^◌, false, suc, List, [], ◌∷◌, ◌++◌, length, take, sum_by, get_or, refl, sym, ◌∙◌, ap, arith, subst, inl, inr, if◌then◌else◌, get_or-set_same, get_or-set_other}
use Rattle.std.proofs.Math.ListN.{set, length-set}
use Rattle.std.proofs.Math.Path.{fun_ext}
use Rattle.std.proofs.lemmas.Bool.{and_left, and_right, lt-ltb, le-ltb, eq-eqb, ne_eqb, cases_lt, cases_eq}
use Rattle.std.proofs.lemmas.List.{take_more}
use Rattle.std.proofs.lemmas.List.Sums.{sum_by-cons, sum_by-set}
use Rattle.mind_base.specs.Page.{PageView}
use Rattle.mind_base.specs.Span.{SpanView, InSpan, in_span}
use Rattle.mind_base.specs.Permission.{permission_from, permission_of}
use Rattle.mind_base.specs.declared.plans.MapPlan.{MapPlan}
use Rattle.mind_base.specs.Cover.{level, sum_below, cover_of, is_in_cover, is_uniform, has_uniform_parent}
use Rattle.mind_base.specs.declared.commands.Perm.{Perm}
use Rattle.mind_base.specs.declared.commands.Perm.TheVariants.{No}
use Rattle.protect_table.specs.Block.{BlockView, whole, permission_in, blocks_in, IsHalved, block_set}
use Rattle.protect_table.specs.Protect.{permission_among, changed, IsProtect}
use Rattle.protect_table.proofs.Counting.{sum_below-same, sum_below-first, sum_below-most}
use Rattle.protect_table.proofs.Uniform.{uniform, in_cover, cover, cover-most}
use Rattle.protect_table.proofs.Halving.{cover-block, blocks_in-le, permission_in-set, IsHalved-set}

-- the level of each page of a domain
abbrev levels_of : (PageView → Perm) → ℕ → ℕ → ℕ
levels_of perms d n = level (perms (record { domain = d; number = n }))

cover_of-domains : (perms : PageView → Perm) → cover_of perms ≡ sum_below (λ d. cover (levels_of perms d) 20) 16
unfolding cover_of is_in_cover is_uniform has_uniform_parent cover in_cover uniform
cover_of-domains perms = refl

-- no permissions take more blocks than there are pages
pub cover_of-most : (perms : PageView → Perm) → cover_of perms ≤ 16777216
cover_of-most perms =
    let b = sum_below-most (λ d. cover (levels_of perms d) 20) 16 1048576 (λ d lt. cover-most (levels_of perms d) 20) in
    omega (arith, cover_of-domains perms, b)

-- the sum over the numbers of a list's elements
sum_below-list : (xs : List BlockView) → sum_below (λ d. blocks_in (get_or xs d (whole No))) (length xs) ≡ sum_by blocks_in xs
unfolding sum_below
sum_below-list [] = refl
sum_below-list (x ∷ xs) =
    sum_below-first (λ d. blocks_in (get_or (x ∷ xs) d (whole No))) (length xs) ∙ (ap (λ n. blocks_in x + n) (sum_below-list xs) ∙ sym (sum_by-cons blocks_in x xs))

pub cover_of-among : (domains : List BlockView) → length domains ≡ 16 → ((d : ℕ) → IsHalved (get_or domains d (whole No)) 20) → cover_of (permission_among domains) ≡ sum_by blocks_in domains
cover_of-among domains count halved =
    let each = sum_below-same (λ d. cover (levels_of (permission_among domains) d) 20) (λ d. blocks_in (get_or domains d (whole No))) 16 (λ d lt.
    cover-block (get_or domains d (whole No)) 20 (levels_of (permission_among domains) d) (halved d) (λ n below. let e = lt-ltb n (2 ^ 20) below in rw e refl)) in
    let all : sum_below (λ d. blocks_in (get_or domains d (whole No))) 16 ≡ sum_by blocks_in domains = subst (λ n. sum_below (λ d. blocks_in (get_or domains d (whole No))) n ≡ sum_by blocks_in domains) count (sum_below-list domains) in
    cover_of-domains (permission_among domains) ∙ (each ∙ all)

-- the cover that a table keeps
pub cover_of-kept : (slots kept : ℕ) (domains : List BlockView) → IsProtect slots kept domains → kept ≡ cover_of (permission_among domains)
cover_of-kept slots kept domains h = h.counted ∙ sym (cover_of-among domains h.count h.halved)

outside-page : (span : SpanView) (page : PageView) → page.domain ≢ span.domain → in_span span page ≡ false
outside-page span page ne = and_left _ _ (and_left _ _ (ne_eqb _ _ ne))

outside-domain : (span : SpanView) (page : PageView) → span.base + span.pages ≤ 2 ^ 20 → 2 ^ 20 ≤ page.number → in_span span page ≡ false
outside-domain span page fits high = and_right _ _ (le-ltb page.number (span.base + span.pages) (omega arith))

-- a domain with a run of pages changed
abbrev pub domain_with : List BlockView → SpanView → Perm → BlockView
domain_with domains span perm = block_set 20 (get_or domains span.domain (whole No)) span.base (span.base + span.pages) perm

changed-page : (domains : List BlockView) (span : SpanView) (perm : Perm) (page : PageView) → span.domain < length domains → span.base + span.pages ≤ 2 ^ 20 → permission_among (set domains span.domain (domain_with domains span perm)) page ≡ changed (permission_among domains) span perm page
changed-page domains span perm page there fits = elim (cases_lt page.number (2 ^ 20)) [
  | inr high ↦
      let a = le-ltb page.number (2 ^ 20) high in
      let b = outside-domain span page fits high in
      rw (a, b) refl
  | inl low ↦ let a = lt-ltb page.number (2 ^ 20) low in elim (cases_eq page.domain span.domain) [
    | inr ne ↦
        let b = outside-page span page ne in
        let g = get_or-set_other domains span.domain page.domain (domain_with domains span perm) (whole No) ne in
        rw (a, b, g) refl
    | inl e ↦
        let b = eq-eqb page.domain span.domain e in
        let g = get_or-set_same domains span.domain (domain_with domains span perm) (whole No) there in
        let p = permission_in-set 20 (get_or domains span.domain (whole No)) span.base (span.base + span.pages) perm page.number low in
        rw (a, b, e, g, p) refl
  ]
]

pub permission_among-set : (domains : List BlockView) (span : SpanView) (perm : Perm) → span.domain < length domains → span.base + span.pages ≤ 2 ^ 20 → permission_among (set domains span.domain (domain_with domains span perm)) ≡ changed (permission_among domains) span perm
permission_among-set domains span perm there fits = fun_ext (λ page. changed-page domains span perm page there fits)

pub halved-set : (domains : List BlockView) (span : SpanView) (perm : Perm) → span.domain < length domains → ((d : ℕ) → IsHalved (get_or domains d (whole No)) 20) → (d : ℕ) → IsHalved (get_or (set domains span.domain (domain_with domains span perm)) d (whole No)) 20
halved-set domains span perm there halved d = elim (cases_eq d span.domain) [
  | inl e ↦
      let g = get_or-set_same domains span.domain (domain_with domains span perm) (whole No) there in
      rw (e, g) (IsHalved-set 20 (get_or domains span.domain (whole No)) span.base (span.base + span.pages) perm (halved span.domain))
  | inr ne ↦
      let g = get_or-set_other domains span.domain d (domain_with domains span perm) (whole No) ne in
      rw g (halved d)
]

-- the blocks after a change
pub blocks-set : (domains : List BlockView) (span : SpanView) (perm : Perm) → span.domain < length domains → sum_by blocks_in (set domains span.domain (domain_with domains span perm)) + blocks_in (get_or domains span.domain (whole No)) ≡ sum_by blocks_in domains + blocks_in (domain_with domains span perm)
blocks-set domains span perm there = sum_by-set blocks_in domains span.domain (domain_with domains span perm) (whole No) there

-- a map more
permission_from-push : (perm : Perm) (maps : List MapPlan) (entry : MapPlan) (page : PageView) → permission_from perm (maps ++ entry ∷ []) page ≡ (if in_span entry.span page then entry.perm else permission_from perm maps page)
permission_from-push perm [] entry page = refl
permission_from-push perm (m ∷ maps) entry page =
    permission_from-push (if in_span m.span page then m.perm else perm) maps entry page

pub permission_of-push : (maps : List MapPlan) (entry : MapPlan) → permission_of (maps ++ entry ∷ []) ≡ changed (permission_of maps) entry.span entry.perm
permission_of-push maps entry = fun_ext (λ page. permission_from-push No maps entry page)

-- the number of blocks is bounded
sum_by-bound : (xs : List BlockView) (most : ℕ) → ((d : ℕ) → blocks_in (get_or xs d (whole No)) ≤ most) → sum_by blocks_in xs ≤ length xs * most
sum_by-bound [] most h = omega arith
sum_by-bound (x ∷ xs) most h =
    omega (arith, sum_by-cons blocks_in x xs, h 0, sum_by-bound xs most (λ d. h (suc d)))

pub blocks-most : (domains : List BlockView) → length domains ≡ 16 → ((d : ℕ) → IsHalved (get_or domains d (whole No)) 20) → sum_by blocks_in domains ≤ 16777216
blocks-most domains count halved =
    let b = sum_by-bound domains 1048576 (λ d. blocks_in-le (get_or domains d (whole No)) 20 (halved d)) in
    rw count at b

-- the cover that there would be
pub cover_of-changed : (domains : List BlockView) (span : SpanView) (perm : Perm) → length domains ≡ 16 → ((d : ℕ) → IsHalved (get_or domains d (whole No)) 20) → span.domain < length domains → span.base + span.pages ≤ 2 ^ 20 → cover_of (changed (permission_among domains) span perm) ≡ sum_by blocks_in (set domains span.domain (domain_with domains span perm))
cover_of-changed domains span perm count halved there fits =
    let same = permission_among-set domains span perm there fits in
    let n : length (set domains span.domain (domain_with domains span perm)) ≡ 16 = simp length-set count in
    ap cover_of (sym same) ∙ cover_of-among (set domains span.domain (domain_with domains span perm)) n (halved-set domains span perm there halved)

block-le : (domains : List BlockView) (d : ℕ) → d < length domains → blocks_in (get_or domains d (whole No)) ≤ sum_by blocks_in domains
block-le domains d there = omega (arith, sum_by-set blocks_in domains d (whole No) (whole No) there)

-- the cover that there would be, from the cover kept, the blocks of the domain, and those that it would have
pub record CoverStep (kept before after cover : ℕ) : Type 0 where
  pub fewer : before ≤ kept
  pub fits : kept - before + after < 2 ^ 32
  pub same : kept - before + after ≡ cover

pub cover-step : (slots kept : ℕ) (domains : List BlockView) (span : SpanView) (perm : Perm) (before after : ℕ) → IsProtect slots kept domains → span.domain < 16 → span.base + span.pages ≤ 2 ^ 20 → before ≡ blocks_in (get_or domains span.domain (whole No)) → after ≡ blocks_in (domain_with domains span perm) → CoverStep kept before after (cover_of (changed (permission_among domains) span perm))
cover-step slots kept domains span perm before after h there fits b a =
    let in_list : span.domain < length domains = omega (arith, h.count) in
    let most = blocks-most domains h.count h.halved in
    let half = blocks_in-le (domain_with domains span perm) 20 (IsHalved-set 20 (get_or domains span.domain (whole No)) span.base (span.base + span.pages) perm (h.halved span.domain)) in
    let less = block-le domains span.domain in_list in
    let step = blocks-set domains span perm in_list in
    let cover = cover_of-changed domains span perm h.count h.halved in_list fits in
    record {
      fewer = omega (arith, h.counted);
      fits = omega (arith, h.counted);
      same = omega (arith, h.counted);
    }

-- a table after a change
pub protect-step : (slots kept cover : ℕ) (domains : List BlockView) (span : SpanView) (perm : Perm) → IsProtect slots kept domains → span.domain < 16 → span.base + span.pages ≤ 2 ^ 20 → cover ≡ cover_of (changed (permission_among domains) span perm) → cover ≤ slots → IsProtect slots cover (set domains span.domain (domain_with domains span perm))
protect-step slots kept cover domains span perm h there fits e within =
    let in_list : span.domain < length domains = omega (arith, h.count) in
    record {
      count = simp length-set h.count;
      halved = halved-set domains span perm in_list h.halved;
      counted = e ∙ cover_of-changed domains span perm h.count h.halved in_list fits;
      within = within;
    }

-- a page of a run is one of its domain's
pub page-of-domain : (domains : List BlockView) (span : SpanView) (page : PageView) → InSpan span page → span.base + span.pages ≤ 2 ^ 20 → permission_among domains page ≡ permission_in (get_or domains span.domain (whole No)) 20 page.number
page-of-domain domains span page h fits =
    let low = lt-ltb page.number (2 ^ 20) (omega (arith, h.below)) in
    let d = h.domain in
    rw (low, d) refl

pub cover_of-fits : (perms : PageView → Perm) (slots : ℕ) → slots ≡ 4294967295 → cover_of perms ≤ slots
cover_of-fits perms slots e = omega (arith, e, cover_of-most perms)

-- the permissions of one map more
pub permission_of-next : (maps : List MapPlan) (i : ℕ) (entry : MapPlan) → i < length maps → entry ≡ get_or maps i entry → changed (permission_of (take i maps)) entry.span entry.perm ≡ permission_of (take (i + 1) maps)
permission_of-next maps i entry lt read =
    let more : take (i + 1) maps ≡ take i maps ++ entry ∷ [] = take_more maps i entry lt ∙ ap (λ e. take i maps ++ e ∷ []) (sym read) in
    sym (ap permission_of more ∙ permission_of-push (take i maps) entry)

-- a table with other slots, of which there are enough
pub slots-changed : (slots other kept : ℕ) (domains : List BlockView) → IsProtect slots kept domains → cover_of (permission_among domains) ≤ other → IsProtect other kept domains
slots-changed slots other kept domains h enough = record {
  count = h.count;
  halved = h.halved;
  counted = h.counted;
  within = omega (arith, enough, cover_of-kept slots kept domains h);
}
