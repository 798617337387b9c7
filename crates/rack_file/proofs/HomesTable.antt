-- Which runs are apart from homes, by a table that lets the homes be read.
use Rattle.std.proofs.Common.{◌≡◌, ℕ, ◌+◌, ◌∙◌, Bool, true, false, not, ◌||◌, ◌==◌, nat_lt, List, [], ◌∷◌, ◌++◌, map, refl, sym, ap, cond, append_assoc, subst, Ok}
use Rattle.std.proofs.Math.Path.{fun_ext}
use Rattle.std.specs.List.{list_any}
use Rattle.std.proofs.lemmas.List.{map-append}
use Rattle.mind_base.specs.Page.{PageView}
use Rattle.mind_base.specs.Span.{SpanView, in_span}
use Rattle.mind_base.specs.Cover.{level}
use Rattle.mind_base.specs.Permission.{permission_from, permission_of}
use Rattle.mind_base.specs.declared.commands.Perm.{Perm}
use Rattle.mind_base.specs.declared.commands.Perm.TheVariants.{No, R, Rw}
use Rattle.protect_table.specs.Protect.{changed}
use Rattle.protect_table.proofs.Callers.{all_below-same, permission_of-push}
use Rattle.toml.specs.Data.{Data}
use Rattle.control_plane.specs.Outcome.{are_unmapped}
use Rattle.rack_file.specs.Tables.{is_apart, home_judged, home_entry}
use Rattle.rack_file.specs.Judged.{RefusesAs}
use Rattle.rack_file.specs.declared.refusals.RackRefusal.{RackRefusal}

or-false : (b : Bool) → b ≡ (b || false)
or-false true = refl
or-false false = refl

level-one : (p : Perm) (b rest : Bool) → (nat_lt 0 (level (cond b R p)) || rest) ≡ (nat_lt 0 (level p) || (b || rest))
level-one p false rest = refl
level-one No true rest = refl
level-one R true rest = refl
level-one Rw true rest = refl

level-from : (p : Perm) (spans : List SpanView) (page : PageView)
    → nat_lt 0 (level (permission_from p (map home_entry spans) page)) ≡ (nat_lt 0 (level p) || list_any (λ span. in_span span page) spans)
level-from p [] page = or-false (nat_lt 0 (level p))
level-from p (span ∷ spans) page =
    level-from (cond (in_span span page) R p) spans page ∙ level-one p (in_span span page) (list_any (λ s. in_span s page) spans)

-- ---- runs that are apart from homes

none-level : (p : Perm) → (level p == 0) ≡ not (nat_lt 0 (level p))
none-level No = refl
none-level R = refl
none-level Rw = refl

page-free : (spans : List SpanView) (page : PageView) → (level (permission_of (map home_entry spans) page) == 0) ≡ not (list_any (λ span. in_span span page) spans)
page-free spans page = none-level (permission_of (map home_entry spans) page) ∙ ap not (level-from No spans page)

pub homes-free : (spans : List SpanView) → are_unmapped (permission_of (map home_entry spans)) ≡ is_apart spans
homes-free spans = fun_ext (λ span. all_below-same _ _ span.pages (λ i lt. page-free spans (record { domain = span.domain; number = span.base + i })))

-- a table of homes says which runs are apart from them
table-free : (permissions : PageView → Perm) (spans : List SpanView) → permissions ≡ permission_of (map home_entry spans) → are_unmapped permissions ≡ is_apart spans
table-free permissions spans is = ap are_unmapped is ∙ homes-free spans

-- one home more
pub homes-push : (permissions : PageView → Perm) (earlier homes : List SpanView) (span : SpanView) → permissions ≡ permission_of (map home_entry (earlier ++ homes))
    → changed permissions span R ≡ permission_of (map home_entry (earlier ++ (homes ++ span ∷ [])))
homes-push permissions earlier homes span is =
    ap (λ p. changed p span R) is ∙ (sym (permission_of-push (map home_entry (earlier ++ homes)) (home_entry span))
    ∙ ap permission_of (sym (map-append home_entry (earlier ++ homes) (span ∷ [])) ∙ ap (map home_entry) (append_assoc earlier homes (span ∷ []))))

-- a home that the table judges is judged by the homes that it has
pub home-accepted : (permissions : PageView → Perm) (spans : List SpanView) (path : List ℕ) (d : Data) (home : SpanView) → permissions ≡ permission_of (map home_entry spans)
    → home_judged (are_unmapped permissions) path d ≡ Ok home → home_judged (is_apart spans) path d ≡ Ok home
home-accepted permissions spans path d home is e = sym (ap (λ free. home_judged free path d) (table-free permissions spans is)) ∙ e

pub home-refused : (permissions : PageView → Perm) (spans : List SpanView) (path : List ℕ) (d : Data) (e : RackRefusal) → permissions ≡ permission_of (map home_entry spans)
    → RefusesAs e (home_judged (are_unmapped permissions) path d) → RefusesAs e (home_judged (is_apart spans) path d)
home-refused permissions spans path d e is stops = let P : (SpanView → Bool) → Type 0 = λ free. RefusesAs e (home_judged free path d) in subst P (table-free permissions spans is) stops
