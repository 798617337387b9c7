-- What holds of every outlier that has a page holds of the smallest one.
use Rattle.std.proofs.Common.{◌≡◌, Bool, true, false, cond, nat_lt, List, [], ◌∷◌, Option, Some, None, IsTrue, IfSome, refl}
use Rattle.std.specs.List.{AllByRecursion}
use Rattle.mind_base.specs.Page.{PageView}
use Rattle.mind_base.specs.Range.{in_range}
use Rattle.range_translate.specs.Place.{smaller_of, smallest_of}
use Rattle.range_translate.specs.declared.outliers.Outlier.{Outlier}

one_of : (P : Outlier → Type 0) (x p : Outlier) (t : Bool) → P x → P p → IfSome (cond t (Some p) (Some x)) P
one_of P x p true h k = k
one_of P x p false h k = h

smaller-has : (P : Outlier → Type 0) (x : Outlier) (o : Option Outlier) → P x → IfSome o P → IfSome (smaller_of x o) P
smaller-has P x None h k = h
smaller-has P x (Some p) h k = one_of P x p (nat_lt p.range.log x.range.log) h k

chosen-has : (P : Outlier → Type 0) (b : Bool) (x : Outlier) (o : Option Outlier) → (b ≡ true → P x) → IfSome o P → IfSome (cond b (smaller_of x o) o) P
chosen-has P true x o h k = smaller-has P x o (h refl) k
chosen-has P false x o h k = k

pub smallest-has : (P : Outlier → Type 0) (xs : List Outlier) (page : PageView) → AllByRecursion (λ o. IsTrue (in_range o.range page) → P o) xs → IfSome (smallest_of xs page) P
smallest-has P [] page h = tt
smallest-has P (x ∷ xs) page h = chosen-has P (in_range x.range page) x (smallest_of xs page) h.0 (smallest-has P xs page h.1)

pub has_page : (xs : List Outlier) (page : PageView) → AllByRecursion (λ o. IsTrue (in_range o.range page) → IsTrue (in_range o.range page)) xs
has_page [] page = tt
has_page (x ∷ xs) page = (λ e. e, has_page xs page)

pub any_page : (P : Outlier → Type 0) (xs : List Outlier) (page : PageView) → AllByRecursion P xs → AllByRecursion (λ o. IsTrue (in_range o.range page) → P o) xs
any_page P [] page h = tt
any_page P (x ∷ xs) page h = (λ e. h.0, any_page P xs page h.1)
