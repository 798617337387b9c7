-- Calls one after another: what was done so far, and what is left of the whole.
use Rattle.std.proofs.Common.{◌≡◌, ℕ, ◌+◌, List, [], ◌∷◌, ◌++◌, length, drop, ◌≤◌, Result, Ok, Err, OnErr, refl, sym, ap, subst, ◌∙◌, append_assoc, append-nil}
use Rattle.std.proofs.lemmas.List.{drop_all}
use Rattle.mind_base.specs.Page.{PageView}
use Rattle.mind_base.specs.declared.notes.Note.{Note}
use Rattle.wire_msg.specs.declared.msgs.Msg.{Msg}
use Rattle.compute_blade.specs.Blade.{BladeView, BladeEffect, Did, BeginsWith, only, and_then}
use Rattle.compute_blade.specs.Pages.{each_in}

-- what is left makes the whole of what was done so far
pub record Continues (rest total : BladeEffect) (out out₀ : List Msg) (notes notes₀ : List Note) : Type 0 where
  pub blade : rest.blade ≡ total.blade
  pub sent : out ++ rest.sent ≡ out₀ ++ total.sent
  pub noted : notes ++ rest.noted ≡ notes₀ ++ total.noted
  pub out_begins : BeginsWith out₀ out
  pub notes_begin : BeginsWith notes₀ notes

pub begins_same : {X : Type 0} (xs : List X) → BeginsWith xs xs
begins_same xs = record { rest = []; split = sym (append-nil xs) }

begins_unchanged : {X : Type 0} (xs ys : List X) → ys ≡ xs → BeginsWith xs ys
begins_unchanged xs ys e = record { rest = []; split = e ∙ sym (append-nil xs) }

-- an error leaves what was sent and noted as it was
pub left_alone : {A E : Type 0} (r : Result A E) (out out' : List Msg) (notes notes' : List Note) → (out' ≡ out) × (notes' ≡ notes) → OnErr r (BeginsWith out out' × BeginsWith notes notes')
left_alone (Ok a) out out' notes notes' e = tt
left_alone (Err r) out out' notes notes' e = (begins_unchanged out out' e.0, begins_unchanged notes notes' e.1)

pub begins_more : {X : Type 0} (front xs ys zs : List X) → BeginsWith front xs → ys ≡ xs ++ zs → BeginsWith front ys
begins_more front xs ys zs b e = record { rest = b.rest ++ zs; split = e ∙ (ap (λ l. l ++ zs) b.split ∙ append_assoc front b.rest zs) }

pub continues_start : (total : BladeEffect) (out : List Msg) (notes : List Note) → Continues total total out out notes notes
continues_start total out notes = record {
  blade = refl;
  sent = refl;
  noted = refl;
  out_begins = begins_same out;
  notes_begin = begins_same notes;
}

pub continues_more : (first : BladeEffect) (next : BladeView → BladeEffect) (total : BladeEffect) (new : BladeView) (out out' out₀ : List Msg) (notes notes' notes₀ : List Note)
    → Continues (and_then first next) total out out₀ notes notes₀ → Did first new out out' notes notes' → Continues (next new) total out' out₀ notes' notes₀
continues_more first next total new out out' out₀ notes notes' notes₀ c did = record {
  blade = ap (λ b. (next b).blade) did.0 ∙ c.blade;
  sent = ap (λ b. out' ++ (next b).sent) did.0 ∙ (ap (λ o. o ++ (next first.blade).sent) did.1 ∙ (append_assoc out first.sent (next first.blade).sent ∙ c.sent));
  noted = ap (λ b. notes' ++ (next b).noted) did.0 ∙ (ap (λ n. n ++ (next first.blade).noted) did.2 ∙ (append_assoc notes first.noted (next first.blade).noted ∙ c.noted));
  out_begins = begins_more out₀ out out' first.sent c.out_begins did.1;
  notes_begin = begins_more notes₀ notes notes' first.noted c.notes_begin did.2;
}

-- one more page of a list
pub continues_page : (change : PageView → BladeView → BladeEffect) (pages : List PageView) (i : ℕ) (page : PageView) (total : BladeEffect) (now new : BladeView) (out out' out₀ : List Msg) (notes notes' notes₀ : List Note)
    → drop i pages ≡ page ∷ drop (i + 1) pages
    → Continues (each_in change (drop i pages) now) total out out₀ notes notes₀ → Did (change page now) new out out' notes notes'
    → Continues (each_in change (drop (i + 1) pages) new) total out' out₀ notes' notes₀
continues_page change pages i page total now new out out' out₀ notes notes' notes₀ here c did =
    continues_more (change page now) (each_in change (drop (i + 1) pages)) total new out out' out₀ notes notes' notes₀
    (subst (λ ps. Continues (each_in change ps now) total out out₀ notes notes₀) here c) did

-- nothing is left
pub continues_end : (new : BladeView) (total : BladeEffect) (out out₀ : List Msg) (notes notes₀ : List Note) → Continues (only new) total out out₀ notes notes₀ → Did total new out₀ out notes₀ notes
continues_end new total out out₀ notes notes₀ c = (c.blade, sym (append-nil out) ∙ c.sent, sym (append-nil notes) ∙ c.noted)

-- no page is left
pub continues_done : (change : PageView → BladeView → BladeEffect) (pages : List PageView) (i : ℕ) (new : BladeView) (total : BladeEffect) (out out₀ : List Msg) (notes notes₀ : List Note)
    → length pages ≤ i → Continues (each_in change (drop i pages) new) total out out₀ notes notes₀ → Did total new out₀ out notes₀ notes
continues_done change pages i new total out out₀ notes notes₀ past c =
    continues_end new total out out₀ notes notes₀ (subst (λ ps. Continues (each_in change ps new) total out out₀ notes notes₀) (drop_all i pages past) c)

-- a list that begins alike, and was left so
begins_kept : {X : Type 0} (front xs ys : List X) → BeginsWith front xs → ys ≡ xs → BeginsWith front ys
begins_kept front xs ys b e = record { rest = b.rest; split = e ∙ b.split }

-- an error leaves what was sent and noted
pub left_so : {A E : Type 0} (r : Result A E) (rest total : BladeEffect) (out out' out₀ : List Msg) (notes notes' notes₀ : List Note)
    → Continues rest total out out₀ notes notes₀ → (out' ≡ out) × (notes' ≡ notes) → OnErr r (BeginsWith out₀ out' × BeginsWith notes₀ notes')
left_so (Ok a) rest total out out' out₀ notes notes' notes₀ c e = tt
left_so (Err r) rest total out out' out₀ notes notes' notes₀ c e =
    (begins_kept out₀ out out' c.out_begins e.0, begins_kept notes₀ notes notes' c.notes_begin e.1)
