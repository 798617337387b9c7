-- What a hart comes upon in its step, and in its drain, in a rack that stands for a state of the machine.
use Rattle.std.proofs.Common.{◌≡◌, inl, inr, ℕ, ◌%◌, ◌==◌, Bool, true, false, cond, not, ◌||◌, ap, sym, refl, List, [], ◌∷◌, Option, Some, None, is_some, ◌∙◌}
use Rattle.std.specs.Prelude.{if◌then◌else◌}
use Rattle.std.specs.List.{AllByRecursion}
use Rattle.std.proofs.lemmas.Option.{same_Some}
use Rattle.mind_base.specs.Page.{PageView}
use Rattle.mind_base.specs.Place.{place_of, page_at}
use Rattle.mind_base.specs.Permission.{may_write}
use Rattle.hart_core.specs.Memory.{load_size}
use Rattle.hart_core.specs.declared.outcome.Act.{Act}
use Rattle.hart_core.specs.declared.outcome.Act.TheVariants as act
use Rattle.hart_core.specs.declared.outcome.LockedKind.TheVariants as locked
use Rattle.hart_effect.specs.declared.finds.Found.{Found}
use Rattle.hart_effect.specs.declared.finds.Found.TheVariants.{Outside, Unknown, Asks}
use Rattle.page_cache.proofs.Callers.{same_page-refl}
use Rattle.page_cache.specs.PageCache.{same_page, is_writable}
use Rattle.page_cache.specs.declared.frames.Frame.{Frame}
use Rattle.compute_blade.specs.Blade.{request_for}
use Rattle.compute_blade.specs.Steps.{need_in, serves, writes_at_once}
use Rattle.compute_blade.specs.declared.kept.Asked.{Asked}
use Rattle.compute_blade.specs.declared.kept.Need.{Need}
use Rattle.compute_blade.specs.declared.kept.Waits.{Waits}
use Rattle.rack_core.specs.AtOnce.{access_in}
use Rattle.rack_core.proofs.Log.AtOnce.AtHand.{frames_at_hand}
use Rattle.rack_core.specs.BladeMoves.{IsOut}

-- ---- an access whose page is held as it needs it is served

some-serves : (found : Found) (held : Option Frame) → writes_at_once found ≡ false → is_some held ≡ true → serves found held ≡ true
some-serves found None later e = let never : ⊥ = cc in absurd never
some-serves found (Some frame) later e = ap (λ b. not b || frame.writable || not (may_write frame.perm)) later

writable-serves : (found : Found) (held : Option Frame) → is_writable held ≡ true → serves found held ≡ true
writable-serves found None e = let never : ⊥ = cc in absurd never
writable-serves found (Some frame) e = by (not (writes_at_once found)) frame.writable (not (may_write frame.perm)) e where
  by : (a b c : Bool) → b ≡ true → (a || b || c) ≡ true
  by true b c e = refl
  by false true c e = refl
  by false false c e = let never : ⊥ = cc in absurd never

-- an access at a multiple of its size needs its page
needed : (held : PageView → Option Frame) (serving : Option Frame → Bool) (write aligned : Bool) (page : PageView) (need : Need)
    → (if aligned then Some (record { page = page; write = write }) else None) ≡ Some need → (not aligned || serving (held page)) ≡ true → serving (held need.page) ≡ true
needed held serving write true page need e at = ap (λ (n : Need). serving (held n.page)) (sym (same_Some _ _ e)) ∙ at
needed held serving write false page need e at = let never : ⊥ = cc in absurd never

act-serves : (held : PageView → Option Frame) (asked : Act) (domain : ℕ) (need : Need) → frames_at_hand held (access_in (Asks asked) domain) ≡ true → need_in (Asks asked) domain ≡ Some need
    → serves (Asks asked) (held need.page) ≡ true
act-serves held (act.Load kind rd address) domain need at e = some-serves (Asks (act.Load kind rd address)) (held need.page) refl
    (needed held is_some false (address % load_size kind == 0) (page_at (place_of domain address)) need e at)
act-serves held (act.Store size address value) domain need at e = some-serves (Asks (act.Store size address value)) (held need.page) refl
    (needed held is_some true (address % size == 0) (page_at (place_of domain address)) need e at)
act-serves held (act.Locked locked.Lr rd address operand) domain need at e = some-serves (Asks (act.Locked locked.Lr rd address operand)) (held need.page) refl
    (needed held is_some false (address % 4 == 0) (page_at (place_of domain address)) need e at)
act-serves held (act.Locked locked.Sc rd address operand) domain need at e = writable-serves (Asks (act.Locked locked.Sc rd address operand)) (held need.page)
    (needed held is_writable true (address % 4 == 0) (page_at (place_of domain address)) need e at)
act-serves held (act.Locked (locked.Amo kind) rd address operand) domain need at e = writable-serves (Asks (act.Locked (locked.Amo kind) rd address operand)) (held need.page)
    (needed held is_writable true (address % 4 == 0) (page_at (place_of domain address)) need e at)
act-serves held (act.Next rd value pc) domain need at e = let never : ⊥ = cc in absurd never
act-serves held (act.Fence drains) domain need at e = let never : ⊥ = cc in absurd never
act-serves held act.Call domain need at e = let never : ⊥ = cc in absurd never
act-serves held (act.Jumped target) domain need at e = let never : ⊥ = cc in absurd never
act-serves held act.Broke domain need at e = let never : ⊥ = cc in absurd never

pub at-hand-serves : (held : PageView → Option Frame) (found : Found) (domain : ℕ) (need : Need) → frames_at_hand held (access_in found domain) ≡ true → need_in found domain ≡ Some need
    → serves found (held need.page) ≡ true
at-hand-serves held Outside domain need at e = let never : ⊥ = cc in absurd never
at-hand-serves held (Unknown word) domain need at e = let never : ⊥ = cc in absurd never
at-hand-serves held (Asks asked) domain need at e = act-serves held asked domain need at e

-- ---- a request that is out

-- a request of hart h that is out, with what is true of each request
pub record IsFound (P : Asked → Type 0) (h : ℕ) (kind : Waits) (requests : List Asked) : Type 0 where
  pub asked : Asked
  pub other : Asked
  pub hart : asked.hart ≡ h
  pub waits : asked.waits ≡ kind
  pub is : P asked
  pub out : request_for asked.page requests ≡ Some other

pub found_out : (P : Asked → Type 0) (h : ℕ) (waits : Waits) (requests : List Asked) → AllByRecursion P requests → IsOut h waits requests → IsFound P h waits requests
found_out P h waits [] all out = absurd out
found_out P h waits (first ∷ requests) all (inl here) = record {
  asked = first;
  other = first;
  hart = here.0;
  waits = here.1;
  is = all.0;
  out = ap (λ b. cond b (Some first) (request_for first.page requests)) (same_page-refl first.page);
}
found_out P h waits (first ∷ requests) all (inr out) = by (found_out P h waits requests all.1 out) where
  by : IsFound P h waits requests → IsFound P h waits (first ∷ requests)
  by f = at (same_page f.asked.page first.page) refl where
    at : (b : Bool) → same_page f.asked.page first.page ≡ b → IsFound P h waits (first ∷ requests)
    at true e = record { asked = f.asked; other = first; hart = f.hart; waits = f.waits; is = f.is; out = ap (λ b. cond b (Some first) (request_for f.asked.page requests)) e }
    at false e = record { asked = f.asked; other = f.other; hart = f.hart; waits = f.waits; is = f.is; out = ap (λ b. cond b (Some first) (request_for f.asked.page requests)) e ∙ f.out }
