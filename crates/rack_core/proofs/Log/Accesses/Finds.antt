-- An access that is performed is one whose page is held as it needs it, where its blade holds what its instruction needs.
use Rattle.std.proofs.Common.{◌≡◌, ℕ, ◌%◌, ◌==◌, Bool, true, false, not, ◌||◌, ap, sym, refl, subst, ◌∙◌, Option, Some, None, is_some}
use Rattle.std.specs.Prelude.{if◌then◌else◌}
use Rattle.std.proofs.lemmas.Bool.{false≢true}
use Rattle.std.proofs.lemmas.Option.{none-some, same_Some}
use Rattle.mind_base.specs.Page.{PageView}
use Rattle.mind_base.specs.Place.{place_of, page_at}
use Rattle.mind_base.specs.declared.commands.Perm.{Perm}
use Rattle.mind_base.specs.declared.ends.End.{End}
use Rattle.mind_base.specs.declared.ends.FaultKind.{FaultKind}
use Rattle.mind_base.specs.declared.ends.FaultKind.TheVariants as fault
use Rattle.mind_base.specs.Permission.{may_read, may_write}
use Rattle.page_cache.specs.PageCache.{is_writable}
use Rattle.hart_core.specs.Memory.{load_size}
use Rattle.hart_core.specs.declared.outcome.Act.{Act}
use Rattle.hart_core.specs.declared.outcome.Act.TheVariants as act
use Rattle.hart_core.specs.declared.outcome.LockedKind.TheVariants as locked
use Rattle.hart_effect.specs.Access.{AccessView, Around, denied}
use Rattle.hart_effect.specs.Deed.{Deed, Alone, Storing, acted, carried_out, must_wait, unless_denied}
use Rattle.hart_effect.specs.Thread.{Thread}
use Rattle.hart_effect.specs.declared.finds.Found.{Found}
use Rattle.hart_effect.specs.declared.finds.Found.TheVariants.{Outside, Unknown, Asks}
use Rattle.page_cache.specs.declared.frames.Frame.{Frame}
use Rattle.compute_blade.specs.Steps.{need_in, serves, writes_at_once}
use Rattle.compute_blade.specs.declared.kept.Need.{Need}
use Rattle.rack_core.specs.Accesses.{is_fault}
use Rattle.rack_core.specs.AtOnce.{access_in}
use Rattle.rack_core.proofs.Log.AtOnce.AtHand.{is_held_for}

-- how the thread of a deed ends
abbrev pub end_of : Deed → End
end_of (Alone thread) = thread.end
end_of (Storing thread store) = thread.end

-- an access that does not fault stands at a multiple of its size, and is allowed
fine : (kind : FaultKind) (can : Perm → Bool) (perm : PageView → Perm) (domain address size pc : ℕ) (thread : Thread) (deed : Deed)
    → is_fault (end_of (unless_denied (denied kind can perm domain address size) address pc thread deed)) ≡ false
    → ((address % size == 0) ≡ true) × (can (perm (page_at (place_of domain address))) ≡ true)
fine kind can perm domain address size pc thread deed e = by (address % size == 0) refl (can (perm (page_at (place_of domain address)))) refl e where
  by : (b : Bool) → (address % size == 0) ≡ b → (c : Bool) → can (perm (page_at (place_of domain address))) ≡ c
      → is_fault (end_of (unless_denied (if b then (if c then None else Some kind) else Some fault.Align) address pc thread deed)) ≡ false
      → ((address % size == 0) ≡ true) × (can (perm (page_at (place_of domain address))) ≡ true)
  by true s true t e = (s, t)
  by true s false t e = absurd (false≢true (sym e))
  by false s c t e = absurd (false≢true (sym e))

-- the page that is needed is held, and to write where the instruction writes at once and may write
pub record Suits (found : Found) (perm : PageView → Perm) (need : Need) (frame : Option Frame) : Type 0 where
  pub held : is_some frame ≡ true
  pub writable : writes_at_once found ≡ true → need.write ≡ true → may_write (perm need.page) ≡ true → is_writable frame ≡ true

-- so is each page that the instruction needs
abbrev pub AllSuits : Found → ℕ → (PageView → Perm) → (PageView → Option Frame) → Type 0
AllSuits found domain perm held = (need : Need) → need_in found domain ≡ Some need → Suits found perm need (held need.page)

-- the page of an access at a multiple of its size is needed
needed : (write aligned : Bool) (page : PageView) → aligned ≡ true → (if aligned then Some (let need : Need = record { page = page; write = write } in need) else None) ≡ Some (record { page = page; write = write })
needed write true page e = refl
needed write false page e = absurd (false≢true e)

acted-held : (held : PageView → Option Frame) (asked : Act) (around : Around) (pc : ℕ) (thread : Thread) (access : AccessView) → is_fault (end_of (acted asked around pc thread)) ≡ false
    → access_in (Asks asked) around.domain ≡ Some access → AllSuits (Asks asked) around.domain around.perm held
    → is_held_for access.kind (held (page_at (place_of access.domain access.address))) ≡ true
acted-held held (act.Load kind rd address) around pc thread access e is suits =
    let aligned = (fine fault.Load may_read around.perm around.domain address (load_size kind) pc thread _ e).0 in
    let page : PageView = page_at (place_of around.domain address) in
    subst (λ (a : AccessView). is_held_for a.kind (held (page_at (place_of a.domain a.address))) ≡ true) (same_Some _ access is)
    (suits (record { page = page; write = false }) (needed false (address % load_size kind == 0) page aligned)).held
acted-held held (act.Store size address value) around pc thread access e is suits =
    let aligned = (fine fault.Store may_write around.perm around.domain address size pc thread _ e).0 in
    let page : PageView = page_at (place_of around.domain address) in
    subst (λ (a : AccessView). is_held_for a.kind (held (page_at (place_of a.domain a.address))) ≡ true) (same_Some _ access is)
    (suits (record { page = page; write = true }) (needed true (address % size == 0) page aligned)).held
acted-held held (act.Locked locked.Lr rd address operand) around pc thread access e is suits =
    let aligned = (fine fault.Load may_read around.perm around.domain address 4 pc thread _ e).0 in
    let page : PageView = page_at (place_of around.domain address) in
    subst (λ (a : AccessView). is_held_for a.kind (held (page_at (place_of a.domain a.address))) ≡ true) (same_Some _ access is)
    (suits (record { page = page; write = false }) (needed false (address % 4 == 0) page aligned)).held
acted-held held (act.Locked locked.Sc rd address operand) around pc thread access e is suits =
    let its = fine fault.Store may_write around.perm around.domain address 4 pc thread _ e in
    let page : PageView = page_at (place_of around.domain address) in
    subst (λ (a : AccessView). is_held_for a.kind (held (page_at (place_of a.domain a.address))) ≡ true) (same_Some _ access is)
    ((suits (record { page = page; write = true }) (needed true (address % 4 == 0) page its.0)).writable refl refl its.1)
acted-held held (act.Locked (locked.Amo kind) rd address operand) around pc thread access e is suits =
    let its = fine fault.Store may_write around.perm around.domain address 4 pc thread _ e in
    let page : PageView = page_at (place_of around.domain address) in
    subst (λ (a : AccessView). is_held_for a.kind (held (page_at (place_of a.domain a.address))) ≡ true) (same_Some _ access is)
    ((suits (record { page = page; write = true }) (needed true (address % 4 == 0) page its.0)).writable refl refl its.1)
acted-held held (act.Next rd value next) around pc thread access e is suits = absurd (none-some access is)
acted-held held (act.Fence drains) around pc thread access e is suits = absurd (none-some access is)
acted-held held act.Call around pc thread access e is suits = absurd (none-some access is)
acted-held held (act.Jumped target) around pc thread access e is suits = absurd (none-some access is)
acted-held held act.Broke around pc thread access e is suits = absurd (none-some access is)

pub performed-held : (held : PageView → Option Frame) (found : Found) (around : Around) (pc : ℕ) (thread : Thread) (deed : Deed) (access : AccessView) → carried_out found around pc thread ≡ Some deed
    → is_fault (end_of deed) ≡ false → access_in found around.domain ≡ Some access → AllSuits found around.domain around.perm held
    → is_held_for access.kind (held (page_at (place_of access.domain access.address))) ≡ true
performed-held held Outside around pc thread deed access does e is suits = absurd (none-some access is)
performed-held held (Unknown word) around pc thread deed access does e is suits = absurd (none-some access is)
performed-held held (Asks asked) around pc thread deed access does e is suits = by (must_wait asked thread.buffer) does where
  by : (b : Bool) → (if b then None else Some (acted asked around pc thread)) ≡ Some deed → is_held_for access.kind (held (page_at (place_of access.domain access.address))) ≡ true
  by true does = absurd (none-some deed does)
  by false does = acted-held held asked around pc thread access (subst (λ d. is_fault (end_of d) ≡ false) (sym (same_Some _ deed does)) e) is suits

-- ---- what serves an instruction suits it

pub served-suits : (found : Found) (perm : PageView → Perm) (need : Need) (frame : Option Frame) → ((f : Frame) → frame ≡ Some f → f.perm ≡ perm need.page) → serves found frame ≡ true → Suits found perm need frame
served-suits found perm need None same e = absurd (false≢true e)
served-suits found perm need (Some frame) same e = record {
  held = refl;
  writable = λ at_once write may. by (writes_at_once found) frame.writable (may_write frame.perm) e at_once (ap may_write (same frame refl) ∙ may);
} where
  by : (a b c : Bool) → ((not a || b) || not c) ≡ true → a ≡ true → c ≡ true → b ≡ true
  by true true c e s t = refl
  by true false true e s t = absurd (false≢true e)
  by true false false e s t = absurd (false≢true t)
  by false b c e s t = absurd (false≢true s)
