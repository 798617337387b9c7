-- What comes down to a blade may come to it.
use Rattle.std.proofs.Common.{◌≡◌, ℕ, true, false, ap, sym, refl, subst, List, ◌∷◌, Some, ◌∙◌}
use Rattle.std.specs.Prelude.{IsSomeAnd, IfSome}
use Rattle.mind_base.specs.Page.{PageView}
use Rattle.mind_base.specs.declared.commands.Perm.{Perm}
use Rattle.mind_base.specs.declared.commands.Perm.TheVariants.{No, R, Rw}
use Rattle.mind_base.specs.Permission.{allows, may_write}
use Rattle.wire_msg.specs.declared.msgs.Msg.{Msg}
use Rattle.wire_msg.specs.declared.msgs.Msg.TheVariants.{Fill, Deny, Inv, Lower}
use Rattle.compute_blade.specs.Blade.{BladeView, request_for}
use Rattle.compute_blade.specs.Messages.{MayComeToBlade, FitsFill}
use Rattle.compute_blade.specs.declared.kept.Asked.{Asked}
use Rattle.compute_blade.specs.declared.kept.Waits.{Waits}
use Rattle.compute_blade.specs.declared.kept.Waits.TheVariants.{Step, Drain}
use Rattle.coherence.specs.Facts.{IsCoherent, IsDown, AreDowns}
use Rattle.coherence.specs.World.{World}
use Rattle.coherence.proofs.Callers.{downs-cons}
use Rattle.rack_core.specs.BladeMoves.{HasBlade, IsRequest, IsRequestBy, IsSoundBlade, MayWriteAll}
use Rattle.rack_core.proofs.Moves.Blade.Fills.{asked_for, denied-asked}
use Rattle.rack_core.proofs.Moves.Blade.Sound.{of_found}

of_request : (requests : List Asked) (page : PageView) (P : Asked → Type 0) (asked : Asked) → request_for page requests ≡ Some asked → P asked → IsSomeAnd (request_for page requests) P
of_request requests page P asked e h = subst (λ r. IsSomeAnd r P) (sym e) h

-- a drain is not denied: its store was allowed
denied-waits : (w : World) (c : ℕ) (blade : BladeView) (page : PageView) (asked : Asked) → IsSoundBlade w.perms blade
    → asked.page ≡ page → allows asked.write (w.perms page) ≡ false
    → (waits : Waits) → IsRequestBy waits blade.plan.threads blade.harts asked → waits ≡ Step
denied-waits w c blade page asked sound is off Step r = refl
denied-waits w c blade page asked sound is off Drain r =
    let all : MayWriteAll w.perms r.plan.domain (r.oldest ∷ r.newer) = subst (MayWriteAll w.perms r.plan.domain) r.queue (sound.stores asked.hart r.plan r.hart r.thread r.own) in
    let its : may_write (w.perms page) ≡ true = ap (λ q. may_write (w.perms q)) (sym (r.page ∙ is)) ∙ all.0 in
    absurd (never (w.perms page) its (ap (λ b. allows b (w.perms page)) (sym r.write) ∙ off))
  where
    never : (perm : Perm) → may_write perm ≡ true → allows true perm ≡ false → ⊥
    never No m a = cc
    never R m a = cc
    never Rw m a = cc

pub may_come : (w : World) (c : ℕ) (blade : BladeView) (message : Msg) (behind : List Msg)
    → IsCoherent w → HasBlade c blade w → IsSoundBlade w.perms blade → w.downs c ≡ message ∷ behind → MayComeToBlade blade message
may_come w c blade message behind coherent has sound head =
    by message head (downs-cons w c message behind (subst (AreDowns w c) head (coherent.downs c))).0
  where
    by : (m : Msg) → w.downs c ≡ m ∷ behind → IsDown w c m behind → MayComeToBlade blade m
    by (Fill page perm writable image) head down =
        let asked = asked_for blade.requests page writable (sym (has.asks page) ∙ down.asked) in
        of_request blade.requests page (FitsFill writable) asked.0 asked.1 (λ write. sym asked.2 ∙ write)
    by (Deny page) head down =
        let out = denied-asked w c page behind coherent head in
        let asked = asked_for blade.requests page out.0 (sym (has.asks page) ∙ out.1) in
        let its = of_found (IsRequest blade.plan.threads blade.harts) page blade.requests asked.0 sound.requests asked.1 in
        let off : allows out.0 (w.perms page) ≡ false = subst (λ o. IfSome o (λ write. allows write (w.perms page) ≡ false)) out.1 down in
        of_request blade.requests page (λ asked. asked.waits ≡ Step) asked.0 asked.1
        (denied-waits w c blade page asked.0 sound its.1 (ap (λ b. allows b (w.perms page)) asked.2 ∙ off) asked.0.waits its.0)
    by (Inv number range asked) head down = tt
    by (Lower number range asked) head down = tt
    by m head down = absurd down
