-- A page that comes notes no label, and what waited for it leads the machine on.
use Rattle.std.proofs.Common.{◌≡◌, ℕ, true, refl, subst, List}
use Rattle.mind_base.specs.Page.{PageView}
use Rattle.mind_base.specs.declared.images.Image.{Image}
use Rattle.hart_effect.specs.Deed.{found}
use Rattle.hart_effect.specs.declared.finds.Found.{Found}
use Rattle.page_image.specs.PageImage.{PageImageView}
use Rattle.compute_blade.specs.Blade.{HartView}
use Rattle.compute_blade.specs.Messages.{needs_just, resumed_by}
use Rattle.compute_blade.specs.Steps.{need_in}
use Rattle.compute_blade.specs.declared.kept.Answer.TheVariants.{Filled}
use Rattle.compute_blade.specs.declared.kept.Need.{Need}
use Rattle.compute_blade.specs.declared.kept.Waits.{Waits}
use Rattle.compute_blade.specs.declared.kept.Waits.TheVariants.{Step, Drain}
use Rattle.tso_machine.specs.State.{Setup, State}
use Rattle.rack_core.specs.Rack.{RackView}
use Rattle.rack_core.specs.Stands.{IsHartAt}
use Rattle.rack_core.specs.StandRuns.{GoesWith}
use Rattle.rack_core.proofs.Machine.Blades.{Runs, idles, performs-run, draining-runs}
use Rattle.rack_core.proofs.Machine.Harts.{Entries, IsHeld, HoldsFor}
use Rattle.rack_core.proofs.Moves.Blade.Fills.{just-page}
use Rattle.rack_core.proofs.Moves.Blade.Resuming.{resumes-as}

-- the page of an instruction that needs just what was asked for is held, where that of the request is
holds-just : (rack : RackView) (flat : PageView → PageImageView) (entries : Entries) (found : Found) (domain : ℕ) (asked : Need) → IsHeld rack flat entries asked.page
    → needs_just asked (need_in found domain) ≡ true → HoldsFor rack flat entries found domain
holds-just rack flat entries found domain asked held just need is = subst (IsHeld rack flat entries) (just-page asked (need_in found domain) need is just).0 held

-- What waited for a page goes on where its blade holds the page: it leads the machine on.
pub resumes-run : (images : List Image) (setup : Setup) (old : RackView) (flat : PageView → PageImageView) (m : State) → GoesWith images setup old flat m → (h : ℕ) (hart : HartView) (at : IsHartAt old h hart)
    → (asked : Need) → IsHeld old flat at.blade.cache.entries asked.page → (waits : Waits)
    → Runs images setup old flat m at.plan.blade (resumed_by waits Filled asked images h at.plan at.blade hart)
resumes-run images setup old flat m goes h hart at asked held Step =
    resumes-as (Runs images setup old flat m at.plan.blade) Filled asked images h at.plan at.blade hart (idles images setup old flat m goes h hart at)
    (λ image pc code runs just ready. performs-run images setup old flat m goes h hart at image pc
    (record { code = code; runs = runs; holds = holds-just old flat at.blade.cache.entries (found image hart.regs pc) at.plan.domain asked held just }))
resumes-run images setup old flat m goes h hart at asked held Drain = draining-runs images setup old flat m goes h hart at hart.queue.stores refl
