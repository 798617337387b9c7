-- What a blade does when a message of the switch comes.
use Rattle.std.specs.Prelude.{◌≡◌, ℕ, Bool, true, false, ◌&&◌, not, List, [], ◌∷◌, Option, Some, None, slice_get, option_map, unwrap_or, IsSomeAnd, if◌then◌else◌}
use Rattle.std.specs.Bool.{beq}
use Rattle.mind_base.specs.Page.{PageView}
use Rattle.mind_base.specs.declared.ends.End.{End}
use Rattle.mind_base.specs.declared.ends.End.TheVariants.{Running, Exit, Fault}
use Rattle.mind_base.specs.declared.images.Image.{Image}
use Rattle.mind_base.specs.declared.plans.ThreadPlan.{ThreadPlan}
use Rattle.hart_effect.specs.Deed.{found, drains_first}
use Rattle.hart_effect.specs.declared.finds.Found.{Found}
use Rattle.page_cache.specs.PageCache.{same_page}
use Rattle.wire_msg.specs.declared.msgs.Msg.{Msg}
use Rattle.wire_msg.specs.declared.msgs.Msg.TheVariants.{Fill, Deny, Inv, Lower, Ack}
use Rattle.compute_blade.specs.Blade.{HartView, BladeView, BladeEffect, with_hart, request_for, requests_without, only, and_then}
use Rattle.compute_blade.specs.Denials.{denial_in, refused_by}
use Rattle.compute_blade.specs.Pages.{given_up, lowered, each_in, held_in, writable_in, spared, taken}
use Rattle.compute_blade.specs.Steps.{need_in, for_hart, performed, draining_by}
use Rattle.compute_blade.specs.declared.kept.Answer.{Answer}
use Rattle.compute_blade.specs.declared.kept.Answer.TheVariants.{Filled, Denied}
use Rattle.compute_blade.specs.declared.kept.Asked.{Asked}
use Rattle.compute_blade.specs.declared.kept.Need.{Need}
use Rattle.compute_blade.specs.declared.kept.Waits.{Waits}
use Rattle.compute_blade.specs.declared.kept.Waits.TheVariants.{Step, Drain}

-- ---- the answer to a request

-- the hart's step, or its drain, waits no longer
abbrev pub awake : Waits → HartView → HartView
awake Step hart = record hart { stepping = false }
awake Drain hart = record hart { draining = false }

-- an instruction needs just what was asked for: that page, and to write only where it was asked for to be written
abbrev pub same_need : Need → Need → Bool
same_need a b = same_page a.page b.page && beq a.write b.write

abbrev pub needs_just : Need → Option Need → Bool
needs_just asked None = false
needs_just asked (Some need) = same_need asked need

-- a page that came lets the hart perform its instruction; one that was denied ends it by a fault
abbrev pub answered_by : Answer → ℕ → ThreadPlan → Found → ℕ → BladeView → HartView → BladeEffect
answered_by Filled h plan found pc blade hart = performed h plan found pc blade hart
answered_by Denied h plan found pc blade hart = refused_by (denial_in found) h pc blade hart

-- That is done where the instruction needs just what was asked for and no store must drain first; else nothing is.
abbrev pub resumed_with : Answer → Need → ℕ → ThreadPlan → Found → ℕ → BladeView → HartView → BladeEffect
resumed_with answer asked h plan found pc blade hart =
    if needs_just asked (need_in found plan.domain) && not (drains_first found hart.queue.stores hart.queue.capacity)
    then answered_by answer h plan found pc blade hart
    else only blade

-- the instruction is the one at the pc where the hart stands
abbrev pub resumed_at : End → Answer → Need → List Image → ℕ → ThreadPlan → BladeView → HartView → BladeEffect
resumed_at (Running pc) answer asked images h plan blade hart = unwrap_or (option_map
    (λ image. resumed_with answer asked h plan (found image hart.regs pc) pc blade hart)
    (slice_get images plan.image)) (only blade)
resumed_at (Exit value) answer asked images h plan blade hart = only blade
resumed_at (Fault kind value pc) answer asked images h plan blade hart = only blade

-- what waited for what was asked for goes on: the step, or the drain
abbrev pub resumed_by : Waits → Answer → Need → List Image → ℕ → ThreadPlan → BladeView → HartView → BladeEffect
resumed_by Step answer asked images h plan blade hart = resumed_at hart.end answer asked images h plan blade hart
resumed_by Drain answer asked images h plan blade hart = draining_by h plan hart.queue.stores blade hart

-- what a request asks for
abbrev pub need_asked : Asked → Need
need_asked asked = record { page = asked.page; write = asked.write }

-- the request ends, and what waited for it waits no longer and goes on
abbrev pub resumed : Answer → List Image → Asked → BladeView → BladeEffect
resumed answer images asked blade = unwrap_or (for_hart blade asked.hart (λ plan hart. Some
    (resumed_by asked.waits answer (need_asked asked) images asked.hart plan
    (with_hart asked.hart (awake asked.waits hart) (record blade { requests = requests_without asked.page blade.requests }))
    (awake asked.waits hart)))) (only blade)

abbrev pub resumed_for : Answer → List Image → Option Asked → BladeView → BladeEffect
resumed_for answer images None blade = only blade
resumed_for answer images (Some asked) blade = resumed answer images asked blade

-- ---- messages

-- pages of a range were given up, or lowered: the switch hears how many of them were not asked for
abbrev pub acknowledging : (PageView → BladeView → BladeEffect) → List PageView → ℕ → Option PageView → BladeView → BladeEffect
acknowledging change pages number asked blade = and_then (each_in change pages blade)
    (λ after. record { blade = after; sent = Ack number (spared asked pages) ∷ []; noted = [] })

abbrev pub after_message : List Image → Msg → BladeView → BladeEffect
after_message images (Fill page perm writable image) blade = and_then (taken page perm writable image blade)
    (λ after. resumed_for Filled images (request_for page after.requests) after)
after_message images (Deny page) blade = resumed_for Denied images (request_for page blade.requests) blade
after_message images (Inv number range asked) blade = acknowledging given_up (held_in range blade) number asked blade
after_message images (Lower number range asked) blade = acknowledging lowered (writable_in range blade) number (Some asked) blade
after_message images message blade = only blade

-- a message that brings no page
abbrev pub BringsNothing : Msg → Type 0
BringsNothing (Fill page perm writable image) = ⊥
BringsNothing message = Unit {0}

-- ---- which messages may come

-- a Fill answers a request that is out, with a page to write where one was asked for
abbrev pub FitsFill : Bool → Asked → Type 0
FitsFill writable asked = asked.write ≡ true → writable ≡ true

-- A message that may come to the blade as it is: a Fill and a Deny answer a request that is out, and no drain is denied.
abbrev pub MayComeToBlade : BladeView → Msg → Type 0
MayComeToBlade blade (Fill page perm writable image) = IsSomeAnd (request_for page blade.requests) (FitsFill writable)
MayComeToBlade blade (Deny page) = IsSomeAnd (request_for page blade.requests) (λ asked. asked.waits ≡ Step)
MayComeToBlade blade (Inv number range asked) = Unit {0}
MayComeToBlade blade (Lower number range asked) = Unit {0}
MayComeToBlade blade message = ⊥

-- the request that a message answers
abbrev pub request_answered : Msg → List Asked → Option Asked
request_answered (Fill page perm writable image) requests = request_for page requests
request_answered (Deny page) requests = request_for page requests
request_answered message requests = None
