-- After each event the switch has served: no request waits that a pass could do something for.
use Rattle.std.proofs.Common.{◌≡◌, ℕ, ap, sym, subst, List, [], ◌∷◌, Option, Some, None, slice_get, length}
use Rattle.mind_base.specs.declared.events.Event.{Event}
use Rattle.mind_base.specs.declared.events.Event.TheVariants.{Step, Drain, Evict, Deliver, Lose, Repeat, Resend, Epoch, Ask, Settle}
use Rattle.mind_base.specs.declared.images.Image.{Image}
use Rattle.mind_base.specs.declared.links.LinkKind.{LinkKind}
use Rattle.mind_base.specs.declared.links.LinkKind.TheVariants.{Up, Down, To, From}
use Rattle.mind_base.specs.declared.links.LinkName.{LinkName}
use Rattle.mind_base.specs.declared.notes.Note.{Note}
use Rattle.mind_base.specs.declared.plans.RackPlan.{RackPlan}
use Rattle.mind_base.specs.declared.plans.ThreadPlan.{ThreadPlan}
use Rattle.wire_msg.specs.declared.msgs.Msg.{Msg}
use Rattle.compute_blade.specs.Blade.{BladeView, BladeEffect}
use Rattle.compute_blade.specs.Messages.{after_message}
use Rattle.compute_blade.specs.Pages.{given_up}
use Rattle.compute_blade.specs.Steps.{after_step, blade_after_drain}
use Rattle.switch_core.specs.Serving.{IsServed, first_pass, over}
use Rattle.rack_core.specs.Events.{BladeDoes, HartDoes, HandsTo, HandsAll, Leads, SwitchHears}
use Rattle.rack_core.specs.Rack.{RackView}
use Rattle.rack_core.specs.Start.{IsStart}
use Rattle.rack_core.proofs.Events.Handing.{blade_leaves}

-- the switch is as it was
same-served : (old new : RackView) → new.switch ≡ old.switch → IsServed old.switch → IsServed new.switch
same-served old new same served = subst IsServed (sym same) served

does-served : (number : ℕ) (act : BladeView → Option BladeEffect) (old new : RackView) (noted : List Note) → IsServed old.switch → BladeDoes number act old new noted → IsServed new.switch
does-served number act old new noted served given = same-served old new (blade_leaves number act old new noted given).switch served

hart-served : (thread : Option ThreadPlan) (act : BladeView → Option BladeEffect) (old new : RackView) (noted : List Note) → IsServed old.switch → HartDoes thread act old new noted → IsServed new.switch
hart-served None act old new noted served given = absurd given
hart-served (Some thread) act old new noted served given = does-served thread.blade act old new noted served given

-- it serves after each message that it hears
hears-served : (name : LinkName) (message : Msg) (old new : RackView) (noted : List Note) → SwitchHears name message old new noted → IsServed new.switch
hears-served name message old new noted hears = subst IsServed (ap (λ (r : RackView). r.switch) (sym hears.after)) hears.heard.2

hands-served : (kind : LinkKind) (images : List Image) (number : ℕ) (message : Msg) (old new : RackView) (noted : List Note) → IsServed old.switch
    → HandsTo kind images number message old new noted → IsServed new.switch
hands-served Up images number message old new noted served hands = hears-served (record { kind = Up; number = number }) message old new noted hands
hands-served Down images number message old new noted served hands = does-served number (λ blade. Some (after_message images message blade)) old new noted served hands
hands-served To images number message old new noted served hands = same-served old new (ap (λ (r : RackView). r.switch) hands.after) served
hands-served From images number message old new noted served hands = hears-served (record { kind = From; number = number }) message old new noted hands

all-served : (images : List Image) (name : LinkName) (messages : List Msg) (old new : RackView) (noted : List Note) → IsServed old.switch → HandsAll images name messages old new noted → IsServed new.switch
all-served images name [] old new noted served hands = same-served old new (ap (λ (r : RackView). r.switch) hands.0) served
all-served images name (message ∷ messages) old new noted served (mid, first, later, one, rest, is) =
    all-served images name messages mid new later (hands-served name.kind images name.number message old mid first served one) rest

pub event-served : (images : List Image) (event : Event) (old new : RackView) (noted : List Note) → IsServed old.switch → Leads images event old new noted → IsServed new.switch
event-served images (Step hart) old new noted served given = hart-served (slice_get old.plan.threads hart) (after_step images hart) old new noted served given
event-served images (Drain hart) old new noted served given = hart-served (slice_get old.plan.threads hart) (blade_after_drain hart) old new noted served given
event-served images (Evict blade page) old new noted served given = does-served blade (λ b. Some (given_up page b)) old new noted served given
event-served images (Deliver link side k) old new noted served given = all-served images link given.taken _ new noted served given.handed
event-served images (Lose link side k) old new noted served given = same-served old new (ap (λ (r : RackView). r.switch) given.after) served
event-served images (Repeat link side k) old new noted served given = same-served old new (ap (λ (r : RackView). r.switch) given.after) served
event-served images (Resend link) old new noted served given = same-served old new (ap (λ (r : RackView). r.switch) given.after) served
event-served images Epoch old new noted served given = same-served old new (ap (λ (r : RackView). r.switch) given.0) served
event-served images (Ask command) old new noted served given = absurd given
event-served images Settle old new noted served given = absurd given

-- a rack that starts has no requests
pub start-served : (plan : RackPlan) (rack : RackView) → IsStart plan rack → IsServed rack.switch
start-served plan rack start = ap (λ requests. (over (length requests) (first_pass rack.switch)).done) start.switch.requests
