use Rattle.std.proofs.Common.{◌≡◌, Some, None, List, [], ◌∷◌, ◌++◌, filter, not, length, ap, subst, sym, ◌∙◌}
use Rattle.std.specs.List.{find}
use Rattle.std.proofs.lemmas.Result.{on_ok_weaker}
use Rattle.mind_base.specs.declared.commands.Perm.{Perm}
use Rattle.protect_table.specs.Protect.{permission_at}
use Rattle.request_list.specs.Requests.{is_of, AskOncePerPage}
use Rattle.request_list.specs.declared.requests.Request.{Request}
use Rattle.wire_msg.specs.declared.msgs.Msg.TheVariants.{Fill}
use Rattle.switch_core.specs.Invariant.{IsFitRequest, IsSwitch}
use Rattle.switch_core.specs.Switch.{SwitchView, to_blade, with_requests}
use Rattle.switch_core.proofs.Answering.{fetched-found, fill-comes}
use Rattle.switch_core.proofs.Lists.{all-filter}
use Rattle.switch_core.proofs.Safety.{switch-requests}
use Rattle.switch_core.proofs.switches.SwitchCore.fill.Goals as goal

pub unreachable-requires : goal.unreachable-requires
unreachable-requires c =
    let none : find (is_of c.args.blade c.args.page.now) c.args.self.now.requests ≡ None =
    ap (λ (v : SwitchView). find (is_of c.args.blade c.args.page.now) v.requests) (sym c.self.view_is) ∙ sym c.done.ensures.found ∙ c.in_default.is in
    fetched-found c.args.blade c.args.page.now c.args.self.now.requests c.requires.fetched none

pub invariant_of-self : goal.invariant_of-self
invariant_of-self c =
    let s : SwitchView = record { plan = c.self.inside.plan; table = c.self.inside.table; protect = c.self.inside.protect; directory = c.self.inside.directory; requests = c.self.inside.requests; last = c.self.inside.last } in
    subst (λ (rs : List Request). IsSwitch (record s { requests = rs })) (sym c.done.ensures.left)
    (switch-requests s _ c.self.invariant (all-filter (IsFitRequest (length s.plan.frames)) _ s.requests c.self.invariant.requests))

pub returns-clause-comes : goal.returns-clause-comes
returns-clause-comes c =
    let s : SwitchView = c.args.self.now in
    let r : Request = c.in-Some.r in
    let rs : List Request = c.done.new.self in
    let apart : AskOncePerPage s.requests = subst (λ (v : SwitchView). AskOncePerPage v.requests) c.self.view_is c.done.ensures.was_apart in
    let found : find (is_of c.args.blade c.args.page.now) s.requests ≡ Some r = ap (λ (v : SwitchView). find (is_of c.args.blade c.args.page.now) v.requests) (sym c.self.view_is) ∙ sym c.in-Some.ensures.found in
    let left : rs ≡ filter (λ q. not (is_of c.args.blade c.args.page.now q)) s.requests =
    c.done.ensures.left ∙ ap (λ (v : SwitchView). filter (λ q. not (is_of c.args.blade c.args.page.now q)) v.requests) c.self.view_is in
    let perm : c.perm.result ≡ permission_at s.protect r.page = c.perm.ensures ∙ ap (λ (v : SwitchView). permission_at v.protect r.page) c.self.view_is in
    let whole : IsSwitch s = subst (λ (v : SwitchView). IsSwitch v) c.self.view_is c.self.invariant in
    on_ok_weaker c.tell.result
    (λ told. fill-comes s _ c.args.out.now.items c.tell.new.out.items c.args.blade c.args.page.now c.args.image r rs whole apart c.requires.fetched found left (ap (λ (v : SwitchView). with_requests v rs) c.self.view_is)
    (told ∙ ap (λ (p : Perm). c.args.out.now.items ++ to_blade r.blade (Fill r.page p r.write c.args.image) ∷ []) perm))
    c.tell.ensures.ok
