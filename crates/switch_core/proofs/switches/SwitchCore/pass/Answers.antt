use Rattle.std.proofs.Common.{length, ap, refl, ◌∙◌, arith}
use Rattle.std.proofs.lemmas.List.{append-nil}
use Rattle.std.proofs.Common.{[], sym}
use Rattle.switch_core.specs.Sending.{start_at}
use Rattle.switch_core.specs.Serving.{first_pass, over}
use Rattle.switch_core.specs.Switch.{SwitchView}
use Rattle.switch_core.proofs.Passing.{keeps-same, keeps-then}
use Rattle.switch_core.proofs.Rounds.{come-more, in-first}
use Rattle.switch_core.proofs.switches.SwitchCore.pass.Goals as goal

pub loop-left-init : goal.loop-left-init
loop-left-init c =
    let s : SwitchView = c.args.self.now in (
      record {
        pass = first_pass s;
        inside = in-first s c.args.out.now.items c.args.log.now.notes;
        rest = ap (λ k. over k (first_pass s)) (c.len-left.ensures ∙ ap (λ (v : SwitchView). length v.requests) c.self.view_is);
      },
      keeps-same s s c.args.out.now.items c.args.out.now.items c.args.log.now.notes c.args.log.now.notes refl ([], sym (append-nil c.args.out.now.items)) ([], sym (append-nil c.args.log.now.notes)),
    )

pub loop-left-preserved : goal.loop-left-preserved
loop-left-preserved c =
    let s : SwitchView = c.args.self.now in (
      come-more (start_at s c.args.out.now.items c.args.log.now.notes) c.loop-left.left c.loop-left.self c.treat_next.new.self c.loop-left.stand c.treat_next.new.stand c.loop-left.out.items c.treat_next.new.out.items c.loop-left.log.notes c.treat_next.new.log.notes (omega arith) c.loop-left.invariant.0 c.in_ok-treat_next.ensures.goes_on,
      keeps-then s c.loop-left.self c.treat_next.new.self c.args.out.now.items c.loop-left.out.items c.treat_next.new.out.items c.args.log.now.notes c.loop-left.log.notes c.treat_next.new.log.notes c.loop-left.invariant.1 c.treat_next.ensures.keeps,
    )
