use Rattle.std.proofs.Common.{◌+◌, ℕ, Bool, sym, subst, take, arith}
use Rattle.tso_machine.specs.Replay.{labels}
use Rattle.tso_machine.specs.Machine.{MachineView, StepLeads, StandsInside}
use Rattle.tso_machine.proofs.Laws.{keeps_total_store_order}
use Rattle.tso_machine.proofs.Runs.{Follows, follows-none-at, follows-some-at, follows-stuck-at, follows-inside-at, follows-end, on_err}
use Rattle.tso_machine.proofs.machines.Machine.replay.Goals as goal
use Rattle.tso_machine.proofs.machines.Machine.replay.Goals.{in-Some+in_ok-step-in-Some+else-not-branch, in-None}

pub returns-in_err-step-in-Some-clause-err : goal.returns-in_err-step-in-Some-clause-err
returns-in_err-step-in-Some-clause-err c =
    let P : MachineView → Type 0 = λ m. StandsInside (labels c.args.log.now.notes) c.args.self.now m in
    on_err _ (subst P (sym c.in_err-step-in-Some.ensures.err) (follows-inside-at _ _ _ _ _ c.loop-i.invariant.0))

pub returns-then-not-branch-clause-ok : goal.returns-then-not-branch-clause-ok
returns-then-not-branch-clause-ok c =
    let P : Bool → Type 0 = λ b. StepLeads b c.in-Some.label c.loop-i.self c.step.new.self in
    follows-stuck-at _ c.loop-i.self _ _ c.loop-i.i c.get.result c.in-Some.label _ c.get.ensures (sym c.in-Some.ensures) c.loop-i.invariant.0
    (subst P c.if-not-branch.true c.in_ok-step-in-Some.ensures.ok)

pub loop-i-preserved : goal.loop-i-preserved
loop-i-preserved c = elim c.match-label_in.branch [
  | in-Some+in_ok-step-in-Some+else-not-branch w ↦
      let P : Bool → Type 0 = λ b. StepLeads b w.in-Some.label c.loop-i.self w.step.new.self in
      let f = follows-some-at c.args.self.now c.loop-i.self w.step.new.self c.args.log.now.notes c.loop-i.i c.get.result w.in-Some.label c.loop-i.taken
      c.get.ensures (sym w.in-Some.ensures) c.loop-i.invariant.0 (subst P w.if-not-branch.false w.in_ok-step-in-Some.ensures.ok) w.in_ok-step-in-Some.ensures.setup in
      let Q : MachineView → Type 0 = λ m. Follows c.args.self.now m (take (c.loop-i.i + 1) c.args.log.now.notes) (c.loop-i.taken + 1) in
      let R : ℕ → Type 0 = λ n. Follows c.args.self.now c.match-label_in.self (take (c.loop-i.i + 1) c.args.log.now.notes) n in
      (subst R (sym w.taken-is) (subst Q (sym w.self-is) f), omega arith)
  | in-None w ↦
      let f = follows-none-at c.args.self.now c.loop-i.self c.args.log.now.notes c.loop-i.i c.get.result c.loop-i.taken
      c.get.ensures (sym w.in-None.ensures) c.loop-i.invariant.0 in
      let Q : MachineView → Type 0 = λ m. Follows c.args.self.now m (take (c.loop-i.i + 1) c.args.log.now.notes) c.loop-i.taken in
      let R : ℕ → Type 0 = λ n. Follows c.args.self.now c.match-label_in.self (take (c.loop-i.i + 1) c.args.log.now.notes) n in
      (subst R (sym w.taken-is) (subst Q (sym w.self-is) f), omega arith)
]

pub returns-clause-ok : goal.returns-clause-ok
returns-clause-ok c = follows-end _ _ _ c.loop-i.i c.loop-i.taken (omega arith) c.loop-i.invariant.0

pub returns-in_err-step-in-Some-clause-laws : goal.returns-in_err-step-in-Some-clause-laws
returns-in_err-step-in-Some-clause-laws c = λ state stands. keeps_total_store_order _ state _

pub returns-then-not-branch-clause-laws : goal.returns-then-not-branch-clause-laws
returns-then-not-branch-clause-laws c = λ state stands. keeps_total_store_order _ state _

pub returns-clause-laws : goal.returns-clause-laws
returns-clause-laws c = λ state stands. keeps_total_store_order _ state _
