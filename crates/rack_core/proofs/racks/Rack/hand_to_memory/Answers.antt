use Rattle.std.proofs.Common.{sym, ◌∙◌, refl, Some, None}
use Rattle.rack_core.proofs.Functions.Blades.{when-ok}
use Rattle.rack_core.proofs.Functions.Switch.{memory-there, memory-at, memory-same, memory-heard, memory-shape, answer-sent}
use Rattle.rack_core.proofs.racks.Rack.hand_to_memory.Goals as goal

pub handle-requires : goal.handle-requires
handle-requires c = c.requires.may c.index_mut.result.now (memory-there _ c.args.self.now _ c.args.number c.index_mut.result.now c.self.view_is c.from.ensures c.index_mut.ensures.value c.requires.shape c.requires.number)

pub returns-in_default-clause-ok : goal.returns-in_default-clause-ok
returns-in_default-clause-ok c =
    memory-heard c.args.number c.args.msg c.index_mut.result.now None c.handle.new.self c.args.self.now _ c.args.self.now.net
    (memory-there _ c.args.self.now _ c.args.number c.index_mut.result.now c.self.view_is c.from.ensures c.index_mut.ensures.value c.requires.shape c.requires.number)
    (sym c.in_default.is ∙ c.in_ok-answer.ensures.answer) c.in_ok-answer.ensures.after refl
    (memory-same _ c.args.self.now _ c.args.number c.handle.new.self c.self.view_is c.from.ensures)

pub returns-in_default-clause-shape : goal.returns-in_default-clause-shape
returns-in_default-clause-shape c =
    memory-shape c.args.number None c.handle.new.self c.args.self.now _ c.args.self.now.net refl
    (memory-same _ c.args.self.now _ c.args.number c.handle.new.self c.self.view_is c.from.ensures) c.requires.shape.net c.requires.shape

pub returns-clause-ok : goal.returns-clause-ok
returns-clause-ok c = when-ok c.send.result
    (λ sends. memory-heard c.args.number c.args.msg c.index_mut.result.now (Some c.in-Some.answer) c.handle.new.self c.args.self.now _ c.send.new.net
    (memory-there _ c.args.self.now _ c.args.number c.index_mut.result.now c.self.view_is c.from.ensures c.index_mut.ensures.value c.requires.shape c.requires.number)
    (sym c.in-Some.is ∙ c.in_ok-answer.ensures.answer) c.in_ok-answer.ensures.after
    (answer-sent _ c.args.self.now c.args.number c.in-Some.answer c.send.new.net c.self.view_is sends)
    (memory-at _ c.args.self.now _ c.args.number c.handle.new.self c.send.new.net c.self.view_is c.from.ensures))
    c.send.ensures.ok

pub returns-clause-shape : goal.returns-clause-shape
returns-clause-shape c = when-ok c.send.result
    (λ sends. memory-shape c.args.number (Some c.in-Some.answer) c.handle.new.self c.args.self.now _ c.send.new.net
    (answer-sent _ c.args.self.now c.args.number c.in-Some.answer c.send.new.net c.self.view_is sends)
    (memory-at _ c.args.self.now _ c.args.number c.handle.new.self c.send.new.net c.self.view_is c.from.ensures) c.send.ensures.net c.requires.shape)
    c.send.ensures.ok
