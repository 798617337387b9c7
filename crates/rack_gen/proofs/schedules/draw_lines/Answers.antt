use Rattle.std.proofs.Common.{◌≡◌, ◌+◌, ◌-◌, ◌∷◌, ◌++◌, ◌∙◌, List, [], length, ap, arith}
use Rattle.rack_gen.specs.declared.lines.Line.{Line}
use Rattle.rack_gen.specs.declared.lines.Line.TheVariants.{Settle}
use Rattle.rack_gen.specs.Line.{line_at}
use Rattle.rack_gen.specs.Wire.{wires_of, wires_between}
use Rattle.mind_base.specs.declared.links.LinkKind.TheVariants.{Up, Down, To, From}
use Rattle.schedule_text.specs.Size.{sizes_of}
use Rattle.rack_gen.specs.Generator.{lines_from, lines_for}
use Rattle.rack_gen.proofs.Drawing.{still_to_draw, all_drawn}
use Rattle.rack_gen.proofs.schedules.draw_lines.Goals as goal

pub loop-preserved : goal.loop-preserved
loop-preserved c =
    let threads = c.len-threads.result in
    let wires = c.in_ok-wires.wires.items in
    let state = c.loop.generator.state in
    let line = c.draw_line.result in
    let drawn : line ≡ line_at threads wires state = c.draw_line.ensures.line ∙ ap (λ ws. line_at threads ws state) c.as_slice.ensures.value in
    ap (λ lines. lines ++ lines_from threads wires (c.args.count - (c.loop.counter + 1)) c.draw_line.new.generator.state) c.in_ok-push.ensures.items
    ∙ still_to_draw threads wires c.loop.lines.items (lines_from threads wires c.args.count c.args.seed) line c.args.count c.loop.counter state
    c.draw_line.new.generator.state (omega arith) drawn c.draw_line.ensures.state c.loop.invariant

pub returns : goal.returns
unfolding lines_for
returns c =
    let threads : c.len-threads.result ≡ length c.args.plan.now.threads = omega arith in
    let wires : c.in_ok-wires.wires.items ≡ wires_of (sizes_of c.args.plan.now) =
    c.in_ok-wires.ensures.wires ∙ (λ i. wires_between Up Down (c.len.ensures i) ++ wires_between To From (c.len-2.ensures i)) in
    let lines = all_drawn c.len-threads.result c.in_ok-wires.wires.items c.loop.lines.items
    (lines_from c.len-threads.result c.in_ok-wires.wires.items c.args.count c.args.seed) (c.args.count - c.loop.counter) c.loop.generator.state
    (omega arith) c.loop.invariant in
    c.in_ok-push-2.ensures.items ∙ ap (λ (all : List Line). all ++ Settle ∷ []) (lines ∙ (λ i. lines_from (threads i) (wires i) c.args.count c.args.seed))
