use Rattle.std.proofs.Common.{length, refl, arith}
use Rattle.std.proofs.lemmas.Option.{slice_get_read}
use Rattle.rack_net.specs.Kept.{IsQuietLink}
use Rattle.rack_net.specs.LinkSets.{is_busy}
use Rattle.rack_net.proofs.Finding.{All-more, All-each}
use Rattle.rack_net.proofs.Noting.{all-before, quiet-not-busy, first-busy-marked}
use Rattle.rack_net.proofs.rows.first_busy.Goals as goal

pub returns-in-Some-busy_side : goal.returns-in-Some-busy_side
returns-in-Some-busy_side c = first-busy-marked c.args.links.now c.args.busy c.in-Some.place c.index-links-place.result c.in-Some-busy_side.side c.requires c.in-Some.ensures c.index-links-place.is c.in-Some-busy_side.ensures

pub loop-place-init : goal.loop-place-init
loop-place-init c =
    all-before IsQuietLink is_busy c.args.links.now c.args.busy 64 quiet-not-busy (omega arith) c.requires (λ other _. c.in_default.ensures other)

pub loop-place-preserved : goal.loop-place-preserved
loop-place-preserved c =
    All-more IsQuietLink c.args.links.now c.loop-place.place c.index-links-place-in-loop-place.result c.loop-place-test.true c.index-links-place-in-loop-place.is c.in_default-busy_side.ensures c.loop-place.invariant

pub returns-in-Some-busy_side-2 : goal.returns-in-Some-busy_side-2
returns-in-Some-busy_side-2 c = record {
  link = c.index-links-place-in-loop-place.result;
  here = slice_get_read c.args.links.now (length c.args.links.now) c.loop-place.place c.index-links-place-in-loop-place.result refl c.loop-place-test.true c.index-links-place-in-loop-place.is;
  busy = c.in-Some-busy_side-2.ensures;
  before = c.loop-place.invariant;
}

pub returns : goal.returns
returns c = All-each IsQuietLink c.args.links.now c.loop-place.place c.loop-place-test.false c.loop-place.invariant
