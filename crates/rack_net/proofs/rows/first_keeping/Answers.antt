use Rattle.std.proofs.Common.{◌≡◌, length, refl, arith}
use Rattle.std.proofs.lemmas.Option.{slice_get_read}
use Rattle.link_retry.specs.SelectiveRepeat.{SelectiveView}
use Rattle.rack_net.specs.LinkSets.{is_keeping}
use Rattle.rack_net.proofs.Finding.{All-more, All-each}
use Rattle.rack_net.proofs.Noting.{all-before, keeps-none, first-keeping-marked}
use Rattle.rack_net.proofs.rows.first_keeping.Goals as goal

pub returns-in-Some : goal.returns-in-Some
returns-in-Some c = first-keeping-marked c.args.links.now c.args.keeping c.in-Some.place c.requires c.in-Some.ensures

pub loop-place-init : goal.loop-place-init
loop-place-init c =
    all-before (λ (link : SelectiveView). link.link.kept ≡ 0) is_keeping c.args.links.now c.args.keeping 64 keeps-none (omega arith) c.requires (λ other _. c.in_default.ensures other)

pub loop-place-preserved : goal.loop-place-preserved
loop-place-preserved c =
    All-more (λ (link : SelectiveView). link.link.kept ≡ 0) c.args.links.now c.loop-place.place c.index-links-place.result c.loop-place-test.true c.index-links-place.is (omega (arith, c.kept.ensures.kept, c.if-kept-gt0.false)) c.loop-place.invariant

pub returns-then-kept-gt0 : goal.returns-then-kept-gt0
returns-then-kept-gt0 c = record {
  link = c.index-links-place.result;
  here = slice_get_read c.args.links.now (length c.args.links.now) c.loop-place.place c.index-links-place.result refl c.loop-place-test.true c.index-links-place.is;
  keeps = omega (arith, c.kept.ensures.kept, c.if-kept-gt0.true);
  before = c.loop-place.invariant;
}

pub returns : goal.returns
returns c = All-each (λ (link : SelectiveView). link.link.kept ≡ 0) c.args.links.now c.loop-place.place c.loop-place-test.false c.loop-place.invariant
