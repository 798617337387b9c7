use Rattle.std.proofs.Common.{◌≡◌, ℕ, Bool, true, false, cond, refl, arith}
use Rattle.request_list.specs.Waiting.{requests_of}
use Rattle.request_list.proofs.RequestFacts.{fetching_in-more}
use Rattle.request_list.proofs.waiting.fetching_before.Goals as goal
use Rattle.request_list.proofs.waiting.fetching_before.Goals.{then-request_at, else-request_at}

one_if : (b : Bool) → b ≡ true → (let n : ℕ = cond b 1 0 in n) ≡ 1
one_if b e = rw e refl

none_if : (b : Bool) → b ≡ false → (let n : ℕ = cond b 1 0 in n) ≡ 0
none_if b e = rw e refl

pub loop-i-preserved : goal.loop-i-preserved
loop-i-preserved c =
    let more = fetching_in-more (requests_of c.args.waiting.now.entries) c.loop-i.i c.request_at.result c.request_at.ensures in
    elim c.if-request_at.branch [
      | then-request_at w ↦ (let one = one_if c.request_at.result.fetching w.if-request_at.true in (omega (arith, w.count-is, c.loop-i.invariant.0), omega (arith, w.count-is, more, one, c.loop-i.invariant.1)))
      | else-request_at w ↦ (let none = none_if c.request_at.result.fetching w.if-request_at.false in (omega (arith, w.count-is, c.loop-i.invariant.0), omega (arith, w.count-is, more, none, c.loop-i.invariant.1)))
    ]
