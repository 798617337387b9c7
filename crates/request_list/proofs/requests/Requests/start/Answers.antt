use Rattle.std.proofs.Common.{length, sym, ap, subst, arith}
use Rattle.request_list.specs.Requests.{AskOncePerPage}
use Rattle.request_list.specs.Waiting.{requests_of}
use Rattle.request_list.proofs.RequestFacts.{apart-fetching_at, length-fetching_at}
use Rattle.request_list.proofs.requests.Requests.start.Goals as goal

apart : (c : goal.In_ok-start_at) → AskOncePerPage (requests_of c.start_at.new.waiting.entries)
apart c = subst AskOncePerPage (sym c.in_ok-start_at.ensures.started) (apart-fetching_at (requests_of c.self.inside.waiting.entries) c.args.i c.self.invariant.1)

pub invariant_of-self-2 : goal.invariant_of-self-2
invariant_of-self-2 c = (
  c.start_at.ensures.pages,
  apart c,
  omega (arith, c.self.invariant.2, ap length c.in_ok-start_at.ensures.started, length-fetching_at (requests_of c.self.inside.waiting.entries) c.args.i),
)

pub returns-clause-apart : goal.returns-clause-apart
returns-clause-apart c = apart c
