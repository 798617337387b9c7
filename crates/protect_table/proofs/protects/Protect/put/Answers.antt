use Rattle.std.proofs.Common.{◌≡◌, List, map, ap, sym, ◌∙◌, arith}
use Rattle.mind_base.specs.Span.{SpanView}
use Rattle.mind_base.specs.Cover.{cover_of}
use Rattle.protect_table.specs.Block.{BlockView, block_view}
use Rattle.protect_table.specs.Protect.{ProtectView, changed, permission_at, permission_among}
use Rattle.protect_table.proofs.Kept.{put-read, put-permissions, set-read}
use Rattle.protect_table.proofs.protects.Protect.put.Goals as goal

pub invariant_of-self : goal.invariant_of-self
invariant_of-self c =
    let table : ProtectView = record { slots = c.self.inside.slots; domains = map block_view c.self.inside.domains.items } in
    let span : SpanView = record { domain = c.span.inside.domain; base = c.span.inside.base; pages = c.span.inside.pages } in
    let by_table = ap (λ (t : ProtectView). cover_of (changed (permission_at t) c.args.span.now c.args.perm)) (sym c.self.view_is) in
    let by_span = ap (λ (s : SpanView). cover_of (changed (permission_at table) s c.args.perm)) (sym c.span.view_is) in
    let slots = ap (λ (t : ProtectView). t.slots) c.self.view_is in
    let cover : c.cover_with-self-inside.result ≡ cover_of (changed (permission_among table.domains) span c.args.perm) = c.cover_with-self-inside.ensures ∙ (by_table ∙ by_span) in
    put-read c.self.inside.slots c.self.inside.cover c.self.inside.domains.items span c.args.perm c.index.result.now c.self.invariant c.span.invariant.0 c.span.invariant.2 c.index.ensures
    c.in_ok-block.block c.cover_with-self-inside.result c.in_ok-block.ensures cover (omega (arith, c.requires, slots, c.cover_with-self-inside.ensures))

pub returns-clause-ok : goal.returns-clause-ok
returns-clause-ok c = rw (← c.self.view_is, ← c.span.view_is)
    (put-permissions c.self.inside.slots c.self.inside.cover c.self.inside.domains.items (record { domain = c.span.inside.domain; base = c.span.inside.base; pages = c.span.inside.pages }) c.args.perm c.index.result.now c.self.invariant c.span.invariant.0 c.span.invariant.2 c.index.ensures
    c.in_ok-block.block c.in_ok-block.ensures)

pub returns-clause-exact : goal.returns-clause-exact
returns-clause-exact c = rw (← c.self.view_is, ← c.span.view_is)
    (ap (λ (ds : List BlockView). record { slots = c.self.inside.slots; domains = ds })
    (set-read c.self.inside.slots c.self.inside.cover c.self.inside.domains.items (record { domain = c.span.inside.domain; base = c.span.inside.base; pages = c.span.inside.pages }) c.args.perm c.index.result.now c.self.invariant c.span.invariant.0 c.span.invariant.2 c.index.ensures
    c.in_ok-block.block c.in_ok-block.ensures))
