use Rattle.std.proofs.Common.{◌≡◌, take, map, ◌∙◌, ap}
use Rattle.std.proofs.lemmas.List.{take_all}
use Rattle.mind_base.specs.Permission.{permission_of}
use Rattle.protect_table.specs.Block.{block_view}
use Rattle.protect_table.specs.Protect.{ProtectView, permission_at, permission_among, changed}
use Rattle.protect_table.proofs.Tables.{cover_of-fits, permission_of-next, slots-changed}
use Rattle.protect_table.proofs.protects.Protect.of.Goals as goal
use Rattle.protect_table.proofs.protects.Protect.of.Goals.{After-table-2}

pub put-requires : goal.put-requires
put-requires c = cover_of-fits _ _ c.loop-entry.invariant.0

pub loop-entry-preserved : goal.loop-entry-preserved
loop-entry-preserved c =
    let entry = c.entry-item.result in
    let more = permission_of-next c.args.maps.now c.loop-entry.entry-index entry c.loop-entry-test.true c.entry-item.is in
    (c.in_ok-put.ensures.slots ∙ c.loop-entry.invariant.0, c.in_ok-put.ensures.ok ∙ (ap (λ p. changed p entry.span entry.perm) c.loop-entry.invariant.1 ∙ more))

-- the permissions after all maps
all_maps : (c : After-table-2) → permission_among (map block_view c.table-2.inside.domains.items) ≡ permission_of c.args.maps.now
all_maps c =
    let all : take c.loop-entry.entry-index c.args.maps.now ≡ c.args.maps.now = take_all c.loop-entry.entry-index c.args.maps.now c.loop-entry-test.false in
    ap (λ (t : ProtectView). permission_at t) c.table-2.view_is ∙ (c.loop-entry.invariant.1 ∙ ap permission_of all)

pub invariant_of-table : goal.invariant_of-table
invariant_of-table c =
    slots-changed c.table-2.inside.slots c.args.slots c.table-2.inside.cover (map block_view c.table-2.inside.domains.items) c.table-2.invariant (rw (all_maps c) c.requires)

pub returns-clause-maps : goal.returns-clause-maps
returns-clause-maps c = all_maps c
