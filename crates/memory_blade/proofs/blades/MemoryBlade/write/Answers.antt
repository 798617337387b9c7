use Rattle.std.proofs.Common.{◌∙◌, ap, slice_set}
use Rattle.memory_blade.proofs.Kept.{kept-set, kept-set-shape}
use Rattle.memory_blade.proofs.blades.MemoryBlade.write.Goals as goal

pub invariant_of-self : goal.invariant_of-self
invariant_of-self c = kept-set-shape c.self.inside.images.items c.args.phys c.in_ok-stored.stored c.args.image c.in_ok-stored.ensures.ok c.tag-tag.ensures.shape c.self.invariant

pub returns-clause-after : goal.returns-clause-after
returns-clause-after c =
    kept-set c.self.inside.images.items c.args.phys c.in_ok-stored.stored c.args.image c.in_ok-stored.ensures.ok
    ∙ ap (λ images. slice_set images c.args.phys c.args.image) c.self.view_is

pub returns-clause-shape : goal.returns-clause-shape
returns-clause-shape c = kept-set-shape c.self.inside.images.items c.args.phys c.in_ok-stored.stored c.args.image c.in_ok-stored.ensures.ok c.tag-tag.ensures.shape c.self.invariant
