use Rattle.std.proofs.Common.{rules}
use Rattle.std.proofs.lemmas.Map.Made.{filter_same_pairs}
use Rattle.flat_memory.proofs.Stores.{stays, zeroed-dropped}
use Rattle.flat_memory.proofs.domains.DomainMemory.zero.Goals as goal

pub returns : goal.returns
returns c =
    rw (← c.self.view_is)
    (zeroed-dropped c.self.inside.pages.entries c.retain.new.self.entries c.args.base c.args.pages
    (filter_same_pairs _ (λ e. stays c.args.base c.args.pages e.0) _ (λ k v b w f' t. search rules) _ _ c.retain.ensures.filtered))
