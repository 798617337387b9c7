use Rattle.std.proofs.Common.{◌≡◌, drop}
use Rattle.std.specs.FinMap.{get}
use Rattle.mind_base.specs.Store.{file_map}
use Rattle.mind_base.specs.MemStore.{contents}
use Rattle.mind_base.proofs.memory_stores.find.Given as goal

abbrev pub invariant-loop-file : goal.invariant-loop-file
invariant-loop-file l = get (file_map (contents l.files)) l.name ≡ get (file_map (contents (drop l.file-index l.files))) l.name
