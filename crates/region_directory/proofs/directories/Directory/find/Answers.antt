use Rattle.region_directory.proofs.SearchLemmas.{found-only}
use Rattle.region_directory.proofs.directories.Directory.find.Goals as goal

pub returns-clause-only : goal.returns-clause-only
returns-clause-only c =
    found-only c.args.self.now c.args.page c.find_counted.ensures.valid c.find_counted.result c.find_counted.ensures.found
