use Rattle.protect_table.proofs.Callers.{cover_of-most}
use Rattle.protect_table_rows.proofs.tests.the_first_page_is_found.Goals as goal

pub of-requires : goal.of-requires
of-requires g c = cover_of-most _
