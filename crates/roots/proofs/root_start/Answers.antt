-- `root_start` meets its contract: the table's test is computed here, over all of its entries, and tells what the entry is that is read. The list is
-- found in what is to be shown, so that the numbers stand in the code alone.
use Rattle.roots.specs.Roots.{starts_from}
use Rattle.roots.proofs.Table.{every_entry}
use Rattle.roots.proofs.root_start.Goals as goal

pub returns : goal.returns
unfolding starts_from
returns c = search every_entry
