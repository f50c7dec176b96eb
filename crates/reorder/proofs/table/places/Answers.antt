-- `reorder::table::places` meets its contract: the checker computes the test of the whole table. Assumes nothing.
use Rattle.model.specs.Lists.{tabulate, same}
use Rattle.model.specs.Sent.{backwards}
use Rattle.model.proofs.Lists.{same→eq}
use Rattle.reorder.proofs.table.places.Goals as goal

pub returns : goal.returns
unfolding same tabulate backwards
returns c = same→eq _ (tabulate 256 (backwards 8)) tt
