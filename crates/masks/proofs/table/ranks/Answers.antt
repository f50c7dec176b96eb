-- `masks::table::ranks` meets its contract: the checker computes the test of the whole table. Assumes nothing.
use Rattle.model.proofs.RankTable.{quick, falls, table_test, in_order_lem}
use lib.Count.{ones_in}
use Rattle.masks.proofs.table.ranks.Goals as goal

pub returns : goal.returns
unfolding table_test falls quick ones_in
returns c = in_order_lem _ tt
