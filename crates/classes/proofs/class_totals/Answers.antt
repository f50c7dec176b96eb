-- `classes::class_totals` meets its contract: it sums over each class of the period once. Assumes nothing.
use native.Mathlib.Nat.{le_trans}
use native.Mathlib.Omega.{arith}
use Rattle.classes.proofs.Sums.{sizes-strided}
use Rattle.classes.proofs.class_totals.Goals as goal

pub class_sum-t-requires : goal.class_sum-t-requires
class_sum-t-requires c =
    record { p_nonzero = (omega arith, omega arith); l_bound = le_trans (sizes-strided _ _ _) c.requires.l_bound }

pub class_sum-a-requires : goal.class_sum-a-requires
class_sum-a-requires c =
    record { p_nonzero = (omega arith, omega arith); l_bound = le_trans (sizes-strided _ _ _) c.requires.l_bound }

pub class_sum-b-requires : goal.class_sum-b-requires
class_sum-b-requires c =
    record { p_nonzero = (omega arith, omega arith); l_bound = le_trans (sizes-strided _ _ _) c.requires.l_bound }

pub class_sum-a-requires-2 : goal.class_sum-a-requires-2
class_sum-a-requires-2 c =
    record { p_nonzero = (omega arith, omega arith); l_bound = le_trans (sizes-strided _ _ _) c.requires.l_bound }

pub class_sum-b-requires-2 : goal.class_sum-b-requires-2
class_sum-b-requires-2 c =
    record { p_nonzero = (omega arith, omega arith); l_bound = le_trans (sizes-strided _ _ _) c.requires.l_bound }

pub class_sum-c-requires : goal.class_sum-c-requires
class_sum-c-requires c =
    record { p_nonzero = (omega arith, omega arith); l_bound = le_trans (sizes-strided _ _ _) c.requires.l_bound }

pub class_sum-d-requires : goal.class_sum-d-requires
class_sum-d-requires c =
    record { p_nonzero = (omega arith, omega arith); l_bound = le_trans (sizes-strided _ _ _) c.requires.l_bound }
