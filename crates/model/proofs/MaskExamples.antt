-- Small masks by row weight and their distances, and from erasure rates, by computing the definitions. Assumes nothing.
use mathlib.Core.Path.{◌≡◌, refl}
use mathlib.Core.Bool.{true, false}
use mathlib.Core.List.{[], ◌∷◌}
use lib.Count.{ones, ones_in, count_trailing_zeros}
use lib.IntN.{negsuc}
use lib.Ieee.{fin, mul, sub, add, neg, sum, round, units, odd, size, span, climb, lt, eq}
use Rattle.model.specs.Lists.{tabulate, total, at_most}
use Rattle.model.specs.Encoding.{kernel, kronecker, polar_matrix, times, transform, unfrozen, place, encode}
use Rattle.model.specs.Masks.{ahead, weight_mask, weight}
use Rattle.model.specs.Distance.{every_bits, has_distance, no_mask}
use Rattle.model.specs.Erasure.{descend, square, worse, rate, ahead_of, erasure_mask}

-- N = 8, K = 4: document 01's mask
pub four_of_eight : weight_mask 3 4 ≡ 1 ∷ 1 ∷ 1 ∷ 0 ∷ 1 ∷ 0 ∷ 0 ∷ 0 ∷ []
unfolding weight_mask ahead total tabulate ones ones_in
four_of_eight = refl

-- of 6, 5 and 3, which have two ones each, 6 and 5 are first
pub three_of_eight : weight_mask 3 3 ≡ 1 ∷ 1 ∷ 1 ∷ 1 ∷ 1 ∷ 0 ∷ 0 ∷ 0 ∷ []
unfolding weight_mask ahead total tabulate ones ones_in
three_of_eight = refl

-- the first has words of distance 4 and not 5 ..
pub distance_four : has_distance 3 (1 ∷ 1 ∷ 1 ∷ 0 ∷ 1 ∷ 0 ∷ 0 ∷ 0 ∷ []) 4 ≡ true
unfolding has_distance every_bits weight encode place transform times polar_matrix kronecker kernel total tabulate unfrozen at_most
distance_four = refl

pub distance_five : has_distance 3 (1 ∷ 1 ∷ 1 ∷ 0 ∷ 1 ∷ 0 ∷ 0 ∷ 0 ∷ []) 5 ≡ false
unfolding has_distance every_bits weight encode place transform times polar_matrix kronecker kernel total tabulate unfrozen at_most
distance_five = refl

-- .. and of N = 4 and K = 2 some mask has distance 2, and none 3
pub two_of_four : (no_mask 2 2 2 ≡ false) × (no_mask 2 2 3 ≡ true)
unfolding no_mask has_distance every_bits weight encode place transform times polar_matrix kronecker kernel total tabulate unfrozen at_most
two_of_four = (refl, refl)

-- an erasure rate of 1 / 2 gives 15 / 16, 9 / 16, 7 / 16 and 1 / 16 at N = 4: position 1 has the top bit 0 and then 1 ..
pub rates_of_four : tabulate 4 (rate 2 (fin false 1 (negsuc 0))) ≡ fin false 15 (negsuc 3) ∷ fin false 9 (negsuc 3) ∷ fin false 7 (negsuc 3) ∷ fin false 1 (negsuc 3) ∷ []
unfolding tabulate rate descend square worse sub add neg sum mul round units odd size span climb count_trailing_zeros
rates_of_four = refl

-- .. and document 01's mask at N = 8 and K = 4
pub half_erased : erasure_mask 3 4 (fin false 1 (negsuc 0)) ≡ 1 ∷ 1 ∷ 1 ∷ 0 ∷ 1 ∷ 0 ∷ 0 ∷ 0 ∷ []
unfolding erasure_mask ahead_of total tabulate rate descend square worse sub add neg sum mul round units odd size span climb count_trailing_zeros lt eq
half_erased = refl

-- the square of the smallest f64 is 0, so positions 1, 2 and 3 of 4 are equal
pub tied_rates : erasure_mask 2 2 (fin false 1 (negsuc 1073)) ≡ 1 ∷ 1 ∷ 0 ∷ 0 ∷ []
unfolding erasure_mask ahead_of total tabulate rate descend square worse sub add neg sum mul round units odd size span climb count_trailing_zeros lt eq
tied_rates = refl
