-- Buffers that are written place by place. Assumes nothing.
use mathlib.Core.Path.{◌≡◌, sym, ◌∙◌}
use mathlib.Core.List.{List}
use Prim.Native.Nat.{ℕ, ◌<◌}
use lib.ListN.{length, get_or}
use lib.Seq.{ext_get_or}
use native.Mathlib.Omega.{arith}
use Rattle.model.specs.Lists.{tabulate}
use Rattle.model.proofs.Lists.{length_tabulate, get_d_tabulate}

-- a list of n places that hold f's values
pub all-places : (n : ℕ) (f : ℕ → ℕ) (xs : List ℕ) → length xs ≡ n → ((k : ℕ) → k < n → get_or xs k 0 ≡ f k) → xs ≡ tabulate n f
all-places n f xs e h = ext_get_or 0 xs (tabulate n f) (e ∙ sym (length_tabulate n f)) (λ k lt. let m : k < n = omega (arith, e) in h k m ∙ sym (get_d_tabulate n f k 0 m))
