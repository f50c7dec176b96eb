-- `decisions::wrong_bit` meets its contract, by cases. Assumes nothing.
use mathlib.Core.Path.{◌≡◌, refl, ap, ◌∙◌}
use mathlib.Core.Bool.{cond, not}
use Prim.Native.Nat.{ℕ, zero, suc, ◌+◌, ◌≤◌}
use native.Mathlib.Omega.{arith}
use borrow.Author.Tests.{ne_eqb}
use lib.Dec.{eqb}
use Rattle.model.specs.Lists.{bit}
use Rattle.model.specs.Encoding.{is_unfrozen, is_known_one}
use Rattle.decisions.proofs.Folds.{bit_bool}
use Rattle.decisions.proofs.wrong_bit.Goals as goal

cases : (m b : ℕ) → m ≤ 2 → b ≤ 1 → bit (eqb (m + b) 2) ≡ cond (is_unfrozen m) 0 (bit (not (eqb b (bit (is_known_one m)))))
cases zero b h l = ap bit (ne_eqb (0 + b) 2 (λ e. omega arith))
cases (suc zero) zero h l = refl
cases (suc zero) (suc zero) h l = refl
cases (suc zero) (suc (suc b)) h l = absurd (omega arith)
cases (suc (suc zero)) zero h l = refl
cases (suc (suc zero)) (suc zero) h l = refl
cases (suc (suc zero)) (suc (suc b)) h l = absurd (omega arith)
cases (suc (suc (suc m))) b h l = absurd (omega arith)

pub returns : goal.returns
returns c =
    let a = c.args in
    bit_bool (eqb (a.byte + a.b) 2) ∙ cases a.byte a.b c.requires.0 c.requires.1

pub overflow_add-result : goal.overflow_add-result
overflow_add-result c = record { fits = omega (arith, c.requires.0, c.requires.1) }
