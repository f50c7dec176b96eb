-- What an accepted line says: its number is 0. For the callers of `read_line`. Assumes nothing.
use mathlib.Core.Path.{◌≡◌, refl, sym, subst}
use mathlib.Core.Bool.{true, not}
use mathlib.Core.List.{List}
use Prim.Native.Nat.{ℕ}
use native.Mathlib.Omega.{arith}
use lib.Dec.{T, eqb, leb}
use lib.IntN.{ℤ}
use lib.ListN.{length, take, drop}
use lib.Seq.{take_at}
use borrow.Author.Tests.{eq-eqb, ne_eqb, eqb-true, leb-true}
use Rattle.model.specs.Lists.{over}
use Rattle.model.specs.Refusals.{exponent, max_sweeps, accepted}
use Rattle.model.proofs.Refusals.{passes, length-small}
use Rattle.fields.specs.Grammar.{Reading, malformed, reading}
use Rattle.reader.specs.Answers.{mask_of, llrs_of, count, sweeps_of, line_number, line_size, line_sweeps, line_mask, line_llrs}
use Rattle.reader.specs.Steps.{Fit}
use Rattle.fields.proofs.Split.{and_both}

pub accepted-no {ℓ} : {A : Type ℓ} (number : ℕ) (x y : A) → (number ≡ 0 → ⊥) → y ≡ accepted number x y
accepted-no number x y e = sym (simp (ne_eqb number 0 e))

pub accepted-yes {ℓ} : {A : Type ℓ} (number : ℕ) (x y : A) → number ≡ 0 → x ≡ accepted number x y
accepted-yes number x y e = sym (simp (eq-eqb number 0 e))

pub line-accepted : (line : Reading) → line_number line ≡ 0 → Fit (mask_of line) (sweeps_of line) (llrs_of line)
unfolding line_number
line-accepted malformed e = absurd (omega arith)
line-accepted (reading mask sweeps llrs) e =
    let a = passes 1 _ _ (λ z. omega arith) e in
    let b = passes 2 _ _ (λ z. omega arith) a.1 in
    let c = passes 3 _ _ (λ z. omega arith) b.1 in
    let d = passes 4 _ _ (λ z. omega arith) c.1 in
    let f = passes 7 _ _ (λ z. omega arith) d.1 in
    let g = and_both (leb 1 (count sweeps)) (leb (count sweeps) max_sweeps) d.0 in
    let h : exponent (length mask) ≡ 0 → ⊥ = not-zero (exponent (length mask)) a.0 in
    record {
      allowed = h;
      small = length-small (length mask) h;
      bytes = b.0;
      same = eqb-true (length llrs) (length mask) c.0;
      some = leb-true 1 (count sweeps) g.0;
      most = leb-true (count sweeps) max_sweeps g.1;
      range = f.0;
    }
  where
    not-zero : (n : ℕ) → not (eqb n 0) ≡ true → n ≡ 0 → ⊥
    not-zero n p q = subst T (sym (rw (eq-eqb n 0 q) at p)) tt

-- what `read_line` answers and leaves, where the number is 0
module _ (line : Reading) (e : line_number line ≡ 0) where
  pub size_is : line_size line ≡ length (mask_of line)
  unfolding line_size
  size_is = simp (eq-eqb (line_number line) 0 e)

  pub sweeps_are : line_sweeps line ≡ sweeps_of line
  unfolding line_sweeps
  sweeps_are = simp (eq-eqb (line_number line) 0 e)

  pub mask-front : (mask : List ℕ) → take (line_size line) (line_mask line mask) ≡ mask_of line
  unfolding line_mask over
  mask-front mask = rw size_is (simp (eq-eqb (line_number line) 0 e) (take_at (mask_of line) (drop (length (mask_of line)) mask) (length (mask_of line)) refl))

  pub llrs-front : (llrs : List ℤ) → take (line_size line) (line_llrs line llrs) ≡ llrs_of line
  unfolding line_llrs over
  llrs-front llrs =
      rw size_is
      (simp (eq-eqb (line_number line) 0 e)
      (take_at (llrs_of line) (drop (length (llrs_of line)) llrs) (length (mask_of line)) (line-accepted line e).same))
