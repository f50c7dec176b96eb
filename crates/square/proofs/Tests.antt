-- The tests of a square frame's call, one after the other. Assumes nothing.
use mathlib.Core.Path.{◌≡◌, ap}
use mathlib.Core.Bool.{Bool, true, false, cond, not, ◌&&◌}
use mathlib.Core.List.{List}
use Prim.Native.Nat.{ℕ, ◌*◌, ◌≤◌, ◌<◌}
use borrow.Author.Tests.{ne_eqb, eq-eqb, le-leb, lt-leb}
use lib.Dec.{eqb, leb}
use lib.ListN.{length}
use Rattle.model.specs.Lists.{at_most}
use Rattle.model.specs.Encoding.{max_mask}
use Rattle.model.specs.Refusals.{refusal, exponent}
use Rattle.model.proofs.Lists.{T_true}
use Rattle.std.specs.declared.result.Result.TheVariants.{Ok, Err}
use Rattle.inputs.specs.declared.Refusal.{Refusal}
use Rattle.inputs.specs.declared.Refusal.TheVariants.{Length, Count, FrameSize, HalfIterations}
use Rattle.inputs.specs.declared.Masked.{Masked}
use Rattle.inputs.specs.Numbers.{refusal_number}
use Rattle.inputs.specs.Tests.{MaskTests}
use Rattle.inputs.proofs.Rows.{refusal_not_zero}
use Rattle.square.specs.Calls.{shape_number, ShapeTests}

-- a mask of an allowed length that is refused has a byte that is none
second : (b : Bool) (r : Refusal) (after : ℕ) → refusal_number r ≡ cond b 0 2 → refusal_number r ≡ cond b after 2
second true r after e = absurd (refusal_not_zero r e)
second false r after e = e

module _ (mask : List ℕ) (count bytes : ℕ) where
  abbrev N : ℕ
  N = length mask

  pub length_refused : exponent N ≡ 0 → ShapeTests mask count bytes (Err Length)
  unfolding shape_number refusal
  length_refused e = record { number_is = rw e; passed = tt }

  module _ (allowed : exponent N ≡ 0 → ⊥) where
    first : not (eqb (exponent N) 0) ≡ true
    first = ap not (ne_eqb (exponent N) 0 allowed)

    pub size_refused : 32 < N → ShapeTests mask count bytes (Err FrameSize)
    unfolding shape_number refusal
    size_refused more = record { number_is = rw (first, lt-leb N 32 more); passed = tt }

    module _ (few : N ≤ 32) where
      pub mask_refused : (r : Refusal) → MaskTests mask (Err r) → ShapeTests mask count bytes (Err r)
      unfolding shape_number refusal
      mask_refused r m = record { number_is = rw (first, le-leb N 32 few) (second (at_most max_mask mask) r _ (rw first at m.number_is)); passed = tt }

      module _ (x : Masked) (m : MaskTests mask (Ok x)) where
        third : at_most max_mask mask ≡ true
        third = T_true (at_most max_mask mask) m.passed.0.bytes

        pub bytes_refused : (bytes ≡ 2 * (N * N) → ⊥) → ShapeTests mask count bytes (Err Count)
        unfolding shape_number refusal
        bytes_refused other = record { number_is = rw (first, le-leb N 32 few, third, ne_eqb bytes (2 * (N * N)) other); passed = tt }

        module _ (filled : bytes ≡ 2 * (N * N)) where
          pub count_refused : (leb 1 count && leb count 16) ≡ false → ShapeTests mask count bytes (Err HalfIterations)
          unfolding shape_number refusal
          count_refused out = record { number_is = rw (first, le-leb N 32 few, third, eq-eqb bytes (2 * (N * N)) filled, out); passed = tt }

          pub shape_passed : 0 < count → count ≤ 16 → ShapeTests mask count bytes (Ok x)
          unfolding shape_number refusal
          shape_passed some most = record {
            number_is = rw (first, le-leb N 32 few, third, eq-eqb bytes (2 * (N * N)) filled, le-leb 1 count some, le-leb count 16 most);
            passed = (record { mask-passed = m.passed.0; few = few; counted = filled; some = some; most = most }, m.passed.1);
          }
