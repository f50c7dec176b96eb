-- A square frame's call, from what its parts find and leave. Assumes nothing.
use mathlib.Core.Path.{◌≡◌, refl, sym, ap, ◌∙◌}
use mathlib.Core.Bool.{Bool, true, false, ◌&&◌}
use mathlib.Core.List.{List, [], ◌∷◌}
use Prim.Native.Nat.{ℕ, zero, suc, ◌+◌, ◌*◌, ◌/◌, ◌≤◌, ◌<◌}
use native.Mathlib.Omega.{arith}
use borrow.Author.Tests.{leb-true, le-leb, lt-leb}
use lib.Dec.{eqb-suc-zero}
use lib.IntN.{ℤ, pos, nat_abs}
use lib.ListN.{length, get_or, take, replicate, length-replicate}
use lib.Seq.{length-take-le}
use native.Mathlib.Nat.{mul-le-mul}
use Rattle.model.specs.Lists.{tabulate, over}
use Rattle.model.specs.Captures.{number16_at, signed16}
use Rattle.model.specs.Soft.{max_llr}
use Rattle.model.specs.Refusals.{Test, refusal, is_llr, llrs_in_range, row_1, row_2, row_3, row_7, row_11}
use Rattle.model.proofs.Lists.{tabulate_ext, absurd_bool}
use Rattle.model.specs.Square.{Frame, row_22, row_23, half_iterations, frame_llrs, frame_bytes, square_number, square_frame, square_cycles, square_bytes}
use Rattle.std.specs.declared.result.Result.TheVariants.{Ok, Err}
use Rattle.inputs.specs.declared.Refusal.{Refusal}
use Rattle.inputs.specs.declared.Masked.{Masked}
use Rattle.inputs.specs.Numbers.{refusal_number}
use Rattle.inputs.proofs.Rows.{refusal_not_zero, refused_then, passed_then}
use Rattle.square_lines.proofs.Lists.{overwritten}
use Rattle.square.specs.Calls.{shape_number, ShapeTests}

-- what a refused call answers and leaves
pub record Refused (mask : List ℕ) (count : ℕ) (bytes out : List ℕ) (number : ℕ) : Type 0 where
  pub number_is : number ≡ square_number mask count bytes (length out)
  pub no-cycles : 0 ≡ square_cycles mask count bytes (length out)
  pub out-kept : out ≡ square_bytes mask count bytes out

-- what an accepted one answers and leaves
pub record Accepted (mask : List ℕ) (count : ℕ) (bytes out : List ℕ) (cycles : ℕ) (out' : List ℕ) : Type 0 where
  pub number_is : 0 ≡ square_number mask count bytes (length out)
  pub cycles-are : cycles ≡ square_cycles mask count bytes (length out)
  pub out-after : out' ≡ square_bytes mask count bytes out

module _ (mask : List ℕ) (count : ℕ) (bytes out : List ℕ) where
  abbrev N : ℕ
  N = length mask

  -- the tests before that of the LLRs' range, and the others
  abbrev first : List Test
  first = row_1 N ∷ row_22 N ∷ row_2 mask ∷ row_3 (length bytes) (2 * (N * N)) ∷ row_23 count ∷ []

  abbrev last : List Test
  last = row_7 (frame_llrs N bytes) ∷ row_11 (2 * (N * N)) (length out) ∷ []

  refused : (number : ℕ) → (number ≡ 0 → ⊥) → number ≡ square_number mask count bytes (length out) → Refused mask count bytes out number
  unfolding square_cycles square_bytes
  refused zero some e = absurd (some refl)
  refused (suc k) some e = record { number_is = e; no-cycles = rw (← e, eqb-suc-zero k); out-kept = rw (← e, eqb-suc-zero k) }

  pub shape-refused : (r : Refusal) → ShapeTests mask count (length bytes) (Err r) → Refused mask count bytes out (refusal_number r)
  unfolding shape_number square_number
  shape-refused r s = refused (refusal_number r) (refusal_not_zero r) (sym (refused_then first last r tt s.number_is))

  module _ {x : Masked} (s : ShapeTests mask count (length bytes) (Ok x)) where
    number-last : square_number mask count bytes (length out) ≡ refusal last
    unfolding shape_number square_number
    number-last = passed_then first last tt s.number_is

    pub range-refused : llrs_in_range (frame_llrs N bytes) ≡ false → Refused mask count bytes out 7
    unfolding refusal
    range-refused e = refused 7 (λ z. omega (arith, z)) (rw (number-last, e))

    module _ (range : llrs_in_range (frame_llrs N bytes) ≡ true) where
      pub room-refused : length out < length bytes → Refused mask count bytes out 11
      unfolding refusal
      room-refused short = refused 11 (λ z. omega (arith, z)) (rw (number-last, range, lt-leb (2 * (N * N)) (length out) (omega (arith, short, s.passed.0.counted))))

      pub call-accepted : length bytes ≤ length out → {cycles : ℕ} {out' : List ℕ} → cycles ≡ (half_iterations x.stage mask (frame_llrs N bytes) count).cycles
          → out' ≡ over (frame_bytes (half_iterations x.stage mask (frame_llrs N bytes) count).sums) out → Accepted mask count bytes out cycles out'
      unfolding refusal square_cycles square_bytes square_frame
      call-accepted room e₁ e₂ =
          let z : square_number mask count bytes (length out) ≡ 0 = rw (number-last, range, le-leb (2 * (N * N)) (length out) (omega (arith, room, s.passed.0.counted))) in
          let f = ap (λ (n : ℕ). half_iterations n mask (frame_llrs N bytes) count) s.passed.0.mask-passed.stage_is in
          record { number_is = sym z; cycles-are = rw z (e₁ ∙ ap (λ (s : Frame). s.cycles) f); out-after = rw z (e₂ ∙ ap (λ (s : Frame). over (frame_bytes s.sums) out) f) }

    -- the LLRs as they are read, over the front of an array
    pub read-are : (read : List ℤ) → read ≡ over (tabulate (length bytes / 2) (λ k. signed16 (number16_at bytes (0 + 2 * k)))) (take (length bytes / 2) (replicate 1024 (pos 0))) → read ≡ frame_llrs N bytes
    unfolding frame_llrs
    read-are read e =
        let most : N * N ≤ 32 * 32 = mul-le-mul s.passed.0.few s.passed.0.few in
        let places : length bytes / 2 ≡ N * N = omega (arith, s.passed.0.counted) in
        let long : length (take (length bytes / 2) (replicate {A = ℤ} 1024 (pos 0))) ≡ length bytes / 2 = length-take-le _ _ (omega (arith, places, most, length-replicate {A = ℤ} 1024 (pos 0))) in
        e ∙ overwritten (length bytes / 2) (λ k. signed16 (number16_at bytes (0 + 2 * k))) _ long
        ∙ tabulate_ext (length bytes / 2) _ (λ p. signed16 (number16_at bytes (2 * p))) (λ k lt. ap (λ (o : ℕ). signed16 (number16_at bytes o)) (let z : 0 + 2 * k ≡ 2 * k = omega arith in z))
        ∙ ap (λ (m : ℕ). tabulate m (λ p. signed16 (number16_at bytes (2 * p)))) places

-- LLRs that are in range, one by one
pub llrs-all : (llrs : List ℤ) → llrs_in_range llrs ≡ true → (k : ℕ) → nat_abs (get_or llrs k (pos 0)) ≤ max_llr
unfolding llrs_in_range
llrs-all [] e k = omega arith
llrs-all (z ∷ zs) e zero = leb-true (nat_abs z) max_llr (and_left (is_llr z) (llrs_in_range zs) e)
  where
    and_left : (a b : Bool) → (a && b) ≡ true → a ≡ true
    and_left true b e = refl
    and_left false b e = e
llrs-all (z ∷ zs) e (suc k) = llrs-all zs (and_right (is_llr z) (llrs_in_range zs) e) k
  where
    and_right : (a b : Bool) → (a && b) ≡ true → b ≡ true
    and_right true b e = e
    and_right false b e = absurd (absurd_bool false e refl)
