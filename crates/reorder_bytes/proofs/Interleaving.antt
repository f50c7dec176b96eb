-- Halves that are interleaved: two elements stored in a turn, parts done one after the other, and the three passes that spread the eighths. Assumes nothing.
use mathlib.Core.Path.{◌≡◌, sym, ap, ◌∙◌}
use mathlib.Core.Logic.{⊎_elim}
use mathlib.Core.List.{List}
use Prim.Native.Nat.{ℕ, ◌+◌, ◌*◌, ◌/◌, ◌%◌, ◌<◌, ◌≤◌}
use native.Mathlib.Nat.{mul-le-mul_right, eq-or-lt_of_le}
use native.Mathlib.Omega.{arith}
use lib.ListN.{length, get_or, set}
use Rattle.words.specs.Words.{write}
use Rattle.words.proofs.Store.{length-write, write_in, write-below, store-more}
use Rattle.reorder.specs.Places.{interleaved_from, Spread}

-- `to` after the halves of h elements from a on were interleaved into it
abbrev pub interleaved : {A : Type 0} → A → List A → List A → ℕ → ℕ → ℕ → List A
interleaved d from to a h n = write to a n (λ i. get_or from (a + interleaved_from h i) d)

-- the first n parts of 2 h elements are interleaved, of a size in all
pub record Parts {A : Type 0} (d : A) (from now : List A) (size h n : ℕ) : Type 0 where
  pub room : size ≤ length now
  pub at : (b m : ℕ) → b < n → m < 2 * h → get_or now (b * (2 * h) + m) d ≡ get_or from (b * (2 * h) + interleaved_from h m) d

module _ {A : Type 0} (d : A) where
  -- one element more of each half
  pub interleave_more : (from old now : List A) (a h k : ℕ) → now ≡ interleaved d from old a h (2 * k) → (x y : A) → x ≡ get_or from (a + k) d → y ≡ get_or from (a + h + k) d
      → set (set now (a + 2 * k) x) (a + 2 * k + 1) y ≡ interleaved d from old a h (2 * (k + 1))
  interleave_more from old now a h k e x y ex ey =
      let f : ℕ → A = λ i. get_or from (a + interleaved_from h i) d in
      ap (λ (i : ℕ). set (set now (a + 2 * k) x) i y) (omega arith)
      ∙ store-more d old (set now (a + 2 * k) x) a (2 * k + 1) y f
      (store-more d old now a (2 * k) x f e (ex ∙ ap (λ (i : ℕ). get_or from (a + i) d) (even k)))
      (ey ∙ ap (λ (i : ℕ). get_or from i d) (odd a k))
      ∙ ap (λ (n : ℕ). write old a n f) (omega arith)
    where
      even : (k : ℕ) → k ≡ interleaved_from h (2 * k)
      even k = let e : 2 * k % 2 ≡ 0 = omega arith in rw e (omega arith)

      odd : (a k : ℕ) → a + h + k ≡ a + interleaved_from h (2 * k + 1)
      odd a k = let e : (2 * k + 1) % 2 ≡ 1 = omega arith in rw e (omega arith)

  -- ---- parts
  pub no_part : (from now : List A) (size h : ℕ) → size ≤ length now → Parts d from now size h 0
  no_part from now size h fit = record { room = fit; at = λ b m l lt. absurd (omega arith) }

  pub part-more : (from old now : List A) (size a h n : ℕ) → Parts d from old size h n → a ≡ n * (2 * h) → a + 2 * h ≤ size → now ≡ interleaved d from old a h (2 * h) → Parts d from now size h (n + 1)
  part-more from old now size a h n parts start fit e =
      let room : a + 2 * h ≤ length old = omega (arith, parts.room) in
      record {
        room = omega (arith, parts.room, ap length e, length-write d old a (2 * h) (λ i. get_or from (a + interleaved_from h i) d));
        at = λ b m l lt. ⊎_elim
            (λ (same : b ≡ n).
            ap (λ (c : ℕ). get_or now (c * (2 * h) + m) d) same ∙ ap (λ (i : ℕ). get_or now (i + m) d) (sym start)
            ∙ ap (λ (l : List A). get_or l (a + m) d) e ∙ write_in d old a (2 * h) _ m lt room
            ∙ ap (λ (i : ℕ). get_or from (i + interleaved_from h m) d) start ∙ ap (λ (c : ℕ). get_or from (c * (2 * h) + interleaved_from h m) d) (sym same))
            (λ (less : b < n).
            let below : (b + 1) * (2 * h) ≤ n * (2 * h) = mul-le-mul_right (2 * h) (omega arith) in
            ap (λ (l : List A). get_or l (b * (2 * h) + m) d) e ∙ write-below d old a (2 * h) _ (b * (2 * h) + m) (omega (arith, below, start)) ∙ parts.at b m less lt)
            (eq-or-lt_of_le (let le : b ≤ n = omega arith in le));
      }

  -- each quarter interleaved, then each half, then the whole
  pub parts-spread : (from quarters halves now : List A) (size q : ℕ) → Parts d from quarters size q 4 → Parts d quarters halves size (2 * q) 2 → Parts d halves now size (4 * q) 1 → Spread d q from now
  parts-spread from quarters halves now size q first second third i lt =
      let m : ℕ = i / 2 in
      let k : ℕ = i / 2 / 2 in
      let b : ℕ = i % 2 in
      let c : ℕ = i / 2 % 2 in
      let third-bit : k % 2 ≡ i / 4 % 2 = ap (λ (x : ℕ). x % 2) (omega arith) in
      let rest : k / 2 ≡ i / 8 = omega arith in
      ap (λ (j : ℕ). get_or now j d) (let e : i ≡ 0 * (2 * (4 * q)) + i = omega arith in e) ∙ third.at 0 i (omega arith) (omega arith)
      ∙ ap (λ (j : ℕ). get_or halves j d) (let e : 0 * (2 * (4 * q)) + (m + b * (4 * q)) ≡ b * (2 * (2 * q)) + m = omega arith in e) ∙ second.at b m (omega arith) (omega arith)
      ∙ ap (λ (j : ℕ). get_or quarters j d) (let e : b * (2 * (2 * q)) + (k + c * (2 * q)) ≡ (2 * b + c) * (2 * q) + k = omega arith in e) ∙ first.at (2 * b + c) k (omega arith) (omega arith)
      ∙ ap (λ (j : ℕ). get_or from j d) (rw (third-bit, rest) (let e : (2 * b + c) * (2 * q) + (i / 8 + i / 4 % 2 * q) ≡ i / 8 + b * (4 * q) + c * (2 * q) + i / 4 % 2 * q = omega arith in e))
