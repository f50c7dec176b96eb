-- Every path has exactly one cut if each meets one and the plan has no cuts but those met; a plan's bytes add up to its cuts. Assumes nothing.
use Prim.Native.Nat.{ℕ, zero, suc, ◌+◌, ◌*◌, ◌^◌, ◌<◌, ◌≤◌, zero-le}
use native.Mathlib.Numerals.{add-one}
use native.Mathlib.Nat.{add-zero, add_assoc}
use native.Mathlib.Decide.{dec_le}
use native.Mathlib.Omega.{arith}
use mathlib.Core.Path.{◌≡◌, refl, sym, ap, ap₂, ◌∙◌}
use mathlib.Core.Bool.{Bool, true, false, not, cond, ◌&&◌}
use mathlib.Core.List.{List, [], ◌∷◌}
use borrow.Author.Tests.{eq-eqb, ne_eqb, eqb-true, eqb-false}
use lib.Dec.{T, eqb, leb, leb→le}
use lib.ListN.{length, take, drop, get_or, drop_of_length-le, get_or-eq_default}
use lib.Pow.{pow_pos}
use lib.Seq.{drop-cons}
use Rattle.model.specs.Lists.{at_most, bit}
use Rattle.model.specs.Kinds.{kind_of, is_some}
use Rattle.model.specs.Plans.{is_cut, no_cut, well_cut, cuts_below}
use Rattle.model.proofs.Lists.{double, and-true, and_l, and_r, at-most-at, bit-small, cond_both}
use Rattle.plans.specs.Nodes.{byte_sum}

-- ---- what the check meets on its way from a node down
-- every path from node p down has a cut, and the first one is at a node of some kind
unfoldable pub well_met : List ℕ → ℕ → ℕ → List ℕ → Bool
well_met plan zero p mask = is_cut plan p && is_some (kind_of 1 mask)
well_met plan (suc t) p mask =
    cond (is_cut plan p) (is_some (kind_of (2 ^ suc t) mask)) (well_met plan t (2 * p) (take (2 ^ t) mask) && well_met plan t (2 * p + 1) (drop (2 ^ t) mask))

-- the number of cut nodes from node p down that have no cut above them
unfoldable pub cuts_met : List ℕ → ℕ → ℕ → ℕ
cuts_met plan zero p = bit (is_cut plan p)
cuts_met plan (suc t) p = cond (is_cut plan p) 1 (cuts_met plan t (2 * p) + cuts_met plan t (2 * p + 1))

-- two numbers within two others have the same sum exactly if they are the same
eqb-sum : (m n a b : ℕ) → m ≤ a → n ≤ b → (eqb m a && eqb n b) ≡ eqb (m + n) (a + b)
eqb-sum m n a b h k = go (eqb m a) refl (eqb n b) refl
  where
    go : (x : Bool) → eqb m a ≡ x → (y : Bool) → eqb n b ≡ y → (x && y) ≡ eqb (m + n) (a + b)
    go true p true q = sym (eq-eqb (m + n) (a + b) (omega (arith, eqb-true m a p, eqb-true n b q)))
    go true p false q = sym (ne_eqb (m + n) (a + b) (λ e. eqb-false n b q (omega (arith, eqb-true m a p))))
    go false p y q = sym (ne_eqb (m + n) (a + b) (λ e. eqb-false m a p (omega arith)))

-- two pairs of tests, sorted otherwise
swap : (a b c d : Bool) → ((a && b) && (c && d)) ≡ ((a && c) && (b && d))
swap true true c d = refl
swap true false true d = refl
swap true false false d = refl
swap false b c d = refl

module _ (plan : List ℕ) where
  met-le : (t p : ℕ) → cuts_met plan t p ≤ cuts_below plan t p
  unfolding cuts_met cuts_below
  met-le zero p = omega arith
  met-le (suc t) p = go (is_cut plan p) (met-le t (2 * p)) (met-le t (2 * p + 1))
    where
      go : (b : Bool) → cuts_met plan t (2 * p) ≤ cuts_below plan t (2 * p) → cuts_met plan t (2 * p + 1) ≤ cuts_below plan t (2 * p + 1)
          → cond b 1 (cuts_met plan t (2 * p) + cuts_met plan t (2 * p + 1)) ≤ bit b + (cuts_below plan t (2 * p) + cuts_below plan t (2 * p + 1))
      go true l r = omega arith
      go false l r = omega arith

  -- a node of stage t has no more than its leaves
  pub met-small : (t p : ℕ) → cuts_met plan t p ≤ 2 ^ t
  unfolding cuts_met
  met-small zero p = bit-small (is_cut plan p)
  met-small (suc t) p =
      cond_both (λ n. n ≤ 2 ^ suc t) (is_cut plan p) (pow_pos (suc t)) (omega (arith, met-small t (2 * p), met-small t (2 * p + 1)))

  not_eqb : (b : Bool) → not b ≡ eqb 0 (bit b)
  not_eqb true = refl
  not_eqb false = refl

  -- no cut, by their number
  none-test : (t p : ℕ) → no_cut plan t p ≡ eqb 0 (cuts_below plan t p)
  unfolding no_cut cuts_below
  none-test zero p = not_eqb (is_cut plan p)
  none-test (suc t) p =
      let l : ℕ = cuts_below plan t (2 * p) in
      let r : ℕ = cuts_below plan t (2 * p + 1) in
      ap₂ (λ (x y : Bool). x && y) (not_eqb (is_cut plan p))
      (ap₂ (λ (x y : Bool). x && y) (none-test t (2 * p)) (none-test t (2 * p + 1)) ∙ eqb-sum 0 0 l r zero-le zero-le)
      ∙ eqb-sum 0 0 (bit (is_cut plan p)) (l + r) zero-le zero-le

  -- what `well_cut` asks, by the number of cuts met
  pub met-test : (t p : ℕ) (mask : List ℕ) → well_cut plan t p mask ≡ (well_met plan t p mask && eqb (cuts_met plan t p) (cuts_below plan t p))
  unfolding well_cut well_met cuts_met cuts_below
  met-test zero p mask =
      rw (eq-eqb (bit (is_cut plan p)) (bit (is_cut plan p)) refl) (sym (and-true (is_cut plan p && is_some (kind_of 1 mask))))
  met-test (suc t) p mask = go (is_cut plan p) (met-test t (2 * p) (take (2 ^ t) mask)) (met-test t (2 * p + 1) (drop (2 ^ t) mask))
    where
      l : ℕ
      l = cuts_below plan t (2 * p)

      r : ℕ
      r = cuts_below plan t (2 * p + 1)

      m : ℕ
      m = cuts_met plan t (2 * p)

      n : ℕ
      n = cuts_met plan t (2 * p + 1)

      wl : Bool
      wl = well_met plan t (2 * p) (take (2 ^ t) mask)

      wr : Bool
      wr = well_met plan t (2 * p + 1) (drop (2 ^ t) mask)

      go : (b : Bool) → well_cut plan t (2 * p) (take (2 ^ t) mask) ≡ (wl && eqb m l) → well_cut plan t (2 * p + 1) (drop (2 ^ t) mask) ≡ (wr && eqb n r)
          → cond b (is_some (kind_of (2 ^ suc t) mask) && (no_cut plan t (2 * p) && no_cut plan t (2 * p + 1)))
          (well_cut plan t (2 * p) (take (2 ^ t) mask) && well_cut plan t (2 * p + 1) (drop (2 ^ t) mask))
          ≡ (cond b (is_some (kind_of (2 ^ suc t) mask)) (wl && wr) && eqb (cond b 1 (m + n)) (bit b + (l + r)))
      go true el er =
          ap (λ (x : Bool). is_some (kind_of (2 ^ suc t) mask) && x)
          (ap₂ (λ (x y : Bool). x && y) (none-test t (2 * p)) (none-test t (2 * p + 1)) ∙ eqb-sum 0 0 l r zero-le zero-le ∙ eqb-sum 1 0 1 (l + r) (omega arith) zero-le)
      go false el er =
          ap₂ (λ (x y : Bool). x && y) el er ∙ swap wl (eqb m l) wr (eqb n r)
          ∙ ap (λ (x : Bool). (wl && wr) && x) (eqb-sum m n l r (met-le t (2 * p)) (met-le t (2 * p + 1)) ∙ ap (eqb (m + n)) (omega arith))

-- ---- the bytes of a plan added up

-- one more byte of the loop
pub sum_more : (k : ℕ) (plan : List ℕ) (i : ℕ) → i < length plan → k + byte_sum (drop i plan) ≡ (k + get_or plan i 0) + byte_sum (drop (i + 1) plan)
unfolding byte_sum
sum_more k plan i h = rw (add-one, drop-cons plan i 0) (sym (add_assoc k (get_or plan i 0) (byte_sum (drop (suc i) plan))))

pub sum-end : (k : ℕ) (plan : List ℕ) (i : ℕ) → length plan ≤ i → k + byte_sum (drop i plan) ≡ k
unfolding byte_sum
sum-end k plan i h = rw (drop_of_length-le plan h) (omega arith)

pub sum-small : (plan : List ℕ) → T (at_most 1 plan) → byte_sum plan ≤ length plan
unfolding byte_sum at_most
sum-small [] b = zero-le
sum-small (x ∷ plan) b = omega (arith, leb→le x 1 (and_l (leb x 1) (at_most 1 plan) b), sum-small plan (and_r (leb x 1) (at_most 1 plan) b))

-- f of a row of nodes added up, from node a on and as many as w
along : (ℕ → ℕ) → ℕ → ℕ → ℕ
along f a zero = 0
along f a (suc w) = f a + along f (suc a) w

module _ (plan : List ℕ) where
  -- a node's own cut
  abbrev own : ℕ → ℕ
  own p = bit (is_cut plan p)

  -- the cuts from a row of nodes down: those of the row, and those from the row of their children down
  row-down : (t a w : ℕ) → along (cuts_below plan (suc t)) a w ≡ along own a w + along (cuts_below plan t) (2 * a) (2 * w)
  unfolding along cuts_below
  row-down t a zero = refl
  row-down t a (suc w) =
      let p : 2 * suc w ≡ suc (suc (2 * w)) = omega arith in
      let q : 2 * suc a ≡ suc (2 * a + 1) = omega arith in
      rw (p, ← add-one (2 * a)) (omega (arith, rw q at (row-down t (suc a) w)))

module _ (plan : List ℕ) (bytes : T (at_most 1 plan)) where
  byte-bit : (x : ℕ) → x ≤ 1 → x ≡ bit (eqb x 1)
  byte-bit zero h = refl
  byte-bit (suc zero) h = refl
  byte-bit (suc (suc x)) h = absurd (omega arith)

  -- the bytes from node a on
  abbrev from : ℕ → ℕ
  from a = byte_sum (drop a plan)

  first_byte : (a : ℕ) → from a ≡ own plan a + from (suc a)
  unfolding byte_sum
  first_byte a = go (dec_le (length plan) a)
    where
      go : Dec (length plan ≤ a) → from a ≡ own plan a + from (suc a)
      go (yes h) =
          let l : length plan ≤ suc a = omega arith in
          rw (drop_of_length-le plan h, drop_of_length-le plan l, get_or-eq_default plan 0 h)
      go (no h) =
          let l : a < length plan = omega arith in
          rw (drop-cons plan a 0 l) (ap (λ (x : ℕ). x + from (suc a)) (byte-bit (get_or plan a 0) (at-most-at 1 plan a bytes)))

  row-bytes : (a w : ℕ) → from a ≡ along (own plan) a w + from (a + w)
  unfolding along
  row-bytes a zero = rw (add-zero a) (omega arith)
  row-bytes a (suc w) =
      let q : a + suc w ≡ suc a + w = omega arith in
      rw q (omega (arith, first_byte a, row-bytes (suc a) w))

  -- a row as wide as the number of its first node: the nodes from that one on are in it or below it
  row-all : (t a : ℕ) → length plan ≤ (a + a) * 2 ^ t → along (cuts_below plan t) a a ≡ from a
  unfolding cuts_below
  row-all zero a h = sym (row-bytes a a ∙ sum-end (along (own plan) a a) plan (a + a) (omega arith))
  row-all (suc t) a h =
      let q : a + a ≡ 2 * a = omega arith in
      let below : along (cuts_below plan t) (2 * a) (2 * a) ≡ from (2 * a) = row-all t (2 * a) (omega (arith, rw (double t) at h)) in
      row-down plan t a a ∙ ap (λ (x : ℕ). along (own plan) a a + x) (below ∙ ap from (sym q)) ∙ sym (row-bytes a a)

  -- byte 0 belongs to no node
  pub sum-cuts : (n : ℕ) → length plan ≤ 2 * 2 ^ n → get_or plan 0 0 ≡ 0 → byte_sum plan ≡ cuts_below plan n 1
  sum-cuts n s z =
      let none : own plan 0 ≡ 0 = rw z in
      let all : cuts_below plan n 1 + 0 ≡ from 1 = unfold along in row-all n 1 s in
      omega (arith, first_byte 0)
