-- One more position, for the loops that read a payload and check the frozen bits. Assumes nothing.
use mathlib.Core.Path.{◌≡◌, refl, sym, ◌∙◌, ap, ap₂}
use mathlib.Core.Bool.{Bool, true, false, cond, not, ◌&&◌}
use mathlib.Core.List.{List, [], ◌∷◌, ◌++◌, append_assoc, append-nil}
use Prim.Native.Nat.{ℕ, zero, suc, ◌+◌, ◌<◌, ◌≤◌, max}
use native.Mathlib.Numerals.{add-one}
use native.Mathlib.Omega.{arith}
use borrow.Author.Tests.{eq-eqb, ne_eqb}
use lib.Dec.{eqb}
use lib.IntN.{pos, negsuc}
use lib.ListN.{length, get_or, set, take, drop, length-set, take-append-drop, drop_of_length-le}
use lib.Seq.{drop-cons, drop-drop, take-suc-set, drop-set-lt, length-take-le}
use Rattle.model.specs.Lists.{tabulate, bit, over}
use mir.Val.{bool_byte}
use Rattle.model.specs.Soft.{Soft, finite, certain, certain_one}
use Rattle.model.specs.Scan.{hard_bit, undecided_in}
use Rattle.model.specs.Encoding.{is_unfrozen, unfrozen, payload_of, is_known_one, frozen_match}
use Rattle.model.proofs.Lists.{bit-small, and_assoc, and-true, first-left}
use Rattle.inputs.proofs.Folds.{unfrozen-more}

pub bit_bool : (b : Bool) → bool_byte b ≡ bit b
bit_bool true = refl
bit_bool false = refl

pub bit-most : (s : Soft) → hard_bit s ≤ 2
bit-most (finite (pos zero)) = omega arith
bit-most (finite (pos (suc n))) = omega arith
bit-most (finite (negsuc n)) = omega arith
bit-most certain = omega arith
bit-most certain_one = omega arith

-- where there are no ties, the bits by sign are the hard bits
pub no_ties : (n : ℕ) (f : ℕ → ℕ) → ((k : ℕ) → f k ≤ 2) → undecided_in (tabulate n f) ≡ 0 → (k : ℕ) → k < n → bit (eqb (f k) 1) ≡ f k
unfolding undecided_in tabulate
no_ties zero f small e k h = absurd (omega arith)
no_ties (suc n) f small e zero h = go (f 0) (small 0) (omega (arith, e))
  where
    go : (b : ℕ) → b ≤ 2 → bit (eqb b 2) ≡ 0 → bit (eqb b 1) ≡ b
    go zero l z = refl
    go (suc zero) l z = refl
    go (suc (suc zero)) l z = absurd (omega arith)
    go (suc (suc (suc b))) l z = absurd (omega arith)
no_ties (suc n) f small e (suc k) h = no_ties n (λ j. f (suc j)) (λ j. small (suc j)) (omega (arith, e)) k (omega arith)

-- one tie more
pub ties_more : (n : ℕ) (f : ℕ → ℕ) → undecided_in (tabulate (n + 1) f) ≡ undecided_in (tabulate n f) + bit (eqb (f n) 2)
unfolding undecided_in tabulate
ties_more n f = ap (λ (k : ℕ). undecided_in (tabulate k f)) (add-one n) ∙ go n f
  where
    go : (n : ℕ) (f : ℕ → ℕ) → undecided_in (tabulate (suc n) f) ≡ undecided_in (tabulate n f) + bit (eqb (f n) 2)
    go zero f = omega arith
    go (suc n) f = omega (arith, go n (λ k. f (suc k)))

pub ties_few : (n : ℕ) (f : ℕ → ℕ) → undecided_in (tabulate n f) ≤ n
unfolding undecided_in tabulate
ties_few zero f = omega arith
ties_few (suc n) f = omega (arith, bit-small (eqb (f 0) 2), ties_few n (λ k. f (suc k)))

-- ---- the payload: j of its bits are read off the first i positions
pub record Read (mask u p₀ p : List ℕ) (i j : ℕ) : Type 0 where
  pub place : i ≤ length mask
  pub long : length p ≡ length p₀
  pub left : j + unfrozen (drop i mask) ≡ unfrozen mask
  pub read : payload_of mask u ≡ take j p ++ payload_of (drop i mask) (drop i u)
  pub tail : drop j p ≡ drop j p₀

module _ (mask u p₀ p : List ℕ) (i j : ℕ) (r : Read mask u p₀ p i j) (lt : i < length mask) where
  payload-at : payload_of (drop i mask) (drop i u)
      ≡ cond (is_unfrozen (get_or mask i 0)) (get_or u i 0 ∷ payload_of (drop (i + 1) mask) (drop (i + 1) u)) (payload_of (drop (i + 1) mask) (drop (i + 1) u))
  unfolding payload_of
  payload-at =
      ap (λ (m : List ℕ). payload_of m (drop i u)) (drop-cons mask i 0 lt ∙ ap (λ (n : ℕ). get_or mask i 0 ∷ drop n mask) (sym (add-one i)))
      ∙ ap₂ (λ (x : ℕ) (v : List ℕ). cond (is_unfrozen (get_or mask i 0)) (x ∷ payload_of (drop (i + 1) mask) v) (payload_of (drop (i + 1) mask) v)) (first-left u i 0) (drop-drop 1 i u)

  -- there is room for the bit of an unfrozen position
  pub room : get_or mask i 0 ≡ 0 → unfrozen mask ≤ length p₀ → j < length p
  room e h = omega (arith, r.left, r.long, unfrozen-more j mask i lt, ap bit (eq-eqb (get_or mask i 0) 0 e))

  pub read-unfrozen : get_or mask i 0 ≡ 0 → unfrozen mask ≤ length p₀ → Read mask u p₀ (set p j (get_or u i 0)) (i + 1) (j + 1)
  read-unfrozen e h =
      let b : is_unfrozen (get_or mask i 0) ≡ true = eq-eqb (get_or mask i 0) 0 e in
      let fits : j < length p = room e h in
      let rest : List ℕ = payload_of (drop (i + 1) mask) (drop (i + 1) u) in
      record {
        place = omega arith;
        long = length-set p j (get_or u i 0) ∙ r.long;
        left = omega (arith, r.left, unfrozen-more j mask i lt, ap bit b);
        read = r.read ∙ ap (λ (l : List ℕ). take j p ++ l) (payload-at ∙ ap (λ (x : Bool). cond x (get_or u i 0 ∷ rest) rest) b)
            ∙ sym (append_assoc (take j p) (get_or u i 0 ∷ []) rest)
            ∙ ap (λ (l : List ℕ). l ++ rest) (sym (ap (λ (n : ℕ). take n (set p j (get_or u i 0))) (add-one j) ∙ take-suc-set p j (get_or u i 0) fits));
        tail = drop-set-lt (j + 1) p j (get_or u i 0) (omega arith)
            ∙ sym (drop-drop 1 j p) ∙ ap (drop 1) r.tail ∙ drop-drop 1 j p₀;
      }

  pub read-frozen : (get_or mask i 0 ≡ 0 → ⊥) → Read mask u p₀ p (i + 1) j
  read-frozen n =
      let b : is_unfrozen (get_or mask i 0) ≡ false = ne_eqb (get_or mask i 0) 0 n in
      let rest : List ℕ = payload_of (drop (i + 1) mask) (drop (i + 1) u) in
      record {
        place = omega arith;
        long = r.long;
        left = omega (arith, r.left, unfrozen-more j mask i lt, ap bit b);
        read = r.read ∙ ap (λ (l : List ℕ). take j p ++ l) (payload-at ∙ ap (λ (x : Bool). cond x (get_or u i 0 ∷ rest) rest) b);
        tail = r.tail;
      }

pub read_all : (mask u p₀ p : List ℕ) (i j : ℕ) → Read mask u p₀ p i j → length mask ≤ i → unfrozen mask ≤ length p₀ → p ≡ over (payload_of mask u) p₀
unfolding over payload_of unfrozen
read_all mask u p₀ p i j r h room =
    let none : drop i mask ≡ [] = drop_of_length-le mask h in
    let is : payload_of mask u ≡ take j p =
    r.read ∙ ap (λ (m : List ℕ). take j p ++ payload_of m (drop i u)) none ∙ append-nil (take j p) in
    let count : j ≡ unfrozen mask = omega (arith, r.left, ap unfrozen none) in
    let long : length (payload_of mask u) ≡ j = ap length is ∙ length-take-le j p (omega (arith, r.long)) in
    sym (ap₂ (λ (l : List ℕ) (n : ℕ). l ++ drop n p₀) is long ∙ ap (λ (l : List ℕ). take j p ++ l) (sym r.tail) ∙ take-append-drop j p)

-- ---- the frozen check
max-zero : (a b : ℕ) → eqb (max a b) 0 ≡ (eqb a 0 && eqb b 0)
max-zero zero zero = refl
max-zero zero (suc b) = ne_eqb (max 0 (suc b)) 0 (λ e. omega arith) ∙ sym (ne_eqb (suc b) 0 (λ e. omega arith))
max-zero (suc a) b = ne_eqb (max (suc a) b) 0 (λ e. omega arith) ∙ sym (ap (λ (x : Bool). x && eqb b 0) (ne_eqb (suc a) 0 (λ e. omega arith)))

-- a bit of u where the position's byte is m: 1 if it is not the value that the position is frozen to
abbrev wrong : ℕ → ℕ → ℕ
wrong m b = cond (is_unfrozen m) 0 (bit (not (eqb b (bit (is_known_one m)))))

right_is : (x t : Bool) → cond x true t ≡ eqb (cond x 0 (bit (not t))) 0
right_is true t = refl
right_is false true = refl
right_is false false = refl

pub check-more : (mask u : List ℕ) (i most : ℕ) → i < length mask
    → (eqb most 0 && frozen_match (drop i mask) (drop i u))
    ≡ (eqb (max most (wrong (get_or mask i 0) (get_or u i 0))) 0 && frozen_match (drop (i + 1) mask) (drop (i + 1) u))
unfolding frozen_match
check-more mask u i most lt =
    let bits : Bool = eqb (wrong (get_or mask i 0) (get_or u i 0)) 0 in
    let rest : Bool = frozen_match (drop (i + 1) mask) (drop (i + 1) u) in
    ap (λ (m : List ℕ). eqb most 0 && frozen_match m (drop i u)) (drop-cons mask i 0 lt ∙ ap (λ (n : ℕ). get_or mask i 0 ∷ drop n mask) (sym (add-one i)))
    ∙ ap₂ (λ (x : ℕ) (v : List ℕ). eqb most 0 && (cond (is_unfrozen (get_or mask i 0)) true (eqb x (bit (is_known_one (get_or mask i 0)))) && frozen_match (drop (i + 1) mask) v)) (first-left u i 0) (drop-drop 1 i u)
    ∙ ap (λ (x : Bool). eqb most 0 && (x && rest)) (right_is (is_unfrozen (get_or mask i 0)) (eqb (get_or u i 0) (bit (is_known_one (get_or mask i 0)))))
    ∙ sym (and_assoc (eqb most 0) bits rest)
    ∙ ap (λ (x : Bool). x && rest) (sym (max-zero most (wrong (get_or mask i 0) (get_or u i 0))))

pub check-end : (mask u : List ℕ) (i most : ℕ) → length mask ≤ i → (eqb most 0 && frozen_match (drop i mask) (drop i u)) ≡ eqb most 0
unfolding frozen_match
check-end mask u i most h = ap (λ (m : List ℕ). eqb most 0 && frozen_match m (drop i u)) (drop_of_length-le mask h) ∙ and-true (eqb most 0)
