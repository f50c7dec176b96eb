-- SCAN of c times the LLRs is c times SCAN of the LLRs. Assumes nothing.
use mathlib.Core.Path.{◌≡◌, refl, sym, ap, ap₂, ◌∙◌}
use mathlib.Core.Bool.{Bool, true, false, cond}
use mathlib.Core.List.{List, [], ◌∷◌, ◌++◌}
use Prim.Native.Nat.{ℕ, zero, suc, ◌+◌, ◌*◌, ◌^◌, ◌≤◌, ◌<◌, min}
use native.Mathlib.Nat.{mul-zero, mul-pos, mul-le-mul_left, min-eq_left, min-eq_right}
use native.Mathlib.Omega.{arith}
use borrow.Author.Tests.{ltb-true, ltb-false}
use lib.Dec.{ltb}
use lib.IntN.{ℤ, pos, negsuc, neg_ℤ, nat_abs, ◌+ℤ◌, ◌*ℤ◌, neg_ℤ-neg_ℤ, +ℤ_assoc, +ℤ_comm, zero-*ℤ, suc_ℤ-*ℤ}
use lib.ListN.{get_or, take, drop, get_or-map}
use Rattle.model.specs.Lists.{tabulate}
use Rattle.model.specs.Soft.{Soft, finite, certain, certain_one, Finite, soft_zero, ◌at◌, negative, signed, differ, negate, box_ℤ, box, plus}
use Rattle.model.specs.Encoding.{is_unfrozen, is_known_one}
use Rattle.model.specs.Scan.{Tree, leaf, node, message, left, right, leaf_value, start, FiniteAll, to_left, to_right, to_node, visit, sweeps, scan, hard_bit, hard_word, undecided_in, decided_payload, decided_check, decided, decode_scan}
use Rattle.model.specs.Scale.{scaled, scaled_all}
use Rattle.model.proofs.Lists.{tabulate_ext}

-- ---- numbers
-- a product with a number above 0 keeps the sign, and multiplies the size
below-zero : (x : ℕ) → 0 < x → negative (neg_ℤ (pos x)) ≡ true
below-zero zero h = absurd (omega arith)
below-zero (suc x) h = refl

times-negative : (c : ℕ) → 0 < c → (z : ℤ) → negative (pos c *ℤ z) ≡ negative z
times-negative c h (pos n) = refl
times-negative c h (negsuc n) = below-zero (c * suc n) (mul-pos h (omega arith))

size_of_minus : (x : ℕ) → nat_abs (neg_ℤ (pos x)) ≡ x
size_of_minus zero = refl
size_of_minus (suc x) = refl

times-size : (c : ℕ) (z : ℤ) → nat_abs (pos c *ℤ z) ≡ c * nat_abs z
times-size c (pos n) = refl
times-size c (negsuc n) = size_of_minus (c * suc n)

times-min : (c x y : ℕ) → min (c * x) (c * y) ≡ c * min x y
times-min c x y = go (ltb x y) refl
  where
    go : (b : Bool) → ltb x y ≡ b → min (c * x) (c * y) ≡ c * min x y
    go true e = let h : x ≤ y = omega (arith, ltb-true x y e) in min-eq_left (mul-le-mul_left c h) ∙ ap (λ (n : ℕ). c * n) (sym (min-eq_left h))
    go false e = let h : y ≤ x = ltb-false x y e in min-eq_right (mul-le-mul_left c h) ∙ ap (λ (n : ℕ). c * n) (sym (min-eq_right h))

times-signed : (c : ℕ) (s : Bool) (n : ℕ) → signed s (c * n) ≡ pos c *ℤ signed s n
times-signed c false n = refl
times-signed c true zero = rw (mul-zero c)
times-signed c true (suc n) = refl

times-box : (c : ℕ) → 0 < c → (a b : ℤ) → box_ℤ (pos c *ℤ a) (pos c *ℤ b) ≡ pos c *ℤ box_ℤ a b
unfolding box_ℤ
times-box c h a b =
    rw (times-negative c h a, times-negative c h b, times-size c a, times-size c b, times-min c (nat_abs a) (nat_abs b))
    (times-signed c (differ (negative a) (negative b)) (min (nat_abs a) (nat_abs b)))

times-minus : (c : ℕ) (a : ℤ) → neg_ℤ (pos c *ℤ a) ≡ pos c *ℤ neg_ℤ a
times-minus c (pos zero) = rw (mul-zero c)
times-minus c (pos (suc n)) = refl
times-minus c (negsuc n) = neg_ℤ-neg_ℤ (pos (c * suc n))

four : (a b x y : ℤ) → a +ℤ b +ℤ (x +ℤ y) ≡ a +ℤ x +ℤ (b +ℤ y)
four a b x y =
    +ℤ_assoc a b (x +ℤ y)
    ∙ ap (λ (z : ℤ). a +ℤ z) (sym (+ℤ_assoc b x y) ∙ ap (λ (z : ℤ). z +ℤ y) (+ℤ_comm b x) ∙ +ℤ_assoc x b y)
    ∙ sym (+ℤ_assoc a x (b +ℤ y))

times-sum : (c : ℕ) (a b : ℤ) → pos c *ℤ a +ℤ pos c *ℤ b ≡ pos c *ℤ (a +ℤ b)
times-sum zero a b = rw (zero-*ℤ a, zero-*ℤ b, zero-*ℤ (a +ℤ b))
times-sum (suc c) a b =
    ap₂ (λ (x y : ℤ). x +ℤ y) (suc_ℤ-*ℤ (pos c) a) (suc_ℤ-*ℤ (pos c) b)
    ∙ four (pos c *ℤ a) a (pos c *ℤ b) b
    ∙ ap (λ (z : ℤ). z +ℤ (a +ℤ b)) (times-sum c a b)
    ∙ sym (suc_ℤ-*ℤ (pos c) (a +ℤ b))

-- ---- soft values, lists and trees
module _ (c : ℕ) (above : 0 < c) where
  scaled-negate : (a : Soft) → negate (scaled c a) ≡ scaled c (negate a)
  scaled-negate certain = refl
  scaled-negate certain_one = refl
  scaled-negate (finite a) = ap finite (times-minus c a)

  scaled-box : (a b : Soft) → box (scaled c a) (scaled c b) ≡ scaled c (box a b)
  unfolding box
  scaled-box certain b = refl
  scaled-box certain_one b = scaled-negate b
  scaled-box (finite a) certain = refl
  scaled-box (finite a) certain_one = scaled-negate (finite a)
  scaled-box (finite a) (finite b) = ap finite (times-box c above a b)

  scaled-plus : (a b : Soft) → plus (scaled c a) (scaled c b) ≡ scaled c (plus a b)
  unfolding plus
  scaled-plus certain b = refl
  scaled-plus certain_one certain = refl
  scaled-plus certain_one certain_one = refl
  scaled-plus certain_one (finite b) = refl
  scaled-plus (finite a) certain = refl
  scaled-plus (finite a) certain_one = refl
  scaled-plus (finite a) (finite b) = ap finite (times-sum c a b)

  scaled-zero : scaled c soft_zero ≡ soft_zero
  scaled-zero = ap (λ (n : ℕ). finite (pos n)) (mul-zero c)

  scaled_at : (L : List Soft) (k : ℕ) → scaled_all c L at k ≡ scaled c (L at k)
  scaled_at L k = ap (λ (d : Soft). get_or (scaled_all c L) k d) (sym scaled-zero) ∙ get_or-map (scaled c) L k soft_zero

  pub scaled-finite : (n : ℕ) (L : List Soft) → FiniteAll n L → FiniteAll n (scaled_all c L)
  scaled-finite n L F k h = rw (scaled_at L k) (each (L at k) (F k h))
    where
      each : (a : Soft) → Finite a → Finite (scaled c a)
      each certain f = f
      each certain_one f = f
      each (finite a) f = f

  scaled-table : (n : ℕ) (f : ℕ → Soft) → scaled_all c (tabulate n f) ≡ tabulate n (λ k. scaled c (f k))
  unfolding tabulate
  scaled-table zero f = refl
  scaled-table (suc n) f = ap (λ (l : List Soft). scaled c (f 0) ∷ l) (scaled-table n (λ k. f (suc k)))

  -- box(a, b + c) and box(a, b) + c
  box-plus : (a b d : Soft) → box (scaled c a) (plus (scaled c b) (scaled c d)) ≡ scaled c (box a (plus b d))
  box-plus a b d = ap (box (scaled c a)) (scaled-plus b d) ∙ scaled-box a (plus b d)

  to-left : (h : ℕ) (L r : List Soft) → to_left h (scaled_all c L) (scaled_all c r) ≡ scaled_all c (to_left h L r)
  unfolding to_left
  to-left h L r =
      tabulate_ext h _ _ (λ k lt. rw (scaled_at L k, scaled_at L (k + h), scaled_at r k) (box-plus (L at k) (L at (k + h)) (r at k)))
      ∙ sym (scaled-table h _)

  to-right : (h : ℕ) (L l : List Soft) → to_right h (scaled_all c L) (scaled_all c l) ≡ scaled_all c (to_right h L l)
  unfolding to_right
  to-right h L l =
      tabulate_ext h _ _ (λ k lt. rw (scaled_at L k, scaled_at l k, scaled_at L (k + h), scaled-box (L at k) (l at k)) (scaled-plus (box (L at k) (l at k)) (L at (k + h))))
      ∙ sym (scaled-table h _)

  scaled_append : (a b : List Soft) → scaled_all c (a ++ b) ≡ scaled_all c a ++ scaled_all c b
  scaled_append [] b = refl
  scaled_append (x ∷ a) b = ap (λ (l : List Soft). scaled c x ∷ l) (scaled_append a b)

  to-node : (h : ℕ) (L l r : List Soft) → to_node h (scaled_all c L) (scaled_all c l) (scaled_all c r) ≡ scaled_all c (to_node h L l r)
  unfolding to_node
  to-node h L l r =
      ap₂ (λ (a b : List Soft). a ++ b)
      (tabulate_ext h _ _ (λ k lt. rw (scaled_at l k, scaled_at L (k + h), scaled_at r k) (box-plus (l at k) (L at (k + h)) (r at k))) ∙ sym (scaled-table h _))
      (tabulate_ext h _ _ (λ k lt. rw (scaled_at r k, scaled_at L k, scaled_at l k, scaled-box (L at k) (l at k)) (scaled-plus (r at k) (box (L at k) (l at k)))) ∙ sym (scaled-table h _))
      ∙ sym (scaled_append (tabulate h (λ k. box (l at k) (plus (L at (k + h)) (r at k)))) (tabulate h (λ k. plus (r at k) (box (L at k) (l at k)))))

  scaled_tree : Tree → Tree
  scaled_tree (leaf m) = leaf (scaled_all c m)
  scaled_tree (node m l r) = node (scaled_all c m) (scaled_tree l) (scaled_tree r)

  on_message : (T : Tree) → message (scaled_tree T) ≡ scaled_all c (message T)
  unfolding scaled_tree
  on_message (leaf m) = refl
  on_message (node m l r) = refl

  on_left : (T : Tree) → left (scaled_tree T) ≡ scaled_tree (left T)
  unfolding scaled_tree
  on_left (leaf m) = refl
  on_left (node m l r) = refl

  on_right : (T : Tree) → right (scaled_tree T) ≡ scaled_tree (right T)
  unfolding scaled_tree
  on_right (leaf m) = refl
  on_right (node m l r) = refl

  on_visit : (t : ℕ) (T : Tree) (L : List Soft) → visit t (scaled_tree T) (scaled_all c L) ≡ scaled_tree (visit t T L)
  unfolding visit scaled_tree
  on_visit zero T L = refl
  on_visit (suc t) T L =
      let l : Tree = visit t (left T) (to_left (2 ^ t) L (message (right T))) in
      let r : Tree = visit t (right T) (to_right (2 ^ t) L (message l)) in
      let el : visit t (left (scaled_tree T)) (to_left (2 ^ t) (scaled_all c L) (message (right (scaled_tree T)))) ≡ scaled_tree l =
      ap₂ (visit t) (on_left T) (ap (λ (m : List Soft). to_left (2 ^ t) (scaled_all c L) m) (ap message (on_right T) ∙ on_message (right T)) ∙ to-left (2 ^ t) L (message (right T)))
      ∙ on_visit t (left T) _ in
      let er : visit t (right (scaled_tree T)) (to_right (2 ^ t) (scaled_all c L) (message (scaled_tree l))) ≡ scaled_tree r =
      ap₂ (visit t) (on_right T) (ap (λ (m : List Soft). to_right (2 ^ t) (scaled_all c L) m) (on_message l) ∙ to-right (2 ^ t) L (message l))
      ∙ on_visit t (right T) _ in
      ap₂ (λ (x y : Tree). node (to_node (2 ^ t) (scaled_all c L) (message x) (message y)) x y) el
      (ap (λ (x : Tree). visit t (right (scaled_tree T)) (to_right (2 ^ t) (scaled_all c L) (message x))) el ∙ er)
      ∙ ap (λ (m : List Soft). node m (scaled_tree l) (scaled_tree r))
      (ap₂ (λ (x y : List Soft). to_node (2 ^ t) (scaled_all c L) x y) (on_message l) (on_message r) ∙ to-node (2 ^ t) L (message l) (message r))

  on_start : (t : ℕ) (mask : List ℕ) → scaled_tree (start t mask) ≡ start t mask
  unfolding start scaled_tree leaf_value
  on_start zero mask = ap (λ (s : Soft). leaf (s ∷ [])) (go (is_unfrozen (get_or mask 0 0)))
    where
      known : (b : Bool) → scaled c (cond b certain_one certain) ≡ cond b certain_one certain
      known true = refl
      known false = refl

      go : (b : Bool) → scaled c (cond b soft_zero (cond (is_known_one (get_or mask 0 0)) certain_one certain)) ≡ cond b soft_zero (cond (is_known_one (get_or mask 0 0)) certain_one certain)
      go true = scaled-zero
      go false = known (is_known_one (get_or mask 0 0))
  on_start (suc t) mask =
      ap₂ (λ (x y : Tree). node (scaled_all c (tabulate (2 ^ suc t) (λ k. soft_zero))) x y) (on_start t (take (2 ^ t) mask)) (on_start t (drop (2 ^ t) mask))
      ∙ ap (λ (m : List Soft). node m (start t (take (2 ^ t) mask)) (start t (drop (2 ^ t) mask)))
      (scaled-table (2 ^ suc t) (λ k. soft_zero) ∙ tabulate_ext (2 ^ suc t) _ _ (λ k lt. scaled-zero))

  on_sweeps : (n : ℕ) (L : List Soft) (k : ℕ) (T : Tree) → sweeps (λ T. visit n T (scaled_all c L)) k (scaled_tree T) ≡ scaled_tree (sweeps (λ T. visit n T L) k T)
  unfolding sweeps
  on_sweeps n L zero T = refl
  on_sweeps n L (suc k) T = ap (sweeps (λ T. visit n T (scaled_all c L)) k) (on_visit n T L) ∙ on_sweeps n L k (visit n T L)

  pub scan-scaled : (n : ℕ) (mask : List ℕ) (L : List Soft) (k : ℕ) → scan n mask (scaled_all c L) k ≡ scaled_all c (scan n mask L k)
  unfolding scan
  scan-scaled n mask L k =
      ap (λ (T : Tree). message (sweeps (λ T. visit n T (scaled_all c L)) k T)) (sym (on_start n mask))
      ∙ ap message (on_sweeps n L k (start n mask)) ∙ on_message (sweeps (λ T. visit n T L) k (start n mask))

  -- ---- what is read off soft values
  hard-positive : (x : ℕ) → 0 < x → hard_bit (finite (pos x)) ≡ 0
  hard-positive zero h = absurd (omega arith)
  hard-positive (suc x) h = refl

  hard-negative : (x : ℕ) → 0 < x → hard_bit (finite (neg_ℤ (pos x))) ≡ 1
  hard-negative zero h = absurd (omega arith)
  hard-negative (suc x) h = refl

  bit-scaled : (s : Soft) → hard_bit (scaled c s) ≡ hard_bit s
  bit-scaled certain = refl
  bit-scaled certain_one = refl
  bit-scaled (finite (pos zero)) = ap (λ (n : ℕ). hard_bit (finite (pos n))) (mul-zero c)
  bit-scaled (finite (pos (suc n))) = hard-positive (c * suc n) (mul-pos above (omega arith))
  bit-scaled (finite (negsuc n)) = hard-negative (c * suc n) (mul-pos above (omega arith))

  hard-scaled : (n : ℕ) (L s : List Soft) → hard_word n (scaled_all c L) (scaled_all c s) ≡ hard_word n L s
  unfolding hard_word
  hard-scaled n L s = tabulate_ext (2 ^ n) _ _ (λ k lt. rw (scaled_at L k, scaled_at s k, scaled-plus (L at k) (s at k)) (bit-scaled (plus (L at k) (s at k))))

  pub decode_scaled : (n : ℕ) (mask : List ℕ) (L : List Soft) (k : ℕ) → let D = decode_scan n mask L k in
      decode_scan n mask (scaled_all c L) k ≡ record { soft = scaled_all c D.soft; hard = D.hard; payload = D.payload; check = D.check; undecided = D.undecided }
  unfolding decode_scan decided
  decode_scaled n mask L k =
      ap (λ (s : List Soft). decided n mask (scaled_all c L) s) (scan-scaled n mask L k)
      ∙ ap
      (λ (h : List ℕ). record {
        soft = scaled_all c (scan n mask L k);
        hard = h;
        payload = decided_payload n mask h;
        check = decided_check n mask h;
        undecided = undecided_in h;
      })
      (hard-scaled n L (scan n mask L k))
