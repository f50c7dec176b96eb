-- The words in the middle of a visit: the node's incoming list, and the trees of its two children. Assumes nothing.
use mathlib.Core.Path.{◌≡◌, refl, sym, ap, ap₂, ◌∙◌, subst}
use mathlib.Core.Logic.{inl, inr}
use lib.IntN.{ℤ, pos, nat_abs}
use mathlib.Core.List.{List}
use Prim.Native.Nat.{ℕ, suc, ◌+◌, ◌-◌, ◌*◌, ◌^◌, ◌≤◌, ◌<◌}
use native.Mathlib.Nat.{suc-mul, mul-add, mul_assoc, mul_comm, mul-le-mul_left, mul-le-mul_right}
use native.Mathlib.Omega.{arith}
use lib.Pow.{pow_pos}
use lib.ListN.{length}
use mathlib.Core.Bool.{false}
use Rattle.model.specs.Soft.{Soft, soft_zero, ◌at◌, box, plus, mark, word_of, soft_of}
use Rattle.model.specs.Scan.{Tree, message, to_left, to_right, to_node}
use Rattle.model.specs.Bounds.{limit, Small, Under, SmallAll, UnderAll, cap}
use Rattle.model.proofs.Lists.{double, tabulate_ext, tabulate_halves}
use Rattle.model.proofs.Algebra.{plus_comm, plus-zero-r}
use Rattle.model.proofs.Bounds.{cap-suc, small-box, small-plus, under-box, under-plus, under_mono, small_mono}
use Rattle.words.specs.Words.{Word, Added, word, soft, write, Holds, box_word, add_word, Words}
use Rattle.halves.specs.Halves.{box_at, box_plus, plus_box, Sums, BoxSums, FiniteBoxSums, Combinable, low_half, high_half, node_words}
use Rattle.words.proofs.Laws.{word-soft, soft-at, small-under, small_size, under-word, soft-box, soft-add, added}
use Rattle.words.proofs.Store.{source-below, length-write}
use Rattle.scan.specs.Space.{Kept}
use Rattle.scan.proofs.Keep.{Fit, kept_refl, kept_trans, kept-scratch, kept_row, kept_child, fit-kept, row_below, stored-at}

-- a word of a value within `limit`, and of a finite one
pub within_word : (q : ℤ) (b : Soft) → soft_of q ≡ b → Under false limit b → Word q
within_word q b e u = under-word false limit q (omega arith) (subst (Under false limit) (sym e) u)

pub small_word : (q : ℤ) (b : Soft) → soft_of q ≡ b → Small limit b → nat_abs q < mark
small_word q b e s = let h : nat_abs q ≤ limit = small_size limit q (subst (Small limit) (sym e) s) in omega arith

-- ---- box and sum of words whose soft values are known and stay within `limit`
module _ (p q r : ℤ) (a b c : Soft) (ea : soft_of p ≡ a) (eb : soft_of q ≡ b) (ec : soft_of r ≡ c) where
  sum-under : Under false limit (plus b c) → Under false limit (plus (soft_of q) (soft_of r))
  sum-under u = subst (Under false limit) (sym (ap₂ plus eb ec)) u

  pub sum_is : Under false limit (plus b c) → soft_of (add_word q r) ≡ plus b c
  sum_is u = soft-add false limit q r (omega arith) (sum-under u) ∙ ap₂ plus eb ec

  pub sum-word : Small limit b → Under false limit (plus b c) → Added q r
  sum-word s u = added limit (omega arith) q r (small_word q b eb s) (sum-under u)

  pub box-plus-is : Under false limit (plus b c) → Under false limit (box a (plus b c)) → soft_of (box_word p (add_word q r)) ≡ box a (plus b c)
  box-plus-is u v =
      let e : box (soft_of p) (soft_of (add_word q r)) ≡ box a (plus b c) = ap₂ box ea (sum_is u) in
      soft-box false limit p (add_word q r) (omega arith) (subst (Under false limit) (sym e) v) ∙ e

  -- the box of p and q, and r added
  pub box-is : Under false limit (box a b) → soft_of (box_word p q) ≡ box a b
  box-is u = soft-box false limit p q (omega arith) (subst (Under false limit) (sym (ap₂ box ea eb)) u) ∙ ap₂ box ea eb

  plus-box_under : Under false limit (box a b) → Under false limit (plus (box a b) c) → Under false limit (plus (soft_of (box_word p q)) (soft_of r))
  plus-box_under u v = subst (Under false limit) (sym (ap₂ plus (box-is u) ec)) v

  pub plus-box_is : Under false limit (box a b) → Under false limit (plus (box a b) c) → soft_of (add_word (box_word p q) r) ≡ plus (box a b) c
  plus-box_is u v = soft-add false limit (box_word p q) r (omega arith) (plus-box_under u v) ∙ ap₂ plus (box-is u) ec

  pub plus-box_word : Small limit (box a b) → Under false limit (plus (box a b) c) → Added (box_word p q) r
  plus-box_word s v =
      let u : Under false limit (box a b) = small-under false limit (box a b) s in
      added limit (omega arith) (box_word p q) r (small_word (box_word p q) (box a b) (box-is u) s) (plus-box_under u v)

-- ---- how words are read as the trees of nodes of stage t, by their first position: from the rows up to t alone, the message from the row t
pub record Reads (N t : ℕ) (tree : List ℤ → ℕ → Tree) : Type 0 where
  pub cong : (b : ℕ) (w v : List ℤ) → ((u i : ℕ) → u ≤ t → b ≤ i → i < b + 2 ^ t → word v (u * N + i) ≡ word w (u * N + i)) → tree v b ≡ tree w b
  pub row_is : (b : ℕ) (w : List ℤ) (k : ℕ) → k < 2 ^ t → soft_of (word w (t * N + b + k)) ≡ message (tree w b) at k

-- ---- the state in the middle of a visit of a node of stage t + 1 that began with w
pub record Mid (tree : List ℤ → ℕ → Tree) (N t b x : ℕ) (w v : List ℤ) (A B : Tree) : Type 0 where
  pub kept : Kept N (suc t) b x w v
  pub lefts : tree v b ≡ A
  pub rights : tree v (b + 2 ^ t) ≡ B

pub mid_start : (tree : List ℤ → ℕ → Tree) (N t b x : ℕ) (w : List ℤ) → Mid tree N t b x w w (tree w b) (tree w (b + 2 ^ t))
mid_start tree N t b x w = record { kept = kept_refl N (suc t) b x w; lefts = refl; rights = refl }

-- the words w that a visit of an uncut node of stage t + 1 begins with: its incoming values and the sums on the way are within `limit`
pub record Visiting (tree : List ℤ → ℕ → Tree) (N t b x : ℕ) (w : List ℤ) : Type 0 where
  pub reads : Reads N t tree
  pub fit : Fit N (suc t) b x (length w)
  pub bound : ℕ
  pub small : SmallAll (suc t) bound (soft w x (2 ^ suc t))
  pub limited : bound + cap t (2 * bound) ≤ limit
  pub doubled : 2 * bound ≤ limit

-- so they are where the largest sum of incoming values is
pub sum-limit : (t bound : ℕ) → bound * 2 ^ suc t ≤ limit → bound + cap t (2 * bound) ≤ limit
sum-limit t bound limited =
    let e : cap (suc t) bound ≡ bound + cap t (2 * bound) = cap-suc t bound in
    let m : (2 ^ suc t - 1) * bound ≤ 2 ^ suc t * bound = mul-le-mul_right bound (omega arith) in
    omega (arith, mul_comm (2 ^ suc t) bound)

pub double-limit : (t bound : ℕ) → bound * 2 ^ suc t ≤ limit → 2 * bound ≤ limit
double-limit t bound limited = let q : 2 ≤ 2 ^ suc t = omega (arith, double t, pow_pos t) in omega (arith, mul-le-mul_left bound q)

-- the children's incoming values may be twice as large
pub child_limit : (t bound : ℕ) → bound * 2 ^ suc t ≤ limit → 2 * bound * 2 ^ t ≤ limit
child_limit t bound limited = omega (arith, ap (λ (z : ℕ). bound * z) (double t), mul-add bound (2 ^ t) (2 ^ t), mul_assoc 2 bound (2 ^ t))

module _ {tree : List ℤ → ℕ → Tree} {N t b x : ℕ} {w v : List ℤ} {A B : Tree} (begin : Visiting tree N t b x w) (m : Mid tree N t b x w v A B) where
  abbrev fit : Fit N (suc t) b x (length w)
  fit = begin.fit

  -- the halves of the incoming list, and where a child's incoming list is
  abbrev lower : ℕ → Soft
  lower k = soft w x (2 ^ suc t) at k

  abbrev upper : ℕ → Soft
  upper k = soft w x (2 ^ suc t) at (k + 2 ^ t)

  abbrev c : ℕ
  c = x + (2 ^ t + 2 ^ t)

  twice : 2 ^ suc t ≡ 2 ^ t + 2 ^ t
  twice = double t

  row : suc t * N ≡ t * N + N
  row = suc-mul t N

  -- rows up to stage t are as they were after a store past them
  under : (b' : ℕ) (z : List ℤ) (d n : ℕ) (f : ℕ → ℤ) → z ≡ write v d n f → suc t * N ≤ d → b' + 2 ^ t ≤ N → tree z b' ≡ tree v b'
  under b' z d n f e le room =
      begin.reads.cong b' v z (λ u i lt low high. source-below (pos 0) v z d n f (u * N + i) e (omega (arith, row_below N u (suc t) i (omega arith) (omega arith))))

  -- a store into the child's incoming list
  pub mid_scratch : (z : List ℤ) (f : ℕ → ℤ) → z ≡ write v c (2 ^ t) f → Mid tree N t b x w z A B
  mid_scratch z f e = record {
    kept = kept_trans m.kept (kept-scratch N (suc t) b x v z f (fit-kept m.kept fit) c (2 ^ t) e (omega (arith, twice)) (omega (arith, twice)));
    lefts = under b z c (2 ^ t) f e (omega (arith, fit.rows)) (omega (arith, fit.within, twice)) ∙ m.lefts;
    rights = under (b + 2 ^ t) z c (2 ^ t) f e (omega (arith, fit.rows)) (omega (arith, fit.within, twice)) ∙ m.rights;
  }

  -- a store into the node's own row
  pub mid_row : (z : List ℤ) (d : ℕ) (f : ℕ → ℤ) → z ≡ write v d (2 ^ t) f → suc t * N + b ≤ d → d + 2 ^ t ≤ suc t * N + b + (2 ^ t + 2 ^ t) → Mid tree N t b x w z A B
  mid_row z d f e low high = record {
    kept = kept_trans m.kept (kept_row N (suc t) b x v z f (fit-kept m.kept fit) d (2 ^ t) e low (omega (arith, twice)));
    lefts = under b z d (2 ^ t) f e (omega arith) (omega (arith, fit.within, twice)) ∙ m.lefts;
    rights = under (b + 2 ^ t) z d (2 ^ t) f e (omega arith) (omega (arith, fit.within, twice)) ∙ m.rights;
  }

  -- a visit of the left child, of the right child
  pub mid_left : {z : List ℤ} {T : Tree} → Kept N t b c v z → tree z b ≡ T → Mid tree N t b x w z T B
  mid_left {z} k e = record {
    kept = kept_trans m.kept (kept_child N t b x b v z (omega arith) (omega arith) fit.rows k);
    lefts = e;
    rights = begin.reads.cong (b + 2 ^ t) v z (λ u i le low high. k.rows u i le (omega (arith, fit.within, twice)) (inr low)) ∙ m.rights;
  }

  pub mid_right : {z : List ℤ} {T : Tree} → Kept N t (b + 2 ^ t) c v z → tree z (b + 2 ^ t) ≡ T → Mid tree N t b x w z A T
  mid_right {z} k e = record {
    kept = kept_trans m.kept (kept_child N t b x (b + 2 ^ t) v z (omega arith) (omega arith) fit.rows k);
    lefts = begin.reads.cong b v z (λ u i le low high. k.rows u i le (omega (arith, fit.within, twice)) (inl high)) ∙ m.lefts;
    rights = e;
  }

  -- the right child's incoming list outlasts the child's visit, and so does what it was made of
  pub right-stays : (z y : List ℤ) → z ≡ write v c (2 ^ t) (plus_box v x (t * N + b) (x + 2 ^ t)) → Kept N t (b + 2 ^ t) c z y
      → Holds y c (2 ^ t) (plus_box y x (t * N + b) (x + 2 ^ t))
  right-stays z y e kept k lt =
      kept.between (c + k) (omega (arith, fit.rows, row)) (omega arith)
      ∙ stored-at v z c (2 ^ t) (plus_box v x (t * N + b) (x + 2 ^ t)) k e lt (omega (arith, fit.fit, m.kept.long, twice))
      ∙ sym (ap₂ add_word (ap₂ box_word (listed (x + k) (omega arith) (omega arith)) left) (listed (x + 2 ^ t + k) (omega arith) (omega arith)))
    where
      listed : (j : ℕ) → x ≤ j → j < c → word y j ≡ word v j
      listed j low high = kept.between j (omega (arith, fit.rows, row)) (omega arith) ∙ source-below (pos 0) v z c (2 ^ t) (plus_box v x (t * N + b) (x + 2 ^ t)) j e high

      left : word y (t * N + b + k) ≡ word v (t * N + b + k)
      left =
          ap (word y) (let q : t * N + b + k ≡ t * N + (b + k) = omega arith in q)
          ∙ kept.rows t (b + k) (omega arith) (omega (arith, fit.within, twice)) (inl (omega arith))
          ∙ ap (word z) (let q : t * N + (b + k) ≡ t * N + b + k = omega arith in q)
          ∙ source-below (pos 0) v z c (2 ^ t) (plus_box v x (t * N + b) (x + 2 ^ t)) (t * N + b + k) e (omega (arith, fit.rows, fit.within, row, twice))

  -- ---- what is read in the middle of a visit
  pub at-list : (k : ℕ) → k < 2 ^ suc t → soft_of (word v (x + k)) ≡ lower k
  at-list k lt = ap soft_of (m.kept.between (x + k) (omega (arith, fit.rows)) (omega arith)) ∙ sym (soft-at w x (2 ^ suc t) k lt)

  pub at_low : (k : ℕ) → k < 2 ^ t → soft_of (word v (x + k)) ≡ lower k
  at_low k lt = at-list k (omega (arith, twice))

  pub at_high : (k : ℕ) → k < 2 ^ t → soft_of (word v (x + 2 ^ t + k)) ≡ upper k
  at_high k lt = ap (λ (i : ℕ). soft_of (word v i)) (let e : x + 2 ^ t + k ≡ x + (k + 2 ^ t) = omega arith in e) ∙ at-list (k + 2 ^ t) (omega (arith, twice))

  pub at_left : (k : ℕ) → k < 2 ^ t → soft_of (word v (t * N + b + k)) ≡ message A at k
  at_left k lt = begin.reads.row_is b v k lt ∙ ap (λ (T : Tree). message T at k) m.lefts

  pub at_right : (k : ℕ) → k < 2 ^ t → soft_of (word v (t * N + b + 2 ^ t + k)) ≡ message B at k
  at_right k lt =
      ap (λ (i : ℕ). soft_of (word v i)) (let e : t * N + b + 2 ^ t + k ≡ t * N + (b + 2 ^ t) + k = omega arith in e)
      ∙ begin.reads.row_is (b + 2 ^ t) v k lt ∙ ap (λ (T : Tree). message T at k) m.rights

  -- a child's message that has the same value everywhere
  pub left_holds : (s : Soft) → ((k : ℕ) → k < 2 ^ t → message A at k ≡ s) → Holds v (t * N + b) (2 ^ t) (λ k. word_of s)
  left_holds s same k lt = sym (word-soft (word v (t * N + b + k))) ∙ ap word_of (at_left k lt ∙ same k lt)

  pub right_holds : (s : Soft) → ((k : ℕ) → k < 2 ^ t → message B at k ≡ s) → Holds v (t * N + b + 2 ^ t) (2 ^ t) (λ k. word_of s)
  right_holds s same k lt = sym (word-soft (word v (t * N + b + 2 ^ t + k))) ∙ ap word_of (at_right k lt ∙ same k lt)

  -- ---- bounds
  abbrev bound : ℕ
  bound = begin.bound

  low_small : (k : ℕ) → k < 2 ^ t → Small bound (lower k)
  low_small k lt = begin.small k (omega (arith, twice))

  high_small : (k : ℕ) → k < 2 ^ t → Small bound (upper k)
  high_small k lt = begin.small (k + 2 ^ t) (omega (arith, twice))

  small_top : (s : Soft) → Small bound s → Under false limit s
  small_top s u = under_mono false s (omega (arith, begin.limited)) (small-under false bound s u)

  small_in : (s : Soft) → Small bound s → Small limit s
  small_in s u = small_mono s (omega (arith, begin.limited)) u

  boxed : (s : Soft) (k : ℕ) → k < 2 ^ t → Small bound (box (lower k) s)
  boxed s k lt = small-box bound (lower k) s (low_small k lt)

  boxed_in : (s : Soft) (k : ℕ) → k < 2 ^ t → Small limit (box (lower k) s)
  boxed_in s k lt = small_in (box (lower k) s) (boxed s k lt)

  boxed-top : (s : Soft) (k : ℕ) → k < 2 ^ t → Under false limit (box (lower k) s)
  boxed-top s k lt = small_top (box (lower k) s) (boxed s k lt)

  cap-top : (s : Soft) → Under false (cap t (2 * bound)) s → Under false limit s
  cap-top s u = under_mono false s (omega (arith, begin.limited)) u

  sum_top : (s r : Soft) → Small bound s → Under false (cap t (2 * bound)) r → Under false limit (plus s r)
  sum_top s r u v = under_mono false (plus s r) begin.limited (under-plus false bound (cap t (2 * bound)) s r u v)

  pub words-list : Words v x (2 ^ t)
  words-list k lt = within_word (word v (x + k)) _ (at_low k lt) (small_top (lower k) (low_small k lt))

  pub words-high : Words v (x + 2 ^ t) (2 ^ t)
  words-high k lt = within_word (word v (x + 2 ^ t + k)) _ (at_high k lt) (small_top (upper k) (high_small k lt))

  -- what the left child is handed where the right child's message is 0 everywhere
  pub left-list-zero : (r : List Soft) → ((k : ℕ) → k < 2 ^ t → r at k ≡ soft_zero) → (z : List ℤ) → z ≡ write v c (2 ^ t) (box_at v x (x + 2 ^ t))
      → soft z c (2 ^ t) ≡ to_left (2 ^ t) (soft w x (2 ^ suc t)) r
  unfolding soft to_left
  left-list-zero r none z e = tabulate_ext (2 ^ t) _ _ (λ k lt.
      ap soft_of (stored-at v z c (2 ^ t) (box_at v x (x + 2 ^ t)) k e lt (omega (arith, fit.fit, m.kept.long, twice)))
      ∙ box-is _ _ (pos 0) _ _ _ (at_low k lt) (at_high k lt) refl (boxed-top (upper k) k lt)
      ∙ ap (box (lower k)) (sym (ap (plus (upper k)) (none k lt) ∙ plus-zero-r (upper k))))

  module _ (left-under : UnderAll false t (cap t (2 * bound)) (message A)) where
    pub words_left : Words v (t * N + b) (2 ^ t)
    words_left k lt = within_word (word v (t * N + b + k)) _ (at_left k lt) (cap-top (message A at k) (left-under k lt))

    -- what the right child is handed, and the sums on the way
    right-top : (k : ℕ) → k < 2 ^ t → Under false limit (plus (box (lower k) (message A at k)) (upper k))
    right-top k lt =
        under_mono false (plus (box (lower k) (message A at k)) (upper k)) begin.doubled
        (small-under false (2 * bound) (plus (box (lower k) (message A at k)) (upper k))
        (small-plus bound (box (lower k) (message A at k)) (upper k) (boxed (message A at k) k lt) (high_small k lt)))

    pub right-sums : FiniteBoxSums v x (t * N + b) (x + 2 ^ t) (2 ^ t)
    right-sums k lt =
        let s = plus-box_word _ _ _ _ _ _ (at_low k lt) (at_left k lt) (at_high k lt) (boxed_in (message A at k) k lt) (right-top k lt) in
        (s.0, small_word (word v (x + 2 ^ t + k)) _ (at_high k lt) (small_in (upper k) (high_small k lt)), s.1)

    pub right-list : (z : List ℤ) → z ≡ write v c (2 ^ t) (plus_box v x (t * N + b) (x + 2 ^ t))
        → soft z c (2 ^ t) ≡ to_right (2 ^ t) (soft w x (2 ^ suc t)) (message A)
    unfolding soft to_right
    right-list z e = tabulate_ext (2 ^ t) _ _ (λ k lt.
        ap soft_of (stored-at v z c (2 ^ t) (plus_box v x (t * N + b) (x + 2 ^ t)) k e lt (omega (arith, fit.fit, m.kept.long, twice)))
        ∙ plus-box_is _ _ _ _ _ _ (at_low k lt) (at_left k lt) (at_high k lt) (boxed-top (message A at k) k lt) (right-top k lt))

  module _ (right-under : UnderAll false t (cap t (2 * bound)) (message B)) where
    pub words_right : Words v (t * N + b + 2 ^ t) (2 ^ t)
    words_right k lt = within_word (word v (t * N + b + 2 ^ t + k)) _ (at_right k lt) (cap-top (message B at k) (right-under k lt))

    high_sum : (k : ℕ) → k < 2 ^ t → Under false limit (plus (upper k) (message B at k))
    high_sum k lt = sum_top (upper k) (message B at k) (high_small k lt) (right-under k lt)

    pub left-sums : Sums v (x + 2 ^ t) (t * N + b + 2 ^ t) (2 ^ t)
    left-sums k lt = sum-word (pos 0) _ _ _ _ _ refl (at_high k lt) (at_right k lt) (small_in (upper k) (high_small k lt)) (high_sum k lt)

    pub left-list : (z : List ℤ) → z ≡ write v c (2 ^ t) (box_plus v x (x + 2 ^ t) (t * N + b + 2 ^ t))
        → soft z c (2 ^ t) ≡ to_left (2 ^ t) (soft w x (2 ^ suc t)) (message B)
    unfolding soft to_left
    left-list z e = tabulate_ext (2 ^ t) _ _ (λ k lt.
        ap soft_of (stored-at v z c (2 ^ t) (box_plus v x (x + 2 ^ t) (t * N + b + 2 ^ t)) k e lt (omega (arith, fit.fit, m.kept.long, twice)))
        ∙ box-plus-is _ _ _ _ _ _ (at_low k lt) (at_high k lt) (at_right k lt) (high_sum k lt) (boxed-top (plus (upper k) (message B at k)) k lt))

    module _ (left-under : UnderAll false t (cap t (2 * bound)) (message A)) where
      up_top : (k : ℕ) → k < 2 ^ t → Under false limit (plus (box (lower k) (message A at k)) (message B at k))
      up_top k lt = sum_top (box (lower k) (message A at k)) (message B at k) (boxed (message A at k) k lt) (right-under k lt)

      pub up-sums : BoxSums v x (t * N + b) (t * N + b + 2 ^ t) (2 ^ t)
      up-sums k lt = plus-box_word _ _ _ _ _ _ (at_low k lt) (at_left k lt) (at_right k lt) (boxed_in (message A at k) k lt) (up_top k lt)

      pub in_range : Combinable v x (t * N + b) (2 ^ t)
      in_range = record { first = words-list; left = words_left left-under; right = words_right; sums = left-sums; box-sums = up-sums }

      -- the two halves of the message
      low-half : (z : List ℤ) → z ≡ write v (suc t * N + b) (2 ^ t) (low_half v x (t * N + b) (2 ^ t))
          → (k : ℕ) → k < 2 ^ t → soft_of (word z (suc t * N + b + k)) ≡ box (message A at k) (plus (upper k) (message B at k))
      low-half z e k lt =
          ap soft_of (stored-at v z (suc t * N + b) (2 ^ t) (low_half v x (t * N + b) (2 ^ t)) k e lt (omega (arith, fit.fit, fit.rows, fit.within, m.kept.long, twice)))
          ∙ box-plus-is _ _ _ _ _ _ (at_left k lt) (at_high k lt) (at_right k lt) (high_sum k lt)
          (under-box false limit (message A at k) (plus (upper k) (message B at k)) (cap-top (message A at k) (left-under k lt)) (high_sum k lt))

      high-half : (base z : List ℤ) → length base ≡ length v → z ≡ write base (suc t * N + b + 2 ^ t) (2 ^ t) (high_half v x (t * N + b) (2 ^ t))
          → (k : ℕ) → k < 2 ^ t → soft_of (word z (suc t * N + b + 2 ^ t + k)) ≡ plus (message B at k) (box (lower k) (message A at k))
      high-half base z long e k lt =
          ap soft_of (stored-at base z (suc t * N + b + 2 ^ t) (2 ^ t) (high_half v x (t * N + b) (2 ^ t)) k e lt (omega (arith, fit.fit, fit.rows, fit.within, m.kept.long, long, twice)))
          ∙ plus-box_is _ _ _ _ _ _ (at_low k lt) (at_left k lt) (at_right k lt) (boxed-top (message A at k) k lt) (up_top k lt)
          ∙ plus_comm (box (lower k) (message A at k)) (message B at k)

      pub own-message : {z : List ℤ} → z ≡ node_words v (suc t * N + b) x (t * N + b) (2 ^ t)
          → soft z (suc t * N + b) (2 ^ suc t) ≡ to_node (2 ^ t) (soft w x (2 ^ suc t)) (message A) (message B)
      unfolding soft to_node
      own-message {z} e =
          let half : List ℤ = write v (suc t * N + b) (2 ^ t) (low_half v x (t * N + b) (2 ^ t)) in
          sym (tabulate_halves t (λ k. soft_of (word z (suc t * N + b + k))) _ _
          (λ k lt. sym (ap soft_of (source-below (pos 0) half z (suc t * N + b + 2 ^ t) (2 ^ t) _ (suc t * N + b + k) e (omega arith)) ∙ low-half half refl k lt))
          (λ k lt. sym (ap (λ (i : ℕ). soft_of (word z i)) (let q : suc t * N + b + (k + 2 ^ t) ≡ suc t * N + b + 2 ^ t + k = omega arith in q)
          ∙ high-half half z (length-write (pos 0) v (suc t * N + b) (2 ^ t) _) e k lt)))

-- the node's message is stored: both halves are in its own row
pub mid_node : {tree : List ℤ → ℕ → Tree} {N t b x : ℕ} {w v : List ℤ} {A B : Tree} → Visiting tree N t b x w → Mid tree N t b x w v A B → {z : List ℤ}
    → z ≡ node_words v (suc t * N + b) x (t * N + b) (2 ^ t) → Mid tree N t b x w z A B
mid_node {N = N} {t = t} {b = b} {x = x} {v = v} begin m {z} e =
    mid_row begin (mid_row begin m (write v (suc t * N + b) (2 ^ t) (low_half v x (t * N + b) (2 ^ t))) (suc t * N + b) _ refl (omega arith) (omega arith)) z (suc t * N + b + 2 ^ t) _ e
    (omega arith) (omega arith)
