-- Laws of `write` and `tab`. Assumes nothing.
use mathlib.Core.Path.{◌≡◌, refl, sym, ap, ap₂, ◌∙◌}
use mathlib.Core.Logic.{◌⊎◌, ⊎_elim, inl, inr}
use mathlib.Core.List.{List, [], ◌∷◌, ◌++◌}
use Prim.Native.Nat.{ℕ, zero, suc, ◌+◌, ◌-◌, ◌≤◌, ◌<◌}
use native.Mathlib.Nat.{suc-add, zero-add, not-suc-le-zero, le_of_suc-le-suc, eq-or-lt_of_le}
use native.Mathlib.Decide.{dec_lt}
use native.Mathlib.Omega.{arith}
use native.Mathlib.Numerals.{add-one}
use lib.ListN.{length, get_or, set, take, drop, length-set, length-drop}
use lib.Seq.{get_or-set_same, get_or-set_other, ext_get_or, set_comm, length-take-le, get_or-take, get_or-drop, set-append_left}
use borrow.Rule.Slice.PartMut.{mid_of, post_of, put_mid, put_same}
use lib.IntN.{ℤ}
use Rattle.words.specs.Words.{write, four}

pub lt_or_ge : (j a : ℕ) → (j < a) ⊎ (a ≤ j)
lt_or_ge j a = pick (dec_lt j a)
  where
    pick : Dec (j < a) → (j < a) ⊎ (a ≤ j)
    pick (yes p) = inl p
    pick (no q) = inr (omega arith)

module _ {A : Type 0} (z : A) where
  pub length-write : (w : List A) (a n : ℕ) (f : ℕ → A) → length (write w a n f) ≡ length w
  unfolding write
  length-write w a zero f = refl
  length-write w a (suc n) f = length-set (write w a n f) (a + n) (f n) ∙ length-write w a n f

  -- a word before the stored ones
  pub write-below : (w : List A) (a n : ℕ) (f : ℕ → A) (j : ℕ) → j < a → get_or (write w a n f) j z ≡ get_or w j z
  unfolding write
  write-below w a zero f j h = refl
  write-below w a (suc n) f j h = get_or-set_other (write w a n f) (a + n) j (f n) z (omega arith) ∙ write-below w a n f j h

  -- a word after the stored ones
  pub write-above : (w : List A) (a n : ℕ) (f : ℕ → A) (j : ℕ) → a + n ≤ j → get_or (write w a n f) j z ≡ get_or w j z
  unfolding write
  write-above w a zero f j h = refl
  write-above w a (suc n) f j h = get_or-set_other (write w a n f) (a + n) j (f n) z (omega arith) ∙ write-above w a n f j (omega arith)

  -- a stored word
  pub write_in : (w : List A) (a n : ℕ) (f : ℕ → A) (k : ℕ) → k < n → a + n ≤ length w → get_or (write w a n f) (a + k) z ≡ f k
  unfolding write
  write_in w a zero f k lt fit = absurd (not-suc-le-zero lt)
  write_in w a (suc n) f k lt fit =
      ⊎_elim
      (λ e. ap (λ (i : ℕ). get_or (set (write w a n f) (a + n) (f n)) (a + i) z) e
      ∙ get_or-set_same (write w a n f) (a + n) (f n) z (omega (arith, length-write w a n f))
      ∙ ap f (sym e))
      (λ l. get_or-set_other (write w a n f) (a + n) (a + k) (f n) z (omega arith) ∙ write_in w a n f k l (omega arith))
      (eq-or-lt_of_le (le_of_suc-le-suc lt))

  pub write_ext : (w : List A) (a n : ℕ) (f g : ℕ → A) → ((k : ℕ) → k < n → f k ≡ g k) → write w a n f ≡ write w a n g
  unfolding write
  write_ext w a zero f g h = refl
  write_ext w a (suc n) f g h =
      ap (λ (l : List A). set l (a + n) (f n)) (write_ext w a n f g (λ k lt. h k (omega arith)))
      ∙ ap (λ (x : A). set (write w a n g) (a + n) x) (h n (omega arith))

  -- one store more
  pub store-more : (w₀ w : List A) (d k : ℕ) (v : A) (f : ℕ → A) → w ≡ write w₀ d k f → v ≡ f k → set w (d + k) v ≡ write w₀ d (k + 1) f
  unfolding write
  store-more w₀ w d k v f e q = ap (λ (l : List A). set l (d + k) v) e ∙ ap (λ (x : A). set (write w₀ d k f) (d + k) x) q ∙ ap (λ (n : ℕ). write w₀ d n f) (sym (add-one k))

  pub store-none : (w : List A) (d : ℕ) (f : ℕ → A) → w ≡ write w d 0 f
  unfolding write
  store-none w d f = refl

  -- more words behind the stored ones
  write-more : (w : List A) (d k n : ℕ) (f : ℕ → A) → write (write w d k f) (d + k) n (λ j. f (k + j)) ≡ write w d (k + n) f
  unfolding write
  write-more w d k zero f = ap (λ (i : ℕ). write w d i f) (let e : k ≡ k + 0 = omega arith in e)
  write-more w d k (suc n) f =
      ap₂ (λ (l : List A) (i : ℕ). set l i (f (k + n))) (write-more w d k n f) (let e : d + k + n ≡ d + (k + n) = omega arith in e)
      ∙ ap (λ (i : ℕ). write w d i f) (let e : suc (k + n) ≡ k + suc n = omega arith in e)

  -- n words more at once: those of g are the next ones of f
  pub store-next : (w₀ w : List A) (d k n : ℕ) (f g : ℕ → A) → w ≡ write w₀ d k f → ((j : ℕ) → j < n → g j ≡ f (k + j)) → write w (d + k) n g ≡ write w₀ d (k + n) f
  store-next w₀ w d k n f g e q =
      write_ext w (d + k) n g (λ j. f (k + j)) q ∙ ap (λ (l : List A). write l (d + k) n (λ j. f (k + j))) e ∙ write-more w₀ d k n f

  -- a word from d + k on, or before d, while the first k words from d are stored
  pub source-above : (w₀ w : List A) (d k : ℕ) (f : ℕ → A) (j : ℕ) → w ≡ write w₀ d k f → d + k ≤ j → get_or w j z ≡ get_or w₀ j z
  source-above w₀ w d k f j e le = ap (λ (l : List A). get_or l j z) e ∙ write-above w₀ d k f j le

  pub source-below : (w₀ w : List A) (d k : ℕ) (f : ℕ → A) (j : ℕ) → w ≡ write w₀ d k f → j < d → get_or w j z ≡ get_or w₀ j z
  source-below w₀ w d k f j e lt = ap (λ (l : List A). get_or l j z) e ∙ write-below w₀ d k f j lt

  -- a list that has f's words from a on and w's elsewhere is that store
  pub write-is : (w v : List A) (a n : ℕ) (f : ℕ → A) → length v ≡ length w → a + n ≤ length w
      → ((k : ℕ) → k < n → get_or v (a + k) z ≡ f k)
      → ((j : ℕ) → j < a → get_or v j z ≡ get_or w j z)
      → ((j : ℕ) → a + n ≤ j → get_or v j z ≡ get_or w j z)
      → v ≡ write w a n f
  write-is w v a n f len fit mid low high =
      ext_get_or z v (write w a n f) (len ∙ sym (length-write w a n f))
      (λ j lt. ⊎_elim
      (λ (p : j < a). low j p ∙ sym (write-below w a n f j p))
      (λ (p : a ≤ j). ⊎_elim
      (λ (q : j < a + n).
      let e : a + (j - a) ≡ j = omega arith in
      ap (λ (i : ℕ). get_or v i z) (sym e) ∙ mid (j - a) (omega arith) ∙ sym (write_in w a n f (j - a) (omega arith) fit) ∙ ap (λ (i : ℕ). get_or (write w a n f) i z) e)
      (λ (q : a + n ≤ j). high j q ∙ sym (write-above w a n f j q))
      (lt_or_ge j (a + n)))
      (lt_or_ge j a))

  -- a second store over the same words
  pub write-over : (w : List A) (a n : ℕ) (f g : ℕ → A) → a + n ≤ length w → write (write w a n f) a n g ≡ write w a n g
  write-over w a n f g fit =
      let v : List A = write w a n f in
      let fit' : a + n ≤ length v = omega (arith, length-write w a n f) in
      write-is w (write v a n g) a n g (length-write v a n g ∙ length-write w a n f) fit
      (λ k lt. write_in v a n g k lt fit')
      (λ j p. write-below v a n g j p ∙ write-below w a n f j p)
      (λ j p. write-above v a n g j p ∙ write-above w a n f j p)

  -- a store of one word outside the stored ones goes first
  pub set-write : (w : List A) (a n : ℕ) (f : ℕ → A) (j : ℕ) (v : A) → (j < a) ⊎ (a + n ≤ j) → set (write w a n f) j v ≡ write (set w j v) a n f
  unfolding write
  set-write w a zero f j v out = refl
  set-write w a (suc n) f j v out =
      set_comm (write w a n f) (a + n) j (f n) v (⊎_elim (λ p. λ e. omega arith) (λ p. λ e. omega arith) out)
      ∙ ap (λ (l : List A). set l (a + n) (f n)) (set-write w a n f j v (⊎_elim (λ p. inl p) (λ p. inr (omega arith)) out))

  -- two stores side by side, one word more of each
  pub store_both : (w₀ w : List A) (m h k : ℕ) (x y : A) (f g : ℕ → A) → k < h → w ≡ write (write w₀ m k f) (m + h) k g → x ≡ f k → y ≡ g k
      → set (set w (m + k) x) (m + h + k) y ≡ write (write w₀ m (k + 1) f) (m + h) (k + 1) g
  store_both w₀ w m h k x y f g lt e p q =
      store-more (write w₀ m (k + 1) f) (set w (m + k) x) (m + h) k y g
      (ap (λ (l : List A). set l (m + k) x) e ∙ set-write (write w₀ m k f) (m + h) k g (m + k) x (inl (omega arith))
      ∙ ap (λ (l : List A). write l (m + h) k g) (store-more w₀ (write w₀ m k f) m k x f refl p)) q

  -- n words more of each at once
  write-swap : (u : List A) (a k : ℕ) (g : ℕ → A) (b n : ℕ) (f : ℕ → A) → b + n ≤ a → write (write u a k g) b n f ≡ write (write u b n f) a k g
  unfolding write
  write-swap u a k g b zero f le = refl
  write-swap u a k g b (suc n) f le =
      ap (λ (l : List A). set l (b + n) (f n)) (write-swap u a k g b n f (omega arith)) ∙ set-write (write u b n f) a k g (b + n) (f n) (inl (omega arith))

  pub store-both_next : (w₀ w : List A) (m h k n : ℕ) (f g f' g' : ℕ → A) → k + n ≤ h → w ≡ write (write w₀ m k f) (m + h) k g
      → ((j : ℕ) → j < n → f' j ≡ f (k + j)) → ((j : ℕ) → j < n → g' j ≡ g (k + j))
      → write (write w (m + k) n f') (m + h + k) n g' ≡ write (write w₀ m (k + n) f) (m + h) (k + n) g
  store-both_next w₀ w m h k n f g f' g' le e p q =
      store-next (write w₀ m (k + n) f) (write w (m + k) n f') (m + h) k n g g'
      (ap (λ (l : List A). write l (m + k) n f') e ∙ write-swap (write w₀ m k f) (m + h) k g (m + k) n f' (omega arith)
      ∙ ap (λ (l : List A). write l (m + h) k g) (store-next w₀ (write w₀ m k f) m k n f f' refl p)) q

  -- a word outside both, while the first k words of each are stored
  pub source-both : (w₀ w : List A) (m h k : ℕ) (f g : ℕ → A) (j : ℕ) → w ≡ write (write w₀ m k f) (m + h) k g → k ≤ h → (j < m) ⊎ (m + (h + h) ≤ j)
      → get_or w j z ≡ get_or w₀ j z
  source-both w₀ w m h k f g j e le out =
      ap (λ (l : List A). get_or l j z) e
      ∙ ⊎_elim
      (λ p. write-below (write w₀ m k f) (m + h) k g j (omega arith) ∙ write-below w₀ m k f j p)
      (λ p. write-above (write w₀ m k f) (m + h) k g j (omega arith) ∙ write-above w₀ m k f j (omega arith))
      out

  -- a store past the seam
  pub set_append_add : (t z : List A) (i : ℕ) (v : A) → set (t ++ z) (length t + i) v ≡ t ++ set z i v
  set_append_add [] z i v = ap (λ (n : ℕ). set z n v) (zero-add i)
  set_append_add (x ∷ t) z i v = ap (λ (n : ℕ). set (x ∷ (t ++ z)) n v) (suc-add (length t) i) ∙ ap (λ (l : List A). x ∷ l) (set_append_add t z i v)

  -- stores into the part of k words that starts at y are stores into the whole
  pub write_mid : (w : List A) (y k a n : ℕ) (f : ℕ → A) → y + k ≤ length w → a + n ≤ k → put_mid y k w (write (mid_of y k w) a n f) ≡ write w (y + a) n f
  unfolding write
  write_mid w y k a zero f fit le = put_same y k w
  write_mid w y k a (suc n) f fit le =
      let part : List A = write (mid_of y k w) a n f in
      let t : List A = take y w in
      let lt : length t ≡ y = length-take-le y w (omega arith) in
      let lp : length part ≡ k = length-write (mid_of y k w) a n f ∙ length-take-le k (drop y w) (omega (arith, length-drop y w)) in
      ap (λ (z : List A). t ++ z) (sym (set-append_left part (post_of y k w) (a + n) (f n) (omega arith)))
      ∙ sym (set_append_add t (part ++ post_of y k w) (a + n) (f n))
      ∙ ap (λ (i : ℕ). set (put_mid y k w part) i (f n)) (let e : length t + (a + n) ≡ y + a + n = omega arith in e)
      ∙ ap (λ (l : List A). set l (y + a + n) (f n)) (write_mid w y k a n f fit (omega arith))

  -- a part of n words that starts at y, put in with the words of f, is their store
  pub put-write : (w part : List A) (y k n : ℕ) (f : ℕ → A) → k ≡ n → y + n ≤ length w → length part ≡ n → ((j : ℕ) → j < n → get_or part j z ≡ f j) → put_mid y k w part ≡ write w y n f
  put-write w part y k n f e fit long is =
      let mid : List A = mid_of y n w in
      let lm : length mid ≡ n = length-take-le n (drop y w) (omega (arith, length-drop y w)) in
      let all : part ≡ write mid 0 n f =
      ext_get_or z part (write mid 0 n f) (long ∙ sym (length-write mid 0 n f ∙ lm))
      (λ j lt. is j (omega arith) ∙ sym (write_in mid 0 n f j (omega arith) (omega arith)) ∙ ap (λ (i : ℕ). get_or (write mid 0 n f) i z) (zero-add j)) in
      rw e (ap (put_mid y n w) all ∙ write_mid w y n 0 n f fit (omega arith) ∙ ap (λ (i : ℕ). write w i n f) (let here : y + 0 ≡ y = omega arith in here))

  -- word i of the part
  pub get_or_mid : (w : List A) (y k i : ℕ) → i < k → get_or (mid_of y k w) i z ≡ get_or w (y + i) z
  get_or_mid w y k i lt = get_or-take k (drop y w) i z lt ∙ get_or-drop y w i z

-- four stores
pub set-four : (w : List ℤ) (d : ℕ) (p' q' r' s' p q r s : ℤ) → p' ≡ p → q' ≡ q → r' ≡ r → s' ≡ s
    → set (set (set (set w d p') (d + 1) q') (d + 2) r') (d + 3) s' ≡ write w d 4 (four p q r s)
unfolding write
set-four w d p' q' r' s' p q r s ep eq er es =
    rw (ep, eq, er, es) (ap (λ (i : ℕ). set (set (set (set w i p) (d + 1) q) (d + 2) r) (d + 3) s) (let e : d ≡ d + 0 = omega arith in e))

-- four words that are the next ones of f
pub four-next : (f : ℕ → ℤ) (k : ℕ) (p q r s : ℤ) → p ≡ f k → q ≡ f (k + 1) → r ≡ f (k + 2) → s ≡ f (k + 3) → (j : ℕ) → j < 4 → four p q r s j ≡ f (k + j)
four-next f k p q r s ep eq er es zero lt = ep ∙ ap f (let e : k ≡ k + 0 = omega arith in e)
four-next f k p q r s ep eq er es (suc zero) lt = eq
four-next f k p q r s ep eq er es (suc (suc zero)) lt = er
four-next f k p q r s ep eq er es (suc (suc (suc zero))) lt = es
four-next f k p q r s ep eq er es (suc (suc (suc (suc j)))) lt = absurd (omega arith)
