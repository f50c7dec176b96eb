-- The counts in the table's order, from those in the order before request No. 4. Assumes nothing.
use mathlib.Core.Path.{◌≡◌, refl, sym, ap, ap₂, ◌∙◌}
use mathlib.Core.Bool.{Bool, true, false, cond, ◌&&◌}
use mathlib.Core.Option.{Option, some}
use mathlib.Core.List.{List, [], ◌∷◌}
use Prim.Native.Nat.{ℕ, zero, suc, ◌+◌, ◌*◌, ◌-◌, ◌^◌, ◌≤◌}
use native.Mathlib.Nat.{mul-add}
use native.Mathlib.Omega.{arith}
use lib.Dec.{T}
use lib.ListN.{length, get_or, take, drop, length-drop}
use lib.Seq.{length-take-le}
use Rattle.model.specs.Lists.{same, bit}
use Rattle.model.specs.Encoding.{frozen_to_zero}
use Rattle.model.specs.Kinds.{Kind, rate_0, rate_1, REP, SPC, type_I, type_III, type_II, type_IV, pattern, fits, first_of, kind_by, kind_of, is_kind}
use Rattle.model.specs.Plans.{is_cut, cuts_of, cuts_by, counts}
use Rattle.model.specs.Orders.{former, counts_by, cuts_with, moved}
use Rattle.model.proofs.Lists.{true-T, absurd_bool, and_l, and_r, same→eq, double}
use Rattle.model.proofs.FrozenPositions.{to_zero_length}
use Rattle.model.proofs.Shortcuts.{fits_facts}
use Rattle.model.proofs.Orders.{same-zeros}

-- the two parts of a mask that two kinds fit
abbrev one_zero : List ℕ
one_zero = 1 ∷ 0 ∷ []

abbrev two_each : List ℕ
two_each = 1 ∷ 1 ∷ 0 ∷ 0 ∷ []

-- what a kind's count gains, and what it loses, where a nodes are like the first and b like the second
abbrev gained : Kind → ℕ → ℕ → ℕ
gained k a b = bit (is_kind k (some SPC)) * a + bit (is_kind k (some type_III)) * b

abbrev lost : Kind → ℕ → ℕ → ℕ
lost k a b = bit (is_kind k (some REP)) * a + bit (is_kind k (some type_I)) * b

-- ---- a node
-- two kinds that do not both fit, in either order
swapped : (f : Kind → Bool) (j k : Kind) (ks ls : List Kind) → (f j && f k) ≡ false → first_of f ks ≡ first_of f ls → first_of f (j ∷ k ∷ ks) ≡ first_of f (k ∷ j ∷ ls)
unfolding first_of
swapped f j k ks ls n e = go (f j) (f k) refl refl
  where
    go : (x y : Bool) → f j ≡ x → f k ≡ y → cond (f j) (some j) (cond (f k) (some k) (first_of f ks)) ≡ cond (f k) (some k) (cond (f j) (some j) (first_of f ls))
    go true true p q = absurd (absurd_bool (f j && f k) (ap₂ (λ (a b : Bool). a && b) p q) n)
    go true false p q = rw (p, q)
    go false true p q = rw (p, q)
    go false false p q = rw (p, q) e

headed : (f : Kind → Bool) (k : Kind) (ks ls : List Kind) → first_of f ks ≡ first_of f ls → first_of f (k ∷ ks) ≡ first_of f (k ∷ ls)
unfolding first_of
headed f k ks ls e = ap (λ (o : Option Kind). cond (f k) (some k) o) e

-- two kinds of a pattern that both have at one size do not fit another part of the mask
only_at : (m : ℕ) (mask : List ℕ) (j k : Kind) (bits : List ℕ) → (T (fits m mask j) → T (fits m mask k) → frozen_to_zero mask ≡ bits) → same bits bits ≡ true → same (frozen_to_zero mask) bits ≡ false
    → (fits m mask j && fits m mask k) ≡ false
only_at m mask j k bits is whole n = go (fits m mask j && fits m mask k) refl
  where
    go : (b : Bool) → (fits m mask j && fits m mask k) ≡ b → b ≡ false
    go false e = refl
    go true e =
        let t : T (fits m mask j && fits m mask k) = true-T (fits m mask j && fits m mask k) e in
        absurd (absurd_bool (same (frozen_to_zero mask) bits) (ap (λ (l : List ℕ). same l bits) (is (and_l (fits m mask j) (fits m mask k) t) (and_r (fits m mask j) (fits m mask k) t)) ∙ whole) n)

module _ (m : ℕ) (mask : List ℕ) (sized : length mask ≡ m) where
  spc_rep : T (fits m mask SPC) → T (fits m mask REP) → frozen_to_zero mask ≡ one_zero
  spc_rep s r =
      let size : m ≡ 2 = omega (arith, same-zeros m mask SPC REP s r, (fits_facts m mask REP r).0) in
      (fits_facts m mask REP r).1 ∙ ap (pattern REP) size

  three-one : T (fits m mask type_III) → T (fits m mask type_I) → frozen_to_zero mask ≡ two_each
  three-one s r =
      let size : m ≡ 4 = omega (arith, same-zeros m mask type_III type_I s r, (fits_facts m mask type_I r).0) in
      (fits_facts m mask type_I r).1 ∙ ap (pattern type_I) size

  -- the kind is the same in both orders but for the two
  same_kind : same (frozen_to_zero mask) one_zero ≡ false → same (frozen_to_zero mask) two_each ≡ false → kind_of m mask ≡ kind_by former m mask
  unfolding kind_of same
  same_kind a b =
      let f : Kind → Bool = fits m mask in
      headed f rate_0 _ _ (headed f rate_1 _ _
      (swapped f SPC REP _ _ (only_at m mask SPC REP one_zero spc_rep refl a)
      (swapped f type_III type_I _ _ (only_at m mask type_III type_I two_each three-one refl b) refl)))

  size_of : (bits : List ℕ) → same (frozen_to_zero mask) bits ≡ true → m ≡ length bits
  size_of bits e = sym sized ∙ sym (to_zero_length mask) ∙ ap length (same→eq (frozen_to_zero mask) bits (true-T _ e))

  abbrev Moves : Kind → Type 0
  Moves k =
      let a : ℕ = bit (same (frozen_to_zero mask) one_zero) in
      let b : ℕ = bit (same (frozen_to_zero mask) two_each) in
      bit (is_kind k (kind_of m mask)) + lost k a b ≡ bit (is_kind k (kind_by former m mask)) + gained k a b

  -- at the first of the two, at the second, and elsewhere
  module _ (k : Kind) where
    at_first : same (frozen_to_zero mask) one_zero ≡ true → Moves k
    unfolding kind_of first_of same
    at_first e = rw (same→eq (frozen_to_zero mask) one_zero (true-T _ e), size_of one_zero e) (omega arith)

    at_second : same (frozen_to_zero mask) two_each ≡ true → Moves k
    unfolding kind_of first_of same
    at_second e = rw (same→eq (frozen_to_zero mask) two_each (true-T _ e), size_of two_each e) (omega arith)

    elsewhere : same (frozen_to_zero mask) one_zero ≡ false → same (frozen_to_zero mask) two_each ≡ false → Moves k
    elsewhere a b = rw (a, b, same_kind a b) (omega arith)

    moves : Moves k
    moves = go (same (frozen_to_zero mask) one_zero) (same (frozen_to_zero mask) two_each) refl refl
      where
        go : (x y : Bool) → same (frozen_to_zero mask) one_zero ≡ x → same (frozen_to_zero mask) two_each ≡ y → Moves k
        go true y a b = at_first a
        go false true a b = at_second b
        go false false a b = elsewhere a b

-- ---- a tree
spread : (x y a a₁ a₂ b b₁ b₂ : ℕ) → x * (a + (a₁ + a₂)) + y * (b + (b₁ + b₂)) ≡ x * a + y * b + (x * a₁ + y * b₁ + (x * a₂ + y * b₂))
spread x y a a₁ a₂ b b₁ b₂ = omega (arith, mul-add x a (a₁ + a₂), mul-add x a₁ a₂, mul-add y b (b₁ + b₂), mul-add y b₁ b₂)

module _ (k : Kind) (plan : List ℕ) where
  node-moves : (m p : ℕ) (mask : List ℕ) → length mask ≡ m →
      let a : ℕ = bit (is_cut plan p && same (frozen_to_zero mask) one_zero) in
      let b : ℕ = bit (is_cut plan p && same (frozen_to_zero mask) two_each) in
      bit (is_cut plan p && is_kind k (kind_of m mask)) + lost k a b ≡ bit (is_cut plan p && is_kind k (kind_by former m mask)) + gained k a b
  node-moves m p mask sized = go (is_cut plan p)
    where
      go : (c : Bool) →
          let a : ℕ = bit (c && same (frozen_to_zero mask) one_zero) in
          let b : ℕ = bit (c && same (frozen_to_zero mask) two_each) in
          bit (c && is_kind k (kind_of m mask)) + lost k a b ≡ bit (c && is_kind k (kind_by former m mask)) + gained k a b
      go true = moves m mask sized k
      go false = omega arith

  pub cuts-move : (t p : ℕ) (mask : List ℕ) → length mask ≡ 2 ^ t
      → cuts_of k plan t p mask + lost k (cuts_with one_zero plan t p mask) (cuts_with two_each plan t p mask)
      ≡ cuts_by (kind_by former) k plan t p mask + gained k (cuts_with one_zero plan t p mask) (cuts_with two_each plan t p mask)
  unfolding cuts_by cuts_with
  cuts-move zero p mask sized = node-moves 1 p mask sized
  cuts-move (suc t) p mask sized =
      let half : 2 ^ suc t ≡ 2 ^ t + 2 ^ t = double t in
      let l = cuts-move t (2 * p) (take (2 ^ t) mask) (length-take-le (2 ^ t) mask (omega arith)) in
      let r = cuts-move t (2 * p + 1) (drop (2 ^ t) mask) (length-drop (2 ^ t) mask ∙ omega arith) in
      let n = node-moves (2 ^ suc t) p mask sized in
      let here : List ℕ → ℕ = λ bits. bit (is_cut plan p && same (frozen_to_zero mask) bits) in
      let first : List ℕ → ℕ = λ bits. cuts_with bits plan t (2 * p) (take (2 ^ t) mask) in
      let second : List ℕ → ℕ = λ bits. cuts_with bits plan t (2 * p + 1) (drop (2 ^ t) mask) in
      omega (
        arith,
        l,
        r,
        n,
        spread (bit (is_kind k (some REP))) (bit (is_kind k (some type_I))) (here one_zero) (first one_zero) (second one_zero) (here two_each) (first two_each) (second two_each),
        spread (bit (is_kind k (some SPC))) (bit (is_kind k (some type_III))) (here one_zero) (first one_zero) (second one_zero) (here two_each) (first two_each) (second two_each),
      )

-- the whole report; no more nodes move than there were
pub moved-most : (plan : List ℕ) (n : ℕ) (mask : List ℕ) → length mask ≡ 2 ^ n
    → (cuts_with one_zero plan n 1 mask ≤ get_or (counts_by former plan n mask) 2 0) × (cuts_with two_each plan n 1 mask ≤ get_or (counts_by former plan n mask) 4 0)
unfolding counts_by
moved-most plan n mask sized = (omega (arith, cuts-move REP plan n 1 mask sized), omega (arith, cuts-move type_I plan n 1 mask sized))

pub counts-moved : (plan : List ℕ) (n : ℕ) (mask : List ℕ) → length mask ≡ 2 ^ n
    → counts plan n mask ≡ moved (cuts_with one_zero plan n 1 mask) (cuts_with two_each plan n 1 mask) (counts_by former plan n mask)
unfolding counts counts_by
counts-moved plan n mask sized =
    let a : ℕ = cuts_with one_zero plan n 1 mask in
    let b : ℕ = cuts_with two_each plan n 1 mask in
    let was : Kind → ℕ = λ k. cuts_by (kind_by former) k plan n 1 mask in
    let e₀ : cuts_of rate_0 plan n 1 mask ≡ was rate_0 = omega (arith, move rate_0) in
    let e₁ : cuts_of rate_1 plan n 1 mask ≡ was rate_1 = omega (arith, move rate_1) in
    let e₂ : cuts_of SPC plan n 1 mask ≡ was SPC + a = omega (arith, move SPC) in
    let e₃ : cuts_of REP plan n 1 mask ≡ was REP - a = omega (arith, move REP) in
    let e₄ : cuts_of type_III plan n 1 mask ≡ was type_III + b = omega (arith, move type_III) in
    let e₅ : cuts_of type_I plan n 1 mask ≡ was type_I - b = omega (arith, move type_I) in
    let e₆ : cuts_of type_II plan n 1 mask ≡ was type_II = omega (arith, move type_II) in
    let e₇ : cuts_of type_IV plan n 1 mask ≡ was type_IV = omega (arith, move type_IV) in
    λ i. e₀ i ∷ e₁ i ∷ e₂ i ∷ e₃ i ∷ e₄ i ∷ e₅ i ∷ e₆ i ∷ e₇ i ∷ []
  where
    move : (k : Kind) → cuts_of k plan n 1 mask + lost k (cuts_with one_zero plan n 1 mask) (cuts_with two_each plan n 1 mask)
        ≡ cuts_by (kind_by former) k plan n 1 mask + gained k (cuts_with one_zero plan n 1 mask) (cuts_with two_each plan n 1 mask)
    move k = cuts-move k plan n 1 mask sized
