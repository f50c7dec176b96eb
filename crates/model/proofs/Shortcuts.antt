-- Each kind's message is SCAN's, where every frozen position is frozen to 0; KnownOnes.antt goes on from there. Assumes nothing.
use mathlib.Core.Path.{◌≡◌, refl, sym, ◌∙◌, ap, ap₂, subst}
use mathlib.Core.Bool.{Bool, true, false}
use mathlib.Core.Option.{some, some-injective}
use mathlib.Core.List.{List, [], ◌∷◌, ◌++◌, append_assoc, append-nil}
use Prim.Native.Nat.{ℕ, zero, suc, ◌+◌, ◌*◌, ◌-◌, ◌^◌, ◌<◌, ◌≤◌}
use native.Mathlib.Nat.{mul-one}
use native.Mathlib.Omega.{arith}
use lib.Dec.{T, leb, leb→le}
use lib.ListN.{get_or, take, drop, replicate, length, length-replicate, length-append, replicate-append-replicate}
use lib.Seq.{take_at, drop_at}
use native.Mathlib.Decide.{dec_le}
use Rattle.model.specs.Lists.{tabulate, same}
use Rattle.model.specs.Soft.{Soft, certain, soft_zero, ◌at◌, box, plus}
use Rattle.model.specs.Encoding.{frozen_to_zero}
use Rattle.model.specs.Scan.{Tree, message, left, right, leaf_value, start, to_left, to_right, to_node, visit}
use Rattle.model.specs.Kinds.{Kind, rate_0, rate_1, REP, SPC, type_I, type_III, type_II, type_IV, order, least_size, but_last, only_first, pattern, fits, first_of, kind_of, others, type_ii, type_iv, shortcut}
use Rattle.model.proofs.Lists.{double, get_d_tabulate, tabulate_ext, tabulate_halves, and_l, and_r, same→eq, le_of_pow}
use Rattle.model.proofs.Algebra.{box-certain, box-zero, box-zero-r, box-comm, plus-zero, plus-zero-r, plus-certain, plus_comm, box-monoid, plus-monoid}
use Rattle.model.proofs.Others.{spread, Local, spread-left, spread-right, spread-base, others_local}

-- ---- halves of the patterns
module _ (t : ℕ) where
  pub replicate_halves : (a : ℕ) → replicate (2 ^ suc t) a ≡ replicate (2 ^ t) a ++ replicate (2 ^ t) a
  replicate_halves a = ap (λ (n : ℕ). replicate n a) (double t) ∙ sym (replicate-append-replicate (2 ^ t) (2 ^ t) a)

  -- the halves of a mask that is two lists joined
  module _ {mask : List ℕ} (a b : List ℕ) (la : length a ≡ 2 ^ t) (e : mask ≡ a ++ b) where
    pub half-l : take (2 ^ t) mask ≡ a
    half-l = ap (take (2 ^ t)) e ∙ take_at a b (2 ^ t) la

    pub half-r : drop (2 ^ t) mask ≡ b
    half-r = ap (drop (2 ^ t)) e ∙ drop_at a b (2 ^ t) la

-- ---- messages that are same at every place
abbrev pub flat : ℕ → Soft → List Soft
flat m x = tabulate m (λ k. x)

flat-at : (m : ℕ) (x : Soft) {l : List Soft} (k : ℕ) → l ≡ flat m x → k < m → l at k ≡ x
flat-at m x k e h = ap (λ l. l at k) e ∙ get_d_tabulate m (λ k. x) k soft_zero h

-- ---- what holds of the messages of SCAN: a leaf's is as at the start, and every message inside a rate-1 node is zero
abbrev pub Sound : ℕ → List ℕ → Tree → Type 0
Sound zero mask T = message T ≡ leaf_value (get_or mask 0 0) ∷ []
Sound (suc t) mask T =
    (mask ≡ replicate (2 ^ suc t) 0 → message T ≡ flat (2 ^ suc t) soft_zero)
    × Sound t (take (2 ^ t) mask) (left T)
    × Sound t (drop (2 ^ t) mask) (right T)

-- before the first sweep every larger node has zeros
start-zeros : (t : ℕ) (mask : List ℕ) → message (start (suc t) mask) ≡ flat (2 ^ suc t) soft_zero
unfolding start
start-zeros t mask = refl

pub sound_start : (t : ℕ) (mask : List ℕ) → Sound t mask (start t mask)
unfolding start
sound_start zero mask = refl
sound_start (suc t) mask = (λ _. start-zeros t mask, sound_start t (take (2 ^ t) mask), sound_start t (drop (2 ^ t) mask))

zero-l : (t : ℕ) {mask : List ℕ} → mask ≡ replicate (2 ^ suc t) 0 → take (2 ^ t) mask ≡ replicate (2 ^ t) 0
zero-l t e = half-l t (replicate (2 ^ t) 0) (replicate (2 ^ t) 0) (length-replicate (2 ^ t) 0) (e ∙ replicate_halves t 0)

zero-r : (t : ℕ) {mask : List ℕ} → mask ≡ replicate (2 ^ suc t) 0 → drop (2 ^ t) mask ≡ replicate (2 ^ t) 0
zero-r t e = half-r t (replicate (2 ^ t) 0) (replicate (2 ^ t) 0) (length-replicate (2 ^ t) 0) (e ∙ replicate_halves t 0)

-- the message of a rate-1 node
pub sound_zero : (t : ℕ) (mask : List ℕ) (T : Tree) → Sound t mask T → mask ≡ replicate (2 ^ t) 0 → message T ≡ flat (2 ^ t) soft_zero
unfolding leaf_value tabulate
sound_zero zero mask T S e = S ∙ rw e
sound_zero (suc t) mask T S e = S.0 e

zeros : (t : ℕ) (L l r : List Soft) → l ≡ flat (2 ^ t) soft_zero → r ≡ flat (2 ^ t) soft_zero → to_node (2 ^ t) L l r ≡ flat (2 ^ suc t) soft_zero
unfolding to_node
zeros t L l r el er =
    tabulate_halves t (λ k. soft_zero) (λ k. box (l at k) (plus (L at (k + 2 ^ t)) (r at k))) (λ k. plus (r at k) (box (L at k) (l at k)))
    (λ k h. ap (λ x. box x (plus (L at (k + 2 ^ t)) (r at k))) (flat-at (2 ^ t) soft_zero k el h) ∙ box-zero (plus (L at (k + 2 ^ t)) (r at k)))
    (λ k h. ap₂ (λ x y. plus x (box (L at k) y)) (flat-at (2 ^ t) soft_zero k er h) (flat-at (2 ^ t) soft_zero k el h) ∙ plus-zero (box (L at k) soft_zero) ∙ box-zero-r (L at k))

pub sound_visit : (t : ℕ) (mask : List ℕ) (T : Tree) (L : List Soft) → Sound t mask T → Sound t mask (visit t T L)
unfolding visit
sound_visit zero mask T L S = S
sound_visit (suc t) mask T L S =
    let l : Tree = visit t (left T) (to_left (2 ^ t) L (message (right T))) in
    let r : Tree = visit t (right T) (to_right (2 ^ t) L (message l)) in
    let Sl : Sound t (take (2 ^ t) mask) l = sound_visit t (take (2 ^ t) mask) (left T) (to_left (2 ^ t) L (message (right T))) S.1 in
    let Sr : Sound t (drop (2 ^ t) mask) r = sound_visit t (drop (2 ^ t) mask) (right T) (to_right (2 ^ t) L (message l)) S.2 in
    (λ e. zeros t L (message l) (message r) (sound_zero t (take (2 ^ t) mask) l Sl (zero-l t e)) (sound_zero t (drop (2 ^ t) mask) r Sr (zero-r t e)), Sl, Sr)

pub ones : (t : ℕ) (L l r : List Soft) → l ≡ flat (2 ^ t) certain → r ≡ flat (2 ^ t) certain → to_node (2 ^ t) L l r ≡ flat (2 ^ suc t) certain
unfolding to_node box plus
ones t L l r el er =
    tabulate_halves t (λ k. certain) (λ k. box (l at k) (plus (L at (k + 2 ^ t)) (r at k))) (λ k. plus (r at k) (box (L at k) (l at k)))
    (λ k h. ap₂ (λ x y. box x (plus (L at (k + 2 ^ t)) y)) (flat-at (2 ^ t) certain k el h) (flat-at (2 ^ t) certain k er h) ∙ plus-certain (L at (k + 2 ^ t)))
    (λ k h. ap (λ x. plus x (box (L at k) (l at k))) (flat-at (2 ^ t) certain k er h))

-- ---- rate-0
pub certain-visit : (t : ℕ) (mask : List ℕ) (T : Tree) (L : List Soft) → Sound t mask T → mask ≡ replicate (2 ^ t) 1 → message (visit t T L) ≡ flat (2 ^ t) certain
unfolding visit leaf_value tabulate
certain-visit zero mask T L S e = S ∙ rw e
certain-visit (suc t) mask T L S e =
    let l : Tree = visit t (left T) (to_left (2 ^ t) L (message (right T))) in
    let r : Tree = visit t (right T) (to_right (2 ^ t) L (message l)) in
    ones t L (message l) (message r)
    (certain-visit t (take (2 ^ t) mask) (left T) (to_left (2 ^ t) L (message (right T))) S.1 (half-l t (replicate (2 ^ t) 1) (replicate (2 ^ t) 1) (length-replicate (2 ^ t) 1) (e ∙ replicate_halves t 1)))
    (certain-visit t (drop (2 ^ t) mask) (right T) (to_right (2 ^ t) L (message l)) S.2 (half-r t (replicate (2 ^ t) 1) (replicate (2 ^ t) 1) (length-replicate (2 ^ t) 1) (e ∙ replicate_halves t 1)))

-- ---- patterns that grow: a base node of stage a, and stages above it
pub data Above (a : ℕ) : ℕ → Type 0 where
  here : Above a a
  up : (t : ℕ) → Above a t → Above a (suc t)

above-le : (a t : ℕ) → Above a t → 2 ^ a ≤ 2 ^ t
above-le a t here = omega arith
above-le a t (up t' c) = let h : 2 ^ a ≤ 2 ^ t' = above-le a t' c in omega arith

above-mul : (a t : ℕ) → Above a t → (q : ℕ) × (2 ^ t ≡ 2 ^ a * q)
above-mul a t here = (1, sym (mul-one (2 ^ a)))
above-mul a t (up t' c) = let m : (q : ℕ) × (2 ^ t' ≡ 2 ^ a * q) = above-mul a t' c in (m.0 + m.0, two (2 ^ a) m.0 t' m.1)
  where
    two : (s q t : ℕ) → 2 ^ t ≡ s * q → 2 ^ suc t ≡ s * (q + q)
    two s q t e = omega arith

-- frozen places, then the base's mask; the base's mask, then unfrozen places
abbrev pub tailed : List ℕ → ℕ → List ℕ
tailed last m = replicate (m - length last) 1 ++ last

abbrev pub headed : List ℕ → ℕ → List ℕ
headed first m = first ++ replicate (m - length first) 0

module _ (b : List ℕ) (a : ℕ) (lb : length b ≡ 2 ^ a) where
  tailed-base : tailed b (2 ^ a) ≡ b
  tailed-base = ap (λ (n : ℕ). replicate n 1 ++ b) z
    where
      z : 2 ^ a - length b ≡ 0
      z = omega arith

  headed-base : headed b (2 ^ a) ≡ b
  headed-base = ap (λ (n : ℕ). b ++ replicate n 0) z ∙ append-nil b
    where
      z : 2 ^ a - length b ≡ 0
      z = omega arith

  module _ (t : ℕ) (h : 2 ^ a ≤ 2 ^ t) where
    tailed_halves : tailed b (2 ^ suc t) ≡ replicate (2 ^ t) 1 ++ tailed b (2 ^ t)
    tailed_halves =
        ap (λ (n : ℕ). replicate n 1 ++ b) e ∙ ap (λ xs. xs ++ b) (sym (replicate-append-replicate (2 ^ t) (2 ^ t - length b) 1))
        ∙ append_assoc (replicate (2 ^ t) 1) (replicate (2 ^ t - length b) 1) b
      where
        e : 2 ^ suc t - length b ≡ 2 ^ t + (2 ^ t - length b)
        e = omega arith

    headed_halves : headed b (2 ^ suc t) ≡ headed b (2 ^ t) ++ replicate (2 ^ t) 0
    headed_halves =
        ap (λ (n : ℕ). b ++ replicate n 0) e ∙ ap (λ xs. b ++ xs) (sym (replicate-append-replicate (2 ^ t - length b) (2 ^ t) 0))
        ∙ sym (append_assoc b (replicate (2 ^ t - length b) 0) (replicate (2 ^ t) 0))
      where
        e : 2 ^ suc t - length b ≡ (2 ^ t - length b) + 2 ^ t
        e = omega arith

    length-headed : length (headed b (2 ^ t)) ≡ 2 ^ t
    length-headed = length-append b (replicate (2 ^ t - length b) 0) ∙ rw (length-replicate {A = ℕ} (2 ^ t - length b) 0) (omega arith)

-- the base's message, whatever is stored
abbrev pub Makes : ℕ → List ℕ → (List Soft → ℕ → Soft) → Type 0
Makes a b base = (mask : List ℕ) (T : Tree) (L : List Soft) → Sound a mask T → mask ≡ b → message (visit a T L) ≡ tabulate (2 ^ a) (base L)

module _ (s t q : ℕ) (hq : 2 ^ t ≡ s * q) (base : List Soft → ℕ → Soft) (L l r : List Soft) where
  -- the left child is all certain, the right one of the same pattern
  rep_node : l ≡ flat (2 ^ t) certain → r ≡ tabulate (2 ^ t) (spread plus soft_zero s base (2 ^ t) (to_right (2 ^ t) L l))
      → to_node (2 ^ t) L l r ≡ tabulate (2 ^ suc t) (spread plus soft_zero s base (2 ^ suc t) L)
  unfolding to_node
  rep_node el er =
      tabulate_halves t (spread plus soft_zero s base (2 ^ suc t) L)
      (λ k. box (l at k) (plus (L at (k + 2 ^ t)) (r at k))) (λ k. plus (r at k) (box (L at k) (l at k)))
      (λ k h. ap₂ (λ x y. box x (plus (L at (k + 2 ^ t)) y)) (flat-at (2 ^ t) certain k el h) (at-r k h)
      ∙ box-comm certain (plus (L at (k + 2 ^ t)) (spread plus soft_zero s base (2 ^ t) P k))
      ∙ box-certain (plus (L at (k + 2 ^ t)) (spread plus soft_zero s base (2 ^ t) P k))
      ∙ spread-left plus soft_zero plus-monoid s (2 ^ t) q hq L P pairs base k h
      ∙ ap (λ (n : ℕ). spread plus soft_zero s base n L k) (sym (double t)))
      (λ k h. ap₂ (λ x y. plus y (box (L at k) x)) (flat-at (2 ^ t) certain k el h) (at-r k h)
      ∙ ap (plus (spread plus soft_zero s base (2 ^ t) P k)) (box-certain (L at k))
      ∙ plus_comm (spread plus soft_zero s base (2 ^ t) P k) (L at k)
      ∙ spread-right plus soft_zero plus-monoid s (2 ^ t) q hq L P pairs base k h
      ∙ ap (λ (n : ℕ). spread plus soft_zero s base n L (k + 2 ^ t)) (sym (double t)))
    where
      P : List Soft
      P = to_right (2 ^ t) L l

      at-r : (k : ℕ) → k < 2 ^ t → r at k ≡ spread plus soft_zero s base (2 ^ t) P k
      at-r k h = ap (λ x. x at k) er ∙ get_d_tabulate (2 ^ t) (spread plus soft_zero s base (2 ^ t) P) k soft_zero h

      pairs : (j : ℕ) → j < 2 ^ t → P at j ≡ plus (L at j) (L at (j + 2 ^ t))
      pairs j h = unfold to_right in get_d_tabulate (2 ^ t) (λ k. plus (box (L at k) (l at k)) (L at (k + 2 ^ t))) j soft_zero h
          ∙ ap (λ x. plus (box (L at j) x) (L at (j + 2 ^ t))) (flat-at (2 ^ t) certain j el h)
          ∙ ap (λ x. plus x (L at (j + 2 ^ t))) (box-certain (L at j))

  -- the right child is all zero, before the visit (r₀) and after it, the left one of the same pattern
  spc_node : (r₀ : List Soft) → r₀ ≡ flat (2 ^ t) soft_zero → r ≡ flat (2 ^ t) soft_zero
      → l ≡ tabulate (2 ^ t) (spread box certain s base (2 ^ t) (to_left (2 ^ t) L r₀))
      → to_node (2 ^ t) L l r ≡ tabulate (2 ^ suc t) (spread box certain s base (2 ^ suc t) L)
  unfolding to_node
  spc_node r₀ e₀ er el =
      tabulate_halves t (spread box certain s base (2 ^ suc t) L)
      (λ k. box (l at k) (plus (L at (k + 2 ^ t)) (r at k))) (λ k. plus (r at k) (box (L at k) (l at k)))
      (λ k h. ap₂ (λ x y. box x (plus (L at (k + 2 ^ t)) y)) (at-l k h) (flat-at (2 ^ t) soft_zero k er h)
      ∙ ap (box (spread box certain s base (2 ^ t) P k)) (plus-zero-r (L at (k + 2 ^ t)))
      ∙ box-comm (spread box certain s base (2 ^ t) P k) (L at (k + 2 ^ t))
      ∙ spread-left box certain box-monoid s (2 ^ t) q hq L P pairs base k h
      ∙ ap (λ (n : ℕ). spread box certain s base n L k) (sym (double t)))
      (λ k h. ap₂ (λ x y. plus y (box (L at k) x)) (at-l k h) (flat-at (2 ^ t) soft_zero k er h)
      ∙ plus-zero (box (L at k) (spread box certain s base (2 ^ t) P k))
      ∙ spread-right box certain box-monoid s (2 ^ t) q hq L P pairs base k h
      ∙ ap (λ (n : ℕ). spread box certain s base n L (k + 2 ^ t)) (sym (double t)))
    where
      P : List Soft
      P = to_left (2 ^ t) L r₀

      at-l : (k : ℕ) → k < 2 ^ t → l at k ≡ spread box certain s base (2 ^ t) P k
      at-l k h = ap (λ x. x at k) el ∙ get_d_tabulate (2 ^ t) (spread box certain s base (2 ^ t) P) k soft_zero h

      pairs : (j : ℕ) → j < 2 ^ t → P at j ≡ box (L at j) (L at (j + 2 ^ t))
      pairs j h = unfold to_left in get_d_tabulate (2 ^ t) (λ k. box (L at k) (plus (L at (k + 2 ^ t)) (r₀ at k))) j soft_zero h
          ∙ ap (λ x. box (L at j) (plus (L at (j + 2 ^ t)) x)) (flat-at (2 ^ t) soft_zero j e₀ h)
          ∙ ap (box (L at j)) (plus-zero-r (L at (j + 2 ^ t)))

module _ (a : ℕ) (b : List ℕ) (lb : length b ≡ 2 ^ a) (base : List Soft → ℕ → Soft) (loc : Local (2 ^ a) base) (mk : Makes a b base) where
  -- frozen places before a base: sums over the classes
  pub rep_visit : (t : ℕ) → Above a t → (mask : List ℕ) (T : Tree) (L : List Soft) → Sound t mask T → mask ≡ tailed b (2 ^ t)
      → message (visit t T L) ≡ tabulate (2 ^ t) (spread plus soft_zero (2 ^ a) base (2 ^ t) L)
  unfolding visit
  rep_visit t here mask T L S e =
      mk mask T L S (e ∙ tailed-base b a lb)
      ∙ tabulate_ext (2 ^ a) (base L) (spread plus soft_zero (2 ^ a) base (2 ^ a) L) (λ k h. sym (spread-base plus soft_zero plus-monoid (2 ^ a) base loc L k h))
  rep_visit t (up t' c) mask T L S e =
      let h : 2 ^ a ≤ 2 ^ t' = above-le a t' c in
      let e' : mask ≡ replicate (2 ^ t') 1 ++ tailed b (2 ^ t') = e ∙ tailed_halves b a lb t' h in
      let l : Tree = visit t' (left T) (to_left (2 ^ t') L (message (right T))) in
      let r : Tree = visit t' (right T) (to_right (2 ^ t') L (message l)) in
      rep_node (2 ^ a) t' (above-mul a t' c).0 (above-mul a t' c).1 base L (message l) (message r)
      (certain-visit t' (take (2 ^ t') mask) (left T) (to_left (2 ^ t') L (message (right T))) S.1 (half-l t' (replicate (2 ^ t') 1) (tailed b (2 ^ t')) (length-replicate (2 ^ t') 1) e'))
      (rep_visit t' c (drop (2 ^ t') mask) (right T) (to_right (2 ^ t') L (message l)) S.2 (half-r t' (replicate (2 ^ t') 1) (tailed b (2 ^ t')) (length-replicate (2 ^ t') 1) e'))

  -- unfrozen places after a base: boxes over the classes
  pub spc_visit : (t : ℕ) → Above a t → (mask : List ℕ) (T : Tree) (L : List Soft) → Sound t mask T → mask ≡ headed b (2 ^ t)
      → message (visit t T L) ≡ tabulate (2 ^ t) (spread box certain (2 ^ a) base (2 ^ t) L)
  unfolding visit
  spc_visit t here mask T L S e =
      mk mask T L S (e ∙ headed-base b a lb)
      ∙ tabulate_ext (2 ^ a) (base L) (spread box certain (2 ^ a) base (2 ^ a) L) (λ k h. sym (spread-base box certain box-monoid (2 ^ a) base loc L k h))
  spc_visit t (up t' c) mask T L S e =
      let h : 2 ^ a ≤ 2 ^ t' = above-le a t' c in
      let e' : mask ≡ headed b (2 ^ t') ++ replicate (2 ^ t') 0 = e ∙ headed_halves b a lb t' h in
      let l : Tree = visit t' (left T) (to_left (2 ^ t') L (message (right T))) in
      let r : Tree = visit t' (right T) (to_right (2 ^ t') L (message l)) in
      let er : drop (2 ^ t') mask ≡ replicate (2 ^ t') 0 = half-r t' (headed b (2 ^ t')) (replicate (2 ^ t') 0) (length-headed b a lb t' h) e' in
      spc_node (2 ^ a) t' (above-mul a t' c).0 (above-mul a t' c).1 base L (message l) (message r) (message (right T))
      (sound_zero t' (drop (2 ^ t') mask) (right T) S.2 er)
      (sound_zero t' (drop (2 ^ t') mask) r (sound_visit t' (drop (2 ^ t') mask) (right T) (to_right (2 ^ t') L (message l)) S.2) er)
      (spc_visit t' c (take (2 ^ t') mask) (left T) (to_left (2 ^ t') L (message (right T))) S.1 (half-l t' (headed b (2 ^ t')) (replicate (2 ^ t') 0) (length-headed b a lb t' h) e'))

-- ---- the table
-- a node of a least size lies at or above the stage of that size
pub above : (a t : ℕ) → a ≤ t → Above a t
above a zero h = let e : 0 ≡ a = omega arith in subst (λ (x : ℕ). Above x 0) e here
above a (suc t) h = go (dec_le a t) (above a t)
  where
    go : Dec (a ≤ t) → (a ≤ t → Above a t) → Above a (suc t)
    go (yes l) ih = up t (ih l)
    go (no n) ih = let e : suc t ≡ a = omega arith in subst (λ (x : ℕ). Above x (suc t)) e here

-- the bases: rate-1 of size s, and rate-0 of size s
rate1_makes : (a : ℕ) → Makes a (replicate (2 ^ a) 0) (λ L k. soft_zero)
rate1_makes a mask T L S e = sound_zero a mask (visit a T L) (sound_visit a mask T L S) e

rate0_makes : (a : ℕ) → Makes a (replicate (2 ^ a) 1) (λ L k. certain)
rate0_makes a mask T L S e = certain-visit a mask T L S e

rep_kind : (a t : ℕ) (mask : List ℕ) (T : Tree) (L : List Soft) → Sound t mask T → 2 ^ a ≤ 2 ^ t → mask ≡ but_last (2 ^ a) (2 ^ t)
    → message (visit t T L) ≡ tabulate (2 ^ t) (others plus soft_zero (2 ^ a) (2 ^ t) L)
rep_kind a t mask T L S h e =
    rep_visit a (replicate (2 ^ a) 0) (length-replicate (2 ^ a) 0) (λ L k. soft_zero) (λ L L' g k. refl) (rate1_makes a) t (above a t (le_of_pow a t h)) mask T L S
    (e ∙ ap (λ (n : ℕ). replicate (2 ^ t - n) 1 ++ replicate (2 ^ a) 0) (sym (length-replicate {A = ℕ} (2 ^ a) 0)))
    ∙ tabulate_ext (2 ^ t) (spread plus soft_zero (2 ^ a) (λ L k. soft_zero) (2 ^ t) L) (others plus soft_zero (2 ^ a) (2 ^ t) L) (λ k _. plus-zero-r (others plus soft_zero (2 ^ a) (2 ^ t) L k))

spc_kind : (a t : ℕ) (mask : List ℕ) (T : Tree) (L : List Soft) → Sound t mask T → 2 ^ a ≤ 2 ^ t → mask ≡ only_first (2 ^ a) (2 ^ t)
    → message (visit t T L) ≡ tabulate (2 ^ t) (others box certain (2 ^ a) (2 ^ t) L)
spc_kind a t mask T L S h e =
    spc_visit a (replicate (2 ^ a) 1) (length-replicate (2 ^ a) 1) (λ L k. certain) (λ L L' g k. refl) (rate0_makes a) t (above a t (le_of_pow a t h)) mask T L S
    (e ∙ ap (λ (n : ℕ). replicate (2 ^ a) 1 ++ replicate (2 ^ t - n) 0) (sym (length-replicate {A = ℕ} (2 ^ a) 1)))
    ∙ tabulate_ext (2 ^ t) (spread box certain (2 ^ a) (λ L k. certain) (2 ^ t) L) (others box certain (2 ^ a) (2 ^ t) L) (λ k _. box-certain (others box certain (2 ^ a) (2 ^ t) L k))

-- type II grows from SPC of size 4, type IV from REP of size 4
type_II-kind : (t : ℕ) (mask : List ℕ) (T : Tree) (L : List Soft) → Sound t mask T → 8 ≤ 2 ^ t → mask ≡ but_last 3 (2 ^ t)
    → message (visit t T L) ≡ tabulate (2 ^ t) (type_ii (2 ^ t) L)
type_II-kind t mask T L S h e =
    rep_visit 2 (1 ∷ 0 ∷ 0 ∷ 0 ∷ []) refl (others box certain 1 4) (others_local box certain box-monoid 1 4)
    (λ mask T L S e. spc_kind 0 2 mask T L S (omega arith) e)
    t (above 2 t (le_of_pow 2 t (omega arith))) mask T L S
    (e ∙ ap (λ (n : ℕ). replicate n 1 ++ 0 ∷ 0 ∷ 0 ∷ []) one_more ∙ ap (λ (l : List ℕ). l ++ 0 ∷ 0 ∷ 0 ∷ []) (sym (replicate-append-replicate (2 ^ t - 4) 1 1))
    ∙ append_assoc (replicate (2 ^ t - 4) 1) (1 ∷ []) (0 ∷ 0 ∷ 0 ∷ []))
  where
    one_more : 2 ^ t - 3 ≡ (2 ^ t - 4) + 1
    one_more = omega arith

type_IV-kind : (t : ℕ) (mask : List ℕ) (T : Tree) (L : List Soft) → Sound t mask T → 8 ≤ 2 ^ t → mask ≡ only_first 3 (2 ^ t)
    → message (visit t T L) ≡ tabulate (2 ^ t) (type_iv (2 ^ t) L)
type_IV-kind t mask T L S h e =
    spc_visit 2 (1 ∷ 1 ∷ 1 ∷ 0 ∷ []) refl (others plus soft_zero 1 4) (others_local plus soft_zero plus-monoid 1 4)
    (λ mask T L S e. rep_kind 0 2 mask T L S (omega arith) e)
    t (above 2 t (le_of_pow 2 t (omega arith))) mask T L S
    (e ∙ ap (λ (n : ℕ). 1 ∷ 1 ∷ 1 ∷ replicate n 0) one_more)
  where
    one_more : 2 ^ t - 3 ≡ suc (2 ^ t - 4)
    one_more = omega arith

-- Each kind's message does not depend on what is stored, and is what SCAN walked to the leaves gives the node.
pub shortcut-visit : (k : Kind) (t : ℕ) (mask : List ℕ) (T : Tree) (L : List Soft) → Sound t mask T → least_size k ≤ 2 ^ t → mask ≡ pattern k (2 ^ t)
    → message (visit t T L) ≡ shortcut k (2 ^ t) L
unfolding shortcut
shortcut-visit rate_0 t mask T L S h e = certain-visit t mask T L S e
shortcut-visit rate_1 t mask T L S h e = sound_zero t mask (visit t T L) (sound_visit t mask T L S) e
shortcut-visit REP t mask T L S h e = rep_kind 0 t mask T L S (omega arith) e
shortcut-visit SPC t mask T L S h e = spc_kind 0 t mask T L S (omega arith) e
shortcut-visit type_I t mask T L S h e = rep_kind 1 t mask T L S (omega arith) e
shortcut-visit type_III t mask T L S h e = spc_kind 1 t mask T L S (omega arith) e
shortcut-visit type_II t mask T L S h e = type_II-kind t mask T L S h e
shortcut-visit type_IV t mask T L S h e = type_IV-kind t mask T L S h e

pub fits_facts : (m : ℕ) (mask : List ℕ) (k : Kind) → T (fits m mask k) → (least_size k ≤ m) × (frozen_to_zero mask ≡ pattern k m)
fits_facts m mask k t =
    let plain : List ℕ = frozen_to_zero mask in
    (leb→le (least_size k) m (and_l (leb (least_size k) m) (same plain (pattern k m)) t), same→eq plain (pattern k m) (and_r (leb (least_size k) m) (same plain (pattern k m)) t))

pub first_of-fits : (f : Kind → Bool) (ks : List Kind) (k : Kind) → first_of f ks ≡ some k → T (f k)
unfolding first_of
first_of-fits f [] k e = absurd (never (cc))
  where
    never : ◌≡◌ {A = ℕ} 0 1 → ⊥
    never e = omega arith
first_of-fits f (x ∷ ks) k e = go (f x) refl (first_of-fits f ks k)
  where
    go : (b : Bool) → f x ≡ b → (first_of f ks ≡ some k → T (f k)) → T (f k)
    go true p rec = let q : some x ≡ some k = (rw p at e) in subst (λ (y : Kind). T (f y)) (some-injective x k q) (subst T (sym p) tt)
    go false p rec = rec (rw p at e)

-- a node of a kind has at least its least size, and its frozen positions are those of its pattern
pub kind_facts : (m : ℕ) (mask : List ℕ) (k : Kind) → kind_of m mask ≡ some k → (least_size k ≤ m) × (frozen_to_zero mask ≡ pattern k m)
unfolding kind_of
kind_facts m mask k e = fits_facts m mask k (first_of-fits (fits m mask) order k e)
