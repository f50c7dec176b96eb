-- What the recursion writes into a zeroed plan is the planner's plan. Assumes nothing.
use Prim.Native.Nat.{ℕ, zero, suc, ◌+◌, ◌*◌, ◌^◌, ◌<◌, ◌≤◌, zero-le}
use native.Mathlib.Omega.{arith}
use native.Mathlib.Nat.{mul-le-mul_left, mul-le-mul_right, one-mul}
use native.Mathlib.Decide.{dec_le}
use mathlib.Core.Path.{◌≡◌, refl, sym, ap, ◌∙◌}
use mathlib.Core.Bool.{Bool, true, false, cond}
use mathlib.Core.List.{List, [], ◌∷◌, ◌++◌}
use lib.ListN.{length, take, drop, get_or, set, replicate, length-set, length-replicate}
use lib.Pow.{pow_pos, pow_mono}
use lib.Seq.{get_or-set_same, get_or-set_other, set-append_left, drop-cons, take-add, take_all}
use Rattle.model.specs.Lists.{tabulate, bit}
use Rattle.model.specs.Kinds.{kind_of, is_some}
use Rattle.model.specs.Plans.{cut_at, levels, planner_plan, planner_by, levels_by, cut_at_by}
use Rattle.model.proofs.Lists.{double, halves}
use Rattle.model.proofs.Planner.{idx_root, idx_l, idx_r, cut_at-some, cut_at-l, cut_at-r}
use Rattle.plans.specs.Nodes.{Place}
use Rattle.planner.specs.Writing.{written}
use Rattle.plans.proofs.Parts.{inside, root}

-- the two subtrees of a node share no place
apart : (p d i e j : ℕ) → 1 ≤ p → i < 2 ^ d → j < 2 ^ e → (2 * p) * 2 ^ d + i ≡ (2 * p + 1) * 2 ^ e + j → ⊥
apart p d i e j h l m q = go (dec_le d e)
  where
    go : Dec (d ≤ e) → ⊥
    go (yes k) =
        let x : 2 ^ d ≤ 2 ^ e = pow_mono k in
        omega (arith, mul-le-mul_left (2 * p + 1) x)
    go (no k) =
        let x : 2 ^ suc e ≤ 2 ^ d = pow_mono (omega arith) in
        let y : 2 * 2 ^ e ≤ 2 ^ d = omega arith in
        omega (arith, mul-le-mul_left (2 * p) y, mul-le-mul_right (2 ^ e) h)

-- a node lies above its subtrees
above : (p d i : ℕ) → 1 ≤ p → p ≡ p * 2 ^ suc d + i → ⊥
above p d i h q = omega (arith, mul-le-mul_left p (pow_pos d), rw (double d) at q)

abbrev Outside : ℕ → ℕ → ℕ → Type 0
Outside t p q = (d i : ℕ) → d ≤ t → i < 2 ^ d → q ≡ p * 2 ^ d + i → ⊥

out-here : (t p q : ℕ) → Outside t p q → q ≡ p → ⊥
out-here t p q o e = o 0 0 zero-le (omega arith) (e ∙ sym (idx_root p))

out-l : (t p q : ℕ) → Outside (suc t) p q → Outside t (2 * p) q
out-l t p q o d i h l e = o (suc d) i (omega arith) (omega arith) (e ∙ sym (idx_l p d i))

out-r : (t p q : ℕ) → Outside (suc t) p q → Outside t (2 * p + 1) q
out-r t p q o d i h l e = o (suc d) (i + 2 ^ d) (omega arith) (omega arith) (e ∙ sym (idx_r p d i))

module _ (p q : ℕ) (plan below : List ℕ) where
  either-out : (b : Bool) → (q ≡ p → ⊥) → get_or below q 0 ≡ get_or plan q 0 → get_or (cond b (set plan p 1) below) q 0 ≡ get_or plan q 0
  either-out true n e = get_or-set_other plan p q 1 0 n
  either-out false n e = e

written_out : (t p : ℕ) (mask plan : List ℕ) (q : ℕ) → Outside t p q → get_or (written t p mask plan) q 0 ≡ get_or plan q 0
unfolding written
written_out zero p mask plan q o = either-out p q plan plan (is_some (kind_of 1 mask)) (out-here 0 p q o) refl
written_out (suc t) p mask plan q o =
    either-out p q plan (written t (2 * p + 1) (drop (2 ^ t) mask) (written t (2 * p) (take (2 ^ t) mask) plan)) (is_some (kind_of (2 ^ suc t) mask)) (out-here (suc t) p q o)
    (written_out t (2 * p + 1) (drop (2 ^ t) mask) (written t (2 * p) (take (2 ^ t) mask) plan) q (out-r t p q o) ∙ written_out t (2 * p) (take (2 ^ t) mask) plan q (out-l t p q o))

either-length : (b : Bool) (p : ℕ) (plan below : List ℕ) → length below ≡ length plan → length (cond b (set plan p 1) below) ≡ length plan
either-length true p plan below e = length-set plan p 1
either-length false p plan below e = e

pub written-length : (t p : ℕ) (mask plan : List ℕ) → length (written t p mask plan) ≡ length plan
unfolding written
written-length zero p mask plan = either-length (is_some (kind_of 1 mask)) p plan plan refl
written-length (suc t) p mask plan =
    let half : List ℕ = written t (2 * p) (take (2 ^ t) mask) plan in
    either-length (is_some (kind_of (2 ^ suc t) mask)) p plan (written t (2 * p + 1) (drop (2 ^ t) mask) half)
    (written-length t (2 * p + 1) (drop (2 ^ t) mask) half ∙ written-length t (2 * p) (take (2 ^ t) mask) plan)

-- every place from node p down holds 0
abbrev Zero : ℕ → ℕ → List ℕ → Type 0
Zero t p plan = (d i : ℕ) → d ≤ t → i < 2 ^ d → get_or plan (p * 2 ^ d + i) 0 ≡ 0

zero-l : (t p : ℕ) (plan : List ℕ) → Zero (suc t) p plan → Zero t (2 * p) plan
zero-l t p plan z d i h l = ap (λ (x : ℕ). get_or plan x 0) (sym (idx_l p d i)) ∙ z (suc d) i (omega arith) (omega arith)

zero-r : (t p : ℕ) (plan : List ℕ) → Zero (suc t) p plan → Zero t (2 * p + 1) plan
zero-r t p plan z d i h l = ap (λ (x : ℕ). get_or plan x 0) (sym (idx_r p d i)) ∙ z (suc d) (i + 2 ^ d) (omega arith) (omega arith)

-- ---- what `cut_at` says of a node's places
cut_at-here : (t i : ℕ) (mask : List ℕ) → cut_at t 0 i mask ≡ is_some (kind_of (2 ^ t) mask)
unfolding cut_at_by
cut_at-here zero i mask = refl
cut_at-here (suc t) i mask = refl

-- ---- what `written` is, by the node's kind
written-some : (t p : ℕ) (mask plan : List ℕ) → is_some (kind_of (2 ^ t) mask) ≡ true → written t p mask plan ≡ set plan p 1
unfolding written
written-some zero p mask plan e = rw e
written-some (suc t) p mask plan e = rw e

written-leaf : (p : ℕ) (mask plan : List ℕ) → is_some (kind_of (2 ^ 0) mask) ≡ false → written 0 p mask plan ≡ plan
unfolding written
written-leaf p mask plan e = rw e

written_none : (t p : ℕ) (mask plan : List ℕ) → is_some (kind_of (2 ^ suc t) mask) ≡ false
    → written (suc t) p mask plan ≡ written t (2 * p + 1) (drop (2 ^ t) mask) (written t (2 * p) (take (2 ^ t) mask) plan)
unfolding written
written_none t p mask plan e = rw e

abbrev In : ℕ → ℕ → List ℕ → List ℕ → Type 0
In t p mask plan = (d i : ℕ) → d ≤ t → i < 2 ^ d → get_or (written t p mask plan) (p * 2 ^ d + i) 0 ≡ bit (cut_at t d i mask)

-- the node's own byte is 1, and those below stay 0
in_some : (t p : ℕ) (mask plan : List ℕ) → 1 ≤ p → p < length plan → Zero t p plan → is_some (kind_of (2 ^ t) mask) ≡ true → In t p mask plan
in_some t p mask plan h k z e zero i m l =
    let q : p * 2 ^ 0 + i ≡ p = omega arith in
    rw (q, written-some t p mask plan e, cut_at-here t i mask, e) (get_or-set_same plan p 1 0 k)
in_some zero p mask plan h k z e (suc d) i m l = absurd (omega arith)
in_some (suc t) p mask plan h k z e (suc d) i m l =
    rw (written-some (suc t) p mask plan e, cut_at-some t d i mask e)
    (get_or-set_other plan p (p * 2 ^ suc d + i) 1 0 (λ q. above p d i h (sym q)) ∙ z (suc d) i m l)

in_leaf : (p : ℕ) (mask plan : List ℕ) → Zero 0 p plan → is_some (kind_of (2 ^ 0) mask) ≡ false → In 0 p mask plan
in_leaf p mask plan z e zero i m l = rw (written-leaf p mask plan e, cut_at-here 0 i mask, e) (z 0 i m l)
in_leaf p mask plan z e (suc d) i m l = absurd (omega arith)

module _ (t p : ℕ) (mask plan : List ℕ) (h : 1 ≤ p) (z : Zero (suc t) p plan) where
  out_of_r : (d i : ℕ) → i < 2 ^ d → Outside t (2 * p + 1) ((2 * p) * 2 ^ d + i)
  out_of_r d i l e j k m q = apart p d i e j h l m q

  out_of_l : (d i : ℕ) → i < 2 ^ d → Outside t (2 * p) ((2 * p + 1) * 2 ^ d + i)
  out_of_l d i l e j k m q = apart p e j d i h m l (sym q)

  zero-lower : Zero t (2 * p + 1) (written t (2 * p) (take (2 ^ t) mask) plan)
  zero-lower d i m l = written_out t (2 * p) (take (2 ^ t) mask) plan ((2 * p + 1) * 2 ^ d + i) (out_of_l d i l) ∙ zero-r t p plan z d i m l

  in_none : is_some (kind_of (2 ^ suc t) mask) ≡ false → In t (2 * p) (take (2 ^ t) mask) plan
      → In t (2 * p + 1) (drop (2 ^ t) mask) (written t (2 * p) (take (2 ^ t) mask) plan) → In (suc t) p mask plan
  in_none e L R zero i m l =
      let q : p * 2 ^ 0 + i ≡ p = omega arith in
      rw (written_none t p mask plan e, cut_at-here (suc t) i mask, e)
      (written_out t (2 * p + 1) (drop (2 ^ t) mask) (written t (2 * p) (take (2 ^ t) mask) plan) (p * 2 ^ 0 + i) (λ d j k n r. above p d (j + 2 ^ d) h (sym q ∙ r ∙ sym (idx_r p d j)))
      ∙ written_out t (2 * p) (take (2 ^ t) mask) plan (p * 2 ^ 0 + i) (λ d j k n r. above p d j h (sym q ∙ r ∙ sym (idx_l p d j)))
      ∙ z 0 i m l)
  in_none e L R (suc d) i m l =
      halves d (λ i. get_or (written (suc t) p mask plan) (p * 2 ^ suc d + i) 0 ≡ bit (cut_at (suc t) (suc d) i mask))
      (λ i n. rw (written_none t p mask plan e, cut_at-l t d i mask e n, idx_l p d i)
      (written_out t (2 * p + 1) (drop (2 ^ t) mask) (written t (2 * p) (take (2 ^ t) mask) plan) ((2 * p) * 2 ^ d + i) (out_of_r d i n) ∙ L d i (omega arith) n))
      (λ i n. rw (written_none t p mask plan e, cut_at-r t d i mask e, idx_r p d i) (R d i (omega arith) n)) i l

in_zero : (p : ℕ) (mask plan : List ℕ) → 1 ≤ p → p < length plan → Zero 0 p plan → (b : Bool) → is_some (kind_of (2 ^ 0) mask) ≡ b → In 0 p mask plan
in_zero p mask plan h k z true e = in_some 0 p mask plan h k z e
in_zero p mask plan h k z false e = in_leaf p mask plan z e

in_suc : (t p : ℕ) (mask plan : List ℕ) → 1 ≤ p → p < length plan → Zero (suc t) p plan
    → In t (2 * p) (take (2 ^ t) mask) plan → In t (2 * p + 1) (drop (2 ^ t) mask) (written t (2 * p) (take (2 ^ t) mask) plan)
    → (b : Bool) → is_some (kind_of (2 ^ suc t) mask) ≡ b → In (suc t) p mask plan
in_suc t p mask plan h k z L R true e = in_some (suc t) p mask plan h k z e
in_suc t p mask plan h k z L R false e = in_none t p mask plan h z e L R

written_in : (t p : ℕ) (mask plan : List ℕ) → 1 ≤ p → Place t p (length plan) → Zero t p plan → In t p mask plan
written_in zero p mask plan h k z = in_zero p mask plan h (inside k) z (is_some (kind_of (2 ^ 0) mask)) refl
written_in (suc t) p mask plan h k z =
    let half : List ℕ = written t (2 * p) (take (2 ^ t) mask) plan in
    let k₁ : Place t (2 * p) (length plan) = record { room = omega (arith, rw (double t) at k.room) } in
    let k₂ : Place t (2 * p + 1) (length half) = rw (written-length t (2 * p) (take (2 ^ t) mask) plan) (record { room = omega (arith, rw (double t) at k.room) }) in
    in_suc t p mask plan h (inside k) z
    (written_in t (2 * p) (take (2 ^ t) mask) plan (omega arith) k₁ (zero-l t p plan z))
    (written_in t (2 * p + 1) (drop (2 ^ t) mask) half (omega arith) k₂ (zero-lower t p mask plan h z))
    (is_some (kind_of (2 ^ suc t) mask))
    refl

-- ---- a list with those bytes is the planner's
pub take_tabulate : (k a : ℕ) (l : List ℕ) (f : ℕ → ℕ) → a + k ≤ length l → ((i : ℕ) → i < k → get_or l (a + i) 0 ≡ f i) → take k (drop a l) ≡ tabulate k f
unfolding tabulate
take_tabulate zero a l f h g = refl
take_tabulate (suc k) a l f h g =
    let n : suc a + k ≤ length l = omega arith in
    let j : a < length l = omega arith in
    rw (drop-cons l a 0 j, take_tabulate k (suc a) l (λ i. f (suc i)) n (λ i m. (let q : suc a + i ≡ a + suc i = omega arith in rw q (g (suc i) (omega arith)))))
    (ap (λ (x : ℕ). x ∷ tabulate k (λ i. f (suc i))) (first (g 0 (omega arith))))
  where
    first : get_or l (a + 0) 0 ≡ f 0 → get_or l a 0 ≡ f 0
    first e = let q : a + 0 ≡ a = omega arith in rw q at e

first_two : (l : List ℕ) (b : ℕ) → 2 ≤ length l → get_or l 0 0 ≡ 0 → get_or l 1 0 ≡ b → take 2 l ≡ 0 ∷ b ∷ []
first_two [] b h z e = absurd (omega arith)
first_two (x ∷ []) b h z e = absurd (omega arith)
first_two (x ∷ y ∷ r) b h z e = cc

take-levels : (n : ℕ) (mask : List ℕ) (m : ℕ) (l : List ℕ) → 2 ^ suc m ≤ length l → get_or l 0 0 ≡ 0
    → ((d i : ℕ) → d ≤ m → i < 2 ^ d → get_or l (2 ^ d + i) 0 ≡ bit (cut_at n d i mask)) → take (2 ^ suc m) l ≡ levels n mask m
unfolding levels_by
take-levels n mask zero l h z g =
    first_two l (bit (cut_at n 0 0 mask)) h z (g 0 0 zero-le (omega arith))
take-levels n mask (suc m) l h z g =
    let q : 2 ^ suc (suc m) ≡ 2 ^ suc m + 2 ^ suc m = omega arith in
    rw (q, take-add (2 ^ suc m) (2 ^ suc m) l, take-levels n mask m l (omega arith) z (λ d i k. g d i (omega arith)))
    (ap (λ (r : List ℕ). levels n mask m ++ r) (take_tabulate (2 ^ suc m) (2 ^ suc m) l (λ i. bit (cut_at n (suc m) i mask)) (omega arith) (λ i k. g (suc m) i (omega arith) k)))

pub zeros-at : (n i : ℕ) → ◌≡◌ {A = ℕ} (get_or (replicate n 0) i 0) 0
zeros-at zero i = refl
zeros-at (suc n) zero = refl
zeros-at (suc n) (suc i) = zeros-at n i

-- ---- the tail stays
either_append : (b : Bool) (p : ℕ) (a below tail : List ℕ) → p < length a → (below' : List ℕ) → below' ≡ below ++ tail
    → cond b (set (a ++ tail) p 1) below' ≡ cond b (set a p 1) below ++ tail
either_append true p a below tail h below' e = set-append_left a tail p 1 h
either_append false p a below tail h below' e = e

written_append : (t p : ℕ) (mask a tail : List ℕ) → Place t p (length a) → written t p mask (a ++ tail) ≡ written t p mask a ++ tail
unfolding written
written_append zero p mask a tail h = either_append (is_some (kind_of 1 mask)) p a a tail (inside h) (a ++ tail) refl
written_append (suc t) p mask a tail h =
    let half : List ℕ = written t (2 * p) (take (2 ^ t) mask) a in
    let k₁ : Place t (2 * p) (length a) = record { room = omega (arith, rw (double t) at h.room) } in
    let k₂ : Place t (2 * p + 1) (length half) = rw (written-length t (2 * p) (take (2 ^ t) mask) a) (record { room = omega (arith, rw (double t) at h.room) }) in
    either_append (is_some (kind_of (2 ^ suc t) mask)) p a (written t (2 * p + 1) (drop (2 ^ t) mask) half) tail (inside h)
    (written t (2 * p + 1) (drop (2 ^ t) mask) (written t (2 * p) (take (2 ^ t) mask) (a ++ tail)))
    (ap (written t (2 * p + 1) (drop (2 ^ t) mask)) (written_append t (2 * p) (take (2 ^ t) mask) a tail k₁) ∙ written_append t (2 * p + 1) (drop (2 ^ t) mask) half tail k₂)

written-plan : (n : ℕ) (mask : List ℕ) → written n 1 mask (replicate (2 * 2 ^ n) 0) ≡ planner_plan n mask
unfolding planner_by
written-plan n mask =
    let clear : List ℕ = replicate (2 * 2 ^ n) 0 in
    let full : List ℕ = written n 1 mask clear in
    let size : length full ≡ 2 ^ suc n = written-length n 1 mask clear ∙ length-replicate (2 * 2 ^ n) 0 ∙ omega arith in
    let low : get_or full 0 0 ≡ 0 = written_out n 1 mask clear 0 (λ d i h l e. omega (arith, pow_pos d)) ∙ zeros-at (2 * 2 ^ n) 0 in
    sym (take_all (2 ^ suc n) full (omega arith))
    ∙ take-levels n mask n full (omega arith) low
    (λ d i h l. ap (λ (x : ℕ). get_or full (x + i) 0) (sym (one-mul (2 ^ d))) ∙ written_in n 1 mask clear (omega arith) (root n (omega (arith, length-replicate {A = ℕ} (2 * 2 ^ n) 0))) (λ d i h l. zeros-at (2 * 2 ^ n) (1 * 2 ^ d + i)) d i h l)

pub planned : (n : ℕ) (mask tail : List ℕ) → written n 1 mask (replicate (2 * 2 ^ n) 0 ++ tail) ≡ planner_plan n mask ++ tail
planned n mask tail =
    written_append n 1 mask (replicate (2 * 2 ^ n) 0) tail (root n (omega (arith, length-replicate {A = ℕ} (2 * 2 ^ n) 0))) ∙ ap (λ (x : List ℕ). x ++ tail) (written-plan n mask)
