-- The planner's plan is allowed, its count is least, and every other allowed plan has more cuts. Assumes nothing.
use mathlib.Core.Path.{◌≡◌, refl, sym, ◌∙◌, ap, ap₂, subst}
use mathlib.Core.Logic.{◌⊎◌, inl, inr}
use mathlib.Core.Bool.{Bool, true, false, not, ◌&&◌}
use mathlib.Core.List.{List, [], ◌∷◌, ◌++◌}
use Prim.Native.Nat.{ℕ, zero, suc, ◌+◌, ◌*◌, ◌-◌, ◌^◌, ◌<◌, ◌≤◌, zero-le}
use native.Mathlib.Nat.{one-mul}
use native.Mathlib.Decide.{dec_le}
use native.Mathlib.Omega.{arith}
use borrow.Author.Tests.{lt-ltb, le-ltb}
use lib.Dec.{T, eqb}
use lib.ListN.{get_or, take, drop, length, length-append, length-drop, get_or-append}
use lib.Seq.{get_or-append-add, length-take-le, ext_get_or}
use lib.Pow.{pow_pos, pow_mono}
use Rattle.model.specs.Lists.{tabulate, bit, same, at_most}
use Rattle.model.specs.Kinds.{is_some, first_of, kind_of}
use Rattle.model.specs.Encoding.{max_mask, Mask, frozen_to_zero}
use Rattle.model.specs.Plans.{is_cut, no_cut, well_cut, Allowed, cycles, cuts_below, cut_at, levels, planner_plan, planner_by, levels_by, cut_at_by}
use Rattle.model.proofs.Paths.{well_cut-cut, well-l, well-r, no_cut-below, allow, allowed-length, allowed-bytes, allowed-first}
use Rattle.model.proofs.Cycles.{cost, cycles-cut, cycles-through, cost-leaf, cost-cut, cost-through, walk_on}
use Rattle.model.proofs.Lists.{double, length_tabulate, get_d_tabulate, halves, only, T_true, true-T, absurd_bool, and_l, and_r, and_T, at-most-at, at-most-take, at-most-drop, at-most_append, at-most_tabulate, not-bit, bit-small, eqb_apart}

-- ---- places of the heap: d levels below node p, place i
pub idx_root : (p : ℕ) → p * 2 ^ 0 + 0 ≡ p
idx_root p = omega arith

pub idx_l : (p d i : ℕ) → p * 2 ^ suc d + i ≡ (2 * p) * 2 ^ d + i
idx_l p d i = rw (double d) (omega arith)

pub idx_r : (p d i : ℕ) → p * 2 ^ suc d + (i + 2 ^ d) ≡ (2 * p + 1) * 2 ^ d + i
idx_r p d i = rw (double d) (omega arith)

-- ---- the bytes of a plan, from a node down, are the planner's
abbrev Bytes : List ℕ → ℕ → ℕ → List ℕ → Type 0
Bytes plan t p mask = (d i : ℕ) → d ≤ t → i < 2 ^ d → is_cut plan (p * 2 ^ d + i) ≡ cut_at t d i mask

abbrev Clear : List ℕ → ℕ → ℕ → Type 0
Clear plan t p = (d i : ℕ) → d ≤ t → i < 2 ^ d → is_cut plan (p * 2 ^ d + i) ≡ false

-- a fact of every place below a node is one of every place below its children
module _ (plan : List ℕ) (f : ℕ → ℕ → Bool) (t p : ℕ) (B : (d i : ℕ) → d ≤ suc t → i < 2 ^ d → is_cut plan (p * 2 ^ d + i) ≡ f d i) where
  pub below-l : (d i : ℕ) → d ≤ t → i < 2 ^ d → is_cut plan ((2 * p) * 2 ^ d + i) ≡ f (suc d) i
  below-l d i h l = ap (is_cut plan) (sym (idx_l p d i)) ∙ B (suc d) i (omega arith) (omega arith)

  pub below-r : (d i : ℕ) → d ≤ t → i < 2 ^ d → is_cut plan ((2 * p + 1) * 2 ^ d + i) ≡ f (suc d) (i + 2 ^ d)
  below-r d i h l = ap (is_cut plan) (sym (idx_r p d i)) ∙ B (suc d) (i + 2 ^ d) (omega arith) (omega arith)

not_T : (b : Bool) → b ≡ false → T (not b)
not_T b e = subst (λ (x : Bool). T (not x)) (sym e) tt

clear_no_cut : (plan : List ℕ) (t p : ℕ) → Clear plan t p → T (no_cut plan t p)
unfolding no_cut
clear_no_cut plan zero p C = not_T (is_cut plan p) (ap (is_cut plan) (sym (idx_root p)) ∙ C 0 0 zero-le (omega arith))
clear_no_cut plan (suc t) p C =
    and_T (not (is_cut plan p)) (no_cut plan t (2 * p) && no_cut plan t (2 * p + 1))
    (not_T (is_cut plan p) (ap (is_cut plan) (sym (idx_root p)) ∙ C 0 0 zero-le (omega arith)))
    (and_T (no_cut plan t (2 * p)) (no_cut plan t (2 * p + 1))
    (clear_no_cut plan t (2 * p) (below-l plan (λ d i. false) t p C))
    (clear_no_cut plan t (2 * p + 1) (below-r plan (λ d i. false) t p C)))

pub cut_at-some : (t d i : ℕ) (mask : List ℕ) → is_some (kind_of (2 ^ suc t) mask) ≡ true → cut_at (suc t) (suc d) i mask ≡ false
unfolding cut_at_by
cut_at-some t d i mask e = rw e

pub cut_at-l : (t d i : ℕ) (mask : List ℕ) → is_some (kind_of (2 ^ suc t) mask) ≡ false → i < 2 ^ d → cut_at (suc t) (suc d) i mask ≡ cut_at t d i (take (2 ^ t) mask)
unfolding cut_at_by
cut_at-l t d i mask e l = rw (e, lt-ltb i (2 ^ d) l)

pub cut_at-r : (t d i : ℕ) (mask : List ℕ) → is_some (kind_of (2 ^ suc t) mask) ≡ false → cut_at (suc t) (suc d) (i + 2 ^ d) mask ≡ cut_at t d i (drop (2 ^ t) mask)
unfolding cut_at_by
cut_at-r t d i mask e = rw (e, le-ltb (i + 2 ^ d) (2 ^ d) (omega arith)) (ap (λ (n : ℕ). cut_at t d n (drop (2 ^ t) mask)) s)
  where
    s : i + 2 ^ d - 2 ^ d ≡ i
    s = omega arith

-- ---- the planner's choice, from a node down
abbrev pub Chosen : List ℕ → ℕ → ℕ → List ℕ → Type 0
Chosen plan zero p mask = is_cut plan p ≡ is_some (kind_of 1 mask)
Chosen plan (suc t) p mask =
    (is_some (kind_of (2 ^ suc t) mask) ≡ true → (is_cut plan p ≡ true) × T (no_cut plan t (2 * p) && no_cut plan t (2 * p + 1)))
    × (is_some (kind_of (2 ^ suc t) mask) ≡ false → (is_cut plan p ≡ false) × Chosen plan t (2 * p) (take (2 ^ t) mask) × Chosen plan t (2 * p + 1) (drop (2 ^ t) mask))

bytes_chosen : (plan : List ℕ) (t p : ℕ) (mask : List ℕ) → Bytes plan t p mask → Chosen plan t p mask
unfolding cut_at_by
bytes_chosen plan zero p mask B = ap (is_cut plan) (sym (idx_root p)) ∙ B 0 0 zero-le (omega arith)
bytes_chosen plan (suc t) p mask B = (
  λ e. (
    ap (is_cut plan) (sym (idx_root p)) ∙ B 0 0 zero-le (omega arith) ∙ e,
    and_T (no_cut plan t (2 * p)) (no_cut plan t (2 * p + 1))
        (clear_no_cut plan t (2 * p) (λ d i h l. below-l plan (λ d i. cut_at (suc t) d i mask) t p B d i h l ∙ cut_at-some t d i mask e))
        (clear_no_cut plan t (2 * p + 1) (λ d i h l. below-r plan (λ d i. cut_at (suc t) d i mask) t p B d i h l ∙ cut_at-some t d (i + 2 ^ d) mask e)),
  ),
  λ e. (
    ap (is_cut plan) (sym (idx_root p)) ∙ B 0 0 zero-le (omega arith) ∙ e,
    bytes_chosen plan t (2 * p) (take (2 ^ t) mask) (λ d i h l. below-l plan (λ d i. cut_at (suc t) d i mask) t p B d i h l ∙ cut_at-l t d i mask e l),
    bytes_chosen plan t (2 * p + 1) (drop (2 ^ t) mask) (λ d i h l. below-r plan (λ d i. cut_at (suc t) d i mask) t p B d i h l ∙ cut_at-r t d i mask e),
  ),
)

-- ---- the planner's list
length-levels : (n : ℕ) (mask : List ℕ) (m : ℕ) → length (levels n mask m) ≡ 2 ^ suc m
unfolding levels_by
length-levels n mask zero = refl
length-levels n mask (suc m) =
    length-append (levels n mask m) (tabulate (2 ^ suc m) (λ i. bit (cut_at n (suc m) i mask)))
    ∙ rw (length-levels n mask m, length_tabulate (2 ^ suc m) (λ i. bit (cut_at n (suc m) i mask))) (sym (double (suc m)))

levels-last : (n : ℕ) (mask : List ℕ) (m i : ℕ) → i < 2 ^ suc m → get_or (levels n mask (suc m)) (2 ^ suc m + i) 0 ≡ bit (cut_at n (suc m) i mask)
unfolding levels_by
levels-last n mask m i l =
    let row : List ℕ = tabulate (2 ^ suc m) (λ i. bit (cut_at n (suc m) i mask)) in
    ap (λ (x : ℕ). get_or (levels n mask m ++ row) (x + i) 0) (sym (length-levels n mask m))
    ∙ get_or-append-add (levels n mask m) row i 0
    ∙ get_d_tabulate (2 ^ suc m) (λ i. bit (cut_at n (suc m) i mask)) i 0 l

levels-before : (n : ℕ) (mask : List ℕ) (m d i : ℕ) → d ≤ m → i < 2 ^ d → get_or (levels n mask (suc m)) (2 ^ d + i) 0 ≡ get_or (levels n mask m) (2 ^ d + i) 0
unfolding levels_by
levels-before n mask m d i h l =
    get_or-append (levels n mask m) (tabulate (2 ^ suc m) (λ i. bit (cut_at n (suc m) i mask))) 0 (2 ^ d + i)
    (rw (length-levels n mask m) (let q : 2 ^ d ≤ 2 ^ m = pow_mono h in omega arith))

levels-at : (n : ℕ) (mask : List ℕ) (m d i : ℕ) → d ≤ m → i < 2 ^ d → get_or (levels n mask m) (2 ^ d + i) 0 ≡ bit (cut_at n d i mask)
levels-at n mask zero zero i h l = unfold levels_by in only (λ i. get_or (0 ∷ bit (cut_at n 0 0 mask) ∷ []) (2 ^ 0 + i) 0 ≡ bit (cut_at n 0 i mask)) refl i l
levels-at n mask zero (suc d) i h l = let z : ⊥ = omega arith in absurd z
levels-at n mask (suc m) d i h l = go (dec_le d m) (levels-at n mask m d i)
  where
    go : Dec (d ≤ m) → (d ≤ m → i < 2 ^ d → get_or (levels n mask m) (2 ^ d + i) 0 ≡ bit (cut_at n d i mask))
        → get_or (levels n mask (suc m)) (2 ^ d + i) 0 ≡ bit (cut_at n d i mask)
    go (yes k) ih = levels-before n mask m d i k l ∙ ih k l
    go (no k) ih =
        let e : suc m ≡ d = omega arith in
        (subst (λ (x : ℕ). i < 2 ^ x → get_or (levels n mask (suc m)) (2 ^ x + i) 0 ≡ bit (cut_at n x i mask)) e (levels-last n mask m i)) l

eqb-bit : (b : Bool) → eqb (bit b) 1 ≡ b
eqb-bit true = refl
eqb-bit false = refl

planner_bytes : (n : ℕ) (mask : List ℕ) → Bytes (planner_plan n mask) n 1 mask
unfolding planner_by
planner_bytes n mask d i h l =
    ap (λ (x : ℕ). eqb (get_or (levels n mask n) (x + i) 0) 1) (one-mul (2 ^ d))
    ∙ ap (λ (x : ℕ). eqb x 1) (levels-at n mask n d i h l) ∙ eqb-bit (cut_at n d i mask)

pub planner_chosen : (n : ℕ) (mask : List ℕ) → Chosen (planner_plan n mask) n 1 mask
planner_chosen n mask = bytes_chosen (planner_plan n mask) n 1 mask (planner_bytes n mask)

-- ---- each leaf of a mask is of a kind
pub mask-l : (t : ℕ) (mask : List ℕ) → Mask (suc t) mask → Mask t (take (2 ^ t) mask)
mask-l t mask M = record { sized = length-take-le (2 ^ t) mask (omega (arith, M.sized)); bytes = at-most-take max_mask (2 ^ t) mask M.bytes }

pub mask-r : (t : ℕ) (mask : List ℕ) → Mask (suc t) mask → Mask t (drop (2 ^ t) mask)
mask-r t mask M = record { sized = length-drop (2 ^ t) mask ∙ omega (arith, M.sized); bytes = at-most-drop max_mask (2 ^ t) mask M.bytes }

-- a leaf is a rate-0 or a rate-1 node
pub leaf-some : (mask : List ℕ) → length mask ≡ 1 → is_some (kind_of 1 mask) ≡ true
leaf-some [] e = let z : ⊥ = omega arith in absurd z
leaf-some (zero ∷ []) e = unfold kind_of first_of same frozen_to_zero in refl
leaf-some (suc x ∷ []) e = unfold kind_of first_of same frozen_to_zero in rw (eqb_apart (suc x) 0 (λ z. omega arith))
leaf-some (x ∷ y ∷ l) e = let z : ⊥ = omega arith in absurd z

pub leaf-kind : (mask : List ℕ) → Mask zero mask → is_some (kind_of 1 mask) ≡ true
leaf-kind mask M = leaf-some mask M.sized

chosen_well_cut : (plan : List ℕ) (t p : ℕ) (mask : List ℕ) → Mask t mask → Chosen plan t p mask → T (well_cut plan t p mask)
unfolding well_cut
chosen_well_cut plan zero p mask M C =
    and_T (is_cut plan p) (is_some (kind_of 1 mask)) (true-T (is_cut plan p) (C ∙ leaf-kind mask M)) (true-T (is_some (kind_of 1 mask)) (leaf-kind mask M))
chosen_well_cut plan (suc t) p mask M C =
    go (is_some (kind_of (2 ^ suc t) mask)) refl
    (chosen_well_cut plan t (2 * p) (take (2 ^ t) mask) (mask-l t mask M)) (chosen_well_cut plan t (2 * p + 1) (drop (2 ^ t) mask) (mask-r t mask M))
  where
    go : (b : Bool) → is_some (kind_of (2 ^ suc t) mask) ≡ b
        → (Chosen plan t (2 * p) (take (2 ^ t) mask) → T (well_cut plan t (2 * p) (take (2 ^ t) mask)))
        → (Chosen plan t (2 * p + 1) (drop (2 ^ t) mask) → T (well_cut plan t (2 * p + 1) (drop (2 ^ t) mask)))
        → T (well_cut plan (suc t) p mask)
    go true e il ir = rw ((C.0 e).0, e) (C.0 e).1
    go false e il ir =
        rw (C.1 e).0 (and_T (well_cut plan t (2 * p) (take (2 ^ t) mask)) (well_cut plan t (2 * p + 1) (drop (2 ^ t) mask)) (il (C.1 e).1) (ir (C.1 e).2))

levels-bytes : (n : ℕ) (mask : List ℕ) (m : ℕ) → T (at_most 1 (levels n mask m))
unfolding levels_by at_most
levels-bytes n mask zero = two (cut_at n 0 0 mask)
  where
    two : (b : Bool) → T (at_most 1 (0 ∷ bit b ∷ []))
    two true = tt
    two false = tt
levels-bytes n mask (suc m) =
    let row : List ℕ = tabulate (2 ^ suc m) (λ i. bit (cut_at n (suc m) i mask)) in
    rw (at-most_append 1 (levels n mask m) row)
    (and_T (at_most 1 (levels n mask m)) (at_most 1 row) (levels-bytes n mask m)
    (at-most_tabulate 1 (2 ^ suc m) (λ i. bit (cut_at n (suc m) i mask)) (λ i. bit-small (cut_at n (suc m) i mask))))

levels-first : (n : ℕ) (mask : List ℕ) (m : ℕ) → get_or (levels n mask m) 0 0 ≡ 0
unfolding levels_by
levels-first n mask zero = refl
levels-first n mask (suc m) =
    get_or-append (levels n mask m) (tabulate (2 ^ suc m) (λ i. bit (cut_at n (suc m) i mask))) 0 0
    (rw (length-levels n mask m) (pow_pos (suc m)))
    ∙ levels-first n mask m

pub planner_length : (n : ℕ) (mask : List ℕ) → length (planner_plan n mask) ≡ 2 * 2 ^ n
unfolding planner_by
planner_length n mask = length-levels n mask n ∙ omega arith

-- the planner's plan is allowed
pub planner_allowed : (n : ℕ) (mask : List ℕ) → Mask n mask → Allowed n (planner_plan n mask) mask
planner_allowed n mask M =
    allow n (planner_plan n mask) mask (planner_length n mask) (unfold planner_by in levels-bytes n mask n)
    (unfold planner_by in levels-first n mask n) (chosen_well_cut (planner_plan n mask) n 1 mask M (planner_chosen n mask))

-- ---- least: P is the planner's choice, Q any allowed plan
module _ (P Q : List ℕ) where
  -- Q cuts no node of no kind
  no_kind : (t p : ℕ) (mask : List ℕ) → is_some (kind_of (2 ^ suc t) mask) ≡ false → T (well_cut Q (suc t) p mask) → is_cut Q p ≡ false
  no_kind t p mask e w = go (is_cut Q p) refl
    where
      go : (b : Bool) → is_cut Q p ≡ b → is_cut Q p ≡ false
      go true q = absurd (absurd_bool (is_some (kind_of (2 ^ suc t) mask)) (T_true (is_some (kind_of (2 ^ suc t) mask)) (well_cut-cut Q (suc t) p mask q w)) e)
      go false q = q

  pub cost-least : (t p : ℕ) (mask : List ℕ) → T (well_cut P t p mask) → Chosen P t p mask → T (well_cut Q t p mask) → cost P t p mask ≤ cost Q t p mask
  cost-least zero p mask wP C wQ = rw (cost-leaf P p mask wP) zero-le
  cost-least (suc t) p mask wP C wQ =
      go (is_some (kind_of (2 ^ suc t) mask)) refl (is_cut Q p) refl (cost-least t (2 * p) (take (2 ^ t) mask)) (cost-least t (2 * p + 1) (drop (2 ^ t) mask))
    where
      go : (b : Bool) → is_some (kind_of (2 ^ suc t) mask) ≡ b → (c : Bool) → is_cut Q p ≡ c
          → (T (well_cut P t (2 * p) (take (2 ^ t) mask)) → Chosen P t (2 * p) (take (2 ^ t) mask) → T (well_cut Q t (2 * p) (take (2 ^ t) mask)) → cost P t (2 * p) (take (2 ^ t) mask) ≤ cost Q t (2 * p) (take (2 ^ t) mask))
          → (T (well_cut P t (2 * p + 1) (drop (2 ^ t) mask)) → Chosen P t (2 * p + 1) (drop (2 ^ t) mask) → T (well_cut Q t (2 * p + 1) (drop (2 ^ t) mask)) → cost P t (2 * p + 1) (drop (2 ^ t) mask) ≤ cost Q t (2 * p + 1) (drop (2 ^ t) mask))
          → cost P (suc t) p mask ≤ cost Q (suc t) p mask
      go true e true q il ir = omega (arith, cost-cut P t p mask (C.0 e).0, cost-cut Q t p mask q)
      go true e false q il ir = omega (arith, cost-cut P t p mask (C.0 e).0, walk_on Q t p mask wQ q (true-T (is_some (kind_of (2 ^ suc t) mask)) e))
      go false e c q il ir =
          let eP : is_cut P p ≡ false = (C.1 e).0 in
          let eQ : is_cut Q p ≡ false = no_kind t p mask e wQ in
          let l : cost P t (2 * p) (take (2 ^ t) mask) ≤ cost Q t (2 * p) (take (2 ^ t) mask) = il (well-l P t p mask eP wP) (C.1 e).1 (well-l Q t p mask eQ wQ) in
          let r : cost P t (2 * p + 1) (drop (2 ^ t) mask) ≤ cost Q t (2 * p + 1) (drop (2 ^ t) mask) = ir (well-r P t p mask eP wP) (C.1 e).2 (well-r Q t p mask eQ wQ) in
          omega (arith, cost-through P t p mask eP, cost-through Q t p mask eQ)

  pub cycles-least : (t p : ℕ) (mask : List ℕ) → T (well_cut P (suc t) p mask) → Chosen P (suc t) p mask → T (well_cut Q (suc t) p mask) → cycles P (suc t) p mask ≤ cycles Q (suc t) p mask
  cycles-least t p mask wP C wQ = go (is_some (kind_of (2 ^ suc t) mask)) refl (is_cut Q p) refl
    where
      go : (b : Bool) → is_some (kind_of (2 ^ suc t) mask) ≡ b → (c : Bool) → is_cut Q p ≡ c → cycles P (suc t) p mask ≤ cycles Q (suc t) p mask
      go true e true q = omega (arith, cycles-cut P (suc t) p mask (C.0 e).0, cycles-cut Q (suc t) p mask q)
      go true e false q = omega (arith, cycles-cut P (suc t) p mask (C.0 e).0, walk_on Q t p mask wQ q (true-T (is_some (kind_of (2 ^ suc t) mask)) e))
      go false e c q =
          let eP : is_cut P p ≡ false = (C.1 e).0 in
          let eQ : is_cut Q p ≡ false = no_kind t p mask e wQ in
          let l : cost P t (2 * p) (take (2 ^ t) mask) ≤ cost Q t (2 * p) (take (2 ^ t) mask) = cost-least t (2 * p) (take (2 ^ t) mask) (well-l P t p mask eP wP) (C.1 e).1 (well-l Q t p mask eQ wQ) in
          let r : cost P t (2 * p + 1) (drop (2 ^ t) mask) ≤ cost Q t (2 * p + 1) (drop (2 ^ t) mask) = cost-least t (2 * p + 1) (drop (2 ^ t) mask) (well-r P t p mask eP wP) (C.1 e).2 (well-r Q t p mask eQ wQ) in
          omega (arith, cycles-through P t p mask eP, cycles-through Q t p mask eQ)

-- ---- numbers of cuts
cuts-none : (plan : List ℕ) (t p : ℕ) → T (no_cut plan t p) → cuts_below plan t p ≡ 0
unfolding no_cut cuts_below
cuts-none plan zero p c = not-bit (is_cut plan p) c
cuts-none plan (suc t) p c =
    let below : T (no_cut plan t (2 * p) && no_cut plan t (2 * p + 1)) = and_r (not (is_cut plan p)) (no_cut plan t (2 * p) && no_cut plan t (2 * p + 1)) c in
    omega (
      arith,
      not-bit (is_cut plan p) (and_l (not (is_cut plan p)) (no_cut plan t (2 * p) && no_cut plan t (2 * p + 1)) c),
      cuts-none plan t (2 * p) (and_l (no_cut plan t (2 * p)) (no_cut plan t (2 * p + 1)) below),
      cuts-none plan t (2 * p + 1) (and_r (no_cut plan t (2 * p)) (no_cut plan t (2 * p + 1)) below),
    )

cuts-cut : (plan : List ℕ) (t p : ℕ) → is_cut plan p ≡ true → T (no_cut plan t (2 * p) && no_cut plan t (2 * p + 1)) → cuts_below plan (suc t) p ≡ 1
unfolding cuts_below
cuts-cut plan t p e c =
    rw (e, cuts-none plan t (2 * p) (and_l (no_cut plan t (2 * p)) (no_cut plan t (2 * p + 1)) c), cuts-none plan t (2 * p + 1) (and_r (no_cut plan t (2 * p)) (no_cut plan t (2 * p + 1)) c))

cuts-through : (plan : List ℕ) (t p : ℕ) → is_cut plan p ≡ false → cuts_below plan (suc t) p ≡ cuts_below plan t (2 * p) + cuts_below plan t (2 * p + 1)
unfolding cuts_below
cuts-through plan t p e = rw e (omega arith)

cuts-one : (plan : List ℕ) (t p : ℕ) (mask : List ℕ) → T (well_cut plan t p mask) → 1 ≤ cuts_below plan t p
cuts-one plan zero p mask w = unfold cuts_below well_cut in rw (T_true (is_cut plan p) (and_l (is_cut plan p) (is_some (kind_of 1 mask)) w)) (omega arith)
cuts-one plan (suc t) p mask w = go (is_cut plan p) refl (cuts-one plan t (2 * p) (take (2 ^ t) mask))
  where
    go : (b : Bool) → is_cut plan p ≡ b → (T (well_cut plan t (2 * p) (take (2 ^ t) mask)) → 1 ≤ cuts_below plan t (2 * p)) → 1 ≤ cuts_below plan (suc t) p
    go true e il = omega (arith, cuts-cut plan t p e (no_cut-below plan t p mask e w))
    go false e il = omega (arith, cuts-through plan t p e, il (well-l plan t p mask e w))

-- two plans cut the same nodes, from node p down
abbrev pub Same : List ℕ → List ℕ → ℕ → ℕ → Type 0
Same P Q zero p = is_cut P p ≡ is_cut Q p
Same P Q (suc t) p = (is_cut P p ≡ is_cut Q p) × Same P Q t (2 * p) × Same P Q t (2 * p + 1)

not-T-false : (b : Bool) → T (not b) → b ≡ false
not-T-false true t = absurd t
not-T-false false t = refl

same_none : (P Q : List ℕ) (t p : ℕ) → T (no_cut P t p) → T (no_cut Q t p) → Same P Q t p
unfolding no_cut
same_none P Q zero p a b = not-T-false (is_cut P p) a ∙ sym (not-T-false (is_cut Q p) b)
same_none P Q (suc t) p a b =
    let aa : T (no_cut P t (2 * p) && no_cut P t (2 * p + 1)) = and_r (not (is_cut P p)) (no_cut P t (2 * p) && no_cut P t (2 * p + 1)) a in
    let bb : T (no_cut Q t (2 * p) && no_cut Q t (2 * p + 1)) = and_r (not (is_cut Q p)) (no_cut Q t (2 * p) && no_cut Q t (2 * p + 1)) b in (
      not-T-false (is_cut P p) (and_l (not (is_cut P p)) (no_cut P t (2 * p) && no_cut P t (2 * p + 1)) a)
          ∙ sym (not-T-false (is_cut Q p) (and_l (not (is_cut Q p)) (no_cut Q t (2 * p) && no_cut Q t (2 * p + 1)) b)),
      same_none P Q t (2 * p) (and_l (no_cut P t (2 * p)) (no_cut P t (2 * p + 1)) aa) (and_l (no_cut Q t (2 * p)) (no_cut Q t (2 * p + 1)) bb),
      same_none P Q t (2 * p + 1) (and_r (no_cut P t (2 * p)) (no_cut P t (2 * p + 1)) aa) (and_r (no_cut Q t (2 * p)) (no_cut Q t (2 * p + 1)) bb),
    )

same-cuts : (P Q : List ℕ) (t p : ℕ) → Same P Q t p → cuts_below P t p ≡ cuts_below Q t p
unfolding cuts_below
same-cuts P Q zero p s = ap bit s
same-cuts P Q (suc t) p s = ap₂ (λ (a b : ℕ). a + b) (ap bit s.0) (ap₂ (λ (a b : ℕ). a + b) (same-cuts P Q t (2 * p) s.1) (same-cuts P Q t (2 * p + 1) s.2))

abbrev SameOrMore : List ℕ → List ℕ → ℕ → ℕ → Type 0
SameOrMore P Q t q = Same P Q t q ⊎ cuts_below P t q < cuts_below Q t q

module _ (P Q : List ℕ) where
  pub same_or_more : (t p : ℕ) (mask : List ℕ) → T (well_cut P t p mask) → Chosen P t p mask → T (well_cut Q t p mask)
      → Same P Q t p ⊎ cuts_below P t p < cuts_below Q t p
  unfolding well_cut
  same_or_more zero p mask wP C wQ =
      inl (T_true (is_cut P p) (and_l (is_cut P p) (is_some (kind_of 1 mask)) wP) ∙ sym (T_true (is_cut Q p) (and_l (is_cut Q p) (is_some (kind_of 1 mask)) wQ)))
  same_or_more (suc t) p mask wP C wQ =
      go (is_some (kind_of (2 ^ suc t) mask)) refl (is_cut Q p) refl (same_or_more t (2 * p) (take (2 ^ t) mask)) (same_or_more t (2 * p + 1) (drop (2 ^ t) mask))
    where
      both : is_cut P p ≡ false → is_cut Q p ≡ false → SameOrMore P Q t (2 * p) → SameOrMore P Q t (2 * p + 1) → Same P Q (suc t) p ⊎ cuts_below P (suc t) p < cuts_below Q (suc t) p
      both eP eQ (inl a) (inl b) = inl (eP ∙ sym eQ, a, b)
      both eP eQ (inl a) (inr b) = inr (omega (arith, cuts-through P t p eP, cuts-through Q t p eQ, same-cuts P Q t (2 * p) a))
      both eP eQ (inr a) (inl b) = inr (omega (arith, cuts-through P t p eP, cuts-through Q t p eQ, same-cuts P Q t (2 * p + 1) b))
      both eP eQ (inr a) (inr b) = inr (omega (arith, cuts-through P t p eP, cuts-through Q t p eQ))

      go : (b : Bool) → is_some (kind_of (2 ^ suc t) mask) ≡ b → (c : Bool) → is_cut Q p ≡ c
          → (T (well_cut P t (2 * p) (take (2 ^ t) mask)) → Chosen P t (2 * p) (take (2 ^ t) mask) → T (well_cut Q t (2 * p) (take (2 ^ t) mask)) → SameOrMore P Q t (2 * p))
          → (T (well_cut P t (2 * p + 1) (drop (2 ^ t) mask)) → Chosen P t (2 * p + 1) (drop (2 ^ t) mask) → T (well_cut Q t (2 * p + 1) (drop (2 ^ t) mask)) → SameOrMore P Q t (2 * p + 1))
          → Same P Q (suc t) p ⊎ cuts_below P (suc t) p < cuts_below Q (suc t) p
      go true e true q il ir =
          let nP : T (no_cut P t (2 * p) && no_cut P t (2 * p + 1)) = (C.0 e).1 in
          let nQ : T (no_cut Q t (2 * p) && no_cut Q t (2 * p + 1)) = no_cut-below Q t p mask q wQ in
          inl (
            (C.0 e).0 ∙ sym q,
            same_none P Q t (2 * p) (and_l (no_cut P t (2 * p)) (no_cut P t (2 * p + 1)) nP) (and_l (no_cut Q t (2 * p)) (no_cut Q t (2 * p + 1)) nQ),
            same_none P Q t (2 * p + 1) (and_r (no_cut P t (2 * p)) (no_cut P t (2 * p + 1)) nP) (and_r (no_cut Q t (2 * p)) (no_cut Q t (2 * p + 1)) nQ),
          )
      go true e false q il ir =
          inr (omega (arith, cuts-cut P t p (C.0 e).0 (C.0 e).1, cuts-through Q t p q, cuts-one Q t (2 * p) (take (2 ^ t) mask) (well-l Q t p mask q wQ), cuts-one Q t (2 * p + 1) (drop (2 ^ t) mask) (well-r Q t p mask q wQ)))
      go false e c q il ir =
          let eP : is_cut P p ≡ false = (C.1 e).0 in
          let eQ : is_cut Q p ≡ false = no_kind P Q t p mask e wQ in
          both eP eQ (il (well-l P t p mask eP wP) (C.1 e).1 (well-l Q t p mask eQ wQ)) (ir (well-r P t p mask eP wP) (C.1 e).2 (well-r Q t p mask eQ wQ))

-- ---- plans that cut the same nodes are the same list
same_at : (P Q : List ℕ) (t p : ℕ) → Same P Q t p → (d i : ℕ) → d ≤ t → i < 2 ^ d → is_cut P (p * 2 ^ d + i) ≡ is_cut Q (p * 2 ^ d + i)
same_at P Q t p s zero i h l =
    only (λ i. is_cut P (p * 2 ^ 0 + i) ≡ is_cut Q (p * 2 ^ 0 + i)) (rw (idx_root p) (root t s)) i l
  where
    root : (t : ℕ) → Same P Q t p → is_cut P p ≡ is_cut Q p
    root zero s = s
    root (suc t) s = s.0
same_at P Q zero p s (suc d) i h l = let z : ⊥ = omega arith in absurd z
same_at P Q (suc t) p s (suc d) i h l =
    halves d (λ i. is_cut P (p * 2 ^ suc d + i) ≡ is_cut Q (p * 2 ^ suc d + i))
    (λ k m. rw (idx_l p d k) (same_at P Q t (2 * p) s.1 d k (omega arith) m))
    (λ k m. rw (idx_r p d k) (same_at P Q t (2 * p + 1) s.2 d k (omega arith) m)) i l

bit-same : (a b : ℕ) → a ≤ 1 → b ≤ 1 → eqb a 1 ≡ eqb b 1 → a ≡ b
bit-same zero zero h k e = refl
bit-same zero (suc zero) h k e = absurd (absurd_bool (eqb 1 1) refl (sym e))
bit-same zero (suc (suc b)) h k e = let z : ⊥ = omega arith in absurd z
bit-same (suc zero) zero h k e = absurd (absurd_bool (eqb 1 1) refl e)
bit-same (suc zero) (suc zero) h k e = refl
bit-same (suc zero) (suc (suc b)) h k e = let z : ⊥ = omega arith in absurd z
bit-same (suc (suc a)) b h k e = let z : ⊥ = omega arith in absurd z

module _ (n : ℕ) (mask P Q : List ℕ) (AP : Allowed n P mask) (AQ : Allowed n Q mask) (S : Same P Q n 1) where
  node-same : (d i : ℕ) → d ≤ n → i < 2 ^ d → get_or P (i + 2 ^ d) 0 ≡ get_or Q (i + 2 ^ d) 0
  node-same d i h l =
      bit-same (get_or P (i + 2 ^ d) 0) (get_or Q (i + 2 ^ d) 0) (at-most-at 1 P (i + 2 ^ d) (allowed-bytes n P mask AP)) (at-most-at 1 Q (i + 2 ^ d) (allowed-bytes n Q mask AQ))
      (subst (λ (x : ℕ). is_cut P x ≡ is_cut Q x) e (same_at P Q n 1 S d i h l))
    where
      e : 1 * 2 ^ d + i ≡ i + 2 ^ d
      e = omega arith

  upto : (d : ℕ) → d ≤ n → (q : ℕ) → q < 2 ^ suc d → get_or P q 0 ≡ get_or Q q 0
  upto zero h =
      halves 0 (λ q. get_or P q 0 ≡ get_or Q q 0) (only (λ q. get_or P q 0 ≡ get_or Q q 0) (allowed-first n P mask AP ∙ sym (allowed-first n Q mask AQ))) (λ k m. node-same 0 k h m)
  upto (suc d) h = halves (suc d) (λ q. get_or P q 0 ≡ get_or Q q 0) (upto d (omega arith)) (λ k m. node-same (suc d) k h m)

  pub same-list : P ≡ Q
  same-list = ext_get_or 0 P Q (allowed-length n P mask AP ∙ sym (allowed-length n Q mask AQ)) (λ q h. upto n (omega arith) q (omega (arith, allowed-length n P mask AP)))
