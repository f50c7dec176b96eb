-- Incoming values at stage t stay within B doubled with each stage below the root; finite messages within (2 ^ t - 1) times that. Assumes nothing.
use mathlib.Core.Path.{◌≡◌, refl, sym, ◌∙◌, ap, subst}
use mathlib.Core.Bool.{Bool, true, false, cond, ◌&&◌}
use mathlib.Core.List.{List, [], ◌∷◌}
use Prim.Native.Nat.{ℕ, zero, suc, ◌+◌, ◌*◌, ◌-◌, ◌^◌, ◌%◌, ◌<◌, ◌≤◌, min, zero-le, suc-le-suc}
use native.Mathlib.Nat.{le_trans, le_of_eq, min-le_left, le_refl, mul_comm, mul_assoc, mul-one, suc-mul, add_comm, mul-le-mul_left, mul-le-mul_right, mod-eq_of_lt}
use native.Mathlib.Omega.{arith}
use lib.Dec.{T, eqb, ltb, ltb→lt}
use lib.ListN.{get_or, take, drop}
use lib.Seq.{get_or-take, get_or-drop}
use lib.Pow.{suc_ones, pow_mono, pow_pos}
use lib.IntN.{ℤ, pos, negsuc, nat_abs, neg_ℤ, ◌+ℤ◌, sub_ℕ}
use Rattle.model.specs.Lists.{tabulate, total, on_ones}
use Rattle.model.specs.Soft.{Soft, finite, certain, certain_one, Finite, soft_zero, ◌at◌, negate, box, box_ℤ, plus, signed, negative, differ, max_llr}
use Rattle.model.specs.Encoding.{is_known_one, known_word, frozen_to_zero}
use Rattle.model.specs.Bounds.{Small, Under, OnesOnly, cap, SmallAll, UnderAll, Within, Held, limit, AllUnder, ListSums, BoxSums, NodeSums, InRange}
use Rattle.model.specs.Scan.{Tree, message, left, right, leaf_value, start, FiniteAll, to_left, to_right, to_node, visit, sweeps, scan}
use Rattle.model.proofs.Lists.{get_d_tabulate, joined-lo, joined-hi, halves, only, and_l, and_r, absurd_bool, cond_both, eqb_same, total_pull, on_ones-at}
use Rattle.model.specs.Kinds.{is_some, Kind, kind_of, kind_message, classes}
use mathlib.Core.Option.{some}
use Rattle.model.proofs.Algebra.{plus_comm, box-monoid}
use Rattle.model.specs.Plans.{is_cut, well_cut, put_kind, walk, walk_by}
use Rattle.model.proofs.Shortcuts.{sound_start}
use Rattle.model.proofs.KnownOnes.{kind-visit, to_zero_plain}
use Rattle.model.proofs.Paths.{well_cut-cut, well_cut-through, well-l, well-r}
use Rattle.model.proofs.PlannedWalk.{walk-cut, walk_through, cut-message}

pub abs_signed : (s : Bool) (n : ℕ) → nat_abs (signed s n) ≡ n
abs_signed false n = refl
abs_signed true zero = refl
abs_signed true (suc n) = refl

pub abs_sub : (a b : ℕ) → nat_abs (sub_ℕ a b) ≤ a + b
abs_sub a b = go (ltb a b) refl
  where
    go : (c : Bool) → ltb a b ≡ c → nat_abs (cond c (negsuc (b - suc a)) (pos (a - b))) ≤ a + b
    go true e = let l : a < b = ltb→lt a b (subst T (sym e) tt) in omega arith
    go false e = omega arith

pub abs_plus : (a b : ℤ) → nat_abs (a +ℤ b) ≤ nat_abs a + nat_abs b
abs_plus (pos a) (pos b) = le_refl (a + b)
abs_plus (pos a) (negsuc b) = abs_sub a (suc b)
abs_plus (negsuc a) (pos b) = le_trans (abs_sub b (suc a)) (omega arith)
abs_plus (negsuc a) (negsuc b) = omega arith

pub abs_neg : (a : ℤ) → nat_abs (neg_ℤ a) ≡ nat_abs a
abs_neg (pos zero) = refl
abs_neg (pos (suc n)) = refl
abs_neg (negsuc n) = refl

pub small-finite : (B : ℕ) (x : Soft) → Small B x → Finite x
small-finite B certain s = s
small-finite B certain_one s = s
small-finite B (finite a) s = tt

pub small-finite-all : (t B : ℕ) (L : List Soft) → SmallAll t B L → FiniteAll t L
small-finite-all t B L S k h = small-finite B (L at k) (S k h)

pub small-box : (B : ℕ) (x y : Soft) → Small B x → Small B (box x y)
unfolding box box_ℤ
small-box B certain y s = absurd s
small-box B certain_one y s = absurd s
small-box B (finite a) certain s = s
small-box B (finite a) certain_one s = rw (abs_neg a) s
small-box B (finite a) (finite b) s =
    rw (abs_signed (differ (negative a) (negative b)) (min (nat_abs a) (nat_abs b))) (le_trans (min-le_left (nat_abs a) (nat_abs b)) s)

small-negate : (B : ℕ) (x : Soft) → Small B x → Small B (negate x)
small-negate B certain s = s
small-negate B certain_one s = s
small-negate B (finite a) s = rw (abs_neg a) s

-- values negated where a word has a 1
small-turned : (t B : ℕ) (w : List ℕ) (L : List Soft) → SmallAll t B L → SmallAll t B (on_ones negate w L)
small-turned t B w L S k h = rw (on_ones-at negate soft_zero w L k (λ _. refl)) (cond_both (Small B) (eqb (get_or w k 0) 1) (small-negate B (L at k) (S k h)) (S k h))

pub small_mono : {B C : ℕ} (x : Soft) → B ≤ C → Small B x → Small C x
small_mono certain l s = s
small_mono certain_one l s = s
small_mono (finite z) l s = le_trans s l

pub small-add : (B C : ℕ) (x y : Soft) → Small B x → Small C y → Small (B + C) (plus x y)
unfolding plus
small-add B C certain y s u = absurd s
small-add B C certain_one y s u = absurd s
small-add B C (finite a) certain s u = absurd u
small-add B C (finite a) certain_one s u = absurd u
small-add B C (finite a) (finite b) s u = let h : nat_abs (a +ℤ b) ≤ nat_abs a + nat_abs b = abs_plus a b in omega arith

pub small-plus : (B : ℕ) (x y : Soft) → Small B x → Small B y → Small (2 * B) (plus x y)
small-plus B x y s u = small_mono (plus x y) (omega arith) (small-add B B x y s u)

pub cap-suc : (t B : ℕ) → cap (suc t) B ≡ B + cap t (2 * B)
cap-suc t B = ap (λ (n : ℕ). n * B) (e (2 ^ t - 1) (suc_ones t)) ∙ m (2 ^ t - 1)
  where
    e : (q : ℕ) → suc q ≡ 2 ^ t → 2 ^ suc t - 1 ≡ suc (2 * q)
    e q h = omega arith

    m : (q : ℕ) → suc (2 * q) * B ≡ B + q * (2 * B)
    m q = omega arith

module _ (t B : ℕ) (L : List Soft) (S : SmallAll (suc t) B L) where
  lo : (k : ℕ) → k < 2 ^ t → Small B (L at k)
  lo k h = S k (omega arith)

  hi : (k : ℕ) → k < 2 ^ t → Small B (L at (k + 2 ^ t))
  hi k h = S (k + 2 ^ t) (omega arith)

  pub small-to_left : (r : List Soft) → SmallAll t (2 * B) (to_left (2 ^ t) L r)
  unfolding to_left
  small-to_left r k h =
      rw (get_d_tabulate (2 ^ t) (λ k. box (L at k) (plus (L at (k + 2 ^ t)) (r at k))) k soft_zero h)
      (small_mono (box (L at k) (plus (L at (k + 2 ^ t)) (r at k))) (omega arith) (small-box B (L at k) (plus (L at (k + 2 ^ t)) (r at k)) (lo k h)))

  pub small-to_right : (l : List Soft) → SmallAll t (2 * B) (to_right (2 ^ t) L l)
  unfolding to_right
  small-to_right l k h =
      rw (get_d_tabulate (2 ^ t) (λ k. plus (box (L at k) (l at k)) (L at (k + 2 ^ t))) k soft_zero h)
      (small-plus B (box (L at k) (l at k)) (L at (k + 2 ^ t)) (small-box B (L at k) (l at k) (lo k h)) (hi k h))

-- ---- which masks may have positions frozen to one
pub ones_any : (t : ℕ) (mask : List ℕ) → OnesOnly true t mask
ones_any t mask k h o = tt

pub ones_none : (t : ℕ) (mask : List ℕ) → OnesOnly false t (frozen_to_zero mask)
ones_none t mask k h o = subst T (to_zero_plain mask k) o

module _ (ones : Bool) (t : ℕ) (mask : List ℕ) (O : OnesOnly ones (suc t) mask) where
  pub ones-l : OnesOnly ones t (take (2 ^ t) mask)
  ones-l k h o = O k (omega arith) (subst (λ (m : ℕ). T (is_known_one m)) (get_or-take (2 ^ t) mask k 0 h) o)

  pub ones-r : OnesOnly ones t (drop (2 ^ t) mask)
  ones-r k h o = O (2 ^ t + k) (omega arith) (subst (λ (m : ℕ). T (is_known_one m)) (get_or-drop (2 ^ t) mask k 0) o)

-- ---- messages, with and without positions frozen to one
module _ (ones : Bool) where
  pub under-negate : (c : ℕ) (x : Soft) → T ones → Under ones c x → Under ones c (negate x)
  under-negate c certain o u = o
  under-negate c certain_one o u = tt
  under-negate c (finite a) o u = rw (abs_neg a) u

  pub under-box : (c : ℕ) (x y : Soft) → Under ones c x → Under ones c y → Under ones c (box x y)
  unfolding box box_ℤ
  under-box c certain y s u = u
  under-box c certain_one y s u = under-negate c y s u
  under-box c (finite a) certain s u = s
  under-box c (finite a) certain_one s u = rw (abs_neg a) s
  under-box c (finite a) (finite b) s u =
      rw (abs_signed (differ (negative a) (negative b)) (min (nat_abs a) (nat_abs b))) (le_trans (min-le_left (nat_abs a) (nat_abs b)) s)

  pub under-plus : (B c : ℕ) (x y : Soft) → Small B x → Under ones c y → Under ones (B + c) (plus x y)
  unfolding plus
  under-plus B c certain y s u = absurd s
  under-plus B c certain_one y s u = absurd s
  under-plus B c (finite a) certain s u = tt
  under-plus B c (finite a) certain_one s u = u
  under-plus B c (finite a) (finite b) s u = let h : nat_abs (a +ℤ b) ≤ nat_abs a + nat_abs b = abs_plus a b in omega arith

  pub under_mono : {B C : ℕ} (x : Soft) → B ≤ C → Under ones B x → Under ones C x
  under_mono certain l s = tt
  under_mono certain_one l s = s
  under_mono (finite z) l s = le_trans s l

  pub within-message : (t B : ℕ) (T : Tree) → Within ones t B T → UnderAll ones t (cap t B) (message T)
  within-message zero B T w = w
  within-message (suc t) B T w = w.0

  pub under-to_node : (t B : ℕ) (L : List Soft) → SmallAll (suc t) B L → (l r : List Soft) → UnderAll ones t (cap t (2 * B)) l → UnderAll ones t (cap t (2 * B)) r → UnderAll ones (suc t) (cap (suc t) B) (to_node (2 ^ t) L l r)
  unfolding to_node
  under-to_node t B L S l r Ul Ur =
      halves t (λ k. Under ones (cap (suc t) B) (to_node (2 ^ t) L l r at k))
      (λ k h. rw (joined-lo (2 ^ t) (λ k. box (l at k) (plus (L at (k + 2 ^ t)) (r at k))) (tabulate (2 ^ t) (λ k. plus (r at k) (box (L at k) (l at k)))) k soft_zero h, cap-suc t B)
      (under-box (B + cap t (2 * B)) (l at k) (plus (L at (k + 2 ^ t)) (r at k)) (under_mono (l at k) (omega arith) (Ul k h)) (under-plus B (cap t (2 * B)) (L at (k + 2 ^ t)) (r at k) (hi t B L S k h) (Ur k h))))
      (λ k h. rw (joined-hi (2 ^ t) (λ k. box (l at k) (plus (L at (k + 2 ^ t)) (r at k))) (tabulate (2 ^ t) (λ k. plus (r at k) (box (L at k) (l at k)))) k soft_zero, get_d_tabulate (2 ^ t) (λ k. plus (r at k) (box (L at k) (l at k))) k soft_zero h, cap-suc t B, plus_comm (r at k) (box (L at k) (l at k)))
      (under-plus B (cap t (2 * B)) (box (L at k) (l at k)) (r at k) (small-box B (L at k) (l at k) (lo t B L S k h)) (Ur k h)))

  pub within-visit : (t B : ℕ) (T : Tree) (L : List Soft) → SmallAll t B L → Within ones t B T → Within ones t B (visit t T L)
  unfolding visit
  within-visit zero B T L S w = w
  within-visit (suc t) B T L S w =
      let l : Tree = visit t (left T) (to_left (2 ^ t) L (message (right T))) in
      let r : Tree = visit t (right T) (to_right (2 ^ t) L (message l)) in
      let wl : Within ones t (2 * B) l = within-visit t (2 * B) (left T) (to_left (2 ^ t) L (message (right T))) (small-to_left t B L S (message (right T))) w.1 in
      let wr : Within ones t (2 * B) r = within-visit t (2 * B) (right T) (to_right (2 ^ t) L (message l)) (small-to_right t B L S (message l)) w.2 in
      (under-to_node t B L S (message l) (message r) (within-message t (2 * B) l wl) (within-message t (2 * B) r wr), wl, wr)

  pub under-leaf : (b c : ℕ) → (T (is_known_one b) → T ones) → Under ones c (leaf_value b)
  unfolding leaf_value
  under-leaf b c o = cond_both (Under ones c) (eqb b 0) zero-le (known (is_known_one b) o)
    where
      known : (x : Bool) → (T x → T ones) → Under ones c (cond x certain_one certain)
      known true o = o tt
      known false o = tt

  pub within-start : (t B : ℕ) (mask : List ℕ) → OnesOnly ones t mask → Within ones t B (start t mask)
  unfolding start
  within-start zero B mask O = only (λ k. Under ones (cap zero B) ((leaf_value (get_or mask 0 0) ∷ []) at k)) (under-leaf (get_or mask 0 0) (cap zero B) (O 0 (omega arith)))
  within-start (suc t) B mask O = (
    λ k h. rw (get_d_tabulate (2 ^ suc t) (λ k. soft_zero) k soft_zero h) (omega arith),
    within-start t (2 * B) (take (2 ^ t) mask) (ones-l ones t mask O),
    within-start t (2 * B) (drop (2 ^ t) mask) (ones-r ones t mask O),
  )

  pub within-sweeps : (t B : ℕ) (L : List Soft) → SmallAll t B L → (n : ℕ) (T : Tree) → Within ones t B T → Within ones t B (sweeps (λ X. visit t X L) n T)
  unfolding sweeps
  within-sweeps t B L S zero T w = w
  within-sweeps t B L S (suc n) T w = within-sweeps t B L S n (visit t T L) (within-visit t B T L S w)

  -- a shortcut's message is within the same bound: it is the message of a visit from the start
  pub shortcut-under : (t B : ℕ) (mask : List ℕ) (k : Kind) (L : List Soft) → kind_of (2 ^ t) mask ≡ some k → OnesOnly ones t mask → SmallAll t B L → UnderAll ones t (cap t B) (kind_message k t mask L)
  shortcut-under t B mask k L e O S =
      subst (UnderAll ones t (cap t B)) (kind-visit t mask k (start t mask) L (small-finite-all t B L S) e (sound_start t mask))
      (within-message t B (visit t (start t mask) L) (within-visit t B (start t mask) L S (within-start t B mask O)))

  pub held-message : (plan : List ℕ) (t p B : ℕ) (P : Tree) → Held ones plan t p B P → UnderAll ones t (cap t B) (message P)
  held-message plan zero p B P H = H
  held-message plan (suc t) p B P H = H.0

  pub within_held : (plan : List ℕ) (t p B : ℕ) (P : Tree) → Within ones t B P → Held ones plan t p B P
  within_held plan zero p B P w = w
  within_held plan (suc t) p B P w = (w.0, λ e. (within_held plan t (2 * p) (2 * B) (left P) w.1, within_held plan t (2 * p + 1) (2 * B) (right P) w.2))

  -- a cut node's message
  pub put_under : (t B : ℕ) (mask : List ℕ) (P : Tree) (L : List Soft) → T (is_some (kind_of (2 ^ t) mask)) → OnesOnly ones t mask → SmallAll t B L
      → UnderAll ones t (cap t B) (message (put_kind (kind_of (2 ^ t) mask) t mask L P))
  put_under t B mask P L k O S =
      subst (UnderAll ones t (cap t B)) (cut-message t mask (start t mask) P L (small-finite-all t B L S) k (sound_start t mask))
      (within-message t B (visit t (start t mask) L) (within-visit t B (start t mask) L S (within-start t B mask O)))

  abbrev pub HeldStep : List ℕ → ℕ → ℕ → List ℕ → Type 0
  HeldStep plan t p mask = (B : ℕ) (P : Tree) (L : List Soft) → OnesOnly ones t mask → T (well_cut plan t p mask) → SmallAll t B L → Held ones plan t p B P → Held ones plan t p B (walk plan t p mask P L)

  held-through : (plan : List ℕ) (t p : ℕ) (mask : List ℕ) → is_cut plan p ≡ false → HeldStep plan t (2 * p) (take (2 ^ t) mask) → HeldStep plan t (2 * p + 1) (drop (2 ^ t) mask)
      → HeldStep plan (suc t) p mask
  held-through plan t p mask e hl hr B P L O w S H =
      let ww : T (well_cut plan t (2 * p) (take (2 ^ t) mask) && well_cut plan t (2 * p + 1) (drop (2 ^ t) mask)) = well_cut-through plan t p mask e w in
      let l : Tree = walk plan t (2 * p) (take (2 ^ t) mask) (left P) (to_left (2 ^ t) L (message (right P))) in
      let r : Tree = walk plan t (2 * p + 1) (drop (2 ^ t) mask) (right P) (to_right (2 ^ t) L (message l)) in
      let Hl : Held ones plan t (2 * p) (2 * B) l =
      hl (2 * B) (left P) (to_left (2 ^ t) L (message (right P))) (ones-l ones t mask O) (and_l (well_cut plan t (2 * p) (take (2 ^ t) mask)) (well_cut plan t (2 * p + 1) (drop (2 ^ t) mask)) ww)
      (small-to_left t B L S (message (right P))) (H.1 e).0 in
      let Hr : Held ones plan t (2 * p + 1) (2 * B) r =
      hr (2 * B) (right P) (to_right (2 ^ t) L (message l)) (ones-r ones t mask O) (and_r (well_cut plan t (2 * p) (take (2 ^ t) mask)) (well_cut plan t (2 * p + 1) (drop (2 ^ t) mask)) ww)
      (small-to_right t B L S (message l)) (H.1 e).1 in
      subst (Held ones plan (suc t) p B) (sym (walk_through plan t p mask P L e))
      (under-to_node t B L S (message l) (message r) (held-message plan t (2 * p) (2 * B) l Hl) (held-message plan t (2 * p + 1) (2 * B) r Hr), λ _. (Hl, Hr))

  pub held-walk : (plan : List ℕ) (t p : ℕ) (mask : List ℕ) → HeldStep plan t p mask
  unfolding walk_by well_cut
  held-walk plan zero p mask = λ B P L O w S H. put_under zero B mask P L (and_r (is_cut plan p) (is_some (kind_of 1 mask)) w) O S
  held-walk plan (suc t) p mask = go (is_cut plan p) refl (held-walk plan t (2 * p) (take (2 ^ t) mask)) (held-walk plan t (2 * p + 1) (drop (2 ^ t) mask))
    where
      go : (b : Bool) → is_cut plan p ≡ b → HeldStep plan t (2 * p) (take (2 ^ t) mask) → HeldStep plan t (2 * p + 1) (drop (2 ^ t) mask) → HeldStep plan (suc t) p mask
      go true e hl hr = λ B P L O w S H. (
        subst (UnderAll ones (suc t) (cap (suc t) B)) (ap message (sym (walk-cut plan (suc t) p mask P L e))) (put_under (suc t) B mask P L (well_cut-cut plan (suc t) p mask e w) O S),
        λ q. absurd (absurd_bool (is_cut plan p) e q),
      )
      go false e hl hr = held-through plan t p mask e hl hr

  -- ---- across all sweeps
  pub held-sweeps : (plan : List ℕ) (t : ℕ) (mask : List ℕ) (B : ℕ) (L : List Soft) → OnesOnly ones t mask → T (well_cut plan t 1 mask) → SmallAll t B L → (k : ℕ) (P : Tree)
      → Held ones plan t 1 B P → Held ones plan t 1 B (sweeps (λ X. walk plan t 1 mask X L) k P)
  unfolding sweeps
  held-sweeps plan t mask B L O w S zero P H = H
  held-sweeps plan t mask B L O w S (suc k) P H = held-sweeps plan t mask B L O w S k (walk plan t 1 mask P L) (held-walk plan t 1 mask B P L O w S H)

  pub soft-under : (n : ℕ) (mask : List ℕ) → OnesOnly ones n mask → (L : List Soft) → SmallAll n max_llr L → (k : ℕ) → UnderAll ones n (cap n max_llr) (scan n mask L k)
  unfolding scan
  soft-under n mask O L S k =
      within-message n max_llr (sweeps (λ X. visit n X L) k (start n mask)) (within-sweeps n max_llr L S k (start n mask) (within-start n max_llr mask O))

pub cap-limit : (n : ℕ) → n ≤ 10 → max_llr + cap n max_llr ≤ limit
cap-limit n h = let m : 2 ^ n ≤ 1024 = pow_mono h in let p : 0 < 2 ^ n = pow_pos n in omega arith

-- ---- every sum is within the limit
cap-below : (t B : ℕ) → cap t B ≤ B * 2 ^ t
cap-below t B = le_trans (mul-le-mul_right B (omega arith)) (le_of_eq (mul_comm (2 ^ t) B))

small_total : (B n : ℕ) (f : ℕ → Soft) → ((k : ℕ) → k < n → Small B (f k)) → Small (n * B) (total plus soft_zero n f)
unfolding total
small_total B zero f s = omega arith
small_total B (suc n) f s =
    small_mono (plus (f 0) (total plus soft_zero n (λ k. f (suc k)))) (le_of_eq (sym (suc-mul n B ∙ add_comm (n * B) B)))
    (small-add B (n * B) (f 0) (total plus soft_zero n (λ k. f (suc k))) (s 0 (omega arith)) (small_total B n (λ k. f (suc k)) (λ k h. s (suc k) (suc-le-suc h))))

list-sums : (t B : ℕ) (L : List Soft) → B * 2 ^ t ≤ limit → SmallAll t B L → ListSums t L
list-sums t B L room S c =
    small_mono (total plus soft_zero (2 ^ t) (λ j. cond (c j) (L at j) soft_zero)) (le_trans (le_of_eq (mul_comm (2 ^ t) B)) room)
    (small_total B (2 ^ t) (λ j. cond (c j) (L at j) soft_zero) (λ k h. cond_both (Small B) (c k) (S k h) zero-le))

-- box over a class that has a place is no larger than the value there
small-class : (m B : ℕ) (L : List Soft) → 4 ≤ m → ((k : ℕ) → k < m → Small B (L at k)) → (j : ℕ) → j < 4 → Small B (classes box certain 4 m L at j)
unfolding classes
small-class m B L h S j l =
    subst (Small B)
    (sym (get_d_tabulate 4 (λ c. total box certain m (λ i. cond (eqb (i % 4) c) (L at i) certain)) j soft_zero l ∙ total_pull box certain box-monoid m (λ i. cond (eqb (i % 4) j) (L at i) certain) j (omega arith)))
    (small-box B (cond (eqb (j % 4) j) (L at j) certain) (total box certain m (λ i. cond (eqb i j) certain (cond (eqb (i % 4) j) (L at i) certain)))
    (rw (mod-eq_of_lt l, eqb_same j) (S j (omega arith))))

box-sums : (t B : ℕ) (L : List Soft) → B * 2 ^ t ≤ limit → SmallAll t B L → 8 ≤ 2 ^ t → BoxSums t L
box-sums t B L room S big c =
    small_mono (total plus soft_zero 4 (λ j. cond (c j) (classes box certain 4 (2 ^ t) L at j) soft_zero)) (le_trans (le_trans (le_of_eq (mul_comm 4 B)) (mul-le-mul_left B (omega arith))) room)
    (small_total B 4 (λ j. cond (c j) (classes box certain 4 (2 ^ t) L at j) soft_zero) (λ j l. cond_both (Small B) (c j) (small-class (2 ^ t) B L (omega arith) S j l) zero-le))

node-sums : (t B : ℕ) (L r₀ l r : List Soft) → B * 2 ^ suc t ≤ limit → SmallAll (suc t) B L
    → UnderAll true t (cap t (2 * B)) r₀ → UnderAll true t (cap t (2 * B)) r → NodeSums (2 ^ t) L r₀ l r
node-sums t B L r₀ l r room S U₀ U k h = (
  added r₀ U₀,
  small_mono (plus (box (L at k) (l at k)) (L at (k + 2 ^ t))) twice (small-add B B (box (L at k) (l at k)) (L at (k + 2 ^ t)) first (hi t B L S k h)),
  added r U,
  subst (Under true limit) (plus_comm (box (L at k) (l at k)) (r at k)) (under_mono true (plus (box (L at k) (l at k)) (r at k)) within (under-plus true B (cap t (2 * B)) (box (L at k) (l at k)) (r at k) first (U k h))),
)
  where
    within : B + cap t (2 * B) ≤ limit
    within = le_trans (le_of_eq (sym (cap-suc t B))) (le_trans (cap-below (suc t) B) room)

    twice : B + B ≤ limit
    twice = le_trans (le_trans (le_of_eq (double-is B)) (mul-le-mul_left B (two t (pow_pos t)))) room
      where
        double-is : (B : ℕ) → B + B ≡ B * 2
        double-is B = omega arith

        two : (t : ℕ) → 0 < 2 ^ t → 2 ≤ 2 ^ suc t
        two t p = omega arith

    first : Small B (box (L at k) (l at k))
    first = small-box B (L at k) (l at k) (lo t B L S k h)

    added : (m : List Soft) → UnderAll true t (cap t (2 * B)) m → Under true limit (plus (L at (k + 2 ^ t)) (m at k))
    added m W = under_mono true (plus (L at (k + 2 ^ t)) (m at k)) within (under-plus true B (cap t (2 * B)) (L at (k + 2 ^ t)) (m at k) (hi t B L S k h) (W k h))

doubled-room : (t B : ℕ) → 2 * B * 2 ^ t ≡ B * 2 ^ suc t
doubled-room t B = ap (λ (x : ℕ). x * 2 ^ t) (mul_comm 2 B) ∙ mul_assoc B 2 (2 ^ t) ∙ ap (λ (x : ℕ). B * x) (twofold t)
  where
    twofold : (t : ℕ) → 2 * 2 ^ t ≡ 2 ^ suc t
    twofold t = omega arith

pub within_all : (t B : ℕ) (T : Tree) → B * 2 ^ t ≤ limit → Within true t B T → AllUnder limit t T
within_all zero B T room w = λ k h. under_mono true (message T at k) (le_trans (cap-below zero B) room) (w k h)
within_all (suc t) B T room w =
    let half : 2 * B * 2 ^ t ≤ limit = le_trans (le_of_eq (doubled-room t B)) room in
    (λ k h. under_mono true (message T at k) (le_trans (cap-below (suc t) B) room) (w.0 k h), within_all t (2 * B) (left T) half w.1, within_all t (2 * B) (right T) half w.2)

abbrev RangeStep : List ℕ → ℕ → ℕ → List ℕ → Type 0
RangeStep plan t p mask =
    (B : ℕ) (P : Tree) (L : List Soft) → B * 2 ^ t ≤ limit → T (well_cut plan t p mask) → SmallAll t B L → Held true plan t p B P → InRange plan t p mask P L

in_limit : (t B : ℕ) (L : List Soft) → B * 2 ^ t ≤ limit → SmallAll t B L → SmallAll t limit L
in_limit t B L room S k h = small_mono (L at k) (le_trans (le_trans (le_of_eq (sym (mul-one B))) (mul-le-mul_left B (pow_pos t))) room) (S k h)

range-through : (plan : List ℕ) (t p : ℕ) (mask : List ℕ) → is_cut plan p ≡ false → RangeStep plan t (2 * p) (take (2 ^ t) mask) → RangeStep plan t (2 * p + 1) (drop (2 ^ t) mask)
    → RangeStep plan (suc t) p mask
range-through plan t p mask e rl rr B P L room w S H =
    let a : List ℕ = take (2 ^ t) mask in
    let b : List ℕ = drop (2 ^ t) mask in
    let wl : T (well_cut plan t (2 * p) a) = well-l plan t p mask e w in
    let wr : T (well_cut plan t (2 * p + 1) b) = well-r plan t p mask e w in
    let l : Tree = walk plan t (2 * p) a (left P) (to_left (2 ^ t) L (message (right P))) in
    let r : Tree = walk plan t (2 * p + 1) b (right P) (to_right (2 ^ t) L (message l)) in
    let half : 2 * B * 2 ^ t ≤ limit = le_trans (le_of_eq (doubled-room t B)) room in
    let Sl : SmallAll t (2 * B) (to_left (2 ^ t) L (message (right P))) = small-to_left t B L S (message (right P)) in
    let Sr : SmallAll t (2 * B) (to_right (2 ^ t) L (message l)) = small-to_right t B L S (message l) in
    let Hr : Held true plan t (2 * p + 1) (2 * B) r = held-walk true plan t (2 * p + 1) b (2 * B) (right P) (to_right (2 ^ t) L (message l)) (ones_any t b) wr Sr (H.1 e).1 in (
      in_limit (suc t) B L room S,
      λ q. absurd (absurd_bool (is_cut plan p) q e),
      λ _. (
        node-sums t B L (message (right P)) (message l) (message r) room S
            (held-message true plan t (2 * p + 1) (2 * B) (right P) (H.1 e).1) (held-message true plan t (2 * p + 1) (2 * B) r Hr),
        rl (2 * B) (left P) (to_left (2 ^ t) L (message (right P))) half wl Sl (H.1 e).0,
        rr (2 * B) (right P) (to_right (2 ^ t) L (message l)) half wr Sr (H.1 e).1,
      ),
    )

pub in_range : (plan : List ℕ) (t p : ℕ) (mask : List ℕ) → RangeStep plan t p mask
in_range plan zero p mask = λ B P L room w S H. in_limit zero B L room S
in_range plan (suc t) p mask = go (is_cut plan p) refl (in_range plan t (2 * p) (take (2 ^ t) mask)) (in_range plan t (2 * p + 1) (drop (2 ^ t) mask))
  where
    go : (b : Bool) → is_cut plan p ≡ b → RangeStep plan t (2 * p) (take (2 ^ t) mask) → RangeStep plan t (2 * p + 1) (drop (2 ^ t) mask) → RangeStep plan (suc t) p mask
    go true e rl rr = λ B P L room w S H.
        let L' : List Soft = on_ones negate (known_word (suc t) mask) L in
        let S' : SmallAll (suc t) B L' = small-turned (suc t) B (known_word (suc t) mask) L S in
        (in_limit (suc t) B L room S, λ _. (list-sums (suc t) B L' room S', box-sums (suc t) B L' room S'), λ q. absurd (absurd_bool (is_cut plan p) e q))
    go false e rl rr = range-through plan t p mask e rl rr
