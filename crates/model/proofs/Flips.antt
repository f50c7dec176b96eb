-- Values negated at the places where an encoded word has a 1: SCAN carries this from the LLRs and the leaves to the soft values. Assumes nothing.
use mathlib.Core.Path.{◌≡◌, refl, sym, ◌∙◌, ap, ap₂, subst}
use mathlib.Core.Logic.{inl, inr}
use mathlib.Core.Bool.{Bool, true, false, cond}
use mathlib.Core.List.{List, map}
use Prim.Native.Nat.{ℕ, zero, suc, ◌+◌, ◌^◌, ◌<◌, ◌≤◌, ◌%◌}
use native.Mathlib.Omega.{arith}
use lib.Dec.{eqb}
use lib.IntN.{ℤ, pos, neg_ℤ, neg_ℤ-+ℤ}
use lib.ListN.{get_or, take, drop, length, length-append, get_or-map}
use lib.Seq.{ext_get_or}
use Rattle.model.specs.Lists.{tabulate, on_ones}
use Rattle.model.specs.Soft.{Soft, finite, certain, certain_one, Finite, soft_zero, ◌at◌, negate, box, plus, differ, word_of}
use Rattle.model.specs.Encoding.{transform}
use Rattle.model.specs.Scan.{Tree, message, left, right, leaf_value, start, FiniteAll, to_left, to_right, to_node, visit, sweeps, scan, flip_tree}
use Rattle.model.specs.Bounds.{SumsMeet}
use Rattle.model.proofs.Lists.{double, length_tabulate, get_d_tabulate, length-on_ones, on_ones-at, on_ones-twice, on_ones-map}
use Rattle.model.proofs.Algebra.{box-negate, box-negate-r, negate-twice}
use Rattle.model.proofs.Transform.{transform-bit}
use Rattle.model.proofs.TwoRuns.{minus, Rel, Laws, Each, Paired, paired_message, paired_visit, soft_paired}

-- ---- finite values
pub finite-box : (x y : Soft) → Finite x → Finite (box x y)
unfolding box
finite-box certain y f = absurd f
finite-box certain_one y f = absurd f
finite-box (finite a) certain f = tt
finite-box (finite a) certain_one f = tt
finite-box (finite a) (finite b) f = tt

pub finite-plus : (x y : Soft) → Finite x → Finite y → Finite (plus x y)
unfolding plus
finite-plus certain y f g = absurd f
finite-plus certain_one y f g = absurd f
finite-plus (finite a) certain f g = absurd g
finite-plus (finite a) certain_one f g = absurd g
finite-plus (finite a) (finite b) f g = tt

-- LLRs are finite
pub llrs-finite : (t : ℕ) (llrs : List ℤ) → FiniteAll t (map finite llrs)
llrs-finite t llrs k h = rw (get_or-map finite llrs k (pos 0)) tt

-- the incoming lists of the children of a node that is handed finite values
module _ (t : ℕ) (L : List Soft) (F : FiniteAll (suc t) L) where
  pub finite-to_left : (r : List Soft) → FiniteAll t (to_left (2 ^ t) L r)
  unfolding to_left
  finite-to_left r k h =
      rw (get_d_tabulate (2 ^ t) (λ k. box (L at k) (plus (L at (k + 2 ^ t)) (r at k))) k soft_zero h)
      (finite-box (L at k) (plus (L at (k + 2 ^ t)) (r at k)) (F k (omega arith)))

  pub finite-to_right : (l : List Soft) → FiniteAll t (to_right (2 ^ t) L l)
  unfolding to_right
  finite-to_right l k h =
      rw (get_d_tabulate (2 ^ t) (λ k. plus (box (L at k) (l at k)) (L at (k + 2 ^ t))) k soft_zero h)
      (finite-plus (box (L at k) (l at k)) (L at (k + 2 ^ t)) (finite-box (L at k) (l at k) (F k (omega arith))) (F (k + 2 ^ t) (omega arith)))

-- of the two values of every sum one is finite
pub meet_visit : (t : ℕ) (T : Tree) (L : List Soft) → FiniteAll t L → SumsMeet t T L
meet_visit zero T L F = tt
meet_visit (suc t) T L F =
    let l : Tree = visit t (left T) (to_left (2 ^ t) L (message (right T))) in (
      λ k h. (inl (F (k + 2 ^ t) (omega arith)), inr (F (k + 2 ^ t) (omega arith)), inl (F (k + 2 ^ t) (omega arith)), inr (finite-box (L at k) (message l at k) (F k (omega arith)))),
      meet_visit t (left T) (to_left (2 ^ t) L (message (right T))) (finite-to_left t L F (message (right T))),
      meet_visit t (right T) (to_right (2 ^ t) L (message l)) (finite-to_right t L F (message l)),
    )

-- ---- a value negated where the sign is true
abbrev pub turn : Bool → Soft → Soft
turn s x = cond s (negate x) x

pub turn_twice : (s r : Bool) (x : Soft) → turn s (turn r x) ≡ turn (differ r s) x
turn_twice false false x = refl
turn_twice false true x = refl
turn_twice true false x = refl
turn_twice true true x = negate-twice x

turn-box : (s r : Bool) (x y : Soft) → box (turn s x) (turn r y) ≡ turn (differ s r) (box x y)
turn-box false false x y = refl
turn-box false true x y = box-negate-r x y
turn-box true false x y = box-negate x y
turn-box true true x y = box-negate x (negate y) ∙ ap negate (box-negate-r x y) ∙ negate-twice (box x y)

-- of the two values of a sum one is finite
negate-plus_l : (x y : Soft) → Finite x → plus (negate x) (negate y) ≡ negate (plus x y)
unfolding plus
negate-plus_l certain y f = absurd f
negate-plus_l certain_one y f = absurd f
negate-plus_l (finite a) certain f = refl
negate-plus_l (finite a) certain_one f = refl
negate-plus_l (finite a) (finite b) f = ap finite (sym (neg_ℤ-+ℤ a b))

negate-plus_r : (x y : Soft) → Finite y → plus (negate x) (negate y) ≡ negate (plus x y)
unfolding plus
negate-plus_r x certain f = absurd f
negate-plus_r x certain_one f = absurd f
negate-plus_r certain (finite b) f = refl
negate-plus_r certain_one (finite b) f = refl
negate-plus_r (finite a) (finite b) f = ap finite (sym (neg_ℤ-+ℤ a b))

pub turn-plus_l : (s : Bool) (x y : Soft) → Finite x → plus (turn s x) (turn s y) ≡ turn s (plus x y)
turn-plus_l false x y f = refl
turn-plus_l true x y f = negate-plus_l x y f

turn-plus_r : (s : Bool) (x y : Soft) → Finite y → plus (turn s x) (turn s y) ≡ turn s (plus x y)
turn-plus_r false x y f = refl
turn-plus_r true x y f = negate-plus_r x y f

pub turn-zero : (s : Bool) → soft_zero ≡ turn s soft_zero
turn-zero true = refl
turn-zero false = refl

-- the second run's value is the first's, turned; incoming values are finite
abbrev pub Msg : Rel
Msg t s x x' = x' ≡ turn s x

abbrev pub In : Rel
In t s x x' = Finite x × (x' ≡ turn s x)

pub flip_laws : Laws In Msg In Msg
flip_laws =
    record {
      sum = λ t s x x' y y' f g. ap₂ plus f.1 g ∙ turn-plus_l s x y f.0;
      to-left = λ t s r x x' y y' f g. (finite-box x y f.0, ap₂ box f.1 g ∙ turn-box s r x y);
      part = λ t s r x x' y y' f g. (finite-box x y f.0, ap₂ box f.1 g ∙ turn-box s r x y);
      to-right = λ t s x x' y y' f g. (finite-plus x y f.0 g.0, ap₂ plus f.1 g.1 ∙ turn-plus_l s x y f.0);
      node-lo = λ t s r x x' y y' f g. ap₂ box f g ∙ turn-box s r x y;
      node-hi = λ t s x x' y y' f g. ap₂ plus f g.1 ∙ turn-plus_r s x y g.0;
      none = λ t s. turn-zero s;
    }

-- ---- lists
pub word-sign : (t : ℕ) (u : List ℕ) (k : ℕ) → k < 2 ^ t → eqb (get_or (transform t u) k 0) 1 ≡ minus (get_or (transform t u) k 0)
word-sign t u k h = ap (λ (b : ℕ). eqb b 1) (whole (get_or (transform t u) k 0) (transform-bit t u k h))
  where
    whole : (b : ℕ) → b ≤ 1 → b ≡ b % 2
    whole b h = omega arith

-- a list, negated where the word of u has a 1
abbrev pub flipped : ℕ → List ℕ → List Soft → List Soft
flipped t u L = on_ones negate (transform t u) L

pub flipped-at : (t : ℕ) (u : List ℕ) (L : List Soft) (k : ℕ) → k < 2 ^ t → flipped t u L at k ≡ turn (minus (get_or (transform t u) k 0)) (L at k)
flipped-at t u L k h = on_ones-at negate soft_zero (transform t u) L k (λ _. refl) ∙ ap (λ s. turn s (L at k)) (word-sign t u k h)

pub flipped-twice : (t : ℕ) (u : List ℕ) (L : List Soft) → flipped t u (flipped t u L) ≡ L
flipped-twice t u L = on_ones-twice negate negate-twice (transform t u) L

finite-turn : (s : Bool) (x : Soft) → Finite x → Finite (turn s x)
finite-turn false x f = f
finite-turn true (finite a) f = tt
finite-turn true certain f = absurd f
finite-turn true certain_one f = absurd f

pub flipped-finite : (t : ℕ) (u : List ℕ) (L : List Soft) → FiniteAll t L → FiniteAll t (flipped t u L)
flipped-finite t u L F k h = rw (flipped-at t u L k h) (finite-turn (minus (get_or (transform t u) k 0)) (L at k) (F k h))

pub flipped_in : (t : ℕ) (u : List ℕ) (L : List Soft) → FiniteAll t L → Each In t u L (flipped t u L)
flipped_in t u L F k h = (F k h, flipped-at t u L k h)

-- LLRs, and the words that stand for soft values
pub flip-llrs : (w : List ℕ) (llrs : List ℤ) → map finite (on_ones neg_ℤ w llrs) ≡ on_ones negate w (map finite llrs)
flip-llrs w llrs = on_ones-map neg_ℤ negate finite (λ z. refl) w llrs

pub flip-words : (w : List ℕ) (s : List Soft) → map word_of (on_ones negate w s) ≡ on_ones neg_ℤ w (map word_of s)
flip-words w s = on_ones-map negate neg_ℤ word_of each w s
  where
    each : (x : Soft) → word_of (negate x) ≡ neg_ℤ (word_of x)
    each certain = refl
    each certain_one = refl
    each (finite a) = refl

-- a list whose values are those of another, turned, is that other flipped
pub flipped-eq : (t : ℕ) (u : List ℕ) (m m' : List Soft) → length m ≡ 2 ^ t → length m' ≡ 2 ^ t → Each Msg t u m m' → m' ≡ flipped t u m
flipped-eq t u m m' l l' E =
    ext_get_or soft_zero m' (flipped t u m) (l' ∙ sym (length-on_ones negate (transform t u) m ∙ l))
    (λ k h. let j : k < 2 ^ t = subst (λ (n : ℕ). k < n) l' h in E k j ∙ sym (flipped-at t u m k j))

-- ---- stored states
paired_flip : (t : ℕ) (u : List ℕ) (T : Tree) → Paired In Msg In Msg flip_laws t u T (flip_tree t u T)
unfolding flip_tree
paired_flip zero u T = λ k h. flipped-at 0 u (message T) k h
paired_flip (suc t) u T =
    (λ k h. flipped-at (suc t) u (message T) k h, paired_flip t (take (2 ^ t) u) (left T), paired_flip t (drop (2 ^ t) u) (right T))

-- a visit of the flipped state with the flipped list
pub flip-visit : (t : ℕ) (u : List ℕ) (T : Tree) (L : List Soft) → FiniteAll t L
    → Each Msg t u (message (visit t T L)) (message (visit t (flip_tree t u T) (flipped t u L)))
flip-visit t u T L F =
    paired_message In Msg In Msg flip_laws t u (visit t T L) (visit t (flip_tree t u T) (flipped t u L))
    (paired_visit In Msg In Msg flip_laws t u T (flip_tree t u T) L (flipped t u L) (paired_flip t u T) (flipped_in t u L F))

-- ---- lengths
pub length-to_left : (h : ℕ) (L r : List Soft) → length (to_left h L r) ≡ h
unfolding to_left
length-to_left h L r = length_tabulate h (λ k. box (L at k) (plus (L at (k + h)) (r at k)))

pub length-to_right : (h : ℕ) (L l : List Soft) → length (to_right h L l) ≡ h
unfolding to_right
length-to_right h L l = length_tabulate h (λ k. plus (box (L at k) (l at k)) (L at (k + h)))

pub length-to_node : (t : ℕ) (L l r : List Soft) → length (to_node (2 ^ t) L l r) ≡ 2 ^ suc t
unfolding to_node
length-to_node t L l r =
    length-append (tabulate (2 ^ t) (λ k. box (l at k) (plus (L at (k + 2 ^ t)) (r at k)))) (tabulate (2 ^ t) (λ k. plus (r at k) (box (L at k) (l at k))))
    ∙ ap₂ ◌+◌ (length_tabulate (2 ^ t) (λ k. box (l at k) (plus (L at (k + 2 ^ t)) (r at k)))) (length_tabulate (2 ^ t) (λ k. plus (r at k) (box (L at k) (l at k))))
    ∙ sym (double t)

pub length_up : (t : ℕ) (T : Tree) (L : List Soft) → length (message (visit (suc t) T L)) ≡ 2 ^ suc t
unfolding visit
length_up t T L =
    let l : Tree = visit t (left T) (to_left (2 ^ t) L (message (right T))) in
    let r : Tree = visit t (right T) (to_right (2 ^ t) L (message l)) in
    length-to_node t L (message l) (message r)

pub length-visit : (t : ℕ) (T : Tree) (L : List Soft) → length (message T) ≡ 2 ^ t → length (message (visit t T L)) ≡ 2 ^ t
unfolding visit
length-visit zero T L e = e
length-visit (suc t) T L e = length_up t T L

length-sweeps : (t : ℕ) (L : List Soft) (k : ℕ) (T : Tree) → length (message T) ≡ 2 ^ t → length (message (sweeps (λ X. visit t X L) k T)) ≡ 2 ^ t
unfolding sweeps
length-sweeps t L zero T e = e
length-sweeps t L (suc k) T e = length-sweeps t L k (visit t T L) (length-visit t T L e)

pub length-soft : (n : ℕ) (mask : List ℕ) (L : List Soft) (k : ℕ) → length (scan n mask L k) ≡ 2 ^ n
unfolding scan
length-soft n mask L k = length-sweeps n L k (start n mask) (at-start n)
  where
    at-start : (n : ℕ) → length (message (start n mask)) ≡ 2 ^ n
    at-start zero = unfold start in refl
    at-start (suc n) = unfold start in length_tabulate (2 ^ suc n) (λ k. soft_zero)

-- ---- soft values, where the leaves of the second mask are those of the first, negated where u has a 1
abbrev pub Turned : ℕ → List ℕ → List ℕ → List ℕ → Type 0
Turned n u mask mask' = (k : ℕ) → k < 2 ^ n → leaf_value (get_or mask' k 0) ≡ turn (minus (get_or u k 0)) (leaf_value (get_or mask k 0))

pub soft-flip : (n : ℕ) (u mask mask' : List ℕ) → Turned n u mask mask' → (L : List Soft) → FiniteAll n L → (k : ℕ)
    → scan n mask' (flipped n u L) k ≡ flipped n u (scan n mask L k)
soft-flip n u mask mask' E L F k =
    flipped-eq n u (scan n mask L k) (scan n mask' (flipped n u L) k) (length-soft n mask L k) (length-soft n mask' (flipped n u L) k)
    (soft_paired In Msg In Msg flip_laws n u mask mask' E L (flipped n u L) (flipped_in n u L F) k)
