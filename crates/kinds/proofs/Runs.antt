-- A mask is of a kind exactly if it is a run of frozen positions, as long as the kind says, and unfrozen ones after it; the bytes at its ends tell which kind. Assumes nothing.
use Prim.Native.Nat.{ℕ, zero, suc, ◌+◌, ◌-◌, ◌<◌, ◌≤◌}
use native.Mathlib.Nat.{le_of_suc-le-suc, eq-or-lt_of_le}
use native.Mathlib.Numerals.{add-one}
use native.Mathlib.Omega.{arith}
use mathlib.Core.Path.{◌≡◌, refl, sym, ap, ap₂, ◌∙◌, subst}
use mathlib.Core.Logic.{⊎_elim}
use mathlib.Core.Bool.{Bool, true, false, cond, not, ◌&&◌}
use mathlib.Core.Option.{Option, none, some}
use mathlib.Core.List.{List, [], ◌∷◌, ◌++◌, append-nil}
use borrow.Author.Tests.{le-leb, lt-leb, leb-true, leb-false, eq-eqb, ne_eqb}
use lib.Dec.{T, eqb, leb}
use lib.ListN.{replicate, length, take, drop, get_or, length-drop, length-replicate, take-append-drop, drop_of_length-le, get_or-append, get_or-replicate}
use lib.Seq.{drop-cons, length-take-le, get_or-append-add, get_or-take, get_or-drop}
use Rattle.model.specs.Lists.{same}
use Rattle.model.specs.Encoding.{is_unfrozen, frozen_to_zero}
use Rattle.model.specs.Kinds.{Kind, rate_0, rate_1, REP, SPC, type_I, type_III, type_II, type_IV, order, least_size, pattern, only_first, fits, first_of, kind_of, is_some, is_kind, row}
use Rattle.model.proofs.Lists.{eqb_same, eqb_apart, true-T, absurd_bool, and_T, and_assoc, and-true}
use Rattle.model.proofs.Shortcuts.{kind_facts}
use Rattle.model.proofs.Orders.{finds, has-order}
use Rattle.model.proofs.FrozenPositions.{to_zero_at, to_zero_length, to_zero_l, to_zero_r, to_zero_unfrozen, kinds-alike}
use Rattle.kinds.specs.Runs.{all_are, front, long_side, short_side, Ends}

-- ---- `same`
same_refl : (a : List ℕ) → same a a ≡ true
unfolding same
same_refl [] = refl
same_refl (x ∷ xs) = rw (eqb_same x, same_refl xs)

same_append : (a b c d : List ℕ) → length a ≡ length c → same (a ++ b) (c ++ d) ≡ (same a c && same b d)
unfolding same
same_append [] b [] d e = refl
same_append [] b (y ∷ c) d e = absurd (omega arith)
same_append (x ∷ a) b [] d e = absurd (omega arith)
same_append (x ∷ a) b (y ∷ c) d e = rw (same_append a b c d (omega arith)) (sym (and_assoc (eqb x y) (same a c) (same b d)))

same-all : (b n : ℕ) (part : List ℕ) → length part ≡ n → same part (replicate n b) ≡ all_are b part
unfolding same all_are
same-all b zero [] e = refl
same-all b zero (x ∷ xs) e = absurd (omega arith)
same-all b (suc n) [] e = absurd (omega arith)
same-all b (suc n) (x ∷ xs) e = ap (λ (z : Bool). eqb x b && z) (same-all b n xs (omega arith))

-- a mask is tested for a run by its two parts
pub run-parts : (mask : List ℕ) (f : ℕ) → f ≤ length mask → same mask (only_first f (length mask)) ≡ (all_are 1 (take f mask) && all_are 0 (drop f mask))
run-parts mask f h =
    ap (λ (l : List ℕ). same l (only_first f (length mask))) (sym (take-append-drop f mask))
    ∙ same_append (take f mask) (drop f mask) (replicate f 1) (replicate (length mask - f) 0) (length-take-le f mask h ∙ sym (length-replicate f 1))
    ∙ ap₂ (λ (a b : Bool). a && b) (same-all 1 f (take f mask) (length-take-le f mask h)) (same-all 0 (length mask - f) (drop f mask) (length-drop f mask))

pub run-test : (mask : List ℕ) (f : ℕ) → f ≤ length mask
    → same (frozen_to_zero mask) (only_first f (length mask)) ≡ (all_are 1 (frozen_to_zero (take f mask)) && all_are 0 (frozen_to_zero (drop f mask)))
run-test mask f h =
    ap (λ (n : ℕ). same (frozen_to_zero mask) (only_first f n)) (sym (to_zero_length mask))
    ∙ run-parts (frozen_to_zero mask) f (rw (to_zero_length mask) h)
    ∙ ap₂ (λ (a b : List ℕ). all_are 1 a && all_are 0 b) (to_zero_l f mask) (to_zero_r f mask)

-- ---- every pattern is a run
pattern-run : (k : Kind) (m : ℕ) → least_size k ≤ m → (front k m ≤ m) × (pattern k m ≡ only_first (front k m) m)
pattern-run rate_0 m h = (omega arith, sym (ap (λ (n : ℕ). replicate m 1 ++ replicate n 0) (left m) ∙ append-nil (replicate m 1)))
  where
    left : (m : ℕ) → m - m ≡ 0
    left m = omega arith
pattern-run rate_1 m h = let q : m - 0 ≡ m = omega arith in (omega arith, rw q)
pattern-run REP m h = let q : m - (m - 1) ≡ 1 = omega arith in (omega arith, rw q)
pattern-run SPC m h = (omega arith, refl)
pattern-run type_I m h = let q : m - (m - 2) ≡ 2 = omega arith in (omega arith, rw q)
pattern-run type_III m h = (omega arith, refl)
pattern-run type_II m h = let q : m - (m - 3) ≡ 3 = omega arith in (omega arith, rw q)
pattern-run type_IV m h = (omega arith, refl)

-- the least size at which no upper kind has the same pattern
abbrev own_size : Kind → ℕ
own_size rate_0 = 1
own_size rate_1 = 1
own_size SPC = 2
own_size REP = 3
own_size type_III = 4
own_size type_I = 5
own_size type_II = 8
own_size type_IV = 8

-- a node is not of two kinds
other-kind : (j k : Kind) {o : Option Kind} → o ≡ some j → o ≡ some k → is_kind j (some k) ≡ false → ⊥
other-kind j k {o} p q e = absurd_bool (is_kind j o) (ap (is_kind j) p ∙ eqb_same (row j)) (ap (is_kind j) q ∙ e)

-- the node is as large as that, as its kind is the upper one of those that fit
own-size : (k : Kind) (m : ℕ) → least_size k ≤ m → kind_of m (pattern k m) ≡ some k → own_size k ≤ m
unfolding kind_of first_of same frozen_to_zero
own-size rate_0 m h e = h
own-size rate_1 m h e = h
own-size SPC m h e = h
own-size REP m h e = let n : m ≡ 2 → ⊥ = λ q. other-kind SPC REP (rw q) e refl in omega arith
own-size type_III m h e = h
own-size type_I m h e = let n : m ≡ 4 → ⊥ = λ q. other-kind type_III type_I (rw q) e refl in omega arith
own-size type_II m h e = h
own-size type_IV m h e = h

-- ---- a byte of a run
module _ (mask : List ℕ) (f : ℕ) (h : f ≤ length mask) (e : mask ≡ only_first f (length mask)) (i : ℕ) where
  ones : List ℕ
  ones = replicate f 1

  zeros : List ℕ
  zeros = replicate (length mask - f) 0

  in_front : i < f → get_or mask i 0 ≡ 1
  unfolding ones zeros
  in_front k =
      ap (λ (x : List ℕ). get_or x i 0) e ∙ get_or-append ones zeros 0 i (omega (arith, length-replicate {A = ℕ} f 1))
      ∙ get_or-replicate f i 1 0 k

  behind : f ≤ i → i < length mask → get_or mask i 0 ≡ 0
  unfolding ones zeros
  behind k l =
      ap (λ (x : List ℕ). get_or x i 0) e ∙ ap (λ (n : ℕ). get_or (ones ++ zeros) n 0) q ∙ get_or-append-add ones zeros (i - f) 0
      ∙ get_or-replicate (length mask - f) (i - f) 0 0 (omega arith)
    where
      q : i ≡ length ones + (i - f)
      q = omega (arith, length-replicate {A = ℕ} f 1)

-- ---- a mask of some kind is told by the bytes at its ends
-- the kind by the bytes next to the ends, in a mask of l positions, where the first one is frozen and the last is not
abbrev mixed : List ℕ → ℕ → Kind
mixed mask l =
    cond (eqb (get_or mask 1 0) 1) (cond (eqb (get_or mask (l - 2) 0) 1) REP
    (cond (eqb (get_or mask 2 0) 1) (cond (eqb (get_or mask (l - 3) 0) 1) type_I (cond (leb 8 l) (cond (eqb (get_or mask (l - 4) 0) 1) type_II type_IV) type_III)) type_III)) SPC

-- the kind by the bytes at both ends
abbrev pub by_ends : List ℕ → Kind
by_ends mask = cond (eqb (get_or mask (length mask - 1) 0) 1) rate_0 (cond (eqb (get_or mask 0 0) 1) (mixed mask (length mask)) rate_1)

-- what these bytes tell of a mask of kind o
pub record Told (mask : List ℕ) (o : Option Kind) : Type 0 where
  pub nonempty : 0 < length mask
  pub zero : eqb (get_or mask (length mask - 1) 0) 1 ≡ is_kind rate_0 o
  pub one : eqb (get_or mask 0 0) 0 ≡ is_kind rate_1 o
  pub ends : some (by_ends mask) ≡ o

-- the first position is frozen and the last is not
told-mixed : (mask : List ℕ) (k : Kind) → 0 < front k (length mask) → front k (length mask) < length mask → mask ≡ only_first (front k (length mask)) (length mask)
    → is_kind rate_0 (some k) ≡ false → is_kind rate_1 (some k) ≡ false → mixed mask (length mask) ≡ k → Told mask (some k)
told-mixed mask k low high e a b q =
    let f : ℕ = front k (length mask) in
    let last : get_or mask (length mask - 1) 0 ≡ 0 = behind mask f (omega arith) e (length mask - 1) (omega arith) (omega arith) in
    let first : get_or mask 0 0 ≡ 1 = in_front mask f (omega arith) e 0 low in
    record { nonempty = omega arith; zero = rw (last, a); one = rw (first, b); ends = rw (last, first) (ap some q) }

told_by : (mask : List ℕ) (k : Kind) → own_size k ≤ length mask → mask ≡ only_first (front k (length mask)) (length mask) → Told mask (some k)
told_by mask rate_0 h e =
    let last : get_or mask (length mask - 1) 0 ≡ 1 = in_front mask (length mask) (omega arith) e (length mask - 1) (omega arith) in
    record { nonempty = h; zero = rw last; one = rw (in_front mask (length mask) (omega arith) e 0 h); ends = rw last }
told_by mask rate_1 h e =
    let last : get_or mask (length mask - 1) 0 ≡ 0 = behind mask 0 (omega arith) e (length mask - 1) (omega arith) (omega arith) in
    let first : get_or mask 0 0 ≡ 0 = behind mask 0 (omega arith) e 0 (omega arith) h in
    record { nonempty = h; zero = rw last; one = rw first; ends = rw (last, first) }
told_by mask SPC h e =
    told-mixed mask SPC (omega arith) (omega arith) e refl refl (rw (behind mask 1 (omega arith) e 1 (omega arith) (omega arith)))
told_by mask REP h e =
    let f : ℕ = length mask - 1 in
    told-mixed mask REP (omega arith) (omega arith) e refl refl (rw (in_front mask f (omega arith) e 1 (omega arith), in_front mask f (omega arith) e (length mask - 2) (omega arith)))
told_by mask type_III h e =
    let second : get_or mask 1 0 ≡ 1 = in_front mask 2 (omega arith) e 1 (omega arith) in
    let last-but-one : get_or mask (length mask - 2) 0 ≡ 0 = behind mask 2 (omega arith) e (length mask - 2) (omega arith) (omega arith) in
    told-mixed mask type_III (omega arith) (omega arith) e refl refl (rw (second, last-but-one, behind mask 2 (omega arith) e 2 (omega arith) (omega arith)))
told_by mask type_I h e =
    let f : ℕ = length mask - 2 in
    let second : get_or mask 1 0 ≡ 1 = in_front mask f (omega arith) e 1 (omega arith) in
    let last-but-one : get_or mask (length mask - 2) 0 ≡ 0 = behind mask f (omega arith) e (length mask - 2) (omega arith) (omega arith) in
    let third : get_or mask 2 0 ≡ 1 = in_front mask f (omega arith) e 2 (omega arith) in
    told-mixed mask type_I (omega arith) (omega arith) e refl refl (rw (second, last-but-one, third, in_front mask f (omega arith) e (length mask - 3) (omega arith)))
told_by mask type_II h e =
    let f : ℕ = length mask - 3 in
    let second : get_or mask 1 0 ≡ 1 = in_front mask f (omega arith) e 1 (omega arith) in
    let last-but-one : get_or mask (length mask - 2) 0 ≡ 0 = behind mask f (omega arith) e (length mask - 2) (omega arith) (omega arith) in
    let third : get_or mask 2 0 ≡ 1 = in_front mask f (omega arith) e 2 (omega arith) in
    let last-but-two : get_or mask (length mask - 3) 0 ≡ 0 = behind mask f (omega arith) e (length mask - 3) (omega arith) (omega arith) in
    told-mixed mask type_II (omega arith) (omega arith) e refl refl
    (rw (second, last-but-one, third, last-but-two, le-leb 8 (length mask) h, in_front mask f (omega arith) e (length mask - 4) (omega arith)))
told_by mask type_IV h e =
    let second : get_or mask 1 0 ≡ 1 = in_front mask 3 (omega arith) e 1 (omega arith) in
    let last-but-one : get_or mask (length mask - 2) 0 ≡ 0 = behind mask 3 (omega arith) e (length mask - 2) (omega arith) (omega arith) in
    let third : get_or mask 2 0 ≡ 1 = in_front mask 3 (omega arith) e 2 (omega arith) in
    let last-but-two : get_or mask (length mask - 3) 0 ≡ 0 = behind mask 3 (omega arith) e (length mask - 3) (omega arith) (omega arith) in
    told-mixed mask type_IV (omega arith) (omega arith) e refl refl
    (rw (second, last-but-one, third, last-but-two, le-leb 8 (length mask) h, behind mask 3 (omega arith) e (length mask - 4) (omega arith) (omega arith)))

-- the mask by its own bytes
pub record Read (mask : List ℕ) (o : Option Kind) : Type 0 where
  pub nonempty : 0 < length mask
  pub zero : not (eqb (get_or mask (length mask - 1) 0) 0) ≡ is_kind rate_0 o
  pub one : eqb (get_or mask 0 0) 0 ≡ is_kind rate_1 o
  pub ends : some (by_ends (frozen_to_zero mask)) ≡ o

frozen-test : (mask : List ℕ) (i : ℕ) → eqb (get_or (frozen_to_zero mask) i 0) 1 ≡ not (eqb (get_or mask i 0) 0)
frozen-test mask i = ap (λ (b : ℕ). eqb b 1) (to_zero_at mask i) ∙ go (is_unfrozen (get_or mask i 0))
  where
    go : (c : Bool) → eqb (cond c 0 1) 1 ≡ not c
    go true = refl
    go false = refl

pub told : (mask : List ℕ) → T (is_some (kind_of (length mask) mask)) → Read mask (kind_of (length mask) mask)
told mask t = go (kind_of (length mask) mask) refl t
  where
    go : (o : Option Kind) → kind_of (length mask) mask ≡ o → T (is_some o) → Read mask o
    go none e t = absurd t
    go (some k) e t =
        let m : List ℕ = frozen_to_zero mask in
        let fit = kind_facts (length mask) mask k e in
        let own = own-size k (length mask) fit.0 (ap (kind_of (length mask)) (sym fit.1) ∙ kinds-alike (length mask) mask ∙ e) in
        let r : Told m (some k) =
        told_by m k (rw (to_zero_length mask) own) (fit.1 ∙ (pattern-run k (length mask) fit.0).1 ∙ ap (λ (n : ℕ). only_first (front k n) n) (sym (to_zero_length mask))) in
        record {
          nonempty = rw (to_zero_length mask) at r.nonempty;
          zero = sym (frozen-test mask (length mask - 1)) ∙ ap (λ (n : ℕ). eqb (get_or m (n - 1) 0) 1) (sym (to_zero_length mask)) ∙ r.zero;
          one = sym (ap is_unfrozen (to_zero_at mask 0) ∙ to_zero_unfrozen (get_or mask 0 0)) ∙ r.one;
          ends = r.ends;
        }

-- the test of a byte
pub frozen : (mask : List ℕ) (i : ℕ) → (get_or mask i 0 ≡ 0 → ⊥) → eqb (get_or (frozen_to_zero mask) i 0) 1 ≡ true
frozen mask i h = frozen-test mask i ∙ ap not (eqb_apart (get_or mask i 0) 0 h)

pub unfrozen : (mask : List ℕ) (i : ℕ) → get_or mask i 0 ≡ 0 → eqb (get_or (frozen_to_zero mask) i 0) 1 ≡ false
unfrozen mask i h = frozen-test mask i ∙ ap (λ (b : ℕ). not (eqb b 0)) h

-- the kind by the bytes at both ends, places counted in the mask
abbrev pub by_places : List ℕ → Kind
by_places mask =
    let m : List ℕ = frozen_to_zero mask in
    let l : ℕ = length mask in
    cond (eqb (get_or m (l - 1) 0) 1) rate_0 (cond (eqb (get_or m 0 0) 1) (mixed m l) rate_1)

pub by_ends_lem : (mask : List ℕ) (k : Kind) → least_size k ≤ length mask → by_places mask ≡ k → short_side (front k (length mask)) mask ≡ true → Ends mask (some k) (front k (length mask))
by_ends_lem mask k h e short =
    record { kind = k; named = refl; run = refl; room = h; only = λ t. ap some (sym (ends ∙ e)) ∙ (told mask t).ends; short = short }
  where
    ends : by_ends (frozen_to_zero mask) ≡ by_places mask
    ends = rw (to_zero_length mask)

-- a frozen byte and one that is not stand at two places
pub apart : (mask : List ℕ) (i j : ℕ) → (get_or mask i 0 ≡ 0 → ⊥) → get_or mask j 0 ≡ 0 → i ≡ j → ⊥
apart mask i j a b e = a (ap (λ (n : ℕ). get_or mask n 0) e ∙ b)

-- ---- what the code concludes from the ends
-- an empty part of the mask is of no kind
pub empty : (mask : List ℕ) → length mask ≡ 0 → none ≡ kind_of (length mask) mask
empty mask h = unfold kind_of first_of in rw h

module _ (mask : List ℕ) {o : Option Kind} {f : ℕ} (E : Ends mask o f) where
  -- the run is that of the kind's pattern
  pub inside : f ≤ length mask
  inside = omega (arith, E.run, (pattern-run E.kind (length mask) E.room).0)

  as_run : pattern E.kind (length mask) ≡ only_first f (length mask)
  as_run = (pattern-run E.kind (length mask) E.room).1 ∙ ap (λ (n : ℕ). only_first n (length mask)) (sym E.run)

  -- the longer side is left to be tested
  side_left : same (frozen_to_zero mask) (only_first f (length mask)) ≡ long_side f mask
  side_left = run-test mask f inside ∙ go (leb (f + f) (length mask)) _ _ E.short
    where
      go : (b x y : Bool) → cond b x y ≡ true → (x && y) ≡ cond b y x
      go true x y e = ap (λ (z : Bool). z && y) e
      go false x y e = ap (λ (z : Bool). x && z) e ∙ and-true x

  pub of_run : long_side f mask ≡ true → o ≡ kind_of (length mask) mask
  of_run e = E.only (unfold kind_of in finds order (fits (length mask) mask) E.kind fit (has-order E.kind))
    where
      fit : T (fits (length mask) mask E.kind)
      fit =
          and_T (leb (least_size E.kind) (length mask)) (same (frozen_to_zero mask) (pattern E.kind (length mask))) (true-T _ (le-leb (least_size E.kind) (length mask) E.room))
          (true-T _ (ap (same (frozen_to_zero mask)) as_run ∙ side_left ∙ e))

  pub no_run : long_side f mask ≡ false → none ≡ kind_of (length mask) mask
  no_run e = go (kind_of (length mask) mask) refl
    where
      go : (q : Option Kind) → kind_of (length mask) mask ≡ q → none ≡ q
      go none q = refl
      go (some k) q =
          let is : kind_of (length mask) mask ≡ some E.kind = sym (E.only (rw q tt)) ∙ E.named in
          absurd (absurd_bool (same (frozen_to_zero mask) (frozen_to_zero mask)) (same_refl (frozen_to_zero mask)) (ap (same (frozen_to_zero mask)) ((kind_facts (length mask) mask E.kind is).1 ∙ as_run) ∙ side_left ∙ e))

-- ---- a side that is broken, one that is kept to, and one more byte
and_none : (b : Bool) → (b && false) ≡ false
and_none true = refl
and_none false = refl

not-all : (b : ℕ) (l : List ℕ) (i : ℕ) → i < length l → (get_or l i 0 ≡ b → ⊥) → all_are b l ≡ false
unfolding all_are
not-all b [] i lt n = absurd (omega arith)
not-all b (x ∷ xs) zero lt n = rw (ne_eqb x b n)
not-all b (x ∷ xs) (suc i) lt n = ap (λ (z : Bool). eqb x b && z) (not-all b xs i (omega arith) n) ∙ and_none (eqb x b)

all_of : (b : ℕ) (l : List ℕ) → ((i : ℕ) → i < length l → get_or l i 0 ≡ b) → all_are b l ≡ true
unfolding all_are
all_of b [] h = refl
all_of b (x ∷ xs) h = ap₂ (λ (y z : Bool). y && z) (eq-eqb x b (h 0 (omega arith))) (all_of b xs (λ i lt. h (suc i) (omega arith)))

abbrev pub Frozen : List ℕ → ℕ → Type 0
Frozen mask i = get_or mask i 0 ≡ 0 → ⊥

abbrev pub Unfrozen : List ℕ → ℕ → Type 0
Unfrozen mask i = get_or mask i 0 ≡ 0

-- a position of either side
module _ (mask : List ℕ) (f i : ℕ) where
  byte-front : i < f → get_or (frozen_to_zero (take f mask)) i 0 ≡ cond (is_unfrozen (get_or mask i 0)) 0 1
  byte-front lt = to_zero_at (take f mask) i ∙ ap (λ (x : ℕ). cond (is_unfrozen x) 0 1) (get_or-take f mask i 0 lt)

  byte-back : get_or (frozen_to_zero (drop f mask)) i 0 ≡ cond (is_unfrozen (get_or mask (f + i) 0)) 0 1
  byte-back = to_zero_at (drop f mask) i ∙ ap (λ (x : ℕ). cond (is_unfrozen x) 0 1) (get_or-drop f mask i 0)

is_one : (x : ℕ) → (x ≡ 0 → ⊥) → ◌≡◌ {A = ℕ} (cond (is_unfrozen x) 0 1) 1
is_one x n = ap (λ (b : Bool). cond b 0 1) (ne_eqb x 0 n)

is_zero : (x : ℕ) → x ≡ 0 → ◌≡◌ {A = ℕ} (cond (is_unfrozen x) 0 1) 0
is_zero x e = ap (λ (b : Bool). cond b 0 1) (eq-eqb x 0 e)

module _ (mask : List ℕ) (f : ℕ) where
  pub front_broken : (i : ℕ) → f ≤ length mask → i < f → Unfrozen mask i → all_are 1 (frozen_to_zero (take f mask)) ≡ false
  front_broken i le lt u =
      not-all 1 (frozen_to_zero (take f mask)) i (omega (arith, to_zero_length (take f mask), length-take-le f mask le))
      (λ e. let q : 0 ≡ 1 = sym (byte-front mask f i lt ∙ is_zero (get_or mask i 0) u) ∙ e in omega arith)

  pub back_broken : (i : ℕ) → f ≤ i → i < length mask → Frozen mask i → all_are 0 (frozen_to_zero (drop f mask)) ≡ false
  back_broken i le lt n =
      not-all 0 (frozen_to_zero (drop f mask)) (i - f) (omega (arith, to_zero_length (drop f mask), length-drop f mask))
      (λ e. let q : 1 ≡ 0 = sym (byte-back mask f (i - f) ∙ ap (λ (j : ℕ). cond (is_unfrozen (get_or mask j 0)) 0 1) (let d : f + (i - f) ≡ i = omega arith in d) ∙ is_one (get_or mask i 0) n) ∙ e in omega arith)

  -- which side is the longer
  pub long-back : f + f ≤ length mask → long_side f mask ≡ all_are 0 (frozen_to_zero (drop f mask))
  long-back le = ap (λ (b : Bool). cond b (all_are 0 (frozen_to_zero (drop f mask))) (all_are 1 (frozen_to_zero (take f mask)))) (le-leb (f + f) (length mask) le)

  pub long-front : length mask < f + f → long_side f mask ≡ all_are 1 (frozen_to_zero (take f mask))
  long-front lt = ap (λ (b : Bool). cond b (all_are 0 (frozen_to_zero (drop f mask))) (all_are 1 (frozen_to_zero (take f mask)))) (lt-leb (f + f) (length mask) lt)

  -- the shorter side is kept to
  pub short_by : f ≤ length mask → (f + f ≤ length mask → (i : ℕ) → i < f → Frozen mask i) → (length mask < f + f → (i : ℕ) → f ≤ i → i < length mask → Unfrozen mask i) → short_side f mask ≡ true
  short_by le front_kept back-kept = go (leb (f + f) (length mask)) refl
    where
      go : (b : Bool) → leb (f + f) (length mask) ≡ b → cond b (all_are 1 (frozen_to_zero (take f mask))) (all_are 0 (frozen_to_zero (drop f mask))) ≡ true
      go true e =
          all_of 1 (frozen_to_zero (take f mask)) (λ i lt.
          let below : i < f = omega (arith, to_zero_length (take f mask), length-take-le f mask le) in
          byte-front mask f i below ∙ is_one (get_or mask i 0) (front_kept (leb-true (f + f) (length mask) e) i below))
      go false e =
          all_of 0 (frozen_to_zero (drop f mask)) (λ i lt.
          byte-back mask f i ∙ is_zero (get_or mask (f + i) 0) (back-kept (omega (arith, leb-false (f + f) (length mask) e)) (f + i) (omega arith) (omega (arith, to_zero_length (drop f mask), length-drop f mask))))

-- what holds below n and at n, and what holds from g on and at the place before
pub below_more : (P : ℕ → Type 0) (n : ℕ) → ((i : ℕ) → i < n → P i) → P n → (i : ℕ) → i < suc n → P i
below_more P n h p i lt = ⊎_elim (λ e. subst P (sym e) p) (λ l. h i l) (eq-or-lt_of_le (le_of_suc-le-suc lt))

pub above_more : (P : ℕ → Type 0) (f g m : ℕ) → g ≤ suc f → ((i : ℕ) → g ≤ i → i < m → P i) → P f → (i : ℕ) → f ≤ i → i < m → P i
above_more P f g m next h p i le lt = ⊎_elim (λ e. subst P e p) (λ l. h i (omega arith) lt) (eq-or-lt_of_le le)

pub alike-more : (byte : ℕ) (alike : Bool) (part : List ℕ) (i : ℕ) → i < length part
    → (alike && all_are byte (frozen_to_zero (drop i part))) ≡ ((alike && eqb (cond (is_unfrozen (get_or part i 0)) 0 1) byte) && all_are byte (frozen_to_zero (drop (i + 1) part)))
unfolding all_are frozen_to_zero
alike-more byte alike part i h =
    rw (add-one, drop-cons part i 0) (sym (and_assoc alike (eqb (cond (is_unfrozen (get_or part i 0)) 0 1) byte) (all_are byte (frozen_to_zero (drop (suc i) part)))))

pub alike_end : (byte : ℕ) (alike : Bool) (part : List ℕ) (i : ℕ) → length part ≤ i → (alike && all_are byte (frozen_to_zero (drop i part))) ≡ alike
unfolding all_are frozen_to_zero
alike_end byte alike part i h = rw (drop_of_length-le part h) (and-true alike)

-- the kind found from the part of the mask
pub kind-part : (mask : List ℕ) (b s : ℕ) → b + s ≤ length mask
    → kind_of (length (take (b + s - b) (drop b mask))) (take (b + s - b) (drop b mask)) ≡ kind_of s (take s (drop b mask))
kind-part mask b s le =
    let n : b + s - b ≡ s = omega arith in
    ap (λ (k : ℕ). kind_of (length (take k (drop b mask))) (take k (drop b mask))) n
    ∙ ap (λ (k : ℕ). kind_of k (take s (drop b mask))) (length-take-le s (drop b mask) (omega (arith, length-drop b mask)))
