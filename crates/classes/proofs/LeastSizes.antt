-- The two least sizes and the parity of the signs: of two lists together, and a turn of a loop that gathers them. Assumes nothing.
use mathlib.Core.Path.{◌≡◌, sym, ap, ap₂, ◌∙◌}
use mathlib.Core.Bool.{Bool, false}
use mathlib.Core.Logic.{◌⊎◌, inl, inr}
use mathlib.Core.List.{List, [], ◌∷◌, ◌++◌}
use Prim.Native.Nat.{ℕ, ◌≤◌, min, max}
use native.Mathlib.Nat.{min_comm, max_comm, min-eq_left, min-eq_right, max-eq_left, max-eq_right}
use native.Mathlib.Omega.{arith, min_cases}
use lib.IntN.{ℤ, nat_abs}
use Rattle.model.proofs.Algebra.{differ_comm, differ-assoc}
use Rattle.model.specs.Soft.{negative, differ, mark}
use Rattle.words.specs.Words.{Word}
use Rattle.classes.specs.declared.Gathered.{Gathered}
use Rattle.classes.specs.LeastSizes.{least, next, parity, gather_of}

-- ---- signs and sizes

pub differ-false : (a : Bool) → differ a false ≡ a
differ-false a = differ_comm a false

pub least-mark : (l : List ℤ) → least l ≤ mark
unfolding least
least-mark [] = omega arith
least-mark (x ∷ xs) = omega (arith, least-mark xs)

pub next-mark : (l : List ℤ) → next l ≤ mark
unfolding next
next-mark [] = omega arith
next-mark (x ∷ xs) = omega (arith, next-mark xs)

-- ---- what is gathered of two lists together
pub either : (a b : ℕ) → (a ≤ b) ⊎ (b ≤ a)
either a b = min_cases a b ((a ≤ b) ⊎ (b ≤ a)) (λ p e. inl p) (λ p e. inr p)

median : (a b c : ℕ) → min (max a b) (max (min a b) c) ≡ min (max b c) (max a (min b c))
median a b c = go (either a b) (either b c)
  where
    go : (a ≤ b) ⊎ (b ≤ a) → (b ≤ c) ⊎ (c ≤ b) → min (max a b) (max (min a b) c) ≡ min (max b c) (max a (min b c))
    go (inl p) (inl q) = rw (max-eq_right p, min-eq_left p, max-eq_right q, min-eq_left q) (omega arith)
    go (inl p) (inr q) = rw (max-eq_right p, min-eq_left p, max-eq_left q, min-eq_right q) (omega arith)
    go (inr p) (inl q) = rw (max-eq_left p, min-eq_right p, max-eq_right q, min-eq_left q) (omega arith)
    go (inr p) (inr q) = rw (max-eq_left p, min-eq_right p, max-eq_left q, min-eq_right q) (omega arith)

min_assoc : (a b c : ℕ) → min (min a b) c ≡ min a (min b c)
min_assoc a b c = omega arith

min-third : (b p n q : ℕ) → min (min (min b p) n) q ≡ min (min b n) (min p q)
min-third b p n q = omega arith

min-second : (b n p q : ℕ) → min (min b (min n p)) q ≡ min (min b n) (min p q)
min-second b n p q = omega arith

abbrev pub join : Gathered → Gathered → Gathered
join a b = record { least = min a.least b.least; next = min (min a.next b.next) (max a.least b.least); neg = differ a.neg b.neg }

join-comm : (a b : Gathered) → join a b ≡ join b a
join-comm a b = λ i. record { least = min_comm a.least b.least i; next = min (min_comm a.next b.next i) (max_comm a.least b.least i); neg = differ_comm a.neg b.neg i }

join-assoc : (a b c : Gathered) → join (join a b) c ≡ join a (join b c)
join-assoc a b c =
    let n =
    min-third (min a.next b.next) (max a.least b.least) c.next (max (min a.least b.least) c.least)
    ∙ ap₂ min (min_assoc a.next b.next c.next) (median a.least b.least c.least)
    ∙ sym (min-second a.next (min b.next c.next) (max b.least c.least) (max a.least (min b.least c.least))) in
    λ i. record { least = min_assoc a.least b.least c.least i; next = n i; neg = differ-assoc a.neg b.neg c.neg i }

join-pairs : (a b c d : Gathered) → join (join a b) (join c d) ≡ join (join a c) (join b d)
join-pairs a b c d =
    join-assoc a b (join c d)
    ∙ ap (join a) (sym (join-assoc b c d) ∙ ap (λ (g : Gathered). join g d) (join-comm b c) ∙ join-assoc c b d)
    ∙ sym (join-assoc a c (join b d))

-- a list's first number, and the others
pub gather_cons : (x : ℤ) (l : List ℤ) → gather_of (x ∷ l) ≡ join (gather_of (x ∷ [])) (gather_of l)
unfolding least next parity
gather_cons x l =
    let e = next-cut (nat_abs x) (least l) (next l) mark (least-mark l) (next-mark l) in
    λ i. record { least = least-cut (nat_abs x) (least l) mark (least-mark l) i; next = e i; neg = differ (sym (differ-false (negative x)) i) (parity l) }
  where
    least-cut : (x l m : ℕ) → l ≤ m → min x l ≡ min (min x m) l
    least-cut x l m h = omega arith

    none-cut : (x n m : ℕ) → n ≤ m → n ≡ min (min m (max x m)) n
    none-cut x n m h = omega arith

    next-cut : (x l n m : ℕ) → l ≤ m → n ≤ m → min n (max x l) ≡ min (min (min m (max x m)) n) (max (min x m) l)
    next-cut x l n m h h' =
        let e : min n (max x l) ≡ min n (max (min x m) l) = omega arith in
        e ∙ ap (λ (k : ℕ). min k (max (min x m) l)) (none-cut x n m h')

pub gather_append : (a l : List ℤ) → gather_of (a ++ l) ≡ join (gather_of a) (gather_of l)
unfolding least next parity
gather_append [] l =
    let a = least-mark l in
    let b = next-mark l in
    let e : least l ≡ min mark (least l) = omega arith in
    let f : next l ≡ min (min mark (next l)) (max mark (least l)) = omega arith in
    λ i. record { least = e i; next = f i; neg = parity l }
gather_append (x ∷ a) l =
    gather_cons x (a ++ l) ∙ ap (join (gather_of (x ∷ []))) (gather_append a l) ∙ sym (join-assoc (gather_of (x ∷ [])) (gather_of a) (gather_of l))
    ∙ ap (λ (g : Gathered). join g (gather_of l)) (sym (gather_cons x a))

-- one more list: its first number goes with k
pub gather_head : (x : ℤ) (a k r r' : List ℤ) → gather_of r ≡ join (gather_of k) (gather_of r') → gather_of ((x ∷ a) ++ r) ≡ join (gather_of (x ∷ k)) (gather_of (a ++ r'))
gather_head x a k r r' e =
    gather_append (x ∷ a) r ∙ ap₂ join (gather_cons x a) e ∙ join-pairs (gather_of (x ∷ [])) (gather_of a) (gather_of k) (gather_of r')
    ∙ ap₂ join (sym (gather_cons x k)) (sym (gather_append a r'))

-- ---- gathering: what is had so far, with the rest, gives the whole
abbrev pub Gath : ℕ → ℕ → Bool → List ℤ → List ℤ → Type 0
Gath m1 m2 neg rest whole = (m1 ≤ mark) × (m2 ≤ mark) × (join (record { least = m1; next = m2; neg = neg }) (gather_of rest) ≡ gather_of whole)

pub gath_none : (l : List ℤ) → Gath mark mark false l l
unfolding least next parity
gath_none l = (omega arith, omega arith, sym (gather_append [] l))

-- a turn that takes a part k of the list
pub gath_part : (m1 m2 : ℕ) (neg : Bool) (k r rest whole : List ℤ) → gather_of r ≡ join (gather_of k) (gather_of rest) → Gath m1 m2 neg r whole
    → Gath (min (least k) m1) (min (min m2 (next k)) (max (least k) m1)) (differ (parity k) neg) rest whole
gath_part m1 m2 neg k r rest whole e g =
    let a = g.0 in
    let b = g.1 in
    let so_far : Gathered = record { least = m1; next = m2; neg = neg } in (
      omega (arith, a),
      omega (arith, b),
      (λ i. join (record { least = min (least k) m1; next = min (min_comm m2 (next k) i) (max (least k) m1); neg = differ (parity k) neg }) (gather_of rest))
          ∙ ap (λ (j : Gathered). join j (gather_of rest)) (join-comm (gather_of k) so_far)
          ∙ join-assoc so_far (gather_of k) (gather_of rest) ∙ ap (join so_far) (sym e) ∙ g.2,
    )

-- a turn that takes one number
pub gath_turn : (m1 m2 : ℕ) (neg : Bool) (x : ℤ) (rest whole : List ℤ) → Word x → Gath m1 m2 neg (x ∷ rest) whole → Gath (min (nat_abs x) m1) (min m2 (max (nat_abs x) m1)) (differ (negative x) neg) rest whole
unfolding least next parity
gath_turn m1 m2 neg x rest whole h g =
    let b = g.1 in
    let e : min (nat_abs x) mark ≡ nat_abs x = omega arith in
    let f : min m2 (min mark (max (nat_abs x) mark)) ≡ m2 = omega (arith, b) in
    rw (e, f, differ-false (negative x)) at (gath_part m1 m2 neg (x ∷ []) (x ∷ rest) rest whole (gather_cons x rest) g)

pub gath_end : (m1 m2 : ℕ) (neg : Bool) (rest whole : List ℤ) → rest ≡ [] → Gath m1 m2 neg rest whole → ◌≡◌ {A = Gathered} (record { least = m1; next = m2; neg = neg }) (gather_of whole)
unfolding least next parity
gath_end m1 m2 neg rest whole e g =
    let a = g.0 in
    let b = g.1 in
    let p : m1 ≡ min m1 mark = omega (arith, a) in
    let q : m2 ≡ min (min m2 mark) (max m1 mark) = omega (arith, a, b) in
    (λ i. record { least = p i; next = q i; neg = sym (differ-false neg) i }) ∙ ap (λ (r : List ℤ). join (record { least = m1; next = m2; neg = neg }) (gather_of r)) (sym e) ∙ g.2
