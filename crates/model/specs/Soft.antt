-- Soft values: a whole number, certain of a 0 (∞), or certain of a 1 (-∞). Assumes nothing.
use Rattle.std.specs.Prelude.{ℕ, suc, min, Bool, true, false, cond, not, List, eqb, get_or, ℤ, pos, negsuc, neg_ℤ, nat_abs, ◌+ℤ◌}

pub data Soft : Type 0 where
  finite : ℤ → Soft
  certain certain_one : Soft

abbrev pub soft_zero : Soft
soft_zero = finite (pos 0)

-- L[k]
infixl 90 ◌at◌
abbrev pub ◌at◌ : List Soft → ℕ → Soft
L at k = get_or L k soft_zero

abbrev pub negative : ℤ → Bool
negative (pos n) = false
negative (negsuc n) = true

-- the number of a given sign and size: negative where the sign is true
abbrev pub signed : Bool → ℕ → ℤ
signed false n = pos n
signed true n = neg_ℤ (pos n)

-- the product of two signs
abbrev pub differ : Bool → Bool → Bool
differ false b = b
differ true b = not b

-- the smaller of |a| and |b| as its size and the product of the signs
unfoldable pub box_ℤ : ℤ → ℤ → ℤ
box_ℤ a b = signed (differ (negative a) (negative b)) (min (nat_abs a) (nat_abs b))

-- neither ∞ nor -∞
abbrev pub Finite : Soft → Type 0
Finite (finite a) = Unit {0}
Finite certain = ⊥
Finite certain_one = ⊥

-- minus a soft value
abbrev pub negate : Soft → Soft
negate (finite a) = finite (neg_ℤ a)
negate certain = certain_one
negate certain_one = certain

-- box(a, ∞) = a and box(a, -∞) = -a
unfoldable pub box : Soft → Soft → Soft
box certain b = b
box certain_one b = negate b
box (finite a) certain = finite a
box (finite a) certain_one = finite (neg_ℤ a)
box (finite a) (finite b) = finite (box_ℤ a b)

-- ∞ plus a finite number is ∞, and -∞ plus a finite number is -∞. ∞ and -∞ are never added: in every sum of SCAN one of the two values is finite
-- (proofs/Theorems.antt, `sums_meet`). Here their sum would be ∞, so that sums may be regrouped.
unfoldable pub plus : Soft → Soft → Soft
plus certain b = certain
plus certain_one certain = certain
plus certain_one certain_one = certain_one
plus certain_one (finite b) = certain_one
plus (finite a) certain = certain
plus (finite a) certain_one = certain_one
plus (finite a) (finite b) = finite (a +ℤ b)

-- an LLR is within ± this
abbrev pub max_llr : ℕ
max_llr = 32767

-- 2147483647 is the mark "certain", ∞; -2147483647 is the mark of -∞
abbrev pub mark : ℕ
mark = 2147483647

-- the signed 32-bit number that stands for a soft value
abbrev pub word_of : Soft → ℤ
word_of (finite z) = z
word_of certain = pos mark
word_of certain_one = neg_ℤ (pos mark)

-- the soft value of a word
abbrev pub soft_of : ℤ → Soft
soft_of (pos n) = cond (eqb n mark) certain (finite (pos n))
soft_of (negsuc n) = cond (eqb (suc n) mark) certain_one (finite (negsuc n))
