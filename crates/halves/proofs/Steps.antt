-- What the loops read, and the right child's incoming list: boxes first, and then the part that starts at c is added to them. Assumes nothing.
use mathlib.Core.Path.{◌≡◌, sym, ap, ap₂, ◌∙◌, subst, subst₂}
use mathlib.Core.Logic.{⊎_elim}
use lib.IntN.{ℤ, pos}
use mathlib.Core.List.{List}
use Prim.Native.Nat.{ℕ, ◌+◌, ◌-◌, ◌^◌, ◌≤◌, ◌<◌}
use native.Mathlib.Omega.{arith}
use lib.ListN.{length, get_or, drop, length-drop}
use lib.Seq.{length-take-le}
use borrow.Rule.Slice.PartMut.{mid_of, put_mid}
use lib.Signed.{mag}
use mir.Val.{to_z, of_z}
use mir.Syntax.{w32}
use Rattle.words.specs.Words.{Word, word, write, box_word, add_word, Added, Finite}
use Rattle.halves.specs.Halves.{Apart, Inside, Sources, box_at, box_plus, plus_box, plus_front, left_at, right_at, LeftPlace, RightPlace, RightAt}
use Rattle.words.proofs.Signed.{back}
use Rattle.words.proofs.Loops.{Stored}
use Rattle.words.proofs.Store.{length-write, write_in, write-below, write_ext, write-over, write_mid, get_or_mid, source-above, source-below}

-- word i of a source that shares no word with what a loop stores
module _ {w₀ w : List ℤ} {d h k : ℕ} {f : ℕ → ℤ} (s : Stored w₀ d h f k w) where
  same : (i b : ℕ) → i < h → Apart h d b → word w (b + i) ≡ word w₀ (b + i)
  same i b lt apart = ⊎_elim
      (λ (p : d + h ≤ b). source-above (pos 0) w₀ w d k f (b + i) s.words (omega (arith, s.few)))
      (λ (p : b + h ≤ d). source-below (pos 0) w₀ w d k f (b + i) s.words (omega arith))
      apart

  pub source : k < h → (b : ℕ) → Apart h d b → mag (word w (b + k)) < 2 ^ 31 → to_z w32 (of_z w32 (word w (b + k))) ≡ word w₀ (b + k)
  source lt b apart given = back given ∙ same k b lt apart

-- the part that starts at b
abbrev pub from : ℕ → List ℤ → List ℤ
from b w = mid_of b (length w - b) w

in_part : (w : List ℤ) (e i : ℕ) → e + i < length w → word (from e w) i ≡ word w (e + i)
in_part w e i lt = get_or_mid (pos 0) w e (length w - e) i (omega arith)

part-long : (w : List ℤ) (e i : ℕ) → e + i < length w → i < length (from e w)
part-long w e i lt = omega (arith, length-take-le (length w - e) (drop e w) (omega (arith, length-drop e w)))

-- place i of three sources, one of them a part of its own: what is asked there, and what is found
module _ {w : List ℤ} {d a b c h : ℕ} (src : Inside w d a b c h) (i : ℕ) (lt : i < h) where
  pub left-found : left_at w (from b w) a c i ≡ box_plus w a b c i
  left-found = ap (λ (z : ℤ). box_word (word w (a + i)) (add_word z (word w (c + i)))) (in_part w b i (omega (arith, src.fit)))

  pub right-asked : RightPlace w a b c i → RightAt w (from c w) a b i
  right-asked place = record {
    there = (omega (arith, src.fit), omega (arith, src.fit), part-long w c i (omega (arith, src.fit)));
    first = place.0;
    message = place.1;
    sum = subst (Finite (box_at w a b i)) (sym (in_part w c i (omega (arith, src.fit)))) place.2;
  }

  pub right-found : right_at w (from c w) a b i ≡ plus_box w a b c i
  right-found = ap (add_word (box_at w a b i)) (in_part w c i (omega (arith, src.fit)))

-- place i of three sources, while a loop stores elsewhere: what a place requires, and what it holds, is as at the start
module _ {w₀ w : List ℤ} {d a b c h k : ℕ} {f : ℕ → ℤ} (src : Sources w₀ d a b c h) (s : Stored w₀ d h f k w) where
  pub held : (m : ℕ) → m ≤ h → Inside w d a b c m
  held m le = let fit = src.held.fit in let long = s.long in record { fit = (omega arith, omega arith, omega arith, omega arith) }

  module _ (i : ℕ) (lt : i < h) where
    at_a : word w (a + i) ≡ word w₀ (a + i)
    at_a = same s i a lt src.apart.0

    at_b : word w (b + i) ≡ word w₀ (b + i)
    at_b = same s i b lt src.apart.1

    at_c : word w (c + i) ≡ word w₀ (c + i)
    at_c = same s i c lt src.apart.2

    pub left-place : Word (word w₀ (a + i)) → Added (word w₀ (b + i)) (word w₀ (c + i)) → LeftPlace w a b c i
    left-place first sum = (subst Word (sym at_a) first, subst₂ Added (sym at_b) (sym at_c) sum)

    pub left-same : box_plus w a b c i ≡ box_plus w₀ a b c i
    left-same = ap₂ box_word at_a (ap₂ add_word at_b at_c)

    pub right-place : Word (word w₀ (a + i)) → Word (word w₀ (b + i)) → Finite (box_at w₀ a b i) (word w₀ (c + i)) → RightPlace w a b c i
    right-place first message sum = (subst Word (sym at_a) first, subst Word (sym at_b) message, subst₂ Finite (sym (ap₂ box_word at_a at_b)) (sym at_c) sum)

    pub right-same : plus_box w a b c i ≡ plus_box w₀ a b c i
    right-same = ap₂ add_word (ap₂ box_word at_a at_b) at_c

-- the words that the part that starts at c has to add
module _ (w v : List ℤ) (d a b c h : ℕ) (fit : d + h ≤ length w) (le : c + h ≤ d) (ev : v ≡ write w d h (box_at w a b)) (k : ℕ) (lt : k < h) where
  long : length v ≡ length w
  long = ap length ev ∙ length-write (pos 0) w d h (box_at w a b)

  pub front-own : get_or (mid_of c (length v - c) v) (d - c + k) (pos 0) ≡ box_at w a b k
  front-own =
      get_or_mid (pos 0) v c (length v - c) (d - c + k) (omega (arith, long))
      ∙ ap (λ (i : ℕ). get_or v i (pos 0)) (let e : c + (d - c + k) ≡ d + k = omega arith in e)
      ∙ ap (λ (l : List ℤ). get_or l (d + k) (pos 0)) ev ∙ write_in (pos 0) w d h (box_at w a b) k lt fit

  pub front-other : get_or (mid_of c (length v - c) v) k (pos 0) ≡ get_or w (c + k) (pos 0)
  front-other =
      get_or_mid (pos 0) v c (length v - c) k (omega (arith, long))
      ∙ ap (λ (l : List ℤ). get_or l (c + k) (pos 0)) ev ∙ write-below (pos 0) w d h (box_at w a b) (c + k) (omega arith)

  pub plus-front_law : plus_front (mid_of c (length v - c) v) (d - c) k ≡ plus_box w a b c k
  plus-front_law = ap₂ add_word front-own front-other

-- box first, and then the part that starts at c is added
pub plus-box_law : (w v part : List ℤ) (d a b c h : ℕ) → d + h ≤ length w → c + h ≤ d → v ≡ write w d h (box_at w a b)
    → part ≡ write (mid_of c (length v - c) v) (d - c) h (plus_front (mid_of c (length v - c) v) (d - c))
    → put_mid c (length v - c) v part ≡ write w d h (plus_box w a b c)
plus-box_law w v part d a b c h fit le ev ep =
    let long : length v ≡ length w = ap length ev ∙ length-write (pos 0) w d h (box_at w a b) in
    let rest : List ℤ = mid_of c (length v - c) v in
    let at-d : c + (d - c) ≡ d = omega arith in
    ap (λ (l : List ℤ). put_mid c (length v - c) v l) ep
    ∙ write_mid (pos 0) v c (length v - c) (d - c) h (plus_front rest (d - c)) (omega arith) (omega arith)
    ∙ ap (λ (i : ℕ). write v i h (plus_front rest (d - c))) at-d
    ∙ write_ext (pos 0) v d h (plus_front rest (d - c)) (plus_box w a b c) (plus-front_law w v d a b c h fit le ev)
    ∙ ap (λ (l : List ℤ). write l d h (plus_box w a b c)) ev
    ∙ write-over (pos 0) w d h (box_at w a b) (plus_box w a b c) fit
