-- Masks with positions frozen to 1. Such a mask is the mask with 1 for 2, flipped by the word of the frozen values; so is each kind's message. Assumes nothing.
use mathlib.Core.Path.{◌≡◌, refl, sym, ◌∙◌, ap, ap₂}
use mathlib.Core.Bool.{Bool, true, false, cond}
use mathlib.Core.Option.{some}
use mathlib.Core.List.{List, [], ◌∷◌, map}
use Prim.Native.Nat.{ℕ, zero, suc, ◌+◌, ◌^◌, ◌≤◌}
use native.Mathlib.Nat.{zero-add, add_comm}
use native.Mathlib.Numerals.{add-one}
use native.Mathlib.Omega.{arith}
use lib.Dec.{T, leb, leb→le, eqb}
use lib.ListN.{get_or, take, drop, length, replicate, get_or-map}
use borrow.Author.Tests.{eqb-true}
use Rattle.model.specs.Lists.{tabulate, at_most, bit, on_ones}
use Rattle.model.specs.Soft.{Soft, soft_zero, negate}
use Rattle.model.specs.Encoding.{◌⊕◌, max_mask, is_unfrozen, is_known_one, known_bits, known_word, frozen_to_zero, transform, unfrozen, payload_of}
use Rattle.model.specs.Scan.{Tree, leaf, node, message, left, right, leaf_value, start, FiniteAll, visit, scan, Decoded, decode_scan, flip_tree, flip_bit, flip_decoded}
use Rattle.model.specs.Kinds.{Kind, least_size, pattern, kind_of, shortcut, kind_message}
use Rattle.model.proofs.Lists.{take-map, drop-map, tabulate_same, cond_both, and_l, and_r, bit-small, on_ones-none, on_ones-kept, on_ones-twice}
use Rattle.model.proofs.Algebra.{negate-twice}
use Rattle.model.proofs.Transform.{transform-zero, transform-none}
use Rattle.model.proofs.FrozenPositions.{to_zero_at, to_zero_length, to_zero_l, to_zero_r, to_zero_unfrozen, to_zero_none}
use Rattle.model.proofs.Shortcuts.{flat, Sound, shortcut-visit, kind_facts}
use Rattle.model.proofs.Flips.{flipped, flipped-twice, flipped-eq, flip-visit, length_up, length-visit, Turned, soft-flip}
use Rattle.model.proofs.Decisions.{Shifted, shifted-turned, decode_flip, flip_twice, same_answer}

-- ---- places and halves
pub known_at : (mask : List ℕ) (k : ℕ) → get_or (known_bits mask) k 0 ≡ bit (is_known_one (get_or mask k 0))
unfolding known_bits
known_at mask k = get_or-map (λ m. bit (is_known_one m)) mask k 0

pub known-l : (n : ℕ) (mask : List ℕ) → take n (known_bits mask) ≡ known_bits (take n mask)
unfolding known_bits
known-l n mask = take-map (λ m. bit (is_known_one m)) n mask

pub known-r : (n : ℕ) (mask : List ℕ) → drop n (known_bits mask) ≡ known_bits (drop n mask)
unfolding known_bits
known-r n mask = drop-map (λ m. bit (is_known_one m)) n mask

-- of the bytes 0, 1 and 2, the 2 is replaced by 1
pub to_zero_replaces : (mask : List ℕ) → T (at_most max_mask mask) → frozen_to_zero mask ≡ map (λ m. cond (is_known_one m) 1 m) mask
unfolding frozen_to_zero at_most
to_zero_replaces [] b = refl
to_zero_replaces (m ∷ mask) b =
    ap₂ {C = List ℕ} (λ x xs. x ∷ xs) (each m (leb→le m max_mask (and_l (leb m max_mask) (at_most max_mask mask) b))) (to_zero_replaces mask (and_r (leb m max_mask) (at_most max_mask mask) b))
  where
    each : (m : ℕ) → m ≤ 2 → cond (is_unfrozen m) 0 1 ≡ cond (is_known_one m) 1 m
    each zero h = refl
    each (suc zero) h = refl
    each (suc (suc zero)) h = refl
    each (suc (suc (suc m))) h = let f : ⊥ = omega arith in absurd f

-- then no position is frozen to 1
not-one : (m : ℕ) → is_known_one (cond (is_unfrozen m) 0 1) ≡ false
not-one m = cond_both (λ (b : ℕ). is_known_one b ≡ false) (is_unfrozen m) refl refl

pub to_zero_plain : (mask : List ℕ) (k : ℕ) → is_known_one (get_or (frozen_to_zero mask) k 0) ≡ false
to_zero_plain mask k = ap is_known_one (to_zero_at mask k) ∙ not-one (get_or mask k 0)

pub known-shifted : (mask : List ℕ) → Shifted (known_bits mask) mask (frozen_to_zero mask)
known-shifted mask =
    record {
      sized = to_zero_length mask;
      bits = λ k. rw (known_at mask k) (bit-small (is_known_one (get_or mask k 0)));
      alike = λ k. rw (to_zero_at mask k) (to_zero_unfrozen (get_or mask k 0));
      known = λ k e. rw (to_zero_plain mask k, known_at mask k) (twice (is_known_one (get_or mask k 0)));
    }
  where
    twice : (c : Bool) → 0 ≡ bit c ⊕ bit c
    twice true = refl
    twice false = refl

pub known-turned : (n : ℕ) (mask : List ℕ) → Turned n (known_bits mask) mask (frozen_to_zero mask)
known-turned n mask = shifted-turned n (known_bits mask) mask (frozen_to_zero mask) (known-shifted mask)

-- ---- the state of a mask, flipped, is one of the mask with 1 for 2
sound_flip : (t : ℕ) (mask : List ℕ) (T : Tree) → Sound t mask T → Sound t (frozen_to_zero mask) (flip_tree t (known_bits mask) T)
unfolding flip_tree
sound_flip zero mask T S =
    ap (on_ones negate (transform 0 (known_bits mask))) S
    ∙ ap (λ w. on_ones negate w (leaf_value (get_or mask 0 0) ∷ [])) (transform-zero (known_bits mask))
    ∙ (unfold on_ones in ap (λ x. x ∷ []) (sym (known-turned 0 mask 0 (omega arith))))
sound_flip (suc t) mask T S = (
  λ e. ap (on_ones negate (transform (suc t) (known_bits mask))) (S.0 (to_zero_none mask (2 ^ suc t) e)) ∙ kept (transform (suc t) (known_bits mask)) (2 ^ suc t),
  rw (to_zero_l (2 ^ t) mask, known-l (2 ^ t) mask) (sound_flip t (take (2 ^ t) mask) (left T) S.1),
  rw (to_zero_r (2 ^ t) mask, known-r (2 ^ t) mask) (sound_flip t (drop (2 ^ t) mask) (right T) S.2),
)
  where
    kept : (w : List ℕ) (n : ℕ) → on_ones negate w (flat n soft_zero) ≡ flat n soft_zero
    kept w n = ap (on_ones negate w) (tabulate_same n soft_zero) ∙ on_ones-kept negate soft_zero refl w n ∙ sym (tabulate_same n soft_zero)

-- the start of a mask, flipped, is that of the mask with 1 for 2
pub start-flip : (t : ℕ) (mask : List ℕ) → flip_tree t (known_bits mask) (start t mask) ≡ start t (frozen_to_zero mask)
unfolding flip_tree start
start-flip zero mask =
    ap (λ w. leaf (on_ones negate w (leaf_value (get_or mask 0 0) ∷ []))) (transform-zero (known_bits mask))
    ∙ (unfold on_ones in ap (λ x. leaf (x ∷ [])) (sym (known-turned 0 mask 0 (omega arith))))
start-flip (suc t) mask =
    ap (λ m. node m (flip_tree t (take (2 ^ t) (known_bits mask)) (start t (take (2 ^ t) mask))) (flip_tree t (drop (2 ^ t) (known_bits mask)) (start t (drop (2 ^ t) mask))))
    (ap (on_ones negate (transform (suc t) (known_bits mask))) (tabulate_same (2 ^ suc t) soft_zero) ∙ on_ones-kept negate soft_zero refl (transform (suc t) (known_bits mask)) (2 ^ suc t) ∙ sym (tabulate_same (2 ^ suc t) soft_zero))
    ∙ ap₂ (node (tabulate (2 ^ suc t) (λ k. soft_zero)))
    (ap (λ u. flip_tree t u (start t (take (2 ^ t) mask))) (known-l (2 ^ t) mask) ∙ start-flip t (take (2 ^ t) mask) ∙ ap (start t) (sym (to_zero_l (2 ^ t) mask)))
    (ap (λ u. flip_tree t u (start t (drop (2 ^ t) mask))) (known-r (2 ^ t) mask) ∙ start-flip t (drop (2 ^ t) mask) ∙ ap (start t) (sym (to_zero_r (2 ^ t) mask)))

sound_length : (t : ℕ) (mask : List ℕ) (T : Tree) (L : List Soft) → Sound t mask T → length (message (visit t T L)) ≡ 2 ^ t
sound_length zero mask T L S = length-visit zero T L (ap length S)
sound_length (suc t) mask T L S = length_up t T L

-- ---- each kind's message is what SCAN walked to the leaves gives the node, for finite incoming values
pub kind-visit : (t : ℕ) (mask : List ℕ) (k : Kind) (T : Tree) (L : List Soft) → FiniteAll t L → kind_of (2 ^ t) mask ≡ some k → Sound t mask T
    → message (visit t T L) ≡ kind_message k t mask L
unfolding kind_message known_word
kind-visit t mask k T L F e S =
    let u : List ℕ = known_bits mask in
    let f : (least_size k ≤ 2 ^ t) × (frozen_to_zero mask ≡ pattern k (2 ^ t)) = kind_facts (2 ^ t) mask k e in
    let T' : Tree = flip_tree t u T in
    let S' : Sound t (frozen_to_zero mask) T' = sound_flip t mask T S in
    let m : message (visit t T' (flipped t u L)) ≡ flipped t u (message (visit t T L)) =
    flipped-eq t u (message (visit t T L)) (message (visit t T' (flipped t u L))) (sound_length t mask T L S) (sound_length t (frozen_to_zero mask) T' (flipped t u L) S') (flip-visit t u T L F) in
    sym (flipped-twice t u (message (visit t T L)))
    ∙ ap (flipped t u) (sym m ∙ shortcut-visit k t (frozen_to_zero mask) T' (flipped t u L) S' f.0 f.1)

-- with no position frozen to 1, the message of a kind is the table's column
pub plain_word : (n : ℕ) (mask : List ℕ) → known_word n (frozen_to_zero mask) ≡ replicate (2 ^ n) 0
unfolding known_word
plain_word n mask = transform-none n (known_bits (frozen_to_zero mask)) (λ k. known_at (frozen_to_zero mask) k ∙ ap bit (to_zero_plain mask k))

pub plain-message : (k : Kind) (t : ℕ) (mask : List ℕ) (L : List Soft) → kind_message k t (frozen_to_zero mask) L ≡ shortcut k (2 ^ t) L
unfolding kind_message
plain-message k t mask L =
    ap (λ w. on_ones negate w (shortcut k (2 ^ t) (on_ones negate w L))) (plain_word t mask)
    ∙ on_ones-none negate (2 ^ t) (shortcut k (2 ^ t) (on_ones negate (replicate (2 ^ t) 0) L))
    ∙ ap (shortcut k (2 ^ t)) (on_ones-none negate (2 ^ t) L)

-- ---- SCAN of a mask, from SCAN of the mask with 1 for 2: LLRs flipped by the word of the frozen values, soft values flipped back
pub soft-known : (n : ℕ) (mask : List ℕ) (L : List Soft) → FiniteAll n L → (k : ℕ)
    → scan n mask L k ≡ on_ones negate (known_word n mask) (scan n (frozen_to_zero mask) (on_ones negate (known_word n mask) L) k)
unfolding known_word
soft-known n mask L F k =
    let u : List ℕ = known_bits mask in
    sym (flipped-twice n u (scan n mask L k)) ∙ ap (flipped n u) (sym (soft-flip n u mask (frozen_to_zero mask) (known-turned n mask) L F k))

-- ---- the whole answer
-- the known bits stand at no unfrozen position
known-payload : (mask : List ℕ) → payload_of mask (known_bits mask) ≡ replicate (unfrozen mask) 0
unfolding payload_of known_bits unfrozen
known-payload [] = refl
known-payload (m ∷ mask) = go (eqb m 0) refl (known-payload mask)
  where
    rest : List ℕ
    rest = payload_of mask (map (λ m. bit (is_known_one m)) mask)

    go : (c : Bool) → eqb m 0 ≡ c → rest ≡ replicate (unfrozen mask) 0 → cond c (bit (eqb m 2) ∷ rest) rest ≡ replicate (bit c + unfrozen mask) 0
    go true e r = rw (add_comm 1 (unfrozen mask), add-one (unfrozen mask)) (ap₂ {C = List ℕ} (λ x xs. x ∷ xs) (ap (λ (x : ℕ). bit (eqb x 2)) (eqb-true m 0 e)) r)
    go false e r = rw (zero-add (unfrozen mask)) r

back : (w p : List ℕ) (m : ℕ) (d : Decoded) → p ≡ replicate m 0 → flip_decoded w [] (flip_decoded w p d) ≡ d
unfolding flip_decoded
back w p m d e =
    same_answer (on_ones-twice negate negate-twice w d.soft) (on_ones-twice flip_bit flip_twice w d.hard)
    (ap (λ x. on_ones flip_bit [] (on_ones flip_bit x d.payload)) e ∙ (unfold on_ones in on_ones-none flip_bit m d.payload)) refl refl

pub answer-known : (n : ℕ) (mask : List ℕ) → length mask ≡ 2 ^ n → (L : List Soft) → FiniteAll n L → (k : ℕ)
    → decode_scan n mask L k ≡ flip_decoded (known_word n mask) [] (decode_scan n (frozen_to_zero mask) (on_ones negate (known_word n mask) L) k)
unfolding known_word
answer-known n mask sized L F k =
    let u : List ℕ = known_bits mask in
    sym (back (transform n u) (payload_of mask u) (unfrozen mask) (decode_scan n mask L k) (known-payload mask))
    ∙ ap (flip_decoded (transform n u) []) (sym (decode_flip n u mask (frozen_to_zero mask) (known-shifted mask) sized L F k))
