-- How hard word, payload and frozen check move when LLRs and soft values are flipped by the word of v, for two masks that differ by v. Assumes nothing.
use mathlib.Core.Path.{◌≡◌, refl, sym, ◌∙◌, ap, ap₂, subst}
use mathlib.Core.Bool.{Bool, true, false, cond, ◌&&◌}
use mathlib.Core.List.{List, [], ◌∷◌}
use Prim.Native.Nat.{ℕ, zero, suc, ◌+◌, ◌^◌, ◌<◌, ◌≤◌, suc-le-suc}
use native.Mathlib.Decide.{ℕ_discrete}
use native.Mathlib.Omega.{arith}
use borrow.Author.Tests.{eq-eqb, ne_eqb}
use lib.Dec.{eqb}
use lib.IntN.{pos, negsuc}
use lib.ListN.{get_or, drop, length, replicate}
use lib.Seq.{ext_get_or}
use Rattle.model.specs.Lists.{tabulate, bit, on_ones}
use Rattle.model.specs.Soft.{Soft, finite, certain, certain_one, soft_zero, ◌at◌, plus, differ}
use Rattle.model.specs.Encoding.{◌⊕◌, transform, is_unfrozen, is_known_one, unfrozen, payload_of, frozen_match}
use Rattle.model.specs.Scan.{FiniteAll, leaf_value, hard_bit, hard_word, undecided_in, decided_payload, decided_check, Decoded, decided, flip_bit, flip_decoded, scan, decode_scan}
use Rattle.model.proofs.Lists.{length_tabulate, get_d_tabulate, bit-small, length-on_ones, on_ones-at, on_ones-kept}
use Rattle.model.proofs.Transform.{Bits, transform-bit, linear, undo-at}
use Rattle.model.proofs.TwoRuns.{minus, minus-sum}
use Rattle.model.proofs.Undecided.{length-hard, hard-at, hard-bits, payload-decided, check-decided, payload-undecided, check-undecided}
use Rattle.model.proofs.Flips.{turn, turn-zero, turn_twice, turn-plus_l, flipped, flipped-at, word-sign, Turned, soft-flip}

-- ---- a flipped hard word
pub flip_twice : (b : ℕ) → flip_bit (flip_bit b) ≡ b
flip_twice zero = refl
flip_twice (suc zero) = refl
flip_twice (suc (suc b)) = refl

hard-turn : (s : Bool) (x : Soft) → hard_bit (turn s x) ≡ cond s (flip_bit (hard_bit x)) (hard_bit x)
hard-turn false x = refl
hard-turn true certain = refl
hard-turn true certain_one = refl
hard-turn true (finite (pos zero)) = refl
hard-turn true (finite (pos (suc a))) = refl
hard-turn true (finite (negsuc a)) = refl

undecided-flip : (w hard : List ℕ) → undecided_in (on_ones flip_bit w hard) ≡ undecided_in hard
unfolding undecided_in on_ones
undecided-flip [] hard = refl
undecided-flip (b ∷ w) [] = refl
undecided-flip (b ∷ w) (x ∷ hard) = ap₂ ◌+◌ (each (eqb b 1) x) (undecided-flip w hard)
  where
    each : (c : Bool) (x : ℕ) → bit (eqb (cond c (flip_bit x) x) 2) ≡ bit (eqb x 2)
    each false x = refl
    each true zero = refl
    each true (suc zero) = refl
    each true (suc (suc x)) = refl

-- a place of a flipped list of bits
pub flip-at : (w hard : List ℕ) (k : ℕ) → k < length hard → get_or (on_ones flip_bit w hard) k 0 ≡ cond (eqb (get_or w k 0) 1) (flip_bit (get_or hard k 0)) (get_or hard k 0)
flip-at w hard k h = on_ones-at flip_bit 0 w hard k (λ l. let z : ⊥ = omega arith in absurd z)

-- where LLRs and soft values are negated where the word of v has a 1, the decided hard bits are flipped there
hard-flip : (n : ℕ) (v : List ℕ) (L s : List Soft) → FiniteAll n L → hard_word n (flipped n v L) (flipped n v s) ≡ on_ones flip_bit (transform n v) (hard_word n L s)
hard-flip n v L s F =
    ext_get_or 0 (hard_word n (flipped n v L) (flipped n v s)) (on_ones flip_bit (transform n v) (hard_word n L s))
    (length-hard n (flipped n v L) (flipped n v s) ∙ sym (length-on_ones flip_bit (transform n v) (hard_word n L s) ∙ length-hard n L s))
    (λ k h. each k (subst (λ (m : ℕ). k < m) (length-hard n (flipped n v L) (flipped n v s)) h))
  where
    each : (k : ℕ) → k < 2 ^ n → get_or (hard_word n (flipped n v L) (flipped n v s)) k 0 ≡ get_or (on_ones flip_bit (transform n v) (hard_word n L s)) k 0
    each k h =
        let σ : Bool = minus (get_or (transform n v) k 0) in
        hard-at n (flipped n v L) (flipped n v s) k h
        ∙ ap hard_bit (ap₂ plus (flipped-at n v L k h) (flipped-at n v s k h) ∙ turn-plus_l σ (L at k) (s at k) (F k h))
        ∙ hard-turn σ (plus (L at k) (s at k))
        ∙ ap₂ (λ (c : Bool) (b : ℕ). cond c (flip_bit b) b) (sym (word-sign n v k h)) (sym (hard-at n L s k h))
        ∙ sym (flip-at (transform n v) (hard_word n L s) k (subst (λ (m : ℕ). k < m) (sym (length-hard n L s)) h))

-- ---- the decoded u
pub flip-sum : (b x : ℕ) → x ≤ 1 → b ≤ 1 → cond (eqb b 1) (flip_bit x) x ≡ x ⊕ b
flip-sum zero zero h g = refl
flip-sum zero (suc zero) h g = refl
flip-sum (suc zero) zero h g = refl
flip-sum (suc zero) (suc zero) h g = refl
flip-sum zero (suc (suc x)) h g = let z : ⊥ = omega arith in absurd z
flip-sum (suc zero) (suc (suc x)) h g = let z : ⊥ = omega arith in absurd z
flip-sum (suc (suc b)) x h g = let z : ⊥ = omega arith in absurd z

pub u-flip : (n : ℕ) (v hard : List ℕ) → Bits n v → length hard ≡ 2 ^ n → Bits n hard → (k : ℕ) → k < 2 ^ n
    → get_or (transform n (on_ones flip_bit (transform n v) hard)) k 0 ≡ get_or (transform n hard) k 0 ⊕ get_or v k 0
u-flip n v hard Bv l Bh k h =
    ap (λ x. get_or (transform n x) k 0) sums
    ∙ linear n hard (transform n v) k h ∙ ap (λ (b : ℕ). get_or (transform n hard) k 0 ⊕ b) (undo-at n v Bv k h)
  where
    at_sum : (j : ℕ) → j < 2 ^ n → get_or (on_ones flip_bit (transform n v) hard) j 0 ≡ get_or (tabulate (2 ^ n) (λ j. get_or hard j 0 ⊕ get_or (transform n v) j 0)) j 0
    at_sum j m =
        flip-at (transform n v) hard j (subst (λ (x : ℕ). j < x) (sym l) m)
        ∙ flip-sum (get_or (transform n v) j 0) (get_or hard j 0) (Bh j m) (transform-bit n v j m)
        ∙ sym (get_d_tabulate (2 ^ n) (λ j. get_or hard j 0 ⊕ get_or (transform n v) j 0) j 0 m)

    sums : on_ones flip_bit (transform n v) hard ≡ tabulate (2 ^ n) (λ j. get_or hard j 0 ⊕ get_or (transform n v) j 0)
    sums =
        ext_get_or 0 (on_ones flip_bit (transform n v) hard) (tabulate (2 ^ n) (λ j. get_or hard j 0 ⊕ get_or (transform n v) j 0))
        (length-on_ones flip_bit (transform n v) hard ∙ l ∙ sym (length_tabulate (2 ^ n) (λ j. get_or hard j 0 ⊕ get_or (transform n v) j 0)))
        (λ j m. at_sum j (subst (λ (x : ℕ). j < x) (length-on_ones flip_bit (transform n v) hard ∙ l) m))

-- ---- two masks with the same unfrozen positions, whose known bits differ where v has a 1
pub record Shifted (v mask mask' : List ℕ) : Type 0 where
  pub sized : length mask' ≡ length mask
  pub bits : (k : ℕ) → get_or v k 0 ≤ 1
  pub alike : (k : ℕ) → is_unfrozen (get_or mask' k 0) ≡ is_unfrozen (get_or mask k 0)
  pub known : (k : ℕ) → is_unfrozen (get_or mask k 0) ≡ false → bit (is_known_one (get_or mask' k 0)) ≡ bit (is_known_one (get_or mask k 0)) ⊕ get_or v k 0

minus-bit : (c : Bool) → minus (bit c) ≡ c
minus-bit true = refl
minus-bit false = refl

-- so the leaves of the second mask are those of the first, negated where v has a 1
pub shifted-turned : (n : ℕ) (v mask mask' : List ℕ) → Shifted v mask mask' → Turned n v mask mask'
unfolding leaf_value
shifted-turned n v mask mask' S k h =
    rw (S.alike k) (go (is_unfrozen (get_or mask k 0)) (is_known_one (get_or mask k 0)) (is_known_one (get_or mask' k 0)) (get_or v k 0) (S.known k))
  where
    go : (f c c' : Bool) (b : ℕ) → (f ≡ false → bit c' ≡ bit c ⊕ b)
        → cond f soft_zero (turn c' certain) ≡ turn (minus b) (cond f soft_zero (turn c certain))
    go true c c' b e = turn-zero (minus b)
    go false c c' b e =
        ap (λ (s : Bool). turn s certain) (sym (minus-bit c') ∙ ap minus (e refl) ∙ minus-sum (bit c) b ∙ ap (λ (s : Bool). differ s (minus b)) (minus-bit c))
        ∙ sym (turn_twice (minus b) c certain)

next : (l : List ℕ) (k : ℕ) → get_or (drop 1 l) k 0 ≡ get_or l (suc k) 0
next [] k = refl
next (x ∷ l) k = refl

-- the rest of two masks, after their first bytes
shifted-rest : (v : List ℕ) (m m' : ℕ) (mask mask' : List ℕ) → Shifted v (m ∷ mask) (m' ∷ mask') → Shifted (drop 1 v) mask mask'
shifted-rest v m m' mask mask' S =
    record {
      sized = omega (arith, S.sized);
      bits = λ k. rw (next v k) (S.bits (suc k));
      alike = λ k. S.alike (suc k);
      known = λ k e. rw (next v k) (S.known (suc k) e);
    }

pub unfrozen-same : (v mask mask' : List ℕ) → Shifted v mask mask' → unfrozen mask' ≡ unfrozen mask
unfolding unfrozen
unfrozen-same v [] [] S = refl
unfrozen-same v [] (m' ∷ mask') S = let z : ⊥ = omega (arith, S.sized) in absurd z
unfrozen-same v (m ∷ mask) [] S = let z : ⊥ = omega (arith, S.sized) in absurd z
unfrozen-same v (m ∷ mask) (m' ∷ mask') S = ap₂ ◌+◌ (ap bit (S.alike 0)) (unfrozen-same (drop 1 v) mask mask' (shifted-rest v m m' mask mask' S))

-- u and u' have m bits, which differ where v has a 1
record Moved (m : ℕ) (v u u' : List ℕ) : Type 0 where
  pub bits : (k : ℕ) → k < m → get_or u k 0 ≤ 1
  pub moved : (k : ℕ) → k < m → get_or u' k 0 ≡ get_or u k 0 ⊕ get_or v k 0

moved-rest : (m : ℕ) (v u u' : List ℕ) → Moved (suc m) v u u' → Moved m (drop 1 v) (drop 1 u) (drop 1 u')
moved-rest m v u u' M =
    record {
      bits = λ k h. rw (next u k) (M.bits (suc k) (suc-le-suc h));
      moved = λ k h. rw (next u k, next u' k, next v k) (M.moved (suc k) (suc-le-suc h));
    }

payload-moved : (v mask mask' u u' : List ℕ) → Shifted v mask mask' → Moved (length mask) v u u' → payload_of mask' u' ≡ on_ones flip_bit (payload_of mask v) (payload_of mask u)
unfolding payload_of
payload-moved v [] [] u u' S M = unfold on_ones in refl
payload-moved v [] (m' ∷ mask') u u' S M = let z : ⊥ = omega (arith, S.sized) in absurd z
payload-moved v (m ∷ mask) [] u u' S M = let z : ⊥ = omega (arith, S.sized) in absurd z
payload-moved v (m ∷ mask) (m' ∷ mask') u u' S M =
    rw (S.alike 0) (go (is_unfrozen m) (payload-moved (drop 1 v) mask mask' (drop 1 u) (drop 1 u') (shifted-rest v m m' mask mask' S) (moved-rest (length mask) v u u' M)))
  where
    first : get_or u' 0 0 ≡ cond (eqb (get_or v 0 0) 1) (flip_bit (get_or u 0 0)) (get_or u 0 0)
    first = M.moved 0 (omega arith) ∙ sym (flip-sum (get_or v 0 0) (get_or u 0 0) (M.bits 0 (omega arith)) (S.bits 0))

    go : (c : Bool) → payload_of mask' (drop 1 u') ≡ on_ones flip_bit (payload_of mask (drop 1 v)) (payload_of mask (drop 1 u))
        → cond c (get_or u' 0 0 ∷ payload_of mask' (drop 1 u')) (payload_of mask' (drop 1 u'))
        ≡ on_ones flip_bit (cond c (get_or v 0 0 ∷ payload_of mask (drop 1 v)) (payload_of mask (drop 1 v))) (cond c (get_or u 0 0 ∷ payload_of mask (drop 1 u)) (payload_of mask (drop 1 u)))
    go true e = unfold on_ones in ap₂ {C = List ℕ} (λ x xs. x ∷ xs) first e
    go false e = e

-- two bits are the same where their sums with a third are
sum-test : (y z b : ℕ) → y ≤ 1 → z ≤ 1 → eqb (y ⊕ b) (z ⊕ b) ≡ eqb y z
sum-test y z b hy hz = go (ℕ_discrete y z)
  where
    go : Dec (y ≡ z) → eqb (y ⊕ b) (z ⊕ b) ≡ eqb y z
    go (yes e) = eq-eqb (y ⊕ b) (z ⊕ b) (ap (λ (x : ℕ). x ⊕ b) e) ∙ sym (eq-eqb y z e)
    go (no e) = ne_eqb (y ⊕ b) (z ⊕ b) (λ q. e (omega arith)) ∙ sym (ne_eqb y z e)

match_moved : (v mask mask' u u' : List ℕ) → Shifted v mask mask' → Moved (length mask) v u u' → frozen_match mask' u' ≡ frozen_match mask u
unfolding frozen_match
match_moved v [] [] u u' S M = refl
match_moved v [] (m' ∷ mask') u u' S M = let z : ⊥ = omega (arith, S.sized) in absurd z
match_moved v (m ∷ mask) [] u u' S M = let z : ⊥ = omega (arith, S.sized) in absurd z
match_moved v (m ∷ mask) (m' ∷ mask') u u' S M =
    ap₂ ◌&&◌ first
    (match_moved (drop 1 v) mask mask' (drop 1 u) (drop 1 u') (shifted-rest v m m' mask mask' S) (moved-rest (length mask) v u u' M))
  where
    go : (f : Bool) → (f ≡ false → bit (is_known_one m') ≡ bit (is_known_one m) ⊕ get_or v 0 0)
        → cond f true (eqb (get_or u' 0 0) (bit (is_known_one m'))) ≡ cond f true (eqb (get_or u 0 0) (bit (is_known_one m)))
    go true e = refl
    go false e =
        ap₂ eqb (M.moved 0 (omega arith)) (e refl)
        ∙ sum-test (get_or u 0 0) (bit (is_known_one m)) (get_or v 0 0) (M.bits 0 (omega arith)) (bit-small (is_known_one m))

    first : cond (is_unfrozen m') true (eqb (get_or u' 0 0) (bit (is_known_one m'))) ≡ cond (is_unfrozen m) true (eqb (get_or u 0 0) (bit (is_known_one m)))
    first = rw (S.alike 0) (go (is_unfrozen m) (S.known 0))

-- ---- the whole answer
pub same_answer : {s s' : List Soft} {h h' p p' : List ℕ} {c c' o o' : ℕ} → s ≡ s' → h ≡ h' → p ≡ p' → c ≡ c' → o ≡ o'
    → ◌≡◌ {A = Decoded} (record { soft = s; hard = h; payload = p; check = c; undecided = o }) (record { soft = s'; hard = h'; payload = p'; check = c'; undecided = o' })
same_answer e₁ e₂ e₃ e₄ e₅ = rw (e₁, e₂, e₃, e₄, e₅)

module _ (n : ℕ) (v mask mask' : List ℕ) (S : Shifted v mask mask') (sized : length mask ≡ 2 ^ n) where
  module _ (L s : List Soft) (F : FiniteAll n L) where
    abbrev hard : List ℕ
    hard = hard_word n L s

    abbrev hard' : List ℕ
    hard' = on_ones flip_bit (transform n v) (hard_word n L s)

    moved-u : undecided_in hard ≡ 0 → Moved (length mask) v (transform n hard) (transform n hard')
    moved-u none =
        record {
          bits = λ k h. transform-bit n hard k (subst (λ (m : ℕ). k < m) sized h);
          moved = λ k h. u-flip n v hard (λ j _. S.bits j) (length-hard n L s) (hard-bits n L s none) k (subst (λ (m : ℕ). k < m) sized h);
        }

    payload-flip : Dec (undecided_in hard ≡ 0) → decided_payload n mask' hard' ≡ on_ones flip_bit (payload_of mask v) (decided_payload n mask hard)
    payload-flip (yes none) =
        payload-decided n mask' hard' (undecided-flip (transform n v) hard ∙ none)
        ∙ payload-moved v mask mask' (transform n hard) (transform n hard') S (moved-u none)
        ∙ ap (on_ones flip_bit (payload_of mask v)) (sym (payload-decided n mask hard none))
    payload-flip (no some) =
        payload-undecided n mask' hard' (λ e. some (sym (undecided-flip (transform n v) hard) ∙ e))
        ∙ ap (λ (m : ℕ). replicate m 2) (unfrozen-same v mask mask' S)
        ∙ sym (on_ones-kept flip_bit 2 refl (payload_of mask v) (unfrozen mask))
        ∙ ap (on_ones flip_bit (payload_of mask v)) (sym (payload-undecided n mask hard some))

    check-flip : Dec (undecided_in hard ≡ 0) → decided_check n mask' hard' ≡ decided_check n mask hard
    check-flip (yes none) =
        check-decided n mask' hard' (undecided-flip (transform n v) hard ∙ none)
        ∙ ap bit (match_moved v mask mask' (transform n hard) (transform n hard') S (moved-u none))
        ∙ sym (check-decided n mask hard none)
    check-flip (no some) = check-undecided n mask' hard' (λ e. some (sym (undecided-flip (transform n v) hard) ∙ e)) ∙ sym (check-undecided n mask hard some)

    decided-flip : decided n mask' (flipped n v L) (flipped n v s) ≡ flip_decoded (transform n v) (payload_of mask v) (decided n mask L s)
    unfolding decided flip_decoded
    decided-flip =
        let e = hard-flip n v L s F in
        let d = ℕ_discrete (undecided_in hard) 0 in
        same_answer refl e (ap (decided_payload n mask') e ∙ payload-flip d) (ap (decided_check n mask') e ∙ check-flip d) (ap undecided_in e ∙ undecided-flip (transform n v) hard)

  -- a decode of LLRs flipped by the word of v, under the second mask, is the decode under the first, flipped
  pub decode_flip : (L : List Soft) → FiniteAll n L → (k : ℕ)
      → decode_scan n mask' (flipped n v L) k ≡ flip_decoded (transform n v) (payload_of mask v) (decode_scan n mask L k)
  unfolding decode_scan
  decode_flip L F k =
      ap (decided n mask' (flipped n v L)) (soft-flip n v mask mask' (shifted-turned n v mask mask' S) L F k)
      ∙ decided-flip L (scan n mask L k) F
