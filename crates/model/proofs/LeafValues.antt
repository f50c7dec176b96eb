-- The values with which SCAN visits its leaves: two runs side by side, bounds, signs. Assumes nothing.
use mathlib.Core.Path.{◌≡◌, refl, sym, ◌∙◌, ap, ap₂, subst}
use mathlib.Core.Bool.{Bool, true, false, cond}
use mathlib.Core.List.{List, [], ◌∷◌, ◌++◌, map}
use Prim.Native.Nat.{ℕ, zero, suc, ◌+◌, ◌*◌, ◌-◌, ◌^◌, ◌<◌, ◌≤◌, ◌%◌}
use native.Mathlib.Nat.{mod-mod, le_of_eq, mul_comm, mul_assoc}
use native.Mathlib.Omega.{arith}
use lib.Dec.{T, eqb, eqb-suc-zero}
use lib.ListN.{get_or, take, drop, length, length-append, get_or-append}
use lib.Seq.{get_or-take, get_or-drop, get_or-append-add, ext_get_or}
use lib.IntN.{ℤ}
use lib.Pow.{pow_mono}
use Rattle.model.specs.Lists.{tabulate, bit, on_ones, at_most}
use Rattle.model.specs.Soft.{Soft, finite, certain, certain_one, soft_zero, ◌at◌, negate, negative, signed, word_of, max_llr}
use Rattle.model.specs.Encoding.{is_unfrozen, is_known_one, known_bits, known_word, frozen_to_zero, place, payload_of, unfrozen, encode}
use Rattle.model.specs.Scan.{Tree, message, left, right, start, to_left, to_right, visit, sweeps, FiniteAll, SignsOf}
use Rattle.model.specs.Bounds.{Small, SmallAll, limit}
use Rattle.model.specs.Attempts.{leaf_inputs, last_inputs, leaf_bit, leaf_bits, pass_bits}
use Rattle.model.proofs.Lists.{double, halves, only, length_tabulate, get_d_tabulate}
use Rattle.model.proofs.Transform.{transform-zero}
use Rattle.model.proofs.Payload.{length-place, place-back, place-clean, place-bits}
use Rattle.model.proofs.Bounds.{small-to_left, small-to_right, small_mono}
use Rattle.model.proofs.Signs.{Firm, firm_r, leans_r, lean_laws, lean_leaf, bit-minus, firm}
use Rattle.model.proofs.Flips.{Msg, In, flip_laws, turn, flipped, flipped_in}
use Rattle.model.proofs.KnownOnes.{known_at, known-turned}
use Rattle.model.proofs.TwoRuns.{minus, Rel, Laws, Each, Paired, paired_message, paired_visit, paired_sweeps, paired_start, each-to_left, each-to_right, Leaves}

-- ---- the leaves of the two children
length-inputs : (t : ℕ) (T : Tree) (L : List Soft) → length (leaf_inputs t T L) ≡ 2 ^ t
unfolding leaf_inputs
length-inputs zero T L = refl
length-inputs (suc t) T L =
    let l : Tree = visit t (left T) (to_left (2 ^ t) L (message (right T))) in
    length-append (leaf_inputs t (left T) (to_left (2 ^ t) L (message (right T)))) (leaf_inputs t (right T) (to_right (2 ^ t) L (message l)))
    ∙ ap₂ ◌+◌ (length-inputs t (left T) (to_left (2 ^ t) L (message (right T)))) (length-inputs t (right T) (to_right (2 ^ t) L (message l)))
    ∙ sym (double t)

module _ (t : ℕ) (T : Tree) (L : List Soft) where
  -- the lists with which its children are visited
  abbrev pub list_l : List Soft
  list_l = to_left (2 ^ t) L (message (right T))

  abbrev pub list_r : List Soft
  list_r = to_right (2 ^ t) L (message (visit t (left T) list_l))

  pub inputs-lo : (k : ℕ) → k < 2 ^ t → leaf_inputs (suc t) T L at k ≡ leaf_inputs t (left T) list_l at k
  unfolding leaf_inputs
  inputs-lo k h =
      let l : Tree = visit t (left T) (to_left (2 ^ t) L (message (right T))) in
      get_or-append (leaf_inputs t (left T) (to_left (2 ^ t) L (message (right T)))) (leaf_inputs t (right T) (to_right (2 ^ t) L (message l))) soft_zero k (rw (length-inputs t (left T) (to_left (2 ^ t) L (message (right T)))) h)

  pub inputs-hi : (k : ℕ) → leaf_inputs (suc t) T L at (k + 2 ^ t) ≡ leaf_inputs t (right T) list_r at k
  unfolding leaf_inputs
  inputs-hi k =
      let a : List Soft = leaf_inputs t (left T) (to_left (2 ^ t) L (message (right T))) in
      let l : Tree = visit t (left T) (to_left (2 ^ t) L (message (right T))) in
      let b : List Soft = leaf_inputs t (right T) (to_right (2 ^ t) L (message l)) in
      ap (λ (n : ℕ). get_or (a ++ b) n soft_zero) (order (length-inputs t (left T) (to_left (2 ^ t) L (message (right T))))) ∙ get_or-append-add a b k soft_zero
    where
      order : {m : ℕ} → m ≡ 2 ^ t → k + 2 ^ t ≡ m + k
      order e = omega arith

-- ---- two runs
module _ (In Sum Part Msg : Rel) (A : Laws In Sum Part Msg) where
  -- at every leaf, with the leaf's bit of u
  abbrev pub EachLeaf : ℕ → List ℕ → List Soft → List Soft → Type 0
  EachLeaf t u v v' = (k : ℕ) → k < 2 ^ t → In 0 (minus (get_or u k 0)) (v at k) (v' at k)

  join-inputs : (t : ℕ) (u : List ℕ) (T T' : Tree) (L L' : List Soft)
      → EachLeaf t (take (2 ^ t) u) (leaf_inputs t (left T) (list_l t T L)) (leaf_inputs t (left T') (list_l t T' L'))
      → EachLeaf t (drop (2 ^ t) u) (leaf_inputs t (right T) (list_r t T L)) (leaf_inputs t (right T') (list_r t T' L'))
      → EachLeaf (suc t) u (leaf_inputs (suc t) T L) (leaf_inputs (suc t) T' L')
  join-inputs t u T T' L L' l r =
      halves t (λ k. In 0 (minus (get_or u k 0)) (leaf_inputs (suc t) T L at k) (leaf_inputs (suc t) T' L' at k))
      (λ k h. rw (inputs-lo t T L k h, inputs-lo t T' L' k h, ← get_or-take (2 ^ t) u k 0 h) (l k h))
      (λ k h. rw (inputs-hi t T L k, inputs-hi t T' L' k, ← back k, ← get_or-drop (2 ^ t) u k 0) (r k h))
    where
      back : (k : ℕ) → 2 ^ t + k ≡ k + 2 ^ t
      back k = omega arith

  one_input : (u : List ℕ) (T T' : Tree) (L L' : List Soft) → Each In 0 u L L' → EachLeaf 0 u (leaf_inputs 0 T L) (leaf_inputs 0 T' L')
  unfolding leaf_inputs
  one_input u T T' L L' I =
      only (λ k. In 0 (minus (get_or u k 0)) ((L at 0 ∷ []) at k) ((L' at 0 ∷ []) at k))
      (subst (λ (s : Bool). In 0 s (L at 0) (L' at 0)) (ap (λ (w : List ℕ). eqb (get_or w 0 0 % 2) 1) (transform-zero u) ∙ ap (λ (b : ℕ). eqb b 1) (mod-mod (get_or u 0 0) 2)) (I 0 (omega arith)))

  pub paired_inputs : (t : ℕ) (u : List ℕ) (T T' : Tree) (L L' : List Soft) → Paired In Sum Part Msg A t u T T' → Each In t u L L'
      → EachLeaf t u (leaf_inputs t T L) (leaf_inputs t T' L')
  paired_inputs zero u T T' L L' W I = one_input u T T' L L' I
  paired_inputs (suc t) u T T' L L' W I =
      let l : Tree = visit t (left T) (to_left (2 ^ t) L (message (right T))) in
      let l' : Tree = visit t (left T') (to_left (2 ^ t) L' (message (right T'))) in
      let Il : Each In t (take (2 ^ t) u) (to_left (2 ^ t) L (message (right T))) (to_left (2 ^ t) L' (message (right T'))) =
      each-to_left In Sum Part Msg A t u L L' I (message (right T)) (message (right T')) (paired_message In Sum Part Msg A t (drop (2 ^ t) u) (right T) (right T') W.2) in
      let Wl : Paired In Sum Part Msg A t (take (2 ^ t) u) l l' =
      paired_visit In Sum Part Msg A t (take (2 ^ t) u) (left T) (left T') (to_left (2 ^ t) L (message (right T))) (to_left (2 ^ t) L' (message (right T'))) W.1 Il in
      let Ir : Each In t (drop (2 ^ t) u) (to_right (2 ^ t) L (message l)) (to_right (2 ^ t) L' (message l')) =
      each-to_right In Sum Part Msg A t u L L' I (message l) (message l') (paired_message In Sum Part Msg A t (take (2 ^ t) u) l l' Wl) in
      join-inputs t u T T' L L'
      (paired_inputs t (take (2 ^ t) u) (left T) (left T') (to_left (2 ^ t) L (message (right T))) (to_left (2 ^ t) L' (message (right T'))) W.1 Il)
      (paired_inputs t (drop (2 ^ t) u) (right T) (right T') (to_right (2 ^ t) L (message l)) (to_right (2 ^ t) L' (message l')) W.2 Ir)

  pub paired_last : (n : ℕ) (u mask mask' : List ℕ) → Leaves In Sum Part Msg A n u mask mask' → (L L' : List Soft) → Each In n u L L' → (k : ℕ)
      → EachLeaf n u (last_inputs n mask L k) (last_inputs n mask' L' k)
  unfolding last_inputs
  paired_last n u mask mask' Lv L L' I k =
      paired_inputs n u (sweeps (λ X. visit n X L) (k - 1) (start n mask)) (sweeps (λ X. visit n X L') (k - 1) (start n mask')) L L'
      (paired_sweeps In Sum Part Msg A n u L L' I (k - 1) (start n mask) (start n mask') (paired_start In Sum Part Msg A n u mask mask' Lv)) I

-- ---- bounds: every incoming leaf value is finite, and of size at most 2 ^ t times the bound of what the node is visited with
small_one : (B : ℕ) (T : Tree) (L : List Soft) → SmallAll 0 B L → SmallAll 0 (2 ^ 0 * B) (leaf_inputs 0 T L)
unfolding leaf_inputs
small_one B T L S = only (λ k. Small (2 ^ 0 * B) ((L at 0 ∷ []) at k)) (small_mono (L at 0) (omega arith) (S 0 (omega arith)))

pub small-inputs : (t B : ℕ) (T : Tree) (L : List Soft) → SmallAll t B L → SmallAll t (2 ^ t * B) (leaf_inputs t T L)
small-inputs zero B T L S = small_one B T L S
small-inputs (suc t) B T L S =
    halves t (λ k. Small (2 ^ suc t * B) (leaf_inputs (suc t) T L at k))
    (λ k h. rw (inputs-lo t T L k h) (small_mono (leaf_inputs t (left T) (list_l t T L) at k) wide (small-inputs t (2 * B) (left T) (list_l t T L) (small-to_left t B L S (message (right T))) k h)))
    (λ k h. rw (inputs-hi t T L k) (small_mono (leaf_inputs t (right T) (list_r t T L) at k) wide (small-inputs t (2 * B) (right T) (list_r t T L) (small-to_right t B L S (message (visit t (left T) (list_l t T L)))) k h)))
  where
    wide : 2 ^ t * (2 * B) ≤ 2 ^ suc t * B
    wide = le_of_eq (sym (mul_assoc (2 ^ t) 2 B) ∙ ap (λ (n : ℕ). n * B) (mul_comm (2 ^ t) 2 ∙ twice (2 ^ t) (double t)))
      where
        twice : (m : ℕ) {n : ℕ} → n ≡ m + m → 2 * m ≡ n
        twice m e = omega arith

pub last-small : (n : ℕ) → n ≤ 10 → (mask : List ℕ) (L : List Soft) → SmallAll n max_llr L → (k : ℕ) → SmallAll n limit (last_inputs n mask L k)
unfolding last_inputs
last-small n h mask L S k j l =
    small_mono (leaf_inputs n (sweeps (λ T. visit n T L) (k - 1) (start n mask)) L at j) (fits (2 ^ n) (pow_mono h))
    (small-inputs n max_llr (sweeps (λ T. visit n T L) (k - 1) (start n mask)) L S j l)
  where
    fits : (m : ℕ) → m ≤ 1024 → m * max_llr ≤ limit
    fits m h = omega arith

-- ---- signs: LLRs with the signs of an encoded word give its u as leaf bits
firm-negative : (s : Bool) (x : Soft) → Firm s x → negative (word_of x) ≡ s
firm-negative s certain f = sym f
firm-negative s certain_one f = sym f
firm-negative s (finite z) f = ap negative f.2 ∙ go s f.0 f.1
  where
    go : (s : Bool) (n : ℕ) → 1 ≤ n → negative (signed s n) ≡ s
    go s zero h = let z : ⊥ = omega arith in absurd z
    go true (suc n) h = refl
    go false (suc n) h = refl

leaf-bit : (m b : ℕ) (x : Soft) → b ≤ 1 → Firm (minus b) x → (eqb m 0 ≡ false → b ≡ bit (is_known_one m)) → leaf_bit m x ≡ b
leaf-bit m b x h f C = go (eqb m 0) refl
  where
    go : (c : Bool) → eqb m 0 ≡ c → cond c (bit (negative (word_of x))) (bit (is_known_one m)) ≡ b
    go true e = ap bit (firm-negative (minus b) x f) ∙ bit-minus b h
    go false e = sym (C e)

module _ (n : ℕ) (mask payload : List ℕ) (llrs : List ℤ) (sized : length mask ≡ 2 ^ n) (fits : length payload ≡ unfrozen mask) (bits : T (at_most 1 payload))
    (signs : SignsOf n (encode n mask payload) llrs) (k : ℕ) where
  signs_last : EachLeaf firm_r firm_r leans_r leans_r lean_laws n (place mask payload) (last_inputs n mask (map finite llrs) k) (last_inputs n mask (map finite llrs) k)
  signs_last =
      paired_last firm_r firm_r leans_r leans_r lean_laws n (place mask payload) mask mask
      (λ j h. lean_leaf (get_or (place mask payload) j 0) (get_or mask j 0) (place-clean mask payload j))
      (map finite llrs) (map finite llrs) (firm n mask payload llrs sized fits bits signs k) k

  pub signs_bits : pass_bits n mask (map finite llrs) k ≡ place mask payload
  unfolding pass_bits leaf_bits
  signs_bits =
      let v : List Soft = last_inputs n mask (map finite llrs) k in
      ext_get_or 0 (tabulate (length mask) (λ i. leaf_bit (get_or mask i 0) (v at i))) (place mask payload)
      (length_tabulate (length mask) (λ i. leaf_bit (get_or mask i 0) (v at i)) ∙ sym (length-place mask payload))
      (λ j h. let l : j < length mask = subst (λ (m : ℕ). j < m) (length_tabulate (length mask) (λ i. leaf_bit (get_or mask i 0) (v at i))) h in
      get_d_tabulate (length mask) (λ i. leaf_bit (get_or mask i 0) (v at i)) j 0 l
      ∙ leaf-bit (get_or mask j 0) (get_or (place mask payload) j 0) (v at j) (place-bits mask payload bits j) (signs_last j (subst (λ (m : ℕ). j < m) sized l)) (place-clean mask payload j))

  pub signs_pass : payload_of mask (pass_bits n mask (map finite llrs) k) ≡ payload
  signs_pass = ap (payload_of mask) signs_bits ∙ place-back mask payload fits

-- ---- positions frozen to one, by LLRs flipped at the root: the same values at the unfrozen leaves
pub last-known : (n : ℕ) (mask : List ℕ) (L : List Soft) → FiniteAll n L → (k j : ℕ) → j < 2 ^ n → T (is_unfrozen (get_or mask j 0))
    → last_inputs n (frozen_to_zero mask) (on_ones negate (known_word n mask) L) k at j ≡ last_inputs n mask L k at j
unfolding known_word
last-known n mask L F k j h o =
    (paired_last In Msg In Msg flip_laws n (known_bits mask) mask (frozen_to_zero mask) (known-turned n mask) L (flipped n (known_bits mask) L) (flipped_in n (known_bits mask) L F) k j h).1
    ∙ ap (λ (b : ℕ). turn (minus b) (last_inputs n mask L k at j)) (known_at mask j ∙ none (get_or mask j 0) o)
  where
    none : (m : ℕ) → T (is_unfrozen m) → bit (is_known_one m) ≡ 0
    none zero o = refl
    none (suc m) o = absurd (subst T (eqb-suc-zero m) o)
