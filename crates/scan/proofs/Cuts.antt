-- A cut node: what its message requires, and what it leaves. Assumes nothing.
use mathlib.Core.Path.{◌≡◌, refl, sym, ap, ap₂, ◌∙◌, subst}
use mathlib.Core.Bool.{Bool, true, false, cond, ◌&&◌, ◌||◌}
use mathlib.Core.Option.{Option, none, some}
use lib.IntN.{ℤ, pos}
use mathlib.Core.List.{List}
use Prim.Native.Nat.{ℕ, zero, suc, ◌+◌, ◌-◌, ◌*◌, ◌^◌, ◌≤◌, ◌<◌}
use native.Mathlib.Nat.{mul_comm, mul-le-mul_right}
use native.Mathlib.Omega.{arith}
use lib.Dec.{T}
use lib.ListN.{length, take, drop}
use Rattle.model.specs.Lists.{tabulate, part}
use Rattle.model.specs.Soft.{Soft, certain, soft_zero, ◌at◌, box, plus, mark, word_of, soft_of}
use Rattle.model.specs.Scan.{leaf}
use Rattle.model.specs.Kinds.{is_some, is_kind, Kind, rate_0, rate_1, REP, SPC, type_I, type_III, type_II, type_IV, kind_of, shortcut, others, type_ii, type_iv}
use Rattle.model.specs.Plans.{is_rate01, is_cut, well_cut, put}
use Rattle.model.specs.Bounds.{limit, Small, Under, cap}
use Rattle.model.proofs.Lists.{T_true, absurd_bool, double, tabulate_ext, get_d_tabulate, and_l}
use Rattle.model.proofs.FrozenPositions.{kinds-alike}
use Rattle.model.proofs.KnownOnes.{plain-message}
use Rattle.model.proofs.FlippedWalk.{put_column, plain-cut}
use Rattle.model.proofs.Paths.{well_cut-cut}
use Rattle.model.proofs.Bounds.{ones_none, shortcut-under, under_mono}
use Rattle.words.specs.Words.{word, soft, write, stored, Incoming}
use Rattle.words.proofs.Laws.{soft-word, soft-at, small_size}
use Rattle.words.proofs.Store.{write_ext}
use Rattle.messages.proofs.Messages.{zero-value, rate-one_value}
use Rattle.kinds.specs.Known.{FixedAs}
use Rattle.scan.specs.Space.{constant, tree_at, begun, frozen_part, CutNode, Room, Visited}
use Rattle.messages.specs.Cut.{cut_words}
use Rattle.messages.proofs.Sizes.{kind-sized}
use Rattle.scan.proofs.Begun.{begun-put}
use Rattle.scan.proofs.Known.{both_true, is-kind}
use Rattle.scan.proofs.Keep.{Fit, kept_row, node_path, under, stored-at}
use Rattle.scan.proofs.Runs.{fit-room}

-- a list made by a formula is made by its own places
own-places : (n : ℕ) (f : ℕ → Soft) → tabulate n f ≡ tabulate n (λ k. tabulate n f at k)
own-places n f = tabulate_ext n f (λ k. tabulate n f at k) (λ k lt. sym (get_d_tabulate n f k soft_zero lt))

pub shortcut-list : (k : Kind) (n : ℕ) (L : List Soft) → shortcut k n L ≡ tabulate n (λ j. shortcut k n L at j)
unfolding shortcut
shortcut-list rate_0 n L = own-places n (λ k. certain)
shortcut-list rate_1 n L = own-places n (λ k. soft_zero)
shortcut-list REP n L = own-places n (others plus soft_zero 1 n L)
shortcut-list SPC n L = own-places n (others box certain 1 n L)
shortcut-list type_I n L = own-places n (others plus soft_zero 2 n L)
shortcut-list type_III n L = own-places n (others box certain 2 n L)
shortcut-list type_II n L = own-places n (type_ii n L)
shortcut-list type_IV n L = own-places n (type_iv n L)

-- a leaf of a plan that is well cut is cut
pub leaf-cut : (plan : List ℕ) (p : ℕ) (mask : List ℕ) → T (well_cut plan 0 p mask) → is_cut plan p ≡ true
unfolding well_cut
leaf-cut plan p mask w = T_true (is_cut plan p) (and_l (is_cut plan p) (is_some (kind_of 1 mask)) w)

-- the tree after a message was stored in the row of its root
put-tree : (N t b x : ℕ) (w v : List ℤ) (M : List Soft) → Fit N t b x (length w) → v ≡ stored w (t * N + b) (2 ^ t) M → soft v (t * N + b) (2 ^ t) ≡ M → tree_at N v t b ≡ put M (tree_at N w t b)
unfolding tree_at
put-tree N zero b x w v M fit e q = ap leaf q
put-tree N (suc t) b x w v M fit e q =
    let twice : 2 ^ suc t ≡ 2 ^ t + 2 ^ t = double t in
    node_path q
    (under N t b w v (suc t * N + b) (2 ^ suc t) _ e (omega arith) (omega (arith, fit.within)))
    (under N t (b + 2 ^ t) w v (suc t * N + b) (2 ^ suc t) _ e (omega arith) (omega (arith, fit.within)))

module _ (plan mask : List ℕ) (N t s p b x : ℕ) (first : Bool) (w v : List ℤ) (room : Room plan mask N t s p b x first w) (yes : is_cut plan p ≡ true) where
  abbrev L : List Soft
  L = soft w x (2 ^ t)

  cap-top : cap t room.bound ≤ limit
  cap-top =
      let m : (2 ^ t - 1) * room.bound ≤ 2 ^ t * room.bound = mul-le-mul_right room.bound (omega arith) in
      omega (arith, room.limited, mul_comm (2 ^ t) room.bound)

  -- a kind's message stays within the limit
  message-limit : (k : Kind) → kind_of (2 ^ t) (part mask b (2 ^ t)) ≡ some k → (j : ℕ) → j < 2 ^ t → Under false limit (shortcut k (2 ^ t) L at j)
  unfolding shortcut
  message-limit k e = go k refl
    where
      looked : (k : Kind) → kind_of (2 ^ t) (part mask b (2 ^ t)) ≡ some k → is_rate01 (some k) ≡ false → (j : ℕ) → j < 2 ^ t → Under false limit (shortcut k (2 ^ t) L at j)
      looked k e q j lt =
          under_mono false (shortcut k (2 ^ t) L at j) cap-top
          (subst (λ (l : List Soft). Under false (cap t room.bound) (l at j)) (plain-message k t (part mask b (2 ^ t)) L)
          (shortcut-under false t room.bound (frozen_part mask b t) k L (kinds-alike (2 ^ t) (part mask b (2 ^ t)) ∙ e) (ones_none t (part mask b (2 ^ t)))
          (room.small (ap₂ (λ (x y : Bool). x && y) yes (ap is_rate01 e ∙ q))) j lt))

      go : (x : Kind) → k ≡ x → (j : ℕ) → j < 2 ^ t → Under false limit (shortcut k (2 ^ t) L at j)
      go rate_0 p j lt = subst (λ (y : Kind). Under false limit (shortcut y (2 ^ t) L at j)) (sym p) (rw (get_d_tabulate (2 ^ t) (λ i. certain) j soft_zero lt) tt)
      go rate_1 p j lt = subst (λ (y : Kind). Under false limit (shortcut y (2 ^ t) L at j)) (sym p) (rw (get_d_tabulate (2 ^ t) (λ i. soft_zero) j soft_zero lt) (omega arith))
      go REP p j lt = looked k e (ap (λ (y : Kind). is_rate01 (some y)) p) j lt
      go SPC p j lt = looked k e (ap (λ (y : Kind). is_rate01 (some y)) p) j lt
      go type_I p j lt = looked k e (ap (λ (y : Kind). is_rate01 (some y)) p) j lt
      go type_III p j lt = looked k e (ap (λ (y : Kind). is_rate01 (some y)) p) j lt
      go type_II p j lt = looked k e (ap (λ (y : Kind). is_rate01 (some y)) p) j lt
      go type_IV p j lt = looked k e (ap (λ (y : Kind). is_rate01 (some y)) p) j lt

  read_back : (k : Kind) → kind_of (2 ^ t) (part mask b (2 ^ t)) ≡ some k → v ≡ stored w (t * N + b) (2 ^ t) (shortcut k (2 ^ t) L) → soft v (t * N + b) (2 ^ t) ≡ shortcut k (2 ^ t) L
  unfolding soft
  read_back k e q =
      tabulate_ext (2 ^ t) _ (λ j. shortcut k (2 ^ t) L at j) (λ j lt.
      ap soft_of (stored-at w v (t * N + b) (2 ^ t) (λ i. word_of (shortcut k (2 ^ t) L at i)) j q lt (omega (arith, (fit-room room).fit, room.rows, (fit-room room).within)))
      ∙ soft-word false limit (shortcut k (2 ^ t) L at j) (omega arith) (message-limit k e j lt))
      ∙ sym (shortcut-list k (2 ^ t) L)

  pub visited-cut : v ≡ cut_words (kind_of (2 ^ t) (part mask b (2 ^ t))) w (t * N + b) x s → Visited plan mask N t p b x first w v
  visited-cut q =
      go (kind_of (2 ^ t) (part mask b (2 ^ t))) refl (well_cut-cut plan t p (part mask b (2 ^ t)) yes room.cuts)
      (q ∙ ap (λ (z : ℕ). cut_words (kind_of (2 ^ t) (part mask b (2 ^ t))) w (t * N + b) x z) room.size)
    where
      go : (o : Option Kind) → kind_of (2 ^ t) (part mask b (2 ^ t)) ≡ o → T (is_some o) → v ≡ cut_words (kind_of (2 ^ t) (part mask b (2 ^ t))) w (t * N + b) x (2 ^ t) → Visited plan mask N t p b x first w v
      go none e k r = absurd k
      go (some k) e y r =
          let r' : v ≡ stored w (t * N + b) (2 ^ t) (shortcut k (2 ^ t) L) = r ∙ ap (λ (o : Option Kind). cut_words o w (t * N + b) x (2 ^ t)) e in
          record {
            tree = put-tree N t b x w v (shortcut k (2 ^ t) L) (fit-room room) r' (read_back k e r')
                ∙ sym (plain-cut plan t p (part mask b (2 ^ t)) (begun first plan t p (frozen_part mask b t) (tree_at N w t b)) L yes
                ∙ ap (λ (o : Option Kind). put_column o (2 ^ t) L (begun first plan t p (frozen_part mask b t) (tree_at N w t b))) e
                ∙ begun-put first plan N w t p b (frozen_part mask b t) (shortcut k (2 ^ t) L) yes);
            kept = kept_row N t b x w v _ (fit-room room) (t * N + b) (2 ^ t) r' (omega arith) (omega arith);
          }

-- ---- in the code's terms
pub not-leaf : (plan : List ℕ) (t p : ℕ) (mask : List ℕ) → T (well_cut plan t p mask) → is_cut plan p ≡ false → t ≡ 0 → ⊥
not-leaf plan zero p mask w uncut e = absurd_bool (is_cut plan p) (leaf-cut plan p mask w) uncut
not-leaf plan (suc t) p mask w uncut e = omega arith

pub kind-stage : (mask : List ℕ) (b s t : ℕ) → s ≡ 2 ^ t → kind_of s (take s (drop b mask)) ≡ kind_of (2 ^ t) (part mask b (2 ^ t))
kind-stage mask b s t size = ap (λ (k : ℕ). kind_of k (take k (drop b mask))) size

-- a node whose message is fixed, in the code's terms
pub visited_fixed : {plan mask : List ℕ} {N t s p b x : ℕ} {first : Bool} {w v : List ℤ} → Room plan mask N t s p b x first w → (a z : Bool) → FixedAs plan s p (take s (drop b mask)) a z → (a || z) ≡ true
    → v ≡ write w (t * N + b) s (λ k. cond a (pos mark) (pos 0)) → Visited plan mask N t p b x first w v
visited_fixed {plan} {mask} {N} {t} {s} {p} {b} {x} {first} {w} {v} room a z f skip e = go a z (sym f.as_certain) (sym f.as_zero) skip e
  where
    of_kind : (k : Kind) → (is_cut plan p && is_kind k (kind_of s (take s (drop b mask)))) ≡ true → v ≡ stored w (t * N + b) s (shortcut k s (soft w x s)) → Visited plan mask N t p b x first w v
    of_kind k q e =
        let cut-so = both_true (is_cut plan p) (is_kind k (kind_of s (take s (drop b mask)))) q in
        visited-cut plan mask N t s p b x first w v room cut-so.0 (e ∙ ap (λ (i : Option Kind). cut_words i w (t * N + b) x s) (sym (is-kind k _ cut-so.1) ∙ kind-stage mask b s t room.size))

    go : (a z : Bool) → (is_cut plan p && is_kind rate_0 (kind_of s (take s (drop b mask)))) ≡ a → (is_cut plan p && is_kind rate_1 (kind_of s (take s (drop b mask)))) ≡ z → (a || z) ≡ true
        → v ≡ write w (t * N + b) s (λ k. cond a (pos mark) (pos 0)) → Visited plan mask N t p b x first w v
    go true z c d q e = of_kind rate_0 c (e ∙ write_ext (pos 0) w (t * N + b) s _ _ (zero-value s (soft w x s)))
    go false true c d q e = of_kind rate_1 d (e ∙ write_ext (pos 0) w (t * N + b) s _ _ (rate-one_value s (soft w x s)))
    go false false c d q e = absurd (subst T (sym q) tt)

-- what the message of a cut node requires of its incoming list
pub incoming : {plan mask : List ℕ} {N t s p b x : ℕ} {first : Bool} {w : List ℤ} → Room plan mask N t s p b x first w → constant plan (2 ^ t) p (part mask b (2 ^ t)) ≡ false → Incoming w x s
incoming {t = t} {s = s} {x = x} {w = w} room q = record {
  bound = room.bound;
  small = λ k lt. small_size room.bound (word w (x + k)) (subst (Small room.bound) (soft-at w x (2 ^ t) k (omega (arith, room.size))) (room.small q k (omega (arith, room.size))));
  room = omega (arith, room.limited, ap (λ (z : ℕ). room.bound * z) room.size);
}

-- what the message of a cut node requires, and what it leaves
module _ {plan mask : List ℕ} {N t s p b x : ℕ} {first : Bool} {w : List ℤ} (room : Room plan mask N t s p b x first w) (cut : is_cut plan p ≡ true) where
  kind-here : kind_of s (part mask b s) ≡ kind_of (2 ^ t) (part mask b (2 ^ t))
  kind-here = kind-stage mask b s t room.size

  pub cut-asked : CutNode mask (t * N + b) x b s w
  cut-asked = record {
    fits = (omega (arith, room.rows, room.within), omega (arith, room.fit), room.masked);
    some-kind = subst (λ (o : Option Kind). T (is_some o)) (sym kind-here) (well_cut-cut plan t p (part mask b (2 ^ t)) cut room.cuts);
    sized = kind-sized s t (part mask b s) room.size;
    looked = λ q. incoming room (ap₂ (λ (x y : Bool). x && y) cut (sym (ap is_rate01 kind-here) ∙ q));
  }

  pub cut-visited : (v : List ℤ) → v ≡ cut_words (kind_of s (part mask b s)) w (t * N + b) x s → Visited plan mask N t p b x first w v
  cut-visited v e = visited-cut plan mask N t s p b x first w v room cut (e ∙ ap (λ (o : Option Kind). cut_words o w (t * N + b) x s) kind-here)
