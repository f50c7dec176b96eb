-- An uncut node above two leaves: what is stored for it is its visit. Assumes nothing.
use mathlib.Core.Path.{◌≡◌, refl, sym, ap, ap₂, ◌∙◌, subst, subst₂}
use mathlib.Core.Bool.{Bool, true, false, cond, not, ◌&&◌, ◌||◌}
use mathlib.Core.List.{List}
use Prim.Native.Nat.{ℕ, zero, suc, ◌+◌, ◌*◌, ◌-◌, ◌^◌, ◌≤◌}
use native.Mathlib.Omega.{arith}
use lib.Dec.{T}
use lib.Pow.{pow_pos}
use lib.IntN.{ℤ, pos}
use lib.ListN.{length, get_or, take, drop, length-drop}
use lib.Seq.{length-take-le, get_or-take, get_or-drop}
use Rattle.model.specs.Lists.{part}
use Rattle.model.specs.Soft.{mark}
use Rattle.model.specs.Encoding.{is_unfrozen}
use Rattle.model.specs.Kinds.{Kind, rate_0, rate_1, kind_of, is_kind, is_some}
use Rattle.model.specs.Plans.{is_cut, well_cut}
use Rattle.model.proofs.Lists.{double, and_l, and_r}
use Rattle.model.proofs.Paths.{well_cut-through}
use Rattle.words.specs.Words.{word, write, Word, Words}
use Rattle.words.proofs.Store.{length-write, write-above, write-below, write_in}
use Rattle.halves.specs.Halves.{Places, node_words}
use Rattle.kinds.specs.Known.{FixedAs}
use Rattle.kinds.proofs.Runs.{Read, told}
use Rattle.scan.specs.Pairs.{leaf_words, pair_words}
use Rattle.scan.specs.Space.{Room, Visited}
use Rattle.scan.proofs.Cuts.{leaf-cut, visited_fixed}
use Rattle.scan.proofs.Runs.{Run, AfterLeft, LeftDone, RightDone, no-list, run_at}

abbrev free : List ℕ → ℕ → Bool
free mask b = is_unfrozen (get_or mask b 0)

-- ---- the words of the leaves
abbrev pub leaf : List ℕ → ℕ → ℤ
leaf mask b = cond (not (free mask b)) (pos mark) (pos 0)

-- what the message of the node above them requires, once they are stored
module _ (mask : List ℕ) (w : List ℤ) (m x b : ℕ) (at : Places m x b 1 (length w)) where
  abbrev one : List ℤ
  one = leaf_words mask w b

  abbrev both : List ℤ
  both = leaf_words mask one (b + 1)

  long : length both ≡ length w
  long = length-write (pos 0) one (b + 1) 1 _ ∙ length-write (pos 0) w b 1 _

  pub leaves-fit : Places m x b 1 (length both)
  leaves-fit = record { children = at.children; message = at.message; list = omega (arith, at.list, long) }

  pub leaves-list : Words w x 2 → Words both x 2
  leaves-list words k lt =
      subst Word
      (sym (write-above (pos 0) one (b + 1) 1 _ (x + k) (omega (arith, at.children, at.message)) ∙ write-above (pos 0) w b 1 _ (x + k) (omega (arith, at.children, at.message))))
      (words k lt)

  pub left-leaf : word both b ≡ leaf mask b
  left-leaf =
      write-below (pos 0) one (b + 1) 1 _ b (omega arith)
      ∙ ap (word one) (let e : b ≡ b + 0 = omega arith in e)
      ∙ write_in (pos 0) w b 1 _ 0 (omega arith) (omega (arith, at.children, at.message, at.list))

  pub right-leaf : word both (b + 1) ≡ leaf mask (b + 1)
  right-leaf =
      ap (word both) (let e : b + 1 ≡ b + 1 + 0 = omega arith in e)
      ∙ write_in (pos 0) one (b + 1) 1 _ 0 (omega arith) (omega (arith, length-write (pos 0) w b 1 (λ k. leaf mask b), at.children, at.message, at.list))

-- ---- its visit
-- what is known of a cut leaf's message, from its byte
leaf-known : (plan mask : List ℕ) (p b : ℕ) → b + 1 ≤ length mask → is_cut plan p ≡ true → T (is_some (kind_of 1 (take 1 (drop b mask))))
    → FixedAs plan 1 p (take 1 (drop b mask)) (not (free mask b)) (free mask b)
leaf-known plan mask p b le cut kind =
    record { as_certain = ap not byte ∙ ap (λ (i : ℕ). not (is_unfrozen (get_or own i 0))) last ∙ of_kind rate_0 read.zero; as_zero = byte ∙ of_kind rate_1 read.one }
  where
    own : List ℕ
    own = take 1 (drop b mask)

    single : length own ≡ 1
    single = length-take-le 1 (drop b mask) (omega (arith, length-drop b mask))

    last : 0 ≡ length own - 1
    last = omega (arith, single)

    byte : free mask b ≡ is_unfrozen (get_or own 0 0)
    byte = ap is_unfrozen (sym (get_or-take 1 (drop b mask) 0 0 (omega arith) ∙ get_or-drop b mask 0 0 ∙ ap (λ (i : ℕ). get_or mask i 0) (let e : b + 0 ≡ b = omega arith in e)))

    read : Read own (kind_of (length own) own)
    read = told own (subst (λ (n : ℕ). T (is_some (kind_of n own))) (sym single) kind)

    of_kind : {r : Bool} (k : Kind) → r ≡ is_kind k (kind_of (length own) own) → r ≡ (is_cut plan p && is_kind k (kind_of 1 own))
    of_kind k e = e ∙ ap₂ (λ (c : Bool) (n : ℕ). c && is_kind k (kind_of n own)) (sym cut) single

-- it is certain or 0
either : (b : Bool) → (not b || b) ≡ true
either true = refl
either false = refl

words-two : (w : List ℤ) (x : ℕ) → Words w x 1 → Words w (x + 1) 1 → Words w x 2
words-two w x first second zero lt = first 0 (omega arith)
words-two w x first second (suc zero) lt = subst (λ (j : ℕ). Word (word w j)) (let e : x + 1 + 0 ≡ x + 1 = omega arith in e) (second 0 (omega arith))
words-two w x first second (suc (suc k)) lt = absurd (omega arith)

-- at stage 1
module _ (plan mask : List ℕ) (N p b x : ℕ) (first : Bool) (w : List ℤ) (room : Room plan mask N 1 2 p b x first w) (uncut : is_cut plan p ≡ false) where
  running : Run plan mask N 1 p b x first w 1 0 (x + 2)
  running = run_at plan mask N 0 2 p b x first w room uncut

  cut-leaves : T (well_cut plan 0 (2 * p) (take 1 (part mask b 2)) && well_cut plan 0 (2 * p + 1) (drop 1 (part mask b 2)))
  cut-leaves = well_cut-through plan 0 p (part mask b 2) uncut room.cuts

  left-known : FixedAs plan 1 (2 * p) (take 1 (drop b mask)) (not (free mask b)) (free mask b)
  left-known =
      let cut = leaf-cut plan (2 * p) _ (and_l (well_cut plan 0 (2 * p) (take 1 (part mask b 2))) (well_cut plan 0 (2 * p + 1) (drop 1 (part mask b 2))) cut-leaves) in
      leaf-known plan mask (2 * p) b (omega (arith, room.masked)) cut (running.kind-left cut)

  right-known : FixedAs plan 1 (2 * p + 1) (take 1 (drop (b + 1) mask)) (not (free mask (b + 1))) (free mask (b + 1))
  right-known =
      let cut = leaf-cut plan (2 * p + 1) _ (and_r (well_cut plan 0 (2 * p) (take 1 (part mask b 2))) (well_cut plan 0 (2 * p + 1) (drop 1 (part mask b 2))) cut-leaves) in
      leaf-known plan mask (2 * p + 1) (b + 1) (omega (arith, room.masked)) cut (running.kind-right cut)

  row : (i : ℕ) → i ≡ 0 * N + i
  row i = omega arith

  -- what is stored for the leaf at position i is its visit
  leaf-stored : (v : List ℤ) (i : ℕ) → leaf_words mask v i ≡ write v (0 * N + i) 1 (λ k. leaf mask i)
  leaf-stored v i = ap (λ (j : ℕ). write v j 1 (λ k. leaf mask i)) (row i)

  left-done : LeftDone plan mask N p b x 1 0 (x + 2) first (not (free mask b) || free mask b) w (leaf_words mask w b)
  left-done =
      let none = no-list _ w _ (either (free mask b)) in
      record {
        list = w;
        stored = none;
        visited = visited_fixed (running.left-room left-known none) (not (free mask b)) (free mask b) left-known (either (free mask b)) (leaf-stored w b);
        long = length-write (pos 0) w b 1 _;
      }

  after-left : AfterLeft plan mask N 1 p b x first w 1 0 (x + 2) (not (free mask b)) (leaf_words mask w b)
  after-left = running.after-left left-known left-done

  right-done : RightDone plan mask N p b x 1 0 (x + 2) first (not (free mask (b + 1)) || free mask (b + 1)) (leaf_words mask w b) (leaf_words mask (leaf_words mask w b) (b + 1))
  right-done =
      let none = no-list _ (leaf_words mask w b) _ (either (free mask (b + 1))) in
      record {
        list = leaf_words mask w b;
        stored = none;
        visited = visited_fixed (after-left.right-room right-known none) (not (free mask (b + 1))) (free mask (b + 1)) right-known (either (free mask (b + 1))) (leaf-stored (leaf_words mask w b) (b + 1));
        long = length-write (pos 0) (leaf_words mask w b) (b + 1) 1 _;
      }

  places : Places (1 * N + b) x b 1 (length w)
  places = record { children = omega (arith, room.within); message = omega (arith, room.rows, room.within); list = omega (arith, room.fit) }

  words : Words w x 2
  words = words-two w x running.list-asked.0 running.list-asked.1

  visited : (v : List ℤ) → v ≡ pair_words mask w (1 * N + b) x b → Visited plan mask N 1 p b x first w v
  visited v e = (after-left.after-right right-known right-done).visited (e ∙ ap (λ (l : ℕ). node_words (leaf_words mask (leaf_words mask w b) (b + 1)) (1 * N + b) x l 1) (row b))

-- ---- in the code's terms
one-stage : (t : ℕ) → 2 ≡ 2 ^ t → t ≡ 1
one-stage zero e = absurd (omega arith)
one-stage (suc zero) e = refl
one-stage (suc (suc t)) e = absurd (omega (arith, double (suc t), double t, pow_pos t))

module _ {plan mask : List ℕ} {N t s p b x : ℕ} {first : Bool} {w : List ℤ} (room : Room plan mask N t s p b x first w) (two : s ≡ 2) (uncut : is_cut plan p ≡ false) where
  stage : t ≡ 1
  stage = one-stage t (sym two ∙ room.size)

  here : Room plan mask N 1 2 p b x first w
  here = subst₂ (λ (t s : ℕ). Room plan mask N t s p b x first w) stage two room

  pub pair_asked : (Places (t * N + b) x b 1 (length w) × (b + 2 ≤ length mask)) × Words w x 2
  pair_asked =
      ((subst (λ (t : ℕ). Places (t * N + b) x b 1 (length w)) (sym stage) (places plan mask N p b x first w here uncut), here.masked), words plan mask N p b x first w here uncut)

  pub pair_visited : {v : List ℤ} → v ≡ pair_words mask w (t * N + b) x b → Visited plan mask N t p b x first w v
  pair_visited {v} e =
      subst (λ (t : ℕ). Visited plan mask N t p b x first w v) (sym stage)
      (visited plan mask N p b x first w here uncut v (e ∙ ap (λ (t : ℕ). pair_words mask w (t * N + b) x b) stage))
