-- The ways through a child of an uncut node: its message is fixed, or its list is made and it is cut, a pair of leaves or visited. Each leaves the child done. Assumes nothing.
use mathlib.Core.Path.{◌≡◌, sym, ap, ◌∙◌, subst}
use mathlib.Core.Bool.{Bool, true, false, cond, ◌||◌}
use mathlib.Core.List.{List}
use lib.IntN.{ℤ, pos}
use Prim.Native.Nat.{ℕ, ◌+◌, ◌-◌, ◌*◌, ◌/◌, ◌^◌}
use lib.ListN.{length}
use Rattle.model.specs.Soft.{mark}
use Rattle.model.specs.Lists.{part}
use Rattle.model.specs.Kinds.{kind_of}
use Rattle.model.specs.Plans.{is_cut}
use Rattle.messages.specs.Cut.{cut_words}
use Rattle.words.specs.Words.{write}
use Rattle.halves.specs.Halves.{box_at, box_plus, plus_box}
use Rattle.scan.specs.Pairs.{pair_words}
use Rattle.scan.specs.Space.{Room, Visited}
use Rattle.scan.proofs.Nodes.{Numbers, numbers_of}
use Rattle.scan.proofs.Runs.{Run, AfterLeft, LeftDone, RightDone, Known, no-list, a-list, run}
use Rattle.scan.proofs.Cuts.{not-leaf, visited_fixed, cut-visited}
use Rattle.scan.proofs.Pairs.{pair_visited}

-- an uncut node's numbers, and what its steps ask
module _ {plan mask : List ℕ} {N t s p b x : ℕ} {first : Bool} {w : List ℤ} (room : Room plan mask N t s p b x first w) (uncut : is_cut plan p ≡ false) where
  pub numbers-here : Numbers N (length plan) t s p (s / 2) (t - 1)
  numbers-here = numbers_of _ _ _ _ _ room.size room.planned (not-leaf plan t p (part mask b (2 ^ t)) room.cuts uncut)

  pub run-here : Run plan mask N t p b x first w (s / 2) (t - 1) (x + s)
  run-here = run (not-leaf plan t p (part mask b (2 ^ t)) room.cuts uncut) room uncut

-- the left child
module _ {plan mask : List ℕ} {N t p b x : ℕ} {first : Bool} {w : List ℤ} {h u c : ℕ} (r : Run plan mask N t p b x first w h u c)
    {a z : Bool} (known : Known plan mask h (2 * p) b a z) where
  pub left_fixed : {v : List ℤ} → (a || z) ≡ true → v ≡ write w (u * N + b) h (λ k. cond a (pos mark) (pos 0)) → length v ≡ length w → LeftDone plan mask N p b x h u c first (a || z) w v
  left_fixed skips e long =
      let none = no-list (a || z) w _ skips in
      record { list = w; stored = none; visited = visited_fixed (r.left-room known none) a z known skips e; long = long }

  module _ {l : List ℤ} (listed : (a || z) ≡ false) (made : l ≡ write w c h (cond first (box_at w x (x + h)) (box_plus w x (x + h) (u * N + b + h)))) where
    pub left_room : Room plan mask N u h (2 * p) b c first l
    left_room = r.left-room known (a-list _ _ _ _ listed made)

    module _ (long : length l ≡ length w) where
      pub left_cut : {v : List ℤ} → is_cut plan (2 * p) ≡ true → v ≡ cut_words (kind_of h (part mask b h)) l (u * N + b) c h → length v ≡ length l → LeftDone plan mask N p b x h u c first (a || z) w v
      left_cut cut e more = record { list = l; stored = a-list _ _ _ _ listed made; visited = cut-visited left_room cut _ e; long = more ∙ long }

      pub left_pair : {v : List ℤ} → is_cut plan (2 * p) ≡ false → h ≡ 2 → v ≡ pair_words mask l (u * N + b) c b → length v ≡ length l → LeftDone plan mask N p b x h u c first (a || z) w v
      left_pair uncut two e more = record { list = l; stored = a-list _ _ _ _ listed made; visited = pair_visited left_room two uncut e; long = more ∙ long }

      pub left_visited : {v v' : List ℤ} → v ≡ v' → Visited plan mask N u (2 * p) b c first l v' → length v' ≡ length l → LeftDone plan mask N p b x h u c first (a || z) w v
      left_visited e visit more = record {
        list = l;
        stored = a-list _ _ _ _ listed made;
        visited = subst (Visited plan mask N u (2 * p) b c first l) (sym e) visit;
        long = ap length e ∙ more ∙ long;
      }

-- the right child; the code reckons its message's place otherwise
module _ {plan mask : List ℕ} {N t p b x : ℕ} {first : Bool} {w₀ w : List ℤ} {h u c : ℕ} {a₁ : Bool} (r : AfterLeft plan mask N t p b x first w₀ h u c a₁ w)
    {a z : Bool} (known : Known plan mask h (2 * p + 1) (b + h) a z) {m : ℕ} (place : m ≡ u * N + (b + h)) where
  pub right_fixed : {v : List ℤ} → (a || z) ≡ true → v ≡ write w m h (λ k. cond a (pos mark) (pos 0)) → length v ≡ length w → RightDone plan mask N p b x h u c first (a || z) w v
  right_fixed skips e long =
      let none = no-list (a || z) w _ skips in
      record {
        list = w;
        stored = none;
        visited = visited_fixed (r.right-room known none) a z known skips (e ∙ ap (λ (i : ℕ). write w i h (λ k. cond a (pos mark) (pos 0))) place);
        long = long;
      }

  module _ {l : List ℤ} (listed : (a || z) ≡ false) (made : l ≡ write w c h (plus_box w x (u * N + b) (x + h))) where
    pub right_room : Room plan mask N u h (2 * p + 1) (b + h) c first l
    right_room = r.right-room known (a-list _ _ _ _ listed made)

    module _ (long : length l ≡ length w) where
      pub right_cut : {v : List ℤ} → is_cut plan (2 * p + 1) ≡ true → v ≡ cut_words (kind_of h (part mask (b + h) h)) l m c h → length v ≡ length l → RightDone plan mask N p b x h u c first (a || z) w v
      right_cut cut e more = record {
        list = l;
        stored = a-list _ _ _ _ listed made;
        visited = cut-visited right_room cut _ (e ∙ ap (λ (i : ℕ). cut_words (kind_of h (part mask (b + h) h)) l i c h) place);
        long = more ∙ long;
      }

      pub right_pair : {v : List ℤ} → is_cut plan (2 * p + 1) ≡ false → h ≡ 2 → v ≡ pair_words mask l m c (b + h) → length v ≡ length l → RightDone plan mask N p b x h u c first (a || z) w v
      right_pair uncut two e more = record {
        list = l;
        stored = a-list _ _ _ _ listed made;
        visited = pair_visited right_room two uncut (e ∙ ap (λ (i : ℕ). pair_words mask l i c (b + h)) place);
        long = more ∙ long;
      }

      pub right_visited : {v v' : List ℤ} → v ≡ v' → Visited plan mask N u (2 * p + 1) (b + h) c first l v' → length v' ≡ length l → RightDone plan mask N p b x h u c first (a || z) w v
      right_visited e visit more = record {
        list = l;
        stored = a-list _ _ _ _ listed made;
        visited = subst (Visited plan mask N u (2 * p + 1) (b + h) c first l) (sym e) visit;
        long = ap length e ∙ more ∙ long;
      }
