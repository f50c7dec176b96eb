-- The lent words during a pass: row 0 takes the incoming values of the unfrozen leaves, the rows above it the messages of the nodes, and a leaf's own message is the
-- mask's. Nothing is stored below a node whose positions are all frozen. Assumes nothing: these are definitions.
use Rattle.std.specs.Prelude.{◌≡◌, Bool, true, false, cond, not, List, [], ◌∷◌, map, ℕ, zero, suc, ◌+◌, ◌*◌, ◌^◌, ◌≤◌, ◌<◌, ◌-◌, ℤ, pos, length, get_or}
use Rattle.model.specs.Lists.{tabulate, every}
use Rattle.model.specs.Soft.{Soft, finite, certain, soft_zero, ◌at◌, mark, max_llr, soft_of}
use Rattle.model.specs.Encoding.{is_unfrozen}
use Rattle.model.specs.Scan.{Tree, leaf, node, visit, sweeps}
use Rattle.model.specs.Plans.{leaf_only}
use Rattle.model.specs.Bounds.{SmallAll, Within, limit}
use Rattle.model.specs.Attempts.{leaf_inputs, last_inputs}
use Rattle.words.specs.Words.{word, soft, box_word, add_word}
use Rattle.scan.specs.Space.{Kept, Decodable}

-- the message of the leaf at position b: ∞ where it is frozen, whatever to, since LLRs are negated at the root, and 0 where it is not
abbrev pub leaf_of : List ℕ → ℕ → Soft
leaf_of mask b = cond (is_unfrozen (get_or mask b 0)) soft_zero certain

-- the state before the first sweep, of the node of stage t whose first position is b
unfoldable pub start_at : List ℕ → ℕ → ℕ → Tree
start_at mask zero b = leaf (leaf_of mask b ∷ [])
start_at mask (suc t) b = node (tabulate (2 ^ suc t) (λ k. soft_zero)) (start_at mask t b) (start_at mask t (b + 2 ^ t))

-- a state with ∞ everywhere
unfoldable pub certain_tree : ℕ → Tree
certain_tree zero = leaf (certain ∷ [])
certain_tree (suc t) = node (tabulate (2 ^ suc t) (λ k. certain)) (certain_tree t) (certain_tree t)

-- the s positions from b on are frozen
unfoldable pub all_frozen : List ℕ → ℕ → ℕ → Bool
all_frozen mask b s = every s (λ k. not (is_unfrozen (get_or mask (b + k) 0)))

-- the state that is stored: word u * N + i is the message of stage u at position i, for u from 1 on; below a node whose positions are all frozen there is ∞
unfoldable pub stored_at : ℕ → List ℕ → List ℤ → ℕ → ℕ → Tree
stored_at N mask w zero b = leaf (leaf_of mask b ∷ [])
stored_at N mask w (suc t) b =
    let frozen : Bool = all_frozen mask b (2 ^ suc t) in
    node (soft w (suc t * N + b) (2 ^ suc t)) (cond frozen (certain_tree t) (stored_at N mask w t b)) (cond frozen (certain_tree t) (stored_at N mask w t (b + 2 ^ t)))

-- the state that a sweep begins with
abbrev pub begun_at : Bool → ℕ → List ℕ → List ℤ → ℕ → ℕ → Tree
begun_at first N mask w t b = cond first (start_at mask t b) (stored_at N mask w t b)

-- what a visit of the node of stage t, from 1 on, of s positions from b on, with its incoming list at x, requires
pub record Room (mask : List ℕ) (N t s b x : ℕ) (first : Bool) (w : List ℤ) : Type 0 where
  pub size : s ≡ 2 ^ t
  pub staged : 1 ≤ t
  pub fit : x + (s + s) ≤ length w
  pub rows : t * N + N ≤ x
  pub within : b + s ≤ N
  pub masked : b + s ≤ length mask
  pub bound : ℕ
  pub limited : bound * 2 ^ t ≤ limit
  pub small : SmallAll t bound (soft w x (2 ^ t))
  pub held : Within false t bound (begun_at first N mask w t b)

-- the unfrozen ones of the 2 ^ t leaves from b on have these incoming values in row 0
abbrev pub Recorded : List ℕ → (t b : ℕ) → List ℤ → List Soft → Type 0
Recorded mask t b w values = (i : ℕ) → i < 2 ^ t → is_unfrozen (get_or mask (b + i) 0) ≡ true → soft_of (word w (b + i)) ≡ values at i

-- v is w after a visit
pub record Visited (mask : List ℕ) (N t b x : ℕ) (first : Bool) (w v : List ℤ) : Type 0 where
  pub tree : stored_at N mask v t b ≡ visit t (begun_at first N mask w t b) (soft w x (2 ^ t))
  pub leaves : Recorded mask t b v (leaf_inputs t (begun_at first N mask w t b) (soft w x (2 ^ t)))
  pub kept : Kept N t b x w v

-- ---- a node of two leaves, whose words are certain where they are frozen
abbrev pub leaf_word : Bool → ℤ
leaf_word frozen = cond frozen (pos mark) (pos 0)

abbrev pub frozen_at : List ℕ → ℕ → Bool
frozen_at mask b = not (is_unfrozen (get_or mask b 0))

-- two words by their places
abbrev pub two : ℤ → ℤ → ℕ → ℤ
two p q zero = p
two p q (suc k) = q

-- the two words from d on
abbrev pub TwoAt : List ℤ → ℕ → ℤ → ℤ → Type 0
TwoAt w d p q = (p ≡ word w d) × (q ≡ word w (d + 1))

-- the leaves' incoming values, from the words of the node's list
abbrev pub pair_inputs : Bool → Bool → ℤ → ℤ → ℕ → ℤ
pair_inputs left right first second = two (box_word first (add_word second (leaf_word right))) (add_word (box_word first (leaf_word left)) second)

-- the node's message
abbrev pub pair_message : Bool → Bool → ℤ → ℤ → ℕ → ℤ
pair_message left right first second = two (box_word (leaf_word left) (add_word second (leaf_word right))) (add_word (box_word first (leaf_word left)) (leaf_word right))

-- ---- sweeps
-- the root's incoming list, which holds LLRs, is past the rows
pub record Ready (mask : List ℕ) (N t : ℕ) (first : Bool) (w : List ℤ) : Type 0 where
  pub size : N ≡ 2 ^ t
  pub staged : 2 ≤ t
  pub low : t ≤ 10
  pub room : N * (t + 3) ≤ length w
  pub positions : length mask ≡ N
  pub small : SmallAll t max_llr (soft w (N * (t + 1)) (2 ^ t))
  pub held : Within false t max_llr (begun_at first N mask w t 0)

-- v is w after k sweeps from the first on
pub record Swept (mask : List ℕ) (N t k : ℕ) (w v : List ℤ) : Type 0 where
  pub tree : stored_at N mask v t 0 ≡ sweeps (λ T. visit t T (soft w (N * (t + 1)) (2 ^ t))) k (start_at mask t 0)
  pub leaves : Recorded mask t 0 v (leaf_inputs t (sweeps (λ T. visit t T (soft w (N * (t + 1)) (2 ^ t))) (k - 1) (start_at mask t 0)) (soft w (N * (t + 1)) (2 ^ t)))
  pub list : (i : ℕ) → i < 2 ^ t → word v (N * (t + 1) + i) ≡ word w (N * (t + 1) + i)
  pub past : (j : ℕ) → N * (t + 3) ≤ j → word v j ≡ word w j
  pub long : length v ≡ length w

-- ---- a pass: a decode with the leaf-only plan
pub record Passable (mask : List ℕ) (llrs : List ℤ) (count N t words : ℕ) : Type 0 where
  pub staged : 2 ≤ t
  pub decodable : Decodable (leaf_only t) mask llrs count N t (length llrs) words

-- the unfrozen leaves' incoming values of the last sweep are in row 0; words past the workspace are as they were
pub record Passed (mask : List ℕ) (llrs : List ℤ) (count N t : ℕ) (w v : List ℤ) : Type 0 where
  pub leaves : (i : ℕ) → i < N → is_unfrozen (get_or mask i 0) ≡ true → soft_of (word v i) ≡ last_inputs t mask (map finite llrs) count at i
  pub past : (j : ℕ) → N * (t + 3) ≤ j → word v j ≡ word w j
  pub long : length v ≡ length w
