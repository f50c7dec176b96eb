-- The lent words as a tree of messages, and what a visit and a sweep leave in them. Assumes nothing: these are definitions.
use Rattle.std.specs.Prelude.{◌≡◌, ◌⊎◌, Bool, true, false, cond, ◌&&◌, List, ℕ, zero, suc, ◌+◌, ◌*◌, ◌^◌, ◌≤◌, ◌<◌, ℤ, neg_ℤ, nat_abs, T, length}
use Rattle.model.specs.Lists.{part, on_ones}
use Rattle.model.specs.Soft.{max_llr}
use Rattle.model.specs.Encoding.{known_word, frozen_to_zero}
use Rattle.model.specs.Scan.{Tree, leaf, node, message, left, right, start, sweeps}
use Rattle.model.specs.Kinds.{kind_of, is_some}
use Rattle.model.specs.Plans.{is_cut, is_rate01, well_cut, put, walk, Stays, Allowed}
use Rattle.model.specs.Bounds.{SmallAll, Held, limit}
use Rattle.words.specs.Words.{word, soft, write, Incoming}
use Rattle.messages.specs.Cut.{Sized, least_of}

-- the tree of the node of stage t whose first position is b: word u * N + i is the message of stage u at position i
unfoldable pub tree_at : ℕ → List ℤ → ℕ → ℕ → Tree
tree_at N w zero b = leaf (soft w (0 * N + b) 1)
tree_at N w (suc t) b = node (soft w (suc t * N + b) (2 ^ suc t)) (tree_at N w t b) (tree_at N w t (b + 2 ^ t))

-- the state that holds at the cuts of a plan and above them what S holds, and below them what T holds
unfoldable pub overlaid : List ℕ → ℕ → ℕ → Tree → Tree → Tree
overlaid plan zero p S T = S
overlaid plan (suc t) p S T =
    cond (is_cut plan p) (put (message S) T)
    (node (message S) (overlaid plan t (2 * p) (left S) (left T)) (overlaid plan t (2 * p + 1) (right S) (right T)))

-- the state that a sweep begins with, where T is stored: the first one takes the messages at the cuts and above them as they are before the first sweep
abbrev pub begun : Bool → List ℕ → ℕ → ℕ → List ℕ → Tree → Tree
begun first plan t p mask T = cond first (overlaid plan t p (start t mask) T) T

-- the part of the mask of the node of stage t whose first position is b, as the walk takes it: 1 for each frozen position, whatever it is frozen to
abbrev pub frozen_part : List ℕ → ℕ → ℕ → List ℕ
frozen_part mask b t = frozen_to_zero (part mask b (2 ^ t))

-- a cut rate-0 or rate-1 node: its message does not depend on what it is handed
abbrev pub constant : List ℕ → ℕ → ℕ → List ℕ → Bool
constant plan m p mask = is_cut plan p && is_rate01 (kind_of m mask)

-- what the message of a cut node requires: its s positions are those from b on, its message is stored at m and its incoming list is at x
pub record CutNode (mask : List ℕ) (m x b s : ℕ) (w : List ℤ) : Type 0 where
  pub fits : (m + s ≤ x) × (x + s ≤ length w) × (b + s ≤ length mask)
  pub some-kind : T (is_some (kind_of s (part mask b s)))
  pub sized : Sized (least_of (kind_of s (part mask b s))) s
  -- only a rate-0 or rate-1 node does not look at its incoming list
  pub looked : is_rate01 (kind_of s (part mask b s)) ≡ false → Incoming w x s

-- what a visit of node p at stage t, of s positions from b on, with its incoming list at x, requires; the mask has N positions.
-- Messages below a cut are not mentioned, nor are stored messages in the first sweep.
pub record Room (plan mask : List ℕ) (N t s p b x : ℕ) (first : Bool) (w : List ℤ) : Type 0 where
  pub size : s ≡ 2 ^ t
  pub fit : x + (s + s) ≤ length w
  pub rows : t * N + N ≤ x
  pub within : b + s ≤ N
  pub planned : (p + 1) * s ≤ length plan
  pub masked : b + s ≤ length mask
  pub cuts : T (well_cut plan t p (part mask b (2 ^ t)))
  -- incoming values that are looked at are at most `bound`, messages at and above the cuts are within the stage's bounds
  pub bound : ℕ
  pub limited : bound * 2 ^ t ≤ limit
  pub small : constant plan (2 ^ t) p (part mask b (2 ^ t)) ≡ false → SmallAll t bound (soft w x (2 ^ t))
  pub held : Held false plan t p bound (begun first plan t p (frozen_part mask b t) (tree_at N w t b))

-- v is w but for the words of the node of stage t with the positions from b on, and the words that follow its incoming list at x
pub record Kept (N t b x : ℕ) (w v : List ℤ) : Type 0 where
  pub long : length v ≡ length w
  pub rows : (u i : ℕ) → u ≤ t → i < N → (i < b) ⊎ (b + 2 ^ t ≤ i) → word v (u * N + i) ≡ word w (u * N + i)
  pub between : (j : ℕ) → t * N + N ≤ j → j < x + 2 ^ t → word v j ≡ word w j
  pub beyond : (j : ℕ) → x + (2 ^ t + 2 ^ t) ≤ j → word v j ≡ word w j

-- v is w after a visit of node p at stage t
pub record Visited (plan mask : List ℕ) (N t p b x : ℕ) (first : Bool) (w v : List ℤ) : Type 0 where
  pub tree : tree_at N v t b ≡ walk plan t p (frozen_part mask b t) (begun first plan t p (frozen_part mask b t) (tree_at N w t b)) (soft w x (2 ^ t))
  pub kept : Kept N t b x w v

-- ---- sweeps
-- N words a row and t + 3 rows: those of the stages 0 to t, and two for incoming lists, the root's first.
-- The root's incoming list holds LLRs; messages at and above the cuts are within bounds and not -∞; those below a cut, and in the first sweep
-- all that are stored, are not mentioned.
pub record Ready (plan mask : List ℕ) (N t : ℕ) (first : Bool) (w : List ℤ) : Type 0 where
  pub size : N ≡ 2 ^ t
  pub low : t ≤ 10
  pub room : N * (t + 3) ≤ length w
  pub positions : length mask ≡ N
  pub allowed : Allowed t plan mask
  pub small : SmallAll t max_llr (soft w (N * (t + 1)) (2 ^ t))
  pub held : Held false plan t 1 max_llr (begun first plan t 1 (frozen_to_zero mask) (tree_at N w t 0))

-- the words in which the incoming lists of the nodes below the root are made: N of them, past the root's own list.
-- What a sweep leaves there is open; it reads no such word before it has stored it, so what they held has no influence on another word.
abbrev pub Scratch : ℕ → ℕ → ℕ → Type 0
Scratch N t j = (N * (t + 2) ≤ j) × (j < N * (t + 3))

-- v is w after k sweeps along the plan, the first sweep among them or not: the messages of the nodes at and above the cuts are the walk's, every mask byte 2
-- being read as 1; stored messages of nodes below a cut are as they were, whatever they held; the root's incoming list and what lies past the workspace are too.
-- This leaves `Scratch` open and nothing else: proofs/Open.antt
pub record Swept (plan mask : List ℕ) (N t : ℕ) (first : Bool) (k : ℕ) (w v : List ℤ) : Type 0 where
  pub tree : tree_at N v t 0 ≡ sweeps (λ T. walk plan t 1 (frozen_to_zero mask) T (soft w (N * (t + 1)) N)) k (begun first plan t 1 (frozen_to_zero mask) (tree_at N w t 0))
  pub below : Stays plan t 1 (tree_at N w t 0) (tree_at N v t 0)
  pub list : (i : ℕ) → i < N → word v (N * (t + 1) + i) ≡ word w (N * (t + 1) + i)
  pub past : (j : ℕ) → N * (t + 3) ≤ j → word v j ≡ word w j
  pub long : length v ≡ length w

-- the workspace with the LLRs as the root's incoming list
abbrev pub llrs_loaded : ℕ → ℕ → List ℤ → List ℤ → List ℤ
llrs_loaded N t llrs w = write w (N * (t + 1)) (length llrs) (word llrs)

-- ---- a decode's soft values: what the accepted inputs are
pub record Decodable (plan mask : List ℕ) (llrs : List ℤ) (count N t out words : ℕ) : Type 0 where
  pub size : N ≡ 2 ^ t
  pub low : t ≤ 10
  pub positions : length mask ≡ N
  pub values : length llrs ≡ N
  pub small : (k : ℕ) → k < N → nat_abs (word llrs k) ≤ max_llr
  pub allowed : Allowed t plan mask
  pub some-sweep : 0 < count
  pub answer : N ≤ out
  pub room : N * (t + 3) ≤ words

-- what is handed in about the frozen values: their word, where some byte of the mask is 2
pub record FrozenWord (mask : List ℕ) (t : ℕ) (ones : Bool) (known : List ℕ) : Type 0 where
  pub long : length known ≡ length mask
  pub word-is : ones ≡ true → known ≡ known_word t mask
  pub none : ones ≡ false → frozen_to_zero mask ≡ mask

-- numbers, negated where that word has a 1; it has none where no byte is 2
abbrev pub flipped_if : Bool → List ℕ → List ℤ → List ℤ
flipped_if ones known xs = cond ones (on_ones neg_ℤ known xs) xs
