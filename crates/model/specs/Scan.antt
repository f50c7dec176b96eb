-- SCAN by definition, walked down to the last leaf. A node of stage t has size 2 ^ t. Assumes nothing.
-- "Message" is the literature's extrinsic message, "incoming list" its a-priori list.
use Rattle.std.specs.Prelude.{ℕ, zero, suc, ◌+◌, ◌^◌, ◌<◌, ◌≡◌, cond, List, [], ◌∷◌, ◌++◌, eqb, ℤ, pos, negsuc, get_or, take, drop, replicate}
use Rattle.model.specs.Lists.{tabulate, bit, on_ones}
use Rattle.model.specs.Soft.{Soft, finite, certain, certain_one, Finite, soft_zero, ◌at◌, negate, box, plus, negative}
use Rattle.model.specs.Encoding.{is_unfrozen, is_known_one, unfrozen, transform, payload_of, frozen_match}

-- Each node keeps a message list of its size.
pub data Tree : Type 0 where
  leaf : List Soft → Tree
  node : List Soft → Tree → Tree → Tree

abbrev pub message : Tree → List Soft
message (leaf m) = m
message (node m l r) = m

abbrev pub left : Tree → Tree
left (leaf m) = leaf []
left (node m l r) = l

abbrev pub right : Tree → Tree
right (leaf m) = leaf []
right (node m l r) = r

-- a leaf frozen to 0 has ∞, a leaf frozen to 1 has -∞, and an unfrozen leaf 0
unfoldable pub leaf_value : ℕ → Soft
leaf_value b = cond (is_unfrozen b) soft_zero (cond (is_known_one b) certain_one certain)

-- before the first sweep: the leaves' values, and every larger node has zeros
unfoldable pub start : ℕ → List ℕ → Tree
start zero mask = leaf (leaf_value (get_or mask 0 0) ∷ [])
start (suc t) mask =
    node (tabulate (2 ^ suc t) (λ k. soft_zero)) (start t (take (2 ^ t) mask)) (start t (drop (2 ^ t) mask))

-- the values of a list are finite, as LLRs are
abbrev pub FiniteAll : ℕ → List Soft → Type 0
FiniteAll t L = (k : ℕ) → k < 2 ^ t → Finite (L at k)

-- the left child is visited with box(L[k], L[k+h] + r[k]), r as last stored
unfoldable pub to_left : ℕ → List Soft → List Soft → List Soft
to_left h L r = tabulate h (λ k. box (L at k) (plus (L at (k + h)) (r at k)))

-- the right child is visited with box(L[k], l[k]) + L[k+h]
unfoldable pub to_right : ℕ → List Soft → List Soft → List Soft
to_right h L l = tabulate h (λ k. plus (box (L at k) (l at k)) (L at (k + h)))

-- the node's message becomes box(l[k], L[k+h] + r[k]) at k and r[k] + box(L[k], l[k]) at k+h
unfoldable pub to_node : ℕ → List Soft → List Soft → List Soft → List Soft
to_node h L l r =
    tabulate h (λ k. box (l at k) (plus (L at (k + h)) (r at k)))
    ++ tabulate h (λ k. plus (r at k) (box (L at k) (l at k)))

-- a visit of a node of stage t with the incoming list L: a leaf keeps its message for good
unfoldable pub visit : ℕ → Tree → List Soft → Tree
visit zero T L = T
visit (suc t) T L =
    let l : Tree = visit t (left T) (to_left (2 ^ t) L (message (right T))) in
    let r : Tree = visit t (right T) (to_right (2 ^ t) L (message l)) in
    node (to_node (2 ^ t) L (message l) (message r)) l r

-- a number of sweeps
unfoldable pub sweeps : (Tree → Tree) → ℕ → Tree → Tree
sweeps sweep zero T = T
sweeps sweep (suc k) T = sweeps sweep k (sweep T)

-- the soft values after k sweeps, each of which visits the root with the LLRs
unfoldable pub scan : ℕ → List ℕ → List Soft → ℕ → List Soft
scan n mask L k = message (sweeps (λ T. visit n T L) k (start n mask))

-- a bit by the sign of a sum: 0 where it is positive, 1 where it is negative, and 2, undecided, where it is 0
abbrev pub sign_bit : ℤ → ℕ
sign_bit (pos zero) = 2
sign_bit (pos (suc n)) = 0
sign_bit (negsuc n) = 1

-- the bit of LLR plus soft; ∞ gives 0, -∞ gives 1
abbrev pub hard_bit : Soft → ℕ
hard_bit (finite z) = sign_bit z
hard_bit certain = 0
hard_bit certain_one = 1

-- the hard bits, from LLR plus soft
unfoldable pub hard_word : ℕ → List Soft → List Soft → List ℕ
hard_word n L s = tabulate (2 ^ n) (λ k. hard_bit (plus (L at k) (s at k)))

-- the number of undecided bits of a hard word
unfoldable pub undecided_in : List ℕ → ℕ
undecided_in [] = 0
undecided_in (b ∷ hard) = bit (eqb b 2) + undecided_in hard

-- what a decode writes, its frozen check, and the number of undecided bits
pub record Decoded : Type 0 where
  pub soft : List Soft
  pub hard : List ℕ
  pub payload : List ℕ
  pub check : ℕ
  pub undecided : ℕ

-- the payload of a hard word: the unfrozen bits of the decoded u, its transform; if any bit is undecided, all K bytes are 2
unfoldable pub decided_payload : ℕ → List ℕ → List ℕ → List ℕ
decided_payload n mask hard = cond (eqb (undecided_in hard) 0) (payload_of mask (transform n hard)) (replicate (unfrozen mask) 2)

-- the frozen check of a hard word: whether the frozen bits of the decoded u are the known ones; if any bit is undecided, 0
unfoldable pub decided_check : ℕ → List ℕ → List ℕ → ℕ
decided_check n mask hard = cond (eqb (undecided_in hard) 0) (bit (frozen_match mask (transform n hard))) 0

-- what is read off soft values
unfoldable pub decided : ℕ → List ℕ → List Soft → List Soft → Decoded
decided n mask L s =
    let hard : List ℕ = hard_word n L s in
    record { soft = s; hard = hard; payload = decided_payload n mask hard; check = decided_check n mask hard; undecided = undecided_in hard }

-- SCAN: it takes a mask, LLRs and a number of sweeps, and knows no plan
unfoldable pub decode_scan : ℕ → List ℕ → List Soft → ℕ → Decoded
decode_scan n mask L k = decided n mask L (scan n mask L k)

-- a decided bit flipped; an undecided one, 2, stays
abbrev pub flip_bit : ℕ → ℕ
flip_bit zero = 1
flip_bit (suc zero) = 0
flip_bit (suc (suc b)) = suc (suc b)

-- a state with each node's message negated where the word of the node's part of u has a 1
unfoldable pub flip_tree : ℕ → List ℕ → Tree → Tree
flip_tree zero u T = leaf (on_ones negate (transform 0 u) (message T))
flip_tree (suc t) u T =
    node (on_ones negate (transform (suc t) u) (message T)) (flip_tree t (take (2 ^ t) u) (left T)) (flip_tree t (drop (2 ^ t) u) (right T))

-- an answer with soft values negated and decided hard bits flipped where a word has a 1, and decided payload bits where another has a 1
unfoldable pub flip_decoded : List ℕ → List ℕ → Decoded → Decoded
flip_decoded word bits d =
    record {
      soft = on_ones negate word d.soft;
      hard = on_ones flip_bit word d.hard;
      payload = on_ones flip_bit bits d.payload;
      check = d.check;
      undecided = d.undecided;
    }

-- an answer d' beside an answer d, whose LLRs were negated where a codeword has a 1; `payload` is the codeword's (request No. 10). With a bit undecided all
-- payload bytes are 2 in both, which flipBit leaves.
pub record FlippedBy (codeword payload : List ℕ) (d d' : Decoded) : Type 0 where
  pub soft-negated : d'.soft ≡ on_ones negate codeword d.soft
  pub hard-flipped : d'.hard ≡ on_ones flip_bit codeword d.hard
  pub payload-flipped : d'.payload ≡ on_ones flip_bit payload d.payload
  pub undecided-kept : d'.undecided ≡ d.undecided
  pub check-kept : d'.check ≡ d.check
  pub none-certain : (j : ℕ) → get_or codeword j 0 ≡ 1 → Finite (d.soft at j)

-- bit 0 is sent as +1, bit 1 as -1: no LLR is zero, and an LLR is negative exactly where the word has a 1
abbrev pub SignsOf : ℕ → List ℕ → List ℤ → Type 0
SignsOf n word llrs = (j : ℕ) → j < 2 ^ n → (get_or llrs j (pos 0) ≡ pos 0 → ⊥) × (negative (get_or llrs j (pos 0)) ≡ eqb (get_or word j 0) 1)
