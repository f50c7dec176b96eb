-- What is stored where the halves of a node's words are combined, and what that requires of them. Assumes nothing: these are definitions.
use Rattle.std.specs.Prelude.{◌⊎◌, List, ℕ, ◌+◌, ◌≤◌, ◌<◌, ℤ, length}
use Rattle.words.specs.Words.{box_word, add_word, Word, word, write, Words, Added, Finite, Holds}

-- the n words from a and the n words from b share no word
abbrev pub Apart : ℕ → ℕ → ℕ → Type 0
Apart n a b = (a + n ≤ b) ⊎ (b + n ≤ a)

-- there are h words from d, from a, from b and from c on
pub record Inside (w : List ℤ) (d a b c h : ℕ) : Type 0 where
  pub fit : (d + h ≤ length w) × (a + h ≤ length w) × (b + h ≤ length w) × (c + h ≤ length w)

-- the h words from d on are stored, and the h words from a, from b and from c on are read, none of which is stored
pub record Sources (w : List ℤ) (d a b c h : ℕ) : Type 0 where
  pub held : Inside w d a b c h
  pub apart : Apart h d a × Apart h d b × Apart h d c

-- ---- what is stored for place k: a box, a sum, and one inside the other
abbrev pub box_at : List ℤ → ℕ → ℕ → ℕ → ℤ
box_at w a b k = box_word (word w (a + k)) (word w (b + k))

abbrev pub plus_at : List ℤ → ℕ → ℕ → ℕ → ℤ
plus_at w a b k = add_word (word w (a + k)) (word w (b + k))

abbrev pub box_plus : List ℤ → ℕ → ℕ → ℕ → ℕ → ℤ
box_plus w a b c k = box_word (word w (a + k)) (plus_at w b c k)

abbrev pub plus_box : List ℤ → ℕ → ℕ → ℕ → ℕ → ℤ
plus_box w a b c k = add_word (box_at w a b k) (word w (c + k))

abbrev pub plus_front : List ℤ → ℕ → ℕ → ℤ
plus_front w d k = add_word (word w (d + k)) (word w k)

-- the same where one list is a part of its own
abbrev pub left_at : (w second : List ℤ) → (a c k : ℕ) → ℤ
left_at w second a c k = box_word (word w (a + k)) (add_word (word second k) (word w (c + k)))

abbrev pub right_at : (w second : List ℤ) → (a c k : ℕ) → ℤ
right_at w second a c k = add_word (box_at w a c k) (word second k)

-- ---- what the sums of h places require
abbrev pub Sums : List ℤ → ℕ → ℕ → ℕ → Type 0
Sums w a b h = (k : ℕ) → k < h → Added (word w (a + k)) (word w (b + k))

abbrev pub BoxSums : List ℤ → ℕ → ℕ → ℕ → ℕ → Type 0
BoxSums w a b c h = (k : ℕ) → k < h → Added (box_at w a b k) (word w (c + k))

abbrev pub FiniteSums : List ℤ → ℕ → ℕ → ℕ → Type 0
FiniteSums w a b h = (k : ℕ) → k < h → Finite (word w (a + k)) (word w (b + k))

abbrev pub FiniteBoxSums : List ℤ → ℕ → ℕ → ℕ → ℕ → Type 0
FiniteBoxSums w a b c h = (k : ℕ) → k < h → Finite (box_at w a b k) (word w (c + k))

-- ---- what one place requires: what is boxed, and each sum, is a word
abbrev pub LeftPlace : List ℤ → (a b c k : ℕ) → Type 0
LeftPlace w a b c k = Word (word w (a + k)) × Added (word w (b + k)) (word w (c + k))

abbrev pub RightPlace : List ℤ → (a b c k : ℕ) → Type 0
RightPlace w a b c k = Word (word w (a + k)) × Word (word w (b + k)) × Finite (box_at w a b k) (word w (c + k))

-- the same where one list is a part of its own: it is there, and what is boxed, and each sum, is a word
pub record LeftAt (w second : List ℤ) (a c k : ℕ) : Type 0 where
  pub there : (a + k < length w) × (c + k < length w) × (k < length second)
  pub first : Word (word w (a + k))
  pub sum : Added (word second k) (word w (c + k))

pub record RightAt (w second : List ℤ) (a c k : ℕ) : Type 0 where
  pub there : (a + k < length w) × (c + k < length w) × (k < length second)
  pub first : Word (word w (a + k))
  pub message : Word (word w (c + k))
  pub sum : Finite (box_at w a c k) (word second k)

-- ---- the message of an uncut node of size 2h. Its incoming list L is in the 2h words from x on, its left child's message in the h words from l on and its
-- right child's in the h words behind these; the message goes into the 2h words from m on
-- these follow each other, and the list ends before `end`
pub record Places (m x l h end : ℕ) : Type 0 where
  pub children : l + (h + h) ≤ m
  pub message : m + (h + h) ≤ x
  pub list : x + (h + h) ≤ end

-- what is read, and each sum on the way, is `Word`, and a sum's first part is finite
pub record Combinable (w : List ℤ) (x l h : ℕ) : Type 0 where
  pub first : Words w x h
  pub left : Words w l h
  pub right : Words w (l + h) h
  pub sums : Sums w (x + h) (l + h) h
  pub box-sums : BoxSums w x l (l + h) h

-- its two halves, as in the model's `to_node`: box(left[k], L[k+h] + right[k]) and box(L[k], left[k]) + right[k]
abbrev pub low_half : List ℤ → (x l h : ℕ) → ℕ → ℤ
low_half w x l h = box_plus w l (x + h) (l + h)

abbrev pub high_half : List ℤ → (x l h : ℕ) → ℕ → ℤ
high_half w x l h = plus_box w x l (l + h)

-- w with the message stored
abbrev pub node_words : List ℤ → (m x l h : ℕ) → List ℤ
node_words w m x l h = write (write w m h (low_half w x l h)) (m + h) h (high_half w x l h)

-- the right child's incoming list box(L[k], left[k]) + L[k+h] is at c, each sum in it of finite words
abbrev pub RightListAt : List ℤ → (x l c h : ℕ) → Type 0
RightListAt w x l c h = FiniteBoxSums w x l (x + h) h × Holds w c h (plus_box w x l (x + h))
