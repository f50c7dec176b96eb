-- The nine frames of document 01 as one table, as request No. 8 amends it, and frames of request No. 9, with positions frozen to 1, as another;
-- proofs/Frames.antt proves them. Assumes nothing.
use Rattle.std.specs.Prelude.{ℕ, ◌*◌, List, [], ◌∷◌, pos, neg_ℤ}
use Rattle.model.specs.Soft.{Soft, finite, certain, certain_one}
use Rattle.model.specs.Encoding.{encode}
use Rattle.model.specs.Scan.{Decoded, decided, scan}
use Rattle.model.specs.Plans.{planned, cycles, planner_plan}

-- a call and what document 01 says of it: a decode whole, a decode's soft values and cycles, an encoded word
pub data Frame : Type 0 where
  whole : (n : ℕ) (mask : List ℕ) (sweeps : ℕ) (llrs : List Soft) → Decoded → ℕ → Frame
  values : (n : ℕ) (mask : List ℕ) (sweeps : ℕ) (llrs soft : List Soft) → ℕ → Frame
  word : (n : ℕ) (mask payload : List ℕ) → List ℕ → Frame

-- what is compared: of a decode, what the planner's plan gives, SCAN's soft values, and the cycles
pub data Result : Type 0 where
  decoded : Decoded → List Soft → ℕ → Result
  softs : List Soft → List Soft → ℕ → Result
  encoded : List ℕ → Result

unfoldable pub by_soft : ℕ → List ℕ → List Soft → ℕ → List Soft
by_soft n mask L k = planned (planner_plan n mask) n mask L k

unfoldable pub by_cycles : ℕ → List ℕ → ℕ → ℕ
by_cycles n mask k = k * cycles (planner_plan n mask) n 1 mask

-- what the definitions give
unfoldable pub computed : Frame → Result
computed (whole n mask k L d c) = decoded (decided n mask L (by_soft n mask L k)) (scan n mask L k) (by_cycles n mask k)
computed (values n mask k L s c) = softs (by_soft n mask L k) (scan n mask L k) (by_cycles n mask k)
computed (word n mask payload w) = encoded (encode n mask payload)

-- what document 01 says
unfoldable pub stated : Frame → Result
stated (whole n mask k L d c) = decoded d d.soft c
stated (values n mask k L s c) = softs s s c
stated (word n mask payload w) = encoded w

abbrev p : ℕ → Soft
p n = finite (pos n)

abbrev m : ℕ → Soft
m n = finite (neg_ℤ (pos n))

unfoldable pub frames : List Frame
frames =
    whole 3 mask₁ 1 llrs₁ (record { soft = soft₁; hard = word₁; payload = payload₁; check = 1; undecided = 0 }) 10
    ∷ values 3 mask₁ 2 llrs₁ soft₁ 20
    ∷ values 2 (1 ∷ 0 ∷ 1 ∷ 1 ∷ []) 1 (p 5 ∷ m 3 ∷ p 2 ∷ p 1 ∷ []) (m 1 ∷ p 2 ∷ certain ∷ certain ∷ []) 6
    ∷ values 2 (1 ∷ 0 ∷ 1 ∷ 1 ∷ []) 2 (p 5 ∷ m 3 ∷ p 2 ∷ p 1 ∷ []) (m 3 ∷ p 5 ∷ certain ∷ certain ∷ []) 12
    ∷ values 1 (1 ∷ 0 ∷ []) 1 (p 7 ∷ m 4 ∷ []) (m 4 ∷ p 7 ∷ []) 2
    ∷ values 2 (1 ∷ 1 ∷ 0 ∷ 0 ∷ []) 1 (p 1 ∷ p 2 ∷ p 3 ∷ p 4 ∷ []) (p 3 ∷ p 4 ∷ p 1 ∷ p 2 ∷ []) 2
    ∷ values 1 (1 ∷ 1 ∷ []) 1 (p 7 ∷ m 4 ∷ []) (certain ∷ certain ∷ []) 0
    ∷ values 1 (0 ∷ 0 ∷ []) 1 (p 7 ∷ m 4 ∷ []) (p 0 ∷ p 0 ∷ []) 0
    ∷ word 3 mask₁ payload₁ word₁
    ∷ []
  where
    mask₁ : List ℕ
    mask₁ = 1 ∷ 1 ∷ 1 ∷ 0 ∷ 1 ∷ 0 ∷ 0 ∷ 0 ∷ []

    llrs₁ : List Soft
    llrs₁ = p 3 ∷ m 2 ∷ p 5 ∷ p 1 ∷ p 4 ∷ m 6 ∷ p 2 ∷ m 1 ∷ []

    soft₁ : List Soft
    soft₁ = p 3 ∷ m 4 ∷ p 2 ∷ m 7 ∷ p 3 ∷ m 2 ∷ p 4 ∷ m 5 ∷ []

    word₁ : List ℕ
    word₁ = 0 ∷ 1 ∷ 0 ∷ 1 ∷ 0 ∷ 1 ∷ 0 ∷ 1 ∷ []

    payload₁ : List ℕ
    payload₁ = 0 ∷ 0 ∷ 1 ∷ 1 ∷ []

-- with positions frozen to 1: REP and SPC in one tree, type IV with undecided bits, type II, type I, type III, REP, SPC, SPC and rate-0 in one tree at one sweep and
-- at two, rate-0; an encoded word
unfoldable pub ones_frames : List Frame
ones_frames =
    whole 3 (2 ∷ 1 ∷ 2 ∷ 0 ∷ 1 ∷ 0 ∷ 0 ∷ 0 ∷ []) 1 llrs₁ (record { soft = m 1 ∷ p 0 ∷ m 2 ∷ p 1 ∷ m 1 ∷ p 0 ∷ m 4 ∷ p 3 ∷ []; hard = 0 ∷ 1 ∷ 0 ∷ 0 ∷ 0 ∷ 1 ∷ 1 ∷ 0 ∷ []; payload = 0 ∷ 1 ∷ 1 ∷ 0 ∷ []; check = 1; undecided = 0 }) 10
    ∷ whole 3 (2 ∷ 1 ∷ 2 ∷ 0 ∷ 0 ∷ 0 ∷ 0 ∷ 0 ∷ []) 1 llrs₁ (record { soft = m 1 ∷ p 0 ∷ m 2 ∷ m 1 ∷ m 1 ∷ p 0 ∷ m 4 ∷ p 1 ∷ []; hard = 0 ∷ 1 ∷ 0 ∷ 2 ∷ 0 ∷ 1 ∷ 1 ∷ 2 ∷ []; payload = 2 ∷ 2 ∷ 2 ∷ 2 ∷ 2 ∷ []; check = 0; undecided = 2 }) 4
    ∷ values 3 (1 ∷ 2 ∷ 1 ∷ 1 ∷ 2 ∷ 0 ∷ 0 ∷ 0 ∷ []) 1 llrs₁ (m 4 ∷ p 6 ∷ p 2 ∷ p 0 ∷ m 3 ∷ p 2 ∷ p 5 ∷ p 2 ∷ []) 4
    ∷ values 3 (2 ∷ 1 ∷ 1 ∷ 2 ∷ 1 ∷ 1 ∷ 0 ∷ 0 ∷ []) 1 llrs₁ (p 1 ∷ p 8 ∷ m 9 ∷ p 5 ∷ p 0 ∷ p 0 ∷ p 2 ∷ m 5 ∷ []) 2
    ∷ values 2 (1 ∷ 2 ∷ 0 ∷ 0 ∷ []) 1 (p 1 ∷ p 2 ∷ p 3 ∷ p 4 ∷ []) (m 3 ∷ m 4 ∷ m 1 ∷ m 2 ∷ []) 2
    ∷ values 2 (2 ∷ 1 ∷ 1 ∷ 0 ∷ []) 1 llrs₂ (p 0 ∷ m 2 ∷ m 7 ∷ m 6 ∷ []) 2
    ∷ values 2 (2 ∷ 0 ∷ 0 ∷ 0 ∷ []) 1 llrs₂ (p 1 ∷ m 1 ∷ p 1 ∷ p 2 ∷ []) 2
    ∷ whole 2 (1 ∷ 0 ∷ 1 ∷ 2 ∷ []) 1 llrs₂ (record { soft = p 1 ∷ m 2 ∷ certain_one ∷ certain_one ∷ []; hard = 0 ∷ 1 ∷ 1 ∷ 1 ∷ []; payload = 0 ∷ []; check = 0; undecided = 0 }) 6
    ∷ values 2 (1 ∷ 0 ∷ 1 ∷ 2 ∷ []) 2 llrs₂ (m 3 ∷ p 5 ∷ certain_one ∷ certain_one ∷ []) 12
    ∷ values 1 (2 ∷ 1 ∷ []) 1 (p 7 ∷ m 4 ∷ []) (certain_one ∷ certain ∷ []) 0
    ∷ word 3 (1 ∷ 2 ∷ 1 ∷ 0 ∷ 2 ∷ 0 ∷ 0 ∷ 0 ∷ []) (0 ∷ 0 ∷ 1 ∷ 1 ∷ []) (0 ∷ 0 ∷ 0 ∷ 1 ∷ 1 ∷ 1 ∷ 0 ∷ 1 ∷ [])
    ∷ []
  where
    llrs₁ : List Soft
    llrs₁ = p 3 ∷ m 2 ∷ p 5 ∷ p 1 ∷ p 4 ∷ m 6 ∷ p 2 ∷ m 1 ∷ []

    llrs₂ : List Soft
    llrs₂ = p 5 ∷ m 3 ∷ p 2 ∷ p 1 ∷ []
