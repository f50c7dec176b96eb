-- `kinds::candidate_at_ends` meets its contract: its tests are those that tell a mask of some kind by its ends. Assumes nothing.
use mathlib.Core.Path.{◌≡◌}
use mathlib.Core.Bool.{true, cond}
use mathlib.Core.List.{List}
use mathlib.Core.Option.{some}
use Prim.Native.Nat.{ℕ, ◌-◌, ◌≤◌, ◌<◌}
use native.Mathlib.Omega.{arith}
use borrow.Author.Tests.{le-leb, lt-leb}
use lib.Dec.{eqb, leb}
use lib.ListN.{length, get_or}
use Rattle.model.specs.Encoding.{frozen_to_zero}
use Rattle.model.specs.Kinds.{Kind, rate_0, rate_1, REP, SPC, type_I, type_III, type_II, type_IV, least_size}
use Rattle.kinds.specs.Runs.{front, short_side, Ends}
use Rattle.kinds.proofs.Runs.{by_ends_lem, frozen, unfrozen, apart, Frozen, Unfrozen, short_by, below_more, above_more}
use Rattle.kinds.proofs.candidate_at_ends.Goals as goal

-- the first position is frozen and the last is not
module _ (mask : List ℕ) (some-position : 0 < length mask) (last : Unfrozen mask (length mask - 1)) (first : Frozen mask 0) where
  two : 1 < length mask
  two = omega (arith, apart mask 0 (length mask - 1) first last)

  first-frozen : (i : ℕ) → i < 1 → Frozen mask i
  first-frozen = below_more (Frozen mask) 0 (λ i lt. absurd (omega arith)) first

  last_open : (i : ℕ) → length mask - 1 ≤ i → i < length mask → Unfrozen mask i
  last_open = above_more (Unfrozen mask) (length mask - 1) (length mask) (length mask) (omega arith) (λ i from to. absurd (omega arith)) last

  spc : Unfrozen mask 1 → Ends mask (some SPC) 1
  spc second =
      by_ends_lem mask SPC two (rw (unfrozen mask (length mask - 1) last, frozen mask 0 first, unfrozen mask 1 second))
      (short_by mask 1 (omega (arith, two)) (λ le. first-frozen) (λ lt. absurd (omega (arith, lt, two))))

  -- the second one too
  module _ (second : Frozen mask 1) where
    three : 2 < length mask
    three = omega (arith, two, apart mask 1 (length mask - 1) second last)

    rep : Frozen mask (length mask - 2) → Ends mask (some REP) (length mask - 1)
    rep last-but-one =
        by_ends_lem mask REP two (rw (unfrozen mask (length mask - 1) last, frozen mask 0 first, frozen mask 1 second, frozen mask (length mask - 2) last-but-one))
        (short_by mask (length mask - 1) (omega arith) (λ le. absurd (omega (arith, le, three))) (λ lt. last_open))

    -- the last but one is not
    module _ (last-but-one : Unfrozen mask (length mask - 2)) where
      four : 3 < length mask
      four = omega (arith, three, apart mask 1 (length mask - 2) second last-but-one)

      two-frozen : (i : ℕ) → i < 2 → Frozen mask i
      two-frozen = below_more (Frozen mask) 1 first-frozen second

      two_open : (i : ℕ) → length mask - 2 ≤ i → i < length mask → Unfrozen mask i
      two_open = above_more (Unfrozen mask) (length mask - 2) (length mask - 1) (length mask) (omega arith) last_open last-but-one

      -- the kinds that are left, by the bytes further in
      within : (k : Kind) → least_size k ≤ length mask
          → cond (eqb (get_or (frozen_to_zero mask) 2 0) 1)
          (cond (eqb (get_or (frozen_to_zero mask) (length mask - 3) 0) 1) type_I (cond (leb 8 (length mask)) (cond (eqb (get_or (frozen_to_zero mask) (length mask - 4) 0) 1) type_II type_IV) type_III)) type_III
          ≡ k
          → short_side (front k (length mask)) mask ≡ true
          → Ends mask (some k) (front k (length mask))
      within k room q short =
          by_ends_lem mask k room
          (rw (unfrozen mask (length mask - 1) last, frozen mask 0 first, frozen mask 1 second, unfrozen mask (length mask - 2) last-but-one) q)
          short

      -- type III's run ends after the first two
      short-third : short_side 2 mask ≡ true
      short-third = short_by mask 2 (omega (arith, four)) (λ le. two-frozen) (λ lt. absurd (omega (arith, lt, four)))

      third_open : Unfrozen mask 2 → Ends mask (some type_III) 2
      third_open third = within type_III four (rw (unfrozen mask 2 third)) short-third

      -- the third one is frozen
      module _ (third : Frozen mask 2) where
        one : Frozen mask (length mask - 3) → Ends mask (some type_I) (length mask - 2)
        one last-but-two =
            within type_I four (rw (frozen mask 2 third, frozen mask (length mask - 3) last-but-two))
            (short_by mask (length mask - 2) (omega arith) (λ le i lt. two-frozen i (omega (arith, le, lt, four))) (λ lt. two_open))

        -- the last but two is not
        module _ (last-but-two : Unfrozen mask (length mask - 3)) where
          small : length mask < 8 → Ends mask (some type_III) 2
          small few = within type_III four (rw (frozen mask 2 third, unfrozen mask (length mask - 3) last-but-two, lt-leb 8 (length mask) few)) short-third

          -- and there are eight positions
          large : (k : Kind) → 8 ≤ length mask → least_size k ≤ 8 → cond (eqb (get_or (frozen_to_zero mask) (length mask - 4) 0) 1) type_II type_IV ≡ k
              → short_side (front k (length mask)) mask ≡ true
              → Ends mask (some k) (front k (length mask))
          large k many least q short = within k (omega arith) (rw (frozen mask 2 third, unfrozen mask (length mask - 3) last-but-two, le-leb 8 (length mask) many) q) short

          two-sums : 8 ≤ length mask → Frozen mask (length mask - 4) → Ends mask (some type_II) (length mask - 3)
          two-sums many e =
              large type_II many (omega arith) (rw (frozen mask (length mask - 4) e))
              (short_by mask (length mask - 3) (omega arith) (λ le. absurd (omega (arith, le, many)))
              (λ lt. above_more (Unfrozen mask) (length mask - 3) (length mask - 2) (length mask) (omega arith) two_open last-but-two))

          two-boxes : 8 ≤ length mask → Unfrozen mask (length mask - 4) → Ends mask (some type_IV) 3
          two-boxes many e =
              large type_IV many (omega arith) (rw (unfrozen mask (length mask - 4) e))
              (short_by mask 3 (omega (arith, many)) (λ le. below_more (Frozen mask) 2 two-frozen third) (λ lt. absurd (omega (arith, lt, many))))

pub returns-then-mask-m-ne-UNFROZEN : goal.returns-then-mask-m-ne-UNFROZEN
returns-then-mask-m-ne-UNFROZEN c =
    let mask = c.args.mask.now in
    by_ends_lem mask rate_0 (omega arith) (rw (frozen mask (length mask - 1) c.if-mask-m-ne-UNFROZEN.true))
    (short_by mask (length mask) (omega arith) (λ le. absurd (omega (arith, le, c.requires))) (λ lt i from to. absurd (omega arith)))

pub returns-then-mask-eq-UNFROZEN : goal.returns-then-mask-eq-UNFROZEN
returns-then-mask-eq-UNFROZEN c =
    let mask = c.args.mask.now in
    by_ends_lem mask rate_1 (omega arith) (rw (unfrozen mask (length mask - 1) c.if-mask-m-ne-UNFROZEN.false, unfrozen mask 0 c.if-mask-eq-UNFROZEN.true))
    (short_by mask 0 (omega arith) (λ le i lt. absurd (omega arith)) (λ lt. absurd (omega (arith, lt))))

pub returns-then-mask-eq-UNFROZEN-2 : goal.returns-then-mask-eq-UNFROZEN-2
returns-then-mask-eq-UNFROZEN-2 c = spc c.args.mask.now c.requires c.if-mask-m-ne-UNFROZEN.false c.if-mask-eq-UNFROZEN.false c.if-mask-eq-UNFROZEN-2.true

pub returns-then-mask-m-ne-UNFROZEN-2 : goal.returns-then-mask-m-ne-UNFROZEN-2
returns-then-mask-m-ne-UNFROZEN-2 c =
    rep c.args.mask.now c.requires c.if-mask-m-ne-UNFROZEN.false c.if-mask-eq-UNFROZEN.false c.if-mask-eq-UNFROZEN-2.false c.if-mask-m-ne-UNFROZEN-2.true

pub returns-then-mask-eq-UNFROZEN-3 : goal.returns-then-mask-eq-UNFROZEN-3
returns-then-mask-eq-UNFROZEN-3 c =
    third_open c.args.mask.now c.requires c.if-mask-m-ne-UNFROZEN.false c.if-mask-eq-UNFROZEN.false c.if-mask-eq-UNFROZEN-2.false c.if-mask-m-ne-UNFROZEN-2.false
    c.if-mask-eq-UNFROZEN-3.true

pub returns-then-mask-m-ne-UNFROZEN-3 : goal.returns-then-mask-m-ne-UNFROZEN-3
returns-then-mask-m-ne-UNFROZEN-3 c =
    one c.args.mask.now c.requires c.if-mask-m-ne-UNFROZEN.false c.if-mask-eq-UNFROZEN.false c.if-mask-eq-UNFROZEN-2.false c.if-mask-m-ne-UNFROZEN-2.false
    c.if-mask-eq-UNFROZEN-3.false c.if-mask-m-ne-UNFROZEN-3.true

pub returns-then-m-lt8 : goal.returns-then-m-lt8
returns-then-m-lt8 c =
    small c.args.mask.now c.requires c.if-mask-m-ne-UNFROZEN.false c.if-mask-eq-UNFROZEN.false c.if-mask-eq-UNFROZEN-2.false c.if-mask-m-ne-UNFROZEN-2.false
    c.if-mask-eq-UNFROZEN-3.false c.if-mask-m-ne-UNFROZEN-3.false (omega (arith, c.if-m-lt8.true))

pub returns-then-mask-m-ne-UNFROZEN-4 : goal.returns-then-mask-m-ne-UNFROZEN-4
returns-then-mask-m-ne-UNFROZEN-4 c =
    two-sums c.args.mask.now c.requires c.if-mask-m-ne-UNFROZEN.false c.if-mask-eq-UNFROZEN.false c.if-mask-eq-UNFROZEN-2.false c.if-mask-m-ne-UNFROZEN-2.false
    c.if-mask-eq-UNFROZEN-3.false c.if-mask-m-ne-UNFROZEN-3.false (omega (arith, c.if-m-lt8.false)) c.if-mask-m-ne-UNFROZEN-4.true

pub returns-else-mask-m-ne-UNFROZEN-4 : goal.returns-else-mask-m-ne-UNFROZEN-4
returns-else-mask-m-ne-UNFROZEN-4 c =
    two-boxes c.args.mask.now c.requires c.if-mask-m-ne-UNFROZEN.false c.if-mask-eq-UNFROZEN.false c.if-mask-eq-UNFROZEN-2.false c.if-mask-m-ne-UNFROZEN-2.false
    c.if-mask-eq-UNFROZEN-3.false c.if-mask-m-ne-UNFROZEN-3.false (omega (arith, c.if-m-lt8.false)) c.if-mask-m-ne-UNFROZEN-4.false
