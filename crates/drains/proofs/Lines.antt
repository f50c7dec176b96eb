-- The lines by the steps of the code, and how long they are. Assumes nothing.
use mathlib.Core.Path.{◌≡◌, sym, ap}
use mathlib.Core.List.{List, [], ◌∷◌, ◌++◌, append-nil, append_assoc}
use Prim.Native.Nat.{ℕ, suc, ◌+◌, ◌-◌, ◌^◌, ◌≤◌, ◌<◌}
use native.Mathlib.Numerals.{add-one}
use native.Mathlib.Omega.{arith}
use lib.ListN.{length, get_or, length-append, get_or-map}
use Rattle.model.specs.Captures.{Totals}
use Rattle.printer.specs.Text.{nat_text, spaced, line_text}
use Rattle.printer.proofs.Sizes.{nat_length}
use Rattle.drains.specs.declared.Totals.{Totals as DrainTotals}
use Rattle.drains.specs.Text.{drain_text, drain_line, drains_text, totals_in, max_drain_line}

-- ---- one line

-- the pieces in which a line is put
abbrev pub pieces : List ℕ → List ℕ → List ℕ → List ℕ → List ℕ → List ℕ
pieces d f c x y = d ++ ((32 ∷ f) ++ ((32 ∷ c) ++ ((32 ∷ x) ++ ((32 ∷ y) ++ (10 ∷ [])))))

feed_in : (f c x y : List ℕ) → (f ++ (32 ∷ (c ++ (32 ∷ (x ++ (32 ∷ (y ++ []))))))) ++ (10 ∷ []) ≡ f ++ (32 ∷ (c ++ (32 ∷ (x ++ (32 ∷ (y ++ (10 ∷ [])))))))
feed_in f c x y = simp (append_assoc, append-nil)

pub drain-pieces : (drain frames checks differ cycles : ℕ)
    → pieces (nat_text drain) (nat_text frames) (nat_text checks) (nat_text differ) (nat_text cycles) ≡ drain_text drain frames checks differ cycles
unfolding drain_text line_text spaced
drain-pieces drain frames checks differ cycles =
    ap (λ (r : List ℕ). nat_text drain ++ (32 ∷ r)) (sym (feed_in (nat_text frames) (nat_text checks) (nat_text differ) (nat_text cycles)))

-- a number of 64 bits has at most 20 digits
pub twenty : (n : ℕ) → n < 2 ^ 64 → length (nat_text n) ≤ 20
twenty n h = nat_length 19 n (omega (arith, h))

pieces-length : (d f c x y : List ℕ) → length (pieces d f c x y) ≡ length d + length f + length c + length x + length y + 5
pieces-length d f c x y =
    omega (
      arith,
      length-append d ((32 ∷ f) ++ ((32 ∷ c) ++ ((32 ∷ x) ++ ((32 ∷ y) ++ (10 ∷ []))))),
      length-append f ((32 ∷ c) ++ ((32 ∷ x) ++ ((32 ∷ y) ++ (10 ∷ [])))),
      length-append c ((32 ∷ x) ++ ((32 ∷ y) ++ (10 ∷ []))),
      length-append x ((32 ∷ y) ++ (10 ∷ [])),
      length-append y (10 ∷ []),
    )

pub drain-size : (drain frames checks differ cycles : ℕ) → length (nat_text drain) ≤ 20 → length (nat_text frames) ≤ 20 → length (nat_text checks) ≤ 20
    → length (nat_text differ) ≤ 20 → length (nat_text cycles) ≤ 20 → length (drain_text drain frames checks differ cycles) ≤ max_drain_line
drain-size drain frames checks differ cycles d f c x y =
    omega (
      arith,
      ap length (drain-pieces drain frames checks differ cycles),
      pieces-length (nat_text drain) (nat_text frames) (nat_text checks) (nat_text differ) (nat_text cycles),
    )

-- ---- what is still to come after d drains
module _ (totals : ℕ → Totals) where
  abbrev pub drains_from : ℕ → List ℕ
  drains_from d = drains_text (64 - d) d totals

  pub drains_on : (d : ℕ) → d < 64 → drain_line d (totals d).frames (totals d).checks (totals d).differ (totals d).cycles ++ drains_from (d + 1) ≡ drains_from d
  unfolding drains_text
  drains_on d h = let e : 64 - d ≡ suc (64 - (d + 1)) = omega arith in rw (e, add-one d)

  pub drains-end : (d : ℕ) → 64 ≤ d → drains_from d ≡ []
  unfolding drains_text
  drains-end d h = let e : 64 - d ≡ 0 = omega arith in rw e

-- ---- totals that stand in one list

-- of a place beyond its end
abbrev pub no_totals : DrainTotals
no_totals = record { frames = 0; checks = 0; differ = 0; cycles = 0 }

-- what is to come after d drains begins with the line of the next
pub listed_on : (ts : List DrainTotals) (d : ℕ) → d < 64
    → let t : DrainTotals = get_or ts d no_totals in
    drain_line d t.frames t.checks t.differ t.cycles ++ drains_from (totals_in ts) (d + 1) ≡ drains_from (totals_in ts) d
listed_on ts d h =
    let f = get_or-map (λ (t : DrainTotals). t.frames) ts d no_totals in
    let c = get_or-map (λ (t : DrainTotals). t.checks) ts d no_totals in
    let x = get_or-map (λ (t : DrainTotals). t.differ) ts d no_totals in
    let y = get_or-map (λ (t : DrainTotals). t.cycles) ts d no_totals in
    rw (← f, ← c, ← x, ← y) (drains_on (totals_in ts) d h)
