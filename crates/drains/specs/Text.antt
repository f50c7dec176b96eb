-- The text of a capture's totals: one line for each drain that occurs. Assumes nothing.
use Rattle.std.specs.Prelude.{cond, List, [], ◌∷◌, ◌++◌, map, ℕ, zero, suc, ◌*◌, eqb, get_or}
use Rattle.model.specs.Captures.{Totals}
use Rattle.drains.specs.declared.Totals.{Totals as DrainTotals}
use Rattle.printer.specs.Text.{nat_text, line_text}

-- a drain's line: drain, frames, frames whose frozen check is 1, hard bits that differ, cycles
unfoldable pub drain_text : ℕ → ℕ → ℕ → ℕ → ℕ → List ℕ
drain_text drain frames checks differ cycles = line_text (nat_text drain) (nat_text frames ∷ nat_text checks ∷ nat_text differ ∷ nat_text cycles ∷ [])

-- the same for a drain that occurs, and nothing for one without frames
abbrev pub drain_line : ℕ → ℕ → ℕ → ℕ → ℕ → List ℕ
drain_line drain frames checks differ cycles = cond (eqb frames 0) [] (drain_text drain frames checks differ cycles)

-- the lines of k drains from d on, in rising order, by the totals of each
unfoldable pub drains_text : ℕ → ℕ → (ℕ → Totals) → List ℕ
drains_text zero d totals = []
drains_text (suc k) d totals = drain_line d (totals d).frames (totals d).checks (totals d).differ (totals d).cycles ++ drains_text k (suc d) totals

-- the totals of a drain that stand in four lists
abbrev pub totals_at : List ℕ → List ℕ → List ℕ → List ℕ → ℕ → Totals
totals_at frames checks differ cycles d = record { frames = get_or frames d 0; checks = get_or checks d 0; differ = get_or differ d 0; cycles = get_or cycles d 0 }

-- the same, where one list has the totals of each drain
abbrev pub totals_in : List DrainTotals → ℕ → Totals
totals_in ts = totals_at (map (λ t. t.frames) ts) (map (λ t. t.checks) ts) (map (λ t. t.differ) ts) (map (λ t. t.cycles) ts)

-- a line has at most this many bytes: five numbers of at most 20 digits, four spaces and a line feed
abbrev pub max_drain_line : ℕ
max_drain_line = 105

-- the lines of 64 drains have at most this many bytes
abbrev pub max_drains_text : ℕ
max_drains_text = 64 * max_drain_line
