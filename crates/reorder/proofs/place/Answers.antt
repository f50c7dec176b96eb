-- `reorder::place` meets its contract: the entry for eight bits, cut to the bits of the stage. Assumes nothing.
use mathlib.Core.Path.{◌≡◌, ap, ◌∙◌}
use mathlib.Core.List.{List}
use Prim.Native.Nat.{ℕ, ◌-◌, ◌/◌, ◌^◌, ◌<◌, ◌≤◌}
use native.Mathlib.Omega.{arith}
use lib.ListN.{get_or}
use lib.Pow.{pow_mono}
use Rattle.model.specs.Lists.{tabulate}
use Rattle.model.specs.Sent.{backwards}
use Rattle.model.proofs.Lists.{get_d_tabulate}
use Rattle.model.proofs.Reordering.{backwards-small}
use Rattle.reorder.proofs.Places.{entry_cut}
use Rattle.reorder.proofs.place.Goals as goal

in_table : (stage p : ℕ) → stage ≤ 10 → p < 2 ^ (stage - 3) → p < 256
in_table stage p h k = let most : 2 ^ (stage - 3) ≤ 256 = pow_mono (let e : stage - 3 ≤ 8 = omega arith in e) in omega arith

entry_is : {table : List ℕ} (stage p : ℕ) → stage ≤ 10 → p < 2 ^ (stage - 3) → table ≡ tabulate 256 (backwards 8) → get_or table p 0 ≡ backwards 8 p
entry_is stage p h k e = ap (λ (l : List ℕ). get_or l p 0) e ∙ get_d_tabulate 256 (backwards 8) p 0 (in_table stage p h k)

cut : {table : List ℕ} (stage p : ℕ) → 3 ≤ stage → stage ≤ 10 → p < 2 ^ (stage - 3) → table ≡ tabulate 256 (backwards 8) → get_or table p 0 / 2 ^ (11 - stage) ≡ backwards (stage - 3) p
cut stage p g h k e = ap (λ (b : ℕ). b / 2 ^ (11 - stage)) (entry_is stage p h k e) ∙ entry_cut (stage - 3) (11 - stage) p (omega arith) k

pub bounds-table-p : goal.bounds-table-p
bounds-table-p c = in_table c.args.stage c.args.p c.requires.1 c.requires.2

pub overflow_cast-entry : goal.overflow_cast-entry
overflow_cast-entry c = record { fits = omega (arith, entry_is c.args.stage c.args.p c.requires.1 c.requires.2 c.requires.3, backwards-small 8 c.args.p) }

pub returns : goal.returns
returns c =
    let cut_to = cut c.args.stage c.args.p c.requires.0 c.requires.1 c.requires.2 c.requires.3 in
    (cut_to, omega (arith, cut_to, backwards-small (c.args.stage - 3) c.args.p))
