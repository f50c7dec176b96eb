-- `leaves::all_frozen` meets its contract: no byte of the part is that of an unfrozen position. Assumes nothing.
use mathlib.Core.Path.{◌≡◌, sym, ◌∙◌}
use Prim.Native.Nat.{ℕ, ◌+◌, ◌-◌, ◌<◌}
use native.Mathlib.Omega.{arith}
use lib.ListN.{length, get_or, take, drop, length-drop}
use lib.Seq.{length-take-le, get_or-take, get_or-drop}
use mathlib.Core.List.{List}
use Rattle.std.proofs.Common.{rules, ◌≢◌, ◌↔◌, IsTrue, EachIndex}
use Rattle.leaves.proofs.Trees.{all_frozen-test}
use Rattle.leaves.proofs.all_frozen.Goals as goal

pub returns : goal.returns
returns c =
    let a = c.args in
    let size : a.from + a.size - a.from ≡ a.size = omega arith in
    let part : List ℕ = take (a.from + a.size - a.from) (drop a.from a.mask.now) in
    let each : IsTrue c.all.result ↔ EachIndex part (λ k. get_or part k 0 ≢ 0) = search rules in
    let long : length part ≡ a.size = length-take-le (a.from + a.size - a.from) (drop a.from a.mask.now) (omega (arith, length-drop a.from a.mask.now)) ∙ size in
    let at : (k : ℕ) → k < a.size → get_or part k 0 ≡ get_or a.mask.now (a.from + k) 0 = λ k lt. get_or-take _ (drop a.from a.mask.now) k 0 (omega arith) ∙ get_or-drop a.from a.mask.now k 0 in
    all_frozen-test c.all.result a.mask.now a.from a.size
    (λ t k lt e. each.0 t k (omega arith) (at k lt ∙ e))
    (λ none. each.1 (λ k lt e. let below : k < a.size = omega arith in none k below (sym (at k below) ∙ e)))
