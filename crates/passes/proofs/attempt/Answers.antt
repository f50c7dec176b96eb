-- `passes::attempt` meets its contract. Assumes nothing.
use mathlib.Core.Path.{sym, ap, ◌∙◌, subst}
use mathlib.Core.List.{List, map}
use Prim.Native.Nat.{ℕ}
use lib.Dec.{T}
use lib.ListN.{length}
use Rattle.model.specs.Soft.{finite}
use Rattle.model.specs.Attempts.{pass_bits}
use Rattle.leaves.specs.Pass.{Passable}
use Rattle.passes.proofs.Passing.{attempt_passable}
use Rattle.passes.proofs.attempt.Goals as goal

pub attempt_mask-requires : goal.attempt_mask-requires
attempt_mask-requires c =
    (c.requires.positions ∙ sym c.requires.passable.decodable.positions, c.requires.trial_room ∙ sym c.requires.passable.decodable.positions, c.requires.clean)

pub pass-requires : goal.pass-requires
pass-requires c =
    let a = c.args in
    record { passable = subst (λ (m : List ℕ). Passable m a.llrs.now a.sweeps a.size a.stage (length a.work.now)) (sym c.attempt_mask.ensures) (attempt_passable c.requires a.flipped); known_len = (c.requires.known-room, λ e. absurd (subst T e tt)) }

pub returns : goal.returns
returns c =
    let a = c.args in
    record { trial_after = c.pass.ensures.bits_after ∙ ap (λ (m : List ℕ). pass_bits a.stage m (map finite a.llrs.now) a.sweeps) c.attempt_mask.ensures; same_past = record { past = c.pass.ensures.passed.past; long = c.pass.ensures.passed.long } }
