-- `messages::box_small` meets its contract: what was gathered over a class gives the box of the others. Assumes nothing.
use mathlib.Core.Path.{ap, ◌∙◌}
use Prim.Native.Nat.{ℕ, ◌+◌, ◌%◌}
use native.Mathlib.Omega.{arith}
use lib.IntN.{pos}
use Rattle.words.specs.Words.{word, write}
use Rattle.words.proofs.Store.{write_ext}
use Rattle.classes.specs.declared.ByPlace.{ByPlace}
use Rattle.extrinsic.specs.Values.{leave_out, gathered_at}
use Rattle.messages.proofs.Sizes.{divides-four}
use Rattle.messages.proofs.Messages.{words_in, part-words, sizes-small, box-at}
use Rattle.messages.proofs.box_small.Goals as goal

pub spread-requires : goal.spread-requires
spread-requires c =
    let a = c.args in
    record { s_bound = (c.requires.s_bound.0, c.requires.s_bound.1, c.requires.s_bound.4); words = words_in a.w.now a.x a.s c.requires.s_bound.1 c.requires.incoming; by_index = rw c.gather_all-g.ensures (sizes-small a.p _) }

pub returns : goal.returns
returns c =
    let a = c.args in
    c.spread.ensures
    ∙ ap (λ (g : ByPlace). write a.w.now a.m a.s (λ (k : ℕ). leave_out (gathered_at g (k % 4)) (word a.w.now (a.x + k)))) c.gather_all-g.ensures
    ∙ write_ext (pos 0) a.w.now a.m a.s _ _ (box-at a.w.now a.x a.s c.requires.s_bound.1 c.requires.incoming a.p c.requires.s_bound.2 (divides-four a.p c.requires.s_bound.2 c.requires.s_bound.3))

pub gather_all-g-requires : goal.gather_all-g-requires
gather_all-g-requires c =
    record { p_nonzero = omega arith; by_index = part-words c.args.w.now c.args.x c.args.s c.requires.s_bound.1 c.requires.incoming }
