-- `messages::four_boxes` meets its contract: what was gathered over four classes and joined gives the message. Assumes nothing.
use mathlib.Core.Path.{ap, ◌∙◌}
use Prim.Native.Nat.{ℕ, ◌+◌, ◌%◌}
use lib.IntN.{pos}
use Rattle.words.specs.Words.{word, write}
use Rattle.words.proofs.Store.{write_ext}
use Rattle.classes.specs.declared.ByPlace.{ByPlace}
use Rattle.extrinsic.specs.Values.{leave_out, gathered_at}
use Rattle.messages.proofs.Sizes.{fours}
use Rattle.messages.proofs.Messages.{words_in, part-words, part-fours, boxes-room, joined_small, four-box_at}
use Rattle.messages.proofs.four_boxes.Goals as goal

pub gather_joined-g-requires : goal.gather_joined-g-requires
gather_joined-g-requires c =
    let a = c.args in
    record { l_len = part-fours a.w.now a.x a.s c.requires.s_bound.1 c.requires.incoming (fours c.requires.sized); by_index = part-words a.w.now a.x a.s c.requires.s_bound.1 c.requires.incoming; room_boxes = boxes-room a.w.now a.x a.s c.requires.s_bound.1 c.requires.incoming c.requires.sized.enough }

pub spread-requires : goal.spread-requires
spread-requires c =
    let a = c.args in
    record { s_bound = (c.requires.s_bound.0, c.requires.s_bound.1, fours c.requires.sized); words = words_in a.w.now a.x a.s c.requires.s_bound.1 c.requires.incoming; by_index = rw c.gather_joined-g.ensures (joined_small _) }

pub returns : goal.returns
returns c =
    let a = c.args in
    c.spread.ensures
    ∙ ap (λ (g : ByPlace). write a.w.now a.m a.s (λ (k : ℕ). leave_out (gathered_at g (k % 4)) (word a.w.now (a.x + k)))) c.gather_joined-g.ensures
    ∙ write_ext (pos 0) a.w.now a.m a.s _ _ (λ k lt. four-box_at a.w.now a.x a.s c.requires.s_bound.1 c.requires.incoming k lt c.requires.sized.enough)
