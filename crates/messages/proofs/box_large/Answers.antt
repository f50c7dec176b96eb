-- `messages::box_large` meets its contract: what is gathered from the folded quarter gives the box of the others, and the message is stored over it. Assumes nothing.
use mathlib.Core.Path.{◌≡◌, ap, ◌∙◌}
use Prim.Native.Nat.{ℕ, ◌+◌, ◌%◌}
use native.Mathlib.Omega.{arith}
use Rattle.words.specs.Words.{word, write}
use Rattle.classes.specs.declared.ByPlace.{ByPlace}
use Rattle.classes.specs.LeastSizes.{gather_all}
use Rattle.extrinsic.specs.Values.{leave_out, gathered_at}
use Rattle.messages.proofs.Sizes.{divides-four}
use Rattle.messages.proofs.Messages.{part_of, words_in, sizes-small, box-at}
use Rattle.messages.proofs.Folded.{FoldedPlace, quarter-even, folded_length, folded_fits, list-kept, words-kept, message-over, part-four, low_holds, high_holds, low-sizes}
use Rattle.messages.proofs.box_large.Goals as goal

pub fold-requires : goal.fold-requires
fold-requires c =
    let a = c.args in
    record { q_bound = (omega arith, omega arith); words = λ k lt. words_in a.w.now a.x a.s c.requires.s_bound.1 c.requires.incoming k (omega arith) }

pub gather_all_folded-g-requires : goal.gather_all_folded-g-requires
gather_all_folded-g-requires c =
    let scratch : let a = c.args in FoldedPlace a.w.now c.fold.new.w a.m a.x a.s = record { apart = c.requires.s_bound.0; fit = c.requires.s_bound.1; eighths = c.requires.s_bound.4; stores = c.fold.ensures } in
    let h = scratch in
    record { p_nonzero = (c.requires.s_bound.2, c.requires.s_bound.3, quarter-even h, folded_fits h); by_index = low-sizes h }

pub spread-requires : goal.spread-requires
spread-requires c =
    let scratch : let a = c.args in FoldedPlace a.w.now c.fold.new.w a.m a.x a.s = record { apart = c.requires.s_bound.0; fit = c.requires.s_bound.1; eighths = c.requires.s_bound.4; stores = c.fold.ensures } in
    let all-is : let a = c.args in c.gather_all_folded-g.result ≡ gather_all a.p (part_of a.w.now a.x a.s) = let h = scratch in c.gather_all_folded-g.ensures _ (part-four h) (low_holds h) (high_holds h) in
    let a = c.args in
    let h = scratch in
    record { s_bound = (c.requires.s_bound.0, omega (arith, folded_length h), omega arith); words = words-kept h (words_in a.w.now a.x a.s c.requires.s_bound.1 c.requires.incoming); by_index = rw all-is (sizes-small a.p _) }

pub returns : goal.returns
returns c =
    let scratch : let a = c.args in FoldedPlace a.w.now c.fold.new.w a.m a.x a.s = record { apart = c.requires.s_bound.0; fit = c.requires.s_bound.1; eighths = c.requires.s_bound.4; stores = c.fold.ensures } in
    let all-is : let a = c.args in c.gather_all_folded-g.result ≡ gather_all a.p (part_of a.w.now a.x a.s) = let h = scratch in c.gather_all_folded-g.ensures _ (part-four h) (low_holds h) (high_holds h) in
    let a = c.args in
    let v = c.fold.new.w in
    let h = scratch in
    c.spread.ensures
    ∙ ap (λ (g : ByPlace). write v a.m a.s (λ (k : ℕ). leave_out (gathered_at g (k % 4)) (word v (a.x + k)))) all-is
    ∙ message-over h _ _
    (λ k lt. ap (leave_out (gathered_at (gather_all a.p (part_of a.w.now a.x a.s)) (k % 4))) (list-kept h k)
    ∙ box-at a.w.now a.x a.s c.requires.s_bound.1 c.requires.incoming a.p c.requires.s_bound.2 (divides-four a.p c.requires.s_bound.2 c.requires.s_bound.3) k lt)
