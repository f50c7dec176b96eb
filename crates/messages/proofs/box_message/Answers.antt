-- `messages::box_message` meets its contract: each way does. Assumes nothing.
use mathlib.Core.Path.{◌≡◌, sym, ◌∙◌}
use mathlib.Core.List.{List}
use Prim.Native.Nat.{ℕ}
use native.Mathlib.Omega.{arith}
use borrow.Author.Tests.{eq-eqb, ne_eqb}
use lib.IntN.{ℤ}
use Rattle.model.specs.Soft.{box, certain}
use Rattle.model.specs.Kinds.{others, type_iv}
use Rattle.classes.proofs.Periods.{lower_period}
use Rattle.messages.specs.Cut.{box_by, message_words}
use Rattle.messages.proofs.Sizes.{fours, eighths}
use Rattle.messages.proofs.box_message.Goals as goal

-- the message by the period
four : (p : ℕ) (w : List ℤ) (m x s : ℕ) → p ≡ 4 → message_words type_iv w m x s ≡ message_words (box_by p) w m x s
four p w m x s e = sym (simp (eq-eqb p 4 e))

fewer : (p : ℕ) (w : List ℤ) (m x s : ℕ) → (p ≡ 4 → ⊥) → message_words (others box certain p) w m x s ≡ message_words (box_by p) w m x s
fewer p w m x s e = sym (simp (ne_eqb p 4 e))

pub box_small-requires : goal.box_small-requires
box_small-requires c =
    let q = lower_period c.args.p c.requires.period c.if-p-eq4.false in
    record { s_bound = (c.requires.s_bound.0, c.requires.s_bound.1, q.0, q.1, fours c.requires.sized); incoming = c.requires.incoming }

pub box_large-requires : goal.box_large-requires
box_large-requires c =
    let q = lower_period c.args.p c.requires.period c.if-p-eq4.false in
    record { s_bound = (c.requires.s_bound.0, c.requires.s_bound.1, q.0, q.1, eighths c.requires.sized (omega arith)); incoming = c.requires.incoming }

pub four_boxes-requires : goal.four_boxes-requires
four_boxes-requires c =
    record { s_bound = c.requires.s_bound; sized = c.requires.sized; incoming = c.requires.incoming }

pub returns-then-p-eq4 : goal.returns-then-p-eq4
returns-then-p-eq4 c = let a = c.args in c.four_boxes.ensures ∙ four a.p a.w.now a.m a.x a.s c.if-p-eq4.true

pub returns-then-s-lt32 : goal.returns-then-s-lt32
returns-then-s-lt32 c = let a = c.args in c.box_small.ensures ∙ fewer a.p a.w.now a.m a.x a.s c.if-p-eq4.false

pub returns-else-s-lt32 : goal.returns-else-s-lt32
returns-else-s-lt32 c = let a = c.args in c.box_large.ensures ∙ fewer a.p a.w.now a.m a.x a.s c.if-p-eq4.false
