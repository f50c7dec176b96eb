use mathlib.Core.Path.{sym, ◌∙◌}
use native.Mathlib.Omega.{arith}
use lib.ListN.{length-map, get_or-map}
use Rattle.fields.specs.Grammar.{digit}
use Rattle.fields.proofs.Stores.{storing_on, storing_end}
use Rattle.reader.proofs.store_digits.Goals as goal

pub loop-i-preserved : goal.loop-i-preserved
loop-i-preserved c =
    let s = c.args.field.now in
    storing_on c.loop-i.invariant 0 c.digit_of.result (omega (arith, length-map s digit)) (c.digit_of.ensures ∙ sym (get_or-map digit s c.loop-i.i 0))

pub returns : goal.returns
returns c =
    let s = c.args.field.now in
    storing_end c.loop-i.invariant (omega (arith, length-map s digit)) (omega (arith, length-map s digit))
