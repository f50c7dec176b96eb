-- `flips::known_word` meets its contract. Assumes nothing.
use mathlib.Core.Path.{sym, ap, ◌∙◌, subst}
use Rattle.model.specs.Encoding.{known_word, transform}
use Rattle.transform.specs.Steps.{AllBits}
use Rattle.flips.proofs.Places.{known_are_bits}
use Rattle.flips.proofs.known_word.Goals as goal

pub strides-requires : goal.strides-requires
strides-requires c =
    (c.frozen_values.auto.bits ∙ c.requires.0 ∙ c.requires.1, subst AllBits (sym c.frozen_values.ensures) (known_are_bits c.args.mask.now))

pub returns : goal.returns
unfolding known_word
returns c =
    c.strides.ensures ∙ ap (transform c.args.n) c.frozen_values.ensures
