-- `samples::llr_of` meets its contract: what is selected is the LLR of the sample, or the known one. Assumes nothing.
use mathlib.Core.Path.{◌≡◌, refl, ap, ◌∙◌}
use lib.Ieee.{Float}
use lib.IntN.{ℤ}
use mir.Syntax.{w16}
use mir.Val.{to_z, of_z}
use borrow.Author.Rules.{rules}
use Rattle.model.specs.Samples as model
use Rattle.model.specs.Samples.{sent, punctured, shortened, doubled, to_llr, llr_of}
use Rattle.samples.specs.Cases.{position_named, sample_of, known_llr, selected}
use Rattle.samples.proofs.llr_of.Goals as goal

-- the sample of a position that was not sent is any number, and what it gives is not selected
by_sample : (v : Float) (p : model.Position) → selected p (to_llr (doubled (sample_of p) v)) ≡ llr_of v p
unfolding selected sample_of known_llr llr_of
by_sample v (sent y) = refl
by_sample v punctured = refl
by_sample v shortened = refl

pub returns : goal.returns
returns c =
    let a = c.args in
    let v = a.channel.variance in
    let back : to_z w16 (of_z w16 c.select.result) ≡ c.select.result = search rules in
    let handed : to_z w16 (of_z w16 c.to_llr.result) ≡ c.to_llr.result = search rules in
    back ∙ c.select.ensures
    ∙ ap (λ (l : ℤ). selected (position_named a.p) l) (handed ∙ c.to_llr.ensures ∙ ap (λ (y : Float). to_llr (doubled y v)) c.sample_of.ensures)
    ∙ by_sample v (position_named a.p)
