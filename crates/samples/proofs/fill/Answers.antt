-- `samples::fill` meets its contract: the LLRs of the samples, with the known ones put in their place unless every mark is 0. Assumes nothing.
use Rattle.std.proofs.Common.{sym, ap, ◌∙◌, subst, List, ◌≤◌, ℤ, length, rules}
use lib.Dec.{T}
use Rattle.model.specs.Lists.{at_most, over}
use Rattle.model.proofs.Lists.{true-T}
use Rattle.samples.specs.Cases.{marked_llrs}
use Rattle.samples.proofs.Stores.{replaced, all-sent}
use Rattle.samples.proofs.fill.Goals as goal

pub returns-then-not-at_most : goal.returns-then-not-at_most
returns-then-not-at_most c =
    let a = c.args in
    let sent = c.fill_sent.new.llrs in
    let room : length a.marks.now ≤ length sent = search rules in
    c.set_known.ensures
    ∙ ap (λ (l : List ℤ). over (marked_llrs a.marks.now l) l) c.fill_sent.ensures
    ∙ replaced a.channel.variance a.marks.now a.samples.now a.llrs.now c.requires.0 (subst (λ (l : List ℤ). length a.marks.now ≤ length l) c.fill_sent.ensures room)

pub returns-else-not-at_most : goal.returns-else-not-at_most
returns-else-not-at_most c =
    let a = c.args in
    let none : T (at_most 0 a.marks.now) = true-T _ (sym c.if-not-at_most.ensures) in
    c.fill_sent.ensures ∙ ap (λ (l : List ℤ). over l a.llrs.now) (all-sent a.channel.variance a.marks.now a.samples.now c.requires.0 none)
