-- `fields::find` meets its contract: std's `position` behind what is skipped. Assumes nothing.
use Rattle.std.proofs.Common.{Some, None, eqb, rules, tests, arith}
use Rattle.std.proofs.lemmas.Iterator.{YieldsList-from_slice}
use Rattle.std.proofs.lemmas.Iterator.Adapters.{YieldsList-from_skip}
use Rattle.std.proofs.lemmas.Iterator.Consumers.{YieldsList-at}
use Rattle.std.proofs.lemmas.Iterator.Search.{position_from_yields_List}
use Rattle.fields.proofs.Finds.{first-found, none-found}
use Rattle.fields.proofs.find.Goals as goal

pub returns-in-Some : goal.returns-in-Some
returns-in-Some c =
    let a = c.args in
    let p = position_from_yields_List (λ x. eqb x a.b) _ _ (Some c.in-Some.i) c.in-Some.ensures.ran
    (YieldsList-from_skip a.from (YieldsList-at c.skip.ensures.source (YieldsList-from_slice a.s.now c.iter.ensures.rest)) c.skip.ensures.count)
    (λ x b q k. search (rules, tests)) in
    first-found a.b a.from a.s.now c.in-Some.i p

pub returns-in-None : goal.returns-in-None
returns-in-None c =
    let a = c.args in
    let p = position_from_yields_List (λ x. eqb x a.b) _ _ None c.in-None.ensures.ran
    (YieldsList-from_skip a.from (YieldsList-at c.skip.ensures.source (YieldsList-from_slice a.s.now c.iter.ensures.rest)) c.skip.ensures.count)
    (λ x b q k. search (rules, tests)) in
    let n = none-found a.b a.from a.s.now p in
    (omega (arith, n, c.max.ensures), omega (arith, c.max.ensures))
