-- `reader::read_parts` meets its contract: each return has the fields that were read, and these are the definition's. Assumes nothing.
use mathlib.Core.Path.{◌≡◌, refl, sym, ap, ◌∙◌}
use mir.Syntax.{w32}
use mir.Val.{to_z, of_z}
use borrow.Author.Rules.{rules}
use Rattle.fields.specs.Grammar.{fields, is_digits}
use Rattle.fields.specs.Steps.{read_number}
use Rattle.reader.specs.Answers.{count}
use Rattle.reader.proofs.Loop.{says-value, says_none}
use Rattle.reader.proofs.Lines.{few_fields, bad-mask, bad-sweeps, bad-llrs, all-parts, all-fronts}
use Rattle.reader.proofs.read_parts.Goals as goal

pub returns-in_err-mask-clause-parts : goal.returns-in_err-mask-clause-parts
returns-in_err-mask-clause-parts c = c.from_residual.ensures ∙ few_fields (fields c.args.line.now) c.in_err-mask.ensures

pub returns-in_err-sweeps-clause-parts : goal.returns-in_err-sweeps-clause-parts
returns-in_err-sweeps-clause-parts c =
    let f = c.in_ok-mask.ensures in
    c.from_residual-in_err-sweeps.ensures ∙ bad-sweeps (fields c.args.line.now) f.0 (says_none _ (c.in_err-sweeps.ensures ∙ ap read_number f.2))

pub returns-in_err-read-clause-parts : goal.returns-in_err-read-clause-parts
returns-in_err-read-clause-parts c =
    c.from_residual-in_err-read.ensures ∙ bad-llrs (fields c.args.line.now) c.in_ok-mask.ensures.0 c.in_err-read.ensures.is

pub returns-then-not-digits_only-clause-parts : goal.returns-then-not-digits_only-clause-parts
returns-then-not-digits_only-clause-parts c =
    let f = c.in_ok-mask.ensures in
    bad-mask (fields c.args.line.now) f.0 (ap is_digits (sym f.1) ∙ sym c.if-not-digits_only.ensures)

pub returns-clause-parts : goal.returns-clause-parts
returns-clause-parts c =
    let f = c.in_ok-mask.ensures in
    let z = to_z w32 (of_z w32 c.in_ok-sweeps.sweeps) in
    let back : z ≡ c.in_ok-sweeps.sweeps = search rules in
    let v = says-value _ c.in_ok-sweeps.sweeps (c.in_ok-sweeps.ensures ∙ ap read_number f.2) in
    all-parts (fields c.args.line.now) f.0 (ap is_digits (sym f.1) ∙ sym c.if-not-digits_only.ensures) v.0 c.in_ok-read.read c.in_ok-read.ensures.is
    c.in_ok-mask.mask.now f.1 c.at_most.result c.at_most.ensures c.sweep_count.result (c.sweep_count.ensures ∙ ap count (back ∙ v.1))

pub returns-clause-fronts : goal.returns-clause-fronts
returns-clause-fronts c =
    let f = c.in_ok-mask.ensures in
    let v = says-value _ c.in_ok-sweeps.sweeps (c.in_ok-sweeps.ensures ∙ ap read_number f.2) in
    all-fronts (fields c.args.line.now) f.0 (ap is_digits (sym f.1) ∙ sym c.if-not-digits_only.ensures) v.0 c.in_ok-read.read c.in_ok-read.ensures.is
    c.in_ok-mask.mask.now f.1 c.args.line.now refl c.args.llrs.now c.read_llrs.new.llrs c.in_ok-read.ensures
