use Rattle.std.proofs.Common.{◌≡◌, sym, ◌∙◌, length, ℤ, arith, rules}
use Rattle.std.specs.Float.{nan}
use lib.ListN.{length-map, get_or-map}
use lib.Ieee.{Float}
use mir.Syntax.{w16}
use mir.Val.{to_z, of_z}
use Rattle.model.specs.Samples.{sent, llr_of}
use Rattle.samples.specs.Cases.{position_named, sent_llrs}
use Rattle.samples.proofs.Stores.{one-stored, all-stored}
use Rattle.samples.proofs.fill_sent.Goals as goal

pub loop-i-preserved : goal.loop-i-preserved
unfolding position_named
loop-i-preserved c =
    let l = c.loop-i in
    let f : Float → ℤ = λ (y : Float). llr_of c.args.channel.variance (sent y) in
    let ys = c.args.samples.now in
    let x = to_z w16 (of_z w16 c.llr_of.result) in
    let back : x ≡ c.llr_of.result = search rules in
    let many : length (sent_llrs c.args.channel.variance ys) ≡ length ys = length-map ys f in
    one-stored (sent_llrs c.args.channel.variance ys) c.args.llrs.now l.llrs l.i l.invariant (f nan) x
    (omega arith) (omega arith) (back ∙ c.llr_of.ensures ∙ sym (get_or-map f ys l.i nan))

pub returns : goal.returns
returns c =
    let l = c.loop-i in
    let many = length-map c.args.samples.now (λ (y : Float). llr_of c.args.channel.variance (sent y)) in
    all-stored (sent_llrs c.args.channel.variance c.args.samples.now) c.args.llrs.now l.llrs l.i l.invariant (omega arith)
