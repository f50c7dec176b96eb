-- `square::decode_frame` meets its contract: the planner's plan, the sums along it, and the cycles of all lines. Assumes nothing.
use Rattle.std.proofs.Common.{◌*◌, ◌≤◌, ℕ, length, sym, ap, ◌∙◌, arith}
use native.Mathlib.Nat.{mul-le-mul, mul_assoc}
use Rattle.model.specs.Square.{line_cycles}
use Rattle.model.proofs.HalfIterations.{cycles-all}
use Rattle.inputs.proofs.Rows.{refusal_not_zero}
use Rattle.square.proofs.Plans.{planned, ready, planned-cycles, cycles-few}
use Rattle.square.proofs.decode_frame.Goals as goal

pub unreachable-requires : goal.unreachable-requires
unreachable-requires c =
    let p = c.requires.passed in
    refusal_not_zero _ (c.in_default.ensures.number ∙ sym (planned c.args.mask.now c.args.masked.stage p.mask-passed p.few))

pub invariant_of-code : goal.invariant_of-code
invariant_of-code c =
    let p = c.requires.passed in
    record { ready = ready c.args.mask.now c.args.masked.stage p.mask-passed p.few c.plan_mask.new.plan c.plan_mask.ensures.plan_after c.args.masked.ones c.requires.ones }

pub overflow_mul-result-2 : goal.overflow_mul-result-2
overflow_mul-result-2 c =
    let p = c.requires.passed in
    let cycles_are = c.in-Ok.ensures.cycles ∙ planned-cycles c.args.mask.now c.args.masked.stage p.mask-passed p.few in
    let few : c.in-Ok.planned.cycles ≤ 4096 = omega (arith, cycles_are, cycles-few c.args.mask.now c.args.masked.stage p.mask-passed p.few) in
    let lines : c.args.count * length c.args.mask.now ≤ 16 * 32 = mul-le-mul p.most p.few in
    let most : c.args.count * length c.args.mask.now * c.in-Ok.planned.cycles ≤ 16 * 32 * 4096 = mul-le-mul lines few in
    record { fits = omega (arith, most) }

pub returns-clause-value : goal.returns-clause-value
returns-clause-value c =
    let a = c.args in
    let p = c.requires.passed in
    let N = length a.mask.now in
    let cycles_are = c.in-Ok.ensures.cycles ∙ planned-cycles a.mask.now a.masked.stage p.mask-passed p.few in
    ap (λ (k : ℕ). a.count * N * k) cycles_are ∙ mul_assoc a.count N (line_cycles a.masked.stage a.mask.now)
    ∙ ap (λ (m : ℕ). a.count * (m * line_cycles a.masked.stage a.mask.now)) p.mask-passed.sized ∙ sym (cycles-all a.masked.stage a.mask.now a.channel.now a.count)
