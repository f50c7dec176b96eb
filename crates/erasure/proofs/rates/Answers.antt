use Rattle.std.proofs.Common.{◌≡◌, ℕ, ◌+◌, ◌*◌, ◌%◌, ◌^◌, ◌≤◌, ◌<◌, subst, arith}
use lib.ListN.{set, length-set}
use lib.Pow.{pow-add, pow_mono, pow_pos}
use Rattle.erasure.proofs.Splitting.{Filled, filled-one, filled-from, filled_more, filled-all}
use Rattle.erasure.proofs.rates.Goals as goal

pub loop-k-init : goal.loop-k-init
loop-k-init c = filled-one c.args.z c.args.values.now (omega (arith, c.requires.1, pow_pos c.args.n))

-- the shift, and room for twice as many positions
count : (k n : ℕ) → k < n → n ≤ 10 → 1 * 2 ^ k % 18446744073709551616 ≡ 2 ^ k
count k n h few = let below : k ≤ 10 = omega arith in let most : 2 ^ k ≤ 2 ^ 10 = pow_mono below in omega arith

room : (k n : ℕ) → k < n → 2 * 2 ^ k ≤ 2 ^ n
room k n h = let m : 2 ^ (k + 1) ≤ 2 ^ n = pow_mono (omega arith) in omega (arith, pow-add 2 k 1)

pub split-requires : goal.split-requires
split-requires c =
    let l = c.loop-k in
    omega (arith, count l.k c.args.n c.loop-k-test.true c.requires.0, l.invariant.sized, length-set c.args.values.now 0 c.args.z, room l.k c.args.n c.loop-k-test.true, c.requires.1)

pub loop-k-preserved : goal.loop-k-preserved
loop-k-preserved c =
    let l = c.loop-k in
    filled_more l.k (1 * 2 ^ l.k % 18446744073709551616) c.args.z (set c.args.values.now 0 c.args.z) l.values c.split.new.values (count l.k c.args.n c.loop-k-test.true c.requires.0) l.invariant c.split.ensures

pub returns : goal.returns
returns c =
    let l = c.loop-k in
    let n = c.args.n in
    let z = c.args.z in
    let old = c.args.values.now in
    let e : l.k ≡ n = omega arith in
    filled-all n z old l.values c.requires.1
    (filled-from n z old l.values (subst (λ (k : ℕ). Filled k z (set old 0 z) l.values) e l.invariant))
