use Rattle.std.proofs.Common.{arith}
use Rattle.std.proofs.lemmas.Grind.{common_steps}
use Rattle.erasure.proofs.split.Goals as goal

pub loop-j-preserved : goal.loop-j-preserved
loop-j-preserved c = record {
  sized = grind (arith, common_steps);
  early = λ i h. grind (arith, common_steps);
  late = λ i h k. grind (arith, common_steps);
  rest = λ i h. grind (arith, common_steps);
}
