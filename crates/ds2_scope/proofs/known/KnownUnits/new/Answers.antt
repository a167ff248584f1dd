use Rattle.std.proofs.Common.{refl, arith}
use Rattle.std.proofs.lemmas.Grind.{common_steps}
use Rattle.ds2_scope.proofs.known.KnownUnits.new.Goals as goal

pub returns : goal.returns
returns c = record {
  packages = λ name. grind (arith, common_steps);
  threads = λ name. grind (arith, common_steps);
  package_count = refl;
  thread_count = refl;
}
