use Rattle.std.proofs.Common.{◌≡◌, ◌++◌, drop, map}
use Rattle.ds2_compile.specs.TablesBehind.{mention_of_output}
use Rattle.ds2_compile.proofs.outputs.tables_before.Given as goal

abbrev pub invariant-outputs : goal.invariant-outputs
invariant-outputs l = l.all ++ map (mention_of_output l.number) (drop l.o-index l.outputs) ≡ map (mention_of_output l.number) l.outputs
