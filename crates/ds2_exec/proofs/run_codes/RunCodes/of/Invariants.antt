use Rattle.std.proofs.Common.{◌≡◌, ◌++◌, length}
use Rattle.ds2_answer.specs.ObjectPlans.{references_of}
use Rattle.ds2_exec.specs.GatheredCodes.{places_behind}
use Rattle.ds2_exec.proofs.run_codes.RunCodes.of.Given as goal

abbrev pub invariant-codes : goal.invariant-codes
invariant-codes l = record {
  named : l.references ++ references_of l.left ≡ references_of l.codes;
  placed : l.places ++ places_behind (length l.references) l.left ≡ places_behind 0 l.codes;
}

abbrev pub decreases-codes : goal.decreases-codes
decreases-codes l = length l.left
