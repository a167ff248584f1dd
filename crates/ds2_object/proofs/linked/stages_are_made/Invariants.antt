use Rattle.std.proofs.Common.{List, length}
use Rattle.ds2_code.specs.declared.parts.ProgramParts.{ProgramParts}
use Rattle.ds2_code.specs.declared.parts.StagedParts.{StagedParts}
use Rattle.ds2_object.specs.ObjectSpelling.{parts_linked}
use Rattle.ds2_object.specs.MadeTables.{parts_spelled}
use Rattle.ds2_object.proofs.WalkLemmas.{WalkLeft}
use Rattle.ds2_object.proofs.linked.stages_are_made.Given as goal

abbrev pub invariant-stages : goal.invariant-stages
invariant-stages l = WalkLeft l.made (λ (earlier : List StagedParts) (p : ProgramParts). parts_linked earlier p) parts_spelled l.stages l.rest

abbrev pub decreases-stages : goal.decreases-stages
decreases-stages l = length l.rest
