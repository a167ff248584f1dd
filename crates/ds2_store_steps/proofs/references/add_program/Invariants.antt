use Rattle.std.proofs.Common.{◌≡◌, ◌++◌, length}
use Rattle.ds2_code_answer.specs.CodeTables.{program_references}
use Rattle.ds2_store_steps.proofs.references.add_program.Given as goal

abbrev pub invariant-stages : goal.invariant-stages
invariant-stages l = l.references ++ program_references l.program l.stages ≡ l.initial.references ++ program_references l.parts.program l.parts.stages

abbrev pub decreases-stages : goal.decreases-stages
decreases-stages l = length l.stages
