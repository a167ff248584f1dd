use Rattle.std.proofs.Common.{◌≡◌, List, take}
use Rattle.ds2_meaning.specs.declared.globals.Variable.{Variable}
use Rattle.ds2_names.specs.SourceUnit.{UnitSource, columns_stored}
use Rattle.ds2_elaboration.specs.UnitsBefore.{UnitsBefore}
use Rattle.ds2_declared_types.specs.UnitReading.{ReadsAsUnit}
use Rattle.ds2_type_tables.specs.Tables.{HasLocals}
use Rattle.ds2_program_types.proofs.RuleLists.{given_of}
use Rattle.ds2_program_types.specs.MethodRules.{column_rules}
use Rattle.ds2_program_types.proofs.column_clashes.of_declared.Given as goal

abbrev pub invariant-variables : goal.invariant-variables
invariant-variables l =
    (before : UnitsBefore) (u : UnitSource) (all : List Variable) → ReadsAsUnit before u l.from → HasLocals l.declared all → l.found ≡ given_of (λ v. column_rules (columns_stored l.from.tables.now) before u all v.name) (take l.v-index l.variables)
