use Rattle.std.proofs.Common.{◌≡◌, ◌++◌, List, drop}
use Rattle.ds2_given_names.specs.OutputParts.{HasNewNames}
use Rattle.ds2_meaning.specs.declared.globals.Variable.{Variable}
use Rattle.ds2_names.specs.SourceUnit.{names_alone}
use Rattle.ds2_tree.specs.declared.units.Renaming.{Renaming}
use Rattle.ds2_type_tables.specs.Tables.{HasLocals}
use Rattle.ds2_unit_parts.specs.TypedOutputs.{columns_made_of}
use Rattle.ds2_unit_parts.proofs.outputs.columns.Given as goal

abbrev pub invariant-variables : goal.invariant-variables
invariant-variables l =
    (all : List Variable) (renamings : List Renaming) → HasLocals l.parts.types.now all → HasNewNames l.parts.news.now renamings
    → l.made ++ columns_made_of l.parts all renamings (names_alone (drop l.n-index l.variables)) ≡ columns_made_of l.parts all renamings (names_alone l.variables)
