-- The rules of types that the methods and columns of a unit break, one by one.
use Rattle.std.specs.Prelude.{ℕ, List, [], Option, Some, None, Result, Ok, Err}
use Rattle.ds2_elaboration.specs.UnitsBefore.{UnitsBefore}
use Rattle.ds2_base.specs.declared.place.Refusal.{Refusal}
use Rattle.ds2_tree.specs.Globals.{GlobalItem, Defined}
use Rattle.ds2_meaning.specs.IsTyped.{type_in}
use Rattle.ds2_meaning.specs.declared.globals.Variable.{Variable}
use Rattle.ds2_meaning.specs.declared.refusals.TypeKind.{TypeKind}
use Rattle.ds2_meaning.specs.declared.refusals.TypeKind.TheVariants.{TypeClash}
use Rattle.ds2_names.specs.Refusals.{broken_at, first_of_both, type_rank}
use Rattle.ds2_names.specs.SourceUnit.{TableColumns, UnitSource}
use Rattle.ds2_elaboration.specs.ProgramTypes.{method_refusals}
use Rattle.ds2_elaboration.specs.SourceTypes.{clashing_at}
use Rattle.ds2_elaboration.specs.Typings.{TypeRefusals}

-- what a part of a unit breaks, where it is a method
abbrev pub part_rules : TableColumns → UnitsBefore → UnitSource → GlobalItem → TypeRefusals
part_rules tables before u (Defined m) = method_refusals tables before u m
part_rules tables before u _ = []

-- what a column of this name breaks, beside the variables that a unit declares
abbrev pub column_rules : TableColumns → UnitsBefore → UnitSource → List Variable → List ℕ → TypeRefusals
column_rules tables before u declared name = broken_at TypeClash (clashing_at tables before u (type_in declared name) name)

-- what stands beside a rule that may be broken
abbrev pub under_rule : {A : Type 0} → Option (Refusal TypeKind) → Result A (Refusal TypeKind) → Result A (Refusal TypeKind)
under_rule None outcome = outcome
under_rule (Some own) (Ok x) = Err own
under_rule (Some own) (Err further) = Err (first_of_both type_rank own (Some further))
