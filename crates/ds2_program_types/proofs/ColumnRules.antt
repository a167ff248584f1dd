-- What a column breaks, as the code tells it.
use Rattle.std.proofs.Common.{◌≡◌, ℕ, List, Option, ap, ◌∙◌}
use Rattle.ds2_base.specs.declared.place.Place.{Place}
use Rattle.ds2_base.specs.declared.place.Refusal.{Refusal}
use Rattle.ds2_value.specs.declared.ty.Ty.{Ty}
use Rattle.ds2_meaning.specs.IsTyped.{type_in}
use Rattle.ds2_meaning.specs.declared.globals.Variable.{Variable}
use Rattle.ds2_meaning.specs.declared.refusals.TypeKind.{TypeKind}
use Rattle.ds2_meaning.specs.declared.refusals.TypeKind.TheVariants.{TypeClash}
use Rattle.ds2_names.specs.Refusals.{broken_at}
use Rattle.ds2_names.specs.SourceUnit.{TableColumns, UnitSource}
use Rattle.ds2_elaboration.specs.SourceTypes.{clashing_at}
use Rattle.ds2_elaboration.specs.UnitsBefore.{UnitsBefore}
use Rattle.ds2_types.specs.Judgements.{first_type_refusal}
use Rattle.ds2_declared_types.specs.Joins.{places_in}
use Rattle.ds2_program_types.specs.MethodRules.{column_rules}

-- the rule that is given of columns that clash at these places
abbrev pub rule_at : List Place → Option (Refusal TypeKind)
rule_at places = first_type_refusal (broken_at TypeClash places)

-- the rule that is given of a column
pub rule_of_column : (tables : TableColumns) (before : UnitsBefore) (u : UnitSource) (variables : List Variable) (name : List ℕ) (own : Option Ty) (found : Option Place)
    → own ≡ type_in variables name → places_in found ≡ clashing_at tables before u own name
    → rule_at (places_in found) ≡ first_type_refusal (column_rules tables before u variables name)
rule_of_column tables before u variables name own found o f = ap rule_at f ∙ ap (λ (ty : Option Ty). rule_at (clashing_at tables before u ty name)) o
