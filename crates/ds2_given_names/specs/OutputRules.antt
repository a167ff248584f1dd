-- The earliest places at which outputs break the rules on their columns.
use Rattle.std.specs.Prelude.{◌≡◌, List, [], ◌∷◌, Option}
use Rattle.std.specs.Option.{option_map_or}
use Rattle.ds2_base.specs.declared.place.Place.{Place}
use Rattle.ds2_token.specs.declared.token.Token.{Token}
use Rattle.ds2_tree.specs.declared.units.OutputTable as source_output
use Rattle.ds2_names.specs.NameRules.{from_each, options_of, clashing_columns}
use Rattle.ds2_names.specs.SourceUnit.{SourceNames}
use Rattle.ds2_names.specs.UnitRules.{without_columns, output_without_columns}
use Rattle.ds2_given_names.specs.declared.output_rules.BrokenOutputs.{BrokenOutputs}
use Rattle.ds2_scope.specs.Earliest.{earlier_of, earliest}
use Rattle.ds2_given_names.specs.OutputParts.{clashing_in}

-- the place of a name, where there is one
abbrev pub name_place : Option Token → List Place
name_place name = option_map_or (λ (t : Token). t.place ∷ []) name []

-- the earlier places of two
abbrev pub earlier_of_both : BrokenOutputs → BrokenOutputs → BrokenOutputs
earlier_of_both a b = record { clash = earlier_of a.clash b.clash; empty = earlier_of a.empty b.empty }

-- what an output breaks that is not `_null_`
pub record BreaksRealOutput (names : SourceNames) (o : source_output.OutputTable) (b : BrokenOutputs) : Type 0 where
  pub clash : b.clash ≡ earliest (clashing_columns names o)
  pub empty : b.empty ≡ earliest (without_columns names (options_of o.options) o.table.place)

-- what an output breaks
pub record BreaksOutput (names : SourceNames) (o : source_output.OutputTable) (b : BrokenOutputs) : Type 0 where
  pub clash : b.clash ≡ earliest (clashing_in names o)
  pub empty : b.empty ≡ earliest (output_without_columns names o)

-- what outputs break
pub record BreaksOutputs (names : SourceNames) (outputs : List source_output.OutputTable) (b : BrokenOutputs) : Type 0 where
  pub clash : b.clash ≡ earliest (from_each (clashing_in names) outputs)
  pub empty : b.empty ≡ earliest (from_each (output_without_columns names) outputs)
