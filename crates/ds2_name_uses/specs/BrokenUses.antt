-- What the uses of names in a method break of a rule, and what a unit breaks of the rules on uses.
use Rattle.std.specs.Prelude.{◌≡◌, List, ◌++◌}
use Rattle.ds2_base.specs.declared.place.Place.{Place}
use Rattle.ds2_token.specs.declared.token.Token.{Token}
use Rattle.ds2_tree.specs.Globals.{Method}
use Rattle.ds2_names.specs.NameRules.{from_each, place_unless, uses_in, from_uses, may_be_global, all_listed_tokens, is_in_all_tables, unknown_stage, unknown_in_use, not_variable_in_use, unknown_methods, wrong_count_in_use}
use Rattle.ds2_names.specs.SourceUnit.{TableColumns, PlacedName, SourceNames, UnitSource, spelled_name, tables_of_reading, stage_token}
use Rattle.ds2_names.specs.UnitRules.{misplaced_setting}
use Rattle.ds2_scope.specs.Earliest.{earliest}
use Rattle.ds2_scope.specs.UnitNames.{reading_in_unit}
use Rattle.ds2_name_uses.specs.ListedParts.{unknown_in_lists, unknown_in_output, lacking_by, unknown_stage_by}
use Rattle.ds2_name_uses.specs.declared.used_names.BrokenUses.{BrokenUses}
use Rattle.ds2_name_uses.specs.declared.scope.UsageRule.{UsageRule}
use Rattle.ds2_name_uses.specs.UseRules.{NameTests, broken_in_use}

-- the places at which the uses of names in a method break a rule
abbrev pub broken_in_method : UsageRule → SourceNames → Method → List Place
broken_in_method rule names m = from_each (broken_in_use rule names m) (uses_in names m)

-- the names of a unit that are not there, beside those that are used: listed ones, BY variables, and the instance of `set from`
abbrev pub unknown_beside_uses : TableColumns → List PlacedName → NameTests → UnitSource → List Place
unknown_beside_uses tables bys t u =
    from_each (unknown_in_lists t) u.globals ++ from_each (unknown_in_output t) u.outputs
    ++ from_each (lacking_by tables (tables_of_reading (reading_in_unit u))) bys
    ++ unknown_stage_by t (stage_token (reading_in_unit u))

-- the names of a unit that are not there, those in declarations of instances aside: one that is used, one that is listed, a BY
-- variable that some table lacks, and the instance that `set from` names
abbrev pub unknown_names_used : TableColumns → SourceNames → List Place
unknown_names_used tables names =
    from_uses names (unknown_in_use names)
    ++ from_each (λ (t : Token). place_unless (may_be_global names (spelled_name t)) t.place) (all_listed_tokens names.unit)
    ++ from_each (λ (b : PlacedName). place_unless (is_in_all_tables tables (tables_of_reading names.reading) b.name) b.place) names.bys
    ++ unknown_stage names (stage_token names.reading)

-- the earliest places at which a unit breaks the rules on uses, declarations of instances aside
pub record BreaksFirst (tables : TableColumns) (names : SourceNames) (b : BrokenUses) : Type 0 where
  pub unknown_name : b.unknown_name ≡ earliest (unknown_names_used tables names)
  pub unknown_method : b.unknown_method ≡ earliest (unknown_methods names)
  pub wrong_count : b.wrong_count ≡ earliest (from_uses names (wrong_count_in_use names))
  pub not_variable : b.not_variable ≡ earliest (from_uses names (not_variable_in_use names))
  pub misplaced_setting : b.misplaced_setting ≡ earliest (from_uses names (misplaced_setting names))
