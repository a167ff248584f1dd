-- The rules of names are those on uses and those on declarations of instances.
use Rattle.std.proofs.Common.{◌≡◌, ◌++◌, sym, ap, ◌∙◌}
use Rattle.ds2_token.specs.declared.token.Token.{Token}
use Rattle.ds2_names.specs.NameRules.{from_each, from_uses, place_unless, may_be_global, all_listed_tokens, is_in_all_tables, unknown_stage, unknown_in_use, unknown_names, wrong_count_in_use, wrong_counts, not_variable_in_use, not_variables}
use Rattle.ds2_names.specs.SourceUnit.{TableColumns, PlacedName, SourceNames, spelled_name, tables_of_reading, stage_token}
use Rattle.ds2_misplaced.specs.InstanceRules.{unknown_in_instances, wrong_constructors, not_variable_in_instances}
use Rattle.ds2_name_uses.specs.BrokenUses.{unknown_names_used}
use Rattle.ds2_scope.specs.Earliest.{earlier_of, earliest}
use Rattle.ds2_scope.proofs.EarliestLemmas.{earliest_append, swap_last}

pub unknown_is_both : (tables : TableColumns) (names : SourceNames)
    → earlier_of (earliest (unknown_names_used tables names)) (earliest (unknown_in_instances tables names)) ≡ earliest (unknown_names tables names)
unknown_is_both tables names =
    let first =
    from_uses names (unknown_in_use names)
    ++ from_each (λ (t : Token). place_unless (may_be_global names (spelled_name t)) t.place) (all_listed_tokens names.unit)
    ++ from_each (λ (b : PlacedName). place_unless (is_in_all_tables tables (tables_of_reading names.reading) b.name) b.place) names.bys in
    let declared = unknown_in_instances tables names in
    let stage = unknown_stage names (stage_token names.reading) in
    ap (λ x. earlier_of x (earliest declared)) (earliest_append first stage)
    ∙ swap_last (earliest first) (earliest stage) (earliest declared)
    ∙ ap (λ x. earlier_of x (earliest stage)) (sym (earliest_append first declared))
    ∙ sym (earliest_append (first ++ declared) stage)

pub wrong_is_both : (names : SourceNames) → earlier_of (earliest (from_uses names (wrong_count_in_use names))) (earliest (wrong_constructors names)) ≡ earliest (wrong_counts names)
wrong_is_both names = sym (earliest_append (from_uses names (wrong_count_in_use names)) (wrong_constructors names))

pub not_variable_is_both : (names : SourceNames) → earlier_of (earliest (from_uses names (not_variable_in_use names))) (earliest (not_variable_in_instances names)) ≡ earliest (not_variables names)
not_variable_is_both names = sym (earliest_append (from_uses names (not_variable_in_use names)) (not_variable_in_instances names))
