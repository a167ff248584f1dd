use Rattle.std.proofs.Common.{sym, ◌∙◌}
use Rattle.ds2_calls.specs.UnitsCalls.{HasCalls}
use Rattle.ds2_names.specs.SourceUnit.{columns_stored, names_of_unit}
use Rattle.ds2_scope.specs.CodeUnits.{unit_source}
use Rattle.ds2_scope.specs.Earliest.{earlier_of}
use Rattle.ds2_resolve.proofs.RuleParts.{unknown_is_both, wrong_is_both, not_variable_is_both}
use Rattle.ds2_resolve.proofs.resolving.rules_broken.Goals as goal

pub returns-clause-rules : goal.returns-clause-rules
returns-clause-rules c = λ units kept are.
    let tables = columns_stored c.args.tables.now in
    let names = names_of_unit tables units.known (unit_source c.args.unit) in
    let calls : HasCalls _ names = record { of_unit = c.in_ok-own.ensures; of_units_before = kept.calls } in
    let used = c.in_ok-used.ensures units.known are calls in
    let declared = c.in_ok-declared.ensures names are calls c.requires in
    let given = c.in_ok-given.ensures tables units.known kept.known are in
    let unknown = c.earlier_of.ensures ∙ (λ i. earlier_of (used.unknown_name i) (declared.unknown_name i)) ∙ unknown_is_both tables names in
    let wrong = c.earlier_of-2.ensures ∙ (λ i. earlier_of (used.wrong_count i) (declared.wrong_count i)) ∙ wrong_is_both names in
    let not_variable = c.earlier_of-3.ensures ∙ (λ i. earlier_of (used.not_variable i) (declared.not_variable i)) ∙ not_variable_is_both names in
    let misplaced =
    c.earlier_of-4.ensures
    ∙ (λ i. earlier_of (c.in_ok-out_of_place.ensures tables units.known kept.known i) (used.misplaced_setting i))
    ∙ sym (c.misplaced_is_both.ensures names) in
    λ i. record {
      unknown_name = unknown i;
      duplicate_name = given.duplicate_name i;
      unknown_method = used.unknown_method i;
      wrong_count = wrong i;
      not_variable = not_variable i;
      aliased_argument = c.in_ok-aliased.ensures tables units.known are calls i;
      too_many_names = given.too_many_names i;
      bad_number = given.bad_number i;
      misplaced = misplaced i;
      no_columns = given.no_columns i;
      source_limit = c.in_ok-source_limit.ensures.place units kept i;
    }

pub returns-clause-behind : goal.returns-clause-behind
returns-clause-behind c = λ units kept. c.in_ok-source_limit.ensures.behind units kept
