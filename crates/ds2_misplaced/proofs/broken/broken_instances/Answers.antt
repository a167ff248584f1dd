use Rattle.std.proofs.Common.{subst, ap, sym, ◌∙◌}
use Rattle.ds2_calls.specs.UnitsCalls.{HasCalls}
use Rattle.ds2_calls.specs.declared.unit_calls.Calls.{Calls}
use Rattle.ds2_names.specs.NameRules.{from_each}
use Rattle.ds2_names.specs.SourceUnit.{columns_stored}
use Rattle.ds2_scope.specs.Earliest.{earliest}
use Rattle.ds2_misplaced.specs.InstanceRules.{unknown_of, wrong_of, not_variable_of}
use Rattle.ds2_misplaced.specs.InstanceTables.{AreGlobalTables}
use Rattle.ds2_misplaced.specs.declared.tables.GlobalTables.{GlobalTables}
use Rattle.ds2_misplaced.proofs.InstanceLemmas.{tests_are, unknown_are, wrong_are, not_variables_are}
use Rattle.ds2_misplaced.proofs.broken.broken_instances.Goals as goal

pub returns : goal.returns
returns c = λ all are calls same.
    let tables = columns_stored c.args.tables.now in
    let scope = c.scope_over-scope in
    let tests =
    tests_are scope.result all (subst (λ (t : GlobalTables). AreGlobalTables t all) (sym scope.ensures.globals) (c.in_ok-globals.ensures all are))
    (subst (λ (k : Calls). HasCalls k all) (sym scope.ensures.calls) calls) in record {
      unknown_name = c.in_ok-unknown.ensures ∙ (λ i. earliest (from_each (unknown_of tables (tests i)) (same i))) ∙ ap earliest (unknown_are tables all);
      wrong_count = c.in_ok-wrong.ensures ∙ (λ i. earliest (from_each (wrong_of (tests i)) (same i))) ∙ ap earliest (wrong_are all);
      not_variable = c.in_ok-unsettable.ensures ∙ (λ i. earliest (from_each (not_variable_of (tests i)) (same i))) ∙ ap earliest (not_variables_are all);
    }
