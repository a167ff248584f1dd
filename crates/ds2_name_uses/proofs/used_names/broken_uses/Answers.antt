use Rattle.std.proofs.Common.{refl, subst, sym, ◌∙◌}
use Rattle.ds2_calls.specs.UnitsCalls.{HasCalls}
use Rattle.ds2_names.specs.SourceUnit.{columns_stored, names_of_unit}
use Rattle.ds2_scope.specs.CodeUnits.{unit_source}
use Rattle.ds2_name_uses.specs.ScopeTables.{AreTablesOf, tests_by}
use Rattle.ds2_calls.proofs.CallLemmas.{calls_tell}
use Rattle.ds2_name_uses.proofs.BrokenLemmas.{uses_broken}
use Rattle.ds2_name_uses.proofs.UsageLemmas.{global_by_tables}
use Rattle.ds2_name_uses.proofs.used_names.broken_uses.Goals as goal

pub returns : goal.returns
returns c = λ known are has.
    let tables = columns_stored c.args.tables.now in
    let u = unit_source c.args.unit in
    let all = names_of_unit tables known u in
    let scope = c.over-scope.result in
    let own = c.in_ok-own.ensures all are refl in
    let seen = subst (λ x. HasCalls x all) (sym c.over-scope.ensures.calls) has in
    let r = uses_broken tables known u (tests_by scope) _ _ _ _ _ _ _
    (global_by_tables all scope (subst (λ x. AreTablesOf x all) (sym c.over-scope.ensures.unit) own) seen)
    (λ name. λ i. (calls_tell scope.calls all seen i).sort_of_instance name)
    (c.as_slice.ensures ∙ are.bys)
    (c.in_ok-used.ensures all own has)
    c.in_ok-beside.ensures
    (c.in_ok-unknown_method.ensures all own has)
    (c.in_ok-wrong_count.ensures all own has)
    (c.in_ok-not_variable.ensures all own has)
    (c.in_ok-misplaced_setting.ensures all own has) in record {
      unknown_name = c.earlier_of.ensures ∙ r.unknown_name;
      unknown_method = r.unknown_method;
      wrong_count = r.wrong_count;
      not_variable = r.not_variable;
      misplaced_setting = r.misplaced_setting;
    }
