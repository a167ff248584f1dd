use Rattle.std.proofs.Common.{sym, ap, ◌∙◌}
use Rattle.ds2_scope.specs.CodeUnits.{names_bracketed, instance_sort}
use Rattle.ds2_scope.specs.Earliest.{earlier_of, earliest}
use Rattle.ds2_misplaced.specs.InstanceTables.{tests_in_tables}
use Rattle.ds2_misplaced.specs.InstanceTests.{not_variable_by_tests}
use Rattle.ds2_misplaced.proofs.TestForms.{hash_not_variable}
use Rattle.ds2_misplaced.proofs.rules.not_variable_in.Goals as goal

pub returns-in_ok-item-in-Hash : goal.returns-in_ok-item-in-Hash
returns-in_ok-item-in-Hash c =
    let tests = tests_in_tables c.args.scope in
    c.earlier_of.ensures
    ∙ (λ i. earlier_of (c.in_ok-key-in-Hash.ensures i) (c.in_ok-item-in-Hash.ensures i))
    ∙ sym (hash_not_variable tests.is_instance tests.is_settable (names_bracketed c.in-Hash.keys.now) (names_bracketed c.in-Hash.items.now))
    ∙ sym (ap (λ s. earliest (not_variable_by_tests tests (instance_sort s))) c.in-Hash.is)
