use Rattle.ds2_elaboration.specs.ProgramTypes.{method_refusals, scope_of_declarations}
use Rattle.ds2_instance_types.specs.TypedInstanceLists.{AreInstancesOf}
use Rattle.ds2_names.specs.NameRules.{from_each}
use Rattle.ds2_names.specs.SourceUnit.{source_methods}
use Rattle.std.proofs.Common.{◌++◌}
use Rattle.ds2_simple_statement_types.proofs.PartOutcomes.{both_stand}
use Rattle.ds2_program_types.specs.UnitRules.{column_refusals, declaration_refusals}
use Rattle.ds2_program_types.specs.UnitsAtHand.{columns_at_hand, names_at_hand, source_at_hand}
use Rattle.ds2_program_types.specs.PackageMethods.{AreTyped}
use Rattle.ds2_program_types.proofs.packages.typed_parts.Goals as goal

pub returns : goal.returns
returns c = λ before t m h.
    let x = c.args.unit in
    let u = source_at_hand x in
    let tables = columns_at_hand x in
    let scope = c.in_ok-scope.ensures before t h in
    both_stand (AreInstancesOf tables before (scope_of_declarations tables before u) (names_at_hand before x).instances) (AreTyped tables before u (source_methods u.globals))
    (column_refusals tables before u ++ declaration_refusals tables before u) (from_each (method_refusals tables before u) (source_methods u.globals)) c.in_ok-instances.instances c.in_ok-methods.methods
    c.of_both.result (c.in_ok-instances.ensures before t m h scope) (c.in_ok-methods.ensures tables before u scope) c.of_both.ensures
