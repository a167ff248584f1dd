use Rattle.std.proofs.Common.{List, subst}
use Rattle.ds2_elaboration.specs.ProgramTypes.{instance_refusals, scope_of_declarations}
use Rattle.ds2_instance_types.specs.TypedInstanceLists.{AreInstancesOf}
use Rattle.ds2_names.specs.NameRules.{from_each}
use Rattle.ds2_names.specs.SourceUnit.{SourceInstance}
use Rattle.ds2_types.specs.Judgements.{IsOutcome}
use Rattle.ds2_program_types.specs.UnitRules.{column_refusals, declaration_refusals}
use Rattle.ds2_program_types.specs.UnitsAtHand.{columns_at_hand, names_at_hand, source_at_hand}
use Rattle.ds2_program_types.proofs.RuleLists.{stands_under}
use Rattle.ds2_program_types.proofs.instances.ruled_instances.Goals as goal

pub returns : goal.returns
returns c = λ before t m h s.
    let x = c.args.unit in
    let u = source_at_hand x in
    let tables = columns_at_hand x in
    let scope = scope_of_declarations tables before u in
    let typed = subst
    (λ (l : List SourceInstance). IsOutcome (AreInstancesOf tables before scope l) (from_each (λ (i : SourceInstance). instance_refusals tables before scope i i.sort) l) c.in_ok-instances.instances) h.instances
    (c.in_ok-instances.ensures before scope t m s.globals) in
    stands_under (AreInstancesOf tables before scope (names_at_hand before x).instances) (column_refusals tables before u) (declaration_refusals tables before u) c.in_ok-clashes.clashes
    c.in_ok-instances.instances c.under_rule.result (c.in_ok-clashes.ensures before h) typed c.under_rule.ensures
