use Rattle.std.proofs.Common.{take}
use Rattle.ds2_meaning.specs.View.{typed_statement}
use Rattle.ds2_elaboration.specs.ExpressionTypes.{TypeScope}
use Rattle.ds2_simple_statement_types.specs.MethodScopes.{IsMethodScope}
use Rattle.ds2_statement_types.specs.StatementParts.{own_refusals, own_node, arm_refusals, arm_form, arm_of, part_refusals, when_form, when_of}
use Rattle.ds2_statement_types.specs.TestRules.{test_rule}
use Rattle.ds2_simple_statement_types.proofs.PartLists.{AreParts}
use Rattle.ds2_statement_types.proofs.walk.+type_statements.Given as goal

abbrev pub invariant-arms-others : goal.invariant-arms-others
invariant-arms-others l = (types : TypeScope) → IsMethodScope types l.scope → AreParts arm_of (arm_refusals types) (arm_form types) (take l.x-index l.others) l.all

abbrev pub invariant-whens-parts : goal.invariant-whens-parts
invariant-whens-parts l =
    (types : TypeScope) → IsMethodScope types l.scope
    → AreParts when_of (part_refusals types (test_rule l.rule.beside)) (when_form types l.rule.decimals) (take l.w-index l.parts) l.all

abbrev pub invariant-statements-body : goal.invariant-statements-body
invariant-statements-body l = (types : TypeScope) → IsMethodScope types l.scope → AreParts typed_statement (own_refusals types) (own_node types) (take l.s-index l.body) l.all
