use Rattle.std.proofs.Common.{map, drop}
use Rattle.ds2_meaning.specs.TypedStatement.{TypedWhens}
use Rattle.ds2_meaning.specs.View.{in_a_row, all_statements, typed_statement}
use Rattle.ds2_statement_emitter.specs.Arms.{arm_tree, when_tree}
use Rattle.ds2_locality.specs.Walk.{walk_all}
use Rattle.ds2_deeds.specs.ElseParts.{ElsePart}
use Rattle.ds2_recorded_walk.specs.RecordedParts.{ArmsLeft, WhensLeft}
use Rattle.ds2_recorded_walk.specs.RecordedStatements.{LeavesToPass}
use Rattle.ds2_recorded_walk.proofs.statement_walk.+statement_walk.Given as goal

abbrev pub invariant-walk_arms-arms : goal.invariant-walk_arms-arms
invariant-walk_arms-arms l =
    (rest : ElsePart) → ArmsLeft l.scope l.fn.walk l.walk l.fn.branches l.branches (in_a_row (map arm_tree (drop l.arm-index l.arms)) rest) (in_a_row (map arm_tree l.arms) rest)

abbrev pub invariant-walk_whens-whens : goal.invariant-walk_whens-whens
invariant-walk_whens-whens l =
    (rest : TypedWhens) → WhensLeft l.scope l.fn.walk l.walk l.fn.ends l.ends l.known l.place (in_a_row (map when_tree (drop l.when-index l.whens)) rest) (in_a_row (map when_tree l.whens) rest)

abbrev pub invariant-walk_body-body : goal.invariant-walk_body-body
invariant-walk_body-body l =
    LeavesToPass l.scope l.fn.walk l.walk (λ w. walk_all w (all_statements (map typed_statement (drop l.s-index l.body)))) (λ w. walk_all w (all_statements (map typed_statement l.body)))
