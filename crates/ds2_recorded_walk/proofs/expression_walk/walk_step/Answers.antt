use Rattle.std.proofs.Common.{Option, sym}
use Rattle.std.specs.Option.{option_map}
use Rattle.ds2_emitter.proofs.Appended.{on_ok}
use Rattle.ds2_meaning.specs.declared.expressions.Expression as code_expression
use Rattle.ds2_meaning.specs.View.{typed_expression}
use Rattle.ds2_locality.specs.Walk.{WalkScope, walk_step}
use Rattle.ds2_recorded_walk.proofs.GoesLemmas.{goes_nowhere, gone_by}
use Rattle.ds2_recorded_walk.proofs.expression_walk.walk_step.Goals as goal

pub returns-in-None : goal.returns-in-None
returns-in-None c =
    let s = c.args.scope.now in
    gone_by s (λ (o : Option code_expression.Expression) (w : WalkScope). walk_step w (option_map typed_expression o) c.args.place) _ _ (sym c.in-None.is) (goes_nowhere s c.args.walk.now)

pub returns-in-Some : goal.returns-in-Some
returns-in-Some c =
    let s = c.args.scope.now in
    on_ok c.walk_expression.result c.walk_expression.ensures
    (λ p. gone_by s (λ (o : Option code_expression.Expression) (w : WalkScope). walk_step w (option_map typed_expression o) c.args.place) _ _ (sym c.in-Some.is) p)
