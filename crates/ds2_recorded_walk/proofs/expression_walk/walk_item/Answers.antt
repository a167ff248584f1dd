use Rattle.std.proofs.Common.{◌∷◌, sym, ap}
use Rattle.ds2_emitter.proofs.Appended.{on_ok}
use Rattle.ds2_meaning.specs.declared.statements.PutItem.{PutItem}
use Rattle.ds2_meaning.specs.View.{item_tree}
use Rattle.ds2_locality.specs.Walk.{walk_items}
use Rattle.ds2_recorded_walk.specs.RecordedStatements.{walk_scope}
use Rattle.ds2_recorded_walk.proofs.GoesLemmas.{leaves_whole, leaves_others, leaves_same}
use Rattle.ds2_recorded_walk.proofs.expression_walk.walk_item.Goals as goal

pub returns-in-Constant : goal.returns-in-Constant
returns-in-Constant c rest =
    let s = c.args.scope.now in
    leaves_same s (λ calls. ap (λ (i : PutItem). walk_items (walk_scope s calls) (item_tree i ∷ rest) c.args.place) (sym c.in-Constant.is)) (leaves_whole s c.args.walk.now (λ w. walk_items w rest c.args.place))

pub returns-in-Value : goal.returns-in-Value
returns-in-Value c rest =
    let s = c.args.scope.now in
    on_ok c.walk_expression.result c.walk_expression.ensures
    (λ p. leaves_same s (λ calls. ap (λ (i : PutItem). walk_items (walk_scope s calls) (item_tree i ∷ rest) c.args.place) (sym c.in-Value.is)) (leaves_others s (λ w. walk_items w rest c.args.place) p))

pub returns-in-Named : goal.returns-in-Named
returns-in-Named c rest =
    let s = c.args.scope.now in
    on_ok c.walk_expression-in-Named.result c.walk_expression-in-Named.ensures
    (λ p. leaves_same s (λ calls. ap (λ (i : PutItem). walk_items (walk_scope s calls) (item_tree i ∷ rest) c.args.place) (sym c.in-Named.is)) (leaves_others s (λ w. walk_items w rest c.args.place) p))
