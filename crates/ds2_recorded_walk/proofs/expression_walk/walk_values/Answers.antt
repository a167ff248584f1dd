use Rattle.std.proofs.Common.{List, map, refl}
use Rattle.std.proofs.lemmas.List.{drop_all}
use Rattle.ds2_meaning.specs.declared.statements.ParameterSetting.{ParameterSetting}
use Rattle.ds2_meaning.specs.View.{parameter_tree}
use Rattle.ds2_locality.specs.Walk.{WalkScope, walk_values}
use Rattle.ds2_deeds.proofs.DeedLemmas.{drop_next}
use Rattle.ds2_recorded_walk.proofs.GoesLemmas.{leaves_whole, leaves_others, item_gone, none_left}
use Rattle.ds2_recorded_walk.proofs.expression_walk.walk_values.Goals as goal

pub settings-init : goal.settings-init
settings-init c = leaves_whole c.args.scope.now c.args.walk.now _

pub settings-preserved : goal.settings-preserved
settings-preserved c =
    let s = c.args.scope.now in
    item_gone s (λ (l : List ParameterSetting) (w : WalkScope). walk_values w (map parameter_tree l) c.args.place) _ _ c.setting-item.result
    (drop_next c.args.settings.now c.settings.setting-index c.setting-item.result c.settings-test.true c.setting-item.is) c.settings.invariant (leaves_others s _ c.in_ok-walk_expression.ensures)

pub returns : goal.returns
returns c =
    none_left c.args.scope.now (λ (l : List ParameterSetting) (w : WalkScope). walk_values w (map parameter_tree l) c.args.place) _
    (drop_all c.settings.setting-index c.args.settings.now c.settings-test.false) refl c.settings.invariant
