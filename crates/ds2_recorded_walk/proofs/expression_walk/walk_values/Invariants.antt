use Rattle.std.proofs.Common.{map, drop}
use Rattle.ds2_meaning.specs.View.{parameter_tree}
use Rattle.ds2_locality.specs.Walk.{walk_values}
use Rattle.ds2_recorded_walk.specs.RecordedStatements.{LeavesToGoOn}
use Rattle.ds2_recorded_walk.proofs.expression_walk.walk_values.Given as goal

abbrev pub invariant-settings : goal.invariant-settings
invariant-settings l =
    LeavesToGoOn l.scope l.fn.walk l.walk (λ w. walk_values w (map parameter_tree (drop l.setting-index l.settings)) l.place) (λ w. walk_values w (map parameter_tree l.settings) l.place)
