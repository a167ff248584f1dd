use Rattle.std.proofs.Common.{◌≡◌, map, drop}
use Rattle.ds2_meaning.specs.View.{parameter_tree}
use Rattle.ds2_locality.specs.Deeds.{parameter_deeds}
use Rattle.ds2_deeds.specs.CodeTrees.{scope_of}
use Rattle.ds2_deeds.specs.NumberedDeeds.{numbers_of, with_deeds}
use Rattle.ds2_deeds.proofs.statement_deeds.add_parameters_deeds.Given as goal

abbrev pub invariant-settings : goal.invariant-settings
invariant-settings l =
    with_deeds (numbers_of l.numbers) (parameter_deeds (scope_of l.scope) l.instance (map parameter_tree (drop l.setting-index l.settings))) l.deeds
    ≡ with_deeds (numbers_of l.numbers) (parameter_deeds (scope_of l.scope) l.instance (map parameter_tree l.settings)) l.fn.deeds
