use Rattle.std.proofs.Common.{◌≡◌, drop}
use Rattle.ds2_tree.specs.ExpressionViews.{arguments_of}
use Rattle.ds2_names.specs.NameRules.{no_names}
use Rattle.ds2_scope.specs.Earliest.{earlier_of, earliest}
use Rattle.ds2_name_uses.proofs.arguments.no_names.Given as goal

abbrev pub invariant-arguments : goal.invariant-arguments
invariant-arguments l =
    earlier_of l.found (earliest (no_names l.left (arguments_of (drop l.argument-index l.arguments)))) ≡ earliest (no_names l.flags (arguments_of l.arguments))
