use Rattle.std.proofs.Common.{◌≡◌, ◌++◌, drop}
use Rattle.ds2_tree.specs.ExpressionViews.{arguments_of}
use Rattle.ds2_names.specs.NameRules.{handed_names}
use Rattle.ds2_aliases.proofs.handed.handed_names.Given as goal

abbrev pub invariant-arguments : goal.invariant-arguments
invariant-arguments l = l.names ++ handed_names l.left (arguments_of (drop l.argument-index l.arguments)) ≡ handed_names l.flags (arguments_of l.arguments)
