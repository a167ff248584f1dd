use Rattle.std.proofs.Common.{◌≡◌, ◌++◌, drop, map}
use Rattle.ds2_tree.specs.Lists.{all_spelled}
use Rattle.ds2_tree.specs.Globals.{global_spelling}
use Rattle.ds2_tree.specs.UnitViews.{global_tree}
use Rattle.ds2_spelling.proofs.globals.spell_globals.Given as goal

abbrev pub invariant-loop-global : goal.invariant-loop-global
invariant-loop-global l = l.out ++ all_spelled global_spelling (map global_tree (drop l.global-index l.globals)) ≡ l.fn.out ++ all_spelled global_spelling (map global_tree l.globals)
