use Rattle.std.proofs.Common.{◌≡◌, ◌++◌, drop}
use Rattle.ds2_tree.specs.Lists.{all_spelled}
use Rattle.ds2_tree.specs.Globals.{constant_spelling}
use Rattle.ds2_spelling.proofs.globals.spell_constant_list.Given as goal

abbrev pub invariant-loop-constant : goal.invariant-loop-constant
invariant-loop-constant l = l.out ++ all_spelled constant_spelling (drop l.constant-index l.constants) ≡ l.fn.out ++ all_spelled constant_spelling l.constants
