use Rattle.std.proofs.Common.{◌≡◌, ◌++◌, drop}
use Rattle.ds2_tree.specs.Lists.{all_spelled}
use Rattle.ds2_tree.specs.Globals.{variables_spelling}
use Rattle.ds2_spelling.proofs.globals.spell_locals.Given as goal

abbrev pub invariant-loop-local : goal.invariant-loop-local
invariant-loop-local l = l.out ++ all_spelled variables_spelling (drop l.local-index l.locals) ≡ l.fn.out ++ all_spelled variables_spelling l.locals
