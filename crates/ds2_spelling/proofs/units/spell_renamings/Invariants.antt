use Rattle.std.proofs.Common.{◌≡◌, ◌++◌, drop}
use Rattle.ds2_tree.specs.Lists.{all_spelled}
use Rattle.ds2_tree.specs.Units.{renaming_spelling}
use Rattle.ds2_spelling.proofs.units.spell_renamings.Given as goal

abbrev pub invariant-loop-renaming : goal.invariant-loop-renaming
invariant-loop-renaming l = l.out ++ all_spelled renaming_spelling (drop l.renaming-index l.renamings) ≡ l.fn.out ++ all_spelled renaming_spelling l.renamings
