use Rattle.std.proofs.Common.{◌≡◌, ◌++◌, drop}
use Rattle.ds2_tree.specs.Lists.{all_spelled}
use Rattle.ds2_tree.specs.Units.{option_spelling}
use Rattle.ds2_spelling.proofs.units.spell_option_list.Given as goal

abbrev pub invariant-loop-option : goal.invariant-loop-option
invariant-loop-option l = l.out ++ all_spelled option_spelling (drop l.option-index l.options) ≡ l.fn.out ++ all_spelled option_spelling l.options
