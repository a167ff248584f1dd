use Rattle.std.proofs.Common.{◌≡◌, ◌++◌, drop}
use Rattle.ds2_tree.specs.Lists.{all_spelled}
use Rattle.ds2_tree.specs.Globals.{bracketed_name_spelling}
use Rattle.ds2_spelling.proofs.globals.spell_bracketed_names.Given as goal

abbrev pub invariant-loop-name : goal.invariant-loop-name
invariant-loop-name l = l.out ++ all_spelled bracketed_name_spelling (drop l.name-index l.names) ≡ l.fn.out ++ all_spelled bracketed_name_spelling l.names
