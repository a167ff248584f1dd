use Rattle.std.proofs.Common.{◌≡◌, ◌++◌, drop}
use Rattle.ds2_names.specs.NameRules.{from_each}
use Rattle.ds2_aliases.specs.MentionParts.{mentions_in_item}
use Rattle.ds2_aliases.proofs.statements.push_items.Given as goal

abbrev pub invariant-items : goal.invariant-items
invariant-items l = l.found ++ from_each mentions_in_item (drop l.item-index l.items) ≡ l.fn.found ++ from_each mentions_in_item l.items
