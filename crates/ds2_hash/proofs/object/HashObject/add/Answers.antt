use Rattle.std.proofs.Common.{sym, ◌∙◌}
use Rattle.ds2_hash.proofs.ItemLemmas.{adds_nothing, adds_last}
use Rattle.ds2_hash.proofs.object.HashObject.add.Goals as goal

pub returns-then-contains_key-clause-ok : goal.returns-then-contains_key-clause-ok
returns-then-contains_key-clause-ok c = adds_nothing c.args.key c.args.item c.args.self.now _ c.self.view_is (sym c.contains_key.ensures ∙ c.if-contains_key.true)

pub returns-clause-ok : goal.returns-clause-ok
returns-clause-ok c = adds_last c.args.key c.args.item c.args.self.now _ _ c.self.view_is (sym c.contains_key.ensures ∙ c.if-contains_key.false) c.in_ok-insert.ensures.entries
