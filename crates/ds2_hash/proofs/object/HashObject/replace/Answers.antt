use Rattle.ds2_hash.proofs.ItemLemmas.{replaces}
use Rattle.ds2_hash.proofs.object.HashObject.replace.Goals as goal

pub returns-clause-ok : goal.returns-clause-ok
returns-clause-ok c = replaces c.args.key c.args.new_data c.args.self.now _ _ c.self.view_is c.in_ok-insert.ensures.entries
