use Rattle.ds2_hash.proofs.ItemLemmas.{checks}
use Rattle.ds2_hash.proofs.object.HashObject.check.Goals as goal

pub returns : goal.returns
returns c = checks c.args.key.now c.args.self.now _ c.contains_key.result c.self.view_is c.contains_key.ensures
