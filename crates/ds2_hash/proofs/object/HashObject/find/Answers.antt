use Rattle.ds2_hash.proofs.ItemLemmas.{finds}
use Rattle.ds2_hash.proofs.object.HashObject.find.Goals as goal

pub returns : goal.returns
returns c = finds c.args.key.now c.args.self.now _ c.get.result c.self.view_is c.get.ensures.value
