use Rattle.ds2_constants.proofs.TableLemmas.{key_moved}
use Rattle.ds2_constants.proofs.table.ConstantTable.to_constants.Goals as goal

pub keys-preserved : goal.keys-preserved
keys-preserved c = key_moved _ c.keys.key-index c.key-item.result c.keys-test.true c.key-item.is c.keys.list _ _ _ c.in_ok-copy.ensures c.in_ok-push.ensures.ok c.keys.invariant
