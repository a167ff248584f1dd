use Rattle.ds2_local.proofs.RangeLemmas.{drop_at}
use Rattle.ds2_local.proofs.WriteLemmas.{write_next}
use Rattle.ds2_local.proofs.verdict.first_write.Goals as goal

pub deeds-preserved : goal.deeds-preserved
deeds-preserved c = write_next c.args.deeds.now c.deeds.deed-index _ c.deeds.found _ (drop_at c.args.deeds.now c.deeds.deed-index _ c.deeds-test.true) c.earlier_written-found.ensures c.deeds.invariant
