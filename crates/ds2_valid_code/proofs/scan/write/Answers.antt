use Rattle.ds2_valid_code.proofs.OwnerLemmas.{entry_written}
use Rattle.ds2_valid_code.proofs.scan.write.Goals as goal

pub returns : goal.returns
returns c = λ table has.
    entry_written c.args.entries.now c.insert.new.self table c.args.point.at c.args.point.owner c.in_ok-insert.ensures.updates.0 has
