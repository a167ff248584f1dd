use Rattle.ds2_csv_records.proofs.Writing.{escaped_took, escaped_done}
use Rattle.ds2_csv_records.proofs.write.add_escaped.Goals as goal

pub bytes-preserved : goal.bytes-preserved
bytes-preserved c = escaped_took _ _ _ _ c.in-len1-up.len_at_least c.in_ok-add_byte.ensures c.bytes.invariant

pub returns : goal.returns
returns c = escaped_done _ _ _ c.in_default.len_below c.bytes.invariant
