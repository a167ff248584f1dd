use Rattle.std.proofs.Common.{◌≡◌, take}
use Rattle.ds2_csv.specs.Text.{text}
use Rattle.ds2_csv.proofs.write.write_rows.Given as goal

abbrev pub invariant-each : goal.invariant-each
invariant-each l = l.writer ≡ text (record { columns = l.fn.columns; rows = take l.row-index l.fn.rows })
