use Rattle.std.proofs.Common.{◌≡◌, take}
use Rattle.ds2_csv.specs.Text.{text}
use Rattle.ds2_csv.proofs.write.write_table.Given as goal

abbrev pub invariant-rows : goal.invariant-rows
invariant-rows l = l.writer ≡ text (record { columns = l.columns; rows = take l.row l.t.rows })
