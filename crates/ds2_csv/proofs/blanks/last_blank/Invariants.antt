use Rattle.std.proofs.Common.{◌≡◌, take}
use Rattle.ds2_csv_cells.specs.Spelling.{is_blank}
use Rattle.ds2_csv.specs.Header.{last_place}
use Rattle.ds2_csv.proofs.blanks.last_blank.Given as goal

abbrev pub invariant-bytes : goal.invariant-bytes
invariant-bytes l = l.last ≡ last_place is_blank (take l.i l.bytes)
