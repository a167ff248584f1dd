use Rattle.std.proofs.Common.{◌≡◌, ◌+◌, ℕ, suc, List, [], length}
use Rattle.std.specs.Prelude.{if◌then◌else◌}
use Rattle.ds2_csv_records.specs.Reading.{IsWithin}
use Rattle.ds2_csv.specs.Records.{Rows}
use Rattle.ds2_csv.specs.Typed.{HasColumnTypes, HasRead, HasReadTo}
use Rattle.ds2_csv.proofs.typed.Typed.add_row.Given as goal

abbrev pub invariant-cells : goal.invariant-cells
invariant-cells l = record {
  types : HasColumnTypes l.self l.columns (length l.fn.self.known);
  read : (rows : Rows) (text : List ℕ) → l.number ≡ 1 + length rows → HasRead l.fn.self l.columns rows → IsWithin text [] l.fn.first
      → (cells : List (List ℕ)) × (length cells ≡ l.count) × HasReadTo l.self l.columns rows cells × IsWithin text cells l.taken;
}

abbrev pub decreases-cells : goal.decreases-cells
decreases-cells l = if l.taken.more then suc (length l.taken.rest.now) else 0
