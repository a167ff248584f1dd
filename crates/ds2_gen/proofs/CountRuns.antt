-- Units whose ways are equal in the meaning execute equally many instructions.
use Rattle.std.proofs.Common.{◌≡◌, IsTrue, refl, sym, ap, ◌∙◌}
use Rattle.ds2_value.specs.Progress.{Progress, UnitOutcome, Completed, Interrupted, Strayed, has_end}
use Rattle.ds2_meaning.specs.Location.{Storage}
use Rattle.ds2_code.specs.CodeLaws.{unit_way, UnitsCountAlike}
use Rattle.ds2_code.specs.CodeUnit.{code_unit}
use Rattle.ds2_code.specs.Desk.{ProgramData}
use Rattle.ds2_gen.specs.CodeCells.{Placement}
use Rattle.ds2_gen.specs.GenLaws.{way_meant, WaysFixCounts}
use Rattle.ds2_gen.specs.UnitCode.{EndsAlike}

-- a unit that ends as one means has an end, and the way that it means
ends_with_way : (p : Placement) (before : ProgramData) (x : UnitOutcome ProgramData) (y : UnitOutcome Storage) → EndsAlike p before x y → IsTrue (has_end x) × (unit_way x ≡ way_meant y)
ends_with_way p before (Completed state q n) (Completed kept r k) e = (refl, ap (λ (t : Progress). t.way) e.0)
ends_with_way p before (Completed state q n) (Interrupted f r k) e = absurd e
ends_with_way p before (Completed state q n) Strayed e = absurd e
ends_with_way p before (Interrupted f q n) (Completed kept r k) e = absurd e
ends_with_way p before (Interrupted f q n) (Interrupted g r k) e = (refl, ap (λ (t : Progress). t.way) e.1)
ends_with_way p before (Interrupted f q n) Strayed e = absurd e
ends_with_way p before Strayed y e = absurd e

pub ways_fix_counts : UnitsCountAlike → WaysFixCounts
ways_fix_counts count code p other entry budget another state changed unit second a b same =
    let first = ends_with_way p state (code_unit code entry budget state) unit a in
    let next = ends_with_way other changed (code_unit code entry another changed) second b in
    count code entry budget another state changed first.0 next.0 (first.1 ∙ same ∙ sym next.1)
