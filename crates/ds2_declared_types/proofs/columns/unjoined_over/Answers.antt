use Rattle.std.proofs.Common.{◌≡◌, List, subst}
use Rattle.std.specs.Prelude.{IfOk}
use Rattle.ds2_names.specs.SourceUnit.{PlacedName}
use Rattle.ds2_declared_types.proofs.UnitReadings.{unjoined_are}
use Rattle.ds2_declared_types.proofs.columns.unjoined_over.Goals as goal

pub returns : goal.returns
returns c = λ before u h e.
    subst (λ (l : List PlacedName). IfOk c.unjoined_read.result (λ unjoined. unjoined ≡ l)) (unjoined_are before u c.args.from h c.args.columns.now e) c.unjoined_read.ensures
