use Rattle.std.proofs.Common.{◌≡◌, List, subst}
use Rattle.std.specs.Prelude.{IfOk}
use Rattle.ds2_meaning.specs.declared.globals.Variable.{Variable}
use Rattle.ds2_declared_types.proofs.UnitReadings.{columns_are}
use Rattle.ds2_declared_types.proofs.columns.columns_over.Goals as goal

pub returns : goal.returns
returns c = λ before u h e.
    subst (λ (l : List Variable). IfOk c.columns_read.result (λ variables. variables ≡ l)) (columns_are before u c.args.from h c.args.columns.now e) c.columns_read.ensures
