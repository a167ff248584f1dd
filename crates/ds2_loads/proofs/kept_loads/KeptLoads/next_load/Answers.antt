use Rattle.std.proofs.Common.{List, refl, sym, ap, ◌∙◌}
use Rattle.std.specs.Prelude.{slice_get}
use Rattle.ds2_reading.specs.declared.load.Load.{Load as LoadInCode}
use Rattle.ds2_loads.proofs.CursorSteps.{some_default}
use Rattle.ds2_loads.proofs.kept_loads.KeptLoads.next_load.Goals as goal

pub returns-clause-next : goal.returns-clause-next
returns-clause-next c =
    let given = c.args.self.now.given in
    (ap (λ (loads : List LoadInCode). slice_get loads given) (sym c.as_slice-loads.ensures) ∙ some_default c.as_slice-loads.result.now given _ c.if-self-loads.false, refl)
