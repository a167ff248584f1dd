use Rattle.std.proofs.Common.{FitsSigned, sym, ◌∙◌, rules}
use Rattle.std.specs.Int.{w128}
use Rattle.std.proofs.lemmas.Int.{to_z-of_z}
use Rattle.ds2_decimal.specs.Decimal.{Decimal}
use Rattle.ds2_decimal.proofs.AlignedLemmas.{rescale_none}
use Rattle.ds2_decimal.proofs.dec.Dec.rescale.Goals as goal

pub returns-in-None : goal.returns-in-None
returns-in-None c =
    let fits : FitsSigned w128 c.get-2.result = search rules in
    let raised = simp c.get-2.ensures at (simp to_z-of_z at c.raise.ensures) in
    let none = sym raised ∙ c.in-None.is in
    let d : Decimal = record { units = c.self.inside.units; scale = c.self.inside.scale } in
    rw (← c.self.view_is) (sym (rescale_none c.args.precision c.args.scale d c.requires.precision_bound c.if-self-scale.false none))
