use Rattle.std.proofs.Common.{false, refl, sym, ◌∙◌, arith}
use Rattle.std.specs.Prelude.{get_or}
use Rattle.ds2_reading.specs.KeyOrder.{key_of_number}
use Rattle.ds2_reading.proofs.Parts.{part_decides, part_passes}
use Rattle.ds2_reading.proofs.inputs.Inputs.compare.Goals as goal

pub returns-then-is_ne : goal.returns-then-is_ne
returns-then-is_ne c =
    part_decides c.args.self.now.descending (key_of_number c.args.self.now c.args.a) (key_of_number c.args.self.now c.args.b)
    c.bys.by (get_or c.args.self.now.descending c.bys.by false) false _ _ _ _ (omega arith) refl c.compare_in_direction-order.ensures refl refl (sym c.is_ne.ensures ∙ c.if-is_ne.true) c.bys.invariant

pub bys-preserved : goal.bys-preserved
bys-preserved c =
    part_passes c.args.self.now.descending (key_of_number c.args.self.now c.args.a) (key_of_number c.args.self.now c.args.b)
    c.bys.by (get_or c.args.self.now.descending c.bys.by false) false _ _ _ _ (omega arith) refl c.compare_in_direction-order.ensures refl refl (sym c.is_ne.ensures ∙ c.if-is_ne.false) c.bys.invariant
