use Rattle.std.proofs.Common.{◌≡◌, drop}
use Rattle.ds2_reading.specs.KeyOrder.{key_of_number, parts_order}
use Rattle.ds2_reading.proofs.inputs.Inputs.compare.Given as goal

abbrev pub invariant-bys : goal.invariant-bys
invariant-bys l =
    parts_order (drop l.by l.self.descending) (drop l.by (key_of_number l.self l.a)) (drop l.by (key_of_number l.self l.b))
    ≡ parts_order (drop l.fn.from l.self.descending) (drop l.fn.from (key_of_number l.self l.a)) (drop l.fn.from (key_of_number l.self l.b))
