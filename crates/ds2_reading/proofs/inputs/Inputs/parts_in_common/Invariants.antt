use Rattle.std.proofs.Common.{◌≡◌, ◌+◌, ◌-◌, length, drop}
use Rattle.ds2_reading.specs.KeyOrder.{key_of_number, parts_in_common}
use Rattle.ds2_reading.proofs.inputs.Inputs.parts_in_common.Given as goal

abbrev pub invariant-bys : goal.invariant-bys
invariant-bys l =
    l.by + parts_in_common (length l.self.descending - l.by) (drop l.by (key_of_number l.self l.a)) (drop l.by (key_of_number l.self l.b))
    ≡ l.fn.from + parts_in_common (length l.self.descending - l.fn.from) (drop l.fn.from (key_of_number l.self l.a)) (drop l.fn.from (key_of_number l.self l.b))
