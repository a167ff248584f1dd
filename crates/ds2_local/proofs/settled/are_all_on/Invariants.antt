use Rattle.std.proofs.Common.{◌≡◌, drop}
use Rattle.std.specs.List.{list_all}
use Rattle.ds2_local.proofs.settled.are_all_on.Given as goal

abbrev pub invariant-bits : goal.invariant-bits
invariant-bits l = list_all (λ bit. bit) (drop l.bit-index l.bits) ≡ list_all (λ bit. bit) l.bits
