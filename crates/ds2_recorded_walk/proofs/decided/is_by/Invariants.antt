use Rattle.std.proofs.Common.{◌≡◌, drop}
use Rattle.ds2_meaning.specs.IsTyped.{is_by}
use Rattle.ds2_recorded_walk.proofs.decided.is_by.Given as goal

abbrev pub invariant-bys : goal.invariant-bys
invariant-bys l = is_by (drop l.by-index l.bys) l.name ≡ is_by l.bys l.name
