use Rattle.std.proofs.Common.{◌≡◌, ◌++◌, drop}
use Rattle.ds2_calls.specs.InstanceSorts.{bracketed_names}
use Rattle.ds2_calls.proofs.instances.push_bracketed.Given as goal

abbrev pub invariant-bracketed : goal.invariant-bracketed
invariant-bracketed l = l.names ++ bracketed_names (drop l.n-index l.bracketed) ≡ l.fn.names ++ bracketed_names l.bracketed
