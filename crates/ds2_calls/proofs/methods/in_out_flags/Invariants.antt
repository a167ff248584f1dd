use Rattle.std.proofs.Common.{◌≡◌, ◌++◌, drop}
use Rattle.ds2_calls.specs.MethodFlags.{are_in_out}
use Rattle.ds2_calls.proofs.methods.in_out_flags.Given as goal

abbrev pub invariant-parameters : goal.invariant-parameters
invariant-parameters l = l.flags ++ are_in_out (drop l.p-index l.parameters) ≡ are_in_out l.parameters
