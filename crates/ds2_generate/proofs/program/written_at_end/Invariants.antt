use Rattle.std.proofs.Common.{◌≡◌, ◌++◌, ◌-◌}
use Rattle.std.specs.List.{range_with_len}
use Rattle.ds2_generate.proofs.program.written_at_end.Given as goal

abbrev pub invariant-outputs : goal.invariant-outputs
invariant-outputs l = l.list ++ range_with_len l.output (l.count - l.output) ≡ range_with_len 0 l.count
