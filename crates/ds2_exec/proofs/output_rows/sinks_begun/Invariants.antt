use Rattle.std.proofs.Common.{◌≡◌, ◌++◌, IsTrue, length, map}
use Rattle.std.specs.Prelude.{nat_eq}
use Rattle.std.specs.Cmp.Lexicographic.{pointwise}
use Rattle.std.specs.HashSet.{contains}
use Rattle.std.specs.List.{list_all}
use Rattle.ds2_code.specs.ValidCode.{output_fits}
use Rattle.ds2_exec.specs.OutputSinks.{sink_begun}
use Rattle.ds2_exec.proofs.output_rows.sinks_begun.Given as goal

abbrev pub invariant-outputs : goal.invariant-outputs
invariant-outputs l =
    (l.sinks ++ map (sink_begun (contains (pointwise nat_eq) l.keeps) l.slots) l.rest ≡ map (sink_begun (contains (pointwise nat_eq) l.keeps) l.slots) l.outputs)
    × IsTrue (list_all output_fits l.rest)

abbrev pub decreases-outputs : goal.decreases-outputs
decreases-outputs l = length l.rest
