use Rattle.std.proofs.Common.{◌≡◌, drop}
use Rattle.std.specs.Prelude.{map}
use Rattle.ds2_elaboration.specs.UnitsBefore.{typed_thread_named}
use Rattle.ds2_meaning.specs.View.{typed_thread_program}
use Rattle.ds2_declared_types.proofs.known.first_thread.Given as goal

abbrev pub invariant-threads : goal.invariant-threads
invariant-threads l = typed_thread_named (map typed_thread_program (drop l.t-index l.threads)) l.name ≡ typed_thread_named (map typed_thread_program l.threads) l.name
