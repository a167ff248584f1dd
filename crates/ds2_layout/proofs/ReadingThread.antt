-- The thread program that reads, within what it is with the one that it may read from.
use Rattle.std.proofs.Common.{◌≡◌, Some, sym, ap, ◌∙◌}
use Rattle.ds2_meaning.specs.declared.units.TypedThread.{TypedThread, out-TypedThread}
use Rattle.ds2_meaning.specs.declared.units.TypedThread.TheFolds.{fold_out-TypedThread}
use Rattle.ds2_meaning.specs.ProgramTree.{ProgramTree, reader_of}
use Rattle.ds2_meaning.specs.View.{thread_part, typed_thread_program, unit_tree}
use Rattle.ds2_layout.proofs.LayoutLemmas.{reader_over}

pub reader_of_thread : (t : TypedThread)
    → unit_tree (Some (out-TypedThread t).name) (out-TypedThread t).parameters (out-TypedThread t).program ≡ reader_of (typed_thread_program t)
reader_of_thread t =
    reader_over (unit_tree (Some (out-TypedThread t).name) (out-TypedThread t).parameters (out-TypedThread t).program) _
    ∙ ap reader_of (sym (fold_out-TypedThread ProgramTree thread_part t))
