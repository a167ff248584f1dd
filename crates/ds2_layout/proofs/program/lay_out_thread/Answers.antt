use Rattle.std.proofs.Common.{◌≡◌, List, Some, subst}
use Rattle.std.specs.Prelude.{IfOk}
use Rattle.ds2_meaning.specs.declared.globals.Variable.{Variable}
use Rattle.ds2_meaning.specs.declared.units.TypedThread.{out-TypedThread}
use Rattle.ds2_meaning.specs.View.{unit_tree}
use Rattle.ds2_layout.specs.Layout.{layout_of}
use Rattle.ds2_layout.proofs.ReadingThread.{reader_of_thread}
use Rattle.ds2_layout.proofs.program.lay_out_thread.Goals as goal

pub returns : goal.returns
returns c =
    let thread = out-TypedThread c.args.thread.now in
    subst (λ p. IfOk c.program_layout.result (λ layout. layout ≡ layout_of p)) (reader_of_thread c.args.thread.now)
    (subst (λ (l : List Variable). IfOk c.program_layout.result (λ layout. layout ≡ layout_of (unit_tree (Some thread.name) l thread.program))) c.as_slice.ensures
    (c.program_layout.ensures (Some thread.name)))
