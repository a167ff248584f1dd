use Rattle.std.proofs.Common.{◌≡◌, None, [], subst}
use Rattle.std.specs.Prelude.{IfOk}
use Rattle.std.specs.Option.{option_map}
use Rattle.ds2_meaning.specs.View.{typed_thread_program, unit_tree}
use Rattle.ds2_layout.specs.Layout.{layout_of}
use Rattle.ds2_layout.proofs.LayoutLemmas.{reader_over}
use Rattle.ds2_layout.proofs.program.lay_out.Goals as goal

pub returns : goal.returns
returns c =
    let program = c.args.program.now in
    subst (λ p. IfOk c.program_layout.result (λ layout. layout ≡ layout_of p)) (reader_over (unit_tree None [] program.program) (option_map typed_thread_program program.stage)) (c.program_layout.ensures None)
