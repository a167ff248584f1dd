use Rattle.std.proofs.Common.{None, []}
use Rattle.std.specs.Option.{option_map}
use Rattle.ds2_meaning.specs.View.{typed_thread_program, unit_tree}
use Rattle.ds2_generate.proofs.StageLemmas.{data_coded, data_laid_out}
use Rattle.ds2_generate.proofs.staged.data_parts.Goals as goal

pub program_parts-requires : goal.program_parts-requires
program_parts-requires c =
    let d = c.args.program.now in
    data_laid_out (unit_tree None [] d.program) (option_map typed_thread_program d.stage) c.in_ok-layout.layout c.in_ok-layout.ensures

pub returns : goal.returns
returns c =
    let d = c.args.program.now in
    data_coded (unit_tree None [] d.program) (option_map typed_thread_program d.stage) c.program_parts.result c.program_parts.ensures
