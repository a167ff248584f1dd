use Rattle.std.proofs.Common.{None, []}
use Rattle.std.specs.Option.{option_map}
use Rattle.ds2_meaning.specs.View.{typed_thread_program, unit_tree}
use Rattle.ds2_generate.proofs.StageLemmas.{staged_is}
use Rattle.ds2_generate.proofs.staged.staged_parts.Goals as goal

pub returns : goal.returns
returns c =
    let d = c.args.program.now in
    staged_is (unit_tree None [] d.program) (option_map typed_thread_program d.stage) _ _ c.in_ok-code.ensures c.in_ok-stages.ensures
