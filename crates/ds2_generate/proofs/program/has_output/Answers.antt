use Rattle.std.proofs.Common.{◌∙◌}
use Rattle.ds2_generate.proofs.OutputLemmas.{output_seen}
use Rattle.ds2_generate.proofs.program.has_output.Goals as goal

pub returns : goal.returns
returns c =
    c.is_in_one.ensures
    ∙ output_seen c.args.program.now _ _ _ _ _ c.system_has_output-init.ensures c.system_has_output-run.ensures c.system_has_output-term.ensures c.as_slice.ensures c.methods_have_output-methods.ensures
