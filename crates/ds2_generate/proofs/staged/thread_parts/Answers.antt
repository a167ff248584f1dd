use Rattle.ds2_generate.proofs.StageLemmas.{layout_at, thread_coded}
use Rattle.ds2_generate.proofs.staged.thread_parts.Goals as goal

pub program_parts-requires : goal.program_parts-requires
program_parts-requires c = layout_at c.args.thread.now c.as_slice-parameters.result.now c.in_ok-layout.layout c.as_slice-parameters.ensures c.in_ok-layout.ensures

pub returns : goal.returns
returns c = thread_coded c.args.thread.now c.as_slice-parameters.result.now c.program_parts.result c.as_slice-parameters.ensures c.program_parts.ensures
