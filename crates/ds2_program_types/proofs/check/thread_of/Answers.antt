use Rattle.ds2_meaning.specs.View.{unshared}
use Rattle.ds2_program_types.proofs.TreeForms.{thread_told}
use Rattle.ds2_program_types.proofs.check.thread_of.Goals as goal

pub returns : goal.returns
returns c = λ tables before t n h.
    thread_told tables before t c.with_head.result c.args.typed c.args.head (unshared c.arc_of-stage.result) c.with_head.ensures.tree c.with_head.ensures.program n c.arc_of-stage.ensures h
