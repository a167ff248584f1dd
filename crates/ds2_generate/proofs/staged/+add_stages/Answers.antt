use Rattle.std.proofs.Common.{◌++◌, ap, ◌∙◌}
use Rattle.ds2_meaning.specs.View.{typed_thread_program}
use Rattle.ds2_generate.specs.Generated.{codes_of}
use Rattle.ds2_generate.proofs.StageLemmas.{last_stage, stage_before}
use Rattle.ds2_generate.proofs.UnitLemmas.{on_ok}
use Rattle.ds2_generate.proofs.staged.+add_stages.Goals as goal

pub returns-in-None : goal.returns-in-None
returns-in-None t c = last_stage c.args.thread.now c.args.stages.now _ _ c.in-None.is c.in_ok-thread_parts.ensures c.in_ok-push.ensures.ok

pub returns-in-Some : goal.returns-in-Some
returns-in-Some t c =
    on_ok c.add_stages.result c.add_stages.ensures (λ e.
    stage_before c.args.thread.now c.in-Some.next c.args.stages.now _ _ _ c.in-Some.is c.in_ok-thread_parts.ensures c.in_ok-push.ensures.ok
    (e ∙ ap (λ s. c.push.new.self ++ codes_of (typed_thread_program s)) c.deref.ensures))
