use Rattle.std.proofs.Common.{◌+◌, length, ap, ◌∙◌}
use Rattle.ds2_value.specs.declared.fault.TheConstants.{CALL_DEPTH}
use Rattle.ds2_deeds.specs.NumberedCalls.{with_called}
use Rattle.ds2_local.specs.Verdicts.{first_write_numbered}
use Rattle.ds2_local.proofs.VerdictLemmas.{init_writes}
use Rattle.ds2_local.proofs.verdict.first_write_of_init.Goals as goal

pub returns : goal.returns
returns c = λ t holds.
    let b = c.args.bodies.now in
    let all =
    c.in_ok-deeds.ensures ∙ ap (λ rounds. with_called b.deeds.now rounds c.as_slice.result.now) c.in_ok-rounds.ensures
    ∙ ap (λ l. with_called b.deeds.now (length b.deeds.now + CALL_DEPTH) l) c.as_slice.ensures in
    init_writes t b holds _ _ c.first_write.result c.in_ok-own.ensures all (c.first_write.ensures ∙ ap (λ l. first_write_numbered l) c.as_slice-2.ensures)
