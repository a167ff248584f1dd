use Rattle.std.proofs.Common.{sym, ◌∙◌}
use Rattle.std.proofs.lemmas.List.{at_drop_all}
use Rattle.ds2_outside.specs.Tears.{kept_at}
use Rattle.ds2_outside.proofs.TearLemmas.{kept_here, kept_later}
use Rattle.ds2_outside.proofs.tear.kept_at.Goals as goal

pub returns-then-tear-call : goal.returns-then-tear-call
returns-then-tear-call c =
    sym (kept_here c.args.call c.args.tears.now c.loop-tear.tear-index _ c.loop-tear-test.true c.if-tear-call.true)
    ∙ sym c.loop-tear.invariant

pub loop-tear-preserved : goal.loop-tear-preserved
loop-tear-preserved c =
    c.loop-tear.invariant
    ∙ kept_later c.args.call c.args.tears.now c.loop-tear.tear-index _ c.loop-tear-test.true c.if-tear-call.false

pub returns : goal.returns
unfolding kept_at
returns c =
    sym (at_drop_all (kept_at c.args.call) c.args.tears.now c.loop-tear.tear-index c.loop-tear-test.false)
    ∙ sym c.loop-tear.invariant
