use Rattle.ds2_local.proofs.members.mark_way.Goals as goal

pub way-init : goal.way-init
way-init c = λ reached before. before

pub way-preserved : goal.way-preserved
way-preserved c = λ reached before. c.mark_joined.ensures reached (c.way.invariant reached before)

pub returns : goal.returns
returns c = λ reached before. c.way.invariant reached before
