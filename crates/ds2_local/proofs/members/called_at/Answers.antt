use Rattle.std.proofs.Common.{Some, sym, ap, ◌∙◌}
use Rattle.ds2_deeds.specs.NumberedCalls.{deeds_numbered}
use Rattle.ds2_local.proofs.ReachLemmas.{called_there}
use Rattle.ds2_local.proofs.members.called_at.Goals as goal

pub returns-in-Call : goal.returns-in-Call
returns-in-Call c = called_there (deeds_numbered c.args.all.now c.args.method) c.args.place c.in-Call.called (sym c.deed_at.ensures ∙ c.in-Some.is ∙ ap (λ d. Some d) c.in-Call.is)
