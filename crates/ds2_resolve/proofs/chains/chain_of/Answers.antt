use Rattle.std.proofs.Common.{sym, ap, ◌∙◌}
use Rattle.std.specs.Option.{option_copied}
use Rattle.ds2_scope.specs.CodeUnits.{source_instance}
use Rattle.ds2_resolve.proofs.TokenLemmas.{chain_none, chain_some}
use Rattle.ds2_resolve.proofs.chains.chain_of.Goals as goal

pub returns-in-None : goal.returns-in-None
returns-in-None c = λ units kept. chain_none units (source_instance c.args.instance.now) (sym (ap option_copied c.in-None.is) ∙ c.in_ok-thread_of.ensures units kept)

pub returns-in-Some : goal.returns-in-Some
returns-in-Some c = λ units kept. chain_some units (source_instance c.args.instance.now) c.in-Some.thread.now (sym (ap option_copied c.in-Some.is) ∙ c.in_ok-thread_of.ensures units kept)
