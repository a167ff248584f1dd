use Rattle.ds2_tree.specs.UnitViews.{global_tree}
use Rattle.ds2_source.proofs.SymbolPromises.{global_promise}
use Rattle.ds2_source.proofs.globals.global.Goals as goal

pub returns-clause-promise : goal.returns-clause-promise
returns-clause-promise c = global_promise (λ x. (global_tree x.0, x.1.now)) c.args.levels c.args.end c.args.tokens.now c.any_global.result (λ m lt. c.any_global.ensures.exact m lt)
