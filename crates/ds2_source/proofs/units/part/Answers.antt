use Rattle.ds2_tree.specs.UnitViews.{part_tree}
use Rattle.ds2_source.proofs.SymbolPromises.{part_promise}
use Rattle.ds2_source.proofs.units.part.Goals as goal

pub returns-clause-promise : goal.returns-clause-promise
returns-clause-promise c = part_promise (λ x. (part_tree x.0, x.1.now)) c.args.levels c.args.end c.args.tokens.now c.any_part.result (λ m lt. c.any_part.ensures.exact m lt)
