use Rattle.std.proofs.Common.{sym, ◌∙◌}
use Rattle.ds2_scope.proofs.KnownLemmas.{name_is, where_package, where_no_package}
use Rattle.ds2_scope.proofs.known.KnownUnits.has_name.Goals as goal

pub returns-then-has_package : goal.returns-then-has_package
returns-then-has_package c = λ known h.
    c.has_package.ensures ∙ where_package _ _ _ (name_is c.args.self.now known c.args.name.now h) (sym c.has_package.ensures ∙ c.if-has_package.true)

pub returns-else-has_package : goal.returns-else-has_package
returns-else-has_package c = λ known h.
    c.has_thread.ensures ∙ where_no_package _ _ _ (name_is c.args.self.now known c.args.name.now h) (sym c.has_package.ensures ∙ c.if-has_package.false)
