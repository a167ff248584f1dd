use Rattle.std.proofs.Common.{refl, arith}
use Rattle.std.proofs.lemmas.Grind.{common_steps}
use Rattle.ds2_scope.proofs.KnownLemmas.{package_added}
use Rattle.ds2_scope.proofs.known.KnownUnits.add_package.Goals as goal

pub returns : goal.returns
returns c = λ known p h named counted.
    package_added c.args.self.now _ known p c.args.name c.args.tokens h named counted (λ other. c.in_ok-insert.ensures.updates.0 other) refl (grind (arith, common_steps)) refl
