use Rattle.std.proofs.Common.{ℕ, List, Result, subst}
use Rattle.ds2_base.specs.Says.{Says}
use Rattle.ds2_base.specs.declared.name.BadName.{BadName}
use Rattle.ds2_base.specs.declared.stop.Stop.{Stop}
use Rattle.ds2_token.specs.Values.{token_name}
use Rattle.ds2_declared_types.proofs.NameForms.{name_told}
use Rattle.ds2_declared_types.proofs.names.name.Goals as goal

pub returns-in-Ok : goal.returns-in-Ok
returns-in-Ok c =
    name_told c.args.token.now c.in-Ok.name (subst (λ (r : Result (List ℕ) (Stop BadName)). Says r (token_name c.args.token.now)) c.in-Ok.is c.name.ensures)
