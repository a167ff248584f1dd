use Rattle.std.proofs.Common.{◌≡◌, sym, ◌∙◌, subst}
use Rattle.std.specs.Prelude.{IfOk}
use Rattle.ds2_value.specs.Cell.{lent_value}
use Rattle.ds2_value.specs.declared.value.Value.{Value}
use Rattle.ds2_loads.proofs.Unchanged.{as_it_is}
use Rattle.ds2_loads.proofs.columns.brought.Goals as goal

pub returns-then-takes_as_it_is : goal.returns-then-takes_as_it_is
returns-then-takes_as_it_is c =
    subst (λ (v : Value). IfOk c.to_value.result (λ given. given ≡ v))
    (as_it_is (lent_value c.args.value.now) c.args.to c.args.from c.requires.fit (sym c.takes_as_it_is.ensures ∙ c.if-takes_as_it_is.true)) c.to_value.ensures
