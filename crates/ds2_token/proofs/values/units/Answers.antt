use Rattle.std.proofs.Common.{◌<◌, length, ◌∙◌, get_or, rules}
use Rattle.ds2_token.proofs.ValueLemmas.{value_large, not_below}
use Rattle.ds2_token.proofs.values.units.Goals as goal

pub returns-in_err-value : goal.returns-in_err-value
returns-in_err-value c =
    let some : 0 < length c.loop-rest.rest.now = search rules in
    c.from_residual.ensures ∙ value_large _ c.loop-rest.value (get_or c.loop-rest.rest.now 0 0) c.loop-rest.rest.now _ c.loop-rest.invariant.rest some (search rules) (search rules) (not_below _ _ (search rules))
