use Rattle.std.proofs.Common.{◌≡◌, ◌≤◌, drop}
use Rattle.std.specs.Prelude.{IfSome}
use Rattle.ds2_value.specs.Functions.{greatest_scale}
use Rattle.ds2_value.proofs.ChoiceLemmas.{greater_scale}
use Rattle.ds2_value.proofs.choice.greatest_scale.Given as goal

abbrev pub invariant-values : goal.invariant-values
invariant-values l =
    (greatest_scale l.args ≡ greater_scale l.greatest (greatest_scale (drop l.v-index l.args)))
    × IfSome l.greatest (λ s. s ≤ 38)
