use Rattle.std.proofs.Common.{ℕ, List, [], ◌∷◌, ◌++◌, ap, sym, ◌∙◌}
use Rattle.ds2_simple_statement_types.proofs.OutputForms.{one_number_more}
use Rattle.ds2_simple_statement_types.proofs.outputs.every_number.Goals as goal

pub numbers-preserved : goal.numbers-preserved
numbers-preserved c = c.in_ok-push.ensures.ok ∙ ap (λ (l : List ℕ). l ++ c.numbers.n ∷ []) c.numbers.invariant ∙ sym (one_number_more c.numbers.n)
