use Rattle.std.proofs.Common.{sym, ap, ◌∙◌}
use Rattle.ds2_locality.specs.Verdict.{ground_of_term}
use Rattle.ds2_meaning.specs.View.{system_tree}
use Rattle.ds2_local.specs.JudgedTrees.{place_of_system}
use Rattle.ds2_local.proofs.VerdictLemmas.{with_statements}
use Rattle.ds2_local.proofs.verdict.place_with_statements.Goals as goal

pub returns-else-is_empty : goal.returns-else-is_empty
returns-else-is_empty c =
    with_statements c.in-Some.method (sym c.is_empty.ensures ∙ c.if-is_empty.false) ∙ ap (λ m. ground_of_term (place_of_system m) (system_tree m).statements) (sym c.in-Some.is)
