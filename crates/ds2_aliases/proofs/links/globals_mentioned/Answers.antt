use Rattle.std.proofs.Common.{ℕ, List, ap, ◌∙◌}
use Rattle.std.proofs.lemmas.Result.{IfOk-weaker}
use Rattle.ds2_meaning.specs.ProgramTree.{is_listed}
use Rattle.ds2_names.specs.NameRules.{from_each}
use Rattle.ds2_names.specs.SourceUnit.{names_alone}
use Rattle.ds2_aliases.specs.ReachingMethods.{unhidden_name}
use Rattle.ds2_aliases.proofs.links.globals_mentioned.Goals as goal

pub returns : goal.returns
returns c =
    let hidden = λ (name : List ℕ). c.in_ok-locals.ensures name ∙ ap (λ ns. is_listed (names_alone ns) name) c.as_slice.ensures in
    IfOk-weaker c.unhidden_names.result _ _ (λ names h. h ∙ (λ i. from_each (unhidden_name (λ name. hidden name i)) (c.as_slice-2.ensures i))) c.unhidden_names.ensures
