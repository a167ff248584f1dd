use Rattle.std.proofs.Common.{◌++◌, ℕ, List, ap, ◌∙◌}
use Rattle.std.proofs.lemmas.Result.{on_ok_weaker}
use Rattle.ds2_meaning.specs.ProgramTree.{is_listed}
use Rattle.ds2_names.specs.NameRules.{from_each}
use Rattle.ds2_names.specs.SourceUnit.{names_alone}
use Rattle.ds2_aliases.specs.HandedGlobals.{handings_in}
use Rattle.ds2_aliases.proofs.handings.push_in_method.Goals as goal

pub returns : goal.returns
returns c =
    let hidden = λ (name : List ℕ). c.in_ok-locals.ensures name ∙ ap (λ ns. is_listed (names_alone ns) name) c.as_slice.ensures in
    on_ok_weaker c.push_in_mentions.result
    (λ h. h ∙ (λ i. c.args.found.now ++ from_each (handings_in (λ name. hidden name i)) (c.as_slice-2.ensures i))) c.push_in_mentions.ensures
