use Rattle.std.proofs.Common.{List, map, ap, subst, ◌∙◌}
use Rattle.ds2_tree.specs.UnitViews.{part_tree}
use Rattle.ds2_tree.specs.declared.units.SourcePart.{SourcePart}
use Rattle.ds2_names.specs.SourceUnit.{PlacedName}
use Rattle.ds2_source.specs.Answers.{AnswersWith}
use Rattle.ds2_source.specs.InputTables.{source_inputs, names_or_refusal}
use Rattle.ds2_source.proofs.inputs.input_names.Goals as goal

pub returns : goal.returns
returns c =
    subst (λ (ts : List PlacedName). AnswersWith (names_or_refusal ts) c.names_or_refusal.result)
    (c.as_slice-all.ensures ∙ c.in_ok-tables.ensures ∙ ap (λ (ps : List SourcePart). source_inputs (map part_tree ps)) c.as_slice-parts.ensures) c.names_or_refusal.ensures
