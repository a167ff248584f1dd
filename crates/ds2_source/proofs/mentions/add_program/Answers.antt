use Rattle.std.proofs.Common.{◌||◌, ◌++◌, nat_eq, map, ap, ◌∙◌}
use Rattle.std.specs.Cmp.Lexicographic.{pointwise}
use Rattle.std.specs.HashSet.{contains}
use Rattle.ds2_tree.specs.UnitViews.{global_tree}
use Rattle.ds2_meaning.specs.ProgramTree.{is_listed}
use Rattle.ds2_names.specs.NameRules.{from_each}
use Rattle.ds2_names.specs.SourceLimits.{tables_in_item}
use Rattle.ds2_names.specs.SourceUnit.{names_alone}
use Rattle.ds2_source.specs.InputTables.{first_not_known, names_made_by_outputs}
use Rattle.ds2_source.proofs.mentions.add_program.Goals as goal

pub returns-clause-known : goal.returns-clause-known
returns-clause-known c = λ name.
    let before = contains (pointwise nat_eq) c.args.known.now in
    c.in_ok-add_outputs.ensures name
    ∙ (λ i. is_listed (names_made_by_outputs (c.as_slice-outputs.ensures i)) name
    || (c.in_ok-add_mentioned.ensures.known name ∙ ap (λ gs. is_listed (names_alone (from_each tables_in_item (map global_tree gs))) name || before name) c.as_slice-globals.ensures) i)

pub returns-clause-first : goal.returns-clause-first
returns-clause-first c =
    c.in_ok-add_mentioned.ensures.first
    ∙ ap (λ gs. c.args.first.now ++ first_not_known (contains (pointwise nat_eq) c.args.known.now) (from_each tables_in_item (map global_tree gs))) c.as_slice-globals.ensures
