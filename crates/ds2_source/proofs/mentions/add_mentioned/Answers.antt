use Rattle.std.proofs.Common.{◌++◌, ◌||◌, nat_eq, ap, ◌∙◌}
use Rattle.std.specs.Cmp.Lexicographic.{pointwise}
use Rattle.std.specs.HashSet.{contains}
use Rattle.ds2_meaning.specs.ProgramTree.{is_listed}
use Rattle.ds2_names.specs.SourceUnit.{names_alone}
use Rattle.ds2_source.specs.InputTables.{first_not_known}
use Rattle.ds2_source.proofs.mentions.add_mentioned.Goals as goal

pub returns-clause-known : goal.returns-clause-known
returns-clause-known c = λ name.
    c.in_ok-add_first_mentions.ensures.known name
    ∙ ap (λ ts. is_listed (names_alone ts) name || contains (pointwise nat_eq) c.args.known.now name) (c.as_slice-all.ensures ∙ c.in_ok-tables.ensures)

pub returns-clause-first : goal.returns-clause-first
returns-clause-first c =
    c.in_ok-add_first_mentions.ensures.first
    ∙ ap (λ ts. c.args.first.now ++ first_not_known (contains (pointwise nat_eq) c.args.known.now) ts) (c.as_slice-all.ensures ∙ c.in_ok-tables.ensures)
