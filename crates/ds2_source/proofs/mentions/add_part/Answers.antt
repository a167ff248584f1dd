use Rattle.std.proofs.Common.{◌++◌, ◌||◌, nat_eq, map, sym, ap, ◌∙◌, append-nil}
use Rattle.std.specs.Cmp.Lexicographic.{pointwise}
use Rattle.std.specs.HashSet.{contains}
use Rattle.ds2_tree.specs.UnitViews.{global_tree, part_tree}
use Rattle.ds2_meaning.specs.ProgramTree.{is_listed}
use Rattle.ds2_names.specs.NameRules.{from_each}
use Rattle.ds2_names.specs.SourceLimits.{tables_in_item}
use Rattle.ds2_names.specs.SourceUnit.{names_alone}
use Rattle.ds2_source.specs.InputTables.{first_not_known, tables_in_part, known_behind}
use Rattle.ds2_source.proofs.mentions.add_part.Goals as goal

pub returns-in-Proc-clause-known : goal.returns-in-Proc-clause-known
returns-in-Proc-clause-known c = λ name. sym (ap (λ p. known_behind (contains (pointwise nat_eq) c.args.known.now) p name) (ap part_tree c.in-Proc.is))

pub returns-in-Proc-clause-first : goal.returns-in-Proc-clause-first
returns-in-Proc-clause-first c = sym (ap (λ p. c.args.first.now ++ first_not_known (contains (pointwise nat_eq) c.args.known.now) (tables_in_part p)) (ap part_tree c.in-Proc.is) ∙ append-nil c.args.first.now)

pub returns-in-Run-clause-known : goal.returns-in-Run-clause-known
returns-in-Run-clause-known c = λ name. sym (ap (λ p. known_behind (contains (pointwise nat_eq) c.args.known.now) p name) (ap part_tree c.in-Run.is))

pub returns-in-Run-clause-first : goal.returns-in-Run-clause-first
returns-in-Run-clause-first c = sym (ap (λ p. c.args.first.now ++ first_not_known (contains (pointwise nat_eq) c.args.known.now) (tables_in_part p)) (ap part_tree c.in-Run.is) ∙ append-nil c.args.first.now)

pub returns-in-Quit-clause-known : goal.returns-in-Quit-clause-known
returns-in-Quit-clause-known c = λ name. sym (ap (λ p. known_behind (contains (pointwise nat_eq) c.args.known.now) p name) (ap part_tree c.in-Quit.is))

pub returns-in-Quit-clause-first : goal.returns-in-Quit-clause-first
returns-in-Quit-clause-first c = sym (ap (λ p. c.args.first.now ++ first_not_known (contains (pointwise nat_eq) c.args.known.now) (tables_in_part p)) (ap part_tree c.in-Quit.is) ∙ append-nil c.args.first.now)

pub returns-in_ok-add_mentioned-in-Package-clause-known : goal.returns-in_ok-add_mentioned-in-Package-clause-known
returns-in_ok-add_mentioned-in-Package-clause-known c = λ name.
    let before = contains (pointwise nat_eq) c.args.known.now in
    c.in_ok-add_mentioned-in-Package.ensures.known name
    ∙ ap (λ gs. is_listed (names_alone (from_each tables_in_item (map global_tree gs))) name || before name) c.as_slice.ensures
    ∙ sym (ap (λ p. known_behind before p name) (ap part_tree c.in-Package.is))

pub returns-in_ok-add_mentioned-in-Package-clause-first : goal.returns-in_ok-add_mentioned-in-Package-clause-first
returns-in_ok-add_mentioned-in-Package-clause-first c =
    let before = contains (pointwise nat_eq) c.args.known.now in
    c.in_ok-add_mentioned-in-Package.ensures.first
    ∙ ap (λ gs. c.args.first.now ++ first_not_known before (from_each tables_in_item (map global_tree gs))) c.as_slice.ensures
    ∙ sym (ap (λ p. c.args.first.now ++ first_not_known before (tables_in_part p)) (ap part_tree c.in-Package.is))

pub returns-in_ok-add_mentioned-in-Thread-clause-known : goal.returns-in_ok-add_mentioned-in-Thread-clause-known
returns-in_ok-add_mentioned-in-Thread-clause-known c = λ name.
    let before = contains (pointwise nat_eq) c.args.known.now in
    c.in_ok-add_mentioned-in-Thread.ensures.known name
    ∙ ap (λ gs. is_listed (names_alone (from_each tables_in_item (map global_tree gs))) name || before name) c.as_slice-in-Thread.ensures
    ∙ sym (ap (λ p. known_behind before p name) (ap part_tree c.in-Thread.is))

pub returns-in_ok-add_mentioned-in-Thread-clause-first : goal.returns-in_ok-add_mentioned-in-Thread-clause-first
returns-in_ok-add_mentioned-in-Thread-clause-first c =
    let before = contains (pointwise nat_eq) c.args.known.now in
    c.in_ok-add_mentioned-in-Thread.ensures.first
    ∙ ap (λ gs. c.args.first.now ++ first_not_known before (from_each tables_in_item (map global_tree gs))) c.as_slice-in-Thread.ensures
    ∙ sym (ap (λ p. c.args.first.now ++ first_not_known before (tables_in_part p)) (ap part_tree c.in-Thread.is))

pub returns-in_ok-add_program-in-Data-clause-known : goal.returns-in_ok-add_program-in-Data-clause-known
returns-in_ok-add_program-in-Data-clause-known c = λ name.
    c.in_ok-add_program-in-Data.ensures.known name ∙ sym (ap (λ p. known_behind (contains (pointwise nat_eq) c.args.known.now) p name) (ap part_tree c.in-Data.is))

pub returns-in_ok-add_program-in-Data-clause-first : goal.returns-in_ok-add_program-in-Data-clause-first
returns-in_ok-add_program-in-Data-clause-first c =
    c.in_ok-add_program-in-Data.ensures.first ∙ sym (ap (λ p. c.args.first.now ++ first_not_known (contains (pointwise nat_eq) c.args.known.now) (tables_in_part p)) (ap part_tree c.in-Data.is))
