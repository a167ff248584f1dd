use Rattle.std.proofs.Common.{◌+◌, drop, bytes_eq, nat_eq, arith}
use Rattle.std.proofs.lemmas.Grind.{common_steps}
use Rattle.std.specs.Cmp.Lexicographic.{pointwise}
use Rattle.std.specs.HashSet.{contains}
use Rattle.ds2_meaning.specs.ProgramTree.{is_listed}
use Rattle.ds2_names.specs.SourceUnit.{names_alone}
use Rattle.ds2_scope.proofs.SetLemmas.{either_moved}
use Rattle.ds2_source.proofs.FirstMentions.{one_first}
use Rattle.ds2_source.proofs.mentions.add_first_mentions.Goals as goal

pub tables-preserved : goal.tables-preserved
tables-preserved c =
    let t = c.table-item.result in
    let before = contains (pointwise nat_eq) c.tables.known in
    let rest = drop (c.tables.table-index + 1) c.args.tables.now in (
      λ name.
          (let k = either_moved (bytes_eq t.name name) (is_listed (names_alone rest) name) (before name) in
          let added = c.in_ok-add_first.ensures.known name in
          let was = c.tables.invariant.0 name in
          grind (arith, common_steps, k, added, was)),
      (let k = one_first t before (contains (pointwise nat_eq) c.add_first.new.known) c.in_ok-add_first.ensures.known rest in
          grind (arith, common_steps, k, c.in_ok-add_first.ensures.first, c.tables.invariant.1)),
    )

pub returns-clause-known : goal.returns-clause-known
returns-clause-known c = λ name. let was = c.tables.invariant.0 name in grind (arith, common_steps, was)
