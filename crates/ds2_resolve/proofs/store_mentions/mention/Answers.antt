use Rattle.std.proofs.Common.{◌+◌, ◌||◌, drop, nat_eq, sym, ap, ◌∙◌, arith}
use Rattle.std.proofs.lemmas.Grind.{common_steps}
use Rattle.std.specs.Cmp.Lexicographic.{pointwise}
use Rattle.std.specs.HashSet.{contains}
use Rattle.ds2_meaning.specs.ProgramTree.{is_listed}
use Rattle.ds2_names.specs.SourceUnit.{names_alone}
use Rattle.ds2_resolve.proofs.MentionedTables.{one_first, one_seen}
use Rattle.ds2_resolve.proofs.store_mentions.mention.Goals as goal

pub tables-preserved : goal.tables-preserved
tables-preserved c =
    let t = c.table-item.result in
    let before = contains (pointwise nat_eq) c.tables.mentioned in
    let behind = contains (pointwise nat_eq) c.mention_one.new.mentioned in
    let old = contains (pointwise nat_eq) c.args.mentioned.now in (
      λ name.
          one_seen t before behind c.in_ok-mention_one.ensures.set old c.tables.first name (c.tables.invariant.0 name)
          ∙ ap (λ f. is_listed (names_alone f) name || old name) (sym c.in_ok-mention_one.ensures.first),
      (let k = one_first t before behind c.in_ok-mention_one.ensures.set (drop (c.tables.table-index + 1) c.args.tables.now) in
          grind (arith, common_steps, k, c.in_ok-mention_one.ensures.first, c.tables.invariant.1)),
    )

pub returns-clause-set : goal.returns-clause-set
returns-clause-set c = λ name. c.tables.invariant.0 name
