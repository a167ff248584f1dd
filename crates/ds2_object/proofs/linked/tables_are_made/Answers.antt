use Rattle.std.proofs.Common.{List}
use Rattle.ds2_code.specs.declared.parts.ReadPart.{ReadPart}
use Rattle.ds2_code.specs.declared.parts.StagedParts.{StagedParts}
use Rattle.ds2_object_words.specs.CodeParts.{read_spelled}
use Rattle.ds2_object.specs.ObjectSpelling.{has_maker}
use Rattle.ds2_object.proofs.MadeLemmas.{first_and_rest, none_behind}
use Rattle.ds2_object.proofs.WalkLemmas.{walk_begun, walk_first, walk_more, walk_broken, walk_done, read_reference}
use Rattle.ds2_object.proofs.linked.tables_are_made.Goals as goal

pub tables-init : goal.tables-init
tables-init c = walk_begun c.args.made.now (λ (earlier : List StagedParts) (t : ReadPart). has_maker earlier t.table) read_spelled c.args.tables.now c.requires

pub is_made-requires : goal.is_made-requires
is_made-requires c =
    read_reference c.first-item.result
    (walk_first c.args.made.now (λ (earlier : List StagedParts) (t : ReadPart). has_maker earlier t.table) read_spelled c.args.tables.now c.first-item.result c.tables.rest.now _ (first_and_rest c.tables.rest.now c.first-item.result c.in-len1-up.len_at_least c.first-item.is) c.tables.invariant)

pub returns-then-not-branch : goal.returns-then-not-branch
returns-then-not-branch c =
    walk_broken c.args.made.now (λ (earlier : List StagedParts) (t : ReadPart). has_maker earlier t.table) read_spelled c.args.tables.now c.first-item.result c.tables.rest.now _ c.in_ok-is_made.field-0 (first_and_rest c.tables.rest.now c.first-item.result c.in-len1-up.len_at_least c.first-item.is) c.if-not-branch.true c.in_ok-is_made.ensures c.tables.invariant

pub tables-preserved : goal.tables-preserved
tables-preserved c =
    walk_more c.args.made.now (λ (earlier : List StagedParts) (t : ReadPart). has_maker earlier t.table) read_spelled c.args.tables.now c.first-item.result c.tables.rest.now _ c.in_ok-is_made.field-0 (first_and_rest c.tables.rest.now c.first-item.result c.in-len1-up.len_at_least c.first-item.is) c.if-not-branch.false c.in_ok-is_made.ensures c.tables.invariant

pub returns : goal.returns
returns c = walk_done c.args.made.now (λ (earlier : List StagedParts) (t : ReadPart). has_maker earlier t.table) read_spelled c.args.tables.now c.tables.rest.now (none_behind c.tables.rest.now c.in_default.len_below) c.tables.invariant
