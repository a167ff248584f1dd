use Rattle.std.proofs.Common.{◌∙◌, sym}
use Rattle.std.proofs.lemmas.Bool.{and_parts}
use Rattle.ds2_value.specs.Schema.{distinct_names, types_in_bounds}
use Rattle.ds2_csv.specs.Columns.{columns_from}
use Rattle.ds2_csv.proofs.SchemaLemmas.{schema-some}
use Rattle.ds2_csv.proofs.read.schema.Goals as goal

pub new-requires : goal.new-requires
new-requires c =
    let rows = c.requires.known.0 in
    let is = c.in_ok-columns.ensures rows c.requires.known.1 in
    rw is (and_parts (distinct_names (columns_from 0 c.args.headings.now rows)) (types_in_bounds (columns_from 0 c.args.headings.now rows)) (c.requires.schema rows)).1

pub unreachable-requires : goal.unreachable-requires
unreachable-requires c =
    let rows = c.requires.known.0 in
    let is = c.in_ok-columns.ensures rows c.requires.known.1 in
    schema-some c.in_ok-columns.field-0 (columns_from 0 c.args.headings.now rows) is (c.requires.schema rows) (sym c.new.ensures ∙ c.in-None.is)
