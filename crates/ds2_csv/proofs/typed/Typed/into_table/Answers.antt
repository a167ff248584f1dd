use Rattle.std.proofs.Common.{◌∙◌, length, ap, sym}
use Rattle.std.specs.Prelude.{Ok}
use Rattle.ds2_table.specs.Table.{Contents}
use Rattle.ds2_csv.proofs.TypedLemmas.{whole-bad, whole-columns, whole-table}
use Rattle.ds2_csv.proofs.typed.Typed.into_table.Goals as goal

pub of_columns-requires : goal.of_columns-requires
of_columns-requires c = whole-columns c.args.self c.args.schema c.requires.whole.0 (length c.args.self.known) c.requires.types c.in-None.is c.requires.whole.1

pub returns-in-Some : goal.returns-in-Some
returns-in-Some c rows is = whole-bad c.args.self c.args.schema rows c.in-Some.refusal c.in-Some.is is

pub returns : goal.returns
returns c rows is =
    whole-table c.args.self c.args.schema rows (length c.args.self.known) c.requires.types c.in-None.is is ∙ ap (λ (t : Contents). Ok t) (sym c.of_columns.ensures)
