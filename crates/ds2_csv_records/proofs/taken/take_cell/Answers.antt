use Rattle.std.proofs.Common.{◌∙◌, ap, sym, List, ℕ, []}
use Rattle.csv.specs.declared.parser.State.TheVariants as st
use Rattle.ds2_csv_records.specs.Cells.{begins_quoted}
use Rattle.ds2_csv_records.specs.Reading.{rest_of}
use Rattle.ds2_csv_records.proofs.Reading.{quoted-cell}
use Rattle.ds2_csv_records.proofs.taken.take_cell.Goals as goal

pub returns-then-begins_quoted-clause-taken : goal.returns-then-begins_quoted-clause-taken
returns-then-begins_quoted-clause-taken c cells =
    quoted-cell cells c.args.text.now (ap begins_quoted (sym c.as_bytes.ensures.value) ∙ sym c.begins_quoted.ensures ∙ c.if-begins_quoted.true)
    ∙ ap (λ (t : List ℕ). rest_of st.InQuoted cells [] t) (sym c.behind_quote.ensures) ∙ c.quoted.ensures.taken cells
