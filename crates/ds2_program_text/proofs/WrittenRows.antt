-- Tables that take rows as text.
use Rattle.std.proofs.Common.{◌≡◌, ℕ, ◌+◌, List, [], ◌∷◌, ◌++◌, length, length-append, sym, ap, ◌∙◌, arith}
use Rattle.csv.specs.Writing.{default_writer, row_text}
use Rattle.ds2_value.specs.Row.{Row}
use Rattle.ds2_csv.specs.Text.{cells_text, text}
use Rattle.ds2_csv.proofs.Writing.{text_after}
use Rattle.ds2_program_text.specs.ProgramTexts.{written_table}
use Rattle.ds2_program_text.specs.declared.written_table.WrittenTable.{WrittenTable}

-- a table has taken these rows
abbrev pub HasWritten : WrittenTable → WrittenTable → List Row → Type 0
HasWritten from now rows = now ≡ written_table from.name from.overwrites (record { columns = from.columns; rows = rows })

pub row_written : (from before : WrittenTable) (grown : List ℕ) (counted : ℕ) (so_far : List Row) (row : Row)
    → grown ≡ before.text ++ row_text default_writer (cells_text before.columns row) → counted ≡ before.rows + 1 → HasWritten from before so_far
    → HasWritten from (record { name = before.name; overwrites = before.overwrites; columns = before.columns; text = grown; rows = counted }) (so_far ++ row ∷ [])
row_written from before grown counted so_far row longer more taken =
    let text_is : grown ≡ text (record { columns = from.columns; rows = so_far ++ row ∷ [] }) =
    longer ∙ ap (λ (t : WrittenTable). t.text ++ row_text default_writer (cells_text t.columns row)) taken ∙ sym (text_after from.columns so_far row) in
    let one_more : length so_far + 1 ≡ length (so_far ++ row ∷ []) = omega (arith, length-append so_far (row ∷ [])) in
    let rows_is : counted ≡ length (so_far ++ row ∷ []) = more ∙ ap (λ (t : WrittenTable). t.rows + 1) taken ∙ one_more in
    λ i. record { name = (taken i).name; overwrites = (taken i).overwrites; columns = (taken i).columns; text = text_is i; rows = rows_is i }
