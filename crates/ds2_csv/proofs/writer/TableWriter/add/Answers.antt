use Rattle.std.proofs.Common.{◌++◌, ◌∙◌, ap, sym, List, ℕ}
use Rattle.csv.specs.Writing.{default_writer, row_text}
use Rattle.ds2_csv.specs.Text.{cells_text}
use Rattle.ds2_csv.proofs.Writing.{text_after}
use Rattle.ds2_csv.proofs.writer.TableWriter.add.Goals as goal

pub returns : goal.returns
returns c rows was =
    c.in_ok-add_row.ensures ∙ ap (λ (t : List ℕ). t ++ row_text default_writer (cells_text c.args.columns.now c.args.row.now)) (c.self.view_is ∙ was)
    ∙ sym (text_after c.args.columns.now rows c.args.row.now)
