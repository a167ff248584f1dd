use Rattle.std.proofs.Common.{◌∙◌, ◌++◌, ap, List, ℕ, map}
use Rattle.ds2_csv_records.specs.Records.{field_of}
use Rattle.ds2_csv.specs.Text.{heading_text}
use Rattle.ds2_csv.proofs.Writing.{none-written, one-written, all-written, header-left, header-none}
use Rattle.ds2_csv.proofs.write.header_cells.Goals as goal

pub columns-init : goal.columns-init
columns-init c = none-written c.args.out.now (map heading_text c.args.columns.now)

pub columns-preserved : goal.columns-preserved
columns-preserved c =
    one-written _ _ _ _ _ _ _ _ _ (header-left _ _ c.in-len1-up.len_at_least c.column-item.is) c.in_ok-add_separator.ensures
    (c.in_ok-add_field.ensures ∙ ap (λ (t : List ℕ). c.add_separator.new.out ++ field_of t) (c.as_bytes.ensures.value ∙ c.in_ok-cell.ensures)) c.columns.invariant

pub returns : goal.returns
returns c = all-written _ _ _ _ _ (header-none _ c.in_default.len_below) c.columns.invariant
