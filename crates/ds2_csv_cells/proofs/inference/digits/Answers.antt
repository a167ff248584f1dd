use Rattle.std.proofs.Common.{◌∙◌, ap, sym, List, ℕ, length}
use Rattle.ds2_csv_cells.specs.ColumnTypes.{whole_digits}
use Rattle.ds2_csv_cells.proofs.ShortLemmas.{integer-whole}
use Rattle.ds2_csv_cells.proofs.inference.digits.Goals as goal

pub returns-then-integer : goal.returns-then-integer
returns-then-integer c =
    let whole = integer-whole c.args.text.now (c.requires c.if-integer.true) in
    record {
      before = c.whole_digits.ensures ∙ ap whole_digits (c.without_sign-number.ensures ∙ sym whole.0);
      behind = ap (λ (t : List ℕ). length t) (sym whole.1);
    }
