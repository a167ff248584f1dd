use Rattle.std.proofs.Common.{◌≡◌, ◌++◌, ◌∙◌, ap, sym, List, ℕ, true, rules}
use Rattle.std.specs.Fmt.{signed_decimal}
use Rattle.ds2_value.specs.Value.{fits_bigint}
use Rattle.ds2_csv_cells.proofs.CellWriting.{number_plain}
use Rattle.ds2_csv_cells.proofs.text.add_integer.Goals as goal

pub returns : goal.returns
returns c =
    let fit : fits_bigint c.args.i ≡ true = search rules in
    let digits : c.format.result.now ≡ signed_decimal c.args.i = search rules in
    c.in_ok-append.ensures.ok ∙ ap (λ (t : List ℕ). c.args.out.now ++ t) (c.as_bytes.ensures.value ∙ digits ∙ sym (number_plain c.args.i fit))
