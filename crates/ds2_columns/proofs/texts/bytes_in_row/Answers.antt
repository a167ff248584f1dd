use Rattle.std.proofs.Common.{◌≡◌, ◌∙◌, ◌+◌, ℕ, suc, ap, arith}
use Rattle.std.specs.Prelude.{Some}
use Rattle.ds2_base.specs.Bytes.{Bytes}
use Rattle.ds2_columns.specs.Texts.{texts_end}
use Rattle.ds2_columns.proofs.TextRuns.{goes_on, within, in_row}
use Rattle.ds2_columns.proofs.texts.bytes_in_row.Goals as goal

pub bytes_between-requires-clause-start : goal.bytes_between-requires-clause-start
bytes_between-requires-clause-start c =
    let next : c.args.row + 1 ≡ suc c.args.row = omega arith in
    omega (arith, c.texts_end.ensures, c.texts_end-2.ensures ∙ ap (λ (n : ℕ). texts_end 0 c.args.ends.now n) next, goes_on 0 c.args.ends.now c.args.bytes.now c.args.row c.requires.texts)

pub bytes_between-requires-clause-end : goal.bytes_between-requires-clause-end
bytes_between-requires-clause-end c =
    omega (arith, c.texts_end-2.ensures, within 0 c.args.ends.now c.args.bytes.now (c.args.row + 1) c.requires.texts)

pub returns : goal.returns
returns c =
    ap (λ (bs : Bytes). Some bs) c.bytes_between.ensures
    ∙ in_row c.args.ends.now c.args.bytes.now c.args.row c.texts_end.result c.texts_end-2.result c.requires.texts c.requires.within c.texts_end.ensures c.texts_end-2.ensures
