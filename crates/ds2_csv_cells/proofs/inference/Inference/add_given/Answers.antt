use Rattle.std.proofs.Common.{ap, ◌∙◌, max}
use Rattle.ds2_csv_cells.specs.ColumnTypes.{digits_before, digits_after}
use Rattle.ds2_csv_cells.proofs.Inferring.{decimals-too, with-number}
use Rattle.ds2_csv_cells.proofs.inference.Inference.add_given.Goals as goal

pub returns-then-not-decimals : goal.returns-then-not-decimals
returns-then-not-decimals c cells is =
    let r = c.requires in
    with-number c.args.self.now cells c.args.cell.now c.args.integers c.args.decimals c.args.self.now.before c.args.self.now.after c.with_size-self.result is r.given r.integers (decimals-too c.args.self.now cells c.args.cell.now c.args.integers _ is r.integers r.decimals) (λ e. cc (e, c.if-not-decimals.true)) (λ e. cc (e, c.if-not-decimals.true)) c.with_size-self.ensures

pub returns : goal.returns
returns c cells is =
    let r = c.requires in
    let before = c.max-self.ensures ∙ ap (λ n. max c.args.self.now.before n) (c.digits-before.ensures.before ∙ ap digits_before c.as_bytes.ensures.value) in
    let after = c.max-self-2.ensures ∙ ap (λ n. max c.args.self.now.after n) (c.digits-before.ensures.behind ∙ ap digits_after c.as_bytes.ensures.value) in
    with-number c.args.self.now cells c.args.cell.now c.args.integers c.args.decimals c.max-self.result c.max-self-2.result c.with_size-self.result is r.given r.integers (decimals-too c.args.self.now cells c.args.cell.now c.args.integers _ is r.integers r.decimals) (λ e. before) (λ e. after) c.with_size-self.ensures
