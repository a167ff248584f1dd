use Rattle.std.proofs.Common.{◌+◌, drop, subst}
use Rattle.ds2_value.specs.Row.{Columns}
use Rattle.std.proofs.Math.ListN.{drop_of_length-le}
use Rattle.ds2_scope.proofs.SetLemmas.{item_first, LeadsToColumns, columns_begin, columns_go_on, columns_end}
use Rattle.ds2_scope.proofs.columns.push_columns.Goals as goal

pub columns-init : goal.columns-init
columns-init c = λ k h. columns_begin k c.args.place c.args.columns.now c.args.names.now c.args.known.now h

pub columns-preserved : goal.columns-preserved
columns-preserved c = λ k h.
    let columns = c.args.columns.now in
    let i = c.columns.column-index in
    let lead = subst (λ (cs : Columns). LeadsToColumns k c.args.place columns c.args.names.now cs c.columns.names c.columns.known)
    (item_first columns i c.column-item.result c.column-item.is c.columns-test.true) (c.columns.invariant k h) in
    columns_go_on k c.args.place columns c.args.names.now c.column-item.result (drop (i + 1) columns) c.columns.names c.push_column.new.names c.columns.known c.push_column.new.known
    lead (λ b g. c.in_ok-push_column.ensures b g)

pub returns : goal.returns
returns c = λ k h.
    let columns = c.args.columns.now in
    let lead = subst (λ (cs : Columns). LeadsToColumns k c.args.place columns c.args.names.now cs c.columns.names c.columns.known) (drop_of_length-le columns c.columns-test.false) (c.columns.invariant k h) in
    columns_end k c.args.place columns c.args.names.now c.columns.names c.columns.known lead
