use Rattle.std.proofs.Common.{◌≡◌, IfOk, bytes_eq, sym, ap, ◌∙◌, subst}
use Rattle.std.specs.Prelude.{position, unwrap_or}
use Rattle.ds2_value.specs.declared.schema.Column.{Column}
use Rattle.ds2_generate.proofs.tables.column_number.Goals as goal

pub returns-in-None : goal.returns-in-None
returns-in-None c =
    ap (λ o. unwrap_or o 0) (sym c.in-None.is ∙ c.find_column.ensures ∙ ap (λ name. position (λ (x : Column). bytes_eq x.name name) c.args.columns.now) c.name_of_global.ensures)

pub returns-in-Some : goal.returns-in-Some
returns-in-Some c =
    subst (λ n. IfOk c.number.result (λ k. k ≡ n))
    (ap (λ o. unwrap_or o 0) (sym c.in-Some.is ∙ c.find_column.ensures ∙ ap (λ name. position (λ (x : Column). bytes_eq x.name name) c.args.columns.now) c.name_of_global.ensures))
    c.number.ensures
