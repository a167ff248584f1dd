use Rattle.std.proofs.Common.{◌+◌, ◌++◌, List, [], ◌∷◌, bytes_eq, drop, sym, ap, ◌∙◌, append_assoc}
use Rattle.std.specs.Prelude.{position, unwrap_or}
use Rattle.ds2_value.specs.declared.schema.Column.{Column}
use Rattle.ds2_meaning.specs.declared.hashes.HashVariable.{HashVariable}
use Rattle.ds2_meaning.specs.ProgramMeaning.{global_name}
use Rattle.ds2_program_code.specs.CodeParts.{columns_of_variables}
use Rattle.ds2_generate.proofs.WalkLemmas.{first_and_rest}
use Rattle.ds2_generate.proofs.tables.column_numbers.Goals as goal

pub variables-preserved : goal.variables-preserved
variables-preserved c =
    let columns = c.args.columns.now in
    let variables = c.args.variables.now in
    let n = c.variables.variable-index in
    let v = c.variable-item.result in
    let number = unwrap_or (position (λ (x : Column). bytes_eq x.name (global_name v.global)) columns) 0 in
    let rest = columns_of_variables columns (drop (n + 1) variables) in
    ap (λ l. l ++ rest) c.in_ok-push.ensures.ok
    ∙ ap (λ k. (c.variables.list ++ k ∷ []) ++ rest) c.in_ok-column_number.ensures
    ∙ append_assoc c.variables.list (number ∷ []) rest
    ∙ ap (λ (l : List HashVariable). c.variables.list ++ columns_of_variables columns l) (sym (first_and_rest variables n v c.variables-test.true c.variable-item.is))
    ∙ c.variables.invariant
