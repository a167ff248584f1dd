use Rattle.std.proofs.Common.{rules, ◌≡◌, sym, subst, ℤ, to_z, of_z, w64}
use Rattle.ds2_value.specs.Cell.{lent_value}
use Rattle.ds2_value.specs.declared.cell.Cell.{Cell}
use Rattle.ds2_value.specs.declared.value.Value.TheVariants.{Int}
use Rattle.ds2_reading.specs.KeyHeads.{IsKeyHead}
use Rattle.ds2_reading.proofs.heads.key_head.Goals as goal

pub returns-in-Int-clause-head : goal.returns-in-Int-clause-head
returns-in-Int-clause-head c =
    let own : to_z w64 (of_z w64 c.in-Int.i) ≡ c.in-Int.i = search rules in
    let P : ℤ → Type 0 = λ v. IsKeyHead c.number_head.result (Int v) in
    let Q : Cell → Type 0 = λ v. IsKeyHead c.number_head.result (lent_value v) in
    subst Q (sym c.in-Int.is) (subst P own c.number_head.ensures.head)

pub returns-in-Dec-clause-head : goal.returns-in-Dec-clause-head
returns-in-Dec-clause-head c =
    let P : Cell → Type 0 = λ v. IsKeyHead c.decimal_head.result (lent_value v) in subst P (sym c.in-Dec.is) c.decimal_head.ensures
