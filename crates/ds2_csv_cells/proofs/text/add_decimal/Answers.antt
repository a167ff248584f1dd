use Rattle.std.proofs.Common.{◌≡◌, ◌∙◌, ◌<◌, ◌^◌, ap, arith, ℤ, rules, ◌++◌, ◌∷◌, []}
use Rattle.std.specs.Prelude.{pos, int_lt, unsigned_abs, if◌then◌else◌}
use Rattle.std.proofs.lemmas.Bool.{ltb-true}
use Rattle.ds2_decimal.specs.declared.dec.TheConstants.{MOST_DIGITS}
use Rattle.ds2_csv_cells.proofs.CellWriting.{decimal-added}
use Rattle.ds2_csv_cells.proofs.text.add_decimal.Goals as goal

pub returns : goal.returns
returns c =
    let units = c.units-units.ensures.value in
    let size = ap (λ (z : ℤ). unsigned_abs z) units in
    let few = ltb-true (unsigned_abs c.units-units.result) (10 ^ MOST_DIGITS) c.units-units.ensures.digits in
    let small : unsigned_abs c.args.d.units < 10 ^ 64 = omega (arith, few, size) in
    let magnitude : c.unsigned_abs-magnitude.result ≡ unsigned_abs c.units-units.result = search rules in
    let sign : c.add_sign.new.out ≡ c.args.out.now ++ (if int_lt c.units-units.result (pos 0) then 45 ∷ [] else []) = search rules in
    decimal-added c.args.out.now c.add_sign.new.out c.add_magnitude.new.out c.args.d _ _ c.scale-2.result small (ap (λ (z : ℤ). int_lt z (pos 0)) units) (magnitude ∙ size)
    c.scale-2.ensures.value sign c.in_ok-add_magnitude.ensures
