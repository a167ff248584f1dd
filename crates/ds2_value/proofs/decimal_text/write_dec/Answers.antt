use Rattle.std.proofs.Common.{◌≡◌, ◌∙◌, rules, subst, List, ℕ, IfOk, string_bytes}
use Rattle.ds2_decimal.specs.Decimal.{IsDecimal}
use Rattle.ds2_value.proofs.DecimalLemmas.{dec_text, text-written}
use Rattle.ds2_value.proofs.PowerLemmas.{ten-positive}
use Rattle.ds2_value.proofs.decimal_text.write_dec.Goals as goal

pub nonzero_div-magnitude : goal.nonzero_div-magnitude
nonzero_div-magnitude c = ten-positive _ _ c.power_of_ten-unit.ensures

pub nonzero_rem-magnitude : goal.nonzero_rem-magnitude
nonzero_rem-magnitude c = ten-positive _ _ c.power_of_ten-unit.ensures

pub returns : goal.returns
returns c =
    let spelt : string_bytes c.in_ok-text.text ≡ dec_text c.args.d = search rules in
    let valid : IsDecimal c.args.d = record {
      digits = rw c.units-units.ensures.value at c.units-units.ensures.digits;
      scale_bound = rw c.scale-scale.ensures.value at c.scale-scale.ensures.bound;
    } in
    subst (λ (bytes : List ℕ). IfOk c.from_string-2.result (λ text. text ≡ bytes)) (spelt ∙ text-written c.args.d valid) c.from_string-2.ensures.text
