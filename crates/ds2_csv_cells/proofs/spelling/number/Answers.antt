use Rattle.std.proofs.Common.{◌≡◌, ◌<◌, ◌+◌, ◌*◌, ◌-◌, sym, ◌∙◌, arith, rules, length, get_or}
use Rattle.std.specs.Prelude.{min}
use Rattle.ds2_csv_cells.specs.declared.spelling.TheConstants.{TOO_MANY}
use Rattle.ds2_csv_cells.proofs.Spellings.{number-took, digits-took, number-stopped, number-ended}
use Rattle.ds2_csv_cells.proofs.spelling.number.Goals as goal

pub digits-preserved : goal.digits-preserved
digits-preserved c =
    let is : c.min-n.result ≡ min (c.digits.n * 10 + (get_or c.digits.rest.now 0 0 - 48)) TOO_MANY = search rules in
    record {
      bound = omega (arith, is);
      number = number-took TOO_MANY c.digits.n c.min-n.result c.digits.rest.now c.args.digits.now c.in-len1-up.len_at_least is c.digits.invariant.number;
      digits = digits-took c.digits.rest.now c.args.digits.now c.in-len1-up.len_at_least (sym c.is_ascii_digit.ensures.value ∙ c.if-not-is_ascii_digit.false) c.digits.invariant.digits;
    }

pub returns-then-not-is_ascii_digit-clause-value : goal.returns-then-not-is_ascii_digit-clause-value
returns-then-not-is_ascii_digit-clause-value c =
    number-stopped (λ n. min n TOO_MANY) c.digits.rest.now c.args.digits.now c.in-len1-up.len_at_least (sym c.is_ascii_digit.ensures.value ∙ c.if-not-is_ascii_digit.true) c.digits.invariant.digits

pub returns-clause-value : goal.returns-clause-value
returns-clause-value c =
    let some : 0 < length c.args.digits.now = search rules in
    number-ended TOO_MANY c.digits.n c.digits.rest.now c.args.digits.now c.digits.invariant.bound some c.in_default.len_below c.digits.invariant.number c.digits.invariant.digits
