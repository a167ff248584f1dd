use Rattle.std.proofs.Common.{ℕ, Option, ap, sym, ◌∙◌}
use Rattle.std.specs.Option.{option_and_then}
use Rattle.ds2_decimal.specs.Steps.{digits_behind}
use Rattle.ds2_decimal.proofs.TextLemmas.{digits_after-append}
use Rattle.ds2_decimal.proofs.read.number.Goals as goal

pub returns-in-Some-clause-value : goal.returns-in-Some-clause-value
returns-in-Some-clause-value c =
    let first = sym c.more_digits.ensures.value ∙ c.in-Some.is in
    c.more_digits-in-Some.ensures.value ∙ sym (digits_after-append 0 c.args.whole.now c.args.fraction.now ∙ ap (λ (o : Option ℕ). option_and_then (λ (m : ℕ). digits_behind m c.args.fraction.now) o) first)

pub returns-in-None-clause-value : goal.returns-in-None-clause-value
returns-in-None-clause-value c =
    let first = sym c.more_digits.ensures.value ∙ c.in-None.is in
    sym (digits_after-append 0 c.args.whole.now c.args.fraction.now ∙ ap (λ (o : Option ℕ). option_and_then (λ (m : ℕ). digits_behind m c.args.fraction.now) o) first)
