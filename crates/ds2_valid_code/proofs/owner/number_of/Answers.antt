use Rattle.std.proofs.Common.{sym, ap, ◌∙◌}
use Rattle.std.specs.Option.{option_copied}
use Rattle.ds2_valid_code.proofs.OwnerLemmas.{number_stays, number_given}
use Rattle.ds2_valid_code.proofs.owner.number_of.Goals as goal

pub returns-in-Some-clause-numbers : goal.returns-in-Some-clause-numbers
returns-in-Some-clause-numbers c = λ other.
    number_stays c.args.numbers.now c.args.signature.items other.items c.in-Some.number.now c.args.next
    (sym c.get.ensures.value ∙ ap option_copied c.in-Some.is)

pub returns-clause-numbers : goal.returns-clause-numbers
returns-clause-numbers c = λ other.
    number_given c.args.numbers.now c.insert.new.self c.args.signature.items other.items c.args.next
    (sym c.get.ensures.value ∙ ap option_copied c.in_default.is) (c.in_ok-insert.ensures.updates.0 other)
