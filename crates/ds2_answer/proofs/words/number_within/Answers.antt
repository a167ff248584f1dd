use Rattle.std.proofs.Common.{sym}
use Rattle.ds2_answer.proofs.Numbers.{number_above, number_found, number_wrong}
use Rattle.ds2_answer.proofs.words.number_within.Goals as goal

pub returns-in-Ok-clause-number : goal.returns-in-Ok-clause-number
returns-in-Ok-clause-number c = number_found c.args.most c.in-Ok.number c.args.word.now c.in-Ok.ensures.value.0 (sym c.if-not-is_number.ensures) c.if-number-most.true

pub returns-in-Ok-2-clause-number : goal.returns-in-Ok-2-clause-number
returns-in-Ok-2-clause-number c = number_above c.args.most c.in-Ok.number c.args.word.now c.in-Ok.ensures.value.0 (sym c.if-not-is_number.ensures) c.if-number-most.false

pub returns-in-Err-clause-number : goal.returns-in-Err-clause-number
returns-in-Err-clause-number c = number_wrong c.args.most c.args.word.now c.in-Err.ensures.value.0 (sym c.if-not-is_number.ensures) c.ranges.most.fits
