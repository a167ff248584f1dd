use Rattle.std.proofs.Common.{sym, inl, inr, ◌∙◌, length}
use Rattle.ds2_csv_cells.proofs.ShortLemmas.{few-digits, size-short}
use Rattle.ds2_csv_cells.proofs.NumberLemmas.{no_size_start, size_stopped, size_passed, size_ended, size_large}
use Rattle.ds2_csv_cells.proofs.number.size.Goals as goal

pub returns-then-not-begins_well-clause-size : goal.returns-then-not-begins_well-clause-size
returns-then-not-begins_well-clause-size c = sym (no_size_start c.args.digits.now (sym c.if-not-begins_well.ensures))

pub returns-then-not-is_ascii_digit-clause-size : goal.returns-then-not-is_ascii_digit-clause-size
returns-then-not-is_ascii_digit-clause-size c =
    elim c.then-not-is_ascii_digit.either [
      | inl letter ↦ size_stopped c.args.digits.now c.loop-rest.rest.now c.loop-rest.invariant.digits c.in-len1-up.len_at_least (sym c.is_ascii_digit.ensures.value ∙ letter)
      | inr large ↦ size_passed c.args.digits.now c.loop-rest.rest.now c.loop-rest.n c.loop-rest.invariant.number c.in-len1-up.len_at_least large.1
    ]

pub returns-then-n-clause-size : goal.returns-then-n-clause-size
returns-then-n-clause-size c =
    size_ended c.args.digits.now c.loop-rest.rest.now c.loop-rest.n (sym c.if-not-begins_well.ensures) c.loop-rest.invariant.digits c.loop-rest.invariant.number c.in_default.len_below c.if-n.true

pub returns-else-n-clause-size : goal.returns-else-n-clause-size
returns-else-n-clause-size c = size_large c.args.digits.now c.loop-rest.rest.now c.loop-rest.n c.loop-rest.invariant.number c.in_default.len_below c.if-n.false

pub number_behind-requires : goal.number_behind-requires
number_behind-requires c = few-digits (length c.args.digits.now) c.if-digits-le18.true

pub returns-then-digits-le18-clause-size : goal.returns-then-digits-le18-clause-size
returns-then-digits-le18-clause-size c =
    (size-short c.args.digits.now c.number_behind.result (sym c.if-not-begins_well.ensures) c.if-digits-le18.true c.number_behind.ensures.value c.number_behind.ensures.room).0

pub returns-then-digits-le18-clause-within : goal.returns-then-digits-le18-clause-within
returns-then-digits-le18-clause-within c =
    (size-short c.args.digits.now c.number_behind.result (sym c.if-not-begins_well.ensures) c.if-digits-le18.true c.number_behind.ensures.value c.number_behind.ensures.room).1
