use Rattle.std.proofs.Common.{◌+◌, ◌*◌, ◌-◌, get_or, sym, refl, arith}
use Rattle.ds2_csv_cells.proofs.ShortLemmas.{digit-small, room-digit, room-small, number-digit}
use Rattle.ds2_csv_cells.proofs.Spellings.{digits-took}
use Rattle.ds2_csv_cells.proofs.number.number_behind.Goals as goal

pub overflow_mul-number : goal.overflow_mul-number
overflow_mul-number c = omega (arith, c.requires, c.loop-rest.invariant.room, room-small c.loop-rest.number _ c.loop-rest.rest.now c.in-len1-up.len_at_least c.loop-rest.invariant.room)

pub overflow_add-number : goal.overflow_add-number
overflow_add-number c =
    omega (
      arith,
      c.requires,
      c.loop-rest.invariant.room,
      room-small c.loop-rest.number _ c.loop-rest.rest.now c.in-len1-up.len_at_least c.loop-rest.invariant.room,
      digit-small (get_or c.loop-rest.rest.now 0 0) (sym c.if-not-is_ascii_digit.ensures.value),
    )

pub loop-rest-preserved : goal.loop-rest-preserved
loop-rest-preserved c =
    let digit = sym c.if-not-is_ascii_digit.ensures.value in
    let rest = c.loop-rest.rest.now in
    let next = c.loop-rest.number * 10 + (get_or c.loop-rest.rest.now 0 0 - 48) in
    record {
      number = number-digit c.loop-rest.number next _ rest c.in-len1-up.len_at_least refl c.loop-rest.invariant.number;
      digits = digits-took rest c.args.digits.now c.in-len1-up.len_at_least digit c.loop-rest.invariant.digits;
      room = room-digit c.loop-rest.number next _ rest c.in-len1-up.len_at_least digit refl c.loop-rest.invariant.room;
    }
