use Rattle.std.proofs.Common.{ap, arith, length, ◌∙◌, List, sym, subst}
use Rattle.ds2_reading.specs.KeyOrder.{InputKeys}
use Rattle.ds2_merge.specs.KeyPlaces.{between_keys, loads_given, StandAtKeys}
use Rattle.ds2_reading.proofs.Fits.{by_count}
use Rattle.ds2_merge.proofs.Opening.{can_read, ready_at_start, opened_is}
use Rattle.ds2_merge.specs.declared.key_place.KeyPlace.{KeyPlace}
use Rattle.ds2_merge.proofs.cursor.MergeCursor.open.Goals as goal

pub group_places-requires-clause-grain : goal.group_places-requires-clause-grain
group_places-requires-clause-grain c =
    omega (arith, ap (λ (k : InputKeys). length k.descending) c.in_ok-rows.ensures, by_count c.args.reading.now, c.requires.grain)

pub group_places-requires-clause-tables : goal.group_places-requires-clause-tables
group_places-requires-clause-tables c =
    can_read c.args.tables.now c.args.reading.now c.in_ok-rows.rows c.requires.fits c.in_ok-rows.ensures c.have_keys.ensures (omega (arith, c.len-rows.ensures.value, c.len-rows.ensures.bound))

pub invariant_of-result : goal.invariant_of-result
invariant_of-result c = (
  rw (c.between-place.ensures, c.start.ensures)
      (ready_at_start c.in_ok-rows.rows
      (can_read c.args.tables.now c.args.reading.now c.in_ok-rows.rows c.requires.fits c.in_ok-rows.ensures c.have_keys.ensures (omega (arith, c.len-rows.ensures.value, c.len-rows.ensures.bound)))),
  let P : List KeyPlace → Type 0 = λ ps. StandAtKeys c.in_ok-rows.rows c.args.grain ps in subst P (sym c.in_ok-groups.ensures.ok) c.in_ok-places.ensures,
)

pub returns : goal.returns
returns c =
    opened_is c.args.tables.now c.args.reading.now c.args.grain c.in_ok-rows.rows _ c.in_ok-rows.ensures
    (ap loads_given (c.between-place.ensures ∙ ap between_keys c.start.ensures))
