use Rattle.std.proofs.Common.{ℕ, List, length, refl, sym, ap, subst, arith}
use Rattle.ds2_reading.specs.KeyOrder.{InputKeys}
use Rattle.ds2_rows.specs.SetPlaces.{StandAtGroups}
use Rattle.ds2_reading.proofs.Fits.{by_count}
use Rattle.ds2_rows.proofs.Opening.{ready_at_start, opened_is}
use Rattle.ds2_rows.proofs.cursor.SetCursor.open.Goals as goal

pub group_starts-requires : goal.group_starts-requires
group_starts-requires c =
    omega (arith, ap (λ (k : InputKeys). length k.descending) c.in_ok-rows.ensures, by_count c.args.reading.now, c.requires.grain)

pub invariant_of-result : goal.invariant_of-result
invariant_of-result c = (
  ready_at_start c.args.tables.now c.args.reading.now c.in_ok-rows.rows c.requires.fits c.in_ok-rows.ensures c.have_keys.ensures
      (omega (arith, c.len-rows.ensures.value, c.len-rows.ensures.bound)),
  let P : List ℕ → Type 0 = λ ps. StandAtGroups c.in_ok-rows.rows c.args.grain ps in subst P (sym c.in_ok-starts.ensures.ok) c.in_ok-places.ensures,
)

pub returns : goal.returns
returns c = opened_is c.args.tables.now c.args.reading.now c.args.grain c.in_ok-rows.rows _ c.in_ok-rows.ensures refl
