use Rattle.std.proofs.Common.{◌≡◌, length, Some, refl}
use Rattle.std.specs.Prelude.{slice_get}
use Rattle.std.proofs.lemmas.Option.{slice_get_read, slice_get_past}
use Rattle.ds2_object.proofs.MadeLemmas.{made_column_written, no_slot}
use Rattle.ds2_object.proofs.made.write_made_column.Goals as goal

pub returns-in_ok-write-in-Some : goal.returns-in_ok-write-in-Some
returns-in_ok-write-in-Some c =
    let slots = c.args.slots.now in
    let made = c.args.made.now in
    let found = c.in-Some.ensures.lookup in
    let there : slice_get slots made.1 ≡ Some c.in-Some.slot.now = slice_get_read slots (length slots) made.1 c.in-Some.slot.now refl found.3.0 found.1 in
    made_column_written slots made c.in-Some.slot.now c.args.out.now c.write.new.out c.write-in-Some.new.out there c.in_ok-write.ensures c.in_ok-write-in-Some.ensures

pub returns-in-None : goal.returns-in-None
returns-in-None c =
    let slots = c.args.slots.now in
    let made = c.args.made.now in
    absurd (no_slot slots made (slice_get_past slots made.1 c.in-None.ensures.lookup.3) c.requires)
