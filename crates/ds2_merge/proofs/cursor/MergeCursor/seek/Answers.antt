use Rattle.std.proofs.Common.{◌≤◌, ◌∙◌, sym, subst, ap, arith, List}
use Rattle.std.specs.Arc.{arc_value}
use Rattle.std.specs.Prelude.{slice_get}
use Rattle.ds2_reading.specs.CursorState.{Cursor, group_count}
use Rattle.ds2_merge.specs.KeyPlaces.{loads_given}
use Rattle.ds2_merge.specs.declared.key_place.KeyPlace.{KeyPlace}
use Rattle.ds2_merge.proofs.Opening.{cursor_of, not_past, between_ready, between_given}
use Rattle.ds2_merge.proofs.cursor.MergeCursor.seek.Goals as goal

pub unreachable-requires : goal.unreachable-requires
unreachable-requires c =
    let P : Cursor → Type 0 = λ v. c.args.g ≤ group_count v in
    let few : P (cursor_of c.self.inside.rows c.self.inside.grain (loads_given c.self.inside.place)) = subst P (sym c.self.view_is) c.requires in
    not_past (arc_value c.self.inside.groups) c.args.g (omega (arith, few, c.self.invariant.1.count))
    (ap (λ (ps : List KeyPlace). slice_get ps c.args.g) (sym c.deref.ensures) ∙ sym c.in-None.ensures)

pub invariant_of-self : goal.invariant_of-self
invariant_of-self c =
    let start = c.self.invariant.1.each c.args.g c.in-Some.place.now (ap (λ (ps : List KeyPlace). slice_get ps c.args.g) (sym c.deref.ensures) ∙ sym c.in-Some.ensures) in
    let ready = c.self.invariant.0 in
    (rw c.between-self-inside.ensures (between_ready c.self.inside.rows c.in-Some.place.now ready.tables start.0), c.self.invariant.1)

pub returns : goal.returns
returns c =
    let start = c.self.invariant.1.each c.args.g c.in-Some.place.now (ap (λ (ps : List KeyPlace). slice_get ps c.args.g) (sym c.deref.ensures) ∙ sym c.in-Some.ensures) in
    rw (← c.self.view_is) (ap (cursor_of c.self.inside.rows c.self.inside.grain) (ap loads_given c.between-self-inside.ensures ∙ between_given c.in-Some.place.now ∙ start.1))
