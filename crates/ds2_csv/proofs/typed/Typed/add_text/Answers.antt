use Rattle.std.proofs.Common.{length, refl, sym, arith}
use Rattle.ds2_csv_cells.specs.Held.{held_value}
use Rattle.ds2_csv.specs.Typed.{HasColumnTypes}
use Rattle.ds2_csv.specs.declared.typed.Typed.{Typed}
use Rattle.ds2_csv.proofs.TypedLemmas.{fit-there, on-ok, put-types, reading-bad, reading-past, reading-put, some-here}
use Rattle.ds2_csv.proofs.typed.Typed.add_text.Goals as goal

pub returns-in_default-clause-read : goal.returns-in_default-clause-read
returns-in_default-clause-read c rows cells numbered counted is =
    let past = c.in_default.ensures.lookup in
    reading-past c.args.self.now c.args.columns.now rows cells c.args.text.now (length c.args.self.now.known) c.requires.types (omega (arith, past, counted)) is

pub returns-then-is_some-clause-read : goal.returns-then-is_some-clause-read
returns-then-is_some-clause-read c rows cells numbered counted is =
    reading-bad c.args.self.now _ c.args.columns.now rows cells c.args.text.now (sym c.if-is_some.ensures) refl (c.in_ok-value.ensures.known rows cells counted is.known) is

pub put-requires-clause-fit : goal.put-requires-clause-fit
put-requires-clause-fit c =
    fit-there c.args.columns.now _ c.args.i c.in-Some.column.now (held_value c.in_ok-value.value) c.requires.types.types
    (some-here c.args.columns.now c.args.i c.in-Some.column.now c.in-Some.ensures.lookup.3.0 c.in-Some.ensures.lookup.1) c.in_ok-value.ensures.fit

pub returns-clause-types : goal.returns-clause-types
returns-clause-types c =
    let here = some-here c.args.columns.now c.args.i c.in-Some.column.now c.in-Some.ensures.lookup.3.0 c.in-Some.ensures.lookup.1 in
    let mid : Typed = record c.args.self.now { known = c.told.new.known } in
    let types : HasColumnTypes mid c.args.columns.now (length c.args.self.now.known) =
    record { types = c.requires.types.types; known = c.in_ok-value.ensures.count; few = c.requires.types.few } in
    on-ok c.put.result c.put.ensures.put c.put.ensures.known c.put.ensures.values (λ put known kept.
    put-types mid c.put.new.self c.args.columns.now c.args.i c.args.number (length c.args.self.now.known) c.in-Some.column.now (held_value c.in_ok-value.value) here put known kept types)

pub returns-clause-read : goal.returns-clause-read
returns-clause-read c rows cells numbered counted is =
    let here = some-here c.args.columns.now c.args.i c.in-Some.column.now c.in-Some.ensures.lookup.3.0 c.in-Some.ensures.lookup.1 in
    let mid : Typed = record c.args.self.now { known = c.told.new.known } in
    on-ok c.put.result c.put.ensures.put c.put.ensures.known c.put.ensures.values (λ put known kept.
    reading-put c.args.self.now mid c.put.new.self c.args.columns.now rows cells c.args.text.now c.args.i c.args.number (length c.args.self.now.known) c.in-Some.column.now
    (held_value c.in_ok-value.value) c.requires.types (sym c.if-is_some.ensures) refl refl known here c.in_ok-value.ensures.value put numbered counted
    (c.in_ok-value.ensures.known rows cells counted is.known) is)
