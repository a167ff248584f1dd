use Rattle.std.proofs.Common.{refl, ap, ◌∙◌, arith}
use Rattle.std.proofs.lemmas.List.{drop_all}
use Rattle.ds2_merge.specs.KeyPlaces.{ordered_rows, most_between}
use Rattle.ds2_merge.proofs.KeyStates.{entered, key_run}
use Rattle.ds2_merge.proofs.next_key.next_key.Goals as goal

pub table_places-places-requires-clause-run : goal.table_places-places-requires-clause-run
table_places-places-requires-clause-run c = key_run c.args.rows.now c.requires.tables c.args.place.now c.requires.place _ c.end_of_key-end.ensures

pub most_between-count-requires : goal.most_between-count-requires
most_between-count-requires c = omega (arith, c.tables.ensures, c.requires.tables.few_tables)

pub returns-then-place-len : goal.returns-then-place-len
returns-then-place-len c = drop_all c.args.place.now.start (ordered_rows c.args.rows.now) (omega (arith, c.len.ensures.value, c.if-place-len.true))

pub returns : goal.returns
returns c =
    let key-is =
    entered c.args.rows.now c.requires.tables c.args.place.now c.requires.place
    (record { begins = c.table_places-places.result.begins; ends = c.table_places-places.result.ends; end = c.end_of_key-end.result; count = c.most_between-count.result; given = 0 })
    c.end_of_key-end.ensures (key_run c.args.rows.now c.requires.tables c.args.place.now c.requires.place _ c.end_of_key-end.ensures) c.table_places-places.ensures
    (c.most_between-count.ensures ∙ ap (most_between c.table_places-places.result.begins c.table_places-places.result.ends) c.tables.ensures) in
    (key-is, refl, key-is.some)
