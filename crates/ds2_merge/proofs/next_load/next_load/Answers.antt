use Rattle.std.proofs.Common.{length, ap, sym, ◌∙◌}
use Rattle.std.specs.Prelude.{slice_get}
use Rattle.std.specs.Option.{option_map}
use Rattle.ds2_table.specs.Loads.{KeyedLoad, merge_loads}
use Rattle.ds2_reading.specs.LoadMeaning.{load_meaning}
use Rattle.ds2_merge.specs.KeyPlaces.{loads_given}
use Rattle.ds2_merge.proofs.KeyStates.{count_fits}
use Rattle.ds2_merge.proofs.NextMerge.{ready_behind, given_is, no_load, none_given}
use Rattle.ds2_merge.proofs.next_load.next_load.Goals as goal

pub load_of_key-load-requires : goal.load_of_key-load-requires
load_of_key-load-requires c = c.in_ok-key.ensures.0

pub behind_load-requires-clause-given : goal.behind_load-requires-clause-given
behind_load-requires-clause-given c = let here = c.in_ok-key.ensures.0 in here.given

pub behind_load-requires-clause-room : goal.behind_load-requires-clause-room
behind_load-requires-clause-room c =
    let here = c.in_ok-key.ensures.0 in count_fits c.args.rows.now here.tables c.args.place.now.place c.in_ok-key.key here.entered

pub returns-clause-load : goal.returns-clause-load
returns-clause-load c =
    let input = c.args.rows.now in
    c.load_of_key-load.ensures
    ∙ ap (λ n. option_map (λ (l : KeyedLoad). l.load) (slice_get (merge_loads input.descending input.tables) n)) (sym c.in_ok-key.ensures.1)

pub returns-clause-given : goal.returns-clause-given
returns-clause-given c = ap loads_given c.behind_load.ensures ∙ given_is c.args.rows.now c.args.place.now c.in_ok-key.key c.in_ok-key.ensures

pub returns-clause-place : goal.returns-clause-place
returns-clause-place c = rw c.behind_load.ensures (ready_behind c.args.rows.now c.args.place.now.place c.in_ok-key.key c.in_ok-key.ensures.0)

pub returns-in_err-key-clause-load : goal.returns-in_err-key-clause-load
returns-in_err-key-clause-load c =
    ap (option_map (load_meaning (length c.args.rows.now.tables) (length c.args.rows.now.descending))) c.from_residual.ensures
    ∙ no_load c.args.rows.now c.args.place.now c.requires c.in_err-key.ensures

pub returns-in_err-key-clause-given : goal.returns-in_err-key-clause-given
returns-in_err-key-clause-given c = none_given c.args.rows.now c.args.place.now c.requires c.in_err-key.ensures
