use Rattle.std.proofs.Common.{◌≡◌, ℕ, ◌+◌, max, ◌||◌, nat_eq, nat_lt, length, map, ap, subst, sym, ◌∙◌}
use Rattle.std.specs.Prelude.{get_or, slice_get, Some}
use Rattle.std.specs.List.{range_with_len}
use Rattle.std.specs.Option.{option_map}
use Rattle.ds2_table.specs.Loads.{KeyedLoad, input_rows, matches}
use Rattle.ds2_reading.specs.LoadMeaning.{bits_of, flags_behind}
use Rattle.ds2_reading.specs.Places.{item_before}
use Rattle.ds2_merge.specs.KeyPlaces.{key_at, loads_of_all}
use Rattle.ds2_merge.proofs.LoadMeans.{common_within, behind_within, present_is, load_means, load_is, flags_before, flags_behind_it, new_before}
use Rattle.ds2_merge.proofs.key_load.load_of_key.Goals as goal

pub common_behind-last-requires : goal.common_behind-last-requires
common_behind-last-requires c = c.requires.given

pub all_but-requires-clause-few : goal.all_but-requires-clause-few
all_but-requires-clause-few c = common_within c.args.rows.now c.args.place.now.start c.args.key.now.given _ _ c.common_before-first.ensures c.bys-bys.ensures

pub all_but-requires-2-clause-few : goal.all_but-requires-2-clause-few
all_but-requires-2-clause-few c = behind_within c.args.rows.now c.args.key.now _ _ c.common_behind-last.ensures c.bys-bys.ensures

pub returns : goal.returns
returns c =
    let input = c.args.rows.now in
    let place = c.args.place.now in
    let key = c.args.key.now in
    let n = length input.tables in
    let m = length input.descending in
    let value = key_at input place.start in
    let found = matches n value (input_rows 0 input.tables) in
    let load_key = option_map (λ (k : KeyedLoad). k.key) in
    let all = loads_of_all input in
    let P : ℕ → Type 0 = λ k. bits_of k c.tables_between.result ≡ map (λ t. nat_lt (get_or key.begins t 0) (get_or key.ends t 0)) (range_with_len 0 k) in
    ap Some
    (load_means n _ m value found key.given (max place.loads key.given) _ (load_key (item_before all (place.loads + key.given))) (load_key (slice_get all (place.loads + key.given + 1))) _ _
    c.bys-bys.ensures c.rows_of_load.ensures (c.opens_key.ensures ∙ ap (λ k. nat_eq k 0 || nat_lt c.common_before-first.result c.bys-bys.result) c.max.ensures)
    (new_before input place key c.requires ∙ ap (λ k. nat_eq (max place.loads key.given) 0 || nat_lt k m) (sym c.common_before-first.ensures))
    c.all_but.ensures (ap (flags_behind m) c.common_before-first.ensures ∙ flags_before input place key c.requires)
    c.all_but-2.ensures (ap (flags_behind m) c.common_behind-last.ensures ∙ flags_behind_it input place key c.requires)
    (subst P c.tables.ensures c.tables_between.ensures ∙ present_is input place key c.requires))
    ∙ load_is input place key c.requires
