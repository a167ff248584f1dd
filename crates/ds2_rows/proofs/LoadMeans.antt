-- What the load of a row means.
use Rattle.std.proofs.Common.{◌≡◌, ℕ, ◌+◌, ◌^◌, ◌<◌, ◌||◌, nat_eq, nat_lt, map, length, take, set, sym, ap, ◌∙◌}
use Rattle.std.specs.Prelude.{replicate, slice_get, Some}
use Rattle.std.specs.List.{range_with_len}
use Rattle.std.specs.Option.{option_map}
use Rattle.ds2_table.specs.Loads.{InputRow, KeyedLoad, flagged_load, set_load, set_loads}
use Rattle.ds2_reading.specs.declared.load.Load.{Load as LoadInCode}
use Rattle.ds2_reading.specs.declared.table_row.TableRow.{TableRow}
use Rattle.ds2_reading.specs.KeyOrder.{InputKeys, row_in}
use Rattle.ds2_reading.specs.LoadMeaning.{row_or_none, bits_of, flags_behind, load_meaning}
use Rattle.ds2_reading.specs.Places.{item_before, all_rows, common_before}
use Rattle.ds2_reading.proofs.Bits.{row_alone}
use Rattle.ds2_reading.proofs.PlaceFlags.{flags_first, flags_last, fresh}
use Rattle.ds2_rows.specs.SetPlaces.{IsReady}
use Rattle.ds2_rows.proofs.SetLoads.{load_at, present_is}

-- a load that reads the row at a place alone, with the flags of this place
pub load_means : (input : InputKeys) (place : ℕ) (ready : IsReady input place) (row : TableRow) (m first last : ℕ) (l : LoadInCode)
    → Some (row_in input.tables row) ≡ slice_get (all_rows input.descending input.tables) place → row.row + 1 < 2 ^ 64 → m ≡ length input.descending
    → first ≡ common_before input place → last ≡ common_before input (place + 1)
    → l.rows ≡ set (replicate 16 18446744073709551615) row.table row.row
    → l.is_fresh ≡ (nat_eq place 0 || nat_lt first m)
    → bits_of m l.first ≡ flags_behind m first
    → bits_of m l.last ≡ flags_behind m last
    → bits_of (length input.tables) l.present ≡ map (λ other. nat_eq row.table other) (range_with_len 0 (length input.tables))
    → Some (load_meaning (length input.tables) (length input.descending) l)
    ≡ option_map (λ (k : KeyedLoad). k.load) (slice_get (set_loads input.descending input.tables) place)
load_means input place ready row m first last l here room bys f g rows is-fresh first-bits last-bits present =
    let count = length input.tables in
    let all = all_rows input.descending input.tables in
    let this = row_in input.tables row in
    let key = λ (r : InputRow). r.key in
    let read = ap (λ rs. map row_or_none (take count rs)) rows ∙ row_alone count row.table row.row ready.few_tables room in
    let there = present ∙ sym (present_is count row.table row.row) in
    let new = is-fresh ∙ (λ i. nat_eq place 0 || nat_lt (f i) (bys i)) ∙ sym (fresh input ready.keys place this (sym here)) in
    let first-is = ap (λ n. bits_of n l.first) (sym bys) ∙ first-bits ∙ (λ i. flags_behind (bys i) (f i)) ∙ flags_first input ready.keys place this (sym here) in
    let last-is = ap (λ n. bits_of n l.last) (sym bys) ∙ last-bits ∙ (λ i. flags_behind (bys i) (g i)) ∙ flags_last input ready.keys place this (sym here) in
    let load : load_meaning count (length input.descending) l
    ≡ (flagged_load (option_map key (item_before all place)) (option_map key (slice_get all (place + 1))) (set_load count this)).load =
    λ i. record { rows = read i; is_fresh = new i; first = first-is i; last = last-is i; present = there i } in
    ap Some load
    ∙ sym (ap (option_map (λ (k : KeyedLoad). k.load))
    (load_at input.descending input.tables place
    ∙ ap (option_map (λ (r : InputRow). flagged_load (option_map key (item_before all place)) (option_map key (slice_get all (place + 1))) (set_load count r))) (sym here)))
