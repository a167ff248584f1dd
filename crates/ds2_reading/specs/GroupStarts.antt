-- Where groups begin among loads in BY order.
use Rattle.std.specs.Prelude.{ℕ, zero, suc, ◌+◌, Bool, true, false, not, if◌then◌else◌, List, [], ◌∷◌, map, take, slice_get, Option, Some, None}
use Rattle.std.specs.Option.{option_map, option_map_or}
use Rattle.ds2_value.specs.Order.{same_row}
use Rattle.ds2_value.specs.declared.value.Value.{Value}
use Rattle.ds2_table.specs.Loads.{InputRow, KeyedLoad}
use Rattle.ds2_reading.specs.Places.{item_before}

-- whether a load with this key opens a group, at this grain, behind a load with that key, or as the first one
abbrev pub opens_group : ℕ → Option (List Value) → List Value → Bool
opens_group zero previous key = true
opens_group (suc p) None key = true
opens_group (suc p) (Some other) key = not (same_row (take (suc p) other) (take (suc p) key))

-- the numbers of the loads that open groups, of loads with these keys, the first of which has this number and stands behind a
-- load with that key, or is the first one
abbrev pub group_openings : ℕ → ℕ → Option (List Value) → List (List Value) → List ℕ
group_openings p number previous [] = []
group_openings p number previous (key ∷ keys) =
    let rest = group_openings p (number + 1) (Some key) keys in if opens_group p previous key then number ∷ rest else rest

-- the keys of loads
abbrev pub keys_of_loads : List KeyedLoad → List (List Value)
keys_of_loads loads = map (λ (l : KeyedLoad). l.key) loads

-- whether the row at a place of these rows opens a group
abbrev pub opens_group_at : ℕ → List InputRow → ℕ → Bool
opens_group_at p rows place =
    option_map_or (λ (row : InputRow). opens_group p (option_map (λ (r : InputRow). r.key) (item_before rows place)) row.key) (slice_get rows place) false
