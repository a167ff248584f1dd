-- The next load of `merge` behind a place.
use Rattle.std.proofs.Common.{◌≡◌, ℕ, zero, suc, ◌+◌, ◌≤◌, min, nat_lt, Bool, true, false, length, refl, sym, ap, ◌∙◌, subst, true≢false, arith}
use Rattle.std.specs.Prelude.{slice_get, if◌then◌else◌, Option, Some, None}
use Rattle.std.specs.Option.{option_map}
use Rattle.std.proofs.lemmas.Bool.Decides.{Decides-ltb}
use Rattle.std.proofs.lemmas.Option.{slice_get_past}
use Rattle.ds2_table.specs.Loads.{KeyedLoad, merge_loads}
use Rattle.ds2_reading.specs.KeyOrder.{InputKeys}
use Rattle.ds2_reading.proofs.Flagged.{flagged_length}
use Rattle.ds2_merge.specs.KeyPlaces.{key_place_behind, between_keys, behind_load_of_key, loads_given, loads_of_all, IsKeyEntered, IsAmongLoads, IsNextKey, IsWithinKey, IsReadyToMerge, IsCurrentKey}
use Rattle.ds2_merge.specs.declared.key_place.KeyPlace.{KeyPlace}
use Rattle.ds2_merge.specs.declared.key_place.KeyRows.{KeyRows}
use Rattle.ds2_merge.specs.declared.key_place.MergePlace.{MergePlace}
use Rattle.ds2_merge.proofs.KeyStates.{behind_key, loads_fit, none_left}

-- ---- the key whose load comes next

pub current_some : (input : InputKeys) (m : MergePlace) (key : KeyRows) → IsReadyToMerge input m → m.key ≡ Some key → IsCurrentKey input m (Some key)
current_some input m key h e =
    let P : Option KeyRows → Type 0 = IsWithinKey input m.place in
    let within : IsWithinKey input m.place (Some key) = subst P e h.key in
    (record { tables = h.tables; entered = within.0; given = within.1 }, ap (λ k. loads_given (record { place = m.place; key = k })) e)

pub current_next : (input : InputKeys) (m : MergePlace) (next : Option KeyRows) → IsReadyToMerge input m → m.key ≡ None → IsNextKey input m.place next → IsCurrentKey input m next
current_next input m None h e n =
    let z : m.place.loads + 0 ≡ m.place.loads = omega arith in (n, ap (λ k. loads_given (record { place = m.place; key = k })) e ∙ z)
current_next input m (Some key) h e n =
    (record { tables = h.tables; entered = n.0; given = n.2 }, ap (λ k. loads_given (record { place = m.place; key = k })) e ∙ ap (λ g. m.place.loads + g) (sym n.1))

-- ---- behind the next load

-- one load more of the same key
same_key : (input : InputKeys) (place : KeyPlace) (key : KeyRows) (g : ℕ) → IsKeyEntered input place key → IsKeyEntered input place (record key { given = g })
same_key input place key g h = record {
  here = h.here;
  end = h.end;
  run = h.run;
  tables = h.tables;
  count = h.count;
  some = h.some;
}

not_less : (a b : ℕ) → nat_lt a b ≡ false → b ≤ a
not_less a zero e = omega arith
not_less zero (suc b) e = let d = Decides-ltb 0 (suc b) in absurd (true≢false (sym (d.1 (omega arith)) ∙ e))
not_less (suc a) (suc b) e =
    let lower : b ≤ a = by (λ k. not_less a b k) (nat_lt a b) refl in omega (arith, lower)
  where
    by : (nat_lt a b ≡ false → b ≤ a) → (t : Bool) → nat_lt a b ≡ t → b ≤ a
    by again true k = let d = Decides-ltb (suc a) (suc b) in let c = Decides-ltb a b in let l = c.0 k in absurd (true≢false (sym (d.1 (omega (arith, l))) ∙ e))
    by again false k = again k

module _ (input : InputKeys) (place : KeyPlace) (key : KeyRows) (h : IsAmongLoads input place key) where
  abbrev behind_if : Bool → MergePlace
  behind_if b = if b then record { place = place; key = Some (record key { given = key.given + 1 }) } else between_keys (key_place_behind place key)

  pub one_given : loads_given (behind_load_of_key place key) ≡ place.loads + key.given + 1
  one_given = by (nat_lt (key.given + 1) key.count) refl
    where
      by : (b : Bool) → nat_lt (key.given + 1) key.count ≡ b → loads_given (behind_if b) ≡ place.loads + key.given + 1
      by true e = omega arith
      by false e =
          let last = not_less (key.given + 1) key.count e in omega (arith, h.given, last)

  pub ready_behind : IsReadyToMerge input (behind_load_of_key place key)
  ready_behind = by (nat_lt (key.given + 1) key.count) refl
    where
      by : (b : Bool) → nat_lt (key.given + 1) key.count ≡ b → IsReadyToMerge input (behind_if b)
      by true e =
          let d = Decides-ltb (key.given + 1) key.count in
          record { tables = h.tables; place = h.entered.here; key = (same_key input place key (key.given + 1) h.entered, d.0 e) }
      by false e = record { tables = h.tables; place = behind_key input h.tables place key h.entered; key = tt }

  pub within_loads : place.loads + key.given + 1 ≤ length (merge_loads input.descending input.tables)
  within_loads = omega (arith, h.given, loads_fit input h.tables place key h.entered, flagged_length None (loads_of_all input))

pub given_is : (input : InputKeys) (m : MergePlace) (key : KeyRows) → IsCurrentKey input m (Some key)
    → loads_given (behind_load_of_key m.place key) ≡ min (loads_given m + 1) (length (merge_loads input.descending input.tables))
given_is input m key h = omega (arith, one_given input m.place key h.0, within_loads input m.place key h.0, h.1)

-- ---- behind the last load

module _ (input : InputKeys) (m : MergePlace) (h : IsReadyToMerge input m) (none : IsCurrentKey input m None) where
  no_loads_left : length (merge_loads input.descending input.tables) ≡ loads_given m
  no_loads_left = flagged_length None (loads_of_all input) ∙ none_left input m.place h.place none.0 ∙ sym none.1

  pub no_load : None ≡ option_map (λ (l : KeyedLoad). l.load) (slice_get (merge_loads input.descending input.tables) (loads_given m))
  no_load =
      sym (ap (option_map (λ (l : KeyedLoad). l.load)) (slice_get_past (merge_loads input.descending input.tables) (loads_given m) (omega (arith, no_loads_left))))

  pub none_given : loads_given m ≡ min (loads_given m + 1) (length (merge_loads input.descending input.tables))
  none_given = omega (arith, no_loads_left)
