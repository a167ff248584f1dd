-- Loads with their flags, by their numbers.
use Rattle.std.proofs.Common.{◌≡◌, ℕ, zero, suc, ◌+◌, List, [], ◌∷◌, map, length, drop, refl, sym, ap, ◌∙◌, arith}
use Rattle.std.specs.Prelude.{slice_get, Option, Some, None}
use Rattle.std.specs.Option.{option_map}
use Rattle.ds2_value.specs.declared.value.Value.{Value}
use Rattle.ds2_table.specs.Loads.{KeyedLoad, next_key, flagged_load, flagged}
use Rattle.ds2_reading.specs.Places.{item_before}

-- the key of the load before, behind a load with this key
before_key : Option (List Value) → List KeyedLoad → ℕ → Option (List Value)
before_key previous loads zero = previous
before_key previous loads (suc k) = option_map (λ (l : KeyedLoad). l.key) (slice_get loads k)

before_step : (l : KeyedLoad) (loads : List KeyedLoad) (k : ℕ) → before_key (Some l.key) loads k ≡ option_map (λ (m : KeyedLoad). m.key) (slice_get (l ∷ loads) k)
unfolding before_key
before_step l loads zero = refl
before_step l loads (suc k) = refl

flagged_get : (previous : Option (List Value)) (loads : List KeyedLoad) (k : ℕ)
    → slice_get (flagged previous loads) k ≡ option_map (flagged_load (before_key previous loads k) (next_key (drop (k + 1) loads))) (slice_get loads k)
unfolding before_key
flagged_get previous [] k = refl
flagged_get previous (l ∷ loads) zero = refl
flagged_get previous (l ∷ loads) (suc k) =
    let e : suc k + 1 ≡ suc (k + 1) = omega arith in
    flagged_get (Some l.key) loads k ∙ (λ i. option_map (flagged_load (before_step l loads k i) (next_key (drop (sym e i) (l ∷ loads)))) (slice_get loads k))

next_is : (loads : List KeyedLoad) (k : ℕ) → next_key (drop k loads) ≡ option_map (λ (l : KeyedLoad). l.key) (slice_get loads k)
next_is [] zero = refl
next_is [] (suc k) = refl
next_is (l ∷ loads) zero = refl
next_is (l ∷ loads) (suc k) = next_is loads k

before_is : (loads : List KeyedLoad) (k : ℕ) → before_key None loads k ≡ option_map (λ (l : KeyedLoad). l.key) (item_before loads k)
unfolding before_key
before_is loads zero = refl
before_is loads (suc k) = refl

-- a load with its flags is the load between its neighbours
pub flagged_at : (loads : List KeyedLoad) (k : ℕ)
    → slice_get (flagged None loads) k
    ≡ option_map (flagged_load (option_map (λ (l : KeyedLoad). l.key) (item_before loads k)) (option_map (λ (l : KeyedLoad). l.key) (slice_get loads (k + 1)))) (slice_get loads k)
flagged_at loads k = flagged_get None loads k ∙ (λ i. option_map (flagged_load (before_is loads k i) (next_is loads (k + 1) i)) (slice_get loads k))

pub flagged_length : (previous : Option (List Value)) (loads : List KeyedLoad) → length (flagged previous loads) ≡ length loads
flagged_length previous [] = refl
flagged_length previous (l ∷ loads) = ap suc (flagged_length (Some l.key) loads)

pub flagged_keys : (previous : Option (List Value)) (loads : List KeyedLoad) → map (λ (l : KeyedLoad). l.key) (flagged previous loads) ≡ map (λ (l : KeyedLoad). l.key) loads
flagged_keys previous [] = refl
flagged_keys previous (l ∷ loads) = ap (λ r. l.key ∷ r) (flagged_keys (Some l.key) loads)
