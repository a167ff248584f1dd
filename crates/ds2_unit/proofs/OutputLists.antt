-- The rows of outputs, one more row at a time.
use Rattle.std.proofs.Common.{◌≡◌, ℕ, zero, suc, ◌+◌, ◌<◌, ◌≤◌, nat_eq, Bool, true, false, List, [], ◌∷◌, ◌++◌, length, refl, sym, ap, subst, arith, if◌then◌else◌}
use Rattle.std.specs.Prelude.{map, filter, slice_get, slice_set, Some}
use Rattle.std.proofs.lemmas.Bool.{eq-eqb, eqb-true}
use Rattle.ds2_value.specs.Row.{Row}
use Rattle.ds2_value.specs.Run.{Written}
use Rattle.ds2_unit.specs.Outputs.{rows_of_output, HaveRows, RowTaken}

-- ---- one row more

kept_by : (b : Bool) (w : Written) (rows : List Written) → map (λ (x : Written). x.row) (if b then w ∷ rows else rows) ≡ (if b then w.row ∷ map (λ (x : Written). x.row) rows else map (λ (x : Written). x.row) rows)
kept_by true w rows = refl
kept_by false w rows = refl

one_written : (number : ℕ) (written : List Written) (w : Written) (b : Bool) → nat_eq w.output number ≡ b
    → rows_of_output number (written ++ w ∷ []) ≡ (if b then rows_of_output number written ++ w.row ∷ [] else rows_of_output number written)
one_written number [] w true is = ap (λ t. map (λ (x : Written). x.row) (if t then w ∷ [] else [])) is
one_written number [] w false is = ap (λ t. map (λ (x : Written). x.row) (if t then w ∷ [] else [])) is
one_written number (x ∷ written) w b is = by_first (nat_eq x.output number) b (one_written number written w b is)
  where
    by_first : (t c : Bool) → rows_of_output number (written ++ w ∷ []) ≡ (if c then rows_of_output number written ++ w.row ∷ [] else rows_of_output number written)
        → map (λ (y : Written). y.row) (if t then x ∷ filter (λ (y : Written). nat_eq y.output number) (written ++ w ∷ []) else filter (λ (y : Written). nat_eq y.output number) (written ++ w ∷ []))
        ≡ (if c then map (λ (y : Written). y.row) (if t then x ∷ filter (λ (y : Written). nat_eq y.output number) written else filter (λ (y : Written). nat_eq y.output number) written) ++ w.row ∷ []
        else map (λ (y : Written). y.row) (if t then x ∷ filter (λ (y : Written). nat_eq y.output number) written else filter (λ (y : Written). nat_eq y.output number) written))
    by_first true true h = ap (λ z. x.row ∷ z) h
    by_first true false h = ap (λ z. x.row ∷ z) h
    by_first false true h = h
    by_first false false h = h

other_number : (a b : ℕ) → a < b → nat_eq a b ≡ false
other_number a b less = by_test (nat_eq a b) refl
  where
    by_test : (t : Bool) → nat_eq a b ≡ t → nat_eq a b ≡ false
    by_test false is = is
    by_test true is = absurd (omega (arith, less, eqb-true a b is))

later_number : (a b : ℕ) → b < a → nat_eq a b ≡ false
later_number a b less = by_test (nat_eq a b) refl
  where
    by_test : (t : Bool) → nat_eq a b ≡ t → nat_eq a b ≡ false
    by_test false is = is
    by_test true is = absurd (omega (arith, less, eqb-true a b is))

module _ {R : Type 0} (has_rows : R → R → List Row → Type 0) (written : List Written) (w : Written) where
  -- sinks of later outputs take nothing
  none_taken : (number : ℕ) (froms nows : List R) → w.output < number → HaveRows has_rows written number froms nows → HaveRows has_rows (written ++ w ∷ []) number froms nows
  none_taken number [] [] less h = tt
  none_taken number [] (now ∷ nows) less h = absurd h
  none_taken number (from ∷ froms) [] less h = absurd h
  none_taken number (from ∷ froms) (now ∷ nows) less h =
      let P : List Row → Type 0 = λ rows. has_rows from now rows in
      (subst P (sym (one_written number written w false (other_number w.output number less))) h.0, none_taken (number + 1) froms nows (omega (arith, less)) h.1)

  -- nor do those of an output that is not there
  pub none_there : (number : ℕ) (froms nows : List R) → number + length nows ≤ w.output → HaveRows has_rows written number froms nows → HaveRows has_rows (written ++ w ∷ []) number froms nows
  none_there number [] [] past h = tt
  none_there number [] (now ∷ nows) past h = absurd h
  none_there number (from ∷ froms) [] past h = absurd h
  none_there number (from ∷ froms) (now ∷ nows) past h =
      let P : List Row → Type 0 = λ rows. has_rows from now rows in
      (subst P (sym (one_written number written w false (later_number w.output number (omega (arith, past))))) h.0, none_there (number + 1) froms nows (omega (arith, past)) h.1)

  -- the sink of this output takes the row
  pub taken_there : (i number : ℕ) (froms nows : List R) (before after : R) → number + i ≡ w.output → slice_get nows i ≡ Some before → RowTaken has_rows before after w.row
      → HaveRows has_rows written number froms nows → HaveRows has_rows (written ++ w ∷ []) number froms (slice_set nows i after)
  taken_there i number [] [] before after is there taken h = tt
  taken_there i number [] (now ∷ nows) before after is there taken h = absurd h
  taken_there i number (from ∷ froms) [] before after is there taken h = absurd h
  taken_there zero number (from ∷ froms) (now ∷ nows) before after is there taken h =
      let same : now ≡ before = cc in
      let here : nat_eq w.output number ≡ true = eq-eqb w.output number (omega (arith, is)) in
      let P : List Row → Type 0 = λ rows. has_rows from after rows in
      let Q : R → Type 0 = λ r. has_rows from r (rows_of_output number written) in
      (subst P (sym (one_written number written w true here)) (taken from (rows_of_output number written) (subst Q same h.0)), none_taken (number + 1) froms nows (omega (arith, is)) h.1)
  taken_there (suc i) number (from ∷ froms) (now ∷ nows) before after is there taken h =
      let P : List Row → Type 0 = λ rows. has_rows from now rows in
      (subst P (sym (one_written number written w false (later_number w.output number (omega (arith, is))))) h.0, taken_there i (number + 1) froms nows before after (omega (arith, is)) there taken h.1)
