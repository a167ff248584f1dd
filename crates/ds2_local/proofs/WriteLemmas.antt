-- The earliest of the places at which deeds write.
use Rattle.std.proofs.Common.{◌≡◌, ◌<◌, ◌≤◌, ◌⊎◌, inl, inr, ℕ, ◌+◌, Bool, true, false, true≢false, List, [], ◌∷◌, ◌++◌, drop, Option, Some, None, refl, sym, ap, ◌∙◌, arith}
use Rattle.std.specs.Prelude.{◌&&◌, ◌==◌, nat_lt, if◌then◌else◌}
use Rattle.std.proofs.lemmas.Bool.{cases_lt, cases_order, or_cases, or_parts, and_parts, ltb-true, eqb-true, lt-ltb, eq-eqb}
use Rattle.ds2_base.specs.declared.place.Place.{Place}
use Rattle.ds2_program_code.specs.PlacedProgram.{number_of_location}
use Rattle.ds2_locality.specs.Deeds.{Deed, Mention, MentionObject, Change, CallOf, WriteAt}
use Rattle.ds2_locality.specs.Verdict.{stands_before, earlier_place, first_write}
use Rattle.ds2_deeds.specs.declared.deed.NumberedDeed.{NumberedDeed}
use Rattle.ds2_deeds.specs.declared.deed.NumberedDeed.TheVariants as deed_by
use Rattle.ds2_deeds.specs.NamedMethods.{number_among_methods}
use Rattle.ds2_deeds.specs.NumberedDeeds.{ProgramNumbers, deed_if_numbered, numbered_deeds}
use Rattle.ds2_local.specs.Verdicts.{earlier_of_places, place_written, first_write_numbered}

-- ---- by numbers

module _ (n : ProgramNumbers) where
  mention_writes : (o : Option ℕ) (deeds : List NumberedDeed) → first_write_numbered (deed_if_numbered (λ k. deed_by.Mention k) o ++ deeds) ≡ first_write_numbered deeds
  mention_writes None deeds = refl
  mention_writes (Some k) deeds = refl

  change_writes : (o : Option ℕ) (deeds : List NumberedDeed) → first_write_numbered (deed_if_numbered (λ k. deed_by.Change k) o ++ deeds) ≡ first_write_numbered deeds
  change_writes None deeds = refl
  change_writes (Some k) deeds = refl

  call_writes : (o : Option ℕ) (deeds : List NumberedDeed) → first_write_numbered (deed_if_numbered (λ k. deed_by.Call k) o ++ deeds) ≡ first_write_numbered deeds
  call_writes None deeds = refl
  call_writes (Some k) deeds = refl

  -- the earliest place at which deeds write is found by numbers
  pub write_numbered : (deeds : List Deed) → first_write_numbered (numbered_deeds n deeds) ≡ first_write deeds
  write_numbered [] = refl
  write_numbered (Mention at ∷ deeds) = mention_writes (number_of_location n.locations at) (numbered_deeds n deeds) ∙ write_numbered deeds
  write_numbered (MentionObject at ∷ deeds) = mention_writes (number_of_location n.locations at) (numbered_deeds n deeds) ∙ write_numbered deeds
  write_numbered (Change at ∷ deeds) = change_writes (number_of_location n.locations at) (numbered_deeds n deeds) ∙ write_numbered deeds
  write_numbered (CallOf m ∷ deeds) = call_writes (number_among_methods n.methods m) (numbered_deeds n deeds) ∙ write_numbered deeds
  write_numbered (WriteAt place ∷ deeds) = ap (λ o. Some (earlier_place place o)) (write_numbered deeds)

-- ---- the order of places

-- one place stands before another one
abbrev IsBefore : Place → Place → Type 0
IsBefore a b = (a.line < b.line) ⊎ ((a.line ≡ b.line) × (a.column < b.column))

is_before : (a b : Place) → stands_before a b ≡ true → IsBefore a b
is_before a b e = by_line (or_cases (nat_lt a.line b.line) (a.line == b.line && nat_lt a.column b.column) e)
  where
    by_line : (nat_lt a.line b.line ≡ true) ⊎ ((a.line == b.line && nat_lt a.column b.column) ≡ true) → IsBefore a b
    by_line (inl f) = inl (ltb-true a.line b.line f)
    by_line (inr f) = let parts = and_parts (a.line == b.line) (nat_lt a.column b.column) f in inr (eqb-true a.line b.line parts.0, ltb-true a.column b.column parts.1)

not_before : (a b : Place) → stands_before a b ≡ false → IsBefore a b → ⊥
not_before a b e (inl f) = true≢false (sym (lt-ltb a.line b.line f) ∙ (or_parts (nat_lt a.line b.line) (a.line == b.line && nat_lt a.column b.column) e).0)
not_before a b e (inr f) =
    let parts = or_parts (nat_lt a.line b.line) (a.line == b.line && nat_lt a.column b.column) e in
    true≢false (sym (ap (λ x. x && nat_lt a.column b.column) (eq-eqb a.line b.line f.0) ∙ lt-ltb a.column b.column f.1) ∙ parts.1)

before_next : (a b c : Place) → IsBefore a b → IsBefore b c → IsBefore a c
before_next a b c (inl e) (inl f) = inl (omega (arith, e, f))
before_next a b c (inl e) (inr f) = let same = f.0 in inl (omega (arith, e, same))
before_next a b c (inr e) (inl f) = let same = e.0 in inl (omega (arith, same, f))
before_next a b c (inr e) (inr f) = let p = e.1 in let q = f.1 in inr (e.0 ∙ f.0, omega (arith, p, q))

-- of two places that are told apart by none, one stands not after the other
before_either : (a b c : Place) → IsBefore a c → (IsBefore a b) ⊎ (IsBefore b c)
before_either a b c (inl e) = by_lines (cases_lt a.line b.line)
  where
    by_lines : (a.line < b.line) ⊎ (b.line ≤ a.line) → (IsBefore a b) ⊎ (IsBefore b c)
    by_lines (inl f) = inl (inl f)
    by_lines (inr f) = inr (inl (omega (arith, e, f)))
before_either a b c (inr e) = by_lines (cases_order a.line b.line)
  where
    by_columns : a.line ≡ b.line → (a.column < b.column) ⊎ (b.column ≤ a.column) → (IsBefore a b) ⊎ (IsBefore b c)
    by_columns same (inl f) = inl (inr (same, f))
    by_columns same (inr f) = let less = e.1 in inr (inr (sym same ∙ e.0, omega (arith, less, f)))

    by_lines : (a.line ≡ b.line) ⊎ ((a.line < b.line) ⊎ (b.line < a.line)) → (IsBefore a b) ⊎ (IsBefore b c)
    by_lines (inl f) = by_columns f (cases_lt a.column b.column)
    by_lines (inr (inl f)) = inl (inl f)
    by_lines (inr (inr f)) = let same = e.0 in inr (inl (omega (arith, same, f)))

before_by : (a b : Place) (t : Bool) → stands_before a b ≡ t → IsBefore a b → t ≡ true
before_by a b true e h = refl
before_by a b false e h = absurd (not_before a b e h)

not_by : (a b : Place) (t : Bool) → stands_before a b ≡ t → (IsBefore a b → ⊥) → t ≡ false
not_by a b true e h = absurd (h (is_before a b e))
not_by a b false e h = refl

-- ---- the earliest of several

one_before : (a b : Place) (t : Bool) → stands_before b a ≡ t → earlier_place a (Some b) ≡ (if t then b else a)
one_before a b t e = ap (λ (x : Bool). if x then b else a) e

three : (a b c : Place) (p q : Bool) → stands_before b a ≡ p → stands_before c b ≡ q → earlier_place (earlier_place a (Some b)) (Some c) ≡ earlier_place a (Some (earlier_place b (Some c)))
three a b c true true e f =
    let last : stands_before c a ≡ true = before_by c a (stands_before c a) refl (before_next c b a (is_before c b f) (is_before b a e)) in
    ap (λ x. earlier_place x (Some c)) (one_before a b true e) ∙ one_before b c true f ∙ sym (one_before a c true last) ∙ ap (λ x. earlier_place a (Some x)) (sym (one_before b c true f))
three a b c true false e f =
    ap (λ x. earlier_place x (Some c)) (one_before a b true e) ∙ one_before b c false f ∙ sym (one_before a b true e) ∙ ap (λ x. earlier_place a (Some x)) (sym (one_before b c false f))
three a b c false true e f = ap (λ x. earlier_place x (Some c)) (one_before a b false e) ∙ ap (λ x. earlier_place a (Some x)) (sym (one_before b c true f))
three a b c false false e f =
    let last : stands_before c a ≡ false = not_by c a (stands_before c a) refl (λ h. by_either (before_either c b a h)) in
    ap (λ x. earlier_place x (Some c)) (one_before a b false e) ∙ one_before a c false last ∙ sym (one_before a b false e) ∙ ap (λ x. earlier_place a (Some x)) (sym (one_before b c false f))
  where
    by_either : (IsBefore c b) ⊎ (IsBefore b a) → ⊥
    by_either (inl h) = not_before c b f h
    by_either (inr h) = not_before b a e h

earlier_next : (x y z : Option Place) → earlier_of_places (earlier_of_places x y) z ≡ earlier_of_places x (earlier_of_places y z)
earlier_next None y z = refl
earlier_next (Some a) None None = refl
earlier_next (Some a) None (Some c) = refl
earlier_next (Some a) (Some b) None = refl
earlier_next (Some a) (Some b) (Some c) = ap (λ p. Some p) (three a b c (stands_before b a) (stands_before c b) refl refl)

-- one deed more has been looked at
pub write_next : (deeds : List NumberedDeed) (i : ℕ) (deed : NumberedDeed) (found next : Option Place) → drop i deeds ≡ deed ∷ drop (i + 1) deeds → next ≡ earlier_of_places found (place_written deed)
    → earlier_of_places found (first_write_numbered (drop i deeds)) ≡ first_write_numbered deeds → earlier_of_places next (first_write_numbered (drop (i + 1) deeds)) ≡ first_write_numbered deeds
write_next deeds i deed found next is e before =
    ap (λ o. earlier_of_places o (first_write_numbered (drop (i + 1) deeds))) e ∙ earlier_next found (place_written deed) (first_write_numbered (drop (i + 1) deeds))
    ∙ ap (λ l. earlier_of_places found (first_write_numbered l)) (sym is) ∙ before

pub all_written : (found : Option Place) → earlier_of_places found None ≡ found
all_written None = refl
all_written (Some place) = refl
