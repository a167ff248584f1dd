-- The cells and the records of a text, one after the other.
use Rattle.std.proofs.Common.{◌≡◌, ◌+◌, ◌<◌, ◌≤◌, ◌==◌, ◌∷◌, ◌++◌, ◌⊎◌, [], ℕ, zero, suc, List, Bool, true, false, Option, Some, None, length, drop, take, refl, sym, ap, inl, inr, ◌∙◌, arith, append_assoc, length-append}
use Rattle.std.specs.Prelude.{not, ◌||◌, map, option_map, if◌then◌else◌}
use Rattle.std.proofs.lemmas.List.{append-nil}
use Rattle.std.proofs.lemmas.Bool.{eqb-true}
use Rattle.csv.specs.Machine.{next_record}
use Rattle.csv.specs.Reading.{default_config}
use Rattle.csv.specs.declared.parser.State.{State}
use Rattle.csv.specs.declared.parser.State.TheVariants as st
use Rattle.csv.proofs.RoundTrip.{start-same, after-quote-same, record-same}
use Rattle.ds2_csv_records.specs.Cells.{ends_cell, ends_line, bare_len, begins_comma, begins_end, begins_quoted, spelled, quoted_len, to_quote, unquoted}
use Rattle.csv.specs.Machine.{Read, step, is_end, fields_after, field_after, after_end, in_field, start_field, start_record, ends_at_end, ends_with}
use Rattle.csv.specs.Reading.{records_from}
use Rattle.csv.specs.declared.parser.Action.{Action}
use Rattle.csv.specs.declared.parser.Action.TheVariants as act
use Rattle.csv.specs.declared.parser.Config.{Config}
use Rattle.csv.specs.declared.parser.Terminator.{Terminator}
use Rattle.csv.specs.declared.parser.Terminator.TheVariants as term
use Rattle.std.specs.List.{prefix_len}
use Rattle.std.proofs.lemmas.List.{take_all}
use Rattle.ds2_csv_records.specs.Reading.{Finished, finished, rest_of, records_left, Holds, IsTaken, IsWithin}
use Rattle.ds2_csv_records.specs.Records.{Rows}
use Rattle.ds2_csv_records.specs.declared.cell.Cell.{Cell}
use Rattle.ds2_csv_records.specs.declared.taken.Taken.{Taken}

-- a byte of a cell without quotes
bare-byte : (cells : List (List ℕ)) (part : List ℕ) (c : ℕ) (cs : List ℕ) → ends_cell c ≡ false → rest_of st.InField cells part (c ∷ cs) ≡ rest_of st.InField cells (part ++ (c ∷ [])) cs
unfolding rest_of next_record
bare-byte cells part c cs e = by (c == 44) refl (c == 13) refl (c == 10) refl e
  where
    by : (x : Bool) → (c == 44) ≡ x → (y : Bool) → (c == 13) ≡ y → (z : Bool) → (c == 10) ≡ z → (x || (y || z)) ≡ false
        → rest_of st.InField cells part (c ∷ cs) ≡ rest_of st.InField cells (part ++ (c ∷ [])) cs
    by true f y g z h k = cc k
    by false f true g z h k = cc k
    by false f false g true h k = cc k
    by false f false g false h k = rw (f, g, h) refl

-- the whole of it
pub bare-run : (cells : List (List ℕ)) (part text : List ℕ) → rest_of st.InField cells part text ≡ rest_of st.InField cells (part ++ take (bare_len text) text) (drop (bare_len text) text)
bare-run cells part [] = ap (λ (p : List ℕ). rest_of st.InField cells p []) (sym (append-nil part))
bare-run cells part (c ∷ cs) = by (ends_cell c) refl (bare-run cells (part ++ (c ∷ [])) cs)
  where
    by : (b : Bool) → ends_cell c ≡ b
        → rest_of st.InField cells (part ++ (c ∷ [])) cs ≡ rest_of st.InField cells ((part ++ (c ∷ [])) ++ take (bare_len cs) cs) (drop (bare_len cs) cs)
        → rest_of st.InField cells part (c ∷ cs)
        ≡ rest_of st.InField cells (part ++ take (if not b then 1 + bare_len cs else 0) (c ∷ cs)) (drop (if not b then 1 + bare_len cs else 0) (c ∷ cs))
    by true e more = ap (λ (p : List ℕ). rest_of st.InField cells p (c ∷ cs)) (sym (append-nil part))
    by false e more =
        let n : 1 + bare_len cs ≡ suc (bare_len cs) = omega arith in
        rw n (bare-byte cells part c cs e ∙ more ∙ ap (λ (p : List ℕ). rest_of st.InField cells p (drop (bare_len cs) cs)) (append_assoc part (c ∷ []) (take (bare_len cs) cs)))

-- a cell that begins with no quote
pub bare-cell : (cells : List (List ℕ)) (text : List ℕ) → begins_quoted text ≡ false → rest_of st.StartField cells [] text ≡ rest_of st.InField cells (take (bare_len text) text) (drop (bare_len text) text)
unfolding rest_of next_record
bare-cell cells text h = by text h ∙ bare-run cells [] text
  where
    by : (t : List ℕ) → begins_quoted t ≡ false → rest_of st.StartField cells [] t ≡ rest_of st.InField cells [] t
    by [] e = refl
    by (c ∷ cs) e = ap (λ o. option_map finished o) (start-same cells [] c cs e)

-- a cell that begins with one
pub quoted-cell : (cells : List (List ℕ)) (text : List ℕ) → begins_quoted text ≡ true → rest_of st.StartField cells [] text ≡ rest_of st.InQuoted cells [] (drop 1 text)
unfolding rest_of next_record
quoted-cell cells [] e = cc e
quoted-cell cells (c ∷ cs) e = rw e refl

-- a byte between quotes, and the quote that may close them
within-byte : (cells : List (List ℕ)) (part : List ℕ) (c : ℕ) (cs : List ℕ) → (c == 34) ≡ false → rest_of st.InQuoted cells part (c ∷ cs) ≡ rest_of st.InQuoted cells (part ++ (c ∷ [])) cs
unfolding rest_of next_record
within-byte cells part c cs e = rw e refl

within-quote : (cells : List (List ℕ)) (part : List ℕ) (c : ℕ) (cs : List ℕ) → (c == 34) ≡ true → rest_of st.InQuoted cells part (c ∷ cs) ≡ rest_of st.AfterQuote cells part cs
unfolding rest_of next_record
within-quote cells part c cs e = rw e refl

after-quote : (cells : List (List ℕ)) (part : List ℕ) (c : ℕ) (cs : List ℕ) → (c == 34) ≡ true → rest_of st.AfterQuote cells part (c ∷ cs) ≡ rest_of st.InQuoted cells (part ++ (34 ∷ [])) cs
unfolding rest_of next_record
after-quote cells part c cs e =
    let k = eqb-true c 34 e in
    rw k refl

after-other : (cells : List (List ℕ)) (part : List ℕ) (c : ℕ) (cs : List ℕ) → (c == 34) ≡ false → rest_of st.AfterQuote cells part (c ∷ cs) ≡ rest_of st.InField cells part (c ∷ cs)
unfolding rest_of
after-other cells part c cs e = ap (λ o. option_map finished o) (after-quote-same cells part c cs e)

-- the state within quotes and behind one
abbrev state_of : Bool → State
state_of true = st.InQuoted
state_of false = st.AfterQuote

-- the whole of a cell with quotes
pub quoted-run : (within : Bool) (cells : List (List ℕ)) (part text : List ℕ)
    → rest_of (state_of within) cells part text ≡ rest_of st.InField cells (part ++ unquoted within (take (quoted_len within text) text)) (drop (quoted_len within text) text)
unfolding quoted_len unquoted rest_of next_record
quoted-run true cells part [] = none cells part
  where
    none : (cs : List (List ℕ)) (p : List ℕ) → rest_of st.InQuoted cs p [] ≡ rest_of st.InField cs (p ++ []) []
    none cs p = rw (append-nil p) refl
quoted-run false cells part [] = none cells part
  where
    none : (cs : List (List ℕ)) (p : List ℕ) → rest_of st.AfterQuote cs p [] ≡ rest_of st.InField cs (p ++ []) []
    none cs p = rw (append-nil p) refl
quoted-run true cells part (c ∷ cs) = by (c == 34) refl (quoted-run false cells part cs) (quoted-run true cells (part ++ (c ∷ [])) cs)
  where
    by : (b : Bool) → (c == 34) ≡ b
        → rest_of st.AfterQuote cells part cs ≡ rest_of st.InField cells (part ++ unquoted false (take (quoted_len false cs) cs)) (drop (quoted_len false cs) cs)
        → rest_of st.InQuoted cells (part ++ (c ∷ [])) cs ≡ rest_of st.InField cells ((part ++ (c ∷ [])) ++ unquoted true (take (quoted_len true cs) cs)) (drop (quoted_len true cs) cs)
        → rest_of st.InQuoted cells part (c ∷ cs)
        ≡ rest_of st.InField cells (part ++ (if b then unquoted false (take (quoted_len (not b) cs) cs) else c ∷ unquoted true (take (quoted_len (not b) cs) cs))) (drop (quoted_len (not b) cs) cs)
    by true e closed open_ = within-quote cells part c cs e ∙ closed
    by false e closed open_ =
        within-byte cells part c cs e ∙ open_
        ∙ ap (λ (p : List ℕ). rest_of st.InField cells p (drop (quoted_len true cs) cs)) (append_assoc part (c ∷ []) (unquoted true (take (quoted_len true cs) cs)))
quoted-run false cells part (c ∷ cs) = by (c == 34) refl (quoted-run true cells (part ++ (34 ∷ [])) cs)
  where
    here : (c == 34) ≡ true → (n : ℕ) → 34 ∷ unquoted true (take n cs) ≡ unquoted false (c ∷ take n cs)
    here e n = rw e refl

    same : (c == 34) ≡ false → (n : ℕ) → take n (c ∷ cs) ≡ unquoted false (take n (c ∷ cs))
    same e zero = refl
    same e (suc n) = rw e refl

    by : (b : Bool) → (c == 34) ≡ b
        → rest_of st.InQuoted cells (part ++ (34 ∷ [])) cs ≡ rest_of st.InField cells ((part ++ (34 ∷ [])) ++ unquoted true (take (quoted_len true cs) cs)) (drop (quoted_len true cs) cs)
        → rest_of st.AfterQuote cells part (c ∷ cs)
        ≡ rest_of st.InField cells (part ++ unquoted false (take (if b then suc (quoted_len true cs) else bare_len (c ∷ cs)) (c ∷ cs))) (drop (if b then suc (quoted_len true cs) else bare_len (c ∷ cs)) (c ∷ cs))
    by true e open_ =
        after-quote cells part c cs e ∙ open_
        ∙ ap (λ (p : List ℕ). rest_of st.InField cells p (drop (quoted_len true cs) cs)) (append_assoc part (34 ∷ []) (unquoted true (take (quoted_len true cs) cs)))
        ∙ ap (λ (p : List ℕ). rest_of st.InField cells (part ++ p) (drop (quoted_len true cs) cs)) (here e (quoted_len true cs))
    by false e open_ =
        after-other cells part c cs e ∙ bare-run cells part (c ∷ cs)
        ∙ ap (λ (p : List ℕ). rest_of st.InField cells (part ++ p) (drop (bare_len (c ∷ cs)) (c ∷ cs))) (same e (bare_len (c ∷ cs)))

-- the end of a cell is no quote
no-quote : (c : ℕ) → ends_cell c ≡ true → (c == 34) ≡ false
no-quote c h = by (c == 44) refl (c == 13) refl h
  where
    by : (x : Bool) → (c == 44) ≡ x → (y : Bool) → (c == 13) ≡ y → (x || (y || (c == 10))) ≡ true → (c == 34) ≡ false
    by true e y f g = let k = eqb-true c 44 e in rw k refl
    by false e true f g = let k = eqb-true c 13 f in rw k refl
    by false e false f g = let k = eqb-true c 10 g in rw k refl

-- a cell with two quotes, at its ends
pub plain-quoted : (cells : List (List ℕ)) (part text : List ℕ) → begins_end (drop 1 (drop (to_quote text) text)) ≡ true
    → rest_of st.InQuoted cells part text ≡ rest_of st.InField cells (part ++ take (to_quote text) text) (drop 1 (drop (to_quote text) text))
unfolding rest_of next_record
plain-quoted cells part [] h = none cells part
  where
    none : (cs : List (List ℕ)) (p : List ℕ) → rest_of st.InQuoted cs p [] ≡ rest_of st.InField cs (p ++ []) []
    none cs p = rw (append-nil p) refl
plain-quoted cells part (c ∷ cs) h = by (c == 34) refl h (plain-quoted cells (part ++ (c ∷ [])) cs)
  where
    closed : (t : List ℕ) → begins_end t ≡ true → rest_of st.AfterQuote cells part t ≡ rest_of st.InField cells part t
    closed [] g = refl
    closed (d ∷ ds) g = after-other cells part d ds (no-quote d g)

    by : (b : Bool) → (c == 34) ≡ b → begins_end (drop 1 (drop (if not b then 1 + to_quote cs else 0) (c ∷ cs))) ≡ true
        → (begins_end (drop 1 (drop (to_quote cs) cs)) ≡ true → rest_of st.InQuoted cells (part ++ (c ∷ [])) cs
        ≡ rest_of st.InField cells ((part ++ (c ∷ [])) ++ take (to_quote cs) cs) (drop 1 (drop (to_quote cs) cs)))
        → rest_of st.InQuoted cells part (c ∷ cs)
        ≡ rest_of st.InField cells (part ++ take (if not b then 1 + to_quote cs else 0) (c ∷ cs)) (drop 1 (drop (if not b then 1 + to_quote cs else 0) (c ∷ cs)))
    by true e g more = within-quote cells part c cs e ∙ closed cs g ∙ ap (λ (p : List ℕ). rest_of st.InField cells p cs) (sym (append-nil part))
    by false e g more =
        let n : 1 + to_quote cs ≡ suc (to_quote cs) = omega arith in
        rw n (within-byte cells part c cs e ∙ more (rw n at g)
        ∙ ap (λ (p : List ℕ). rest_of st.InField cells p (drop 1 (drop (to_quote cs) cs))) (append_assoc part (c ∷ []) (take (to_quote cs) cs)))

-- what follows a cell at its end
pub at-end : (cells : List (List ℕ)) (cell : List ℕ) → rest_of st.InField cells cell [] ≡ Some (cells ++ (cell ∷ []), [])
unfolding rest_of next_record
at-end cells cell = refl

pub at-mark : (cells : List (List ℕ)) (cell behind : List ℕ) → begins_end behind ≡ true → 0 < length behind
    → rest_of st.InField cells cell behind
    ≡ (if begins_comma behind then rest_of st.StartField (cells ++ (cell ∷ [])) [] (drop 1 behind) else Some (cells ++ (cell ∷ []), drop 1 behind))
unfolding rest_of next_record
at-mark cells cell [] h l = absurd (omega arith)
at-mark cells cell (c ∷ cs) h l = by (c == 44) refl (c == 13) refl h
  where
    by : (x : Bool) → (c == 44) ≡ x → (y : Bool) → (c == 13) ≡ y → (x || (y || (c == 10))) ≡ true
        → rest_of st.InField cells cell (c ∷ cs) ≡ (if x then rest_of st.StartField (cells ++ (cell ∷ [])) [] cs else Some (cells ++ (cell ∷ []), cs))
    by true e y f g = let k = eqb-true c 44 e in rw k refl
    by false e true f g = let k = eqb-true c 13 f in rw k refl
    by false e false f g = let k = eqb-true c 10 g in rw k refl

-- ---- records

-- a state between two records
abbrev pub Clean : State → Type 0
Clean s = (s ≡ st.StartRecord) ⊎ (s ≡ st.AfterCr)

-- where an action ends a record, the state after it is between two records
record Good (x : State × Action) : Type 0 where
  pub clean : is_end x.1 ≡ true → Clean x.0

good-if : (b : Bool) (x y : State × Action) → Good x → Good y → Good (if b then x else y)
good-if true x y h k = h
good-if false x y h k = k

skips : (u : State) → Good (u, act.Skip)
skips u = record { clean = λ e. cc e }

copies : (u : State) → Good (u, act.Copy)
copies u = record { clean = λ e. cc e }

ends-field : (u : State) → Good (u, act.EndField)
ends-field u = record { clean = λ e. cc e }

end-clean : (t : Terminator) (c : ℕ) → Clean (after_end t c)
end-clean term.CRLF c = by (c == 13)
  where
    by : (b : Bool) → Clean (if b then st.AfterCr else st.StartRecord)
    by true = inr refl
    by false = inl refl
end-clean (term.Any t) c = inl refl

good-in_field : (cfg : Config) (c : ℕ) → Good (in_field cfg c)
good-in_field cfg c =
    good-if (c == cfg.delimiter) _ _ (ends-field st.StartField) (good-if (ends_with cfg.terminator c) _ _ (record { clean = λ e. end-clean cfg.terminator c }) (copies st.InField))

good-start_field : (cfg : Config) (c : ℕ) → Good (start_field cfg c)
good-start_field cfg c = good-if _ _ _ (skips st.InQuoted) (good-in_field cfg c)

good-start_record : (cfg : Config) (c : ℕ) → Good (start_record cfg c)
good-start_record cfg c = good-if _ _ _ (skips st.StartRecord) (good-if _ _ _ (skips st.InComment) (good-start_field cfg c))

step-good : (cfg : Config) (s : State) (c : ℕ) → Good (step cfg s c)
step-good cfg st.StartRecord c = good-start_record cfg c
step-good cfg st.StartField c = good-start_field cfg c
step-good cfg st.InField c = good-in_field cfg c
step-good cfg st.InQuoted c = good-if _ _ _ (skips st.AfterQuote) (good-if _ _ _ (skips st.InEscape) (copies st.InQuoted))
step-good cfg st.InEscape c = copies st.InQuoted
step-good cfg st.AfterQuote c = good-if _ _ _ (copies st.InQuoted) (good-in_field cfg c)
step-good cfg st.InComment c = good-if _ _ _ (skips st.StartRecord) (skips st.InComment)
step-good cfg st.AfterCr c = good-if _ _ _ (skips st.StartRecord) (good-start_record cfg c)

-- a read leaves no more than there was, in a state between two records
pub read-leaves : (cfg : Config) (s : State) (f : List (List ℕ)) (p xs : List ℕ) (q : Read) → next_record cfg s f p xs ≡ Some q → Clean q.1 × (length q.2 ≤ length xs)
unfolding next_record
read-leaves cfg s f p [] q h = by (ends_at_end s) h
  where
    by : (b : Bool) → (if b then Some (f ++ (p ∷ []), st.StartRecord, []) else None) ≡ Some q → Clean q.1 × (length q.2 ≤ 0)
    by true e =
        let k : (f ++ (p ∷ []), st.StartRecord, []) ≡ q = cc e in
        rw (← k) (inl refl, omega arith)
    by false e = cc e
read-leaves cfg s f p (c ∷ rest) q h = by (is_end (step cfg s c).1) refl h (read-leaves cfg (step cfg s c).0 (fields_after (step cfg s c).1 f p) (field_after (step cfg s c).1 c p) rest q)
  where
    by : (b : Bool) → is_end (step cfg s c).1 ≡ b
        → (if b then Some (fields_after (step cfg s c).1 f p, (step cfg s c).0, rest) else next_record cfg (step cfg s c).0 (fields_after (step cfg s c).1 f p) (field_after (step cfg s c).1 c p) rest) ≡ Some q
        → (next_record cfg (step cfg s c).0 (fields_after (step cfg s c).1 f p) (field_after (step cfg s c).1 c p) rest ≡ Some q → Clean q.1 × (length q.2 ≤ length rest))
        → Clean q.1 × (length q.2 ≤ suc (length rest))
    by true d e more =
        let k : (fields_after (step cfg s c).1 f p, (step cfg s c).0, rest) ≡ q = cc e in
        rw (← k) ((step-good cfg s c).clean d, omega arith)
    by false d e more =
        let k = more e in
        (k.0, omega arith)

-- a read from between two records takes at least a byte
pub read-takes : (cfg : Config) (s : State) (xs : List ℕ) (q : Read) → Clean s → next_record cfg s [] [] xs ≡ Some q → length q.2 < length xs
unfolding next_record
read-takes cfg s [] q (inl k) h = cc (rw k at h)
read-takes cfg s [] q (inr k) h = cc (rw k at h)
read-takes cfg s (c ∷ rest) q k h = by (is_end (step cfg s c).1) h
  where
    by : (b : Bool)
        → (if b then Some (fields_after (step cfg s c).1 [] [], (step cfg s c).0, rest) else next_record cfg (step cfg s c).0 (fields_after (step cfg s c).1 [] []) (field_after (step cfg s c).1 c []) rest) ≡ Some q
        → length q.2 < suc (length rest)
    by true e =
        let k : (fields_after (step cfg s c).1 [] [], (step cfg s c).0, rest) ≡ q = cc e in
        rw (← k) (omega arith)
    by false e =
        let k = read-leaves cfg (step cfg s c).0 (fields_after (step cfg s c).1 [] []) (field_after (step cfg s c).1 c []) rest q e in
        omega arith

-- any count of records above the number of bytes gives all of them
enough : (cfg : Config) (n m : ℕ) (s : State) (xs : List ℕ) → Clean s → length xs < n → length xs < m → records_from cfg n s xs ≡ records_from cfg m s xs
unfolding records_from
enough cfg zero m s xs k h l = absurd (omega arith)
enough cfg (suc n) zero s xs k h l = absurd (omega arith)
enough cfg (suc n) (suc m) s xs k h l = by (next_record cfg s [] [] xs) refl (enough cfg n m)
  where
    by : (o : Option Read) → next_record cfg s [] [] xs ≡ o
        → ((s2 : State) (ys : List ℕ) → Clean s2 → length ys < n → length ys < m → records_from cfg n s2 ys ≡ records_from cfg m s2 ys)
        → records_from cfg (suc n) s xs ≡ records_from cfg (suc m) s xs
    by None e more = rw e refl
    by (Some p) e more =
        let shorter = read-takes cfg s xs p k e in
        let clean = (read-leaves cfg s [] [] xs p e).0 in
        rw e (ap (λ (t : Rows). p.0 ∷ t) (more p.1 p.2 clean (omega arith) (omega arith)))

-- the records of a text are the next one and those after it
records-next : (cfg : Config) (s : State) (xs : List ℕ) (p : Read) → Clean s → next_record cfg s [] [] xs ≡ Some p
    → records_from cfg (length xs + 1) s xs ≡ p.0 ∷ records_from cfg (length p.2 + 1) p.1 p.2
unfolding records_from
records-next cfg s xs p k e =
    let n : length xs + 1 ≡ suc (length xs) = omega arith in
    let shorter = read-takes cfg s xs p k e in
    let clean = (read-leaves cfg s [] [] xs p e).0 in
    rw (n, e) (ap (λ (t : Rows). p.0 ∷ t) (enough cfg (length xs) (length p.2 + 1) p.1 p.2 clean shorter (omega arith)))

records-none : (cfg : Config) (s : State) (xs : List ℕ) → next_record cfg s [] [] xs ≡ None → records_from cfg (length xs + 1) s xs ≡ []
unfolding records_from
records-none cfg s xs e = let n : length xs + 1 ≡ suc (length xs) = omega arith in rw (n, e) refl

-- behind a carriage return a text goes on as at its start
after-cr : (cells : List (List ℕ)) (part text : List ℕ) → next_record default_config st.AfterCr cells part text ≡ next_record default_config st.StartRecord cells part text
unfolding next_record
after-cr cells part [] = refl
after-cr cells part (c ∷ cs) = by (c == 10) refl
  where
    by : (b : Bool) → (c == 10) ≡ b → next_record default_config st.AfterCr cells part (c ∷ cs) ≡ next_record default_config st.StartRecord cells part (c ∷ cs)
    by true e = let k = eqb-true c 10 e in rw k refl
    by false e = rw e refl

left-of : (s : State) (n : ℕ) (text : List ℕ) → Clean s → records_from default_config n s text ≡ records_from default_config n st.StartRecord text
unfolding records_from
left-of s zero text k = refl
left-of s (suc n) text (inl e) = rw e refl
left-of s (suc n) text (inr e) = rw (e, after-cr [] [] text) refl

-- ends of lines in front are passed over
line-skipped : (c : ℕ) (cs : List ℕ) → ends_line c ≡ true → next_record default_config st.StartRecord [] [] (c ∷ cs) ≡ next_record default_config st.StartRecord [] [] cs
unfolding next_record
line-skipped c cs h = by (c == 13) refl h
  where
    by : (x : Bool) → (c == 13) ≡ x → (x || (c == 10)) ≡ true → next_record default_config st.StartRecord [] [] (c ∷ cs) ≡ next_record default_config st.StartRecord [] [] cs
    by true e g = let k = eqb-true c 13 e in rw k refl
    by false e g = let k = eqb-true c 10 g in rw k refl

lines-skipped : (text : List ℕ) → next_record default_config st.StartRecord [] [] text ≡ next_record default_config st.StartRecord [] [] (drop (prefix_len ends_line text) text)
lines-skipped [] = refl
lines-skipped (c ∷ cs) = by (ends_line c) refl (lines-skipped cs)
  where
    by : (b : Bool) → ends_line c ≡ b → next_record default_config st.StartRecord [] [] cs ≡ next_record default_config st.StartRecord [] [] (drop (prefix_len ends_line cs) cs)
        → next_record default_config st.StartRecord [] [] (c ∷ cs) ≡ next_record default_config st.StartRecord [] [] (drop (if b then 1 + prefix_len ends_line cs else 0) (c ∷ cs))
    by true e more = let n : 1 + prefix_len ends_line cs ≡ suc (prefix_len ends_line cs) = omega arith in rw n (line-skipped c cs e ∙ more)
    by false e more = refl

-- what stands there begins a cell, or there is no more
starts-cell : (text : List ℕ) → 0 < length (drop (prefix_len ends_line text) text)
    → next_record default_config st.StartRecord [] [] (drop (prefix_len ends_line text) text) ≡ next_record default_config st.StartField [] [] (drop (prefix_len ends_line text) text)
starts-cell [] l = absurd (omega arith)
starts-cell (c ∷ cs) l = by (ends_line c) refl (starts-cell cs) l
  where
    parts : (x y : Bool) → (x || y) ≡ false → (x ≡ false) × (y ≡ false)
    parts true y e = cc e
    parts false y e = (refl, e)

    by : (b : Bool) → ends_line c ≡ b
        → (0 < length (drop (prefix_len ends_line cs) cs)
        → next_record default_config st.StartRecord [] [] (drop (prefix_len ends_line cs) cs) ≡ next_record default_config st.StartField [] [] (drop (prefix_len ends_line cs) cs))
        → 0 < length (drop (if b then 1 + prefix_len ends_line cs else 0) (c ∷ cs))
        → next_record default_config st.StartRecord [] [] (drop (if b then 1 + prefix_len ends_line cs else 0) (c ∷ cs))
        ≡ next_record default_config st.StartField [] [] (drop (if b then 1 + prefix_len ends_line cs else 0) (c ∷ cs))
    by true e more m = let n : 1 + prefix_len ends_line cs ≡ suc (prefix_len ends_line cs) = omega arith in rw n (more (rw n at m))
    by false e more m = let p = parts (c == 13) (c == 10) e in record-same [] [] c cs p.0 p.1

pub no-records : (text : List ℕ) → length (drop (prefix_len ends_line text) text) ≤ 0 → records_left text ≡ []
unfolding records_left next_record
no-records text l = records-none default_config st.StartRecord text (lines-skipped text ∙ none (drop (prefix_len ends_line text) text) l)
  where
    none : (t : List ℕ) → length t ≤ 0 → next_record default_config st.StartRecord [] [] t ≡ None
    none [] h = refl
    none (c ∷ cs) h = absurd (omega arith)

-- a record that was read to its end
pub one-record : (text rest : List ℕ) (cells : List (List ℕ)) → 0 < length (drop (prefix_len ends_line text) text)
    → rest_of st.StartField [] [] (drop (prefix_len ends_line text) text) ≡ Some (cells, rest) → records_left text ≡ cells ∷ records_left rest
unfolding records_left rest_of
one-record text rest cells some read = by (next_record default_config st.StartField [] [] (drop (prefix_len ends_line text) text)) refl read
  where
    by : (o : Option Read) → next_record default_config st.StartField [] [] (drop (prefix_len ends_line text) text) ≡ o → option_map finished o ≡ Some (cells, rest)
        → records_from default_config (length text + 1) st.StartRecord text ≡ cells ∷ records_from default_config (length rest + 1) st.StartRecord rest
    by None e f = cc f
    by (Some p) e f =
        let g : (p.0, p.2) ≡ (cells, rest) = cc f in
        let whole : next_record default_config st.StartRecord [] [] text ≡ Some p = lines-skipped text ∙ starts-cell text some ∙ e in
        let clean = (read-leaves default_config st.StartRecord [] [] text p whole).0 in
        records-next default_config st.StartRecord text p (inl refl) whole
        ∙ ap (λ (t : Rows). p.0 ∷ t) (left-of p.1 (length p.2 + 1) p.2 clean)
        ∙ ap (λ (q : Finished). q.0 ∷ records_from default_config (length q.1 + 1) st.StartRecord q.1) g

-- ---- the cells that are kept

take-short : (cells : List (List ℕ)) (cell : List ℕ) (most : ℕ) → length cells < most → take most (cells ++ (cell ∷ [])) ≡ take most cells ++ (cell ∷ [])
take-short cells cell most l =
    take_all most (cells ++ (cell ∷ [])) (omega (arith, length-append cells (cell ∷ []))) ∙ ap (λ (t : List (List ℕ)). t ++ (cell ∷ [])) (sym (take_all most cells (omega arith)))

take-long : (cells more : List (List ℕ)) (most : ℕ) → most ≤ length cells → take most (cells ++ more) ≡ take most cells
take-long cells more zero l = refl
take-long [] more (suc most) l = absurd (omega arith)
take-long (c ∷ cs) more (suc most) l = ap (λ (t : List (List ℕ)). c ∷ t) (take-long cs more most (omega arith))

map-more : (cs : List Cell) (c : Cell) → map spelled (cs ++ (c ∷ [])) ≡ map spelled cs ++ (spelled c ∷ [])
map-more [] c = refl
map-more (x ∷ xs) c = ap (λ (t : List (List ℕ)). spelled x ∷ t) (map-more xs c)

pub holds-none : (most : ℕ) → Holds (record { cells = []; count = 0 }) most []
holds-none zero = record { kept = refl; count = refl }
holds-none (suc most) = record { kept = refl; count = refl }

pub holds-kept : (kept new : List Cell) (count : ℕ) (most : ℕ) (cell : Cell) (cells : List (List ℕ)) → count < most → new ≡ kept ++ (cell ∷ []) → Holds (record { cells = kept; count = count }) most cells
    → Holds (record { cells = new; count = count + 1 }) most (cells ++ (spelled cell ∷ []))
holds-kept kept new count most cell cells l is h =
    record {
      kept = ap (λ (t : List Cell). map spelled t) is ∙ map-more kept cell ∙ ap (λ (t : List (List ℕ)). t ++ (spelled cell ∷ [])) h.kept
          ∙ sym (take-short cells (spelled cell) most (let k = h.count in omega arith));
      count = let k = h.count in omega (arith, length-append cells (spelled cell ∷ []));
    }

pub holds-counted : (kept : List Cell) (count : ℕ) (most : ℕ) (cell : Cell) (cells : List (List ℕ)) → most ≤ count → Holds (record { cells = kept; count = count }) most cells
    → Holds (record { cells = kept; count = count + 1 }) most (cells ++ (spelled cell ∷ []))
holds-counted kept count most cell cells l h =
    record {
      kept = h.kept ∙ sym (take-long cells (spelled cell ∷ []) most (let k = h.count in omega arith));
      count = let k = h.count in omega (arith, length-append cells (spelled cell ∷ []));
    }

-- ---- for the functions that take a cell

pub some-left : (text : List ℕ) (b : Bool) → b ≡ (length text == 0) → b ≡ false → 0 < length text
some-left [] b e f = cc (sym e ∙ f)
some-left (c ∷ cs) b e f = omega arith

pub none-left : (text : List ℕ) (b : Bool) → b ≡ (length text == 0) → b ≡ true → text ≡ []
none-left [] b e f = refl
none-left (c ∷ cs) b e f = let g = eqb-true (length (c ∷ cs)) 0 (sym e ∙ f) in absurd (omega (arith, g))

pub ended-here : (cells : List (List ℕ)) (cell behind : List ℕ) (b : Bool) → b ≡ (length behind == 0) → b ≡ true → rest_of st.InField cells cell behind ≡ Some (cells ++ (cell ∷ []), behind)
ended-here cells cell behind b e f = let k = none-left behind b e f in rw k (at-end cells cell)

pub ended-mark : (cells : List (List ℕ)) (cell behind bytes rest : List ℕ) (b : Bool) → begins_end behind ≡ true → 0 < length behind → bytes ≡ behind → b ≡ begins_comma bytes → rest ≡ drop 1 behind
    → rest_of st.InField cells cell behind ≡ (if b then rest_of st.StartField (cells ++ (cell ∷ [])) [] rest else Some (cells ++ (cell ∷ []), rest))
ended-mark cells cell behind bytes rest b h l same is gone = rw (is, same, gone) (at-mark cells cell behind h l)

pub bare-taken : (cells : List (List ℕ)) (text front back : List ℕ) (n : ℕ) → begins_quoted text ≡ false → n ≡ bare_len text → front ≡ take n text → back ≡ drop n text
    → rest_of st.StartField cells [] text ≡ rest_of st.InField cells front back
bare-taken cells text front back n h is f b = rw (f, b, is) (bare-cell cells text h)

pub quote-open : (cells : List (List ℕ)) (text front back : List ℕ) (n : ℕ) → n ≡ to_quote text → front ≡ take n text → back ≡ drop n text → back ≡ []
    → rest_of st.InQuoted cells [] text ≡ rest_of st.InField cells front back
quote-open cells text front back n is f b none =
    let gone : drop (to_quote text) text ≡ [] = ap (λ k. drop k text) (sym is) ∙ sym b ∙ none in
    let same : drop 1 (drop (to_quote text) text) ≡ drop (to_quote text) text = ap (λ (t : List ℕ). drop 1 t) gone ∙ sym gone in
    let end : begins_end (drop 1 (drop (to_quote text) text)) ≡ true = ap (λ (t : List ℕ). begins_end (drop 1 t)) gone in
    rw (f, b, is) (plain-quoted cells [] text end ∙ ap (λ (t : List ℕ). rest_of st.InField cells (take (to_quote text) text) t) same)

pub quote-closed : (cells : List (List ℕ)) (text front back after : List ℕ) (n : ℕ) → n ≡ to_quote text → front ≡ take n text → back ≡ drop n text → after ≡ drop 1 back → begins_end after ≡ true
    → rest_of st.InQuoted cells [] text ≡ rest_of st.InField cells front after
quote-closed cells text front back after n is f b a end =
    let where_ : after ≡ drop 1 (drop (to_quote text) text) = a ∙ ap (λ (t : List ℕ). drop 1 t) (b ∙ ap (λ k. drop k text) is) in
    rw (f, is) (plain-quoted cells [] text (ap begins_end (sym where_) ∙ end) ∙ ap (λ (t : List ℕ). rest_of st.InField cells (take (to_quote text) text) t) (sym where_))

pub quote-inside : (cells : List (List ℕ)) (text front back : List ℕ) (n : ℕ) → n ≡ quoted_len true text → front ≡ take n text → back ≡ drop n text
    → rest_of st.InQuoted cells [] text ≡ rest_of st.InField cells (unquoted true front) back
quote-inside cells text front back n is f b = rw (f, b, is) (quoted-run true cells [] text)

-- ---- for the loop over the cells of a record

pub holds-empty : (kept : List Cell) (most : ℕ) → kept ≡ take 0 kept → kept ≡ [] → Holds (record { cells = kept; count = 0 }) most []
holds-empty kept most e f = rw f (holds-none most)

pub no-more : (text start : List ℕ) (b : Bool) → start ≡ drop (prefix_len ends_line text) text → b ≡ (length start == 0) → b ≡ true → records_left text ≡ []
no-more text start b is e f =
    let none = none-left start b e f in
    no-records text (let g : length (drop (prefix_len ends_line text) text) ≡ 0 = ap (λ (t : List ℕ). length t) (sym is ∙ none) in omega (arith, g))

pub some-more : (text start : List ℕ) (b : Bool) → start ≡ drop (prefix_len ends_line text) text → b ≡ (length start == 0) → b ≡ false → 0 < length (drop (prefix_len ends_line text) text)
some-more text start b is e f = let s = some-left start b e f in rw is at s

-- ---- cells within a record

pub within-first : (text start : List ℕ) (b : Bool) (taken : Taken) → start ≡ drop (prefix_len ends_line text) text → b ≡ (length start == 0) → b ≡ false → IsTaken start taken → IsWithin text [] taken
within-first text start b taken is e f took whole done =
    one-record text whole.1 whole.0 (some-more text start b is e f) (ap (λ (t : List ℕ). rest_of st.StartField [] [] t) (sym is) ∙ took [] ∙ done)

pub within-next : (text : List ℕ) (cells : List (List ℕ)) (taken next : Taken) → taken.more ≡ true → IsTaken taken.rest.now next → IsWithin text cells taken
    → IsWithin text (cells ++ (spelled taken.cell ∷ [])) next
within-next text cells taken next more took within whole done = within whole (rw more (took (cells ++ (spelled taken.cell ∷ [])) ∙ done))

pub within-last : (text : List ℕ) (cells : List (List ℕ)) (taken : Taken) → taken.more ≡ false → IsWithin text cells taken
    → records_left text ≡ (cells ++ (spelled taken.cell ∷ [])) ∷ records_left taken.rest.now
within-last text cells taken last within = within (cells ++ (spelled taken.cell ∷ []), taken.rest.now) (rw last refl)

pub still-left : (a b : Bool) (old new : ℕ) → a ≡ true → (b ≡ true → new < old) → (if b then suc new else 0) < (if a then suc old else 0)
still-left a true old new e f = rw e (let k = f refl in omega (arith, k))
still-left a false old new e f = rw e (omega arith)
