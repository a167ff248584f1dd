-- The text of rows of texts is a text, and begins with no byte order mark.
use Rattle.std.proofs.Common.{◌≡◌, ◌≢◌, ◌<◌, ◌≤◌, ◌==◌, ◌∷◌, ◌++◌, [], ℕ, suc, List, Bool, true, false, length, get_or, refl, sym, ap, ◌∙◌, arith, IsUtf8, inl, inr, append_assoc, lit<}
use Rattle.std.specs.Prelude.{if◌then◌else◌, ◌&&◌}
use Rattle.std.specs.List.{AllByRecursion}
use Rattle.std.proofs.Math.Utf8.{scalar, scalars, encode, encodes, low_scalar}
use Rattle.std.proofs.lemmas.Bool.{ne_eqb, cases_lt, eqb-true, and_parts}
use Rattle.std.proofs.lemmas.List.{append-nil}
use Rattle.std.proofs.lemmas.Str.{IsUtf8-append, IsUtf8-nil, IsUtf8-encode, encode_ascii, inside_one, encode_same}
use Rattle.csv.specs.Reading.{strip_bom, is_bom}
use Rattle.csv.specs.Writing.{default_writer, escaped, field_text, fields_text, needs_quotes, row_body, row_text, is_blank}
use Rattle.csv.proofs.WriteFacts.{escaped-append}
use Rattle.ds2_csv.specs.Records.{Rows, text_of_rows}

-- the bytes of a character that is no ASCII are none either
abbrev AllHigh : List ℕ → Type 0
AllHigh bs = AllByRecursion (λ b. 128 ≤ b) bs

high-list : (bs : List ℕ) → ((k : ℕ) → k < length bs → 128 ≤ get_or bs k 0) → AllHigh bs
high-list [] h = tt
high-list (b ∷ bs) h = (h 0 (omega arith), high-list bs (λ k l. h (suc k) (omega arith)))

char-high : (c : ℕ) → 128 ≤ c → AllHigh (encode c)
char-high c h = high-list (encode c) (λ k below. elim (cases_lt (get_or (encode c) k 0) 128) [
  | inl low ↦ absurd (omega (arith, inside_one c [] (encode c) k (sym (append-nil _)) below low))
  | inr high ↦ high
])

pub one-text : (c : ℕ) → c < 128 → IsUtf8 (c ∷ [])
one-text c h = rw (← (encode_ascii c h)) (IsUtf8-encode c (low_scalar c (omega arith)))

-- a text with its quotes doubled
high-same : (bs : List ℕ) → AllHigh bs → escaped default_writer bs ≡ bs
unfolding escaped
high-same [] h = refl
high-same (b ∷ bs) h = rw (ne_eqb b 34 (λ e. absurd (omega arith))) (ap (λ (t : List ℕ). b ∷ t) (high-same bs h.1))

low-text : (c : ℕ) → c < 128 → IsUtf8 (escaped default_writer (c ∷ []))
unfolding escaped
low-text c h = by (c == 34)
  where
    by : (b : Bool) → IsUtf8 (if b then 34 ∷ c ∷ [] else c ∷ [])
    by true = IsUtf8-append (34 ∷ []) (c ∷ []) (one-text 34 (omega arith)) (one-text c h)
    by false = one-text c h

escaped-text : (cs : List ℕ) → scalars cs ≡ true → IsUtf8 (escaped default_writer (encodes cs))
unfolding escaped
escaped-text [] ok = IsUtf8-nil
escaped-text (c ∷ cs) ok =
    let e = and_parts (scalar c) (scalars cs) ok in
    rw (escaped-append default_writer (encode c) (encodes cs)) (IsUtf8-append _ _ (here e.0) (escaped-text cs e.1))
  where
    here : scalar c ≡ true → IsUtf8 (escaped default_writer (encode c))
    here one = elim (cases_lt c 128) [
      | inl low ↦ rw (encode_ascii c low) (low-text c low)
      | inr high ↦ rw (high-same (encode c) (char-high c high)) (IsUtf8-encode c one)
    ]

-- the text of a cell, of a row and of rows
cell-text : (x : List ℕ) → IsUtf8 x → IsUtf8 (field_text default_writer x)
cell-text x u = by (needs_quotes default_writer x)
  where
    mark : IsUtf8 (34 ∷ [])
    mark = one-text 34 (omega arith)

    by : (b : Bool) → IsUtf8 (if b then 34 ∷ (escaped default_writer x ++ (34 ∷ [])) else x)
    by true = IsUtf8-append (34 ∷ []) _ mark (IsUtf8-append _ _ (rw (← u.1.1) (escaped-text u.0 u.1.0)) mark)
    by false = u

more-text : (r : List (List ℕ)) → AllByRecursion IsUtf8 r → IsUtf8 (fields_text default_writer r)
unfolding fields_text
more-text [] a = IsUtf8-nil
more-text (x ∷ xs) a = IsUtf8-append (44 ∷ []) _ (one-text 44 (omega arith)) (IsUtf8-append _ _ (cell-text x a.0) (more-text xs a.1))

body-text : (r : List (List ℕ)) → AllByRecursion IsUtf8 r → IsUtf8 (row_body default_writer r)
body-text [] a = IsUtf8-nil
body-text (x ∷ xs) a = IsUtf8-append _ _ (cell-text x a.0) (more-text xs a.1)

line-text : (r : List (List ℕ)) → AllByRecursion IsUtf8 r → IsUtf8 (row_text default_writer r)
line-text r a = IsUtf8-append _ _ (body-text r a) (by (is_blank default_writer r))
  where
    mark : IsUtf8 (34 ∷ [])
    mark = one-text 34 (omega arith)

    by : (b : Bool) → IsUtf8 ((if b then 34 ∷ 34 ∷ [] else []) ++ (10 ∷ []))
    by true = IsUtf8-append (34 ∷ []) _ mark (IsUtf8-append (34 ∷ []) _ mark (one-text 10 (omega arith)))
    by false = one-text 10 (omega arith)

pub rows-text : (rows : Rows) → AllByRecursion (AllByRecursion IsUtf8) rows → IsUtf8 (text_of_rows rows)
unfolding text_of_rows
rows-text [] a = IsUtf8-nil
rows-text (r ∷ rs) a = IsUtf8-append _ _ (line-text r a.0) (rows-text rs a.1)

-- a text whose first character is no byte order mark loses nothing
mark-bytes : (a b c : ℕ) (rest : List ℕ) → is_bom a b c ≡ true → a ∷ b ∷ c ∷ rest ≡ encode 65279 ++ rest
unfolding encode
mark-bytes a b c rest e =
    let front = and_parts ((a == 239) && (b == 187)) (c == 191) e in
    let both = and_parts (a == 239) (b == 187) front.0 in
    let x = eqb-true a 239 both.0 in
    let y = eqb-true b 187 both.1 in
    let z = eqb-true c 191 front.1 in
    rw (x, y, z) refl

pub keeps-start : (c : ℕ) (xs r : List ℕ) → xs ≡ encode c ++ r → c ≢ 65279 → strip_bom xs ≡ xs
unfolding strip_bom
keeps-start c [] r h k = refl
keeps-start c (a ∷ []) r h k = refl
keeps-start c (a ∷ b ∷ []) r h k = refl
keeps-start c (a ∷ b ∷ d ∷ rest) r h k = by (is_bom a b d) refl
  where
    by : (z : Bool) → is_bom a b d ≡ z → (if z then rest else a ∷ b ∷ d ∷ rest) ≡ a ∷ b ∷ d ∷ rest
    by true e = absurd (k (encode_same c 65279 r rest (sym h ∙ mark-bytes a b d rest e)).0)
    by false e = refl

-- a text that begins with a cell that begins with a character, or with a quote
starts : (b : Bool) (c : ℕ) (cell more inside cells tail rows : List ℕ) → cell ≡ encode c ++ more → c ≢ 65279
    → strip_bom ((((if b then 34 ∷ inside else cell) ++ cells) ++ tail) ++ rows) ≡ (((if b then 34 ∷ inside else cell) ++ cells) ++ tail) ++ rows
starts true c cell more inside cells tail rows e other =
    let rest : List ℕ = ((inside ++ cells) ++ tail) ++ rows in
    keeps-start 34 (34 ∷ rest) rest (ap (λ (t : List ℕ). t ++ rest) (sym (encode_ascii 34 (lit< tt)))) (λ n. absurd (omega arith))
starts false c cell more inside cells tail rows e other =
    keeps-start c (((cell ++ cells) ++ tail) ++ rows) (more ++ (cells ++ (tail ++ rows))) (ap (λ (t : List ℕ). ((t ++ cells) ++ tail) ++ rows) e ∙ simp append_assoc) other

pub no-mark : (c : ℕ) (cell more : List ℕ) (cells : List (List ℕ)) (rows : Rows) → cell ≡ encode c ++ more → c ≢ 65279
    → strip_bom (text_of_rows ((cell ∷ cells) ∷ rows)) ≡ text_of_rows ((cell ∷ cells) ∷ rows)
unfolding text_of_rows
no-mark c cell more cells rows e other =
    starts (needs_quotes default_writer cell) c cell more (escaped default_writer cell ++ (34 ∷ [])) (fields_text default_writer cells)
    ((if is_blank default_writer (cell ∷ cells) then 34 ∷ 34 ∷ [] else []) ++ (10 ∷ [])) (text_of_rows rows) e other
