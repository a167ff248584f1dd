-- Cells and rows that are written one after the other.
use Rattle.std.proofs.Common.{◌==◌, suc, ◌+◌, Bool, true, false, length-append, ◌≡◌, ◌≤◌, ◌<◌, ℕ, List, [], ◌∷◌, ◌++◌, ◌-◌, length, get_or, take, drop, map, refl, sym, ap, ◌∙◌, arith, append_assoc}
use Rattle.std.proofs.lemmas.List.{append-nil, take_more}
use Rattle.std.proofs.lemmas.Bool.{eq-eqb, ne_eqb}
use Rattle.csv.specs.Writing.{default_writer, field_text, fields_text, is_blank, row_body, row_text}
use Rattle.ds2_csv_cells.specs.CellText.{cell_text}
use Rattle.ds2_csv_records.specs.Records.{field_of, record_end, separator}
use Rattle.ds2_value.specs.Row.{Row}
use Rattle.ds2_value.specs.declared.schema.Column.{Column}
use Rattle.ds2_value.specs.declared.value.Value.{Value}
use Rattle.ds2_csv.specs.Records.{text_of_rows}
use Rattle.ds2_csv.specs.Text.{heading_text, cells_text, text}

-- what follows the first item
abbrev pub after : {X : Type 0} → List X → List X
after xs = take (length xs - 1) (drop 1 xs)

pub take_all : {X : Type 0} (xs : List X) → take (length xs) xs ≡ xs
take_all [] = refl
take_all {X} (x ∷ xs) = ap (λ (t : List X). x ∷ t) (take_all xs)

pub after_cons : {X : Type 0} (x : X) (xs : List X) → after (x ∷ xs) ≡ xs
after_cons {X} x xs =
    let e : length (x ∷ xs) - 1 ≡ length xs = omega arith in
    ap (λ n. take n xs) e ∙ take_all xs

-- ---- cells of a record, one after the other

-- a list with an item has a length
no-zero : (n : ℕ) → (suc n == 0) ≡ false
no-zero n = ne_eqb (suc n) 0 (λ e. absurd (omega (arith, e)))

fields-more : (cells : List (List ℕ)) (cell : List ℕ) → fields_text default_writer (cells ++ (cell ∷ [])) ≡ fields_text default_writer cells ++ (44 ∷ field_of cell)
unfolding fields_text field_of
fields-more [] cell = ap (λ (t : List ℕ). 44 ∷ t) (append-nil (field_text default_writer cell))
fields-more (c ∷ cs) cell =
    ap (λ (t : List ℕ). 44 ∷ (field_text default_writer c ++ t)) (fields-more cs cell)
    ∙ ap (λ (t : List ℕ). 44 ∷ t) (sym (append_assoc (field_text default_writer c) (fields_text default_writer cs) (44 ∷ field_text default_writer cell)))

body-more : (cells : List (List ℕ)) (cell : List ℕ) → row_body default_writer (cells ++ (cell ∷ [])) ≡ row_body default_writer cells ++ (separator (length cells == 0) ++ field_of cell)
unfolding fields_text field_of
body-more [] cell = append-nil (field_text default_writer cell)
body-more (c ∷ cs) cell =
    ap (λ (t : List ℕ). field_text default_writer c ++ t) (fields-more cs cell)
    ∙ sym (append_assoc (field_text default_writer c) (fields_text default_writer cs) (44 ∷ field_text default_writer cell))
    ∙ ap (λ b. (field_text default_writer c ++ fields_text default_writer cs) ++ (separator b ++ field_text default_writer cell)) (sym (no-zero (length cs)))

-- these cells of a record were written, and those are to come
pub record Written (base out : List ℕ) (first : Bool) (left whole : List (List ℕ)) : Type 0 where
  pub done : List (List ℕ)
  pub out_is : out ≡ base ++ row_body default_writer done
  pub whole_is : done ++ left ≡ whole
  pub first_is : first ≡ (length done == 0)

pub none-written : (base : List ℕ) (whole : List (List ℕ)) → Written base base true whole whole
none-written base whole = record { done = []; out_is = sym (append-nil base); whole_is = refl; first_is = refl }

pub one-written : (base out one new : List ℕ) (first : Bool) (cell : List ℕ) (left before whole : List (List ℕ)) → before ≡ cell ∷ left → one ≡ out ++ separator first → new ≡ one ++ field_of cell
    → Written base out first before whole → Written base new false left whole
one-written base out one new first cell left before whole is comma text w =
    record {
      done = w.done ++ (cell ∷ []);
      out_is = text ∙ ap (λ (t : List ℕ). t ++ field_of cell) (comma ∙ ap (λ (t : List ℕ). t ++ separator first) w.out_is)
          ∙ append_assoc (base ++ row_body default_writer w.done) (separator first) (field_of cell)
          ∙ append_assoc base (row_body default_writer w.done) (separator first ++ field_of cell)
          ∙ ap (λ b. base ++ (row_body default_writer w.done ++ (separator b ++ field_of cell))) w.first_is
          ∙ ap (λ (t : List ℕ). base ++ t) (sym (body-more w.done cell));
      whole_is = append_assoc w.done (cell ∷ []) left ∙ ap (λ (t : List (List ℕ)). w.done ++ t) (sym is) ∙ w.whole_is;
      first_is = some w.done;
    }
  where
    some : (cs : List (List ℕ)) → false ≡ (length (cs ++ (cell ∷ [])) == 0)
    some [] = refl
    some (c ∷ cs) = sym (no-zero (length (cs ++ (cell ∷ []))))

pub all-written : (base out : List ℕ) (first : Bool) (left whole : List (List ℕ)) → left ≡ [] → Written base out first left whole → out ≡ base ++ row_body default_writer whole
all-written base out first left whole none w =
    w.out_is ∙ ap (λ (t : List (List ℕ)). base ++ row_body default_writer t) (sym (append-nil w.done) ∙ ap (λ (t : List (List ℕ)). w.done ++ t) (sym none) ∙ w.whole_is)

-- the cells that are left, each behind a comma, with the first of them and without
pub field-taken : (out comma new whole cell : List ℕ) (left before : List (List ℕ)) → before ≡ cell ∷ left → comma ≡ out ++ separator false → new ≡ comma ++ field_of cell
    → out ++ fields_text default_writer before ≡ whole → new ++ fields_text default_writer left ≡ whole
unfolding fields_text field_of
field-taken out comma new whole cell left before is mark text so_far =
    ap (λ (t : List ℕ). t ++ fields_text default_writer left) (text ∙ ap (λ (t : List ℕ). t ++ field_of cell) mark)
    ∙ append_assoc (out ++ (44 ∷ [])) (field_of cell) (fields_text default_writer left)
    ∙ append_assoc out (44 ∷ []) (field_of cell ++ fields_text default_writer left)
    ∙ ap (λ (t : List (List ℕ)). out ++ fields_text default_writer t) (sym is) ∙ so_far

pub fields-ended : (out whole : List ℕ) (left : List (List ℕ)) → left ≡ [] → out ++ fields_text default_writer left ≡ whole → out ≡ whole
unfolding fields_text
fields-ended out whole left none so_far = sym (append-nil out) ∙ ap (λ (t : List (List ℕ)). out ++ fields_text default_writer t) (sym none) ∙ so_far

-- a first cell and those behind it
pub first-and-later : (old one new cell : List ℕ) (left whole : List (List ℕ)) → whole ≡ cell ∷ left → one ≡ old ++ field_of cell → new ≡ one ++ fields_text default_writer left → new ≡ old ++ row_body default_writer whole
unfolding field_of
first-and-later old one new cell left whole is first later =
    later ∙ ap (λ (t : List ℕ). t ++ fields_text default_writer left) first ∙ append_assoc old (field_of cell) (fields_text default_writer left)
    ∙ ap (λ (t : List (List ℕ)). old ++ row_body default_writer t) (sym is)

pub no-cells : (old : List ℕ) (whole : List (List ℕ)) → whole ≡ [] → old ≡ old ++ row_body default_writer whole
no-cells old whole none = sym (append-nil old) ∙ ap (λ (t : List (List ℕ)). old ++ row_body default_writer t) (sym none)

-- the cells that are left, with the first of them
pub header-left : (cs : List Column) (c : Column) → 1 ≤ length cs → c ≡ get_or cs 0 c → map heading_text cs ≡ heading_text c ∷ map heading_text (after cs)
header-left [] c some first = absurd (omega arith)
header-left (x ∷ cs) c some first = ap (λ (t : Column). heading_text t ∷ map heading_text cs) (sym first) ∙ ap (λ (t : List Column). heading_text c ∷ map heading_text t) (sym (after_cons x cs))

pub header-none : (cs : List Column) → length cs < 1 → map heading_text cs ≡ []
header-none [] none = refl
header-none (c ∷ cs) none = absurd (omega arith)

pub row-left : (cs : List Column) (c : Column) (vs : List Value) (v : Value) → 1 ≤ length cs → c ≡ get_or cs 0 c → 1 ≤ length vs → v ≡ get_or vs 0 v
    → cells_text cs vs ≡ cell_text c.ty v ∷ cells_text (after cs) (after vs)
unfolding cells_text
row-left [] c vs v some first more value = absurd (omega arith)
row-left (x ∷ cs) c [] v some first more value = absurd (omega arith)
row-left (x ∷ cs) c (w ∷ vs) v some first more value =
    ap (λ (t : Column). cell_text t.ty w ∷ cells_text cs vs) (sym first) ∙ ap (λ (t : Value). cell_text c.ty t ∷ cells_text cs vs) (sym value)
    ∙ ap (λ (t : List Column). cell_text c.ty v ∷ cells_text t vs) (sym (after_cons x cs)) ∙ ap (λ (t : List Value). cell_text c.ty v ∷ cells_text (after (x ∷ cs)) t) (sym (after_cons w vs))

pub row-none : (cs : List Column) (vs : List Value) → length cs < 1 → cells_text cs vs ≡ []
unfolding cells_text
row-none [] vs none = refl
row-none (c ∷ cs) vs none = absurd (omega arith)

pub row-short : (cs : List Column) (vs : List Value) → length vs < 1 → cells_text cs vs ≡ []
unfolding cells_text
row-short [] vs none = refl
row-short (c ∷ cs) [] none = refl
row-short (c ∷ cs) (v ∷ vs) none = absurd (omega arith)

-- a record shows no byte exactly where it is blank
blank-is : (cells : List (List ℕ)) → is_blank default_writer cells ≡ (length (row_body default_writer cells) == 0)
unfolding is_blank fields_text
blank-is [] = refl
blank-is (c ∷ []) = ap (λ (t : List ℕ). length t == 0) (sym (append-nil (field_text default_writer c)))
blank-is (c ∷ d ∷ ds) = by (field_text default_writer c)
  where
    by : (t : List ℕ) → false ≡ (length (t ++ (44 ∷ (field_text default_writer d ++ fields_text default_writer ds))) == 0)
    by [] = sym (no-zero (length (field_text default_writer d ++ fields_text default_writer ds)))
    by (x ∷ xs) = sym (no-zero (length (xs ++ (44 ∷ (field_text default_writer d ++ fields_text default_writer ds)))))

same-length : (base body : List ℕ) → (length (base ++ body) == length base) ≡ (length body == 0)
same-length base [] = ap (λ n. n == length base) (ap (λ (t : List ℕ). length t) (append-nil base)) ∙ eq-eqb (length base) (length base) refl
same-length base (x ∷ xs) = ne_eqb (length (base ++ (x ∷ xs))) (length base) (λ e. absurd (omega (arith, e, length-append base (x ∷ xs)))) ∙ sym (no-zero (length xs))

pub record-ended : (base out new : List ℕ) (start : ℕ) (cells : List (List ℕ)) → start ≡ length base → out ≡ base ++ row_body default_writer cells → new ≡ out ++ record_end (length out == start)
    → new ≡ base ++ row_text default_writer cells
record-ended base out new start cells begun body end =
    let blank : (length out == start) ≡ is_blank default_writer cells =
    ap (λ (t : List ℕ). length t == start) body ∙ ap (λ n. length (base ++ row_body default_writer cells) == n) begun ∙ same-length base (row_body default_writer cells) ∙ sym (blank-is cells) in
    end ∙ ap (λ b. out ++ record_end b) blank ∙ ap (λ (t : List ℕ). t ++ record_end (is_blank default_writer cells)) body
    ∙ append_assoc base (row_body default_writer cells) (record_end (is_blank default_writer cells))

-- the text of rows under columns
pub rows_text : List Column → List (List Value) → List ℕ
rows_text columns rows = text_of_rows (map (cells_text columns) rows)

-- one more row
rows_after : (columns : List Column) (rows : List (List Value)) (row : List Value)
    → rows_text columns (rows ++ row ∷ []) ≡ rows_text columns rows ++ row_text default_writer (cells_text columns row)
unfolding rows_text text_of_rows
rows_after columns [] row = append-nil (row_text default_writer (cells_text columns row))
rows_after columns (r ∷ rs) row =
    ap (λ (t : List ℕ). row_text default_writer (cells_text columns r) ++ t) (rows_after columns rs row)
    ∙ sym (append_assoc (row_text default_writer (cells_text columns r)) (rows_text columns rs) (row_text default_writer (cells_text columns row)))

pub text_none : (columns : List Column) → text (record { columns = columns; rows = [] }) ≡ row_text default_writer (map heading_text columns)
unfolding text text_of_rows
text_none columns = append-nil (row_text default_writer (map heading_text columns))

pub rows_nothing : (columns : List Column) → rows_text columns [] ≡ []
unfolding rows_text text_of_rows
rows_nothing columns = refl

-- the header and the rows
pub header_and_rows : (header : List (List ℕ)) (columns : List Column) (rows : List (List Value))
    → text_of_rows (header ∷ map (cells_text columns) rows) ≡ row_text default_writer header ++ rows_text columns rows
unfolding rows_text text_of_rows
header_and_rows header columns rows = refl

-- the text of a table with one more row
pub text_after : (columns : List Column) (rows : List (List Value)) (row : List Value)
    → text (record { columns = columns; rows = rows ++ row ∷ [] }) ≡ text (record { columns = columns; rows = rows }) ++ row_text default_writer (cells_text columns row)
unfolding text
text_after columns rows row =
    let header = map heading_text columns in
    header_and_rows header columns (rows ++ row ∷ [])
    ∙ ap (λ (t : List ℕ). row_text default_writer header ++ t) (rows_after columns rows row)
    ∙ sym (append_assoc (row_text default_writer header) (rows_text columns rows) (row_text default_writer (cells_text columns row)))
    ∙ ap (λ (t : List ℕ). t ++ row_text default_writer (cells_text columns row)) (sym (header_and_rows header columns rows))

-- ---- rows by number

pub row_more : (rows : List Row) (i n : ℕ) (row : Row) → n ≡ length rows → i < n → row ≡ get_or rows i [] → take (i + 1) rows ≡ take i rows ++ row ∷ []
row_more rows i n row e h is = take_more rows i [] (omega (arith, e, h)) ∙ ap (λ (r : Row). take i rows ++ r ∷ []) (sym is)

pub all_taken : (rows : List Row) (n : ℕ) → n ≡ length rows → take n rows ≡ rows
all_taken rows n e = ap (λ (k : ℕ). take k rows) e ∙ take_all rows

pub ruleset rows_in_turn = (row_more, all_taken)
