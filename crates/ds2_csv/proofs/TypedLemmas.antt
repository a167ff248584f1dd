-- What was read into columns, with one more cell or row.
use Rattle.std.proofs.Common.{◌≡◌, ◌<◌, ◌≤◌, ◌+◌, ◌*◌, ◌==◌, ℕ, zero, suc, Bool, true, false, List, [], ◌∷◌, ◌++◌, Option, Some, None, length, map, take, refl, sym, ap, subst, ◌∙◌, arith, append_assoc, length-append, slice_get, get_or}
use Rattle.std.specs.Prelude.{◌&&◌, Result, Ok, Err, IfSome, OnOk, nat_lt, slice_set, if◌then◌else◌}
use Rattle.std.specs.Option.{is_some}
use Rattle.std.proofs.lemmas.List.{map-append, append-nil, length-map}
use Rattle.std.proofs.lemmas.Bool.{and_parts, eqb-true}
use Rattle.std.proofs.lemmas.Option.{slice_get_within}
use Rattle.ds2_base.specs.declared.stop.Stop.{Stop}
use Rattle.ds2_base.specs.declared.stop.Stop.TheVariants.{Refused, OutOfMemory}
use Rattle.ds2_columns.specs.Columns.{ColumnContents, with_value, empty_column}
use Rattle.ds2_csv_records.specs.Reading.{records_left}
use Rattle.ds2_csv_cells.specs.Cells.{value_of}
use Rattle.ds2_csv_cells.specs.Inferred.{IsInferred}
use Rattle.ds2_csv_cells.specs.declared.inference.Inference.{Inference}
use Rattle.ds2_table.specs.Across.{AreColumnsOf, rows_across}
use Rattle.ds2_value.specs.Schema.{types_in_bounds}
use Rattle.ds2_value.specs.Types.{fits, in_bounds, same_ty}
use Rattle.ds2_value.specs.declared.schema.Column.{Column}
use Rattle.ds2_value.specs.declared.ty.Ty.{Ty}
use Rattle.ds2_value.specs.declared.ty.Ty.TheVariants as ty
use Rattle.ds2_value.specs.declared.value.Value.{Value}
use Rattle.ds2_csv.specs.Columns.{cell_at, cells_of}
use Rattle.ds2_csv.specs.Known.{AreInferred, HoldIn, HoldTo, TellsColumn}
use Rattle.ds2_csv.specs.Reads.{table_of, under_columns}
use Rattle.ds2_csv.specs.Records.{Rows, odd_from}
use Rattle.ds2_csv.specs.Refusals.{of_cell}
use Rattle.ds2_csv.specs.Typed.{AreRead, AreReadTo, AreRowsRead, HasColumnTypes, IsEnd, HasValues, IsPut, HasRead, HasReadTo, HasReadAll, are_confirmed, types_of}
use Rattle.ds2_csv.specs.Sheet.{sheet_of}
use Rattle.ds2_csv.specs.Values.{rows_from}
use Rattle.ds2_csv.specs.declared.limits.TheConstants.{MOST_CELLS}
use Rattle.ds2_csv.specs.declared.refusal.CsvKind.TheVariants.{BadCell}
use Rattle.ds2_csv.specs.declared.refusal.CsvRefusal.{CsvRefusal}
use Rattle.ds2_csv.specs.declared.typed.Typed.{Typed}
use Rattle.ds2_csv.proofs.Across.{bad-cell, rows-whole, columns-are, types-count}
use Rattle.ds2_csv.proofs.Holding.{hold-begun, hold-more, hold-past, hold-ended, item-there}
use Rattle.ds2_csv.proofs.Reading.{odd-more, sheet-large, sheet-whole}

-- ---- items of lists

pub none-behind : {X : Type 0} (items : List X) (i : ℕ) → slice_get items i ≡ None → length items ≤ i
none-behind [] i e = omega arith
none-behind (x ∷ xs) zero e = cc e
none-behind (x ∷ xs) (suc i) e = let h = none-behind xs i e in omega (arith, h)

pub some-here : {X : Type 0} (items : List X) (i : ℕ) (x : X) → i < length items → x ≡ get_or items i x → slice_get items i ≡ Some x
some-here [] i x lt e = absurd (omega arith)
some-here {X} (y ∷ ys) zero x lt e = ap (λ (t : X). Some t) (sym e)
some-here (y ∷ ys) (suc i) x lt e = some-here ys i x (omega arith) e

pub bounds-at : (columns : List Column) (i : ℕ) (c : Column) → slice_get columns i ≡ Some c → types_in_bounds columns ≡ true → in_bounds c.ty ≡ true
bounds-at [] i c here all = cc here
bounds-at (d ∷ ds) zero c here all = let same : d ≡ c = cc here in ap (λ (t : Column). in_bounds t.ty) (sym same) ∙ (and_parts (in_bounds d.ty) (types_in_bounds ds) all).0
bounds-at (d ∷ ds) (suc i) c here all = bounds-at ds i c here (and_parts (in_bounds d.ty) (types_in_bounds ds) all).1

-- the column of values in the place of a column has its type
pub type-at : (columns : List Column) (values : List ColumnContents) (i : ℕ) (c : Column) (v : ColumnContents) → map (λ (v : ColumnContents). v.ty) values ≡ types_of columns
    → slice_get columns i ≡ Some c → slice_get values i ≡ Some v → v.ty ≡ c.ty
type-at [] values i c v types here there = cc here
type-at (d ∷ ds) [] i c v types here there = cc there
type-at (d ∷ ds) (w ∷ ws) zero c v types here there =
    let first : w.ty ≡ d.ty = cc types in
    let a : d ≡ c = cc here in
    let b : w ≡ v = cc there in
    ap (λ (t : ColumnContents). t.ty) (sym b) ∙ first ∙ ap (λ (t : Column). t.ty) a
type-at (d ∷ ds) (w ∷ ws) (suc i) c v types here there = let rest : map (λ (v : ColumnContents). v.ty) ws ≡ types_of ds = cc types in type-at ds ws i c v rest here there

-- a column with one more value has the type that it had
pub types-kept : (values : List ColumnContents) (i : ℕ) (v : ColumnContents) (x : Value) → slice_get values i ≡ Some v
    → map (λ (v : ColumnContents). v.ty) (slice_set values i (with_value v x)) ≡ map (λ (v : ColumnContents). v.ty) values
types-kept [] i v x e = cc e
types-kept (w ∷ ws) zero v x e = let same : w ≡ v = cc e in ap (λ (t : ColumnContents). t.ty ∷ map (λ (v : ColumnContents). v.ty) ws) (sym same)
types-kept (w ∷ ws) (suc i) v x e = ap (λ (t : List Ty). w.ty ∷ t) (types-kept ws i v x e)

-- a value of a column's type is one of the column of values in its place
pub fit-there : (columns : List Column) (values : List ColumnContents) (i : ℕ) (c : Column) (o : Option Value) → map (λ (v : ColumnContents). v.ty) values ≡ types_of columns
    → slice_get columns i ≡ Some c → IfSome o (λ x. fits x c.ty ≡ true) → IfSome o (λ x. (v : ColumnContents) → slice_get values i ≡ Some v → fits x v.ty ≡ true)
fit-there columns values i c None types here fit = tt
fit-there columns values i c (Some x) types here fit = λ v there. subst (λ (t : Ty). fits x t ≡ true) (sym (type-at columns values i c v types here there)) fit

-- the same types, counted anew or with other notes beside
pub own-count : (typed : Typed) (columns : List Column) (count : ℕ) → HasColumnTypes typed columns count → HasColumnTypes typed columns (length typed.known)
own-count typed columns count has = rw has.known has

pub bound-types : (old new : Typed) (columns : List Column) → new.known ≡ old.known → new.values.items ≡ old.values.items → HasColumnTypes old columns (length old.known)
    → HasColumnTypes new columns (length old.known)
bound-types old new columns known values has =
    record { types = ap (λ (t : List ColumnContents). map (λ (v : ColumnContents). v.ty) t) values ∙ has.types; known = ap (λ (t : List Inference). length t) known; few = has.few }

-- what holds of a result that is Ok
pub on-ok : {X E P Q R S : Type 0} (result : Result X E) → OnOk result P → OnOk result Q → OnOk result R → (P → Q → R → S) → OnOk result S
on-ok (Ok x) p q r f = f p q r
on-ok (Err e) p q r f = tt

-- ---- one more cell

-- a cell of a column that is not told of
pub told-past : (known : List Inference) (rows : Rows) (cells : List (List ℕ)) (text : List ℕ) (i : ℕ) → slice_get known i ≡ None → length cells ≡ i → HoldTo TellsColumn known rows cells
    → HoldTo TellsColumn known rows (cells ++ (text ∷ []))
told-past known rows cells text i none count holds = hold-past TellsColumn known rows cells text (let h = none-behind known i none in omega (arith, h, count)) holds

-- and of one that is
pub told-more : (known new : List Inference) (rows : Rows) (cells : List (List ℕ)) (text : List ℕ) (i : ℕ) (x y : Inference) → slice_get known i ≡ Some x → new ≡ slice_set known i y
    → ((seen : List (List ℕ)) → IsInferred x seen → IsInferred y (seen ++ (text ∷ []))) → length cells ≡ i → HoldTo TellsColumn known rows cells → HoldTo TellsColumn new rows (cells ++ (text ∷ []))
told-more known new rows cells text i x y here is step count holds = hold-more TellsColumn known new rows cells text i x y count here step is holds

-- a bad cell stays the first one
bad-stays : (columns : List Column) (rows : Rows) (cells : List (List ℕ)) (text : List ℕ) (bad : CsvRefusal)
    → ((more : List (List ℕ)) (later : Rows) → rows_from columns 1 (rows ++ ((cells ++ more) ∷ later)) ≡ Err bad)
    → (more : List (List ℕ)) (later : Rows) → rows_from columns 1 (rows ++ (((cells ++ (text ∷ [])) ++ more) ∷ later)) ≡ Err bad
bad-stays columns rows cells text bad is more later = ap (λ (t : List (List ℕ)). rows_from columns 1 (rows ++ (t ∷ later))) (append_assoc cells (text ∷ []) more) ∙ is (text ∷ more) later

-- a cell behind all columns
pub reading-past : (typed : Typed) (columns : List Column) (rows : Rows) (cells : List (List ℕ)) (text : List ℕ) (count : ℕ) → HasColumnTypes typed columns count → length columns ≤ length cells
    → HasReadTo typed columns rows cells → HasReadTo typed columns rows (cells ++ (text ∷ []))
reading-past typed columns rows cells text count types past is =
    record {
      even = is.even;
      known = hold-past TellsColumn typed.known rows cells text (let a = types.known in let b = types.few in omega (arith, a, b, past)) is.known;
      read = λ few. by typed.bad (is.read few);
    }
  where
    by : (bad : Option CsvRefusal) → AreReadTo bad columns typed.values.items rows cells → AreReadTo bad columns typed.values.items rows (cells ++ (text ∷ []))
    by None h = hold-past (HasValues columns) typed.values.items rows cells text (let n = types-count columns typed.values.items types.types in omega (arith, n, past)) h
    by (Some bad) h = bad-stays columns rows cells text bad h

-- a cell behind a bad one
pub reading-bad : (old new : Typed) (columns : List Column) (rows : Rows) (cells : List (List ℕ)) (text : List ℕ) → is_some old.bad ≡ true → new.bad ≡ old.bad
    → HoldTo TellsColumn new.known rows (cells ++ (text ∷ [])) → HasReadTo old columns rows cells → HasReadTo new columns rows (cells ++ (text ∷ []))
reading-bad old new columns rows cells text some same known is =
    record {
      even = is.even;
      known = known;
      read = λ few. subst (λ (bad : Option CsvRefusal). AreReadTo bad columns new.values.items rows (cells ++ (text ∷ []))) (sym same) (by old.bad some (is.read few));
    }
  where
    by : (bad : Option CsvRefusal) → is_some bad ≡ true → AreReadTo bad columns old.values.items rows cells → AreReadTo bad columns new.values.items rows (cells ++ (text ∷ []))
    by None e h = cc e
    by (Some bad) e h = bad-stays columns rows cells text bad h

-- one more value
value-more : (columns : List Column) (i : ℕ) (c : Column) (text : List ℕ) (x : Value) (v : ColumnContents) → slice_get columns i ≡ Some c → value_of c.ty text ≡ Some x
    → (seen : List (List ℕ)) → HasValues columns i v seen → HasValues columns i (with_value v x) (seen ++ (text ∷ []))
value-more columns i c text x v here value seen has d e =
    let same : c ≡ d = cc (here, e) in
    let last : Some x ≡ value_of d.ty text = sym value ∙ ap (λ (t : Column). value_of t.ty text) same in
    map-append (λ (v : Value). Some v) v.values (x ∷ []) ∙ ap (λ (t : List (Option Value)). t ++ (Some x ∷ [])) (has d e)
    ∙ ap (λ (t : Option Value). map (value_of d.ty) seen ++ (t ∷ [])) last ∙ sym (map-append (value_of d.ty) seen (text ∷ []))

-- no cell was bad
pub nothing-bad : (bad : Option CsvRefusal) → is_some bad ≡ false → bad ≡ None
nothing-bad None e = refl
nothing-bad (Some bad) e = cc e

-- a cell whose value was put, or that has none
pub reading-put : (old mid new : Typed) (columns : List Column) (rows : Rows) (cells : List (List ℕ)) (text : List ℕ) (i number count : ℕ) (c : Column) (o : Option Value)
    → HasColumnTypes old columns count → is_some old.bad ≡ false → mid.bad ≡ old.bad → mid.values.items ≡ old.values.items → new.known ≡ mid.known → slice_get columns i ≡ Some c → o ≡ value_of c.ty text
    → IsPut o number i mid new → number ≡ 1 + length rows → length cells ≡ i → HoldTo TellsColumn mid.known rows (cells ++ (text ∷ [])) → HasReadTo old columns rows cells
    → HasReadTo new columns rows (cells ++ (text ∷ []))
reading-put old mid new columns rows cells text i number count c o types fine kept same known here value put numbered counted told is =
    record {
      even = is.even;
      known = subst (λ (t : List Inference). HoldTo TellsColumn t rows (cells ++ (text ∷ []))) (sym known) told;
      read = λ few. by o refl put (good old.bad fine (is.read few));
    }
  where
    good : (bad : Option CsvRefusal) → is_some bad ≡ false → AreReadTo bad columns old.values.items rows cells → HoldTo (HasValues columns) old.values.items rows cells
    good None e h = h
    good (Some bad) e h = cc e

    wide : length old.values.items ≡ length columns
    wide = types-count columns old.values.items types.types

    there : slice_get columns (length cells) ≡ Some c
    there = ap (slice_get columns) counted ∙ here

    by : (p : Option Value) → o ≡ p → IsPut p number i mid new → HoldTo (HasValues columns) old.values.items rows cells → AreReadTo new.bad columns new.values.items rows (cells ++ (text ∷ []))
    by None e h holds =
        let bad = bad-cell columns old.values.items rows cells text c wide is.even holds there (sym value ∙ e) in
        let first : new.bad ≡ Some (of_cell BadCell (1 + length rows) (1 + length cells)) =
        h ∙ ap (λ n. Some (of_cell BadCell n (i + 1))) numbered ∙ ap (λ n. Some (of_cell BadCell (1 + length rows) n)) (omega (arith, counted)) in
        subst (λ (b : Option CsvRefusal). AreReadTo b columns new.values.items rows (cells ++ (text ∷ []))) (sym first) bad
    by (Some x) e h holds =
        let item = item-there old.values.items i (let w = slice_get_within columns i c here in omega (arith, w, wide)) in
        let here_mid : slice_get mid.values.items i ≡ Some item.0 = ap (λ (t : List ColumnContents). slice_get t i) same ∙ item.1 in
        let is_new : new.values.items ≡ slice_set old.values.items i (with_value item.0 x) = h.1 item.0 here_mid ∙ ap (λ (t : List ColumnContents). slice_set t i (with_value item.0 x)) same in
        let none : new.bad ≡ None = h.0 ∙ kept ∙ nothing-bad old.bad fine in
        subst (λ (b : Option CsvRefusal). AreReadTo b columns new.values.items rows (cells ++ (text ∷ []))) (sym none)
        (hold-more (HasValues columns) old.values.items new.values.items rows cells text i item.0 (with_value item.0 x) counted item.1
        (value-more columns i c text x item.0 here (sym value ∙ e)) is_new holds)

-- the types are kept: a column got a value, or nothing was put
pub put-types : (mid new : Typed) (columns : List Column) (i number count : ℕ) (c : Column) (o : Option Value) → slice_get columns i ≡ Some c → IsPut o number i mid new → new.known ≡ mid.known
    → (o ≡ None → new.values.items ≡ mid.values.items) → HasColumnTypes mid columns count → HasColumnTypes new columns count
put-types mid new columns i number count c o here put known kept types =
    record { types = by o refl put; known = ap (λ (t : List Inference). length t) known ∙ types.known; few = types.few }
  where
    by : (p : Option Value) → o ≡ p → IsPut p number i mid new → map (λ (v : ColumnContents). v.ty) new.values.items ≡ types_of columns
    by None e h = ap (λ (t : List ColumnContents). map (λ (v : ColumnContents). v.ty) t) (kept e) ∙ types.types
    by (Some x) e h =
        let wide = types-count columns mid.values.items types.types in
        let item = item-there mid.values.items i (let w = slice_get_within columns i c here in omega (arith, w, wide)) in
        ap (λ (t : List ColumnContents). map (λ (v : ColumnContents). v.ty) t) (h.1 item.0 item.1) ∙ types-kept mid.values.items i item.0 x item.1 ∙ types.types

-- the cells of a row come to an end
pub still-left : (a b : Bool) (old new : ℕ) → a ≡ true → (b ≡ true → new < old) → (if b then suc new else 0) < (if a then suc old else 0)
still-left a true old new e f = rw e (let k = f refl in omega (arith, k))
still-left a false old new e f = rw e (omega arith)

-- ---- one more row

-- a row begins
pub reading-begun : (old new : Typed) (columns : List Column) (rows : Rows) (number : ℕ) → number ≡ 1 + length rows → (number * length columns ≤ MOST_CELLS → new ≡ old) → new.known ≡ old.known
    → HasRead old columns rows → HasReadTo new columns rows []
reading-begun old new columns rows number numbered same known is =
    record {
      even = is.even;
      known = hold-begun TellsColumn new.known rows (subst (λ (t : List Inference). HoldIn TellsColumn t rows) (sym known) is.known);
      read = λ few. let less : length rows * length columns ≤ MOST_CELLS = omega (arith, few) in
          subst (λ (t : Typed). AreReadTo t.bad columns t.values.items rows []) (sym (same (rw numbered few))) (by old.bad (is.read less));
    }
  where
    by : (bad : Option CsvRefusal) → AreRead bad columns old.values.items rows → AreReadTo bad columns old.values.items rows []
    by None h = hold-begun (HasValues columns) old.values.items rows h
    by (Some bad) h = λ more later. h (more ∷ later)

-- a row has ended
pub reading-ended : (typed : Typed) (columns : List Column) (rows : Rows) (row : List (List ℕ)) (count : ℕ) → HasColumnTypes typed columns count → length row ≡ length columns
    → HasReadTo typed columns rows row → HasRead typed columns (rows ++ (row ∷ []))
reading-ended typed columns rows row count types wide is =
    record {
      even = odd-more (length columns) 1 rows row is.even wide;
      known = hold-ended TellsColumn typed.known rows row (let a = types.known in let b = types.few in omega (arith, a, b, wide)) is.known;
      read = λ few. by typed.bad (is.read (let n = length-append rows (row ∷ []) in let same : length (rows ++ (row ∷ [])) ≡ 1 + length rows = omega (arith, n) in rw same at few));
    }
  where
    by : (bad : Option CsvRefusal) → AreReadTo bad columns typed.values.items rows row → AreRead bad columns typed.values.items (rows ++ (row ∷ []))
    by None h = hold-ended (HasValues columns) typed.values.items rows row (let n = types-count columns typed.values.items types.types in omega (arith, n, wide)) h
    by (Some bad) h = λ later.
        ap (λ (t : Rows). rows_from columns 1 t) (append_assoc rows (row ∷ []) later) ∙ ap (λ (t : List (List ℕ)). rows_from columns 1 (rows ++ (t ∷ later))) (sym (append-nil row)) ∙ h [] later

-- ---- all rows

-- the rows have come to an end
pub rows-ended : (result : Result Typed (Stop CsvRefusal)) (typed : Typed) (columns : List Column) (text : List ℕ) (rows : Rows) (count : ℕ) → count ≡ length rows → records_left text ≡ rows
    → HasRead typed columns rows → IsEnd result typed count (length columns) → AreRowsRead result columns text
rows-ended (Err OutOfMemory) typed columns text rows count counted all is end = absurd end
rows-ended (Err (Refused r)) typed columns text rows count counted all is end =
    let large = subst (λ (n : ℕ). nat_lt MOST_CELLS (n * length columns) ≡ true) counted end.0 in
    ap (sheet_of (length columns)) all ∙ sheet-large (length columns) rows is.even large ∙ ap (λ (r : CsvRefusal). Err r) (sym end.1)
rows-ended (Ok new) typed columns text rows count counted all is end =
    let small = subst (λ (n : ℕ). nat_lt MOST_CELLS (n * length columns) ≡ false) counted end.0 in
    let sheet = sheet-whole (length columns) rows is.even small in
    let same : HasRead (record typed { ended = true; rows = count }) columns rows = record { even = is.even; known = is.known; read = is.read } in
    let reading = subst (λ (t : Typed). HasRead t columns rows) (sym end.1) same in (
      rows,
      reading,
      λ ended. (ap (sheet_of (length columns)) all ∙ sheet.0, record { reading = reading; few = sheet.1; count = ap (λ (t : Typed). t.rows) end.1 ∙ counted }),
    )

-- nothing was read
pub reading-none : (typed : Typed) (columns : List Column) → ((k : ℕ) (v : ColumnContents) → slice_get typed.values.items k ≡ Some v → v.values ≡ []) → typed.bad ≡ None
    → AreInferred typed.known [] → HasRead typed columns []
unfolding odd_from
reading-none typed columns empty none known =
    record {
      even = refl;
      known = known;
      read = λ few. subst (λ (b : Option CsvRefusal). AreRead b columns typed.values.items []) (sym none) (λ k v e c f. ap (λ (t : List Value). map (λ (v : Value). Some v) t) (empty k v e));
    }

-- the columns of a table without rows
abbrev pub empty-columns : List Column → List ColumnContents
empty-columns columns = map (λ (c : Column). empty_column c.ty) columns

pub empty-types : (columns : List Column) → map (λ (v : ColumnContents). v.ty) (empty-columns columns) ≡ types_of columns
empty-types [] = refl
empty-types (c ∷ cs) = ap (λ (t : List Ty). c.ty ∷ t) (empty-types cs)

pub empty-values : (columns : List Column) (k : ℕ) (v : ColumnContents) → slice_get (empty-columns columns) k ≡ Some v → v.values ≡ []
empty-values [] k v e = cc e
empty-values (c ∷ cs) zero v e = let same : empty_column c.ty ≡ v = cc e in ap (λ (t : ColumnContents). t.values) (sym same)
empty-values (c ∷ cs) (suc k) v e = empty-values cs k v e

-- one more of them
pub empty-more : (columns : List Column) (i n : ℕ) (c : Column) → slice_get columns i ≡ Some c → n ≡ suc i → empty-columns (take i columns) ++ (empty_column c.ty ∷ []) ≡ empty-columns (take n columns)
empty-more columns i n c e next = under columns i e ∙ ap (λ (k : ℕ). empty-columns (take k columns)) (sym next)
  where
    under : (items : List Column) (k : ℕ) → slice_get items k ≡ Some c → empty-columns (take k items) ++ (empty_column c.ty ∷ []) ≡ empty-columns (take (suc k) items)
    under [] k h = cc h
    under (d ∷ ds) zero h = let same : d ≡ c = cc h in ap (λ (t : Column). empty_column t.ty ∷ []) (sym same)
    under (d ∷ ds) (suc k) h = ap (λ (t : List ColumnContents). empty_column d.ty ∷ t) (under ds k h)

-- the columns of rows that were all read
values-long : (columns : List Column) (values : List ColumnContents) (rows : Rows) → length values ≡ length columns → HoldIn (HasValues columns) values rows → (k : ℕ) (v : ColumnContents)
    → slice_get values k ≡ Some v → length v.values ≡ length rows
values-long columns values rows count holds k v e =
    let c = item-there columns k (let w = slice_get_within values k v e in omega (arith, w, count)) in
    sym (length-map v.values (λ (v : Value). Some v)) ∙ ap (λ (t : List (Option Value)). length t) (holds k v e c.0 c.1)
    ∙ length-map (cells_of k rows) (value_of c.0.ty) ∙ length-map rows (cell_at k)

good-read : (typed : Typed) (columns : List Column) (rows : Rows) → typed.bad ≡ None → HasReadAll typed columns rows → HoldIn (HasValues columns) typed.values.items rows
good-read typed columns rows none is = subst (λ (b : Option CsvRefusal). AreRead b columns typed.values.items rows) none (is.reading.read is.few)

pub whole-columns : (typed : Typed) (columns : List Column) (rows : Rows) (count : ℕ) → HasColumnTypes typed columns count → typed.bad ≡ None → HasReadAll typed columns rows
    → AreColumnsOf columns typed.rows typed.values.items
whole-columns typed columns rows count types none is =
    let wide = types-count columns typed.values.items types.types in
    columns-are columns typed.values.items typed.rows types.types (λ k v e. values-long columns typed.values.items rows wide (good-read typed columns rows none is) k v e ∙ sym is.count)

pub whole-table : (typed : Typed) (columns : List Column) (rows : Rows) (count : ℕ) → HasColumnTypes typed columns count → typed.bad ≡ None → HasReadAll typed columns rows
    → under_columns columns rows ≡ Ok (record { columns = columns; rows = rows_across typed.rows typed.values.items })
whole-table typed columns rows count types none is =
    let wide = types-count columns typed.values.items types.types in
    ap (table_of columns) (rows-whole columns typed.values.items rows wide is.reading.even (hold-begun (HasValues columns) typed.values.items rows (good-read typed columns rows none is)))
    ∙ ap (λ n. Ok (record { columns = columns; rows = rows_across n typed.values.items })) (sym is.count)

pub whole-bad : (typed : Typed) (columns : List Column) (rows : Rows) (bad : CsvRefusal) → typed.bad ≡ Some bad → HasReadAll typed columns rows → under_columns columns rows ≡ Err bad
whole-bad typed columns rows bad some is =
    let read : AreRead (Some bad) columns typed.values.items rows = subst (λ (b : Option CsvRefusal). AreRead b columns typed.values.items rows) some (is.reading.read is.few) in
    ap (table_of columns) (ap (λ (t : Rows). rows_from columns 1 t) (sym (append-nil rows)) ∙ read [])

-- ---- types that were supposed

same-types : (a b : Ty) → same_ty a b ≡ true → a ≡ b
same-types ty.BigInt ty.BigInt e = refl
same-types (ty.Decimal p s) (ty.Decimal q t) e = by (p == q) refl (s == t) refl e
  where
    by : (x : Bool) → (p == q) ≡ x → (y : Bool) → (s == t) ≡ y → (x && y) ≡ true → ty.Decimal p s ≡ ty.Decimal q t
    by true f true g h = let a = eqb-true p q f in let b = eqb-true s t g in rw (a, b) refl
    by true f false g h = cc h
    by false f y g h = cc h
same-types (ty.Char n) (ty.Char m) e = ap ty.Char (eqb-true n m e)
same-types (ty.Varchar n) (ty.Varchar m) e = ap ty.Varchar (eqb-true n m e)
same-types a b e = cc e

pub confirmed-types : (supposed columns : List Column) → are_confirmed supposed columns ≡ true → types_of supposed ≡ types_of columns
unfolding are_confirmed
confirmed-types [] [] e = refl
confirmed-types [] (c ∷ cs) e = cc e
confirmed-types (s ∷ ss) [] e = cc e
confirmed-types (s ∷ ss) (c ∷ cs) e =
    let both = and_parts (same_ty s.ty c.ty) (are_confirmed ss cs) e in
    let first = same-types s.ty c.ty both.0 in
    let rest = confirmed-types ss cs both.1 in
    rw (first, rest) refl

-- what was read under columns was read under others of the same types
confirmed-at : (supposed columns : List Column) (k : ℕ) (c : Column) → types_of supposed ≡ types_of columns → slice_get columns k ≡ Some c → (s : Column) × (slice_get supposed k ≡ Some s) × (s.ty ≡ c.ty)
confirmed-at supposed [] k c e h = cc h
confirmed-at [] (d ∷ ds) k c e h = cc e
confirmed-at (s ∷ ss) (d ∷ ds) zero c e h =
    let first : s.ty ≡ d.ty = cc e in
    let same : d ≡ c = cc h in
    (s, refl, first ∙ ap (λ (t : Column). t.ty) same)
confirmed-at (s ∷ ss) (d ∷ ds) (suc k) c e h = let rest : types_of ss ≡ types_of ds = cc e in confirmed-at ss ds k c rest h

pub confirmed-whole : (typed : Typed) (supposed columns : List Column) (rows : Rows) → types_of supposed ≡ types_of columns → typed.bad ≡ None → HasReadAll typed supposed rows → HasReadAll typed columns rows
confirmed-whole typed supposed columns rows same none is =
    record {
      reading = record {
        even = subst (λ (n : ℕ). odd_from n 1 rows ≡ None) wide is.reading.even;
        known = is.reading.known;
        read = λ few. subst (λ (b : Option CsvRefusal). AreRead b columns typed.values.items rows) (sym none) (λ k v e c f.
            let s = confirmed-at supposed columns k c same f in
            good-read typed supposed rows none is k v e s.0 s.1 ∙ ap (λ (t : Ty). map (value_of t) (cells_of k rows)) s.2);
      };
      few = subst (λ (n : ℕ). length rows * n ≤ MOST_CELLS) wide is.few;
      count = is.count;
    }
  where
    wide : length supposed ≡ length columns
    wide = sym (length-map supposed (λ (c : Column). c.ty)) ∙ ap (λ (t : List Ty). length t) same ∙ length-map columns (λ (c : Column). c.ty)

pub confirmed-has : (typed : Typed) (supposed columns : List Column) (count : ℕ) → types_of supposed ≡ types_of columns → HasColumnTypes typed supposed count → HasColumnTypes typed columns count
confirmed-has typed supposed columns count same has =
    record {
      types = has.types ∙ same;
      known = has.known;
      few = let wide : length supposed ≡ length columns = sym (length-map supposed (λ (c : Column). c.ty)) ∙ ap (λ (t : List Ty). length t) same ∙ length-map columns (λ (c : Column). c.ty) in let f = has.few in omega (arith, f, wide);
    }
