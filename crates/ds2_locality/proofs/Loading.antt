-- What the first load of a group sets: all columns and flags, and `first` of the BY variable at the grain and of the later ones to 1.
use Rattle.std.proofs.Common.{◌≡◌, ℕ, zero, suc, pred, Bool, true, false, not, ◌||◌, List, [], ◌∷◌, ◌++◌, length, drop, bytes_eq, Option, Some, None, refl, sym, ap, ◌∙◌, if◌then◌else◌}
use Rattle.std.specs.List.{list_any}
use Rattle.std.specs.Prelude.{pos}
use Rattle.std.proofs.lemmas.Bool.{true≢false, and_parts}
use Rattle.std.proofs.lemmas.Slice.Eq.{bytes_eq-Decides}
use Rattle.ds2_value.specs.Row.{Row, Columns}
use Rattle.ds2_value.specs.Schema.{has_column, row_fits}
use Rattle.ds2_value.specs.Types.{fits}
use Rattle.ds2_value.specs.declared.value.Value.TheVariants.{Int}
use Rattle.ds2_table.specs.Loads.{Load}
use Rattle.ds2_meaning.specs.declared.globals.Variable.{Variable}
use Rattle.ds2_meaning.specs.declared.location.Global.{Global}
use Rattle.ds2_meaning.specs.declared.location.Global.TheVariants.{Named, First, Last, Present, Parameter}
use Rattle.ds2_meaning.specs.declared.readings.ByVariable.{ByVariable}
use Rattle.ds2_meaning.specs.declared.readings.Input.{Input}
use Rattle.ds2_meaning.specs.declared.readings.Reading.TheVariants.{Set, Merge, From}
use Rattle.ds2_meaning.specs.IsTyped.{is_by, is_flag_of, is_present}
use Rattle.ds2_meaning.specs.Location.{Home, is_same_global, Location, is_same_location, Content, Storage, Holds, with_content}
use Rattle.ds2_meaning.specs.Reading.{Settings, InputTables, flag_value, nulls, all_nulls, row_settings, tables_settings, present_setting, present_settings, by_settings, settings_in, with_settings}
use Rattle.ds2_locality.specs.Deeds.{global_at}
use Rattle.ds2_locality.specs.Independence.{located, settings_at}
use Rattle.ds2_locality.specs.KeptLocations.{is_column_or_flag}
use Rattle.ds2_locality.proofs.Opening.{AllSet}
use Rattle.ds2_locality.proofs.SameUnits.{load_sets, IsOwnLoad}

-- ---- loads by their locations

-- a load at its locations sets the program's own ones
pub own_load : (settings : Settings) → IsOwnLoad (located settings)
own_load [] = tt
own_load (set ∷ settings) = (refl, own_load settings)

-- and is read back as it was
pub read_back : (settings : Settings) → settings_at (located settings) ≡ settings
read_back [] = refl
read_back (set ∷ settings) = ap (λ rest. set ∷ rest) (read_back settings)

-- settings set a location
abbrev pub Sets : Location → Settings → Type 0
Sets at settings = load_sets at (located settings) ≡ true

-- ---- tests

or_left : (a b : Bool) → a ≡ true → (a || b) ≡ true
or_left true b e = refl
or_left false b e = absurd (true≢false (sym e))

or_right : (a b : Bool) → b ≡ true → (a || b) ≡ true
or_right true b e = refl
or_right false b e = e

or_both : (a b c d : Bool) → (a ≡ true → c ≡ true) → (b ≡ true → d ≡ true) → (a || b) ≡ true → (c || d) ≡ true
or_both true b c d f g h = or_left c d (f refl)
or_both false b c d f g h = or_right c d (g h)

if_both : (a b c d : Bool) → (a ≡ true → c ≡ true) → (b ≡ true → d ≡ true) → (if a then true else b) ≡ true → (c || d) ≡ true
if_both true b c d f g h = or_left c d (f refl)
if_both false b c d f g h = or_right c d (g h)

either_true : {Q : Type 0} (a b : Bool) → (a ≡ true → Q) → (b ≡ true → Q) → (a || b) ≡ true → Q
either_true true b f g h = f refl
either_true false b f g h = g h

if_either : {Q : Type 0} (a b : Bool) → (a ≡ true → Q) → (b ≡ true → Q) → (if a then true else b) ≡ true → Q
if_either true b f g h = f refl
if_either false b f g h = g h

else_false : (a b : Bool) → a ≡ false → b ≡ false → (if a then true else b) ≡ false
else_false true b e f = e
else_false false b e f = f

-- one name is another one, either way round
turned : (a b : List ℕ) → bytes_eq a b ≡ true → bytes_eq b a ≡ true
turned a b e = (bytes_eq-Decides b a).1 (sym ((bytes_eq-Decides a b).0 e))

turned_apart : (a b : List ℕ) → bytes_eq a b ≡ false → bytes_eq b a ≡ false
turned_apart a b e = by (bytes_eq b a) refl
  where
    by : (c : Bool) → bytes_eq b a ≡ c → c ≡ false
    by true f = absurd (true≢false (sym (turned b a f) ∙ e))
    by false f = refl

fewer : (n m : ℕ) → suc n ≡ suc m → n ≡ m
fewer n m e = ap pred e

-- ---- which locations are set

sets_front : (at : Location) (xs ys : Settings) → Sets at xs → Sets at (xs ++ ys)
sets_front at [] ys h = absurd (true≢false (sym h))
sets_front at (x ∷ xs) ys h =
    or_both (is_same_location at (global_at None x.0)) (load_sets at (located xs)) (is_same_location at (global_at None x.0)) (load_sets at (located (xs ++ ys))) (λ k. k) (λ k. sets_front at xs ys k) h

sets_back : (at : Location) (xs ys : Settings) → Sets at ys → Sets at (xs ++ ys)
sets_back at [] ys h = h
sets_back at (x ∷ xs) ys h = or_right (is_same_location at (global_at None x.0)) (load_sets at (located (xs ++ ys))) (sets_back at xs ys h)

column_set : (name : List ℕ) (columns : Columns) → has_column name columns ≡ true → Sets (global_at None (Named name)) (nulls columns)
column_set name [] h = absurd (true≢false (sym h))
column_set name (c ∷ columns) h =
    or_both (bytes_eq c.name name) (has_column name columns) (bytes_eq name c.name) (load_sets (global_at None (Named name)) (located (nulls columns))) (λ k. turned c.name name k) (λ k. column_set name columns k) h

columns_set : (name : List ℕ) (inputs : List Input) → list_any (λ (input : Input). has_column name input.columns) inputs ≡ true → Sets (global_at None (Named name)) (all_nulls inputs)
columns_set name [] h = absurd (true≢false (sym h))
columns_set name (input ∷ inputs) h =
    either_true (has_column name input.columns) (list_any (λ (input : Input). has_column name input.columns) inputs)
    (λ k. sets_front (global_at None (Named name)) (nulls input.columns) (all_nulls inputs) (column_set name input.columns k))
    (λ k. sets_back (global_at None (Named name)) (nulls input.columns) (all_nulls inputs) (columns_set name inputs k)) h

filled : (b : Bool) (at : Location) (inputs : List Input) → b ≡ true → Sets at (all_nulls inputs) → Sets at (if b then all_nulls inputs else [])
filled true at inputs e h = h
filled false at inputs e h = absurd (true≢false (sym e))

-- the columns of a row that fits are all set
pub row_set : (variables : List Variable) (name : List ℕ) (columns : Columns) (row : Row) → row_fits row columns ≡ true → has_column name columns ≡ true → Sets (global_at None (Named name)) (row_settings variables columns row)
row_set variables name [] row fit h = absurd (true≢false (sym h))
row_set variables name (c ∷ columns) [] fit h = absurd (true≢false (sym fit))
row_set variables name (c ∷ columns) (v ∷ row) fit h =
    or_both (bytes_eq c.name name) (has_column name columns) (bytes_eq name c.name) (load_sets (global_at None (Named name)) (located (row_settings variables columns row))) (λ k. turned c.name name k)
    (λ k. row_set variables name columns row (and_parts (fits v c.ty) (row_fits row columns) fit).1 k) h

flags_set : (flag : List ℕ → Global) → ((a b : List ℕ) → bytes_eq a b ≡ true → is_same_global (flag b) (flag a) ≡ true) → (name : List ℕ) (bys : List ByVariable) (flags : List Bool) → length flags ≡ length bys → is_by bys name ≡ true
    → Sets (global_at None (flag name)) (by_settings flag bys flags)
flags_set flag same name [] flags e h = absurd (true≢false (sym h))
flags_set flag same name (by ∷ bys) [] e h = absurd cc
flags_set flag same name (by ∷ bys) (f ∷ flags) e h =
    if_both (bytes_eq by.name name) (is_by bys name) (is_same_global (flag name) (flag by.name)) (load_sets (global_at None (flag name)) (located (by_settings flag bys flags)))
    (λ k. same by.name name k) (λ k. flags_set flag same name bys flags (fewer (length flags) (length bys) e) k) h

one_present_set : (o : Option (List ℕ)) (b : Bool) (name : List ℕ) → is_flag_of o name ≡ true → Sets (global_at None (Present name)) (present_setting o b)
one_present_set None b name h = absurd (true≢false (sym h))
one_present_set (Some flag) b name h = or_left (bytes_eq name flag) false (turned flag name h)

present_set : (name : List ℕ) (inputs : List Input) (present : List Bool) → length present ≡ length inputs → is_present inputs name ≡ true → Sets (global_at None (Present name)) (present_settings inputs present)
present_set name [] present e h = absurd (true≢false (sym h))
present_set name (input ∷ inputs) [] e h = absurd cc
present_set name (input ∷ inputs) (b ∷ present) e h =
    if_either (is_flag_of input.present name) (is_present inputs name)
    (λ k. sets_front (global_at None (Present name)) (present_setting input.present b) (present_settings inputs present) (one_present_set input.present b name k))
    (λ k. sets_back (global_at None (Present name)) (present_setting input.present b) (present_settings inputs present) (present_set name inputs present (fewer (length present) (length inputs) e) k)) h

-- ---- what stands at `first` behind a load

over_two : (xs ys : Settings) (c : Storage) → with_settings (xs ++ ys) c ≡ with_settings ys (with_settings xs c)
over_two [] ys c = refl
over_two (x ∷ xs) ys c = over_two xs ys (with_content (global_at None x.0) (Holds x.1) c)

abbrev pub first_at : List ℕ → Location
first_at name = global_at None (First name)

abbrev pub One : Content → Type 0
One c = c ≡ Holds (Int (pos 1))

one_by : (b : Bool) (name : List ℕ) (by : ByVariable) (bys : List ByVariable) (f : Bool) (old : Content) → bytes_eq name by.name ≡ b → f ≡ true → is_by bys name ≡ false → (is_by (by ∷ bys) name ≡ false → One old)
    → One (if b then Holds (flag_value f) else old)
one_by true name by bys f old e is none h = ap (λ (g : Bool). Holds (flag_value g)) is
one_by false name by bys f old e is none h = h (else_false (bytes_eq by.name name) (is_by bys name) (turned_apart name by.name e) none)

all_ones : (name : List ℕ) (bys : List ByVariable) (flags : List Bool) → length flags ≡ length bys → AllSet flags → (c : Storage) → (is_by bys name ≡ false → One (c (first_at name))) → One (with_settings (by_settings First bys flags) c (first_at name))
all_ones name [] flags e ones c h = h refl
all_ones name (by ∷ bys) [] e ones c h = absurd cc
all_ones name (by ∷ bys) (f ∷ flags) e ones c h =
    all_ones name bys flags (fewer (length flags) (length bys) e) ones.1 (with_content (global_at None (First by.name)) (Holds (flag_value f)) c)
    (λ none. one_by (bytes_eq name by.name) name by bys f (c (first_at name)) refl ones.0 none h)

later_ones : (p : ℕ) (name : List ℕ) (bys : List ByVariable) (flags : List Bool) → length flags ≡ length bys → AllSet (drop p flags) → is_by (drop p bys) name ≡ true → (c : Storage) → One (with_settings (by_settings First bys flags) c (first_at name))
later_ones zero name bys flags e ones is c = all_ones name bys flags e ones c (λ none. absurd (true≢false (sym is ∙ none)))
later_ones (suc p) name [] flags e ones is c = absurd (true≢false (sym is))
later_ones (suc p) name (by ∷ bys) [] e ones is c = absurd cc
later_ones (suc p) name (by ∷ bys) (f ∷ flags) e ones is c =
    later_ones p name bys flags (fewer (length flags) (length bys) e) ones is (with_content (global_at None (First by.name)) (Holds (flag_value f)) c)

lasts_skip : (name : List ℕ) (bys : List ByVariable) (flags : List Bool) (c : Storage) → with_settings (by_settings Last bys flags) c (first_at name) ≡ c (first_at name)
lasts_skip name [] flags c = refl
lasts_skip name (by ∷ bys) [] c = refl
lasts_skip name (by ∷ bys) (f ∷ flags) c = lasts_skip name bys flags (with_content (global_at None (Last by.name)) (Holds (flag_value f)) c)

-- ---- a load of a statement

module _ (variables : List Variable) (inputs : List Input) (bys : List ByVariable) (retains : Bool) (tables : InputTables) (load : Load)
    (presents : length load.present ≡ length inputs) (firsts : length load.first ≡ length bys) (lasts : length load.last ≡ length bys) where
  abbrev clearing : Settings
  clearing = if not retains || load.is_fresh then all_nulls inputs else []

  abbrev rows : Settings
  rows = tables_settings variables inputs tables load.rows

  abbrev flags_in : Settings
  flags_in = present_settings inputs load.present

  abbrev flags_first : Settings
  flags_first = by_settings First bys load.first

  abbrev flags_last : Settings
  flags_last = by_settings Last bys load.last

  abbrev whole : Settings
  whole = settings_in variables inputs bys retains tables load

  sets_named : (not retains || load.is_fresh) ≡ true → (name : List ℕ) → list_any (λ (input : Input). has_column name input.columns) inputs ≡ true → Sets (global_at None (Named name)) whole
  sets_named fill name h =
      let at = global_at None (Named name) in
      sets_front at (clearing ++ rows ++ flags_in ++ flags_first) flags_last
      (sets_front at (clearing ++ rows ++ flags_in) flags_first
      (sets_front at (clearing ++ rows) flags_in (sets_front at clearing rows (filled (not retains || load.is_fresh) at inputs fill (columns_set name inputs h)))))

  sets_present : (name : List ℕ) → is_present inputs name ≡ true → Sets (global_at None (Present name)) whole
  sets_present name h =
      let at = global_at None (Present name) in
      sets_front at (clearing ++ rows ++ flags_in ++ flags_first) flags_last
      (sets_front at (clearing ++ rows ++ flags_in) flags_first (sets_back at (clearing ++ rows) flags_in (present_set name inputs load.present presents h)))

  sets_first : (name : List ℕ) → is_by bys name ≡ true → Sets (global_at None (First name)) whole
  sets_first name h =
      let at = global_at None (First name) in
      sets_front at (clearing ++ rows ++ flags_in ++ flags_first) flags_last
      (sets_back at (clearing ++ rows ++ flags_in) flags_first (flags_set First (λ a b k. turned a b k) name bys load.first firsts h))

  sets_last : (name : List ℕ) → is_by bys name ≡ true → Sets (global_at None (Last name)) whole
  sets_last name h =
      sets_back (global_at None (Last name)) (clearing ++ rows ++ flags_in ++ flags_first) flags_last (flags_set Last (λ a b k. turned a b k) name bys load.last lasts h)

  -- `first` of these BY variables is 1 behind the load
  pub statement_ones : (p : ℕ) (name : List ℕ) → AllSet (drop p load.first) → is_by (drop p bys) name ≡ true → (c : Storage) → One (with_settings whole c (first_at name))
  statement_ones p name ones is c =
      let front = clearing ++ rows ++ flags_in in
      ap (λ (s : Storage). s (first_at name)) (over_two (front ++ flags_first) flags_last c) ∙ lasts_skip name bys load.last (with_settings (front ++ flags_first) c)
      ∙ ap (λ (s : Storage). s (first_at name)) (over_two front flags_first c) ∙ later_ones p name bys load.first firsts ones is (with_settings front c)

-- a load of `set` sets all columns and flags
pub set_whole : (variables : List Variable) (inputs : List Input) (bys : List ByVariable) (tables : InputTables) (load : Load) → length load.present ≡ length inputs → length load.first ≡ length bys → length load.last ≡ length bys
    → (home : Home) (g : Global) → is_column_or_flag (Set inputs bys) home g ≡ true → Sets (global_at home g) (settings_in variables inputs bys false tables load)
set_whole variables inputs bys tables load a b c None (Named name) h = sets_named variables inputs bys false tables load a b c refl name h
set_whole variables inputs bys tables load a b c None (First name) h = sets_first variables inputs bys false tables load a b c name h
set_whole variables inputs bys tables load a b c None (Last name) h = sets_last variables inputs bys false tables load a b c name h
set_whole variables inputs bys tables load a b c None (Present name) h = sets_present variables inputs bys false tables load a b c name h
set_whole variables inputs bys tables load a b c None (Parameter name) h = absurd (true≢false (sym h))
set_whole variables inputs bys tables load a b c (Some instance) g h = absurd (true≢false (sym h))

-- and so does the first load of a key of `merge`
pub merge_whole : (variables : List Variable) (inputs : List Input) (bys : List ByVariable) (retains : Bool) (tables : InputTables) (load : Load) → length load.present ≡ length inputs → length load.first ≡ length bys → length load.last ≡ length bys
    → load.is_fresh ≡ true → (home : Home) (g : Global) → is_column_or_flag (Merge inputs bys retains) home g ≡ true → Sets (global_at home g) (settings_in variables inputs bys retains tables load)
merge_whole variables inputs bys retains tables load a b c fresh None (Named name) h = sets_named variables inputs bys retains tables load a b c (or_right (not retains) load.is_fresh fresh) name h
merge_whole variables inputs bys retains tables load a b c fresh None (First name) h = sets_first variables inputs bys retains tables load a b c name h
merge_whole variables inputs bys retains tables load a b c fresh None (Last name) h = sets_last variables inputs bys retains tables load a b c name h
merge_whole variables inputs bys retains tables load a b c fresh None (Present name) h = sets_present variables inputs bys retains tables load a b c name h
merge_whole variables inputs bys retains tables load a b c fresh None (Parameter name) h = absurd (true≢false (sym h))
merge_whole variables inputs bys retains tables load a b c fresh (Some instance) g h = absurd (true≢false (sym h))

-- a row of a thread program sets all columns
pub stage_whole : (variables : List Variable) (instance : List ℕ) (workers : ℕ) (columns : Columns) (row : Row) → row_fits row columns ≡ true
    → (home : Home) (g : Global) → is_column_or_flag (From instance workers columns) home g ≡ true → Sets (global_at home g) (row_settings variables columns row)
stage_whole variables instance workers columns row fit None (Named name) h = row_set variables name columns row fit h
stage_whole variables instance workers columns row fit None (First name) h = absurd (true≢false (sym h))
stage_whole variables instance workers columns row fit None (Last name) h = absurd (true≢false (sym h))
stage_whole variables instance workers columns row fit None (Present name) h = absurd (true≢false (sym h))
stage_whole variables instance workers columns row fit None (Parameter name) h = absurd (true≢false (sym h))
stage_whole variables instance workers columns row fit (Some i) g h = absurd (true≢false (sym h))
