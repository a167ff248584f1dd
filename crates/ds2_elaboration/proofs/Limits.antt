-- A program that breaks no rule of names has no more tables and BY variables than the limits allow.
use Rattle.std.proofs.Common.{◌≡◌, inl, inr, ℕ, suc, ◌≤◌, ◌==◌, nat_lt, Bool, true, false, not, ◌&&◌, List, [], ◌∷◌, ◌++◌, length, map, filter, cond, Option, Some, None, refl, sym, ap, ◌∙◌, subst, true≢false, arith}
use Rattle.std.specs.List.{AllByRecursion}
use Rattle.std.proofs.lemmas.Bool.{or_cases, and_parts, ltb-true, ltb-false, eqb-true, false_from_ne_true, not_from_false}
use Rattle.std.proofs.lemmas.List.{length-map}
use Rattle.ds2_base.specs.declared.place.Place.{Place}
use Rattle.ds2_token.specs.declared.token.Token.{Token}
use Rattle.ds2_tree.specs.Lists.{one_token, if_any, all_spelled}
use Rattle.ds2_tree.specs.Readings.{input_flag_spelling, input_spelling, merge_retain_spelling, by_variable_spelling, by_spelling, reading_spelling}
use Rattle.ds2_tree.specs.Marks.{semicolon_mark}
use Rattle.ds2_tree.specs.declared.readings.By.{By}
use Rattle.ds2_tree.specs.declared.readings.ByVariable as source_by
use Rattle.ds2_tree.specs.declared.readings.Input as source_input
use Rattle.ds2_tree.specs.declared.readings.Reading as source_reading
use Rattle.ds2_tree.specs.declared.readings.Reading.TheVariants as read_as
use Rattle.ds2_names.specs.NameRules.{from_each}
use Rattle.ds2_names.specs.SourceUnit.{is_earlier, tables_of_reading, by_list, bys_of_reading}
use Rattle.ds2_names.specs.UnitRules.{beyond}
use Rattle.ds2_elaboration.specs.TypedPrograms.{StandInOrder}
use Rattle.ds2_elaboration.proofs.Orders.{Within, none_within, itself_within, behind_others, before_others, order_within, parts_within, kept, passed, none_left}

-- ---- places

not_earlier_both : (a b : Place) → is_earlier a b ≡ true → is_earlier b a ≡ true → true ≡ false
not_earlier_both a b g h = elim (or_cases (nat_lt a.line b.line) ((a.line == b.line) && nat_lt a.column b.column) g) [
  | inl x ↦ elim (or_cases (nat_lt b.line a.line) ((b.line == a.line) && nat_lt b.column a.column) h) [
    | inl y ↦ absurd (omega (arith, ltb-true a.line b.line x, ltb-true b.line a.line y))
    | inr y ↦ absurd (omega (arith, ltb-true a.line b.line x, eqb-true b.line a.line (and_parts (b.line == a.line) (nat_lt b.column a.column) y).0))
  ]
  | inr x ↦ let p = and_parts (a.line == b.line) (nat_lt a.column b.column) x in elim (or_cases (nat_lt b.line a.line) ((b.line == a.line) && nat_lt b.column a.column) h) [
    | inl y ↦ absurd (omega (arith, eqb-true a.line b.line p.0, ltb-true b.line a.line y))
    | inr y ↦ absurd (omega (arith, ltb-true a.column b.column p.1, ltb-true b.column a.column (and_parts (b.line == a.line) (nat_lt b.column a.column) y).1))
  ]
]

pub later_not_earlier : (a b : Place) → is_earlier a b ≡ true → is_earlier b a ≡ false
later_not_earlier a b h = false_from_ne_true (is_earlier b a) (λ g. true≢false (not_earlier_both a b h g))

itself_not_earlier : (a : Place) → is_earlier a a ≡ false
itself_not_earlier a = false_from_ne_true (is_earlier a a) (λ g. true≢false (not_earlier_both a a g g))

-- ---- the last of tokens in order

abbrev last_of : Token → List Token → Token
last_of t [] = t
last_of t (next ∷ tokens) = last_of next tokens

of_last : (P : Token → Type 0) (t : Token) (tokens : List Token) → AllByRecursion P (t ∷ tokens) → P (last_of t tokens)
of_last P t [] f = f.0
of_last P t (next ∷ tokens) f = of_last P next tokens f.1

none_later : (t : Token) (tokens : List Token) → StandInOrder (t ∷ tokens)
    → AllByRecursion (λ (other : Token). not (is_earlier (last_of t tokens).place other.place) ≡ true) (t ∷ tokens)
none_later t [] o = (not_from_false (is_earlier t.place t.place) (itself_not_earlier t.place), tt)
none_later t (next ∷ tokens) o =
    let last = last_of next tokens in
    let first = of_last (λ (later : Token). is_earlier t.place later.place ≡ true) next tokens o.0 in
    (not_from_false (is_earlier last.place t.place) (later_not_earlier t.place last.place first), none_later next tokens o.1)

counted_if : (b : Bool) (x : Place) (xs rest : List Place) → b ≡ true → length rest ≡ length xs → length (cond b (x ∷ rest) rest) ≡ suc (length xs)
counted_if true x xs rest e h = ap suc h
counted_if false x xs rest e h = cc

-- all places are counted where each passes
all_counted : (test : Place → Bool) (tokens : List Token) → AllByRecursion (λ (t : Token). test t.place ≡ true) tokens
    → length (filter test (map (λ (t : Token). t.place) tokens)) ≡ length (map (λ (t : Token). t.place) tokens)
all_counted test [] f = refl
all_counted test (t ∷ tokens) f =
    let places = map (λ (x : Token). x.place) tokens in counted_if (test t.place) t.place places (filter test places) f.0 (all_counted test tokens f.1)

on_tokens : (P : Place → Type 0) (tokens : List Token) → AllByRecursion P (map (λ (t : Token). t.place) tokens) → AllByRecursion (λ (t : Token). P t.place) tokens
on_tokens P [] f = tt
on_tokens P (t ∷ tokens) f = (f.0, on_tokens P tokens f.1)

not_above : (limit n : ℕ) → nat_lt limit n ≡ false → n ≤ limit
not_above limit n h = ltb-false limit n h

-- tokens in order, of which none stands beyond a limit, are at most so many
pub at_most : (limit : ℕ) (tokens : List Token) → StandInOrder tokens → beyond limit (map (λ (t : Token). t.place) tokens) ≡ [] → length tokens ≤ limit
at_most limit [] o h = omega arith
at_most limit (t ∷ tokens) o h =
    let places = map (λ (x : Token). x.place) (t ∷ tokens) in
    let last = last_of t tokens in
    let counts = λ (place : Place). nat_lt limit (length (filter (λ (other : Place). not (is_earlier place other)) places)) in
    let few = of_last (λ (x : Token). counts x.place ≡ false) t tokens (on_tokens (λ (place : Place). counts place ≡ false) (t ∷ tokens) (none_left counts places h)) in
    let all = all_counted (λ (other : Place). not (is_earlier last.place other)) (t ∷ tokens) (none_later t tokens o) in
    not_above limit (length (t ∷ tokens)) (ap (λ n. nat_lt limit n) (sym (all ∙ length-map (t ∷ tokens) (λ (x : Token). x.place))) ∙ few)

-- ---- the tables and the BY variables of a reading statement

-- the tokens of its tables, and those of its BY variables
abbrev pub table_tokens : Option source_reading.Reading → List Token
table_tokens reading = map (λ (i : source_input.Input). i.table) (tables_of_reading reading)

abbrev pub by_tokens : Option source_reading.Reading → List Token
by_tokens reading = map (λ (b : source_by.ByVariable). b.name) (bys_of_reading reading)

inputs_within : (inputs : List source_input.Input) → Within (map (λ (i : source_input.Input). i.table) inputs) (all_spelled input_spelling inputs)
inputs_within [] = none_within []
inputs_within (i ∷ inputs) = kept i.table (behind_others (if_any input_flag_spelling i.flag) (inputs_within inputs))

one_by_within : (b : source_by.ByVariable) → Within (b.name ∷ []) (by_variable_spelling b)
one_by_within b = behind_others (if_any one_token b.descending) (itself_within (b.name ∷ []))

one_each_by : (bys : List source_by.ByVariable) → from_each (λ (b : source_by.ByVariable). b.name ∷ []) bys ≡ map (λ (b : source_by.ByVariable). b.name) bys
one_each_by [] = refl
one_each_by (b ∷ bys) = ap (λ ts. b.name ∷ ts) (one_each_by bys)

bys_within : (bys : List source_by.ByVariable) → Within (map (λ (b : source_by.ByVariable). b.name) bys) (all_spelled by_variable_spelling bys)
bys_within bys =
    subst (λ ts. Within ts (all_spelled by_variable_spelling bys)) (one_each_by bys)
    (parts_within (λ (b : source_by.ByVariable). b.name ∷ []) by_variable_spelling one_by_within bys)

by_within : (b : By) → Within (map (λ (x : source_by.ByVariable). x.name) b.variables) (by_spelling b)
by_within b = passed b.keyword (before_others (semicolon_mark b.end ∷ []) (bys_within b.variables))

some_by_within : (by : Option By) → Within (map (λ (x : source_by.ByVariable). x.name) (by_list by)) (if_any by_spelling by)
some_by_within None = none_within []
some_by_within (Some by) = by_within by

pub tables_within : (reading : Option source_reading.Reading) → Within (table_tokens reading) (if_any reading_spelling reading)
tables_within None = none_within []
tables_within (Some (read_as.Set keyword inputs end by)) = passed keyword (before_others (semicolon_mark end ∷ if_any by_spelling by) (inputs_within inputs))
tables_within (Some (read_as.SetFrom keyword from instance threads end)) = none_within (reading_spelling (read_as.SetFrom keyword from instance threads end))
tables_within (Some (read_as.Merge keyword inputs retain end by)) =
    passed keyword (before_others (if_any merge_retain_spelling retain ++ (semicolon_mark end ∷ by_spelling by)) (inputs_within inputs))

all_bys_within : (reading : Option source_reading.Reading) → Within (by_tokens reading) (if_any reading_spelling reading)
all_bys_within None = none_within []
all_bys_within (Some (read_as.Set keyword inputs end by)) =
    passed keyword (behind_others (all_spelled input_spelling inputs) (passed (semicolon_mark end) (some_by_within by)))
all_bys_within (Some (read_as.SetFrom keyword from instance threads end)) = none_within (reading_spelling (read_as.SetFrom keyword from instance threads end))
all_bys_within (Some (read_as.Merge keyword inputs retain end by)) =
    passed keyword (behind_others (all_spelled input_spelling inputs) (behind_others (if_any merge_retain_spelling retain) (passed (semicolon_mark end) (by_within by))))

-- a reading statement has at most 16 tables and 16 BY variables
pub few_tables : (reading : Option source_reading.Reading) → StandInOrder (if_any reading_spelling reading)
    → beyond 16 (map (λ (t : Token). t.place) (table_tokens reading)) ≡ [] → length (tables_of_reading reading) ≤ 16
few_tables reading o h =
    subst (λ n. n ≤ 16) (length-map (tables_of_reading reading) (λ (i : source_input.Input). i.table))
    (at_most 16 (table_tokens reading) (order_within (tables_within reading) o) h)

pub few_bys : (reading : Option source_reading.Reading) → StandInOrder (if_any reading_spelling reading)
    → beyond 16 (map (λ (t : Token). t.place) (by_tokens reading)) ≡ [] → length (bys_of_reading reading) ≤ 16
few_bys reading o h =
    subst (λ n. n ≤ 16) (length-map (bys_of_reading reading) (λ (b : source_by.ByVariable). b.name))
    (at_most 16 (by_tokens reading) (order_within (all_bys_within reading) o) h)
