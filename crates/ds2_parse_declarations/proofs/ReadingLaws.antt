-- The laws of reading statements.
use Rattle.std.proofs.Common.{true≢false, ◌≡◌, ℕ, true, false, ◌||◌, codes, List, [], ◌∷◌, ◌++◌, Option, None, Some, refl, sym, ap, ◌∙◌, append_assoc}
use Rattle.ds2_base.specs.declared.place.Place.{Place}
use Rattle.ds2_token.specs.declared.token.Token.{Token}
use Rattle.ds2_token.specs.Words.{quoted_kind, is_word, is_one_of, is_name_token, is_table, is_integer, reserved_words}
use Rattle.ds2_tree.specs.Parsers.{One, Two, first, when}
use Rattle.ds2_tree.proofs.Words.{Part, Law, Passes, kept_law, choice_part, then_part, kept_part}
use Rattle.ds2_tree.specs.declared.readings.Reading.{Reading}
use Rattle.ds2_tree.specs.declared.readings.Reading.TheVariants.{Set, SetFrom, Merge}
use Rattle.ds2_tree.specs.declared.readings.Input.{Input}
use Rattle.ds2_tree.specs.declared.readings.MergeRetain.{MergeRetain}
use Rattle.ds2_tree.specs.declared.readings.By.{By}
use Rattle.ds2_tree.specs.declared.readings.ByVariable.{ByVariable}
use Rattle.ds2_tree.specs.Marks.{semicolon_mark}
use Rattle.ds2_tree.specs.Lists.{if_any, one_token, all_spelled, IfAny, SomeOf}
use Rattle.ds2_tree.specs.Readings.{input_flag_spelling, IsInputFlag, input_spelling, IsInput, by_variable_spelling, IsByVariable, by_spelling, IsBy, threads_spelling, IsThreads, merge_retain_spelling, reading_spelling, IsReading}
use Rattle.ds2_parse_rules.specs.GrammarTokens.{is_open_mark, starts}
use Rattle.ds2_parse_rules.specs.ReadingGrammar.{input_flag_of, input_flag_rule, input_read, input_rule, inputs_rule, begins_by_variable, by_variable_of, by_variable_rule, by_of, by_rule, threads_of, threads_rule, SetFromTree, set_from_rule, SetTree, set_tables_rule, is_slash_mark, merge_retain_of, merge_retain_rule, MergeTree, merge_rule, ReadingTree, reading_of_kind, reading_rule}
use Rattle.ds2_parse_rules.proofs.GrammarTokenLaws.{within, word_value, name_is_none, mark_law, Behind, word_token, zero_token, or_last}
use Rattle.ds2_parse_rules.proofs.PlainLaws.{alike_law, plain_part, Anything, plain_law, followed, chosen, mark_then, word_then, name_then, kept_then, word_law, name_law, any_law, any_word, some_law}

-- ---- tables

pub table_is_name : (t : Token) → is_table t ≡ true → is_name_token t ≡ true
table_is_name t h = or_last (quoted_kind t.kind) (is_table t) h

-- a table is no word of the grammar that is reserved, and no mark
pub table_is_none : (ws ms : List (List ℕ)) (t : Token) → within ws reserved_words ≡ true → is_table t ≡ true → is_one_of ws ms t ≡ false
table_is_none ws ms t r h = name_is_none ws ms t r (table_is_name t h)

pub table_none : (ws ms : List (List ℕ)) (o : Option Token) → within ws reserved_words ≡ true → when is_table o ≡ true → when (is_one_of ws ms) o ≡ false
table_none ws ms None r h = absurd (true≢false (sym h))
table_none ws ms (Some t) r h = table_is_none ws ms t r h

-- ---- inputs

abbrev pub AfterInput : Option Token → Type 0
AfterInput o = Behind is_open_mark Anything o

abbrev pub AfterInputs : Option Token → Type 0
AfterInputs o = Behind is_table AfterInput o

module _ {m n : ℕ} where
  flag_law : Law m n (plain_part input_flag_spelling IsInputFlag Anything) input_flag_rule
  flag_law = plain_law input_flag_spelling IsInputFlag Anything input_flag_of (λ b. (b.opening, (b.keyword, (b.equals, (b.name, b.closing)))))
      (mark_then (codes "(") refl (word_then (codes "in") refl (mark_then (codes "=") refl (name_then (mark_law m n (codes ")") refl)))))
      (λ b f. refl) (λ a. refl) (λ a. refl) (λ a f. (f.1.0, f.1.1.1.0)) (λ b f. (tt, (f.0, (tt, (f.1, tt, tt), tt), tt), tt)) (λ a o f h. tt)

  input_law : Law m n (plain_part input_spelling IsInput AfterInput) input_rule
  input_law = plain_law input_spelling IsInput AfterInput input_read (λ b. (b.table, b.flag))
      (kept_then is_table (word_token (codes "x"), refl) (any_law flag_law is_open_mark (λ a rest f. refl)))
      (λ b f. refl) (λ a. refl) (λ a. refl) (λ a f. (f.0, f.1)) (λ b f. (f.0, f.1, tt)) (λ a o f h. h)

  inputs_law : Law m n (plain_part (all_spelled input_spelling) (SomeOf IsInput) AfterInputs) (inputs_rule m)
  inputs_law = some_law input_law is_table (λ a rest f. f.0) (λ b rest f. (table_is_none [] (codes "(" ∷ []) b.table refl f.0, tt))

pub inputs_begin : (l : List Input) (rest : List Token) → SomeOf IsInput l → when is_table (first (all_spelled input_spelling l ++ rest)) ≡ true
inputs_begin [] rest f = absurd f
inputs_begin (i ∷ l) rest f = f.0.0

-- ---- by

by_variable_begins : (v : ByVariable) (rest : List Token) → IsByVariable v → when begins_by_variable (first (by_variable_spelling v ++ rest)) ≡ true
by_variable_begins v rest f = at v.descending v.name rest f.0 f.1
  where
    at : (d : Option Token) (t : Token) (rest : List Token) → IfAny (Passes (is_word (codes "descending"))) d → is_name_token t ≡ true → when begins_by_variable (first ((if_any one_token d ++ (t ∷ [])) ++ rest)) ≡ true
    at None t rest f g = ap (λ b. b || starts (codes "descending") t) g
    at (Some d) t rest f g = or_last (is_name_token d) (starts (codes "descending") d) (word_value (codes "descending") d f (codes "descending" ∷ []) [])

module _ {m n : ℕ} where
  by_variable_law : Law m n (plain_part by_variable_spelling IsByVariable Anything) by_variable_rule
  by_variable_law = plain_law by_variable_spelling IsByVariable Anything by_variable_of (λ b. (b.descending, b.name))
      (followed (any_word (codes "descending") refl refl) (name_law m n) (λ x t rest f g h. (name_is_none (codes "descending" ∷ []) [] t refl g, tt)))
      (λ b f. refl) (λ a. refl) (λ a. refl) (λ a f. (f.0, f.1)) (λ b f. (f.0, f.1, tt)) (λ a o f h. tt)

  pub by_law : Law m n (plain_part by_spelling IsBy Anything) (by_rule m)
  by_law = plain_law by_spelling IsBy Anything by_of (λ b. (b.keyword, (b.variables, b.end)))
      (word_then (codes "by") refl (followed (some_law by_variable_law begins_by_variable by_variable_begins (λ b rest f. tt)) (mark_law m n (codes ";") refl) (λ a b rest f g h. (refl, tt))))
      (λ b f. refl) (λ a. refl) (λ a. refl) (λ a f. (f.0, f.1.0)) (λ b f. (f.0, (f.1, tt, tt), tt)) (λ a o f h. tt)

-- ---- set and merge

-- "from" name [ "threads" "=" integer ] ";"
abbrev from_spelling : SetFromTree → List Token
from_spelling x = x.0 ∷ (x.1.0 ∷ (if_any threads_spelling x.1.1.0 ++ (semicolon_mark x.1.1.1 ∷ [])))

abbrev IsFrom : SetFromTree → Type 0
IsFrom x = Passes (is_word (codes "from")) x.0 × Passes is_name_token x.1.0 × IfAny IsThreads x.1.1.0

abbrev pub AfterReading : Option Token → Type 0
AfterReading o = when (starts (codes "by")) o ≡ false

-- input { input } ";" [ by ]
abbrev tables_spelling : SetTree → List Token
tables_spelling x = all_spelled input_spelling x.0 ++ (semicolon_mark x.1.0 ∷ if_any by_spelling x.1.1)

abbrev IsTables : SetTree → Type 0
IsTables x = SomeOf IsInput x.0 × IfAny IsBy x.1.1

-- "merge" input { input } [ "/" "retain" ] ";" by
abbrev merge_spelling : MergeTree → List Token
merge_spelling x = x.0 ∷ (all_spelled input_spelling x.1.0 ++ (if_any merge_retain_spelling x.1.1.0 ++ (semicolon_mark x.1.1.1.0 ∷ by_spelling x.1.1.1.1)))

abbrev IsMerge : MergeTree → Type 0
IsMerge x = Passes (is_word (codes "merge")) x.0 × SomeOf IsInput x.1.0 × IfAny (λ r. is_word (codes "retain") r.keyword ≡ true) x.1.1.0 × IsBy x.1.1.1.1

abbrev kinds : Part ReadingTree
kinds = choice_part (then_part (kept_part (is_word (codes "set"))) (choice_part (plain_part from_spelling IsFrom Anything) (plain_part tables_spelling IsTables AfterReading))) (plain_part merge_spelling IsMerge Anything)

behind_inputs : (x : Option MergeRetain × (Place × By)) (rest : List Token) → AfterInputs (first ((if_any merge_retain_spelling x.0 ++ (semicolon_mark x.1.0 ∷ by_spelling x.1.1)) ++ rest))
behind_inputs (None, x) rest = (refl, (refl, tt))
behind_inputs (Some r, x) rest = (refl, (refl, tt))

tables_no_from : (x : SetTree) (rest : List Token) → IsTables x → AfterReading (first rest) → when (starts (codes "from")) (first (tables_spelling x ++ rest)) ≡ false
tables_no_from x rest f h =
    let tail = semicolon_mark x.1.0 ∷ if_any by_spelling x.1.1 in
    table_none (codes "from" ∷ []) [] (first (tables_spelling x ++ rest)) refl
    (ap (λ (ts : List Token). when is_table (first ts)) (append_assoc (all_spelled input_spelling x.0) tail rest) ∙ inputs_begin x.0 (tail ++ rest) f.0)

module _ {m n : ℕ} where
  threads_law : Law m n (plain_part threads_spelling IsThreads Anything) threads_rule
  threads_law = plain_law threads_spelling IsThreads Anything threads_of (λ b. (b.keyword, (b.equals, b.number)))
      (word_then (codes "threads") refl (mark_then (codes "=") refl (kept_law m n is_integer (zero_token, refl))))
      (λ b f. refl) (λ a. refl) (λ a. refl) (λ a f. (f.0, f.1.1)) (λ b f. (f.0, (tt, f.1, tt), tt)) (λ a o f h. tt)

  retain_law : Law m n (plain_part merge_retain_spelling (λ r. is_word (codes "retain") r.keyword ≡ true) Anything) merge_retain_rule
  retain_law = plain_law merge_retain_spelling (λ r. is_word (codes "retain") r.keyword ≡ true) Anything merge_retain_of (λ b. (b.slash, b.keyword))
      (mark_then (codes "/") refl (word_law m n (codes "retain") refl))
      (λ b f. refl) (λ a. refl) (λ a. refl) (λ a f. f.1) (λ b f. (tt, f, tt)) (λ a o f h. tt)

  from_law : Law m n (plain_part from_spelling IsFrom Anything) set_from_rule
  from_law = alike_law (plain_part from_spelling IsFrom Anything)
      (word_then (codes "from") refl (name_then (followed (any_law threads_law (starts (codes "threads")) (λ a rest f. word_value (codes "threads") a.keyword f.0 (codes "threads" ∷ []) []))
      (mark_law m n (codes ";") refl) (λ a b rest f g h. (refl, tt)))))
      (λ a. refl) (λ a. refl) (λ a f. (f.0, f.1.0, f.1.1.0)) (λ a f. (f.0, (f.1, (f.2, tt, tt), tt), tt)) (λ a o f h. tt) (λ a o h. tt)

  tables_law : Law m n (plain_part tables_spelling IsTables AfterReading) (set_tables_rule m)
  tables_law = alike_law (plain_part tables_spelling IsTables AfterReading)
      (followed inputs_law (mark_then (codes ";") refl (any_law by_law (starts (codes "by")) (λ a rest f. word_value (codes "by") a.keyword f.0 (codes "by" ∷ []) []))) (λ a b rest f g h. (refl, (refl, tt))))
      (λ a. refl) (λ a. refl) (λ a f. (f.0, f.1.1)) (λ a f. (f.0, (tt, f.1, tt), tt)) (λ a o f h. (h, tt)) (λ a o h. tt)

  merge_law : Law m n (plain_part merge_spelling IsMerge Anything) (merge_rule m)
  merge_law = alike_law (plain_part merge_spelling IsMerge Anything)
      (word_then (codes "merge") refl (followed inputs_law
      (followed (any_law retain_law is_slash_mark (λ a rest f. refl)) (mark_then (codes ";") refl by_law) (λ a b rest f g h. (refl, tt))) (λ l x rest f g h. behind_inputs x rest)))
      (λ a. refl) (λ a. refl) (λ a f. (f.0, f.1.0, f.1.1.0, f.1.1.1.1)) (λ a f. (f.0, (f.1, (f.2, (tt, f.3, tt), tt), tt), tt)) (λ a o f h. tt) (λ a o h. tt)

  pub reading_law : Law m n (plain_part reading_spelling IsReading AfterReading) (reading_rule m)
  reading_law = plain_law reading_spelling IsReading AfterReading reading_of_kind reading_from
      (chosen (word_then (codes "set") refl (chosen from_law tables_law (starts (codes "from")) (λ x rest f. word_value (codes "from") x.0 f.0 (codes "from" ∷ []) []) tables_no_from)) merge_law
      (starts (codes "set")) (λ x rest f. word_value (codes "set") x.0 f.0 (codes "set" ∷ []) []) (λ x rest f h. word_value (codes "merge") x.0 f.0 (codes "set" ∷ []) []))
      back spelled opened fine fine' next
    where
      reading_from : Reading → ReadingTree
      reading_from (SetFrom k w i t p) = One (k, One (w, (i, (t, p))))
      reading_from (Set k l p b) = One (k, Two (l, (p, b)))
      reading_from (Merge k l r p b) = Two (k, (l, (r, (p, b))))

      back : (b : Reading) → IsReading b → reading_of_kind (reading_from b) ≡ b
      back (SetFrom k w i t p) f = refl
      back (Set k l p b) f = refl
      back (Merge k l r p b) f = refl

      spelled : (a : ReadingTree) → reading_spelling (reading_of_kind a) ≡ kinds.spelling a
      spelled (One (k, One x)) = refl
      spelled (One (k, Two x)) = refl
      spelled (Two x) = refl

      opened : (a : ReadingTree) → None ≡ kinds.opens a
      opened (One (k, One x)) = refl
      opened (One (k, Two x)) = refl
      opened (Two x) = refl

      fine : (a : ReadingTree) → kinds.Fine a → IsReading (reading_of_kind a)
      fine (One (k, One x)) f = (f.0, f.1.0, f.1.1, f.1.2)
      fine (One (k, Two x)) f = (f.0, f.1.0, f.1.1)
      fine (Two x) f = f

      fine' : (b : Reading) → IsReading b → kinds.Fine (reading_from b)
      fine' (SetFrom k w i t p) f = (f.0, (f.1, f.2, f.3), tt)
      fine' (Set k l p b) f = (f.0, (f.1, f.2), tt)
      fine' (Merge k l r p b) f = f

      next : (a : ReadingTree) (o : Option Token) → kinds.Fine a → AfterReading o → kinds.Next a o
      next (One (k, One x)) o f h = tt
      next (One (k, Two x)) o f h = h
      next (Two x) o f h = tt
