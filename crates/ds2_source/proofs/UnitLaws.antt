-- The laws of output tables, units and the parts of a source.
use Rattle.std.proofs.Common.{◌≡◌, ℕ, ◌+◌, true, false, codes, List, [], ◌∷◌, ◌++◌, length, Option, None, refl, ap, ap₂, ◌∙◌, subst, arith, length-append}
use Rattle.std.specs.List.{list_any}
use Rattle.std.specs.Str.{bytes_eq}
use Rattle.ds2_base.specs.declared.place.Place.{Place}
use Rattle.ds2_token.specs.declared.token.Token.{Token}
use Rattle.ds2_token.specs.Words.{is_word, is_name_token, is_package_name, is_table}
use Rattle.ds2_tree.specs.Levels.{first_opened}
use Rattle.ds2_tree.specs.Parsers.{Read, Parser, Either, One, Two, first, kept, when, choose_by, to, seq, many_of, optional}
use Rattle.ds2_tree.proofs.Rules.{Rule}
use Rattle.ds2_tree.proofs.Words.{sym as symbol, Part, Law, Passes, kept_law, to_law, choice_part, then_part, kept_part, flat, flat_opens, each, many_law}
use Rattle.ds2_tree.specs.declared.units.OutputOption.{OutputOption}
use Rattle.ds2_tree.specs.declared.units.OutputOption.TheVariants as option
use Rattle.ds2_tree.specs.declared.units.Renaming.{Renaming}
use Rattle.ds2_tree.specs.Marks.{open_mark, close_mark, equals_mark}
use Rattle.ds2_tree.specs.Lists.{if_any, one_token, all_spelled, IfAny, SomeOf, Each}
use Rattle.ds2_tree.specs.Globals.{GlobalItem, global_spelling, IsGlobal, parameters_spelling, AreParameters}
use Rattle.ds2_tree.specs.Units.{Package, Thread, DataProgram, SourcePart, Proc, Run, Quit, APackage, AThread, AData, renaming_spelling, option_spelling, options_spelling, output_spelling, package_spelling, thread_spelling, data_spelling, part_spelling, source_spelling, is_kept_or_dropped, is_answer, IsRenaming, IsOption, IsOutput, IsPackage, IsThread, IsData, IsPart, IsSource, globals_opens, unit_opens, part_opens, source_opens}
use Rattle.ds2_parse_rules.specs.GrammarTokens.{mark_rule, word_rule, is_open_mark, starts, one_or_more}
use Rattle.ds2_parse_rules.specs.GlobalGrammar.{parameters_rule, begins_global, global_rule}
use Rattle.ds2_parse_rules.specs.UnitGrammar.{renaming_of, renaming_rule, OptionListTree, kept_option_rule, overwrite_rule, rename_rule, OptionTree, option_of_kind, begins_option, option_rule, options_read, options_rule, output_read, output_rule, UnitBody, unit_body_rule, package_of, package_rule, thread_of, thread_rule, data_of, data_rule, UnitRead, unit_rule, PartTree, part_of_kind, begins_part, part_rule, parts_rule}
use Rattle.ds2_parse_rules.proofs.GrammarTokenLaws.{word_value, among_more, mark_law, place_part, Behind, word_token}
use Rattle.ds2_parse_rules.proofs.PlainLaws.{alike_law, plain_part, Anything, plain_law, followed, chosen, mark_then, word_then, name_then, kept_then, name_law, any_law, all_law, some_law}
use Rattle.ds2_parse_declarations.proofs.ReadingLaws.{table_is_none}
use Rattle.ds2_parse_declarations.proofs.DeclarationLaws.{names_law}
use Rattle.ds2_source.proofs.GlobalLaws.{parameters_law, global_part, global_law, global_begins}

-- ---- options of an output table

abbrev kept_words : List (List ℕ)
kept_words = codes "keep" ∷ codes "drop" ∷ []

abbrev option_words : List (List ℕ)
option_words = codes "keep" ∷ codes "drop" ∷ codes "overwrite" ∷ codes "rename" ∷ []

-- word "=" "(" list ")"
abbrev list_option : {A : Type 0} → (List A → List Token) → OptionListTree A → List Token
list_option spelling x = x.0 ∷ (equals_mark x.1.0 ∷ (open_mark x.1.1.0 ∷ (spelling x.1.1.1.0 ++ (close_mark x.1.1.1.1 ∷ []))))

abbrev IsKept : OptionListTree Token → Type 0
IsKept x = Passes is_kept_or_dropped x.0 × SomeOf (Passes is_name_token) x.1.1.1.0

abbrev overwrite_spelling : Token × (Place × Token) → List Token
overwrite_spelling x = x.0 ∷ (equals_mark x.1.0 ∷ (x.1.1 ∷ []))

abbrev IsOverwrite : Token × (Place × Token) → Type 0
IsOverwrite x = Passes (is_word (codes "overwrite")) x.0 × Passes is_answer x.1.1

abbrev IsRename : OptionListTree Renaming → Type 0
IsRename x = Passes (is_word (codes "rename")) x.0 × SomeOf IsRenaming x.1.1.1.0

abbrev keeps : Part (OptionListTree Token)
keeps = plain_part (list_option (all_spelled one_token)) IsKept Anything

abbrev overwrites : Part (Token × (Place × Token))
overwrites = plain_part overwrite_spelling IsOverwrite Anything

abbrev renames : Part (OptionListTree Renaming)
renames = plain_part (list_option (all_spelled renaming_spelling)) IsRename Anything

abbrev option_kinds : Part OptionTree
option_kinds = choice_part keeps (choice_part overwrites renames)

not_kept : (x : Either (Token × (Place × Token)) (OptionListTree Renaming)) (rest : List Token) → (choice_part overwrites renames).Fine x → when is_kept_or_dropped (first ((choice_part overwrites renames).spelling x ++ rest)) ≡ false
not_kept (One x) rest f = word_value (codes "overwrite") x.0 f.0 kept_words []
not_kept (Two x) rest f = word_value (codes "rename") x.0 f.0 kept_words []

option_begins : (o : OutputOption) (rest : List Token) → IsOption o → when begins_option (first (option_spelling o ++ rest)) ≡ true
option_begins (option.Listed k e p l q) rest f = among_more kept_words [] option_words [] k f.0 refl refl
option_begins (option.Overwrite k e a) rest f = word_value (codes "overwrite") k f.0 option_words []
option_begins (option.Rename k e p l q) rest f = word_value (codes "rename") k f.0 option_words []

module _ {m n : ℕ} where
  renaming_law : Law m n (plain_part renaming_spelling IsRenaming Anything) renaming_rule
  renaming_law = plain_law renaming_spelling IsRenaming Anything renaming_of (λ b. (b.old, (b.equals, b.new)))
      (name_then (mark_then (codes "=") refl (name_law m n)))
      (λ b f. refl) (λ a. refl) (λ a. refl) (λ a f. (f.0, f.1.1)) (λ b f. (f.0, (tt, f.1, tt), tt)) (λ a o f h. tt)

  keeps_law : Law m n keeps (kept_option_rule m)
  keeps_law = alike_law keeps
      (kept_then is_kept_or_dropped (word_token (codes "keep"), refl) (mark_then (codes "=") refl (mark_then (codes "(") refl (followed names_law (mark_law m n (codes ")") refl) (λ a b rest f g h. (refl, tt))))))
      (λ a. refl) (λ a. refl) (λ a f. (f.0, f.1.1.1.0)) (λ a f. (f.0, (tt, (tt, (f.1, tt, tt), tt), tt), tt)) (λ a o f h. tt) (λ a o h. tt)

  overwrite_law : Law m n overwrites overwrite_rule
  overwrite_law = alike_law overwrites
      (word_then (codes "overwrite") refl (mark_then (codes "=") refl (kept_law m n is_answer (word_token (codes "yes"), refl))))
      (λ a. refl) (λ a. refl) (λ a f. (f.0, f.1.1)) (λ a f. (f.0, (tt, f.1, tt), tt)) (λ a o f h. tt) (λ a o h. tt)

  renames_law : Law m n renames (rename_rule m)
  renames_law = alike_law renames
      (word_then (codes "rename") refl (mark_then (codes "=") refl (mark_then (codes "(") refl
      (followed (some_law renaming_law is_name_token (λ b rest f. f.0) (λ b rest f. tt)) (mark_law m n (codes ")") refl) (λ a b rest f g h. (refl, tt))))))
      (λ a. refl) (λ a. refl) (λ a f. (f.0, f.1.1.1.0)) (λ a f. (f.0, (tt, (tt, (f.1, tt, tt), tt), tt), tt)) (λ a o f h. tt) (λ a o h. tt)

  option_law : Law m n (plain_part option_spelling IsOption Anything) (option_rule m)
  option_law = plain_law option_spelling IsOption Anything option_of_kind option_from
      (chosen keeps_law (chosen overwrite_law renames_law (starts (codes "overwrite")) (λ x rest f. word_value (codes "overwrite") x.0 f.0 (codes "overwrite" ∷ []) [])
      (λ x rest f h. word_value (codes "rename") x.0 f.0 (codes "overwrite" ∷ []) [])) is_kept_or_dropped (λ x rest f. f.0) (λ x rest f h. not_kept x rest f))
      back spelled opened fine fine' next
    where
      option_from : OutputOption → OptionTree
      option_from (option.Listed k e p l q) = One (k, (e, (p, (l, q))))
      option_from (option.Overwrite k e a) = Two (One (k, (e, a)))
      option_from (option.Rename k e p l q) = Two (Two (k, (e, (p, (l, q)))))

      back : (b : OutputOption) → IsOption b → option_of_kind (option_from b) ≡ b
      back (option.Listed k e p l q) f = refl
      back (option.Overwrite k e a) f = refl
      back (option.Rename k e p l q) f = refl

      spelled : (a : OptionTree) → option_spelling (option_of_kind a) ≡ option_kinds.spelling a
      spelled (One x) = refl
      spelled (Two (One x)) = refl
      spelled (Two (Two x)) = refl

      opened : (a : OptionTree) → None ≡ option_kinds.opens a
      opened (One x) = refl
      opened (Two (One x)) = refl
      opened (Two (Two x)) = refl

      fine : (a : OptionTree) → option_kinds.Fine a → IsOption (option_of_kind a)
      fine (One x) f = f
      fine (Two (One x)) f = f
      fine (Two (Two x)) f = f

      fine' : (b : OutputOption) → IsOption b → option_kinds.Fine (option_from b)
      fine' (option.Listed k e p l q) f = f
      fine' (option.Overwrite k e a) f = f
      fine' (option.Rename k e p l q) f = f

      next : (a : OptionTree) (o : Option Token) → option_kinds.Fine a → Unit {0} → option_kinds.Next a o
      next (One x) o f h = tt
      next (Two (One x)) o f h = tt
      next (Two (Two x)) o f h = tt

  options_law : Law m n (plain_part options_spelling (λ o. Each IsOption o.list) Anything) (options_rule m)
  options_law = plain_law options_spelling (λ o. Each IsOption o.list) Anything options_read (λ b. (b.opening, (b.list, b.closing)))
      (mark_then (codes "(") refl (followed (all_law option_law begins_option option_begins (λ b rest f. tt)) (mark_law m n (codes ")") refl) (λ a b rest f g h. (refl, tt))))
      (λ b f. refl) (λ a. refl) (λ a. refl) (λ a f. f.1.0) (λ b f. (tt, (f, tt, tt), tt)) (λ a o f h. tt)

  output_law : Law m n (plain_part output_spelling IsOutput (Behind is_open_mark Anything)) (output_rule m)
  output_law = plain_law output_spelling IsOutput (Behind is_open_mark Anything) output_read (λ b. (b.table, b.options))
      (kept_then is_table (word_token (codes "x"), refl) (any_law options_law is_open_mark (λ a rest f. refl)))
      (λ b f. refl) (λ a. refl) (λ a. refl) (λ a f. (f.0, f.1)) (λ b f. (f.0, f.1, tt)) (λ a o f h. h)

  outputs_law : Law m n (plain_part (all_spelled output_spelling) (SomeOf IsOutput) (Behind is_table (Behind is_open_mark Anything))) (one_or_more m is_table (output_rule m))
  outputs_law = some_law output_law is_table (λ a rest f. f.0) (λ b rest f. (table_is_none [] (codes "(" ∷ []) b.table refl f.0, tt))

-- ---- the globals of a unit

flat_globals : (l : List GlobalItem) → all_spelled global_spelling l ≡ flat global_spelling l
flat_globals [] = refl
flat_globals (g ∷ l) = ap (λ (w : List Token). global_spelling g ++ w) (flat_globals l)

globals_open : (n : ℕ) (l : List GlobalItem) → globals_opens l n ≡ flat_opens global_spelling (global_part n).opens l
globals_open n [] = refl
globals_open n (g ∷ l) = ap₂ (λ (x : List Token) (y : Option (List Token)). first_opened ((global_part n).opens g) x y) (flat_globals l) (globals_open n l)

each_global : (l : List GlobalItem) → each IsGlobal l → Each IsGlobal l
each_global [] h = tt
each_global (g ∷ l) h = (h.0, each_global l h.1)

global_each : (l : List GlobalItem) → Each IsGlobal l → each IsGlobal l
global_each [] h = tt
global_each (g ∷ l) h = (h.0, global_each l h.1)

abbrev globals_part : ℕ → Part (List GlobalItem)
globals_part n = record { spelling = all_spelled global_spelling; Fine = Each IsGlobal; opens = λ l. globals_opens l n; Next = λ l o. when begins_global o ≡ false; Left = λ l o. Unit {0} }

abbrev end_of_unit : List ℕ → Part (Token × Place)
end_of_unit w = then_part (kept_part (is_word w)) (place_part (codes ";"))

abbrev unit_body : ℕ → List ℕ → Part UnitBody
unit_body n w = then_part (globals_part n) (end_of_unit w)

module _ (m n : ℕ) where
  globals_law : Law m n (globals_part n) (many_of m begins_global (global_rule m n))
  globals_law = alike_law (globals_part n)
      (many_law m n (global_part n) (global_rule m n) (global_law m n) begins_global global_begins (λ o. when begins_global o ≡ false) (λ o h. h) (λ g o f h. tt) (λ a b rest f g. tt) m (omega arith))
      flat_globals (globals_open n) each_global global_each (λ l o f h. h) (λ l o h. tt)

  unit_body_law : (w : List ℕ) → is_word w (word_token w) ≡ true → list_any (λ v. bytes_eq w v) (codes "dcl" ∷ codes "declare" ∷ codes "retain" ∷ codes "keep" ∷ codes "drop" ∷ codes "method" ∷ []) ≡ false
      → Law m n (unit_body n w) (unit_body_rule m n w)
  unit_body_law w h other = followed globals_law (word_then w h (mark_law m n (codes ";") refl))
      (λ l y rest f g next. word_value w y.0 g.0 (codes "dcl" ∷ codes "declare" ∷ codes "retain" ∷ codes "keep" ∷ codes "drop" ∷ codes "method" ∷ []) [] ∙ other)

-- ---- units

-- a unit: its spelling, which are of the grammar, and the levels that its globals open
abbrev unit_part : {A : Type 0} → (A → List Token) → (A → Type 0) → (A → Option (List Token)) → Part A
unit_part spelling Fine opens = record { spelling = spelling; Fine = Fine; opens = opens; Next = λ u o. Unit {0}; Left = λ u o. Unit {0} }

abbrev package_part : ℕ → Part Package
package_part n = unit_part package_spelling IsPackage (λ u. unit_opens u.globals u.end_keyword u.end n)

abbrev thread_part : ℕ → Part Thread
thread_part n = unit_part thread_spelling IsThread (λ u. unit_opens u.globals u.end_keyword u.end n)

abbrev data_part : ℕ → Part DataProgram
data_part n = unit_part data_spelling IsData (λ u. unit_opens u.globals u.end_keyword u.end n)

module _ (m n : ℕ) where
  package_law : Law m n (package_part n) (package_rule m n)
  package_law =
      to_law m n (then_part (kept_part (is_word (codes "package"))) (then_part (kept_part is_package_name) (then_part (place_part (codes ";")) (unit_body n (codes "endpackage"))))) (package_part n)
      (seq (word_rule (codes "package")) (seq (kept is_package_name) (seq (mark_rule (codes ";")) (unit_body_rule m n (codes "endpackage")))))
      (word_then (codes "package") refl (kept_then is_package_name (word_token (codes "x"), refl) (mark_then (codes ";") refl (unit_body_law m n (codes "endpackage") refl refl))))
      package_of (λ u. (u.keyword, (u.name, (u.semicolon, (u.globals, (u.end_keyword, u.end))))))
      (λ u f. refl) (λ a. refl) (λ a. refl) (λ a f. (f.0, f.1.0, f.1.1.1.0, f.1.1.1.1.0)) (λ u f. (f.0, (f.1, (tt, (f.2, (f.3, tt, tt), tt), tt), tt), tt)) (λ x o f h. tt) (λ x o f h. tt)

  -- the tokens of a package are those that were read
  pub package_read : (ts r : List Token) (u : Package) → package_rule m n ts ≡ Read u r → length ts ≡ length (package_spelling u) + length r
  package_read ts r u reads =
      let h : Rule (symbol (package_part n)) m [] ts (Read u r) = subst (Rule (symbol (package_part n)) m [] ts) reads (package_law.rule ts) in
      omega (arith, ap length h.1, length-append h.0 r, ap length h.2)

  thread_law : Law m n (thread_part n) (thread_rule m n)
  thread_law =
      to_law m n (then_part (kept_part (is_word (codes "thread"))) (then_part (kept_part is_name_token) (then_part (plain_part (if_any parameters_spelling) (IfAny AreParameters) (Behind is_open_mark Anything)) (then_part (place_part (codes ";")) (unit_body n (codes "endthread")))))) (thread_part n)
      (seq (word_rule (codes "thread")) (seq (kept is_name_token) (seq (optional is_open_mark (parameters_rule m)) (seq (mark_rule (codes ";")) (unit_body_rule m n (codes "endthread"))))))
      (word_then (codes "thread") refl (name_then (followed (any_law parameters_law is_open_mark (λ a rest f. refl)) (mark_then (codes ";") refl (unit_body_law m n (codes "endthread") refl refl)) (λ a b rest f g h. (refl, tt)))))
      thread_of (λ u. (u.keyword, (u.name, (u.parameters, (u.semicolon, (u.globals, (u.end_keyword, u.end)))))))
      (λ u f. refl) (λ a. refl) (λ a. refl) (λ a f. (f.0, f.1.0, f.1.1.0, f.1.1.1.1.0, f.1.1.1.1.1.0)) (λ u f. (f.0, (f.1, (f.2, (tt, (f.3, (f.4, tt, tt), tt), tt), tt), tt), tt)) (λ x o f h. tt) (λ x o f h. tt)

  data_law : Law m n (data_part n) (data_rule m n)
  data_law =
      to_law m n (then_part (kept_part (is_word (codes "data"))) (then_part (plain_part (all_spelled output_spelling) (SomeOf IsOutput) (Behind is_table (Behind is_open_mark Anything))) (then_part (place_part (codes ";")) (unit_body n (codes "enddata"))))) (data_part n)
      (seq (word_rule (codes "data")) (seq (one_or_more m is_table (output_rule m)) (seq (mark_rule (codes ";")) (unit_body_rule m n (codes "enddata")))))
      (word_then (codes "data") refl (followed outputs_law (mark_then (codes ";") refl (unit_body_law m n (codes "enddata") refl refl)) (λ a b rest f g h. (refl, (refl, tt)))))
      data_of (λ u. (u.keyword, (u.outputs, (u.semicolon, (u.globals, (u.end_keyword, u.end))))))
      (λ u f. refl) (λ a. refl) (λ a. refl) (λ a f. (f.0, f.1.0, f.1.1.1.0, f.1.1.1.1.0)) (λ u f. (f.0, (f.1, (tt, (f.2, (f.3, tt, tt), tt), tt), tt), tt)) (λ x o f h. tt) (λ x o f h. tt)

-- ---- parts of a source

abbrev pub source_part : ℕ → Part SourcePart
source_part n = unit_part part_spelling IsPart (λ p. part_opens p n)

abbrev units : ℕ → Part UnitRead
units n = choice_part (package_part n) (choice_part (thread_part n) (data_part n))

abbrev single_words : List ℕ → Part (Token × Place)
single_words w = then_part (kept_part (is_word w)) (place_part (codes ";"))

abbrev procs : Part (Token × (Token × Place))
procs = then_part (kept_part (is_word (codes "proc"))) (single_words (codes "ds2"))

abbrev quits_and_units : ℕ → Part (Either (Token × Place) UnitRead)
quits_and_units n = choice_part (single_words (codes "quit")) (units n)

abbrev runs_and_units : ℕ → Part (Either (Token × Place) (Either (Token × Place) UnitRead))
runs_and_units n = choice_part (single_words (codes "run")) (quits_and_units n)

abbrev part_kinds : ℕ → Part PartTree
part_kinds n = choice_part procs (runs_and_units n)

unit_value : (n : ℕ) (x : UnitRead) (rest : List Token) → (units n).Fine x → (w : List ℕ) → list_any (λ v. bytes_eq (codes "package") v) (w ∷ []) ≡ false → list_any (λ v. bytes_eq (codes "thread") v) (w ∷ []) ≡ false → list_any (λ v. bytes_eq (codes "data") v) (w ∷ []) ≡ false
    → when (starts w) (first ((units n).spelling x ++ rest)) ≡ false
unit_value n (One u) rest f w p t d = word_value (codes "package") u.keyword f.0 (w ∷ []) [] ∙ p
unit_value n (Two (One u)) rest f w p t d = word_value (codes "thread") u.keyword f.0 (w ∷ []) [] ∙ t
unit_value n (Two (Two u)) rest f w p t d = word_value (codes "data") u.keyword f.0 (w ∷ []) [] ∙ d

later_no_run : (n : ℕ) (x : Either (Token × Place) UnitRead) (rest : List Token) → (quits_and_units n).Fine x → when (starts (codes "run")) (first ((quits_and_units n).spelling x ++ rest)) ≡ false
later_no_run n (One x) rest f = word_value (codes "quit") x.0 f.0 (codes "run" ∷ []) []
later_no_run n (Two x) rest f = unit_value n x rest f (codes "run") refl refl refl

later_no_proc : (n : ℕ) (x : Either (Token × Place) (Either (Token × Place) UnitRead)) (rest : List Token) → (runs_and_units n).Fine x → when (starts (codes "proc")) (first ((runs_and_units n).spelling x ++ rest)) ≡ false
later_no_proc n (One x) rest f = word_value (codes "run") x.0 f.0 (codes "proc" ∷ []) []
later_no_proc n (Two (One x)) rest f = word_value (codes "quit") x.0 f.0 (codes "proc" ∷ []) []
later_no_proc n (Two (Two x)) rest f = unit_value n x rest f (codes "proc") refl refl refl

no_package : (n : ℕ) (x : Either Thread DataProgram) (rest : List Token) → (choice_part (thread_part n) (data_part n)).Fine x → when (starts (codes "package")) (first ((choice_part (thread_part n) (data_part n)).spelling x ++ rest)) ≡ false
no_package n (One u) rest f = word_value (codes "thread") u.keyword f.0 (codes "package" ∷ []) []
no_package n (Two u) rest f = word_value (codes "data") u.keyword f.0 (codes "package" ∷ []) []

module _ (m n : ℕ) where
  single_law : (w : List ℕ) → is_word w (word_token w) ≡ true → Law m n (single_words w) (seq (word_rule w) (mark_rule (codes ";")))
  single_law w h = word_then w h (mark_law m n (codes ";") refl)

  units_law : Law m n (units n) (unit_rule m n)
  units_law =
      chosen (package_law m n) (chosen (thread_law m n) (data_law m n) (starts (codes "thread")) (λ u rest f. word_value (codes "thread") u.keyword f.0 (codes "thread" ∷ []) []) (λ u rest f h. word_value (codes "data") u.keyword f.0 (codes "thread" ∷ []) []))
      (starts (codes "package")) (λ u rest f. word_value (codes "package") u.keyword f.0 (codes "package" ∷ []) []) (λ x rest f h. no_package n x rest f)

  abbrev kinds_rule : Parser PartTree
  kinds_rule =
      choose_by (starts (codes "proc")) (to One (seq (word_rule (codes "proc")) (seq (word_rule (codes "ds2")) (mark_rule (codes ";"))))) (to Two
      (choose_by (starts (codes "run")) (to One (seq (word_rule (codes "run")) (mark_rule (codes ";")))) (to Two
      (choose_by (starts (codes "quit")) (to One (seq (word_rule (codes "quit")) (mark_rule (codes ";")))) (to Two (unit_rule m n))))))

  pub source_part_law : Law m n (source_part n) (part_rule m n)
  source_part_law = to_law m n (part_kinds n) (source_part n) kinds_rule
      (chosen (word_then (codes "proc") refl (single_law (codes "ds2") refl))
      (chosen (single_law (codes "run") refl)
      (chosen (single_law (codes "quit") refl) units_law (starts (codes "quit")) (λ x rest f. word_value (codes "quit") x.0 f.0 (codes "quit" ∷ []) []) (λ x rest f h. unit_value n x rest f (codes "quit") refl refl refl))
      (starts (codes "run")) (λ x rest f. word_value (codes "run") x.0 f.0 (codes "run" ∷ []) []) (λ x rest f h. later_no_run n x rest f))
      (starts (codes "proc")) (λ x rest f. word_value (codes "proc") x.0 f.0 (codes "proc" ∷ []) []) (λ x rest f h. later_no_proc n x rest f))
      part_of_kind part_from back spelled opened fine fine' next (λ x o f h. tt)
    where
      part_from : SourcePart → PartTree
      part_from (Proc k d e) = One (k, (d, e))
      part_from (Run k e) = Two (One (k, e))
      part_from (Quit k e) = Two (Two (One (k, e)))
      part_from (APackage u) = Two (Two (Two (One u)))
      part_from (AThread u) = Two (Two (Two (Two (One u))))
      part_from (AData u) = Two (Two (Two (Two (Two u))))

      back : (p : SourcePart) → IsPart p → part_of_kind (part_from p) ≡ p
      back (Proc k d e) f = refl
      back (Run k e) f = refl
      back (Quit k e) f = refl
      back (APackage u) f = refl
      back (AThread u) f = refl
      back (AData u) f = refl

      spelled : (a : PartTree) → part_spelling (part_of_kind a) ≡ (part_kinds n).spelling a
      spelled (One x) = refl
      spelled (Two (One x)) = refl
      spelled (Two (Two (One x))) = refl
      spelled (Two (Two (Two (One u)))) = refl
      spelled (Two (Two (Two (Two (One u))))) = refl
      spelled (Two (Two (Two (Two (Two u))))) = refl

      opened : (a : PartTree) → part_opens (part_of_kind a) n ≡ (part_kinds n).opens a
      opened (One x) = refl
      opened (Two (One x)) = refl
      opened (Two (Two (One x))) = refl
      opened (Two (Two (Two (One u)))) = refl
      opened (Two (Two (Two (Two (One u))))) = refl
      opened (Two (Two (Two (Two (Two u))))) = refl

      fine : (a : PartTree) → (part_kinds n).Fine a → IsPart (part_of_kind a)
      fine (One x) f = (f.0, f.1.0)
      fine (Two (One x)) f = f.0
      fine (Two (Two (One x))) f = f.0
      fine (Two (Two (Two (One u)))) f = f
      fine (Two (Two (Two (Two (One u))))) f = f
      fine (Two (Two (Two (Two (Two u))))) f = f

      fine' : (p : SourcePart) → IsPart p → (part_kinds n).Fine (part_from p)
      fine' (Proc k d e) f = (f.0, (f.1, tt, tt), tt)
      fine' (Run k e) f = (f, tt, tt)
      fine' (Quit k e) f = (f, tt, tt)
      fine' (APackage u) f = f
      fine' (AThread u) f = f
      fine' (AData u) f = f

      next : (a : PartTree) (o : Option Token) → (part_kinds n).Fine a → Unit {0} → (part_kinds n).Next a o
      next (One x) o f h = tt
      next (Two (One x)) o f h = tt
      next (Two (Two (One x))) o f h = tt
      next (Two (Two (Two (One u)))) o f h = tt
      next (Two (Two (Two (Two (One u))))) o f h = tt
      next (Two (Two (Two (Two (Two u))))) o f h = tt

abbrev part_words : List (List ℕ)
part_words = codes "proc" ∷ codes "run" ∷ codes "quit" ∷ codes "package" ∷ codes "thread" ∷ codes "data" ∷ []

-- a part begins with one of its words
pub part_begins : (p : SourcePart) (rest : List Token) → IsPart p → when begins_part (first (part_spelling p ++ rest)) ≡ true
part_begins (Proc k d e) rest f = word_value (codes "proc") k f.0 part_words []
part_begins (Run k e) rest f = word_value (codes "run") k f part_words []
part_begins (Quit k e) rest f = word_value (codes "quit") k f part_words []
part_begins (APackage u) rest f = word_value (codes "package") u.keyword f.0 part_words []
part_begins (AThread u) rest f = word_value (codes "thread") u.keyword f.0 part_words []
part_begins (AData u) rest f = word_value (codes "data") u.keyword f.0 part_words []

-- ---- the parts of a source

flat_parts : (l : List SourcePart) → source_spelling l ≡ flat part_spelling l
flat_parts [] = refl
flat_parts (p ∷ l) = ap (λ (w : List Token). part_spelling p ++ w) (flat_parts l)

parts_open : (n : ℕ) (l : List SourcePart) → source_opens l n ≡ flat_opens part_spelling (source_part n).opens l
parts_open n [] = refl
parts_open n (p ∷ l) = ap₂ (λ (x : List Token) (y : Option (List Token)). first_opened ((source_part n).opens p) x y) (flat_parts l) (parts_open n l)

each_part : (l : List SourcePart) → each IsPart l → IsSource l
each_part [] h = tt
each_part (p ∷ l) h = (h.0, each_part l h.1)

part_each : (l : List SourcePart) → IsSource l → each IsPart l
part_each [] h = tt
part_each (p ∷ l) h = (h.0, part_each l h.1)

abbrev pub parts_part : ℕ → Part (List SourcePart)
parts_part n = record { spelling = source_spelling; Fine = IsSource; opens = λ l. source_opens l n; Next = λ l o. when begins_part o ≡ false; Left = λ l o. Unit {0} }

pub parts_law : (m n : ℕ) → Law m n (parts_part n) (parts_rule m n)
parts_law m n = alike_law (parts_part n)
    (many_law m n (source_part n) (part_rule m n) (source_part_law m n) begins_part part_begins (λ o. when begins_part o ≡ false) (λ o h. h) (λ p o f h. tt) (λ a b rest f g. tt) m (omega arith))
    flat_parts (parts_open n) each_part part_each (λ l o f h. h) (λ l o h. tt)
