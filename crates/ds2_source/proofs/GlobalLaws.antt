-- The laws of parameters, methods and globals.
use Rattle.std.proofs.Common.{◌≡◌, ℕ, true, false, ◌||◌, codes, List, [], ◌∷◌, ◌++◌, Option, None, Some, refl, ap, ap₂, ◌∙◌, arith, append_assoc}
use Rattle.std.specs.List.{list_any}
use Rattle.std.specs.Str.{bytes_eq}
use Rattle.ds2_base.specs.declared.place.Place.{Place}
use Rattle.ds2_token.specs.declared.token.Token.{Token}
use Rattle.ds2_token.specs.Words.{is_word, is_one_of, is_name_token, reserved_words}
use Rattle.ds2_tree.specs.Levels.{first_opened}
use Rattle.ds2_tree.specs.Parsers.{Either, One, Two, first, kept, when, choose_by, to, seq, many_of, optional}
use Rattle.ds2_tree.proofs.Words.{Part, Law, Passes, to_law, choice_part, then_part, kept_part, flat, flat_opens, each, many_part, many_law}
use Rattle.ds2_tree.specs.declared.globals.Declaration.{Declaration}
use Rattle.ds2_tree.specs.declared.globals.Declaration.TheVariants as declared_as
use Rattle.ds2_tree.specs.declared.globals.VariableDeclaration.{VariableDeclaration}
use Rattle.ds2_tree.specs.declared.globals.TypeName.{TypeName}
use Rattle.ds2_tree.specs.declared.readings.Reading.{Reading}
use Rattle.ds2_tree.specs.declared.readings.Reading.TheVariants.{Set, SetFrom, Merge}
use Rattle.ds2_tree.specs.Marks.{semicolon_mark}
use Rattle.ds2_tree.specs.Lists.{if_any, one_token, all_spelled, IfAny, SomeOf, Each}
use Rattle.ds2_tree.specs.Statements.{Statement, statement_spelling, IsStatement, statement_opens, statements_opens}
use Rattle.ds2_tree.specs.Readings.{reading_spelling, IsReading}
use Rattle.ds2_tree.specs.Globals.{Method, GlobalItem, Declared, Listed, Defined, type_spelling, variables_spelling, declaration_spelling, parameter_spelling, parameters_spelling, returns_spelling, method_spelling, global_spelling, is_dcl, is_list_keyword, IsType, IsVariables, IsDeclaration, IsParameter, AreParameters, IsReturns, IsMethod, IsGlobal, global_opens}
use Rattle.ds2_parse_rules.specs.GrammarTokens.{mark_rule, word_rule, starts}
use Rattle.ds2_parse_rules.specs.StatementGrammar.{statement_words, begins_statement, listed_statements, statement_rule}
use Rattle.ds2_parse_rules.specs.ReadingGrammar.{begins_reading, reading_rule}
use Rattle.ds2_parse_rules.specs.GlobalGrammar.{begins_type, declaration_rule, ParameterTree, begins_parameter, parameter_rule, parameter_behind, parameters_of, parameters_rule, returns_of, returns_rule, BodyRead, body_rule, MethodRead, method_of, method_rule, ListedTree, listed_rule, GlobalTree, global_of_kind, begins_global, global_rule}
use Rattle.ds2_parse_rules.proofs.GrammarTokenLaws.{apart, within, word_value, others, reserved_is_no_name, among_more, mark_law, place_part, Behind, word_token, or_last}
use Rattle.ds2_parse_statements.proofs.StatementLaws.{statement_part, statement_starts, statement_closes, begins_none}
use Rattle.ds2_parse_statements.proofs.StatementSumLaws.{statement_list, statements_list, statements_flat, each_statements, statements_each, statement_law}
use Rattle.ds2_parse_rules.proofs.PlainLaws.{alike_law, plain_part, Anything, plain_law, followed, chosen, mark_then, word_then, name_then, kept_then, name_law, any_law, any_word, all_law, comma_law}
use Rattle.ds2_parse_declarations.proofs.ReadingLaws.{AfterReading, reading_law}
use Rattle.ds2_parse_declarations.proofs.DeclarationLaws.{type_law, type_begins, type_none, names_law, variables_law, declaration_law}

-- ---- parameters

abbrev bare_spelling : ParameterTree → List Token
bare_spelling x = if_any one_token x.0 ++ (type_spelling x.1.0 ++ (x.1.1 ∷ []))

abbrev IsBare : ParameterTree → Type 0
IsBare x = IfAny (Passes (is_word (codes "in_out"))) x.0 × IsType x.1.0 × Passes is_name_token x.1.1

typed_name_begins : (t : TypeName) (name : Token) (rest : List Token) → IsType t → when begins_type (first ((type_spelling t ++ (name ∷ [])) ++ rest)) ≡ true
typed_name_begins t name rest f = ap (λ (ts : List Token). when begins_type (first ts)) (append_assoc (type_spelling t) (name ∷ []) rest) ∙ type_begins t ((name ∷ []) ++ rest) f

either_begins : (o : Option Token) → when begins_type o ≡ true → when begins_parameter o ≡ true
either_begins None h = h
either_begins (Some t) h = or_last (starts (codes "in_out") t) (begins_type t) h

parameter_begins : (x : ParameterTree) (rest : List Token) → IsBare x → when begins_parameter (first (bare_spelling x ++ rest)) ≡ true
parameter_begins (None, x) rest f = either_begins (first ((type_spelling x.0 ++ (x.1 ∷ [])) ++ rest)) (typed_name_begins x.0 x.1 rest f.1)
parameter_begins (Some t, x) rest f = ap (λ b. b || begins_type t) (word_value (codes "in_out") t f.0 (codes "in_out" ∷ []) [])

module _ {m n : ℕ} where
  bare_law : Law m n (plain_part bare_spelling IsBare Anything) parameter_rule
  bare_law = alike_law (plain_part bare_spelling IsBare Anything)
      (followed (any_word (codes "in_out") refl refl) (followed type_law (name_law m n) (λ a b rest f g h. tt))
      (λ x y rest f g h. (type_none (codes "in_out" ∷ []) [] (first ((type_spelling y.0 ++ (y.1 ∷ [])) ++ rest)) refl (typed_name_begins y.0 y.1 rest g.0), tt)))
      (λ a. refl) (λ a. refl) (λ a f. (f.0, f.1.0, f.1.1)) (λ a f. (f.0, (f.1, f.2, tt), tt)) (λ a o f h. tt) (λ a o h. tt)

  pub parameters_law : Law m n (plain_part parameters_spelling AreParameters Anything) (parameters_rule m)
  parameters_law = plain_law parameters_spelling AreParameters Anything parameters_of (λ b. (b.opening, (b.list, b.closing)))
      (mark_then (codes "(") refl (followed
      (comma_law bare_law begins_parameter parameter_begins (λ q. tt) parameter_spelling (λ x. x.comma) IsParameter parameter_behind (λ x. (x.in_out, (x.ty, x.name)))
      (λ a. refl) (λ c x. refl) (λ x. refl) (λ q x. refl) (λ c x f. f) (λ a f. f))
      (mark_law m n (codes ")") refl) (λ a b rest f g h. (refl, (refl, tt)))))
      (λ b f. refl) (λ a. refl) (λ a. refl) (λ a f. f.1.0) (λ b f. (tt, (f, tt, tt), tt)) (λ a o f h. tt)

  returns_law : Law m n (plain_part returns_spelling IsReturns Anything) returns_rule
  returns_law = plain_law returns_spelling IsReturns Anything returns_of (λ b. (b.keyword, b.ty))
      (word_then (codes "returns") refl type_law)
      (λ b f. refl) (λ a. refl) (λ a. refl) (λ a f. (f.0, f.1)) (λ b f. (f.0, f.1, tt)) (λ a o f h. tt)

-- ---- what the parts of a body begin with

abbrev reading_words : List (List ℕ)
reading_words = codes "set" ∷ codes "merge" ∷ []

reading_begins : (r : Reading) (rest : List Token) → IsReading r → when begins_reading (first (reading_spelling r ++ rest)) ≡ true
reading_begins (Set k l p b) rest f = word_value (codes "set") k f.0 reading_words []
reading_begins (SetFrom k w i t p) rest f = word_value (codes "set") k f.0 reading_words []
reading_begins (Merge k l r p b) rest f = word_value (codes "merge") k f.0 reading_words []

abbrev ended : Part (Token × Place)
ended = then_part (kept_part (is_word (codes "end"))) (place_part (codes ";"))

-- statements and `end` begin with none of some reserved words
statements_none : (vs : List (List ℕ)) (l : List Statement) (y : Token × Place) (rest : List Token) → within vs reserved_words ≡ true → apart statement_words vs ≡ true → list_any (λ v. bytes_eq (codes "end") v) vs ≡ false
    → each IsStatement l → ended.Fine y → when (is_one_of vs []) (first ((flat statement_spelling l ++ ended.spelling y) ++ rest)) ≡ false
statements_none vs [] y rest r a e f g = word_value (codes "end") y.0 g.0 vs [] ∙ e
statements_none vs (s ∷ l) y rest r a e f g =
    let tail = flat statement_spelling l ++ ended.spelling y in
    ap (λ (ts : List Token). when (is_one_of vs []) (first (ts ++ rest))) (append_assoc (statement_spelling s) (flat statement_spelling l) (ended.spelling y))
    ∙ ap (λ (ts : List Token). when (is_one_of vs []) (first ts)) (append_assoc (statement_spelling s) tail rest)
    ∙ begins_none vs [] (first (statement_spelling s ++ (tail ++ rest))) r a refl (statement_starts s (tail ++ rest) f.0)

-- ---- the body of a method: its statements open no level

abbrev EndStop : Option Token → Type 0
EndStop o = (when begins_statement o ≡ false) × (when (starts (codes "else")) o ≡ false)

module _ (m n : ℕ) where
  abbrev statements_part : Part (List Statement)
  statements_part = many_part EndStop (statement_part n)

  abbrev locals_part : Part (List VariableDeclaration)
  locals_part = plain_part (all_spelled variables_spelling) (Each IsVariables) (Behind is_dcl Anything)

  abbrev reading_opt : Part (Option Reading)
  reading_opt = plain_part (if_any reading_spelling) (IfAny IsReading) (Behind begins_reading AfterReading)

  abbrev body_end : Part (List Statement × (Token × Place))
  body_end = then_part statements_part ended

  abbrev body_rest : Part (Option Reading × (List Statement × (Token × Place)))
  body_rest = then_part reading_opt body_end

  abbrev body_part : Part BodyRead
  body_part = then_part locals_part body_rest

  statements_law : Law m n statements_part (many_of m begins_statement (statement_rule m n))
  statements_law = many_law m n (statement_part n) (statement_rule m n) (statement_law m n) begins_statement (λ s rest f. statement_starts s rest f) EndStop (λ o h. h.0) (λ s o f h. λ c. h.1)
      (λ a b rest f g. λ c. statement_closes b rest g) m (omega arith)

  end_law : Law m n ended (seq (word_rule (codes "end")) (mark_rule (codes ";")))
  end_law = word_then (codes "end") refl (mark_law m n (codes ";") refl)

  end_stops : (t : Token) → is_word (codes "end") t ≡ true → EndStop (Some t)
  end_stops t h = (ap₂ (λ a b. a || b) (reserved_is_no_name (codes "end") t refl h) (word_value (codes "end") t h statement_words (codes ";" ∷ [])), word_value (codes "end") t h (codes "else" ∷ []) [])

  body_end_law : Law m n body_end (seq (many_of m begins_statement (statement_rule m n)) (seq (word_rule (codes "end")) (mark_rule (codes ";"))))
  body_end_law = followed statements_law end_law (λ l y rest f g h. end_stops y.0 g.0)

  body_rest_law : Law m n body_rest (seq (optional begins_reading (reading_rule m)) (seq (many_of m begins_statement (statement_rule m n)) (seq (word_rule (codes "end")) (mark_rule (codes ";")))))
  body_rest_law = followed (any_law reading_law begins_reading reading_begins) body_end_law
      (λ x y rest f g h. (statements_none reading_words y.0 y.1 rest refl refl refl g.0 g.1, statements_none (codes "by" ∷ []) y.0 y.1 rest refl refl refl g.0 g.1))

  no_dcl : (x : Option Reading × (List Statement × (Token × Place))) (rest : List Token) → body_rest.Fine x → when is_dcl (first (body_rest.spelling x ++ rest)) ≡ false
  no_dcl (None, y) rest f = statements_none (codes "dcl" ∷ codes "declare" ∷ []) y.0 y.1 rest refl refl refl f.1.0 f.1.1
  no_dcl (Some r, y) rest f = reading_none r (body_end.spelling y) rest f.0
    where
      reading_none : (r : Reading) (tail rest : List Token) → IsReading r → when is_dcl (first ((reading_spelling r ++ tail) ++ rest)) ≡ false
      reading_none (Set k l p b) tail rest f = word_value (codes "set") k f.0 (codes "dcl" ∷ codes "declare" ∷ []) []
      reading_none (SetFrom k w i t p) tail rest f = word_value (codes "set") k f.0 (codes "dcl" ∷ codes "declare" ∷ []) []
      reading_none (Merge k l r p b) tail rest f = word_value (codes "merge") k f.0 (codes "dcl" ∷ codes "declare" ∷ []) []

  body_law : Law m n body_part (body_rule m (statement_rule m n))
  body_law = followed (all_law variables_law is_dcl (λ v rest f. f.0) (λ b rest f. tt)) body_rest_law (λ l x rest f g h. (no_dcl x rest g, tt))

-- ---- methods

direct_open : (n : ℕ) (l : List Statement) → statements_opens (listed_statements l) n ≡ flat_opens statement_spelling (statement_part n).opens l
direct_open n [] = refl
direct_open n (s ∷ l) = ap₂ (λ (x : List Token) (y : Option (List Token)). first_opened (statement_opens s n) x y) (statements_flat l) (direct_open n l)

abbrev pub method_part : ℕ → Part Method
method_part n = record {
  spelling = method_spelling;
  Fine = IsMethod;
  opens = λ m. first_opened (statements_opens m.body n) (m.end_keyword ∷ (semicolon_mark m.end ∷ [])) None;
  Next = λ m o. Unit {0};
  Left = λ m o. Unit {0};
}

module _ (m n : ℕ) where
  abbrev method_tree : Part MethodRead
  method_tree =
      then_part (kept_part (is_word (codes "method"))) (then_part (kept_part is_name_token) (then_part (plain_part parameters_spelling AreParameters Anything)
      (then_part (plain_part (if_any returns_spelling) (IfAny IsReturns) (Behind (starts (codes "returns")) Anything)) (then_part (place_part (codes ";")) (body_part m n)))))

  abbrev method_from : Method → MethodRead
  method_from b = (b.keyword, (b.name, (b.parameters, (b.returns, (b.semicolon, (b.locals, (b.reading, (statement_list b.body, (b.end_keyword, b.end)))))))))

  method_law : Law m n (method_part n) (method_rule m n)
  method_law = to_law m n method_tree (method_part n) (seq (word_rule (codes "method")) (seq (kept is_name_token) (seq (parameters_rule m) (seq (optional (starts (codes "returns")) returns_rule) (seq (mark_rule (codes ";")) (body_rule m (statement_rule m n)))))))
      (word_then (codes "method") refl (name_then (followed parameters_law
      (followed (any_law returns_law (starts (codes "returns")) (λ a rest f. word_value (codes "returns") a.keyword f.0 (codes "returns" ∷ []) [])) (mark_then (codes ";") refl (body_law m n)) (λ a b rest f g h. (refl, tt)))
      (λ a b rest f g h. tt))))
      method_of method_from back spelled opened fine fine' (λ x o f h. tt) (λ x o f h. tt)
    where
      back : (b : Method) → IsMethod b → method_of (method_from b) ≡ b
      back b f = ap (λ s. record { keyword = b.keyword; name = b.name; parameters = b.parameters; returns = b.returns; semicolon = b.semicolon; locals = b.locals; reading = b.reading; body = s; end_keyword = b.end_keyword; end = b.end }) (statements_list b.body)

      spelled : (a : MethodRead) → method_spelling (method_of a) ≡ method_tree.spelling a
      spelled (k, (name, (xs, (r, (p, (ls, (rd, (ss, (e, q))))))))) =
          ap (λ (w : List Token). k ∷ (name ∷ (parameters_spelling xs ++ (if_any returns_spelling r ++ (semicolon_mark p ∷ (all_spelled variables_spelling ls ++ (if_any reading_spelling rd ++ (w ++ (e ∷ (semicolon_mark q ∷ [])))))))))) (statements_flat ss)

      opened : (a : MethodRead) → (method_part n).opens (method_of a) ≡ method_tree.opens a
      opened (k, (name, (xs, (r, (p, (ls, (rd, (ss, (e, q))))))))) = ap (λ (w : Option (List Token)). first_opened w (e ∷ (semicolon_mark q ∷ [])) None) (direct_open n ss)

      fine : (a : MethodRead) → method_tree.Fine a → IsMethod (method_of a)
      fine a f = let b = f.1.1.1.1.1 in (f.0, f.1.0, f.1.1.0, f.1.1.1.0, b.0, b.1.0, each_statements a.1.1.1.1.1.1.1.0 b.1.1.0, b.1.1.1.0)

      fine' : (b : Method) → IsMethod b → method_tree.Fine (method_from b)
      fine' b f = (f.0, (f.1, (f.2, (f.3, (tt, (f.4, (f.5, (statements_each b.body f.6, (f.7, tt, tt), tt), tt), tt), tt), tt), tt), tt), tt)

-- ---- globals

abbrev pub global_part : ℕ → Part GlobalItem
global_part n = record { spelling = global_spelling; Fine = IsGlobal; opens = λ g. global_opens g n; Next = λ g o. Unit {0}; Left = λ g o. Unit {0} }

-- ("retain" | "keep" | "drop") name { name } ";"
abbrev listed_spelling : ListedTree → List Token
listed_spelling x = x.0 ∷ (all_spelled one_token x.1.0 ++ (semicolon_mark x.1.1 ∷ []))

abbrev IsListed : ListedTree → Type 0
IsListed x = Passes is_list_keyword x.0 × SomeOf (Passes is_name_token) x.1.0

abbrev list_words : List (List ℕ)
list_words = codes "retain" ∷ codes "keep" ∷ codes "drop" ∷ []

-- a declaration begins with `dcl` or `declare`
pub declaration_begins : (d : Declaration) (rest : List Token) → IsDeclaration d → when is_dcl (first (declaration_spelling d ++ rest)) ≡ true
declaration_begins (declared_as.Variables v) rest f = f.0
declaration_begins (declared_as.Instance k w p name l e) rest f = f.0
declaration_begins (declared_as.Hash k w h name p keys c items size q e) rest f = f.0
declaration_begins (declared_as.Hiter k w h name p t q e) rest f = f.0
declaration_begins (declared_as.Thread k w t name e) rest f = f.0

module _ (m n : ℕ) where
  listed_law : Law m n (plain_part listed_spelling IsListed Anything) (listed_rule m)
  listed_law = alike_law (plain_part listed_spelling IsListed Anything)
      (kept_then is_list_keyword (word_token (codes "keep"), refl) (followed names_law (mark_law m n (codes ";") refl) (λ a b rest f g h. (refl, tt))))
      (λ a. refl) (λ a. refl) (λ a f. (f.0, f.1.0)) (λ a f. (f.0, (f.1, tt, tt), tt)) (λ a o f h. tt) (λ a o h. tt)

  abbrev later_kinds : Part (Either ListedTree Method)
  later_kinds = choice_part (plain_part listed_spelling IsListed Anything) (method_part n)

  abbrev global_kinds : Part GlobalTree
  global_kinds = choice_part (plain_part declaration_spelling IsDeclaration Anything) later_kinds

  later_no_dcl : (x : Either ListedTree Method) (rest : List Token) → later_kinds.Fine x → later_kinds.Next x (first rest) → when is_dcl (first (later_kinds.spelling x ++ rest)) ≡ false
  later_no_dcl (One x) rest f h = others list_words [] (codes "dcl" ∷ codes "declare" ∷ []) [] x.0 f.0 refl refl
  later_no_dcl (Two b) rest f h = word_value (codes "method") b.keyword f.0 (codes "dcl" ∷ codes "declare" ∷ []) []

  pub global_law : Law m n (global_part n) (global_rule m n)
  global_law = to_law m n global_kinds (global_part n) (choose_by is_dcl (to One (declaration_rule m)) (to Two (choose_by is_list_keyword (to One (listed_rule m)) (to Two (method_rule m n)))))
      (chosen declaration_law (chosen listed_law (method_law m n) is_list_keyword (λ x rest f. f.0) (λ b rest f h. word_value (codes "method") b.keyword f.0 list_words [])) is_dcl declaration_begins later_no_dcl)
      global_of_kind global_from back spelled opened fine fine' next (λ x o f h. tt)
    where
      global_from : GlobalItem → GlobalTree
      global_from (Declared d) = One d
      global_from (Listed k l e) = Two (One (k, (l, e)))
      global_from (Defined b) = Two (Two b)

      back : (g : GlobalItem) → IsGlobal g → global_of_kind (global_from g) ≡ g
      back (Declared d) f = refl
      back (Listed k l e) f = refl
      back (Defined b) f = refl

      spelled : (a : GlobalTree) → global_spelling (global_of_kind a) ≡ global_kinds.spelling a
      spelled (One d) = refl
      spelled (Two (One x)) = refl
      spelled (Two (Two b)) = refl

      opened : (a : GlobalTree) → global_opens (global_of_kind a) n ≡ global_kinds.opens a
      opened (One d) = refl
      opened (Two (One x)) = refl
      opened (Two (Two b)) = refl

      fine : (a : GlobalTree) → global_kinds.Fine a → IsGlobal (global_of_kind a)
      fine (One d) f = f
      fine (Two (One x)) f = f
      fine (Two (Two b)) f = f

      fine' : (g : GlobalItem) → IsGlobal g → global_kinds.Fine (global_from g)
      fine' (Declared d) f = f
      fine' (Listed k l e) f = f
      fine' (Defined b) f = f

      next : (a : GlobalTree) (o : Option Token) → global_kinds.Fine a → Unit {0} → global_kinds.Next a o
      next (One d) o f h = tt
      next (Two (One x)) o f h = tt
      next (Two (Two b)) o f h = tt

abbrev global_words : List (List ℕ)
global_words = codes "dcl" ∷ codes "declare" ∷ codes "retain" ∷ codes "keep" ∷ codes "drop" ∷ codes "method" ∷ []

dcl_begins : (o : Option Token) → when is_dcl o ≡ true → when begins_global o ≡ true
dcl_begins None h = h
dcl_begins (Some t) h = among_more (codes "dcl" ∷ codes "declare" ∷ []) [] global_words [] t h refl refl

-- a global begins with one of its words
pub global_begins : (g : GlobalItem) (rest : List Token) → IsGlobal g → when begins_global (first (global_spelling g ++ rest)) ≡ true
global_begins (Declared d) rest f = dcl_begins (first (declaration_spelling d ++ rest)) (declaration_begins d rest f)
global_begins (Listed k l e) rest f = among_more list_words [] global_words [] k f.0 refl refl
global_begins (Defined b) rest f = word_value (codes "method") b.keyword f.0 global_words []
