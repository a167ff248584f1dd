-- Declarations, lists of variables, and methods: their trees, spellings and levels of nesting. What holds no statement is plain data.
use Rattle.std.specs.Prelude.{ℕ, Bool, ◌||◌, codes, List, [], ◌∷◌, ◌++◌, Option, Some, None}
use Rattle.ds2_base.specs.declared.place.Place.{Place}
use Rattle.ds2_token.specs.declared.token.Token.{Token}
use Rattle.ds2_tree.specs.declared.globals.Declaration.{Declaration}
use Rattle.ds2_tree.specs.declared.globals.Declaration.TheVariants as declared_as
use Rattle.ds2_tree.specs.declared.globals.VariableDeclaration.{VariableDeclaration}
use Rattle.ds2_tree.specs.declared.globals.Constants.{Constants}
use Rattle.ds2_tree.specs.declared.globals.Constant.{Constant}
use Rattle.ds2_tree.specs.declared.globals.Bracketed.{Bracketed}
use Rattle.ds2_tree.specs.declared.globals.BracketedName.{BracketedName}
use Rattle.ds2_tree.specs.declared.globals.HashSize.{HashSize}
use Rattle.ds2_tree.specs.declared.globals.HashTable.{HashTable}
use Rattle.ds2_tree.specs.declared.globals.TypeName.{TypeName}
use Rattle.ds2_tree.specs.declared.globals.TypeName.TheVariants as type_name
use Rattle.ds2_tree.specs.declared.globals.Scale.{Scale}
use Rattle.ds2_tree.specs.declared.globals.Parameters.{Parameters}
use Rattle.ds2_tree.specs.declared.globals.Parameter.{Parameter}
use Rattle.ds2_tree.specs.declared.globals.Returns.{Returns}
use Rattle.ds2_tree.specs.declared.readings.Reading.{Reading}
use Rattle.ds2_token.specs.Words.{is_word, is_one_of, is_name_token, is_package_name, is_text, is_integer, is_decimal, spells_table}
use Rattle.ds2_tree.specs.Marks.{open_mark, close_mark, bracket_mark, bracket_end_mark, minus_mark, comma_mark, semicolon_mark}
use Rattle.ds2_tree.specs.Lists.{one_token, if_any, all_spelled, comma_spelling, Is, IfAny, Each, SomeOf, Separated, HasNoComma}
use Rattle.ds2_tree.specs.Levels.{first_opened}
use Rattle.ds2_tree.specs.Expressions.{is_null_word}
use Rattle.ds2_tree.specs.Statements.{Statements, statements_spelling, AreStatements, statements_opens}
use Rattle.ds2_tree.specs.Readings.{reading_spelling, IsReading}

-- a method
pub record Method : Type 0 where
  pub keyword : Token
  pub name : Token
  pub parameters : Parameters
  pub returns : Option Returns
  pub semicolon : Place
  pub locals : List VariableDeclaration
  pub reading : Option Reading
  pub body : Statements
  pub end_keyword : Token
  pub end : Place

-- what a unit is made of: a declaration, a list of names, or a method
pub data GlobalItem : Type 0 where
  Declared : Declaration → GlobalItem
  Listed : (keyword : Token) → (names : List Token) → (end : Place) → GlobalItem
  Defined : Method → GlobalItem

-- ---- types and declarations

-- "," integer
abbrev pub scale_spelling : Scale → List Token
scale_spelling s = comma_mark s.comma ∷ (s.number ∷ [])

-- the tokens of a type
abbrev pub type_spelling : TypeName → List Token
-- "bigint"
type_spelling (type_name.BigInt keyword) = one_token keyword
-- ("decimal" | "numeric") "(" integer ["," integer] ")"
type_spelling (type_name.Decimal keyword p precision scale q) = keyword ∷ (open_mark p ∷ (precision ∷ (if_any scale_spelling scale ++ (close_mark q ∷ []))))
-- ("char" | "varchar") "(" integer ")"
type_spelling (type_name.Text keyword p length q) = keyword ∷ (open_mark p ∷ (length ∷ (close_mark q ∷ [])))

-- dcl type name { name } ";"
abbrev pub variables_spelling : VariableDeclaration → List Token
variables_spelling v = v.keyword ∷ (type_spelling v.ty ++ (all_spelled one_token v.names ++ (semicolon_mark v.end ∷ [])))

-- ["-"] integer | ["-"] decimal | text | "null"
abbrev pub constant_spelling : Constant → List Token
constant_spelling c = comma_spelling c.comma ++ (if_any (λ p. one_token (minus_mark p)) c.minus ++ (c.value ∷ []))

-- "(" [ const { "," const } ] ")"
abbrev pub constants_spelling : Constants → List Token
constants_spelling cs = open_mark cs.opening ∷ (all_spelled constant_spelling cs.list ++ (close_mark cs.closing ∷ []))

-- [","] name
abbrev pub bracketed_name_spelling : BracketedName → List Token
bracketed_name_spelling n = comma_spelling n.comma ++ (n.name ∷ [])

-- "[" name { [","] name } "]"
abbrev pub bracketed_spelling : Bracketed → List Token
bracketed_spelling b = bracket_mark b.opening ∷ (all_spelled bracketed_name_spelling b.names ++ (bracket_end_mark b.closing ∷ []))

-- "," text
abbrev pub hash_table_spelling : HashTable → List Token
hash_table_spelling t = comma_mark t.comma ∷ (t.text ∷ [])

-- "," integer [ "," text ]
abbrev pub hash_size_spelling : HashSize → List Token
hash_size_spelling s = comma_mark s.comma ∷ (s.number ∷ if_any hash_table_spelling s.table)

-- the tokens of a declaration
abbrev pub declaration_spelling : Declaration → List Token
-- dcl type name { name } ";"
declaration_spelling (declared_as.Variables v) = variables_spelling v
-- dcl "package" pname name [ "(" [ const { "," const } ] ")" ] ";"
declaration_spelling (declared_as.Instance keyword package_keyword package' name arguments end) =
    keyword ∷ (package_keyword ∷ (package' ∷ (name ∷ (if_any constants_spelling arguments ++ (semicolon_mark end ∷ [])))))
-- dcl "package" "hash" name "(" vars "," vars [ "," integer [ "," text ] ] ")" ";"
declaration_spelling (declared_as.Hash keyword package_keyword hash_keyword name p keys c items size q end) =
    keyword ∷ (package_keyword ∷ (hash_keyword ∷ (name ∷ (open_mark p ∷ (bracketed_spelling keys ++ (comma_mark c ∷ (bracketed_spelling items
    ++ (if_any hash_size_spelling size ++ (close_mark q ∷ (semicolon_mark end ∷ []))))))))))
-- dcl "package" "hiter" name "(" text ")" ";"
declaration_spelling (declared_as.Hiter keyword package_keyword hiter_keyword name p hash q end) =
    keyword ∷ (package_keyword ∷ (hiter_keyword ∷ (name ∷ (open_mark p ∷ (hash ∷ (close_mark q ∷ (semicolon_mark end ∷ [])))))))
-- dcl "thread" name name ";"
declaration_spelling (declared_as.Thread keyword thread_keyword thread name end) = keyword ∷ (thread_keyword ∷ (thread ∷ (name ∷ (semicolon_mark end ∷ []))))

-- ---- methods

-- ["in_out"] type name
abbrev pub parameter_spelling : Parameter → List Token
parameter_spelling x = comma_spelling x.comma ++ (if_any one_token x.in_out ++ (type_spelling x.ty ++ (x.name ∷ [])))

-- "(" [ param { "," param } ] ")"
abbrev pub parameters_spelling : Parameters → List Token
parameters_spelling xs = open_mark xs.opening ∷ (all_spelled parameter_spelling xs.list ++ (close_mark xs.closing ∷ []))

-- "returns" type
abbrev pub returns_spelling : Returns → List Token
returns_spelling r = r.keyword ∷ type_spelling r.ty

-- { variables } [ reading ] { stmt } "end" ";"
abbrev pub body_spelling : Method → List Token
body_spelling m =
    all_spelled variables_spelling m.locals ++ (if_any reading_spelling m.reading ++ (statements_spelling m.body ++ (m.end_keyword ∷ (semicolon_mark m.end ∷ []))))

-- "method" name parameters [ "returns" type ] ";" body
abbrev pub method_spelling : Method → List Token
method_spelling m = m.keyword ∷ (m.name ∷ (parameters_spelling m.parameters ++ (if_any returns_spelling m.returns ++ (semicolon_mark m.semicolon ∷ body_spelling m))))

-- the tokens of a declaration, a list of names, or a method
abbrev pub global_spelling : GlobalItem → List Token
global_spelling (Declared d) = declaration_spelling d
-- ("retain" | "keep" | "drop") name { name } ";"
global_spelling (Listed keyword names end) = keyword ∷ (all_spelled one_token names ++ (semicolon_mark end ∷ []))
global_spelling (Defined m) = method_spelling m

-- ---- which trees are of the grammar

-- the word before a declaration: "dcl" | "declare"
abbrev pub is_dcl : Token → Bool
is_dcl t = is_one_of (codes "dcl" ∷ codes "declare" ∷ []) [] t

-- the word before a list of names: "retain" | "keep" | "drop"
abbrev pub is_list_keyword : Token → Bool
is_list_keyword t = is_one_of (codes "retain" ∷ codes "keep" ∷ codes "drop" ∷ []) [] t

-- the word of a decimal type: "decimal" | "numeric"
abbrev pub is_decimal_keyword : Token → Bool
is_decimal_keyword t = is_one_of (codes "decimal" ∷ codes "numeric" ∷ []) [] t

-- the word of a text type: "char" | "varchar"
abbrev pub is_text_keyword : Token → Bool
is_text_keyword t = is_one_of (codes "char" ∷ codes "varchar" ∷ []) [] t

-- the word of the type, and integers for its precision and scale or its length
abbrev pub IsType : TypeName → Type 0
IsType (type_name.BigInt keyword) = Is (is_word (codes "bigint")) keyword
IsType (type_name.Decimal keyword p precision scale q) = Is is_decimal_keyword keyword × Is is_integer precision × IfAny (λ s. Is is_integer s.number) scale
IsType (type_name.Text keyword p length q) = Is is_text_keyword keyword × Is is_integer length

-- a declaring word, a type of the grammar, and one name at least
abbrev pub IsVariables : VariableDeclaration → Type 0
IsVariables v = Is is_dcl v.keyword × IsType v.ty × SomeOf (Is is_name_token) v.names

-- a `-` stands before a number alone
abbrev pub is_signed_constant : Option Place → Token → Bool
is_signed_constant None t = is_integer t || is_decimal t || is_text t || is_null_word t
is_signed_constant (Some p) t = is_integer t || is_decimal t

-- its value is a constant, and a number where a `-` stands before it
abbrev pub IsConstant : Constant → Type 0
IsConstant c = Is (is_signed_constant c.minus) c.value

-- constants of the grammar with a comma between each two
abbrev pub AreConstants : Constants → Type 0
AreConstants cs = Separated (λ c. c.comma) IsConstant cs.list

-- names, the first without a comma before it
abbrev pub AreBracketed : List BracketedName → Type 0
AreBracketed [] = ⊥
AreBracketed (n ∷ ns) = HasNoComma n.comma × Is is_name_token n.name × Each (λ x. Is is_name_token x.name) ns

-- an integer, and where a text stands behind it, one that spells a table
abbrev pub IsHashSize : HashSize → Type 0
IsHashSize s = Is is_integer s.number × IfAny (λ t. Is spells_table t.text) s.table

-- its words are those of its form, its names are names, and its parts are of the grammar
abbrev pub IsDeclaration : Declaration → Type 0
IsDeclaration (declared_as.Variables v) = IsVariables v
IsDeclaration (declared_as.Instance keyword package_keyword package' name arguments end) =
    Is is_dcl keyword × Is (is_word (codes "package")) package_keyword × Is is_package_name package' × Is is_name_token name × IfAny AreConstants arguments
IsDeclaration (declared_as.Hash keyword package_keyword hash_keyword name p keys c items size q end) =
    Is is_dcl keyword × Is (is_word (codes "package")) package_keyword × Is (is_word (codes "hash")) hash_keyword × Is is_name_token name
    × AreBracketed keys.names × AreBracketed items.names × IfAny IsHashSize size
IsDeclaration (declared_as.Hiter keyword package_keyword hiter_keyword name p hash q end) =
    Is is_dcl keyword × Is (is_word (codes "package")) package_keyword × Is (is_word (codes "hiter")) hiter_keyword × Is is_name_token name × Is is_text hash
IsDeclaration (declared_as.Thread keyword thread_keyword thread name end) =
    Is is_dcl keyword × Is (is_word (codes "thread")) thread_keyword × Is is_name_token thread × Is is_name_token name

-- a type of the grammar and a name, with `in_out` or nothing before them
abbrev pub IsParameter : Parameter → Type 0
IsParameter x = IfAny (Is (is_word (codes "in_out"))) x.in_out × IsType x.ty × Is is_name_token x.name

-- parameters of the grammar with a comma between each two
abbrev pub AreParameters : Parameters → Type 0
AreParameters xs = Separated (λ x. x.comma) IsParameter xs.list

-- the word `returns` and a type of the grammar
abbrev pub IsReturns : Returns → Type 0
IsReturns r = Is (is_word (codes "returns")) r.keyword × IsType r.ty

-- the word `method`, a name, parts of the grammar, and the word `end`
abbrev pub IsMethod : Method → Type 0
IsMethod m =
    Is (is_word (codes "method")) m.keyword × Is is_name_token m.name × AreParameters m.parameters × IfAny IsReturns m.returns
    × Each IsVariables m.locals × IfAny IsReading m.reading × AreStatements m.body × Is (is_word (codes "end")) m.end_keyword

-- a declaration or a method of the grammar, or a list of one name at least behind its word
abbrev pub IsGlobal : GlobalItem → Type 0
IsGlobal (Declared d) = IsDeclaration d
IsGlobal (Listed keyword names end) = Is is_list_keyword keyword × SomeOf (Is is_name_token) names
IsGlobal (Defined m) = IsMethod m

-- ---- levels of nesting: only the statements of a method open some

-- the tokens of a declaration, a list of names, or a method from the first one on that opens more than n levels
abbrev pub global_opens : GlobalItem → ℕ → Option (List Token)
global_opens (Declared d) n = None
global_opens (Listed keyword names end) n = None
global_opens (Defined m) n = first_opened (statements_opens m.body n) (m.end_keyword ∷ (semicolon_mark m.end ∷ [])) None
