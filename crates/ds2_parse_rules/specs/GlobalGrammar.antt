-- The grammar of declarations, lists of variables, and methods, as parsers on lists. m bounds the turns of each list, n the levels.
use Rattle.std.specs.Prelude.{ℕ, Bool, ◌||◌, codes, List, [], ◌∷◌, Option, Some, None}
use Rattle.ds2_base.specs.declared.place.Place.{Place}
use Rattle.ds2_token.specs.declared.token.Token.{Token}
use Rattle.ds2_token.specs.Words.{is_one_of, is_name_token, is_package_name, is_text, is_integer, is_decimal, spells_table}
use Rattle.ds2_tree.specs.Parsers.{Parser, Either, One, Two, kept, choose_by, to, seq, many_of, optional}
use Rattle.ds2_tree.specs.declared.globals.Declaration.{Declaration}
use Rattle.ds2_tree.specs.declared.globals.Declaration.TheVariants as declared_as
use Rattle.ds2_tree.specs.declared.globals.VariableDeclaration.{VariableDeclaration}
use Rattle.ds2_tree.specs.declared.globals.Constants.{Constants}
use Rattle.ds2_tree.specs.declared.globals.Constant.{Constant}
use Rattle.ds2_tree.specs.declared.globals.Bracketed.{Bracketed}
use Rattle.ds2_tree.specs.declared.globals.BracketedName.{BracketedName}
use Rattle.ds2_tree.specs.declared.globals.HashSize.{HashSize}
use Rattle.ds2_tree.specs.declared.globals.HashTable.{HashTable}
use Rattle.ds2_tree.specs.declared.globals.TypeName.{TypeName}
use Rattle.ds2_tree.specs.declared.globals.TypeName.TheVariants as type_name
use Rattle.ds2_tree.specs.declared.globals.Scale.{Scale}
use Rattle.ds2_tree.specs.declared.globals.Parameters.{Parameters}
use Rattle.ds2_tree.specs.declared.globals.Parameter.{Parameter}
use Rattle.ds2_tree.specs.declared.globals.Returns.{Returns}
use Rattle.ds2_tree.specs.declared.readings.Reading.{Reading}
use Rattle.ds2_tree.specs.Statements.{Statement}
use Rattle.ds2_tree.specs.Globals.{Method, GlobalItem, Declared, Listed, Defined, is_dcl, is_list_keyword, is_decimal_keyword, is_text_keyword, is_signed_constant}
use Rattle.ds2_parse_rules.specs.GrammarTokens.{mark_rule, word_rule, is_open_mark, is_comma_mark, starts, one_or_more, comma_list}
use Rattle.ds2_parse_rules.specs.StatementGrammar.{begins_statement, listed_statements, statement_rule}
use Rattle.ds2_parse_rules.specs.ReadingGrammar.{begins_reading, reading_rule}

-- ---- types

-- the words with which a type begins
abbrev pub begins_type : Token → Bool
begins_type t = is_one_of (codes "bigint" ∷ codes "decimal" ∷ codes "numeric" ∷ codes "char" ∷ codes "varchar" ∷ []) [] t

-- a scale of what was read
abbrev pub type_scale_of : Place × Token → Scale
type_scale_of x = record { comma = x.0; number = x.1 }

-- "," integer
abbrev pub scale_rule : Parser Scale
scale_rule = to type_scale_of (seq (mark_rule (codes ",")) (kept is_integer))

-- the parts of a decimal type, as they are read
abbrev pub DecimalTypeTree : Type 0
DecimalTypeTree = Token × (Place × (Token × (Option Scale × Place)))

-- ("decimal" | "numeric") "(" integer ["," integer] ")"
abbrev pub decimal_type_rule : Parser DecimalTypeTree
decimal_type_rule = seq (kept is_decimal_keyword) (seq (mark_rule (codes "(")) (seq (kept is_integer) (seq (optional is_comma_mark scale_rule) (mark_rule (codes ")")))))

-- the parts of a text type, as they are read
abbrev pub TextTypeTree : Type 0
TextTypeTree = Token × (Place × (Token × Place))

-- ("char" | "varchar") "(" integer ")"
abbrev pub text_type_rule : Parser TextTypeTree
text_type_rule = seq (kept is_text_keyword) (seq (mark_rule (codes "(")) (seq (kept is_integer) (mark_rule (codes ")"))))

-- a type as it is read, by its kind
abbrev pub TypeTree : Type 0
TypeTree = Either Token (Either DecimalTypeTree TextTypeTree)

-- the type of what was read, by its kind
abbrev pub type_of_kind : TypeTree → TypeName
type_of_kind (One t) = type_name.BigInt t
type_of_kind (Two (One x)) = type_name.Decimal x.0 x.1.0 x.1.1.0 x.1.1.1.0 x.1.1.1.1
type_of_kind (Two (Two x)) = type_name.Text x.0 x.1.0 x.1.1.0 x.1.1.1

-- a type, by its word
abbrev pub type_rule : Parser TypeName
type_rule = to type_of_kind (choose_by (starts (codes "bigint")) (to One (word_rule (codes "bigint"))) (to Two (choose_by is_decimal_keyword (to One decimal_type_rule) (to Two text_type_rule))))

-- ---- declarations of variables

-- name { name }
abbrev pub names_rule : ℕ → Parser (List Token)
names_rule m = one_or_more m is_name_token (kept is_name_token)

-- what stands behind `dcl` where variables are declared
abbrev pub VariablesTree : Type 0
VariablesTree = TypeName × (List Token × Place)

-- the declaration of variables of what was read
abbrev pub variables_of : Token × VariablesTree → VariableDeclaration
variables_of x = record { keyword = x.0; ty = x.1.0; names = x.1.1.0; end = x.1.1.1 }

-- type name { name } ";"
abbrev pub variables_tail : ℕ → Parser VariablesTree
variables_tail m = seq type_rule (seq (names_rule m) (mark_rule (codes ";")))

-- dcl type name { name } ";"
abbrev pub variables_rule : ℕ → Parser VariableDeclaration
variables_rule m = to variables_of (seq (kept is_dcl) (variables_tail m))

-- ---- constants

-- the mark `-`
abbrev pub is_minus_mark : Token → Bool
is_minus_mark t = is_one_of [] (codes "-" ∷ []) t

-- what may stand behind `-`: an integer or a decimal
abbrev pub is_number_constant : Token → Bool
is_number_constant t = is_integer t || is_decimal t

-- a constant without a `-`: an integer, a decimal, a text or `null`
abbrev pub is_unsigned_constant : Token → Bool
is_unsigned_constant t = is_signed_constant None t

-- the tokens with which a constant begins
abbrev pub begins_constant : Token → Bool
begins_constant t = is_minus_mark t || is_unsigned_constant t

-- the sign, where there is one, and the value of what was read
abbrev pub signed_value : Either (Place × Token) Token → Option Place × Token
signed_value (One x) = (Some x.0, x.1)
signed_value (Two t) = (None, t)

-- ["-"] integer | ["-"] decimal | text | "null"
abbrev pub constant_rule : Parser (Option Place × Token)
constant_rule = to signed_value (choose_by is_minus_mark (to One (seq (mark_rule (codes "-")) (kept is_number_constant))) (to Two (kept is_unsigned_constant)))

-- a constant behind its comma, where it has one
abbrev pub constant_behind : Option Place → Option Place × Token → Constant
constant_behind comma x = record { comma = comma; minus = x.0; value = x.1 }

-- the constants of what was read
abbrev pub constant_list_of : Place × (List Constant × Place) → Constants
constant_list_of x = record { opening = x.0; list = x.1.0; closing = x.1.1 }

-- "(" [ const { "," const } ] ")"
abbrev pub constants_rule : ℕ → Parser Constants
constants_rule m = to constant_list_of (seq (mark_rule (codes "(")) (seq (comma_list m begins_constant constant_behind constant_rule) (mark_rule (codes ")"))))

-- ---- names in brackets

-- the tokens with which a further name begins: its comma or the name
abbrev pub begins_bracketed_name : Token → Bool
begins_bracketed_name t = is_comma_mark t || is_name_token t

-- a further name of what was read
abbrev pub bracketed_name_of : Option Place × Token → BracketedName
bracketed_name_of x = record { comma = x.0; name = x.1 }

-- [","] name
abbrev pub bracketed_name_rule : Parser BracketedName
bracketed_name_rule = to bracketed_name_of (seq (optional is_comma_mark (mark_rule (codes ","))) (kept is_name_token))

-- the names of what was read: the first has no comma
abbrev pub bracketed_names_of : Token × List BracketedName → List BracketedName
bracketed_names_of x = bracketed_name_of (None, x.0) ∷ x.1

-- name { [","] name }
abbrev pub bracketed_names_rule : ℕ → Parser (List BracketedName)
bracketed_names_rule m = to bracketed_names_of (seq (kept is_name_token) (many_of m begins_bracketed_name bracketed_name_rule))

-- the names in brackets of what was read
abbrev pub bracketed_of : Place × (List BracketedName × Place) → Bracketed
bracketed_of x = record { opening = x.0; names = x.1.0; closing = x.1.1 }

-- "[" name { [","] name } "]"
abbrev pub bracketed_rule : ℕ → Parser Bracketed
bracketed_rule m = to bracketed_of (seq (mark_rule (codes "[")) (seq (bracketed_names_rule m) (mark_rule (codes "]"))))

-- ---- what is declared of a package, a hash, an iterator or a thread program

-- the text of a hash of what was read
abbrev pub hash_table_of : Place × Token → HashTable
hash_table_of x = record { comma = x.0; text = x.1 }

-- "," text, where the text spells a table
abbrev pub hash_table_rule : Parser HashTable
hash_table_rule = to hash_table_of (seq (mark_rule (codes ",")) (kept spells_table))

-- the size of a hash of what was read
abbrev pub hash_size_of : Place × (Token × Option HashTable) → HashSize
hash_size_of x = record { comma = x.0; number = x.1.0; table = x.1.1 }

-- "," integer [ "," text ]
abbrev pub hash_size_rule : Parser HashSize
hash_size_rule = to hash_size_of (seq (mark_rule (codes ",")) (seq (kept is_integer) (optional is_comma_mark hash_table_rule)))

-- what stands behind `package` where a hash is declared
abbrev pub HashTree : Type 0
HashTree = Token × (Token × (Place × (Bracketed × (Place × (Bracketed × (Option HashSize × (Place × Place)))))))

-- "hash" name "(" vars "," vars [ "," integer [ "," text ] ] ")" ";"
abbrev pub hash_rule : ℕ → Parser HashTree
hash_rule m =
    seq (word_rule (codes "hash")) (seq (kept is_name_token) (seq (mark_rule (codes "(")) (seq (bracketed_rule m) (seq (mark_rule (codes ","))
    (seq (bracketed_rule m) (seq (optional is_comma_mark hash_size_rule) (seq (mark_rule (codes ")")) (mark_rule (codes ";")))))))))

-- what stands behind `package` where an iterator is declared
abbrev pub HiterTree : Type 0
HiterTree = Token × (Token × (Place × (Token × (Place × Place))))

-- "hiter" name "(" text ")" ";"
abbrev pub hiter_rule : Parser HiterTree
hiter_rule = seq (word_rule (codes "hiter")) (seq (kept is_name_token) (seq (mark_rule (codes "(")) (seq (kept is_text) (seq (mark_rule (codes ")")) (mark_rule (codes ";"))))))

-- what stands behind `package` where an instance of a package is declared
abbrev pub InstanceRead : Type 0
InstanceRead = Token × (Token × (Option Constants × Place))

-- pname name [ "(" [ const { "," const } ] ")" ] ";"
abbrev pub instance_rule : ℕ → Parser InstanceRead
instance_rule m = seq (kept is_package_name) (seq (kept is_name_token) (seq (optional is_open_mark (constants_rule m)) (mark_rule (codes ";"))))

-- what stands behind `package`, by its kind
abbrev pub PackageTail : Type 0
PackageTail = Either HashTree (Either HiterTree InstanceRead)

-- a hash, an iterator, or an instance of a package, by the word behind `package`
abbrev pub package_tail : ℕ → Parser PackageTail
package_tail m = choose_by (starts (codes "hash")) (to One (hash_rule m)) (to Two (choose_by (starts (codes "hiter")) (to One hiter_rule) (to Two (instance_rule m))))

-- what stands behind `dcl` where an instance of a thread program is declared
abbrev pub ThreadInstanceTree : Type 0
ThreadInstanceTree = Token × (Token × (Token × Place))

-- "thread" name name ";"
abbrev pub thread_instance_rule : Parser ThreadInstanceTree
thread_instance_rule = seq (word_rule (codes "thread")) (seq (kept is_name_token) (seq (kept is_name_token) (mark_rule (codes ";"))))

-- what stands behind `dcl`, by its kind
abbrev pub DeclarationTail : Type 0
DeclarationTail = Either (Token × PackageTail) (Either ThreadInstanceTree VariablesTree)

-- the declaration of what was read behind `package`
abbrev pub package_declaration : Token → Token → PackageTail → Declaration
package_declaration k w (One x) = declared_as.Hash k w x.0 x.1.0 x.1.1.0 x.1.1.1.0 x.1.1.1.1.0 x.1.1.1.1.1.0 x.1.1.1.1.1.1.0 x.1.1.1.1.1.1.1.0 x.1.1.1.1.1.1.1.1
package_declaration k w (Two (One x)) = declared_as.Hiter k w x.0 x.1.0 x.1.1.0 x.1.1.1.0 x.1.1.1.1.0 x.1.1.1.1.1
package_declaration k w (Two (Two x)) = declared_as.Instance k w x.0 x.1.0 x.1.1.0 x.1.1.1

-- the declaration of what was read behind `dcl`, by its kind
abbrev pub declaration_of : Token × DeclarationTail → Declaration
declaration_of (k, One x) = package_declaration k x.0 x.1
declaration_of (k, Two (One x)) = declared_as.Thread k x.0 x.1.0 x.1.1.0 x.1.1.1
declaration_of (k, Two (Two x)) = declared_as.Variables (variables_of (k, x))

-- what is declared, by the word behind `dcl`
abbrev pub declaration_tail : ℕ → Parser DeclarationTail
declaration_tail m =
    choose_by (starts (codes "package")) (to One (seq (word_rule (codes "package")) (package_tail m)))
    (to Two (choose_by (starts (codes "thread")) (to One thread_instance_rule) (to Two (variables_tail m))))

-- a declaration
abbrev pub declaration_rule : ℕ → Parser Declaration
declaration_rule m = to declaration_of (seq (kept is_dcl) (declaration_tail m))

-- ---- methods

-- the parts of a parameter, as they are read
abbrev pub ParameterTree : Type 0
ParameterTree = Option Token × (TypeName × Token)

-- the tokens with which a parameter begins: `in_out` or the word of a type
abbrev pub begins_parameter : Token → Bool
begins_parameter t = starts (codes "in_out") t || begins_type t

-- ["in_out"] type name
abbrev pub parameter_rule : Parser ParameterTree
parameter_rule = seq (optional (starts (codes "in_out")) (word_rule (codes "in_out"))) (seq type_rule (kept is_name_token))

-- a parameter behind its comma, where it has one
abbrev pub parameter_behind : Option Place → ParameterTree → Parameter
parameter_behind comma x = record { comma = comma; in_out = x.0; ty = x.1.0; name = x.1.1 }

-- the parameters of what was read
abbrev pub parameters_of : Place × (List Parameter × Place) → Parameters
parameters_of x = record { opening = x.0; list = x.1.0; closing = x.1.1 }

-- "(" [ param { "," param } ] ")"
abbrev pub parameters_rule : ℕ → Parser Parameters
parameters_rule m = to parameters_of (seq (mark_rule (codes "(")) (seq (comma_list m begins_parameter parameter_behind parameter_rule) (mark_rule (codes ")"))))

-- the result's type of what was read
abbrev pub returns_of : Token × TypeName → Returns
returns_of x = record { keyword = x.0; ty = x.1 }

-- "returns" type
abbrev pub returns_rule : Parser Returns
returns_rule = to returns_of (seq (word_rule (codes "returns")) type_rule)

-- the body of a method, as it is read
abbrev pub BodyRead : Type 0
BodyRead = List VariableDeclaration × (Option Reading × (List Statement × (Token × Place)))

-- { dcl type name { name } ";" } [ reading ] { stmt } "end" ";"
abbrev pub body_rule : ℕ → Parser Statement → Parser BodyRead
body_rule m s = seq (many_of m is_dcl (variables_rule m)) (seq (optional begins_reading (reading_rule m)) (seq (many_of m begins_statement s) (seq (word_rule (codes "end")) (mark_rule (codes ";")))))

-- the parts of a method, as they are read
abbrev pub MethodRead : Type 0
MethodRead = Token × (Token × (Parameters × (Option Returns × (Place × BodyRead))))

-- the method of what was read
abbrev pub method_of : MethodRead → Method
method_of x = record {
  keyword = x.0;
  name = x.1.0;
  parameters = x.1.1.0;
  returns = x.1.1.1.0;
  semicolon = x.1.1.1.1.0;
  locals = x.1.1.1.1.1.0;
  reading = x.1.1.1.1.1.1.0;
  body = listed_statements x.1.1.1.1.1.1.1.0;
  end_keyword = x.1.1.1.1.1.1.1.1.0;
  end = x.1.1.1.1.1.1.1.1.1;
}

-- "method" name "(" [ param { "," param } ] ")" [ "returns" type ] ";" body; a statement that stands directly in a method opens no level
abbrev pub method_rule : ℕ → ℕ → Parser Method
method_rule m n =
    to method_of (seq (word_rule (codes "method")) (seq (kept is_name_token) (seq (parameters_rule m) (seq (optional (starts (codes "returns")) returns_rule)
    (seq (mark_rule (codes ";")) (body_rule m (statement_rule m n)))))))

-- ---- globals

-- the parts of a list of variables, as they are read
abbrev pub ListedTree : Type 0
ListedTree = Token × (List Token × Place)

-- ("retain" | "keep" | "drop") name { name } ";"
abbrev pub listed_rule : ℕ → Parser ListedTree
listed_rule m = seq (kept is_list_keyword) (seq (names_rule m) (mark_rule (codes ";")))

-- a global as it is read, by its kind
abbrev pub GlobalTree : Type 0
GlobalTree = Either Declaration (Either ListedTree Method)

-- the global of what was read, by its kind
abbrev pub global_of_kind : GlobalTree → GlobalItem
global_of_kind (One d) = Declared d
global_of_kind (Two (One x)) = Listed x.0 x.1.0 x.1.1
global_of_kind (Two (Two m)) = Defined m

-- the words with which a global begins
abbrev pub begins_global : Token → Bool
begins_global t = is_one_of (codes "dcl" ∷ codes "declare" ∷ codes "retain" ∷ codes "keep" ∷ codes "drop" ∷ codes "method" ∷ []) [] t

-- declare | ("retain" | "keep" | "drop") name { name } ";" | method, by the first word
abbrev pub global_rule : ℕ → ℕ → Parser GlobalItem
global_rule m n = to global_of_kind (choose_by is_dcl (to One (declaration_rule m)) (to Two (choose_by is_list_keyword (to One (listed_rule m)) (to Two (method_rule m n)))))
