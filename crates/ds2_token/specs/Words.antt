-- What a token is to the grammar: a word, a mark, a name, a table, a constant.
use Rattle.std.specs.Prelude.{ℕ, Bool, true, false, not, ◌&&◌, ◌||◌, nat_le, codes, List, [], ◌∷◌, length, map}
use Rattle.std.specs.List.{list_any}
use Rattle.std.specs.Char.{to_ascii_lowercase}
use Rattle.std.specs.Str.{bytes_eq}
use Rattle.ds2_base.specs.declared.place.Place.{Place}
use Rattle.ds2_base.specs.declared.name.TheConstants.{NAME_CHARACTERS}
use Rattle.ds2_token.specs.declared.kinds.TokenKind.{TokenKind}
use Rattle.ds2_token.specs.declared.kinds.TokenKind.TheVariants.{Word, Quoted, Text, Integer, Decimal, Mark}
use Rattle.ds2_token.specs.declared.token.Token.{Token}
use Rattle.ds2_token.specs.Forms.{is_word_form, between_quotes}

-- ---- kinds

-- the kind of words
abbrev pub word_kind : TokenKind → Bool
word_kind Word = true
word_kind _ = false

-- the kind of names between double quotes
abbrev pub quoted_kind : TokenKind → Bool
quoted_kind Quoted = true
quoted_kind _ = false

-- the kind of text constants
abbrev pub text_kind : TokenKind → Bool
text_kind Text = true
text_kind _ = false

-- the kind of integer constants
abbrev pub integer_kind : TokenKind → Bool
integer_kind Integer = true
integer_kind _ = false

-- the kind of decimal constants
abbrev pub decimal_kind : TokenKind → Bool
decimal_kind Decimal = true
decimal_kind _ = false

-- the kind of marks
abbrev pub mark_kind : TokenKind → Bool
mark_kind Mark = true
mark_kind _ = false

-- any word, reserved or not
abbrev pub is_any_word : Token → Bool
is_any_word t = word_kind t.kind

-- a text constant
abbrev pub is_text : Token → Bool
is_text t = text_kind t.kind

-- an integer constant
abbrev pub is_integer : Token → Bool
is_integer t = integer_kind t.kind

-- a decimal constant
abbrev pub is_decimal : Token → Bool
is_decimal t = decimal_kind t.kind

-- letters are this word, without regard to their case
abbrev pub spells : List ℕ → List ℕ → Bool
spells letters word = bytes_eq (map to_ascii_lowercase letters) word

-- this word, without regard to case
abbrev pub is_word : List ℕ → Token → Bool
is_word word t = word_kind t.kind && spells t.spelling word

-- this mark
abbrev pub is_mark : List ℕ → Token → Bool
is_mark mark t = mark_kind t.kind && bytes_eq t.spelling mark

-- one of these words or one of these marks
abbrev pub is_one_of : List (List ℕ) → List (List ℕ) → Token → Bool
is_one_of words marks t = list_any (λ word. is_word word t) words || list_any (λ mark. is_mark mark t) marks

-- ---- names

-- the words that name nothing unless they stand between double quotes
abbrev pub reserved_words : List (List ℕ)
reserved_words =
    codes "and" ∷ codes "bigint" ∷ codes "by" ∷ codes "char" ∷ codes "continue" ∷ codes "data" ∷ codes "dcl" ∷ codes "decimal" ∷
    codes "declare" ∷ codes "descending" ∷ codes "do" ∷ codes "drop" ∷ codes "else" ∷ codes "end" ∷ codes "enddata" ∷
    codes "endpackage" ∷ codes "endthread" ∷ codes "eq" ∷ codes "from" ∷ codes "ge" ∷ codes "gt" ∷ codes "if" ∷ codes "in_out" ∷
    codes "keep" ∷ codes "le" ∷ codes "leave" ∷ codes "lt" ∷ codes "merge" ∷ codes "method" ∷ codes "ne" ∷ codes "not" ∷
    codes "null" ∷ codes "numeric" ∷ codes "or" ∷ codes "otherwise" ∷ codes "output" ∷ codes "package" ∷ codes "put" ∷
    codes "retain" ∷ codes "return" ∷ codes "returns" ∷ codes "select" ∷ codes "set" ∷ codes "then" ∷ codes "thread" ∷
    codes "to" ∷ codes "until" ∷ codes "varchar" ∷ codes "when" ∷ codes "while" ∷ []

-- letters are a reserved word, without regard to their case
abbrev pub spells_reserved : List ℕ → Bool
spells_reserved letters = list_any (λ word. spells letters word) reserved_words

-- a reserved word
abbrev pub is_reserved : Token → Bool
is_reserved t = word_kind t.kind && spells_reserved t.spelling

-- a table: a word that is not reserved
abbrev pub is_table : Token → Bool
is_table t = word_kind t.kind && not (is_reserved t)

-- a name: a word that is not reserved, or a quoted token
abbrev pub is_name_token : Token → Bool
is_name_token t = quoted_kind t.kind || is_table t

-- a name that is this word, in quotes or not
abbrev pub names_word : List ℕ → Token → Bool
names_word word t = is_word word t || quoted_kind t.kind && spells (between_quotes t.spelling) word

-- a package's name: a name other than `hash` and `hiter`
abbrev pub is_package_name : Token → Bool
is_package_name t = is_name_token t && not (names_word (codes "hash") t) && not (names_word (codes "hiter") t)

-- the name of a table: a word in lower case that is not reserved
abbrev pub is_table_name : List ℕ → Bool
is_table_name name = (is_word_form name && bytes_eq (map to_ascii_lowercase name) name) && not (spells_reserved name)

-- a text that spells a table
abbrev pub spells_table : Token → Bool
spells_table t =
    text_kind t.kind && is_word_form (between_quotes t.spelling) && nat_le (length (between_quotes t.spelling)) NAME_CHARACTERS
    && not (spells_reserved (between_quotes t.spelling))

-- ---- marks

-- this mark at a place
abbrev pub mark_at : List ℕ → Place → Token
mark_at mark place = record { kind = Mark; spelling = mark; place = place }
