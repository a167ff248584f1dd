-- The laws of types and declarations.
use Rattle.std.proofs.Common.{true≢false, ◌≡◌, ℕ, true, false, not, ◌&&◌, ◌||◌, codes, List, [], ◌∷◌, ◌++◌, Option, None, Some, refl, sym, ap, ◌∙◌, append_assoc}
use Rattle.ds2_base.specs.declared.place.Place.{Place}
use Rattle.ds2_token.specs.declared.kinds.TokenKind.TheVariants as token_kind
use Rattle.ds2_token.specs.declared.token.Token.{Token}
use Rattle.ds2_token.specs.Forms.{between_quotes}
use Rattle.ds2_token.specs.Words.{quoted_kind, spells, is_word, is_one_of, is_name_token, is_package_name, is_text, is_integer, spells_table, names_word}
use Rattle.ds2_tree.specs.Parsers.{Either, One, Two, first, when, many_of}
use Rattle.ds2_tree.proofs.Words.{Part, Law, Passes, kept_law, choice_part, then_part, kept_part}
use Rattle.ds2_tree.specs.declared.globals.Declaration.{Declaration}
use Rattle.ds2_tree.specs.declared.globals.Declaration.TheVariants as declared_as
use Rattle.ds2_tree.specs.declared.globals.BracketedName.{BracketedName}
use Rattle.ds2_tree.specs.declared.globals.TypeName.{TypeName}
use Rattle.ds2_tree.specs.declared.globals.TypeName.TheVariants as type_name
use Rattle.ds2_tree.specs.Marks.{comma_mark, close_mark, open_mark, minus_mark, semicolon_mark}
use Rattle.ds2_tree.specs.Lists.{if_any, one_token, all_spelled, IfAny, SomeOf, Each, HasNoComma}
use Rattle.ds2_tree.specs.Expressions.{is_constant, is_null_word}
use Rattle.ds2_tree.specs.Globals.{scale_spelling, type_spelling, variables_spelling, constant_spelling, constants_spelling, bracketed_name_spelling, bracketed_spelling, hash_table_spelling, hash_size_spelling, declaration_spelling, is_dcl, is_decimal_keyword, is_text_keyword, IsType, IsVariables, is_signed_constant, IsConstant, AreConstants, AreBracketed, IsHashSize, IsDeclaration}
use Rattle.ds2_parse_rules.specs.GrammarTokens.{mark_rule, is_open_mark, is_comma_mark, starts}
use Rattle.ds2_parse_rules.specs.GlobalGrammar.{begins_type, type_scale_of, scale_rule, DecimalTypeTree, decimal_type_rule, TextTypeTree, text_type_rule, TypeTree, type_of_kind, type_rule, names_rule, VariablesTree, variables_of, variables_tail, variables_rule, is_minus_mark, is_number_constant, is_unsigned_constant, begins_constant, signed_value, constant_rule, constant_behind, constant_list_of, constants_rule, begins_bracketed_name, bracketed_name_of, bracketed_name_rule, bracketed_names_of, bracketed_names_rule, bracketed_of, bracketed_rule, hash_table_of, hash_table_rule, hash_size_of, hash_size_rule, HashTree, hash_rule, HiterTree, hiter_rule, InstanceRead, instance_rule, PackageTail, package_tail, ThreadInstanceTree, thread_instance_rule, DeclarationTail, declaration_of, declaration_tail, declaration_rule}
use Rattle.ds2_parse_rules.proofs.GrammarTokenLaws.{apart, not_true, or_cases, or_false, and_left, and_right, word_value, others, name_is_none, constant_is_none, among_more, mark_law, place_part, Behind, word_token, zero_token, start, or_last}
use Rattle.ds2_parse_rules.proofs.PlainLaws.{alike_law, plain_part, Anything, plain_law, followed, chosen, mark_then, word_then, name_then, kept_then, word_law, name_law, any_law, all_law, some_law, comma_law}

-- ---- types

abbrev type_words : List (List ℕ)
type_words = codes "bigint" ∷ codes "decimal" ∷ codes "numeric" ∷ codes "char" ∷ codes "varchar" ∷ []

-- ("decimal" | "numeric") "(" integer ["," integer] ")"
abbrev decimal_spelling : DecimalTypeTree → List Token
decimal_spelling x = x.0 ∷ (open_mark x.1.0 ∷ (x.1.1.0 ∷ (if_any scale_spelling x.1.1.1.0 ++ (close_mark x.1.1.1.1 ∷ []))))

abbrev IsDecimalType : DecimalTypeTree → Type 0
IsDecimalType x = Passes is_decimal_keyword x.0 × Passes is_integer x.1.1.0 × IfAny (λ s. is_integer s.number ≡ true) x.1.1.1.0

-- ("char" | "varchar") "(" integer ")"
abbrev text_spelling : TextTypeTree → List Token
text_spelling x = x.0 ∷ (open_mark x.1.0 ∷ (x.1.1.0 ∷ (close_mark x.1.1.1 ∷ [])))

abbrev IsTextType : TextTypeTree → Type 0
IsTextType x = Passes is_text_keyword x.0 × Passes is_integer x.1.1.0

abbrev type_kinds : Part TypeTree
type_kinds = choice_part (kept_part (is_word (codes "bigint"))) (choice_part (plain_part decimal_spelling IsDecimalType Anything) (plain_part text_spelling IsTextType Anything))

abbrev type_from : TypeName → TypeTree
type_from (type_name.BigInt k) = One k
type_from (type_name.Decimal k p i s q) = Two (One (k, (p, (i, (s, q)))))
type_from (type_name.Text k p i q) = Two (Two (k, (p, (i, q))))

module _ {m n : ℕ} where
  scale_law : Law m n (plain_part scale_spelling (λ s. is_integer s.number ≡ true) Anything) scale_rule
  scale_law = plain_law scale_spelling (λ s. is_integer s.number ≡ true) Anything type_scale_of (λ b. (b.comma, b.number))
      (mark_then (codes ",") refl (kept_law m n is_integer (zero_token, refl)))
      (λ b f. refl) (λ a. refl) (λ a. refl) (λ a f. f.1) (λ b f. (tt, f, tt)) (λ a o f h. tt)

  decimal_law : Law m n (plain_part decimal_spelling IsDecimalType Anything) decimal_type_rule
  decimal_law = alike_law (plain_part decimal_spelling IsDecimalType Anything)
      (kept_then is_decimal_keyword (word_token (codes "decimal"), refl) (mark_then (codes "(") refl (kept_then is_integer (zero_token, refl)
      (followed (any_law scale_law is_comma_mark (λ a rest f. refl)) (mark_law m n (codes ")") refl) (λ a b rest f g h. (refl, tt))))))
      (λ a. refl) (λ a. refl) (λ a f. (f.0, f.1.1.0, f.1.1.1.0)) (λ a f. (f.0, (tt, (f.1, (f.2, tt, tt), tt), tt), tt)) (λ a o f h. tt) (λ a o h. tt)

  text_law : Law m n (plain_part text_spelling IsTextType Anything) text_type_rule
  text_law = alike_law (plain_part text_spelling IsTextType Anything)
      (kept_then is_text_keyword (word_token (codes "char"), refl) (mark_then (codes "(") refl (kept_then is_integer (zero_token, refl) (mark_law m n (codes ")") refl))))
      (λ a. refl) (λ a. refl) (λ a f. (f.0, f.1.1.0)) (λ a f. (f.0, (tt, (f.1, tt, tt), tt), tt)) (λ a o f h. tt) (λ a o h. tt)

  pub type_law : Law m n (plain_part type_spelling IsType Anything) type_rule
  type_law = plain_law type_spelling IsType Anything type_of_kind type_from
      (chosen (word_law m n (codes "bigint") refl)
      (chosen decimal_law text_law is_decimal_keyword (λ x rest f. f.0) (λ x rest f h. others (codes "char" ∷ codes "varchar" ∷ []) [] (codes "decimal" ∷ codes "numeric" ∷ []) [] x.0 f.0 refl refl))
      (starts (codes "bigint")) (λ t rest f. word_value (codes "bigint") t f (codes "bigint" ∷ []) []) no_bigint)
      back spelled opened fine fine' next
    where
      no_bigint : (x : Either DecimalTypeTree TextTypeTree) (rest : List Token) → (choice_part (plain_part decimal_spelling IsDecimalType Anything) (plain_part text_spelling IsTextType Anything)).Fine x
          → (choice_part (plain_part decimal_spelling IsDecimalType Anything) (plain_part text_spelling IsTextType Anything)).Next x (first rest)
          → when (starts (codes "bigint")) (first ((choice_part (plain_part decimal_spelling IsDecimalType Anything) (plain_part text_spelling IsTextType Anything)).spelling x ++ rest)) ≡ false
      no_bigint (One x) rest f h = others (codes "decimal" ∷ codes "numeric" ∷ []) [] (codes "bigint" ∷ []) [] x.0 f.0 refl refl
      no_bigint (Two x) rest f h = others (codes "char" ∷ codes "varchar" ∷ []) [] (codes "bigint" ∷ []) [] x.0 f.0 refl refl

      back : (b : TypeName) → IsType b → type_of_kind (type_from b) ≡ b
      back (type_name.BigInt k) f = refl
      back (type_name.Decimal k p i s q) f = refl
      back (type_name.Text k p i q) f = refl

      spelled : (a : TypeTree) → type_spelling (type_of_kind a) ≡ type_kinds.spelling a
      spelled (One k) = refl
      spelled (Two (One x)) = refl
      spelled (Two (Two x)) = refl

      opened : (a : TypeTree) → None ≡ type_kinds.opens a
      opened (One k) = refl
      opened (Two (One x)) = refl
      opened (Two (Two x)) = refl

      fine : (a : TypeTree) → type_kinds.Fine a → IsType (type_of_kind a)
      fine (One k) f = f
      fine (Two (One x)) f = f
      fine (Two (Two x)) f = f

      fine' : (b : TypeName) → IsType b → type_kinds.Fine (type_from b)
      fine' (type_name.BigInt k) f = f
      fine' (type_name.Decimal k p i s q) f = f
      fine' (type_name.Text k p i q) f = f

      next : (a : TypeTree) (o : Option Token) → type_kinds.Fine a → Unit {0} → type_kinds.Next a o
      next (One k) o f h = tt
      next (Two (One x)) o f h = tt
      next (Two (Two x)) o f h = tt

-- a type begins with one of its words
pub type_begins : (t : TypeName) (rest : List Token) → IsType t → when begins_type (first (type_spelling t ++ rest)) ≡ true
type_begins (type_name.BigInt k) rest f = word_value (codes "bigint") k f type_words []
type_begins (type_name.Decimal k p i s q) rest f = among_more (codes "decimal" ∷ codes "numeric" ∷ []) [] type_words [] k f.0 refl refl
type_begins (type_name.Text k p i q) rest f = among_more (codes "char" ∷ codes "varchar" ∷ []) [] type_words [] k f.0 refl refl

-- it begins with none of other words
pub type_none : (vs : List (List ℕ)) (ms : List (List ℕ)) (o : Option Token) → apart type_words vs ≡ true → when begins_type o ≡ true → when (is_one_of vs ms) o ≡ false
type_none vs ms None a h = absurd (true≢false (sym h))
type_none vs ms (Some t) a h = others type_words [] vs ms t h a refl

-- ---- variables

-- type name { name } ";"
abbrev pub tail_spelling : VariablesTree → List Token
tail_spelling x = type_spelling x.0 ++ (all_spelled one_token x.1.0 ++ (semicolon_mark x.1.1 ∷ []))

abbrev pub IsTail : VariablesTree → Type 0
IsTail x = IsType x.0 × SomeOf (Passes is_name_token) x.1.0

module _ {m n : ℕ} where
  pub names_law : Law m n (plain_part (all_spelled one_token) (SomeOf (Passes is_name_token)) (Behind is_name_token Anything)) (names_rule m)
  names_law = some_law (name_law m n) is_name_token (λ t rest f. f) (λ b rest f. tt)

  tail_law : Law m n (plain_part tail_spelling IsTail Anything) (variables_tail m)
  tail_law = alike_law (plain_part tail_spelling IsTail Anything)
      (followed type_law (followed names_law (mark_law m n (codes ";") refl) (λ a b rest f g h. (refl, tt))) (λ a b rest f g h. tt))
      (λ a. refl) (λ a. refl) (λ a f. (f.0, f.1.0)) (λ a f. (f.0, (f.1, tt, tt), tt)) (λ a o f h. tt) (λ a o h. tt)

  pub variables_law : Law m n (plain_part variables_spelling IsVariables Anything) (variables_rule m)
  variables_law = plain_law variables_spelling IsVariables Anything variables_of (λ b. (b.keyword, (b.ty, (b.names, b.end))))
      (kept_then is_dcl (word_token (codes "dcl"), refl) tail_law)
      (λ b f. refl) (λ a. refl) (λ a. refl) (λ a f. (f.0, f.1.0, f.1.1)) (λ b f. (f.0, (f.1, f.2), tt)) (λ a o f h. tt)

-- ---- constants

abbrev signed_spelling : Option Place × Token → List Token
signed_spelling x = if_any (λ p. one_token (minus_mark p)) x.0 ++ (x.1 ∷ [])

abbrev IsSigned : Option Place × Token → Type 0
IsSigned x = is_signed_constant x.0 x.1 ≡ true

-- neither a constant nor `null` is a mark
unsigned_is_no_mark : (ms : List (List ℕ)) (t : Token) → is_unsigned_constant t ≡ true → is_one_of [] ms t ≡ false
unsigned_is_no_mark ms t h = or_cases (is_constant t) (is_null_word t) h (λ c. constant_is_none [] ms t c) (λ w. word_value (codes "null") t w [] ms)

abbrev signs : Part (Either (Place × Token) Token)
signs = choice_part (then_part (place_part (codes "-")) (kept_part is_number_constant)) (kept_part is_unsigned_constant)

constant_begins : (x : Option Place × Token) (rest : List Token) → IsSigned x → when begins_constant (first (signed_spelling x ++ rest)) ≡ true
constant_begins (Some p, t) rest f = refl
constant_begins (None, t) rest f = or_last (is_minus_mark t) (is_unsigned_constant t) f

module _ {m n : ℕ} where
  value_law : Law m n (plain_part signed_spelling IsSigned Anything) constant_rule
  value_law = plain_law signed_spelling IsSigned Anything signed_value signed_from
      (chosen (mark_then (codes "-") refl (kept_law m n is_number_constant (zero_token, refl))) (kept_law m n is_unsigned_constant (zero_token, refl))
      is_minus_mark (λ x rest f. refl) (λ t rest f h. unsigned_is_no_mark (codes "-" ∷ []) t f))
      back spelled opened fine fine' next
    where
      signed_from : Option Place × Token → Either (Place × Token) Token
      signed_from (Some p, t) = One (p, t)
      signed_from (None, t) = Two t

      back : (b : Option Place × Token) → IsSigned b → signed_value (signed_from b) ≡ b
      back (Some p, t) f = refl
      back (None, t) f = refl

      spelled : (a : Either (Place × Token) Token) → signed_spelling (signed_value a) ≡ signs.spelling a
      spelled (One x) = refl
      spelled (Two t) = refl

      opened : (a : Either (Place × Token) Token) → None ≡ signs.opens a
      opened (One x) = refl
      opened (Two t) = refl

      fine : (a : Either (Place × Token) Token) → signs.Fine a → IsSigned (signed_value a)
      fine (One x) f = f.1
      fine (Two t) f = f

      fine' : (b : Option Place × Token) → IsSigned b → signs.Fine (signed_from b)
      fine' (Some p, t) f = (tt, f, tt)
      fine' (None, t) f = f

      next : (a : Either (Place × Token) Token) (o : Option Token) → signs.Fine a → Unit {0} → signs.Next a o
      next (One x) o f h = tt
      next (Two t) o f h = tt

  pub constants_law : Law m n (plain_part constants_spelling AreConstants Anything) (constants_rule m)
  constants_law = plain_law constants_spelling AreConstants Anything constant_list_of (λ b. (b.opening, (b.list, b.closing)))
      (mark_then (codes "(") refl (followed
      (comma_law value_law begins_constant constant_begins (λ q. tt) constant_spelling (λ c. c.comma) IsConstant constant_behind (λ c. (c.minus, c.value))
      (λ a. refl) (λ c x. refl) (λ x. refl) (λ q x. refl) (λ c x f. f) (λ a f. f))
      (mark_law m n (codes ")") refl) (λ a b rest f g h. (refl, (refl, tt)))))
      (λ b f. refl) (λ a. refl) (λ a. refl) (λ a f. f.1.0) (λ b f. (tt, (f, tt, tt), tt)) (λ a o f h. tt)

-- ---- names in brackets

abbrev IsFurtherName : BracketedName → Type 0
IsFurtherName x = Passes is_name_token x.name

further_name_begins : (x : BracketedName) (rest : List Token) → IsFurtherName x → when begins_bracketed_name (first (bracketed_name_spelling x ++ rest)) ≡ true
further_name_begins x rest f = at x.comma x.name rest f
  where
    at : (c : Option Place) (t : Token) (rest : List Token) → is_name_token t ≡ true → when begins_bracketed_name (first ((if_any (λ p. one_token (comma_mark p)) c ++ (t ∷ [])) ++ rest)) ≡ true
    at None t rest h = or_last (is_comma_mark t) (is_name_token t) h
    at (Some p) t rest h = refl

module _ {m n : ℕ} where
  comma_place_law : Law m n (plain_part (λ p. one_token (comma_mark p)) (λ p. Unit {0}) Anything) (mark_rule (codes ","))
  comma_place_law = mark_law m n (codes ",") refl

  further_name_law : Law m n (plain_part bracketed_name_spelling IsFurtherName Anything) bracketed_name_rule
  further_name_law = plain_law bracketed_name_spelling IsFurtherName Anything bracketed_name_of (λ b. (b.comma, b.name))
      (followed (any_law comma_place_law is_comma_mark (λ p rest f. refl)) (name_law m n) (λ x t rest f g h. (name_is_none [] (codes "," ∷ []) t refl g, tt)))
      (λ b f. refl) (λ a. refl) (λ a. refl) (λ a f. f.1) (λ b f. (any_comma b.comma, f, tt)) (λ a o f h. tt)
    where
      any_comma : (c : Option Place) → IfAny (λ (p : Place). Unit {0}) c
      any_comma None = tt
      any_comma (Some p) = tt

  further_names_law : Law m n (plain_part (all_spelled bracketed_name_spelling) (Each IsFurtherName) (Behind begins_bracketed_name Anything)) (many_of m begins_bracketed_name bracketed_name_rule)
  further_names_law = all_law further_name_law begins_bracketed_name further_name_begins (λ b rest f. tt)

  bracketed_names_law : Law m n (plain_part (all_spelled bracketed_name_spelling) AreBracketed (Behind begins_bracketed_name Anything)) (bracketed_names_rule m)
  bracketed_names_law = plain_law (all_spelled bracketed_name_spelling) AreBracketed (Behind begins_bracketed_name Anything) bracketed_names_of names_from
      (name_then further_names_law) back (λ a. refl) (λ a. refl) (λ a f. (tt, f.0, f.1)) fine' (λ a o f h. h)
    where
      names_from : List BracketedName → Token × List BracketedName
      names_from [] = (zero_token, [])
      names_from (x ∷ l) = (x.name, l)

      no_comma : (c : Option Place) (t : Token) → HasNoComma c → bracketed_name_of (None, t) ≡ bracketed_name_of (c, t)
      no_comma None t h = refl
      no_comma (Some p) t h = absurd h

      back : (l : List BracketedName) → AreBracketed l → bracketed_names_of (names_from l) ≡ l
      back [] f = absurd f
      back (x ∷ l) f = ap (λ y. y ∷ l) (no_comma x.comma x.name f.0)

      fine' : (l : List BracketedName) → AreBracketed l → (then_part (kept_part is_name_token) (plain_part (all_spelled bracketed_name_spelling) (Each IsFurtherName) (Behind begins_bracketed_name Anything))).Fine (names_from l)
      fine' [] f = absurd f
      fine' (x ∷ l) f = (f.1, f.2, tt)

  pub bracketed_law : Law m n (plain_part bracketed_spelling (λ b. AreBracketed b.names) Anything) (bracketed_rule m)
  bracketed_law = plain_law bracketed_spelling (λ b. AreBracketed b.names) Anything bracketed_of (λ b. (b.opening, (b.names, b.closing)))
      (mark_then (codes "[") refl (followed bracketed_names_law (mark_law m n (codes "]") refl) (λ a b rest f g h. (refl, tt))))
      (λ b f. refl) (λ a. refl) (λ a. refl) (λ a f. f.1.0) (λ b f. (tt, (f, tt, tt), tt)) (λ a o f h. tt)

-- ---- hashes, iterators and instances

known_table : (t : Token) × Passes spells_table t
known_table = (record { kind = token_kind.Text; spelling = codes "'x'"; place = start }, refl)

known_text : (t : Token) × Passes is_text t
known_text = (record { kind = token_kind.Text; spelling = codes "'x'"; place = start }, refl)

-- "hash" name "(" vars "," vars [ "," integer [ "," text ] ] ")" ";"
abbrev hash_spelling : HashTree → List Token
hash_spelling x = x.0 ∷ (x.1.0 ∷ (open_mark x.1.1.0 ∷ (bracketed_spelling x.1.1.1.0 ++ (comma_mark x.1.1.1.1.0 ∷ (bracketed_spelling x.1.1.1.1.1.0
    ++ (if_any hash_size_spelling x.1.1.1.1.1.1.0 ++ (close_mark x.1.1.1.1.1.1.1.0 ∷ (semicolon_mark x.1.1.1.1.1.1.1.1 ∷ []))))))))

abbrev IsHash : HashTree → Type 0
IsHash x = Passes (is_word (codes "hash")) x.0 × Passes is_name_token x.1.0 × AreBracketed x.1.1.1.0.names × AreBracketed x.1.1.1.1.1.0.names × IfAny IsHashSize x.1.1.1.1.1.1.0

-- "hiter" name "(" text ")" ";"
abbrev hiter_spelling : HiterTree → List Token
hiter_spelling x = x.0 ∷ (x.1.0 ∷ (open_mark x.1.1.0 ∷ (x.1.1.1.0 ∷ (close_mark x.1.1.1.1.0 ∷ (semicolon_mark x.1.1.1.1.1 ∷ [])))))

abbrev IsHiter : HiterTree → Type 0
IsHiter x = Passes (is_word (codes "hiter")) x.0 × Passes is_name_token x.1.0 × Passes is_text x.1.1.1.0

-- pname name [ "(" [ const { "," const } ] ")" ] ";"
abbrev instance_spelling : InstanceRead → List Token
instance_spelling x = x.0 ∷ (x.1.0 ∷ (if_any constants_spelling x.1.1.0 ++ (semicolon_mark x.1.1.1 ∷ [])))

abbrev IsInstance : InstanceRead → Type 0
IsInstance x = Passes is_package_name x.0 × Passes is_name_token x.1.0 × IfAny AreConstants x.1.1.0

-- "thread" name name ";"
abbrev thread_spelling' : ThreadInstanceTree → List Token
thread_spelling' x = x.0 ∷ (x.1.0 ∷ (x.1.1.0 ∷ (semicolon_mark x.1.1.1 ∷ [])))

abbrev IsThreadInstance : ThreadInstanceTree → Type 0
IsThreadInstance x = Passes (is_word (codes "thread")) x.0 × Passes is_name_token x.1.0 × Passes is_name_token x.1.1.0

module _ {m n : ℕ} where
  hash_table_law : Law m n (plain_part hash_table_spelling (λ t. spells_table t.text ≡ true) Anything) hash_table_rule
  hash_table_law = plain_law hash_table_spelling (λ t. spells_table t.text ≡ true) Anything hash_table_of (λ b. (b.comma, b.text))
      (mark_then (codes ",") refl (kept_law m n spells_table known_table))
      (λ b f. refl) (λ a. refl) (λ a. refl) (λ a f. f.1) (λ b f. (tt, f, tt)) (λ a o f h. tt)

  hash_size_law : Law m n (plain_part hash_size_spelling IsHashSize (Behind is_comma_mark Anything)) hash_size_rule
  hash_size_law = plain_law hash_size_spelling IsHashSize (Behind is_comma_mark Anything) hash_size_of (λ b. (b.comma, (b.number, b.table)))
      (mark_then (codes ",") refl (kept_then is_integer (zero_token, refl) (any_law hash_table_law is_comma_mark (λ a rest f. refl))))
      (λ b f. refl) (λ a. refl) (λ a. refl) (λ a f. (f.1.0, f.1.1)) (λ b f. (tt, (f.0, f.1, tt), tt)) (λ a o f h. h)

  hash_law : Law m n (plain_part hash_spelling IsHash Anything) (hash_rule m)
  hash_law = alike_law (plain_part hash_spelling IsHash Anything)
      (word_then (codes "hash") refl (name_then (mark_then (codes "(") refl (followed bracketed_law (mark_then (codes ",") refl (followed bracketed_law
      (followed (any_law hash_size_law is_comma_mark (λ a rest f. refl)) (mark_then (codes ")") refl (mark_law m n (codes ";") refl)) (λ a b rest f g h. (refl, (refl, tt))))
      (λ a b rest f g h. tt))) (λ a b rest f g h. tt)))))
      (λ a. refl) (λ a. refl) (λ a f. (f.0, f.1.0, f.1.1.1.0, f.1.1.1.1.1.0, f.1.1.1.1.1.1.0))
      (λ a f. (f.0, (f.1, (tt, (f.2, (tt, (f.3, (f.4, (tt, tt, tt), tt), tt), tt), tt), tt), tt), tt)) (λ a o f h. tt) (λ a o h. tt)

  hiter_law : Law m n (plain_part hiter_spelling IsHiter Anything) hiter_rule
  hiter_law = alike_law (plain_part hiter_spelling IsHiter Anything)
      (word_then (codes "hiter") refl (name_then (mark_then (codes "(") refl (kept_then is_text known_text (mark_then (codes ")") refl (mark_law m n (codes ";") refl))))))
      (λ a. refl) (λ a. refl) (λ a f. (f.0, f.1.0, f.1.1.1.0)) (λ a f. (f.0, (f.1, (tt, (f.2, (tt, tt, tt), tt), tt), tt), tt)) (λ a o f h. tt) (λ a o h. tt)

  instance_law : Law m n (plain_part instance_spelling IsInstance Anything) (instance_rule m)
  instance_law = alike_law (plain_part instance_spelling IsInstance Anything)
      (kept_then is_package_name (word_token (codes "x"), refl) (name_then (followed (any_law constants_law is_open_mark (λ a rest f. refl)) (mark_law m n (codes ";") refl) (λ a b rest f g h. (refl, tt)))))
      (λ a. refl) (λ a. refl) (λ a f. (f.0, f.1.0, f.1.1.0)) (λ a f. (f.0, (f.1, (f.2, tt, tt), tt), tt)) (λ a o f h. tt) (λ a o h. tt)

  thread_law' : Law m n (plain_part thread_spelling' IsThreadInstance Anything) thread_instance_rule
  thread_law' = alike_law (plain_part thread_spelling' IsThreadInstance Anything)
      (word_then (codes "thread") refl (name_then (name_then (mark_law m n (codes ";") refl))))
      (λ a. refl) (λ a. refl) (λ a f. (f.0, f.1.0, f.1.1.0)) (λ a f. (f.0, (f.1, (f.2, tt, tt), tt), tt)) (λ a o f h. tt) (λ a o h. tt)

-- ---- declarations

not_named : (w : List ℕ) (t : Token) → not (names_word w t) ≡ true → is_word w t ≡ false
not_named w t h = (or_false (is_word w t) (quoted_kind t.kind && spells (between_quotes t.spelling) w) (not_true (names_word w t) h)).0

-- a package's name is neither the word `hash` nor the word `hiter`
package_no_hash : (t : Token) → is_package_name t ≡ true → starts (codes "hash") t ≡ false
package_no_hash t h =
    let three = is_name_token t && not (names_word (codes "hash") t) in
    ap (λ b. (b || false) || false) (not_named (codes "hash") t (and_right (is_name_token t) (not (names_word (codes "hash") t)) (and_left three (not (names_word (codes "hiter") t)) h)))

package_no_hiter : (t : Token) → is_package_name t ≡ true → starts (codes "hiter") t ≡ false
package_no_hiter t h =
    let three = is_name_token t && not (names_word (codes "hash") t) in
    ap (λ b. (b || false) || false) (not_named (codes "hiter") t (and_right three (not (names_word (codes "hiter") t)) h))

abbrev hashes : Part HashTree
hashes = plain_part hash_spelling IsHash Anything

abbrev hiters : Part HiterTree
hiters = plain_part hiter_spelling IsHiter Anything

abbrev instances : Part InstanceRead
instances = plain_part instance_spelling IsInstance Anything

abbrev packages : Part PackageTail
packages = choice_part hashes (choice_part hiters instances)

abbrev package_declared : Part (Token × PackageTail)
package_declared = then_part (kept_part (is_word (codes "package"))) packages

abbrev other_declared : Part (Either ThreadInstanceTree VariablesTree)
other_declared = choice_part (plain_part thread_spelling' IsThreadInstance Anything) (plain_part tail_spelling IsTail Anything)

abbrev tails : Part DeclarationTail
tails = choice_part package_declared other_declared

abbrev declared_tree : Part (Token × DeclarationTail)
declared_tree = then_part (kept_part is_dcl) tails

abbrev declaration_from : Declaration → Token × DeclarationTail
declaration_from (declared_as.Variables v) = (v.keyword, Two (Two (v.ty, (v.names, v.end))))
declaration_from (declared_as.Instance k w p name l e) = (k, One (w, Two (Two (p, (name, (l, e))))))
declaration_from (declared_as.Hash k w h name p keys c items size q e) = (k, One (w, One (h, (name, (p, (keys, (c, (items, (size, (q, e))))))))))
declaration_from (declared_as.Hiter k w h name p t q e) = (k, One (w, Two (One (h, (name, (p, (t, (q, e))))))))
declaration_from (declared_as.Thread k w t name e) = (k, Two (One (w, (t, (name, e)))))

tail_no : (w : List ℕ) (x : VariablesTree) (rest : List Token) → apart type_words (w ∷ []) ≡ true → IsTail x → when (starts w) (first (tail_spelling x ++ rest)) ≡ false
tail_no w x rest a f =
    let after = all_spelled one_token x.1.0 ++ (semicolon_mark x.1.1 ∷ []) in
    type_none (w ∷ []) [] (first (tail_spelling x ++ rest)) a (ap (λ (ts : List Token). when begins_type (first ts)) (append_assoc (type_spelling x.0) after rest) ∙ type_begins x.0 (after ++ rest) f.0)

module _ {m n : ℕ} where
  package_tail_law : Law m n packages (package_tail m)
  package_tail_law =
      chosen hash_law (chosen hiter_law instance_law (starts (codes "hiter")) (λ x rest f. word_value (codes "hiter") x.0 f.0 (codes "hiter" ∷ []) []) (λ x rest f h. package_no_hiter x.0 f.0))
      (starts (codes "hash")) (λ x rest f. word_value (codes "hash") x.0 f.0 (codes "hash" ∷ []) []) no_hash
    where
      no_hash : (x : Either HiterTree InstanceRead) (rest : List Token) → (choice_part hiters instances).Fine x → (choice_part hiters instances).Next x (first rest) → when (starts (codes "hash")) (first ((choice_part hiters instances).spelling x ++ rest)) ≡ false
      no_hash (One x) rest f h = word_value (codes "hiter") x.0 f.0 (codes "hash" ∷ []) []
      no_hash (Two x) rest f h = package_no_hash x.0 f.0

  declaration_tail_law : Law m n tails (declaration_tail m)
  declaration_tail_law =
      chosen (word_then (codes "package") refl package_tail_law)
      (chosen thread_law' tail_law (starts (codes "thread")) (λ x rest f. word_value (codes "thread") x.0 f.0 (codes "thread" ∷ []) []) (λ x rest f h. tail_no (codes "thread") x rest refl f))
      (starts (codes "package")) (λ x rest f. word_value (codes "package") x.0 f.0 (codes "package" ∷ []) []) no_package
    where
      no_package : (x : Either ThreadInstanceTree VariablesTree) (rest : List Token) → other_declared.Fine x → other_declared.Next x (first rest) → when (starts (codes "package")) (first (other_declared.spelling x ++ rest)) ≡ false
      no_package (One x) rest f h = word_value (codes "thread") x.0 f.0 (codes "package" ∷ []) []
      no_package (Two x) rest f h = tail_no (codes "package") x rest refl f

  pub declaration_law : Law m n (plain_part declaration_spelling IsDeclaration Anything) (declaration_rule m)
  declaration_law = plain_law declaration_spelling IsDeclaration Anything declaration_of declaration_from (kept_then is_dcl (word_token (codes "dcl"), refl) declaration_tail_law) back spelled opened fine fine' next
    where
      back : (d : Declaration) → IsDeclaration d → declaration_of (declaration_from d) ≡ d
      back (declared_as.Variables v) f = refl
      back (declared_as.Instance k w p name l e) f = refl
      back (declared_as.Hash k w h name p keys c items size q e) f = refl
      back (declared_as.Hiter k w h name p t q e) f = refl
      back (declared_as.Thread k w t name e) f = refl

      spelled : (a : Token × DeclarationTail) → declaration_spelling (declaration_of a) ≡ declared_tree.spelling a
      spelled (k, One (w, One x)) = refl
      spelled (k, One (w, Two (One x))) = refl
      spelled (k, One (w, Two (Two x))) = refl
      spelled (k, Two (One x)) = refl
      spelled (k, Two (Two x)) = refl

      opened : (a : Token × DeclarationTail) → None ≡ declared_tree.opens a
      opened (k, One (w, One x)) = refl
      opened (k, One (w, Two (One x))) = refl
      opened (k, One (w, Two (Two x))) = refl
      opened (k, Two (One x)) = refl
      opened (k, Two (Two x)) = refl

      fine : (a : Token × DeclarationTail) → declared_tree.Fine a → IsDeclaration (declaration_of a)
      fine (k, One (w, One x)) f = (f.0, f.1.0, f.1.1.0, f.1.1.1, f.1.1.2, f.1.1.3, f.1.1.4)
      fine (k, One (w, Two (One x))) f = (f.0, f.1.0, f.1.1.0, f.1.1.1, f.1.1.2)
      fine (k, One (w, Two (Two x))) f = (f.0, f.1.0, f.1.1.0, f.1.1.1, f.1.1.2)
      fine (k, Two (One x)) f = (f.0, f.1.0, f.1.1, f.1.2)
      fine (k, Two (Two x)) f = (f.0, f.1.0, f.1.1)

      fine' : (d : Declaration) → IsDeclaration d → declared_tree.Fine (declaration_from d)
      fine' (declared_as.Variables v) f = (f.0, (f.1, f.2), tt)
      fine' (declared_as.Instance k w p name l e) f = (f.0, (f.1, (f.2, f.3, f.4), tt), tt)
      fine' (declared_as.Hash k w h name p keys c items size q e) f = (f.0, (f.1, (f.2, f.3, f.4, f.5, f.6), tt), tt)
      fine' (declared_as.Hiter k w h name p t q e) f = (f.0, (f.1, (f.2, f.3, f.4), tt), tt)
      fine' (declared_as.Thread k w t name e) f = (f.0, (f.1, f.2, f.3), tt)

      next : (a : Token × DeclarationTail) (o : Option Token) → declared_tree.Fine a → Unit {0} → declared_tree.Next a o
      next (k, One (w, One x)) o f h = tt
      next (k, One (w, Two (One x))) o f h = tt
      next (k, One (w, Two (Two x))) o f h = tt
      next (k, Two (One x)) o f h = tt
      next (k, Two (Two x)) o f h = tt
