-- What tests say of tokens, and the laws of the tokens.
use Rattle.std.proofs.Common.{true≢false, ◌≡◌, ℕ, Bool, true, false, not, ◌&&◌, ◌||◌, if◌then◌else◌, codes, List, [], ◌∷◌, map, Option, Some, None, refl, sym, ap, ap₂, ◌∙◌}
use Rattle.std.specs.List.{list_any, list_all}
use Rattle.std.specs.Char.{to_ascii_lowercase}
use Rattle.std.specs.Str.{bytes_eq}
use Rattle.std.proofs.lemmas.Option.{none-some}
use Rattle.std.proofs.lemmas.Slice.Eq.{bytes_eq-Decides}
use Rattle.ds2_base.specs.declared.place.Place.{Place}
use Rattle.ds2_token.specs.declared.kinds.TokenKind.{TokenKind}
use Rattle.ds2_token.specs.declared.kinds.TokenKind.TheVariants.{Word, Quoted, Text, Integer, Decimal, Mark}
use Rattle.ds2_token.specs.declared.token.Token.{Token}
use Rattle.ds2_tree.specs.Parsers.{when}
use Rattle.ds2_tree.proofs.Words.{Part, Law, token_part, token_law}
use Rattle.ds2_token.specs.Words.{word_kind, quoted_kind, text_kind, integer_kind, decimal_kind, mark_kind, is_word, is_mark, is_one_of, is_name_token, reserved_words, spells_reserved, mark_at}
use Rattle.ds2_tree.specs.Expressions.{is_constant}
use Rattle.ds2_parse_rules.specs.GrammarTokens.{mark_place, mark_rule}

pub never : {A : Type 0} → false ≡ true → A
never e = absurd (true≢false (sym e))

-- ---- truth values

pub and_left : (a b : Bool) → (a && b) ≡ true → a ≡ true
and_left true b h = refl
and_left false b h = never h

pub and_right : (a b : Bool) → (a && b) ≡ true → b ≡ true
and_right true b h = h
and_right false b h = never h

pub or_cases : {P : Type 0} (a b : Bool) → (a || b) ≡ true → (a ≡ true → P) → (b ≡ true → P) → P
or_cases true b h f g = f refl
or_cases false b h f g = g h

pub or_false : (a b : Bool) → (a || b) ≡ false → (a ≡ false) × (b ≡ false)
or_false true b h = absurd (true≢false h)
or_false false b h = (refl, h)

or_none : (a : Bool) → (a || false) ≡ a
or_none true = refl
or_none false = refl

-- ---- kinds

word_is : (k : TokenKind) → word_kind k ≡ true → k ≡ Word
word_is Word e = refl
word_is _ e = never e

mark_is : (k : TokenKind) → mark_kind k ≡ true → k ≡ Mark
mark_is Mark e = refl
mark_is _ e = never e

abbrev low : Token → List ℕ
low t = map to_ascii_lowercase t.spelling

-- words and marks, by kind, spelling in lower case, and spelling
abbrev among : List (List ℕ) → List (List ℕ) → TokenKind → List ℕ → List ℕ → Bool
among ws ms k l s = list_any (λ w. word_kind k && bytes_eq l w) ws || list_any (λ m. mark_kind k && bytes_eq s m) ms

none_any : (l : List ℕ) (ws : List (List ℕ)) → list_any (λ w. false && bytes_eq l w) ws ≡ false
none_any l [] = refl
none_any l (w ∷ ws) = none_any l ws

no_marks : (ws ms : List (List ℕ)) (l s : List ℕ) → among ws ms Word l s ≡ list_any (λ w. bytes_eq l w) ws
no_marks ws ms l s = ap (λ b. list_any (λ w. bytes_eq l w) ws || b) (none_any s ms) ∙ or_none (list_any (λ w. bytes_eq l w) ws)

no_words : (ws ms : List (List ℕ)) (l s : List ℕ) → among ws ms Mark l s ≡ list_any (λ m. bytes_eq s m) ms
no_words ws ms l s = ap (λ b. b || list_any (λ m. bytes_eq s m) ms) (none_any l ws)

nothing : (ws ms : List (List ℕ)) (l s : List ℕ) → (list_any (λ w. false && bytes_eq l w) ws || list_any (λ m. false && bytes_eq s m) ms) ≡ false
nothing ws ms l s = ap₂ (λ a b. a || b) (none_any l ws) (none_any s ms)

-- ---- a word, a mark

module _ (w : List ℕ) (t : Token) (h : is_word w t ≡ true) where
  pub word_kinded : t.kind ≡ Word
  word_kinded = word_is t.kind (and_left (word_kind t.kind) (bytes_eq (low t) w) h)

  word_low : low t ≡ w
  word_low = (bytes_eq-Decides (low t) w).0 (and_right (word_kind t.kind) (bytes_eq (low t) w) h)

  -- what a test on words and marks says of it
  pub word_value : (vs ns : List (List ℕ)) → is_one_of vs ns t ≡ list_any (λ v. bytes_eq w v) vs
  word_value vs ns = ap₂ (λ k l. among vs ns k l t.spelling) word_kinded word_low ∙ no_marks vs ns w t.spelling

module _ (m : List ℕ) (t : Token) (h : is_mark m t ≡ true) where
  pub mark_kinded : t.kind ≡ Mark
  mark_kinded = mark_is t.kind (and_left (mark_kind t.kind) (bytes_eq t.spelling m) h)

  mark_spelled : t.spelling ≡ m
  mark_spelled = (bytes_eq-Decides t.spelling m).0 (and_right (mark_kind t.kind) (bytes_eq t.spelling m) h)

  pub mark_value : (vs ns : List (List ℕ)) → is_one_of vs ns t ≡ list_any (λ n. bytes_eq m n) ns
  mark_value vs ns = ap₂ (λ k s. among vs ns k (low t) s) mark_kinded mark_spelled ∙ no_words vs ns (low t) m

  pub only_mark : t ≡ mark_at m t.place
  only_mark = ap₂ (λ k s. record { kind = k; spelling = s; place = t.place }) mark_kinded mark_spelled

-- ---- one of some words or marks is none of some others

abbrev pub apart : List (List ℕ) → List (List ℕ) → Bool
apart ws vs = list_all (λ w. not (list_any (λ v. bytes_eq w v) vs)) ws

pub not_true : (b : Bool) → not b ≡ true → b ≡ false
not_true true h = never h
not_true false h = refl

words_apart : (ws vs ns : List (List ℕ)) (t : Token) → apart ws vs ≡ true → list_any (λ w. is_word w t) ws ≡ true → is_one_of vs ns t ≡ false
words_apart [] vs ns t a h = never h
words_apart (w ∷ ws) vs ns t a h =
    or_cases (is_word w t) (list_any (λ w. is_word w t) ws) h
    (λ e. word_value w t e vs ns ∙ not_true (list_any (λ v. bytes_eq w v) vs) (and_left (not (list_any (λ v. bytes_eq w v) vs)) (apart ws vs) a))
    (words_apart ws vs ns t (and_right (not (list_any (λ v. bytes_eq w v) vs)) (apart ws vs) a))

marks_apart : (ms vs ns : List (List ℕ)) (t : Token) → apart ms ns ≡ true → list_any (λ m. is_mark m t) ms ≡ true → is_one_of vs ns t ≡ false
marks_apart [] vs ns t a h = never h
marks_apart (m ∷ ms) vs ns t a h =
    or_cases (is_mark m t) (list_any (λ m. is_mark m t) ms) h
    (λ e. mark_value m t e vs ns ∙ not_true (list_any (λ n. bytes_eq m n) ns) (and_left (not (list_any (λ n. bytes_eq m n) ns)) (apart ms ns) a))
    (marks_apart ms vs ns t (and_right (not (list_any (λ n. bytes_eq m n) ns)) (apart ms ns) a))

pub others : (ws ms vs ns : List (List ℕ)) (t : Token) → is_one_of ws ms t ≡ true → apart ws vs ≡ true → apart ms ns ≡ true → is_one_of vs ns t ≡ false
others ws ms vs ns t h a b =
    or_cases (list_any (λ w. is_word w t) ws) (list_any (λ m. is_mark m t) ms) h (words_apart ws vs ns t a) (marks_apart ms vs ns t b)

-- ---- the same words and marks among more

abbrev pub within : List (List ℕ) → List (List ℕ) → Bool
within ws vs = list_all (λ w. list_any (λ v. bytes_eq w v) vs) ws

words_within : (ws vs ns : List (List ℕ)) (t : Token) → within ws vs ≡ true → list_any (λ w. is_word w t) ws ≡ true → is_one_of vs ns t ≡ true
words_within [] vs ns t a h = never h
words_within (w ∷ ws) vs ns t a h =
    or_cases (is_word w t) (list_any (λ w. is_word w t) ws) h
    (λ e. word_value w t e vs ns ∙ and_left (list_any (λ v. bytes_eq w v) vs) (within ws vs) a)
    (words_within ws vs ns t (and_right (list_any (λ v. bytes_eq w v) vs) (within ws vs) a))

marks_within : (ms vs ns : List (List ℕ)) (t : Token) → within ms ns ≡ true → list_any (λ m. is_mark m t) ms ≡ true → is_one_of vs ns t ≡ true
marks_within [] vs ns t a h = never h
marks_within (m ∷ ms) vs ns t a h =
    or_cases (is_mark m t) (list_any (λ m. is_mark m t) ms) h
    (λ e. mark_value m t e vs ns ∙ and_left (list_any (λ n. bytes_eq m n) ns) (within ms ns) a)
    (marks_within ms vs ns t (and_right (list_any (λ n. bytes_eq m n) ns) (within ms ns) a))

pub among_more : (ws ms vs ns : List (List ℕ)) (t : Token) → is_one_of ws ms t ≡ true → within ws vs ≡ true → within ms ns ≡ true → is_one_of vs ns t ≡ true
among_more ws ms vs ns t h a b =
    or_cases (list_any (λ w. is_word w t) ws) (list_any (λ m. is_mark m t) ms) h (words_within ws vs ns t a) (marks_within ms vs ns t b)

-- ---- constants and names are no words of the grammar and no marks

constant_kinds : (k : TokenKind) (ws ms : List (List ℕ)) (l s : List ℕ) → (integer_kind k || decimal_kind k || text_kind k) ≡ true → among ws ms k l s ≡ false
constant_kinds Integer ws ms l s h = nothing ws ms l s
constant_kinds Decimal ws ms l s h = nothing ws ms l s
constant_kinds Text ws ms l s h = nothing ws ms l s
constant_kinds Word ws ms l s h = never h
constant_kinds Quoted ws ms l s h = never h
constant_kinds Mark ws ms l s h = never h

pub constant_is_none : (ws ms : List (List ℕ)) (t : Token) → is_constant t ≡ true → is_one_of ws ms t ≡ false
constant_is_none ws ms t h = constant_kinds t.kind ws ms (low t) t.spelling h

abbrev named : TokenKind → List ℕ → Bool
named k letters = quoted_kind k || word_kind k && not (word_kind k && spells_reserved letters)

name_constant : (k : TokenKind) (letters : List ℕ) → named k letters ≡ true → (integer_kind k || decimal_kind k || text_kind k) ≡ false
name_constant Quoted l h = refl
name_constant Word l h = refl
name_constant _ l h = never h

pub name_is_no_constant : (t : Token) → is_name_token t ≡ true → is_constant t ≡ false
name_is_no_constant t h = name_constant t.kind t.spelling h

-- a reserved word is no name
pub reserved_is_no_name : (w : List ℕ) (t : Token) → list_any (λ v. bytes_eq w v) reserved_words ≡ true → is_word w t ≡ true → is_name_token t ≡ false
reserved_is_no_name w t r h =
    let reserved : spells_reserved t.spelling ≡ true = ap (λ l. list_any (λ v. bytes_eq l v) reserved_words) (word_low w t h) ∙ r in
    ap (λ k. named k t.spelling) (word_kinded w t h) ∙ ap not reserved

other : (b : Bool) → (b ≡ true → ⊥) → b ≡ false
other true h = absurd (h refl)
other false h = refl

no_word : (ws : List (List ℕ)) (t : Token) → within ws reserved_words ≡ true → is_name_token t ≡ true → list_any (λ w. is_word w t) ws ≡ false
no_word [] t r h = refl
no_word (w ∷ ws) t r h =
    let first : is_word w t ≡ false = other (is_word w t) (λ e. true≢false (sym h ∙ reserved_is_no_name w t (and_left (list_any (λ v. bytes_eq w v) reserved_words) (within ws reserved_words) r) e)) in
    ap₂ (λ a b. a || b) first (no_word ws t (and_right (list_any (λ v. bytes_eq w v) reserved_words) (within ws reserved_words) r) h)

no_mark_kind : (k : TokenKind) (r : List ℕ) (ms : List (List ℕ)) (s : List ℕ) → named k r ≡ true → list_any (λ m. mark_kind k && bytes_eq s m) ms ≡ false
no_mark_kind Quoted r ms s h = none_any s ms
no_mark_kind Word r ms s h = none_any s ms
no_mark_kind _ r ms s h = never h

pub name_is_none : (ws ms : List (List ℕ)) (t : Token) → within ws reserved_words ≡ true → is_name_token t ≡ true → is_one_of ws ms t ≡ false
name_is_none ws ms t r h = ap₂ (λ a b. a || b) (no_word ws t r h) (no_mark_kind t.kind t.spelling ms t.spelling h)

-- ---- a mark stands for its place

abbrev pub place_part : List ℕ → Part Place
place_part m = token_part (λ p. mark_at m p) (λ (p : Place). Unit {0})

abbrev place_or : Place → Option Place → Place
place_or d None = d
place_or d (Some p) = p

only_place : (m : List ℕ) (t : Token) (p : Place) (b : Bool) → is_mark m t ≡ b → (if b then Some t.place else None) ≡ Some p → t ≡ mark_at m p
only_place m t p true e h = only_mark m t e ∙ ap (λ q. mark_at m q) (ap (place_or t.place) h)
only_place m t p false e h = absurd (none-some p h)

pub mark_law : (m n : ℕ) (s : List ℕ) → bytes_eq s s ≡ true → Law m n (place_part s) (mark_rule s)
mark_law m n s same =
    token_law m n (mark_place s) (λ p. mark_at s p) (λ p. Unit {0}) (record { line = 1; column = 1 }, tt)
    (λ p u. ap (λ b. if b then Some p else None) same) (λ t p h. (tt, only_place s t p (is_mark s t) refl h))

-- ---- one of two tests, the token behind a part, and tokens that are known

pub or_last : (a b : Bool) → b ≡ true → (a || b) ≡ true
or_last true b h = refl
or_last false b h = h

abbrev pub Behind : (Token → Bool) → (Option Token → Type 0) → Option Token → Type 0
Behind is After o = (when is o ≡ false) × After o

abbrev pub start : Place
start = record { line = 1; column = 1 }

abbrev pub zero_token : Token
zero_token = record { kind = Integer; spelling = codes "0"; place = start }

abbrev pub word_token : List ℕ → Token
word_token w = record { kind = Word; spelling = w; place = start }
