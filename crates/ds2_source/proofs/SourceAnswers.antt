-- For each text there is one answer.
use Rattle.std.proofs.Common.{◌≡◌, ◌⊎◌, inl, inr, ◌∙◌, refl, sym, ap, subst, List, [], Ok, Err}
use Rattle.ds2_base.specs.Bytes.{Bytes}
use Rattle.ds2_base.specs.declared.place.Place.{Place}
use Rattle.ds2_base.specs.declared.place.Refusal.{Refusal}
use Rattle.ds2_token.specs.declared.kinds.LexKind.{LexKind}
use Rattle.ds2_token.specs.declared.token.Token.{Token}
use Rattle.ds2_token.specs.Laws.{OneListStands, OneRefusalIsFirst, NoRefusalBesideTokens, EveryTextIsRead}
use Rattle.ds2_token.specs.Standing.{StandsFor, IsFirstRefusal, end_place}
use Rattle.ds2_tree.specs.declared.kind.ParseKind.TheVariants as kind
use Rattle.ds2_tree.specs.Acceptance.{Answers}
use Rattle.ds2_tree.specs.Parsers.{ParserOutcome, Read, Unexpected, TooDeep, Spent}
use Rattle.ds2_tree.specs.Promise.{place_of}
use Rattle.ds2_tree.specs.Units.{SourcePart}
use Rattle.ds2_source.specs.ParseAnswer.{source_symbol, most_levels, SourcesAreReadExactly}
use Rattle.ds2_parse_rules.specs.UnitGrammar.{parse_source}
use Rattle.ds2_source.specs.declared.kinds.SourceKind.{SourceKind}
use Rattle.ds2_source.specs.declared.kinds.SourceKind.TheVariants.{Lex, Parse, Scope, Types}
use Rattle.ds2_source.specs.AnswersOfTexts.{OneSourceAnswer, SourcesRead}
use Rattle.ds2_source.specs.SourceAnswer.{SourceAnswer, by_lexer, AreRefusedFor, IsAnswerForTokens, IsSourceAnswer}

-- what an outcome of the grammar says of the tokens of a text
abbrev shown : Place → ParserOutcome (List SourcePart) → SourceAnswer
shown end (Read parts rest) = Ok parts
shown end (Unexpected rest) = Err (record { kind = Parse kind.Unexpected; place = place_of end rest })
shown end (TooDeep rest) = Err (record { kind = Parse kind.TooDeep; place = place_of end rest })
shown end Spent = Err (record { kind = Parse kind.Unexpected; place = end })

refusal_shown : (g : SourcesAreReadExactly) (end : Place) (tokens : List Token) (why : SourceKind) (place : Place) → AreRefusedFor end tokens why place
    → Err (record { kind = why; place = place }) ≡ shown end (parse_source most_levels tokens)
refusal_shown g end tokens (Lex why) place is = absurd is
refusal_shown g end tokens (Parse kind.Unexpected) place (rest, place_is, is) =
    ap (λ (p : Place). Err (record { kind = Parse kind.Unexpected; place = p })) place_is ∙ ap (shown end) (g.only most_levels tokens (Unexpected rest) is)
refusal_shown g end tokens (Parse kind.TooDeep) place (rest, place_is, is) =
    ap (λ (p : Place). Err (record { kind = Parse kind.TooDeep; place = p })) place_is ∙ ap (shown end) (g.only most_levels tokens (TooDeep rest) is)
refusal_shown g end tokens (Scope why) place is = absurd is
refusal_shown g end tokens (Types why) place is = absurd is

answer_shown : (g : SourcesAreReadExactly) (end : Place) (tokens : List Token) (answer : SourceAnswer) → IsAnswerForTokens end tokens answer → answer ≡ shown end (parse_source most_levels tokens)
answer_shown g end tokens (Ok parts) is = ap (shown end) (g.only most_levels tokens (Read parts []) is)
answer_shown g end tokens (Err refusal) is = refusal_shown g end tokens refusal.kind refusal.place is

pub one_answer : OneListStands → OneRefusalIsFirst → NoRefusalBesideTokens → SourcesAreReadExactly → OneSourceAnswer
one_answer one_list one_refusal not_both g text answer other (inl (tokens, stand, is)) (inl (others, stand_too, is_too)) =
    let same : others ≡ tokens = one_list text others tokens stand_too stand in
    answer_shown g (end_place text) tokens answer is
    ∙ sym (answer_shown g (end_place text) tokens other (subst (λ (ts : List Token). IsAnswerForTokens (end_place text) ts other) same is_too))
one_answer one_list one_refusal not_both g text answer other (inl (tokens, stand, is)) (inr (refusal, first, is_too)) = absurd (not_both text tokens refusal stand first)
one_answer one_list one_refusal not_both g text answer other (inr (refusal, first, is)) (inl (tokens, stand, is_too)) = absurd (not_both text tokens refusal stand first)
one_answer one_list one_refusal not_both g text answer other (inr (refusal, first, is)) (inr (second, first_too, is_too)) =
    is ∙ ap (λ (r : Refusal LexKind). Err (by_lexer r)) (one_refusal text refusal second first first_too) ∙ sym is_too

outcome_answers : (end : Place) (tokens : List Token) (outcome : ParserOutcome (List SourcePart)) → Answers source_symbol most_levels tokens outcome → IsAnswerForTokens end tokens (shown end outcome)
outcome_answers end tokens (Read parts rest) (fine, levels, spelled, none) = (fine, levels, spelled, refl)
outcome_answers end tokens (Unexpected rest) is = (rest, refl, is)
outcome_answers end tokens (TooDeep rest) is = (rest, refl, is)
outcome_answers end tokens Spent is = absurd is

abbrev TextRead : Bytes → Type 0
TextRead text = ((tokens : List Token) × StandsFor text tokens) ⊎ ((refusal : Refusal LexKind) × IsFirstRefusal text refusal)

abbrev answer_of : (text : Bytes) → TextRead text → SourceAnswer
answer_of text (inl (tokens, stand)) = shown (end_place text) (parse_source most_levels tokens)
answer_of text (inr (refusal, first)) = Err (by_lexer refusal)

answers : (g : SourcesAreReadExactly) (text : Bytes) (read : TextRead text) → IsSourceAnswer text (answer_of text read)
answers g text (inl (tokens, stand)) = inl (tokens, stand, outcome_answers (end_place text) tokens (parse_source most_levels tokens) (g.answers most_levels tokens))
answers g text (inr (refusal, first)) = inr (refusal, first, refl)

pub all_read : EveryTextIsRead → SourcesAreReadExactly → SourcesRead
all_read read g = record { answer_for = λ text. answer_of text (read text); is_answer = λ text. answers g text (read text) }
