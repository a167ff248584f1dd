-- Each text has an answer.
use Rattle.std.proofs.Common.{◌≡◌, ℕ, zero, suc, ◌+◌, ◌-◌, ◌<◌, ◌≤◌, ◌⊎◌, inl, inr, List, [], ◌∷◌, ◌++◌, length, take, drop, Option, Some, None, Result, Ok, Err, refl, sym, ap, ◌∙◌, subst, arith}
use Rattle.std.specs.Str.{chars}
use Rattle.std.proofs.lemmas.List.{append-nil, length-append, length-drop, take-append-drop, nil_from_length, drop_all}
use Rattle.std.proofs.lemmas.Bool.{cases_lt}
use Rattle.ds2_base.specs.Bytes.{Bytes}
use Rattle.ds2_base.specs.Place.{start_place, place_past}
use Rattle.ds2_base.specs.declared.place.Place.{Place}
use Rattle.ds2_base.specs.declared.place.Refusal.{Refusal}
use Rattle.ds2_token.specs.declared.kinds.TokenKind.{TokenKind}
use Rattle.ds2_token.specs.declared.kinds.LexKind.{LexKind}
use Rattle.ds2_token.specs.declared.kinds.LexKind.TheVariants.{BadCharacter}
use Rattle.ds2_token.specs.declared.scan.Found.{Found}
use Rattle.ds2_token.specs.declared.token.Token.{Token}
use Rattle.ds2_token.specs.Forms.{IsGap}
use Rattle.ds2_token.specs.Laws.{EveryTextIsRead}
use Rattle.ds2_token.specs.Limits.{limit_fault}
use Rattle.ds2_token.specs.Scan.{piece_size, found}
use Rattle.ds2_token.specs.Standing.{IsLongest, BeginsWith, LeadsTo, IsRefusedFor, BeginsWithRefusal, refusal_of, refusal_of_form, without_mark, StandsFor, IsFirstRefusal}
use Rattle.ds2_token.proofs.FoundForms.{found_there, found_none}
use Rattle.ds2_token.proofs.Fronts.{There}
use Rattle.ds2_token.proofs.LexerSteps.{cause_at, refused_at, there_longest, kind_at}
use Rattle.ds2_token.proofs.Pieces.{gap_none, gap_grows, gap_stops, piece_is_found, found_is_piece}

-- ---- the gap at the front

record Gap (text : Bytes) : Type 0 where
  size : ℕ
  fits : size ≤ length text
  gap : IsGap (take size text)
  none : piece_size (drop size text) ≡ 0

piece_within : (text : Bytes) → piece_size text ≤ length text
piece_within text =
    elim (cases_lt 0 (piece_size text)) [
      | inl some ↦
          let front : Bytes = take (piece_size text) text in
          let whole : front ++ drop (piece_size text) text ≡ text = take-append-drop (piece_size text) text in
          let size : piece_size text ≡ length front =
          ap piece_size (sym whole) ∙ piece_is_found front (drop (piece_size text) text) (found_is_piece text some) in
          let sizes : length front + length (drop (piece_size text) text) ≡ length text =
          sym (length-append front (drop (piece_size text) text)) ∙ ap length whole in
          omega arith
      | inr none ↦ omega arith
    ]

gap_next : (steps passed size : ℕ) (text : Bytes) → passed ≤ length text → length text ≤ passed + suc steps → IsGap (take passed text) → size ≡ piece_size (drop passed text)
    → ((more : ℕ) → more ≤ length text → length text ≤ more + steps → IsGap (take more text) → Gap text) → Gap text
gap_next steps passed zero text fits left gap is go = record { size = passed; fits = fits; gap = gap; none = sym is }
gap_next steps passed (suc k) text fits left gap is go =
    let within : suc k ≤ length (drop passed text) = omega (arith, piece_within (drop passed text)) in
    let all : length (drop passed text) ≡ length text - passed = length-drop passed text in
    go (passed + suc k) (omega arith) (omega arith) (gap_grows text passed (suc k) gap is (omega arith))

gap_from : (steps passed : ℕ) (text : Bytes) → passed ≤ length text → length text ≤ passed + steps → IsGap (take passed text) → Gap text
gap_from zero passed text fits left gap =
    record { size = passed; fits = fits; gap = gap; none = ap piece_size (drop_all passed text (omega arith)) }
gap_from (suc steps) passed text fits left gap =
    gap_next steps passed (piece_size (drop passed text)) text fits left gap refl (λ more inside behind is. gap_from steps more text inside behind is)

-- ---- the answer from a place on

abbrev Tokens : Place → Bytes → Type 0
Tokens at text = (tokens : List Token) × (end : Place) × (left : Bytes) × LeadsTo at text tokens end left × IsGap left

abbrev Refuses : Place → Bytes → Refusal LexKind → Type 0
Refuses at text refusal = (tokens : List Token) × (mid : Place) × (left : Bytes) × LeadsTo at text tokens mid left × BeginsWithRefusal mid left refusal

abbrev Answer : Place → Bytes → Type 0
Answer at text = Tokens at text ⊎ ((refusal : Refusal LexKind) × Refuses at text refusal)

-- a token in front of what has an answer
with_token : (at : Place) (text rest : Bytes) (token : Token) → BeginsWith at text token rest → Answer (place_past token.place (chars token.spelling)) rest → Answer at text
with_token at text rest token begins (inl (tokens, end, left, leads, gap)) = inl (token ∷ tokens, end, left, (rest, begins, leads), gap)
with_token at text rest token begins (inr (refusal, (tokens, mid, left, leads, is))) = inr (refusal, (token ∷ tokens, mid, left, (rest, begins, leads), is))

gap_answer : (at : Place) (text : Bytes) → IsGap text → Answer at text
gap_answer at text gap = inl ([], at, text, (refl, refl), gap)

-- what stands behind the gap
record Behind (at : Place) (text : Bytes) : Type 0 where
  gap : Bytes
  rest : Bytes
  cut : text ≡ gap ++ rest
  longest : IsLongest IsGap gap rest
  none : piece_size rest ≡ 0

behind : (at : Place) (text : Bytes) → Behind at text
behind at text =
    let g : Gap text = gap_from (length text) 0 text (omega arith) (omega arith) gap_none in
    record {
      gap = take g.size text;
      rest = drop g.size text;
      cut = sym (take-append-drop g.size text);
      longest = gap_stops (take g.size text) (drop g.size text) g.gap g.none;
      none = g.none;
    }

refusal_answer : (at : Place) (text : Bytes) (kind : LexKind) (b : Behind at text) → IsRefusedFor b.rest kind → Answer at text
refusal_answer at text kind b cause =
    inr (
      record { kind = kind; place = place_past at (chars b.gap) },
      (
        [],
        at,
        text,
        (refl, refl),
        record {
          gap = b.gap;
          left = b.rest;
          cut = b.cut;
          gap_is_longest = b.longest;
          cause = cause;
          place = refl;
        },
      ),
    )

empty_answer : (at : Place) (text : Bytes) (b : Behind at text) → length b.rest ≡ 0 → Answer at text
empty_answer at text b none =
    let empty : b.rest ≡ [] = nil_from_length b.rest none in
    let whole : b.gap ≡ text = sym (append-nil b.gap) ∙ ap (λ (xs : Bytes). b.gap ++ xs) (sym empty) ∙ sym b.cut in
    gap_answer at text (subst IsGap whole b.longest.is)

abbrev Form : Type 0
Form = Option (Result TokenKind LexKind)

kind_answer : (steps : ℕ) (at : Place) (text : Bytes) (b : Behind at text) (f : Found) (kind : TokenKind) (l : Option LexKind) → length text ≤ suc steps
    → ((place : Place) (rest : Bytes) → length rest ≤ steps → Answer place rest) → There b.rest f → f.form ≡ Ok kind → limit_fault kind (take f.size b.rest) ≡ l → Answer at text
kind_answer steps at text b f kind (Some fault) small go t e limit =
    let broken : refusal_of (take f.size b.rest) ≡ Some fault =
    ap (λ (form : Form). refusal_of_form form (take f.size b.rest)) (kind_at b.rest (take f.size b.rest) f kind t e refl) ∙ limit in
    refusal_answer at text fault b (cause_at b.rest f fault t broken)
kind_answer steps at text b f kind None small go t e limit =
    let place : Place = place_past at (chars b.gap) in
    let spelling : Bytes = take f.size b.rest in
    let rest : Bytes = drop f.size b.rest in
    let split : b.rest ≡ spelling ++ rest = sym (take-append-drop f.size b.rest) in
    let P : Bytes → Type 0 = λ xs. IsLongest IsGap b.gap xs in
    let size : length rest ≡ length b.rest - f.size = length-drop f.size b.rest in
    let whole : length text ≡ length b.gap + length b.rest = ap length b.cut ∙ length-append b.gap b.rest in
    let some : 0 < f.size = t.some in
    with_token at text rest (record { kind = kind; spelling = spelling; place = place })
    (record {
      gap = b.gap;
      cut = b.cut ∙ ap (λ (xs : Bytes). b.gap ++ xs) split;
      gap_is_longest = subst P split b.longest;
      form_is_longest = there_longest b.rest f t;
      kind = kind_at b.rest spelling f kind t e refl;
      within = limit;
      place = refl;
    })
    (go (place_past place (chars spelling)) rest (omega arith))

form_answer : (steps : ℕ) (at : Place) (text : Bytes) (b : Behind at text) (f : Found) (form : Result TokenKind LexKind) → length text ≤ suc steps
    → ((place : Place) (rest : Bytes) → length rest ≤ steps → Answer place rest) → There b.rest f → f.form ≡ form → Answer at text
form_answer steps at text b f (Err kind) small go t e = refusal_answer at text kind b (refused_at b.rest f kind t e)
form_answer steps at text b f (Ok kind) small go t e = kind_answer steps at text b f kind (limit_fault kind (take f.size b.rest)) small go t e refl

found_answer : (steps : ℕ) (at : Place) (text : Bytes) (b : Behind at text) (o : Option Found) → length text ≤ suc steps → 0 < length b.rest
    → ((place : Place) (rest : Bytes) → length rest ≤ steps → Answer place rest) → found b.rest ≡ o → Answer at text
found_answer steps at text b None small some go is = refusal_answer at text BadCharacter b (inl (found_none b.rest some is, refl))
found_answer steps at text b (Some f) small some go is = form_answer steps at text b f f.form small go (found_there b.rest f b.none is) refl

step_answer : (steps : ℕ) (at : Place) (text : Bytes) → length text ≤ suc steps → ((place : Place) (rest : Bytes) → length rest ≤ steps → Answer place rest) → Answer at text
step_answer steps at text small go =
    let b : Behind at text = behind at text in
    elim (cases_lt 0 (length b.rest)) [
      | inl some ↦ found_answer steps at text b (found b.rest) small some go refl
      | inr none ↦ empty_answer at text b (omega arith)
    ]

answer : (steps : ℕ) (at : Place) (text : Bytes) → length text ≤ steps → Answer at text
answer zero at text small = gap_answer at text (subst IsGap (sym (nil_from_length text (omega arith))) gap_none)
answer (suc steps) at text small = step_answer steps at text small (λ place rest fits. answer steps place rest fits)

abbrev Read : Bytes → Type 0
Read text = ((tokens : List Token) × StandsFor text tokens) ⊎ ((refusal : Refusal LexKind) × IsFirstRefusal text refusal)

read_of : (text : Bytes) → Answer start_place (without_mark text) → Read text
read_of text (inl (tokens, end, left, leads, gap)) = inl (tokens, (end, left, leads, gap))
read_of text (inr (refusal, (tokens, mid, left, leads, is))) = inr (refusal, (tokens, mid, left, leads, is))

pub every_text_is_read : EveryTextIsRead
every_text_is_read text = read_of text (answer (length (without_mark text)) start_place (without_mark text) (omega arith))
