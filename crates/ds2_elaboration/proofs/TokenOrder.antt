-- The tokens of a text stand in order, and what its source becomes is typed.
use Rattle.std.proofs.Common.{◌≡◌, ◌<◌, ◌≤◌, ◌⊎◌, inl, inr, ◌+◌, ◌-◌, ◌^◌, ◌==◌, nat_lt, ℕ, Bool, true, false, ◌&&◌, cond, bytes_eq, List, [], ◌∷◌, ◌++◌, length, take, drop, refl, sym, ap, ◌∙◌, subst, arith}
use Rattle.std.specs.List.{AllByRecursion}
use Rattle.std.specs.Str.{chars}
use Rattle.std.proofs.Math.Nat.{min-eq_left}
use Rattle.std.proofs.lemmas.Bool.{lt-ltb, eq-eqb, and_from, or_left, or_right, cond_both}
use Rattle.std.proofs.lemmas.List.{length-append, length-drop}
use Rattle.ds2_base.specs.Bytes.{Bytes, Chars}
use Rattle.ds2_base.specs.Place.{start_place, next_number, place_after, place_past}
use Rattle.ds2_base.specs.declared.place.Place.{Place}
use Rattle.ds2_token.specs.declared.token.Token.{Token}
use Rattle.ds2_token.specs.Standing.{BeginsWith, LeadsTo, without_mark}
use Rattle.ds2_tree.specs.Lists.{Each}
use Rattle.ds2_tree.specs.Units.{SourcePart, part_spelling, source_spelling, IsPart}
use Rattle.ds2_value.specs.Types.{JoinTakesBoth, TakesItself, TakesOnward}
use Rattle.ds2_names.specs.SourceUnit.{is_earlier}
use Rattle.ds2_elaboration.specs.TextPrograms.{TokensStandInOrder, EveryTextIsTyped}
use Rattle.ds2_elaboration.specs.TypedPrograms.{StandInOrder, StandsInSource}
use Rattle.ds2_elaboration.proofs.FirstBytes.{chars_are_fewer, spelling_has_character}
use Rattle.ds2_elaboration.proofs.Orders.{itself_within, behind_others, before_others, order_within}
use Rattle.ds2_elaboration.proofs.Sources.{every_source_is_typed}

-- ---- places one behind the other

-- a stands before b; and a stands at b or before it
abbrev StandsBefore : Place → Place → Type 0
StandsBefore a b = (a.line < b.line) ⊎ ((a.line ≡ b.line) × (a.column < b.column))

abbrev StandsUpTo : Place → Place → Type 0
StandsUpTo a b = (a.line < b.line) ⊎ ((a.line ≡ b.line) × (a.column ≤ b.column))

-- the line and the column are at most n
abbrev IsBelow : ℕ → Place → Type 0
IsBelow n p = (p.line ≤ n) × (p.column ≤ n)

earlier : (a b : Place) → StandsBefore a b → is_earlier a b ≡ true
earlier a b (inl h) = or_left (nat_lt a.line b.line) ((a.line == b.line) && nat_lt a.column b.column) (lt-ltb a.line b.line h)
earlier a b (inr h) =
    or_right (nat_lt a.line b.line) ((a.line == b.line) && nat_lt a.column b.column)
    (and_from (a.line == b.line) (nat_lt a.column b.column) (eq-eqb a.line b.line h.0) (lt-ltb a.column b.column h.1))

before_then : (a b c : Place) → StandsBefore a b → StandsUpTo b c → StandsBefore a c
before_then a b c (inl h) (inl k) = inl (omega (arith, h, k))
before_then a b c (inl h) (inr k) = inl (omega (arith, h, k.0))
before_then a b c (inr h) (inl k) = inl (omega (arith, h.0, k))
before_then a b c (inr h) (inr k) = inr (h.0 ∙ k.0, omega (arith, h.1, k.1))

up_to : (a b : Place) → StandsBefore a b → StandsUpTo a b
up_to a b (inl h) = inl h
up_to a b (inr h) = inr (h.0, omega (arith, h.1))

-- ---- characters

next_is : (n : ℕ) → n + 1 < 2 ^ 32 → next_number n ≡ n + 1
next_is n h = min-eq_left {n = n + 1} {m = 2 ^ 32 - 1} (omega (arith, h))

-- the place behind a line feed, and behind another character
abbrev on_next_line : Place → Place
on_next_line p = record { line = next_number p.line; column = 1 }

abbrev one_further : Place → Place
one_further p = record { line = p.line; column = next_number p.column }

stepped_if : (b : Bool) (n : ℕ) (p : Place) → n + 1 < 2 ^ 32 → IsBelow n p
    → StandsBefore p (cond b (on_next_line p) (one_further p)) × IsBelow (n + 1) (cond b (on_next_line p) (one_further p))
stepped_if true n p h b = let e = next_is p.line (omega (arith, h, b.0)) in (inl (omega (arith, e)), (omega (arith, e, b.0), omega arith))
stepped_if false n p h b = let e = next_is p.column (omega (arith, h, b.1)) in (inr (refl, omega (arith, e)), (omega (arith, b.0), omega (arith, e, b.1)))

stepped : (n : ℕ) (p : Place) (c : ℕ) → n + 1 < 2 ^ 32 → IsBelow n p → StandsBefore p (place_after p c) × IsBelow (n + 1) (place_after p c)
stepped n p c h b = stepped_if (c == 10) n p h b

below_more : (m n : ℕ) (p : Place) → m ≤ n → IsBelow m p → IsBelow n p
below_more m n p h b = (omega (arith, h, b.0), omega (arith, h, b.1))

passed_by : (n : ℕ) (p : Place) (cs : Chars) → n + length cs < 2 ^ 32 → IsBelow n p → StandsUpTo p (place_past p cs) × IsBelow (n + length cs) (place_past p cs)
passed_by n p [] h b = (inr (refl, omega arith), (omega (arith, b.0), omega (arith, b.1)))
passed_by n p (c ∷ cs) h b =
    let s = stepped n p c (omega (arith, h)) b in
    let r = passed_by (n + 1) (place_after p c) cs (omega (arith, h)) s.1 in (
      up_to p (place_past p (c ∷ cs)) (before_then p (place_after p c) (place_past p (c ∷ cs)) s.0 r.0),
      below_more (n + 1 + length cs) (n + length (c ∷ cs)) (place_past p (c ∷ cs)) (omega arith) r.1,
    )

passed_some : (n : ℕ) (p : Place) (cs : Chars) → 0 < length cs → n + length cs < 2 ^ 32 → IsBelow n p → StandsBefore p (place_past p cs)
passed_some n p [] some h b = absurd (omega (arith, some))
passed_some n p (c ∷ cs) some h b =
    let s = stepped n p c (omega (arith, h)) b in
    before_then p (place_after p c) (place_past p (c ∷ cs)) s.0 (passed_by (n + 1) (place_after p c) cs (omega (arith, h)) s.1).0

-- ---- tokens

-- what a token and the gap before it leave: where the token stands, and how much is left behind it
record TokenPassed (n : ℕ) (at : Place) (text rest : Bytes) (t : Token) : Type 0 where
  counted : ℕ
  left : counted + length rest ≤ n + length text
  here : StandsUpTo at t.place
  behind : StandsBefore t.place (place_past t.place (chars t.spelling))
  below : IsBelow counted (place_past t.place (chars t.spelling))

token_passed : (n : ℕ) (at : Place) (text rest : Bytes) (t : Token) → n + length text < 2 ^ 32 → IsBelow n at → BeginsWith at text t rest → TokenPassed n at text rest t
token_passed n at text rest t h b begins =
    let whole : length text ≡ length begins.gap + (length t.spelling + length rest) =
    ap length begins.cut ∙ length-append begins.gap (t.spelling ++ rest) ∙ ap (λ k. length begins.gap + k) (length-append t.spelling rest) in
    let fewer_gap = chars_are_fewer begins.gap in
    let fewer = chars_are_fewer t.spelling in
    let some = spelling_has_character t.spelling t.kind begins.kind in
    let gap = passed_by n at (chars begins.gap) (omega (arith, h, whole, fewer_gap)) b in
    let here : StandsUpTo at t.place = subst (StandsUpTo at) (sym begins.place) gap.0 in
    let below : IsBelow (n + length (chars begins.gap)) t.place = subst (IsBelow (n + length (chars begins.gap))) (sym begins.place) gap.1 in
    let over = passed_by (n + length (chars begins.gap)) t.place (chars t.spelling) (omega (arith, h, whole, fewer_gap, fewer)) below in
    record {
      counted = n + length (chars begins.gap) + length (chars t.spelling);
      left = omega (arith, whole, fewer_gap, fewer);
      here = here;
      behind = passed_some (n + length (chars begins.gap)) t.place (chars t.spelling) some (omega (arith, h, whole, fewer_gap, fewer)) below;
      below = over.1;
    }

-- what stands before a place from which tokens lead on stands before each of them
all_later : (p : Place) (n : ℕ) (at : Place) (text : Bytes) (tokens : List Token) (end : Place) (left : Bytes) → n + length text < 2 ^ 32 → IsBelow n at → StandsBefore p at
    → LeadsTo at text tokens end left → AllByRecursion (λ (later : Token). is_earlier p later.place ≡ true) tokens
all_later p n at text [] end left h b before leads = tt
all_later p n at text (t ∷ tokens) end left h b before (rest, begins, leads) =
    let passed = token_passed n at text rest t h b begins in
    let here = before_then p at t.place before passed.here in
    let next = place_past t.place (chars t.spelling) in
    (earlier p t.place here, all_later p passed.counted next rest tokens end left (omega (arith, h, passed.left)) passed.below (before_then p t.place next here (up_to t.place next passed.behind)) leads)

all_in_order : (n : ℕ) (at : Place) (text : Bytes) (tokens : List Token) (end : Place) (left : Bytes) → n + length text < 2 ^ 32 → IsBelow n at
    → LeadsTo at text tokens end left → StandInOrder tokens
all_in_order n at text [] end left h b leads = tt
all_in_order n at text (t ∷ tokens) end left h b (rest, begins, leads) =
    let passed = token_passed n at text rest t h b begins in
    let next = place_past t.place (chars t.spelling) in
    let few : passed.counted + length rest < 2 ^ 32 = omega (arith, h, passed.left) in
    (all_later t.place passed.counted next rest tokens end left few passed.below passed.behind leads, all_in_order passed.counted next rest tokens end left few passed.below leads)

mark_is_left_out : (text : Bytes) → length (without_mark text) ≤ length text
mark_is_left_out text =
    cond_both (bytes_eq (take 3 text) (239 ∷ 187 ∷ 191 ∷ [])) (drop 3 text) text (λ (s : Bytes). length s ≤ length text) (λ e. omega (arith, length-drop 3 text)) (λ e. omega arith)

pub tokens_stand_in_order : TokensStandInOrder
tokens_stand_in_order text tokens h (end, left, leads, gap) =
    all_in_order 1 start_place (without_mark text) tokens end left (omega (arith, h, mark_is_left_out text)) ((omega arith, omega arith)) leads

-- ---- sources

parts_stand : (parts : List SourcePart) → Each IsPart parts → StandInOrder (source_spelling parts) → AllByRecursion StandsInSource parts
parts_stand [] g o = tt
parts_stand (part ∷ parts) g o = (
  record { grammar = g.0; order = order_within (before_others (source_spelling parts) (itself_within (part_spelling part))) o },
  parts_stand parts g.1 (order_within (behind_others (part_spelling part) (itself_within (source_spelling parts))) o),
)

pub every_text_is_typed : JoinTakesBoth → TakesItself → TakesOnward → EveryTextIsTyped
every_text_is_typed join itself onward tables text parts programs schemas few stands grammar h =
    every_source_is_typed join itself onward tables parts programs schemas (parts_stand parts grammar (tokens_stand_in_order text (source_spelling parts) few stands)) h
