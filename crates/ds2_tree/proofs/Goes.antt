-- What a parser tells of a tree's spelling: the tree, or the place where a level too many opens.
use Rattle.std.proofs.Common.{◌≡◌, List, [], ◌++◌, Option, Some, None, refl, sym, ap, ◌∙◌, append_assoc}
use Rattle.std.proofs.lemmas.List.{append-nil}
use Rattle.ds2_token.specs.declared.token.Token.{Token}
use Rattle.ds2_tree.specs.Levels.{first_opened}
use Rattle.ds2_tree.specs.Parsers.{ParserOutcome, Read, TooDeep, Parser, and_then}

-- `out` where no token opens a level too many, else TooDeep from that token on
abbrev pub goes : {A : Type 0} → Option (List Token) → List Token → ParserOutcome A → ParserOutcome A
goes None rest out = out
goes (Some back) rest out = TooDeep (back ++ rest)

pub goes_on : {A : Type 0} (o o2 : Option (List Token)) (after rest : List Token) (x y : ParserOutcome A) → x ≡ goes o2 rest y → goes o (after ++ rest) x ≡ goes (first_opened o after o2) rest y
goes_on None o2 after rest x y h = h
goes_on (Some b) o2 after rest x y h = ap TooDeep (sym (append_assoc b after rest))

pub and_goes : {A B : Type 0} (o : Option (List Token)) (rest : List Token) (x : A) (f : A → Parser B) → and_then (goes o rest (Read x rest)) f ≡ goes o rest (f x rest)
and_goes None rest x f = refl
and_goes (Some b) rest x f = refl

-- a part with something behind it
pub part : {A B : Type 0} (q : ParserOutcome A) (o o2 : Option (List Token)) (after rest : List Token) (x : A) (f : A → Parser B) (y : ParserOutcome B)
    → q ≡ goes o (after ++ rest) (Read x (after ++ rest)) → f x (after ++ rest) ≡ goes o2 rest y → and_then q f ≡ goes (first_opened o after o2) rest y
part q o o2 after rest x f y h g = ap (λ u. and_then u f) h ∙ and_goes o (after ++ rest) x f ∙ goes_on o o2 after rest (f x (after ++ rest)) y g

-- a last part
pub last : {A B : Type 0} (q : ParserOutcome A) (o : Option (List Token)) (rest : List Token) (x : A) (f : A → Parser B) (y : ParserOutcome B)
    → q ≡ goes o rest (Read x rest) → f x rest ≡ y → and_then q f ≡ goes o rest y
last q o rest x f y h g = ap (λ u. and_then u f) h ∙ and_goes o rest x f ∙ ap (goes o rest) g

pub none_both : (o o2 : Option (List Token)) (after : List Token) → o ≡ None → o2 ≡ None → first_opened o after o2 ≡ None
none_both o o2 after h g = ap (λ u. first_opened u after o2) h ∙ g

abbrev deep_or : {A : Type 0} → List Token → ParserOutcome A → Option (List Token)
deep_or d (TooDeep r) = Some r
deep_or d _ = None

-- what a parser tells says where the level opens
pub goes_deep : {A : Type 0} (o : Option (List Token)) (x : A) (l : List Token) → goes o [] (Read x []) ≡ TooDeep l → o ≡ Some l
goes_deep None x l h = ap (deep_or []) h
goes_deep (Some b) x l h = ap Some (sym (append-nil b)) ∙ ap (deep_or []) h

pub goes_at : {A : Type 0} (o : Option (List Token)) (x : A) (l : List Token) → o ≡ Some l → goes o [] (Read x []) ≡ TooDeep l
goes_at o x l h = ap (λ u. goes u [] (Read x [])) h ∙ ap TooDeep (append-nil l)
