-- Each way to make a part of parts makes one of which the laws hold.
use Rattle.std.proofs.Common.{◌≡◌, ℕ, zero, suc, ◌+◌, ◌<◌, ◌≤◌, Bool, true, false, cond, ◌&&◌, IsTrue, List, [], ◌∷◌, ◌++◌, length, take, drop, slice_get, nat_lt, Option, Some, None, Ok, Err, refl, sym, ap, subst, ◌∙◌, append_assoc, length-append, take_at, drop_at, take-append-drop, get_or-append-add, ltb-false, le-ltb, lt-ltb, eqb-true, eq-eqb, length-take-le, ◌==◌, arith}
use Rattle.std.specs.List.{flat_map, list_all}
use Rattle.std.specs.Option.{option_map_or}
use Rattle.std.proofs.lemmas.List.{take-append-le, drop-append-le}
use Rattle.std.proofs.lemmas.Option.{slice_get_within}
use Rattle.ds2_base.specs.Bytes.{Bytes}
use Rattle.ds2_object_words.specs.declared.flaw.Flaw.{Flaw}
use Rattle.ds2_object_words.specs.declared.flaw.Flaw.TheVariants.{Truncated, Bad}
use Rattle.ds2_object_words.specs.Parts.{FormatPart, FieldRead, and_read, front_read, bytes_part, empty_part, then_part, seen_as, variant_part, checked_part, items_read, byte_part, option_part, alternative_read, tagged_part, listed_value, listed_part}
use Rattle.ds2_object_words.specs.PartLaws.{AreBytes, GoesOnAs, StandsBefore, IsLawfulPart}

-- ---- tests

pub both : (a b : Bool) → IsTrue (a && b) → IsTrue a × IsTrue b
both true b e = (refl, e)
both false b e = absurd (let k : false ≡ true = e in cc)

pub and_true : (a b : Bool) → IsTrue a → IsTrue b → IsTrue (a && b)
and_true true b p q = q
and_true false b p q = absurd (let k : false ≡ true = p in cc)

-- ---- what was read

abbrev pub found : {A : Type 0} → A × Bytes → FieldRead A
found x = Ok x

-- two equal answers have equal values
pub found_is : {A : Type 0} (x y : A × Bytes) → found x ≡ found y → x ≡ y
found_is x y e = cc

-- what came first, where something was read in the end
pub read_ok : {A B : Type 0} (r : FieldRead A) (f : A → Bytes → FieldRead B) (y : B × Bytes) → and_read r f ≡ Ok y
    → (a : A) × (rest : Bytes) × (r ≡ Ok (a, rest)) × (f a rest ≡ Ok y)
read_ok (Ok x) f y e = (x.0, x.1, refl, e)
read_ok (Err flaw) f y e = absurd cc

-- a test that did not refuse
pub kept : {A : Type 0} (b : Bool) (flaw : Flaw) (x y : A × Bytes) → cond b (found x) (Err flaw) ≡ Ok y → (b ≡ true) × (x ≡ y)
kept true flaw x y e = (refl, cc)
kept false flaw x y e = absurd cc

-- a test that did not refuse, the other way round
pub not_refused : {A : Type 0} (b : Bool) (flaw : Flaw) (x y : A × Bytes) → cond b (Err flaw) (found x) ≡ Ok y → (b ≡ false) × (x ≡ y)
not_refused true flaw x y e = absurd cc
not_refused false flaw x y e = (refl, cc)

-- more bytes at the end, step by step
pub goes_on : {A B : Type 0} (r longer : FieldRead A) (more : Bytes) (f g : A → Bytes → FieldRead B) → GoesOnAs r more longer
    → ((a : A) (rest : Bytes) → GoesOnAs (f a rest) more (g a (rest ++ more))) → GoesOnAs (and_read r f) more (and_read longer g)
goes_on (Ok x) longer more f g h k = rw h (k x.0 x.1)
goes_on (Err Truncated) longer more f g h k = tt
goes_on (Err (Bad left)) longer more f g h k = rw h refl

-- a field that may not stand there
bad_goes_on : {A : Type 0} (b : ℕ) (bytes more : Bytes) → GoesOnAs {A = A} (Err (Bad (length (b ∷ bytes)))) more (Err (Bad (length (b ∷ (bytes ++ more)))))
bad_goes_on b bytes more = rw (length-append bytes more) (let e : suc (length bytes + length more) ≡ suc (length bytes) + length more = omega arith in rw e refl)

-- ---- bytes

pub bytes_behind : (front rest : Bytes) → AreBytes (front ++ rest) → AreBytes rest
bytes_behind front rest h i = subst (λ (n : ℕ). n < 256) (get_or-append-add front rest i 0) (h (length front + i))

-- the bytes behind what was read
pub rest_bytes : (bytes front rest : Bytes) → bytes ≡ front ++ rest → AreBytes bytes → AreBytes rest
rest_bytes bytes front rest e h = bytes_behind front rest (subst AreBytes e h)

-- the first so many bytes, when more are added at the end
front_goes_on : {A : Type 0} (n : ℕ) (value : Bytes → A) (bytes more : Bytes) (b : Bool) → nat_lt (length bytes) n ≡ b
    → GoesOnAs (cond b (Err Truncated) (found (value (take n bytes), drop n bytes))) more (front_read n value (bytes ++ more))
front_goes_on n value bytes more true e = tt
front_goes_on n value bytes more false e =
    let long : n ≤ length bytes = ltb-false (length bytes) n e in
    let longer : nat_lt (length (bytes ++ more)) n ≡ false = le-ltb _ _ (omega (arith, length-append bytes more)) in
    rw (longer, take-append-le n bytes more long, drop-append-le n bytes more long) refl

pub front_steady : {A : Type 0} (n : ℕ) (value : Bytes → A) (bytes more : Bytes) → GoesOnAs (front_read n value bytes) more (front_read n value (bytes ++ more))
front_steady n value bytes more = front_goes_on n value bytes more (nat_lt (length bytes) n) refl

-- as many bytes as are wanted are the first ones
pub front_again : {A : Type 0} (n : ℕ) (value : Bytes → A) (front rest : Bytes) → length front ≡ n → front_read n value (front ++ rest) ≡ Ok (value front, rest)
front_again n value front rest e =
    let long : nat_lt (length (front ++ rest)) n ≡ false = le-ltb _ _ (omega (arith, length-append front rest)) in
    rw (long, take_at front rest n e, drop_at front rest n e) refl

pub bytes_law : (n : ℕ) → IsLawfulPart (bytes_part n)
bytes_law n = record {
  again = λ t rest h. front_again n (λ (t : Bytes). t) t rest (eqb-true (length t) n h);
  takes = λ bytes t rest fits e.
      let g = not_refused {A = Bytes} (nat_lt (length bytes) n) Truncated (take n bytes, drop n bytes) (t, rest) e in
      let long : n ≤ length bytes = ltb-false (length bytes) n g.0 in
      let len : (length (take n bytes) == n) ≡ true = eq-eqb (length (take n bytes)) n (length-take-le n bytes long) in
      let made : StandsBefore (bytes_part n) bytes (take n bytes) (drop n bytes) = record { allowed = len; parts = sym (take-append-drop n bytes) } in
      subst (λ (z : Bytes × Bytes). StandsBefore (bytes_part n) bytes z.0 z.1) g.1 made;
  steady = front_steady n (λ (t : Bytes). t);
}

-- ---- parts of parts

pub empty_law : {A : Type 0} (value : A) (is_value : A → Bool) → IsTrue (is_value value) → ((a : A) → IsTrue (is_value a) → value ≡ a) → IsLawfulPart (empty_part value is_value)
empty_law {A} value is_value here only = record {
  again = λ a rest h. rw (only a h) refl;
  takes = λ bytes a rest fits e.
      subst (λ (z : A × Bytes). StandsBefore (empty_part value is_value) bytes z.0 z.1) (found_is {A = A} (value, bytes) (a, rest) e) (record { allowed = here; parts = refl });
  steady = λ bytes more. refl;
}

pub then_law : {A B : Type 0} (p : FormatPart A) (q : A → FormatPart B) → IsLawfulPart p → ((a : A) → IsLawfulPart (q a)) → IsLawfulPart (then_part p q)
then_law {A} {B} p q first second = record {
  again = λ x rest h.
      let k : IsTrue (p.allows x.0) × IsTrue ((q x.0).allows x.1) = both (p.allows x.0) ((q x.0).allows x.1) h in
      rw (append_assoc (p.spelled x.0) ((q x.0).spelled x.1) rest, first.again x.0 ((q x.0).spelled x.1 ++ rest) k.0, (second x.0).again x.1 rest k.1) refl;
  takes = λ bytes y rest fits e.
      let a = read_ok {A = A} {B = A × B} (p.read bytes) (λ a rest. and_read ((q a).read rest) (λ b behind. Ok ((a, b), behind))) (y, rest) e in
      let s = first.takes bytes a.0 a.1 fits a.2 in
      let b = read_ok {A = B} {B = A × B} ((q a.0).read a.1) (λ b behind. Ok ((a.0, b), behind)) (y, rest) a.3 in
      let t = (second a.0).takes a.1 b.0 b.1 (rest_bytes bytes (p.spelled a.0) a.1 s.parts fits) b.2 in
      let made : StandsBefore (then_part p q) bytes (a.0, b.0) b.1 = record {
        allowed = and_true (p.allows a.0) ((q a.0).allows b.0) s.allowed t.allowed;
        parts = s.parts ∙ ap (λ (z : Bytes). p.spelled a.0 ++ z) t.parts ∙ sym (append_assoc (p.spelled a.0) ((q a.0).spelled b.0) b.1);
      } in
      subst (λ (z : (A × B) × Bytes). StandsBefore (then_part p q) bytes z.0 z.1) (found_is {A = A × B} ((a.0, b.0), b.1) (y, rest) b.3) made;
  steady = λ bytes more.
      goes_on {A = A} {B = A × B} (p.read bytes) (p.read (bytes ++ more)) more
      (λ a rest. and_read ((q a).read rest) (λ b behind. Ok ((a, b), behind))) (λ a rest. and_read ((q a).read rest) (λ b behind. Ok ((a, b), behind)))
      (first.steady bytes more)
      (λ a rest. goes_on {A = B} {B = A × B} ((q a).read rest) ((q a).read (rest ++ more)) more (λ b behind. Ok ((a, b), behind)) (λ b behind. Ok ((a, b), behind)) ((second a).steady rest more) (λ b behind. refl));
}

pub seen_as_law : {A B : Type 0} (to : A → B) (from : B → A) (p : FormatPart A) → IsLawfulPart p → ((a : A) → IsTrue (p.allows a) → from (to a) ≡ a)
    → ((b : B) → IsTrue (p.allows (from b)) → to (from b) ≡ b) → IsLawfulPart (seen_as to from p)
seen_as_law {A} {B} to from p law there back = record {
  again = λ b rest h. rw (law.again (from b) rest h, back b h) refl;
  takes = λ bytes b rest fits e.
      let a = read_ok {A = A} {B = B} (p.read bytes) (λ a rest. Ok (to a, rest)) (b, rest) e in
      let s = law.takes bytes a.0 a.1 fits a.2 in
      let f : from (to a.0) ≡ a.0 = there a.0 s.allowed in
      let made : StandsBefore (seen_as to from p) bytes (to a.0) a.1 = record { allowed = rw f s.allowed; parts = rw f s.parts } in
      subst (λ (z : B × Bytes). StandsBefore (seen_as to from p) bytes z.0 z.1) (found_is {A = B} (to a.0, a.1) (b, rest) a.3) made;
  steady = λ bytes more. goes_on {A = A} {B = B} (p.read bytes) (p.read (bytes ++ more)) more (λ a rest. Ok (to a, rest)) (λ a rest. Ok (to a, rest)) (law.steady bytes more) (λ a rest. refl);
}

variant_again : {A B : Type 0} (to : A → B) (p : FormatPart A) (b : B) (rest : Bytes) → IsLawfulPart p → (o : Option A) → ((a : A) → o ≡ Some a → to a ≡ b)
    → IsTrue (option_map_or p.allows o false) → and_read (p.read (option_map_or p.spelled o [] ++ rest)) (λ a rest. found (to a, rest)) ≡ Ok (b, rest)
variant_again to p b rest law None back h = absurd (let k : false ≡ true = h in cc)
variant_again to p b rest law (Some a) back h = rw (law.again a rest h, back a refl) refl

pub variant_law : {A B : Type 0} (to : A → B) (from : B → Option A) (p : FormatPart A) → IsLawfulPart p → ((a : A) → IsTrue (p.allows a) → from (to a) ≡ Some a)
    → ((b : B) (a : A) → from b ≡ Some a → to a ≡ b) → IsLawfulPart (variant_part to from p)
variant_law {A} {B} to from p law there back = record {
  again = λ b rest h. variant_again to p b rest law (from b) (back b) h;
  takes = λ bytes b rest fits e.
      let a = read_ok {A = A} {B = B} (p.read bytes) (λ a rest. Ok (to a, rest)) (b, rest) e in
      let s = law.takes bytes a.0 a.1 fits a.2 in
      let f : from (to a.0) ≡ Some a.0 = there a.0 s.allowed in
      let made : StandsBefore (variant_part to from p) bytes (to a.0) a.1 = record { allowed = rw f s.allowed; parts = rw f s.parts } in
      subst (λ (z : B × Bytes). StandsBefore (variant_part to from p) bytes z.0 z.1) (found_is {A = B} (to a.0, a.1) (b, rest) a.3) made;
  steady = λ bytes more. goes_on {A = A} {B = B} (p.read bytes) (p.read (bytes ++ more)) more (λ a rest. Ok (to a, rest)) (λ a rest. Ok (to a, rest)) (law.steady bytes more) (λ a rest. refl);
}

checked_goes_on : {A : Type 0} (b : Bool) (a : A) (rest bytes more : Bytes)
    → GoesOnAs (cond b (found (a, rest)) (Err (Bad (length bytes)))) more (cond b (Ok (a, rest ++ more)) (Err (Bad (length (bytes ++ more)))))
checked_goes_on true a rest bytes more = refl
checked_goes_on false a rest bytes more = rw (length-append bytes more) refl

pub checked_law : {A : Type 0} (rule : A → Bool) (p : FormatPart A) → IsLawfulPart p → IsLawfulPart (checked_part rule p)
checked_law {A} rule p law = record {
  again = λ a rest h.
      let k : IsTrue (p.allows a) × IsTrue (rule a) = both (p.allows a) (rule a) h in
      rw (law.again a rest k.0, k.1) refl;
  takes = λ bytes b rest fits e.
      let a = read_ok {A = A} {B = A} (p.read bytes) (λ a rest. cond (rule a) (Ok (a, rest)) (Err (Bad (length bytes)))) (b, rest) e in
      let s = law.takes bytes a.0 a.1 fits a.2 in
      let k = kept {A = A} (rule a.0) (Bad (length bytes)) (a.0, a.1) (b, rest) a.3 in
      let made : StandsBefore (checked_part rule p) bytes a.0 a.1 = record { allowed = and_true (p.allows a.0) (rule a.0) s.allowed k.0; parts = s.parts } in
      subst (λ (z : A × Bytes). StandsBefore (checked_part rule p) bytes z.0 z.1) k.1 made;
  steady = λ bytes more.
      goes_on {A = A} {B = A} (p.read bytes) (p.read (bytes ++ more)) more (λ a rest. cond (rule a) (Ok (a, rest)) (Err (Bad (length bytes))))
      (λ a rest. cond (rule a) (Ok (a, rest)) (Err (Bad (length (bytes ++ more))))) (law.steady bytes more)
      (λ a rest. checked_goes_on (rule a) a rest bytes more);
}

-- ---- lists

pub items_again : {A : Type 0} (p : FormatPart A) → IsLawfulPart p → (xs : List A) (rest : Bytes) → IsTrue (list_all p.allows xs)
    → items_read p (length xs) (flat_map p.spelled xs ++ rest) ≡ Ok (xs, rest)
items_again p law [] rest h = refl
items_again p law (x ∷ xs) rest h =
    let k : IsTrue (p.allows x) × IsTrue (list_all p.allows xs) = both (p.allows x) (list_all p.allows xs) h in
    rw (append_assoc (p.spelled x) (flat_map p.spelled xs) rest, law.again x (flat_map p.spelled xs ++ rest) k.0, items_again p law xs rest k.1) refl

-- items that stand at the front of bytes
pub record ItemsStand {A : Type 0} (p : FormatPart A) (n : ℕ) (bytes : Bytes) (xs : List A) (rest : Bytes) : Type 0 where
  pub count : length xs ≡ n
  pub allowed : IsTrue (list_all p.allows xs)
  pub parts : bytes ≡ flat_map p.spelled xs ++ rest

pub items_take : {A : Type 0} (p : FormatPart A) → IsLawfulPart p → (n : ℕ) (bytes : Bytes) (xs : List A) (rest : Bytes) → AreBytes bytes
    → items_read p n bytes ≡ Ok (xs, rest) → ItemsStand p n bytes xs rest
items_take {A} p law zero bytes xs rest fits e =
    let none : List A = [] in
    let made : ItemsStand p 0 bytes none bytes = record { count = refl; allowed = refl; parts = refl } in
    subst (λ (z : List A × Bytes). ItemsStand p 0 bytes z.0 z.1) (found_is {A = List A} (none, bytes) (xs, rest) e) made
items_take {A} p law (suc n) bytes xs rest fits e =
    let a = read_ok {A = A} {B = List A} (p.read bytes) (λ x rest. and_read (items_read p n rest) (λ xs behind. Ok (x ∷ xs, behind))) (xs, rest) e in
    let s = law.takes bytes a.0 a.1 fits a.2 in
    let b = read_ok {A = List A} {B = List A} (items_read p n a.1) (λ xs behind. Ok (a.0 ∷ xs, behind)) (xs, rest) a.3 in
    let t = items_take p law n a.1 b.0 b.1 (rest_bytes bytes (p.spelled a.0) a.1 s.parts fits) b.2 in
    let made : ItemsStand p (suc n) bytes (a.0 ∷ b.0) b.1 = record {
      count = ap suc t.count;
      allowed = and_true (p.allows a.0) (list_all p.allows b.0) s.allowed t.allowed;
      parts = s.parts ∙ ap (λ (z : Bytes). p.spelled a.0 ++ z) t.parts ∙ sym (append_assoc (p.spelled a.0) (flat_map p.spelled b.0) b.1);
    } in
    subst (λ (z : List A × Bytes). ItemsStand p (suc n) bytes z.0 z.1) (found_is {A = List A} (a.0 ∷ b.0, b.1) (xs, rest) b.3) made

pub items_steady : {A : Type 0} (p : FormatPart A) → IsLawfulPart p → (n : ℕ) (bytes more : Bytes) → GoesOnAs (items_read p n bytes) more (items_read p n (bytes ++ more))
items_steady {A} p law zero bytes more = refl
items_steady {A} p law (suc n) bytes more =
    goes_on {A = A} {B = List A} (p.read bytes) (p.read (bytes ++ more)) more
    (λ x rest. and_read (items_read p n rest) (λ xs behind. Ok (x ∷ xs, behind))) (λ x rest. and_read (items_read p n rest) (λ xs behind. Ok (x ∷ xs, behind)))
    (law.steady bytes more)
    (λ x rest. goes_on {A = List A} {B = List A} (items_read p n rest) (items_read p n (rest ++ more)) more (λ xs behind. Ok (x ∷ xs, behind)) (λ xs behind. Ok (x ∷ xs, behind)) (items_steady p law n rest more) (λ xs behind. refl))

-- ---- options

option_again : {A : Type 0} (p : FormatPart A) → IsLawfulPart p → (o : Option A) (rest : Bytes) → IsTrue ((option_part p).allows o)
    → (option_part p).read ((option_part p).spelled o ++ rest) ≡ Ok (o, rest)
unfolding byte_part
option_again p law None rest h = refl
option_again p law (Some x) rest h = rw (law.again x rest h) refl

byte_rest : (b : ℕ) (bytes : Bytes) → AreBytes (b ∷ bytes) → AreBytes bytes
byte_rest b bytes h i = h (suc i)

option_takes : {A : Type 0} (p : FormatPart A) → IsLawfulPart p → (bytes : Bytes) (o : Option A) (rest : Bytes) → AreBytes bytes → (option_part p).read bytes ≡ Ok (o, rest)
    → StandsBefore (option_part p) bytes o rest
unfolding byte_part
option_takes {A} p law [] o rest fits e = absurd cc
option_takes {A} p law (zero ∷ bytes) o rest fits e =
    let nothing : Option A = None in
    let made : StandsBefore (option_part p) (0 ∷ bytes) nothing bytes = record { allowed = refl; parts = refl } in
    subst (λ (z : Option A × Bytes). StandsBefore (option_part p) (0 ∷ bytes) z.0 z.1) (found_is {A = Option A} (nothing, bytes) (o, rest) e) made
option_takes {A} p law (suc zero ∷ bytes) o rest fits e =
    let a = read_ok {A = A} {B = Option A} (p.read bytes) (λ x behind. Ok (Some x, behind)) (o, rest) e in
    let s = law.takes bytes a.0 a.1 (byte_rest 1 bytes fits) a.2 in
    let made : StandsBefore (option_part p) (1 ∷ bytes) (Some a.0) a.1 = record { allowed = s.allowed; parts = ap (λ (z : Bytes). 1 ∷ z) s.parts } in
    subst (λ (z : Option A × Bytes). StandsBefore (option_part p) (1 ∷ bytes) z.0 z.1) (found_is {A = Option A} (Some a.0, a.1) (o, rest) a.3) made
option_takes {A} p law (suc (suc b) ∷ bytes) o rest fits e = absurd cc

option_steady : {A : Type 0} (p : FormatPart A) → IsLawfulPart p → (bytes more : Bytes) → GoesOnAs ((option_part p).read bytes) more ((option_part p).read (bytes ++ more))
unfolding byte_part
option_steady {A} p law [] more = tt
option_steady {A} p law (zero ∷ bytes) more = refl
option_steady {A} p law (suc zero ∷ bytes) more =
    goes_on {A = A} {B = Option A} (p.read bytes) (p.read (bytes ++ more)) more (λ x behind. Ok (Some x, behind)) (λ x behind. Ok (Some x, behind)) (law.steady bytes more) (λ x behind. refl)
option_steady {A} p law (suc (suc b) ∷ bytes) more = bad_goes_on (suc (suc b)) bytes more

pub option_law : {A : Type 0} (p : FormatPart A) → IsLawfulPart p → IsLawfulPart (option_part p)
unfolding byte_part
option_law p law = record { again = option_again p law; takes = option_takes p law; steady = option_steady p law }

-- ---- alternatives

-- each alternative is a part of values with its number as their tag
abbrev pub AreAlternatives : {A : Type 0} → (A → ℕ) → ℕ → List (FormatPart A) → Type 0
AreAlternatives {A} tag n [] = Unit {0}
AreAlternatives {A} tag n (p ∷ ps) = IsLawfulPart p × ((a : A) → IsTrue (p.allows a) → tag a ≡ n) × AreAlternatives tag (suc n) ps

-- the alternative of a number is a part of values with that tag
record IsAlternative {A : Type 0} (tag : A → ℕ) (t : ℕ) (p : FormatPart A) : Type 0 where
  law : IsLawfulPart p
  tags : (a : A) → IsTrue (p.allows a) → tag a ≡ t

pub some_is : {A : Type 0} (x y : A) → Some x ≡ Some y → x ≡ y
some_is x y e = cc

alternative_at : {A : Type 0} (tag : A → ℕ) (n : ℕ) (ps : List (FormatPart A)) → AreAlternatives tag n ps → (t : ℕ) (p : FormatPart A) → slice_get ps t ≡ Some p
    → IsAlternative tag (n + t) p
alternative_at tag n [] h t p e = absurd cc
alternative_at tag n (q ∷ ps) h zero p e =
    let here : IsAlternative tag (n + 0) q = record { law = h.0; tags = λ a k. h.1 a k ∙ omega arith } in
    subst (IsAlternative tag (n + 0)) (some_is q p e) here
alternative_at tag n (q ∷ ps) h (suc t) p e =
    let later : IsAlternative tag (suc n + t) p = alternative_at tag (suc n) ps h.2 t p e in
    let same : suc n + t ≡ n + suc t = omega arith in
    subst (λ k. IsAlternative tag k p) same later

tagged_again : {A : Type 0} (tag : A → ℕ) (ps : List (FormatPart A)) → AreAlternatives tag 0 ps → (a : A) (rest : Bytes) (o : Option (FormatPart A)) → slice_get ps (tag a) ≡ o
    → IsTrue (option_map_or (λ (p : FormatPart A). p.allows a) o false)
    → alternative_read o (length (tag a ∷ (option_map_or (λ (p : FormatPart A). p.spelled a) o [] ++ rest))) (option_map_or (λ (p : FormatPart A). p.spelled a) o [] ++ rest) ≡ Ok (a, rest)
unfolding byte_part
tagged_again tag ps laws a rest None e h = absurd (let k : false ≡ true = h in cc)
tagged_again tag ps laws a rest (Some p) e h = let k = alternative_at tag 0 ps laws (tag a) p e in k.law.again a rest h

tagged_takes_at : {A : Type 0} (tag : A → ℕ) (ps : List (FormatPart A)) → AreAlternatives tag 0 ps → (t : ℕ) (bytes : Bytes) (a : A) (rest : Bytes) → AreBytes (t ∷ bytes)
    → (o : Option (FormatPart A)) → slice_get ps t ≡ o → alternative_read o (length (t ∷ bytes)) bytes ≡ Ok (a, rest) → StandsBefore (tagged_part tag ps) (t ∷ bytes) a rest
unfolding byte_part
tagged_takes_at tag ps laws t bytes a rest fits None found e = absurd cc
tagged_takes_at {A} tag ps laws t bytes a rest fits (Some p) found e =
    let k = alternative_at tag 0 ps laws t p found in
    let s = k.law.takes bytes a rest (byte_rest t bytes fits) e in
    let same : tag a ≡ t = k.tags a s.allowed ∙ omega arith in
    let there : slice_get ps (tag a) ≡ Some p = ap (slice_get ps) same ∙ found in
    record {
      allowed = rw there s.allowed;
      parts = rw (there, same) (ap (λ (z : Bytes). t ∷ z) s.parts);
    }

tagged_takes : {A : Type 0} (tag : A → ℕ) (ps : List (FormatPart A)) → AreAlternatives tag 0 ps → (bytes : Bytes) (a : A) (rest : Bytes) → AreBytes bytes
    → (tagged_part tag ps).read bytes ≡ Ok (a, rest) → StandsBefore (tagged_part tag ps) bytes a rest
unfolding byte_part
tagged_takes tag ps laws [] a rest fits e = absurd cc
tagged_takes tag ps laws (t ∷ bytes) a rest fits e = tagged_takes_at tag ps laws t bytes a rest fits (slice_get ps t) refl e

alternative_steady : {A : Type 0} (tag : A → ℕ) (ps : List (FormatPart A)) → AreAlternatives tag 0 ps → (t : ℕ) (bytes more : Bytes) (o : Option (FormatPart A)) → slice_get ps t ≡ o
    → GoesOnAs (alternative_read o (length (t ∷ bytes)) bytes) more (alternative_read o (length (t ∷ (bytes ++ more))) (bytes ++ more))
alternative_steady tag ps laws t bytes more None e = bad_goes_on t bytes more
alternative_steady tag ps laws t bytes more (Some p) e = let k = alternative_at tag 0 ps laws t p e in k.law.steady bytes more

tagged_steady : {A : Type 0} (tag : A → ℕ) (ps : List (FormatPart A)) → AreAlternatives tag 0 ps → (bytes more : Bytes) → GoesOnAs ((tagged_part tag ps).read bytes) more ((tagged_part tag ps).read (bytes ++ more))
unfolding byte_part
tagged_steady tag ps laws [] more = tt
tagged_steady tag ps laws (t ∷ bytes) more = alternative_steady tag ps laws t bytes more (slice_get ps t) refl

pub tagged_law : {A : Type 0} (tag : A → ℕ) (ps : List (FormatPart A)) → AreAlternatives tag 0 ps → IsLawfulPart (tagged_part tag ps)
unfolding byte_part
tagged_law {A} tag ps laws = record {
  again = λ a rest h. tagged_again tag ps laws a rest (slice_get ps (tag a)) refl h;
  takes = tagged_takes tag ps laws;
  steady = tagged_steady tag ps laws;
}

-- ---- listed values

-- each value of a list has its place as its number
abbrev pub AreNumbered : {A : Type 0} → (A → ℕ) → ℕ → List A → Type 0
AreNumbered number n [] = Unit {0}
AreNumbered number n (a ∷ others) = (number a ≡ n) × AreNumbered number (suc n) others

pub number_at_place : {A : Type 0} (number : A → ℕ) (n : ℕ) (values : List A) → AreNumbered number n values → (t : ℕ) (a : A) → slice_get values t ≡ Some a → number a ≡ n + t
number_at_place number n [] h t a e = absurd cc
number_at_place number n (b ∷ values) h zero a e = ap number (sym (some_is b a e)) ∙ h.0 ∙ omega arith
number_at_place number n (b ∷ values) h (suc t) a e = number_at_place number (suc n) values h.1 t a e ∙ omega arith

listed_goes_on : {A : Type 0} (t : ℕ) (bytes more : Bytes) (o : Option A) → GoesOnAs (listed_value o (length (t ∷ bytes)) bytes) more (listed_value o (length (t ∷ (bytes ++ more))) (bytes ++ more))
listed_goes_on t bytes more None = bad_goes_on t bytes more
listed_goes_on t bytes more (Some a) = refl

listed_steady : {A : Type 0} (number : A → ℕ) (values : List A) (bytes more : Bytes) → GoesOnAs ((listed_part number values).read bytes) more ((listed_part number values).read (bytes ++ more))
unfolding byte_part
listed_steady number values [] more = tt
listed_steady number values (t ∷ bytes) more = listed_goes_on t bytes more (slice_get values t)

listed_takes_at : {A : Type 0} (number : A → ℕ) (values : List A) → AreNumbered number 0 values → (t : ℕ) (bytes : Bytes) (a : A) (rest : Bytes) (o : Option A) → slice_get values t ≡ o
    → listed_value o (length (t ∷ bytes)) bytes ≡ Ok (a, rest) → StandsBefore (listed_part number values) (t ∷ bytes) a rest
unfolding byte_part
listed_takes_at {A} number values laws t bytes a rest None found e = absurd cc
listed_takes_at {A} number values laws t bytes a rest (Some b) found e =
    let same : number b ≡ t = number_at_place number 0 values laws t b found ∙ omega arith in
    let within : nat_lt (number b) (length values) ≡ true = lt-ltb (number b) (length values) (rw same (slice_get_within values t b found)) in
    let made : StandsBefore (listed_part number values) (t ∷ bytes) b bytes = record { allowed = within; parts = rw same refl } in
    subst (λ (z : A × Bytes). StandsBefore (listed_part number values) (t ∷ bytes) z.0 z.1) (found_is {A = A} (b, bytes) (a, rest) e) made

listed_takes : {A : Type 0} (number : A → ℕ) (values : List A) → AreNumbered number 0 values → (bytes : Bytes) (a : A) (rest : Bytes)
    → (listed_part number values).read bytes ≡ Ok (a, rest) → StandsBefore (listed_part number values) bytes a rest
unfolding byte_part
listed_takes number values laws [] a rest e = absurd cc
listed_takes number values laws (t ∷ bytes) a rest e = listed_takes_at number values laws t bytes a rest (slice_get values t) refl e

pub listed_law : {A : Type 0} (number : A → ℕ) (values : List A) → AreNumbered number 0 values → ((a : A) → slice_get values (number a) ≡ Some a) → IsLawfulPart (listed_part number values)
unfolding byte_part
listed_law number values laws all = record {
  again = λ a rest h. rw (all a) refl;
  takes = λ bytes a rest fits e. listed_takes number values laws bytes a rest e;
  steady = listed_steady number values;
}

-- ---- one spelling

-- two spellings at the front of the same bytes are of one value
pub begins_no_other : {A : Type 0} (p : FormatPart A) → IsLawfulPart p → (x y : A) (rest more : Bytes) → IsTrue (p.allows x) → IsTrue (p.allows y) → p.spelled x ++ rest ≡ p.spelled y ++ more
    → (x ≡ y) × (rest ≡ more)
begins_no_other {A} p law x y rest more h k e =
    let same : found (x, rest) ≡ found (y, more) = sym (law.again x rest h) ∙ ap p.read e ∙ law.again y more k in
    let pairs = found_is (x, rest) (y, more) same in
    (ap (λ (z : A × Bytes). z.0) pairs, ap (λ (z : A × Bytes). z.1) pairs)
