-- Walks that have gone on in parts.
use Rattle.std.proofs.Common.{◌≡◌, ℕ, Bool, true, false, List, [], ◌∷◌, ◌++◌, map, filter, bytes_eq, Some, None, refl, sym, ap, ◌∙◌}
use Rattle.std.specs.Prelude.{if◌then◌else◌, slice_set}
use Rattle.ds2_base.specs.declared.place.Place.{Place}
use Rattle.ds2_meaning.specs.declared.expressions.Expression as code_expression
use Rattle.ds2_meaning.specs.declared.hashes.DeclaredIterator.{DeclaredIterator}
use Rattle.ds2_meaning.specs.HashObjects.{object_at}
use Rattle.ds2_meaning.specs.Location.{Home, Location}
use Rattle.ds2_meaning.specs.TypedExpression.{TypedExpression}
use Rattle.ds2_meaning.specs.TypedStatement.{TypedStatement}
use Rattle.ds2_meaning.specs.View.{typed_expression}
use Rattle.ds2_locality.specs.Deeds.{MethodAt, iterators_over}
use Rattle.ds2_locality.specs.Walk.{DirtySet, cleaned, all_cleaned, WalkEnd, GoesOn, then_walk, CallWalks, read_locations, read_location, WaysOut, way_on, ways_past, WalkScope, walk_expression, walk}
use Rattle.ds2_program_code.specs.PlacedProgram.{number_of_location}
use Rattle.ds2_deeds.specs.NamedMethods.{methods_named, number_among_methods}
use Rattle.ds2_recorded_walk.specs.declared.record.CallEffect.{CallEffect}
use Rattle.ds2_recorded_walk.specs.declared.record.RecordedWalk.{RecordedWalk}
use Rattle.ds2_recorded_walk.specs.declared.walk_scope.RecordScope.{RecordScope}
use Rattle.ds2_recorded_walk.specs.RecordedStatements.{walk_scope, locations_of, GoesOnBy, LeavesToGoOn, GoesPastBy, LeavesToPass}
use Rattle.ds2_recorded_walk.specs.RecordedWalks.{with_read, with_effect, told, walked_on, walked_past, effect_numbered}
use Rattle.ds2_recorded_walk.proofs.EffectLemmas.{no_effect, its_effect}
use Rattle.ds2_recorded_walk.proofs.ReadLemmas.{told_read, told_unread, told_clean, told_unclean}
use Rattle.ds2_recorded_walk.proofs.WalkLemmas.{then_after, nothing_walked, walked_twice, passed_on, nothing_passed, passed_then, passed_next}

-- ---- reads and cleaning, one list after another

-- one read more in front
read_in_front : (place : Place) (x : Location) (f : DirtySet → WalkEnd DirtySet) (xs ys : List Location) → f ≡ (λ d. then_walk (read_locations place xs d) (read_locations place ys)) → (d : DirtySet)
    → then_walk (read_location place x d) f ≡ then_walk (then_walk (read_location place x d) (read_locations place xs)) (read_locations place ys)
read_in_front place x f xs ys h d =
    ap (λ go. then_walk (read_location place x d) go) h ∙ sym (then_after (read_location place x d) (read_locations place xs) (read_locations place ys))

pub reads_both : (place : Place) (xs ys : List Location) → read_locations place (xs ++ ys) ≡ (λ d. then_walk (read_locations place xs d) (read_locations place ys))
reads_both place [] ys = refl
reads_both place (x ∷ xs) ys = λ i d. read_in_front place x (read_locations place (xs ++ ys)) xs ys (reads_both place xs ys) d i

pub cleans_both : (xs ys : List Location) (d : DirtySet) → all_cleaned (xs ++ ys) d ≡ all_cleaned ys (all_cleaned xs d)
cleans_both [] ys d = refl
cleans_both (x ∷ xs) ys d = cleans_both xs ys (cleaned x d)

-- the iterators of a hash object, from the first one on
module _ (home : Home) (name : List ℕ) where
  next_iterator : (i : DeclaredIterator) (is : List DeclaredIterator) (b : Bool)
      → map (λ (x : DeclaredIterator). object_at home x.name) (if b then i ∷ filter (λ (x : DeclaredIterator). bytes_eq x.hash name) is else filter (λ (x : DeclaredIterator). bytes_eq x.hash name) is)
      ≡ map (λ (x : DeclaredIterator). object_at home x.name) (if b then i ∷ [] else []) ++ iterators_over home is name
  next_iterator i is true = refl
  next_iterator i is false = refl

  pub iterators_next : (i : DeclaredIterator) (is : List DeclaredIterator) → iterators_over home (i ∷ is) name ≡ iterators_over home (i ∷ []) name ++ iterators_over home is name
  iterators_next i is = next_iterator i is (bytes_eq i.hash name)

  pub iterator_over : (i : DeclaredIterator) → bytes_eq i.hash name ≡ true → iterators_over home (i ∷ []) name ≡ object_at home i.name ∷ []
  iterator_over i e = ap (λ (b : Bool). map (λ (x : DeclaredIterator). object_at home x.name) (if b then i ∷ [] else [])) e

  pub iterator_apart : (i : DeclaredIterator) → bytes_eq i.hash name ≡ false → iterators_over home (i ∷ []) name ≡ []
  iterator_apart i e = ap (λ (b : Bool). map (λ (x : DeclaredIterator). object_at home x.name) (if b then i ∷ [] else [])) e

-- ---- walks in a scope

-- what a walk goes on by
abbrev pub Part : Type 0
Part = WalkScope → DirtySet → WalkEnd DirtySet

-- what a walk goes past
abbrev pub Whole : Type 0
Whole = WalkScope → DirtySet → WalkEnd WaysOut

module _ (s : RecordScope) where
  -- ---- a read, a location that is made clean, a call

  pub goes_read : (place : Place) (at : Location) (n : ℕ) (a b : RecordedWalk) → number_of_location (locations_of s) at ≡ Some n → b ≡ with_read place n a → GoesOnBy s a b (λ w. read_location place at)
  goes_read place at n a b e is = record { by = λ calls tells. ap (λ w. told (locations_of s) w) is ∙ told_read (locations_of s) place at n a e }

  pub goes_unread : (place : Place) (at : Location) (a : RecordedWalk) → number_of_location (locations_of s) at ≡ None → GoesOnBy s a a (λ w. read_location place at)
  goes_unread place at a e = record { by = λ calls tells. told_unread (locations_of s) place at a e }

  pub goes_clean : (at : Location) (n : ℕ) (a b : RecordedWalk) → number_of_location (locations_of s) at ≡ Some n → b ≡ record a { onward = slice_set a.onward n false }
      → GoesOnBy s a b (λ w d. GoesOn (all_cleaned (at ∷ []) d))
  goes_clean at n a b e is = record { by = λ calls tells. ap (λ w. told (locations_of s) w) is ∙ told_clean (locations_of s) at n a e }

  pub goes_unclean : (at : Location) (a : RecordedWalk) → number_of_location (locations_of s) at ≡ None → GoesOnBy s a a (λ w d. GoesOn (all_cleaned (at ∷ []) d))
  goes_unclean at a e = record { by = λ calls tells. told_unclean (locations_of s) at a e }

  pub goes_called : (m : MethodAt) (place : Place) (effect : CallEffect) (a b : RecordedWalk) → effect_numbered s.effects.now (number_among_methods (methods_named s.numbers.methods.now) m) ≡ Some effect
      → b ≡ with_effect place effect a → GoesOnBy s a b (λ w. w.calls m place)
  goes_called m place effect a b e is = record { by = λ calls tells. ap (λ w. told (locations_of s) w) is ∙ its_effect s calls tells m place a effect e }

  pub goes_uncalled : (m : MethodAt) (place : Place) (a : RecordedWalk) → effect_numbered s.effects.now (number_among_methods (methods_named s.numbers.methods.now) m) ≡ None → GoesOnBy s a a (λ w. w.calls m place)
  goes_uncalled m place a e = record { by = λ calls tells. no_effect s calls tells m place a e }

  -- ---- parts

  pub goes_nowhere : (a : RecordedWalk) → GoesOnBy s a a (λ w d. GoesOn d)
  goes_nowhere a = record { by = λ calls tells. sym (nothing_walked (told (locations_of s) a)) }

  -- one part and then another
  pub goes_both : {a b c : RecordedWalk} {f g : Part} → GoesOnBy s a b f → GoesOnBy s b c g → GoesOnBy s a c (λ w d. then_walk (f w d) (g w))
  goes_both {a} {b} {c} {f} {g} p q = record {
    by = λ calls tells.
        let w = walk_scope s calls in
        q.by calls tells ∙ ap (λ t. walked_on (g w) t) (p.by calls tells) ∙ sym (walked_twice (f w) (g w) (told (locations_of s) a));
  }

  -- the same, by a part that goes so in this scope
  pub goes_here : {a b : RecordedWalk} {f g : Part} → ((calls : CallWalks) → f (walk_scope s calls) ≡ g (walk_scope s calls)) → GoesOnBy s a b f → GoesOnBy s a b g
  goes_here {a} same p = record { by = λ calls tells. p.by calls tells ∙ ap (λ go. walked_on go (told (locations_of s) a)) (same calls) }

  -- an expression, by its tree
  pub expression_as : {a b : RecordedWalk} (place : Place) {e x : TypedExpression} → e ≡ x → GoesOnBy s a b (λ w. walk_expression w x place) → GoesOnBy s a b (λ w. walk_expression w e place)
  expression_as place is p = goes_here (λ calls. ap (λ y. walk_expression (walk_scope s calls) y place) (sym is)) p

  -- the same, by what is equal
  pub gone_by : {A : Type 0} {a b : RecordedWalk} (of : A → Part) (x y : A) → x ≡ y → GoesOnBy s a b (of x) → GoesOnBy s a b (of y)
  gone_by of x y is p = goes_here (λ calls. ap (λ z. of z (walk_scope s calls)) is) p

  pub expression_by : {a b : RecordedWalk} (place : Place) {x y : code_expression.Expression} → x ≡ y → GoesOnBy s a b (λ w. walk_expression w (typed_expression x) place)
      → GoesOnBy s a b (λ w. walk_expression w (typed_expression y) place)
  expression_by place is p = goes_here (λ calls. ap (λ e. walk_expression (walk_scope s calls) (typed_expression e) place) is) p

  -- ---- items in order

  pub leaves_whole : (a : RecordedWalk) (f : Part) → LeavesToGoOn s a a f f
  leaves_whole a f = record { by = λ calls tells. refl }

  -- a part of several, so that the others are left
  pub leaves_others : {a b : RecordedWalk} {f : Part} (left : Part) → GoesOnBy s a b f → LeavesToGoOn s a b left (λ w d. then_walk (f w d) (left w))
  leaves_others {a} {b} {f} left p = record {
    by = λ calls tells.
        let w = walk_scope s calls in ap (λ t. walked_on (left w) t) (p.by calls tells) ∙ sym (walked_twice (f w) (left w) (told (locations_of s) a));
  }

  -- the same, of parts that go so in this scope
  pub leaves_here : {a b : RecordedWalk} {f g whole : Part} → ((calls : CallWalks) → f (walk_scope s calls) ≡ g (walk_scope s calls)) → LeavesToGoOn s a b f whole → LeavesToGoOn s a b g whole
  leaves_here {a} {b} same p = record { by = λ calls tells. ap (λ go. walked_on go (told (locations_of s) b)) (sym (same calls)) ∙ p.by calls tells }

  pub leaves_same : {a b : RecordedWalk} {f g left : Part} → ((calls : CallWalks) → f (walk_scope s calls) ≡ g (walk_scope s calls)) → LeavesToGoOn s a b left f → LeavesToGoOn s a b left g
  leaves_same {a} same p = record { by = λ calls tells. p.by calls tells ∙ ap (λ go. walked_on go (told (locations_of s) a)) (same calls) }

  -- some parts, and then further ones
  pub leaves_next : {a b c : RecordedWalk} {left mid whole : Part} → LeavesToGoOn s a b mid whole → LeavesToGoOn s b c left mid → LeavesToGoOn s a c left whole
  leaves_next p q = record { by = λ calls tells. q.by calls tells ∙ p.by calls tells }

  -- the first one of items in order
  pub item_gone : {X : Type 0} {a b c : RecordedWalk} {whole : Part} (of : List X → Part) (items rest : List X) (x : X) → items ≡ x ∷ rest
      → LeavesToGoOn s a b (of items) whole → LeavesToGoOn s b c (of rest) (of (x ∷ rest)) → LeavesToGoOn s a c (of rest) whole
  item_gone of items rest x is p q = leaves_next (leaves_here (λ calls. ap (λ l. of l (walk_scope s calls)) is) p) q

  -- past the last one
  pub none_left : {X : Type 0} {a b : RecordedWalk} {whole : Part} (of : List X → Part) (items : List X) → items ≡ [] → of [] ≡ (λ w d. GoesOn d) → LeavesToGoOn s a b (of items) whole → GoesOnBy s a b whole
  none_left {X} {a} {b} of items is none p = record {
    by = λ calls tells.
        sym (ap (λ (go : Part). walked_on (go (walk_scope s calls)) (told (locations_of s) b)) (ap of is ∙ none) ∙ nothing_walked (told (locations_of s) b)) ∙ p.by calls tells;
  }

  -- ---- reads

  -- one read, of a location that is this one
  pub read_one : {a b : RecordedWalk} (place : Place) {at x : Location} → at ≡ x → GoesOnBy s a b (λ w. read_location place at) → GoesOnBy s a b (λ w. read_locations place (x ∷ []))
  read_one {a} {b} place {at} {x} is p =
      goes_both {f = λ w. read_location place x} {g = λ w d. GoesOn d} (goes_here (λ calls. ap (λ l. read_location place l) is) p) (goes_nowhere b)

  -- one list of reads and then another
  pub read_lists : {a b c : RecordedWalk} (place : Place) (xs ys : List Location) → GoesOnBy s a b (λ w. read_locations place xs) → GoesOnBy s b c (λ w. read_locations place ys)
      → GoesOnBy s a c (λ w. read_locations place (xs ++ ys))
  read_lists place xs ys p q = goes_here (λ calls. sym (reads_both place xs ys)) (goes_both p q)

  -- what the first one of items reads
  pub reads_gone : {X : Type 0} {a b c : RecordedWalk} {whole : Part} (place : Place) (one : X → List Location) (all : List X → List Location) → ((x : X) (xs : List X) → all (x ∷ xs) ≡ one x ++ all xs)
      → (items rest : List X) (x : X) → items ≡ x ∷ rest → LeavesToGoOn s a b (λ w. read_locations place (all items)) whole → GoesOnBy s b c (λ w. read_locations place (one x))
      → LeavesToGoOn s a c (λ w. read_locations place (all rest)) whole
  reads_gone place one all step items rest x is p q =
      item_gone (λ l w. read_locations place (all l)) items rest x is p
      (leaves_same (λ calls. sym (reads_both place (one x) (all rest)) ∙ ap (λ l. read_locations place l) (sym (step x rest))) (leaves_others (λ w. read_locations place (all rest)) q))

  -- one location is made clean, which is this one
  pub clean_one : {a b : RecordedWalk} {at x : Location} → at ≡ x → GoesOnBy s a b (λ w d. GoesOn (all_cleaned (at ∷ []) d)) → GoesOnBy s a b (λ w d. GoesOn (all_cleaned (x ∷ []) d))
  clean_one is p = gone_by (λ at w d. GoesOn (all_cleaned (at ∷ []) d)) _ _ is p

  -- one list of locations is made clean and then another
  pub clean_lists : {a b c : RecordedWalk} (xs ys : List Location) → GoesOnBy s a b (λ w d. GoesOn (all_cleaned xs d)) → GoesOnBy s b c (λ w d. GoesOn (all_cleaned ys d))
      → GoesOnBy s a c (λ w d. GoesOn (all_cleaned (xs ++ ys) d))
  clean_lists xs ys p q = goes_here (λ calls. λ i d. GoesOn (sym (cleans_both xs ys d) i)) (goes_both p q)

  -- what the first one of items makes clean
  pub cleans_gone : {X : Type 0} {a b c : RecordedWalk} {whole : Part} (one : X → List Location) (all : List X → List Location) → ((x : X) (xs : List X) → all (x ∷ xs) ≡ one x ++ all xs)
      → (items rest : List X) (x : X) → items ≡ x ∷ rest → LeavesToGoOn s a b (λ w d. GoesOn (all_cleaned (all items) d)) whole → GoesOnBy s b c (λ w d. GoesOn (all_cleaned (one x) d))
      → LeavesToGoOn s a c (λ w d. GoesOn (all_cleaned (all rest) d)) whole
  cleans_gone one all step items rest x is p q =
      item_gone (λ l w d. GoesOn (all_cleaned (all l) d)) items rest x is p
      (leaves_same (λ calls. λ i d. GoesOn ((sym (cleans_both (one x) (all rest) d) ∙ ap (λ l. all_cleaned l d) (sym (step x rest))) i)) (leaves_others (λ w d. GoesOn (all_cleaned (all rest) d)) q))

  -- ---- statements

  -- a statement that only goes on
  pub goes_past : {a b : RecordedWalk} {f : Part} → GoesOnBy s a b f → GoesPastBy s a b (λ w d. then_walk (f w d) (λ x. GoesOn (way_on x)))
  goes_past {a} {b} {f} p = record { by = λ calls tells. p.by calls tells ∙ sym (passed_on (f (walk_scope s calls)) (told (locations_of s) a)) }

  pub goes_past_nothing : (a : RecordedWalk) → GoesPastBy s a a (λ w d. GoesOn (way_on d))
  goes_past_nothing a = record { by = λ calls tells. sym (nothing_passed (told (locations_of s) a)) }

  -- a statement that begins with a part
  pub goes_then_past : {a b c : RecordedWalk} {f : Part} {g : Whole} → GoesOnBy s a b f → GoesPastBy s b c g → GoesPastBy s a c (λ w d. then_walk (f w d) (g w))
  goes_then_past {a} {b} {c} {f} {g} p q = record {
    by = λ calls tells.
        let w = walk_scope s calls in
        q.by calls tells ∙ ap (λ t. walked_past (g w) t) (p.by calls tells) ∙ sym (passed_then (f w) (g w) (told (locations_of s) a));
  }

  -- the same, by statements that go so in this scope
  pub passes_here : {a b : RecordedWalk} {f g : Whole} → ((calls : CallWalks) → f (walk_scope s calls) ≡ g (walk_scope s calls)) → GoesPastBy s a b f → GoesPastBy s a b g
  passes_here {a} same p = record { by = λ calls tells. p.by calls tells ∙ ap (λ go. walked_past go (told (locations_of s) a)) (same calls) }

  -- a statement, by its tree
  pub statement_as : {a b : RecordedWalk} {e x : TypedStatement} → e ≡ x → GoesPastBy s a b (λ w. walk w x) → GoesPastBy s a b (λ w. walk w e)
  statement_as is p = passes_here (λ calls. ap (λ y. walk (walk_scope s calls) y) (sym is)) p

  -- the same, by what is equal
  pub passed_by : {A : Type 0} {a b : RecordedWalk} (of : A → Whole) (x y : A) → x ≡ y → GoesPastBy s a b (of x) → GoesPastBy s a b (of y)
  passed_by of x y is p = passes_here (λ calls. ap (λ z. of z (walk_scope s calls)) is) p

  pub passes_whole : (a : RecordedWalk) (f : Whole) → LeavesToPass s a a f f
  passes_whole a f = record { by = λ calls tells. refl }

  -- a statement, so that those that follow it are left
  pub passes_others : {a b : RecordedWalk} {f : Whole} (left : Whole) → GoesPastBy s a b f
      → LeavesToPass s a b left (λ w d. then_walk (f w d) (λ x. then_walk (left w x.onward) (λ y. GoesOn (ways_past x y))))
  passes_others {a} {b} {f} left p = record {
    by = λ calls tells.
        let w = walk_scope s calls in ap (λ t. walked_past (left w) t) (p.by calls tells) ∙ sym (passed_next (f w) (left w) (told (locations_of s) a));
  }

  -- the first one of statements in order
  pub statement_gone : {X : Type 0} {a b c : RecordedWalk} {whole : Whole} (of : List X → Whole) (items rest : List X) (x : X) → items ≡ x ∷ rest
      → LeavesToPass s a b (of items) whole → LeavesToPass s b c (of rest) (of (x ∷ rest)) → LeavesToPass s a c (of rest) whole
  statement_gone {X} {a} {b} of items rest x is p q = record {
    by = λ calls tells. q.by calls tells ∙ ap (λ l. walked_past (of l (walk_scope s calls)) (told (locations_of s) b)) (sym is) ∙ p.by calls tells;
  }

  -- past the last one
  pub none_to_pass : {X : Type 0} {a b : RecordedWalk} {whole : Whole} (of : List X → Whole) (items : List X) → items ≡ [] → of [] ≡ (λ w d. GoesOn (way_on d)) → LeavesToPass s a b (of items) whole → GoesPastBy s a b whole
  none_to_pass {X} {a} {b} of items is none p = record {
    by = λ calls tells.
        sym (ap (λ (go : Whole). walked_past (go (walk_scope s calls)) (told (locations_of s) b)) (ap of is ∙ none) ∙ nothing_passed (told (locations_of s) b)) ∙ p.by calls tells;
  }
