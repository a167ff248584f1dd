-- What may be called, by numbers, and methods that are not there.
use Rattle.std.proofs.Common.{◌≡◌, ℕ, zero, suc, ◌+◌, ◌<◌, Bool, true, false, true≢false, List, [], ◌∷◌, length, map, Option, Some, None, option_map, refl, sym, ap, ◌∙◌, arith}
use Rattle.std.specs.List.{list_any, filter, range_with_len}
use Rattle.std.specs.Prelude.{◌&&◌, ◌||◌, ◌==◌, bytes_eq, if◌then◌else◌, flat_map, slice_get}
use Rattle.std.proofs.lemmas.Bool.{or_parts}
use Rattle.std.proofs.lemmas.Bool.Decides.{Decides-eqb}
use Rattle.std.proofs.lemmas.List.{length-append}
use Rattle.std.proofs.lemmas.List.Folds.{list_any-append}
use Rattle.std.proofs.lemmas.List.FromFn.{length-map-range_with_len}
use Rattle.std.proofs.lemmas.Option.{slice_get_within}
use Rattle.std.proofs.lemmas.Slice.Eq.{bytes_eq-Decides}
use Rattle.ds2_value.specs.declared.fault.TheConstants.{CALL_DEPTH}
use Rattle.ds2_base.specs.declared.place.Place.{Place}
use Rattle.ds2_meaning.specs.Location.{Home, is_same_home, Location}
use Rattle.ds2_meaning.specs.ProgramTree.{InstanceTree, UnitTree, instance_methods, methods_of}
use Rattle.ds2_program_code.specs.PlacedProgram.{number_of_first}
use Rattle.ds2_locality.specs.Deeds.{MethodAt, is_same_method, deeds_of_method, method_deeds, is_among_methods, reached_from, number_of_methods, may_be_called, with_callees, mentions_location}
use Rattle.ds2_locality.specs.Verdict.{JudgedThread, locations_in_order, is_on_cycle, read_on_cycle, walk_body, walk_method}
use Rattle.ds2_locality.specs.Walk.{DirtySet, GoesOn, read_locations}
use Rattle.ds2_local.proofs.FirstLemmas.{method_of}
use Rattle.ds2_deeds.specs.NamedMethods.{number_among_methods, home_methods, methods_in_order}

-- ---- how many methods there are

pub methods_counted : (p : UnitTree) → length (methods_in_order p) ≡ number_of_methods p
methods_counted p =
    length-append (home_methods None (length p.methods)) (flat_map (λ (i : InstanceTree). home_methods (Some i.name) (length i.methods)) p.instances)
    ∙ ap (λ k. k + length (flat_map (λ (i : InstanceTree). home_methods (Some i.name) (length i.methods)) p.instances)) (length-map-range_with_len (method_of None) 0 (length p.methods))
    ∙ ap (λ k. length p.methods + k) (of_instances p.instances)
  where
    of_instances : (instances : List InstanceTree)
        → length (flat_map (λ (i : InstanceTree). home_methods (Some i.name) (length i.methods)) instances) ≡ length (flat_map (λ (i : InstanceTree). i.methods) instances)
    of_instances [] = refl
    of_instances (i ∷ instances) =
        length-append (home_methods (Some i.name) (length i.methods)) (flat_map (λ (x : InstanceTree). home_methods (Some x.name) (length x.methods)) instances)
        ∙ ap (λ k. k + length (flat_map (λ (x : InstanceTree). home_methods (Some x.name) (length x.methods)) instances)) (length-map-range_with_len (method_of (Some i.name)) 0 (length i.methods))
        ∙ ap (λ k. length i.methods + k) (of_instances instances) ∙ sym (length-append i.methods (flat_map (λ (x : InstanceTree). x.methods) instances))

-- ---- methods that are not there

any_next : (b : Bool) (o : Option ℕ) (rest : Bool) → (if b then Some 0 else option_map (λ k. suc k) o) ≡ None → (o ≡ None → rest ≡ false) → (b || rest) ≡ false
any_next true o rest e later = absurd cc
any_next false None rest e later = later refl
any_next false (Some k) rest e later = absurd cc

any_unnumbered : {A : Type 0} (test : A → Bool) (xs : List A) → number_of_first test xs ≡ None → list_any test xs ≡ false
any_unnumbered test [] e = refl
any_unnumbered test (x ∷ xs) e = any_next (test x) (number_of_first test xs) (list_any test xs) e (λ f. any_unnumbered test xs f)

none_mapped : {A B : Type 0} (test : B → Bool) (f : A → B) (xs : List A) → list_any test (map f xs) ≡ false → list_any (λ x. test (f x)) xs ≡ false
none_mapped test f [] e = refl
none_mapped test f (x ∷ xs) e =
    let parts = or_parts (test (f x)) (list_any test (map f xs)) e in ap (λ b. b || list_any (λ y. test (f y)) xs) parts.0 ∙ none_mapped test f xs parts.1

none_in_range : (test : ℕ → Bool) (from count k : ℕ) → k < count → list_any test (range_with_len from count) ≡ false → test (from + k) ≡ false
none_in_range test from zero k lt e = absurd (omega (arith, lt))
none_in_range test from (suc count) zero lt e =
    let here : from + zero ≡ from = omega arith in ap test here ∙ (or_parts (test from) (list_any test (range_with_len (from + 1) count)) e).0
none_in_range test from (suc count) (suc k) lt e =
    let there : from + suc k ≡ from + 1 + k = omega arith in
    let less : k < count = omega (arith, lt) in
    ap test there ∙ none_in_range test (from + 1) count k less (or_parts (test from) (list_any test (range_with_len (from + 1) count)) e).1

both_true : (a b : Bool) → a ≡ true → b ≡ true → (a && b) ≡ true
both_true true b e f = f
both_true false b e f = absurd (true≢false (sym e))

-- a method of a home with so many of them is among these
not_below : (m : MethodAt) (home : Home) (count : ℕ) → is_same_home m.home home ≡ true → list_any (is_same_method m) (home_methods home count) ≡ false → m.number < count → ⊥
not_below m home count same e lt =
    let other = none_in_range (λ number. is_same_method m (method_of home number)) 0 count m.number lt
    (none_mapped (is_same_method m) (method_of home) (range_with_len 0 count) e) in
    let here : 0 + m.number ≡ m.number = omega arith in
    true≢false (sym (both_true (is_same_home m.home home) (m.number == (0 + m.number)) same ((Decides-eqb m.number (0 + m.number)).1 (sym here))) ∙ other)

none_there : {A : Type 0} (xs : List A) (k : ℕ) (o : Option A) → slice_get xs k ≡ o → (k < length xs → ⊥) → o ≡ None
none_there xs k None e h = refl
none_there xs k (Some x) e h = absurd (h (slice_get_within xs k x e))

module _ (m : MethodAt) where
  instance_none : (name : List ℕ) (instances : List InstanceTree) → m.home ≡ Some name
      → list_any (is_same_method m) (flat_map (λ (i : InstanceTree). home_methods (Some i.name) (length i.methods)) instances) ≡ false → slice_get (instance_methods instances name) m.number ≡ None
  instance_none name [] is e = refl
  instance_none name (i ∷ instances) is e =
      let rest = flat_map (λ (x : InstanceTree). home_methods (Some x.name) (length x.methods)) instances in
      let parts = or_parts (list_any (is_same_method m) (home_methods (Some i.name) (length i.methods))) (list_any (is_same_method m) rest)
      (sym (list_any-append (is_same_method m) (home_methods (Some i.name) (length i.methods)) rest) ∙ e) in
      by_name (bytes_eq i.name name) refl parts.0 (instance_none name instances is parts.1)
    where
      by_name : (b : Bool) → bytes_eq i.name name ≡ b → list_any (is_same_method m) (home_methods (Some i.name) (length i.methods)) ≡ false
          → slice_get (instance_methods instances name) m.number ≡ None → slice_get (if b then i.methods else instance_methods instances name) m.number ≡ None
      by_name true same here later =
          let one : i.name ≡ name = (bytes_eq-Decides i.name name).0 same in
          let home : is_same_home m.home (Some i.name) ≡ true = ap (λ h. is_same_home h (Some i.name)) (is ∙ ap (λ x. Some x) (sym one)) ∙ (bytes_eq-Decides i.name i.name).1 refl in
          none_there i.methods m.number (slice_get i.methods m.number) refl (not_below m (Some i.name) (length i.methods) home here)
      by_name false same here later = later

  home_none : (p : UnitTree) (home : Home) → m.home ≡ home → list_any (is_same_method m) (methods_in_order p) ≡ false → slice_get (methods_of p home) m.number ≡ None
  home_none p None is e =
      let rest = flat_map (λ (x : InstanceTree). home_methods (Some x.name) (length x.methods)) p.instances in
      let parts = or_parts (list_any (is_same_method m) (home_methods None (length p.methods))) (list_any (is_same_method m) rest)
      (sym (list_any-append (is_same_method m) (home_methods None (length p.methods)) rest) ∙ e) in
      none_there p.methods m.number (slice_get p.methods m.number) refl (not_below m None (length p.methods) (ap (λ h. is_same_home h None) is) parts.0)
  home_none p (Some name) is e =
      let rest = flat_map (λ (x : InstanceTree). home_methods (Some x.name) (length x.methods)) p.instances in
      let parts = or_parts (list_any (is_same_method m) (home_methods None (length p.methods))) (list_any (is_same_method m) rest)
      (sym (list_any-append (is_same_method m) (home_methods None (length p.methods)) rest) ∙ e) in
      instance_none name p.instances is parts.1

-- a method without a number is not there
pub none_numbered : (p : UnitTree) (m : MethodAt) → number_among_methods (methods_in_order p) m ≡ None → slice_get (methods_of p m.home) m.number ≡ None
none_numbered p m e = home_none m p m.home refl (any_unnumbered (is_same_method m) (methods_in_order p) e)

-- ---- its walk

none_reached : (p : UnitTree) (rounds : ℕ) → reached_from p rounds [] ≡ []
none_reached p zero = refl
none_reached p (suc rounds) = none_reached p rounds

none_picked : (ls : List Location) → filter (λ at. list_any (mentions_location at) []) ls ≡ []
none_picked [] = refl
none_picked (x ∷ ls) = none_picked ls

nothing_read : (t : JudgedThread) (m : MethodAt) → method_deeds t.program m ≡ [] → (ls : List Location) → filter (λ at. list_any (mentions_location at) (with_callees t.program (method_deeds t.program m))) ls ≡ []
nothing_read t m e ls =
    let p = t.program in
    ap (λ deeds. filter (λ at. list_any (mentions_location at) (with_callees p deeds)) ls) e
    ∙ ap (λ ms. filter (λ at. list_any (mentions_location at) (flat_map (method_deeds p) ms)) ls) (none_reached p (number_of_methods p + CALL_DEPTH)) ∙ none_picked ls

not_on_cycle : (p : UnitTree) (m : MethodAt) → method_deeds p m ≡ [] → is_on_cycle p m ≡ false
not_on_cycle p m e = ap (λ deeds. is_among_methods m (may_be_called p deeds)) e ∙ ap (λ ms. is_among_methods m ms) (none_reached p (number_of_methods p + CALL_DEPTH))

-- the walk of a method that is not there does nothing
pub none_walked : (t : JudgedThread) (known : Location → Bool) (depth : ℕ) (m : MethodAt) (place : Place) (dirty : DirtySet)
    → slice_get (methods_of t.program m.home) m.number ≡ None → walk_method t known depth m place dirty ≡ GoesOn dirty
none_walked t known zero m place dirty e =
    let nothing : method_deeds t.program m ≡ [] = ap (λ o. deeds_of_method t.program m.home o) e in
    ap (λ ls. read_locations place ls dirty) (nothing_read t m nothing (locations_in_order t))
none_walked t known (suc depth) m place dirty e =
    let nothing : method_deeds t.program m ≡ [] = ap (λ o. deeds_of_method t.program m.home o) e in
    ap (λ (b : Bool). if b then read_locations place (read_on_cycle t m) dirty else walk_body t known (walk_method t known depth) m.home (slice_get (methods_of t.program m.home) m.number) place dirty)
    (not_on_cycle t.program m nothing)
    ∙ ap (λ o. walk_body t known (walk_method t known depth) m.home o place dirty) e
