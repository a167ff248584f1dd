-- What deeds may call, by numbers.
use Rattle.std.proofs.Common.{◌≡◌, ℕ, zero, suc, Bool, true, false, true≢false, List, [], ◌∷◌, ◌++◌, Option, Some, None, option_map, refl, sym, ap, ◌∙◌, append-nil}
use Rattle.std.proofs.lemmas.Bool.Decides.{Decides-eqb}
use Rattle.std.proofs.lemmas.Grind.{flat_map-append}
use Rattle.std.proofs.lemmas.Option.{slice_get-map}
use Rattle.std.specs.Prelude.{◌+◌, ◌&&◌, ◌||◌, ◌==◌, if◌then◌else◌, flat_map, fold, slice_get}
use Rattle.ds2_meaning.specs.declared.location.Global.TheVariants.{Named}
use Rattle.ds2_meaning.specs.HashObjects.{object_at}
use Rattle.ds2_value.specs.declared.fault.TheConstants.{CALL_DEPTH}
use Rattle.ds2_meaning.specs.Location.{Home, is_same_home, is_same_global, Location}
use Rattle.ds2_meaning.specs.ProgramTree.{UnitTree}
use Rattle.ds2_locality.specs.Deeds.{MethodAt, is_same_method, Deed, Mention, MentionObject, Change, CallOf, WriteAt, method_deeds, methods_called, is_among_methods, with_method, reached_from, may_be_called, with_callees}
use Rattle.ds2_locality.proofs.Frame.{both, home_is}
use Rattle.ds2_locality.proofs.Near.{location_self}
use Rattle.ds2_deeds.specs.declared.deed.NumberedDeed.{NumberedDeed}
use Rattle.ds2_deeds.specs.declared.deed.NumberedDeed.TheVariants as numbered
use Rattle.ds2_deeds.specs.CallsByNumber.{program_numbers, all_by_number, rounds_of_calls}
use Rattle.ds2_deeds.specs.NamedMethods.{number_among_methods, methods_in_order}
use Rattle.ds2_deeds.specs.NumberedCalls.{number_called, numbers_called, is_one_of_numbers, with_numbers, deeds_or_none, deeds_numbered, numbers_reached, may_call, with_called}
use Rattle.ds2_deeds.specs.NumberedDeeds.{ProgramNumbers, deed_if_numbered, numbered_deed, numbered_deeds}
use Rattle.ds2_deeds.proofs.NumberLemmas.{some_is}
use Rattle.ds2_deeds.proofs.RoundLemmas.{with_both}
use Rattle.ds2_deeds.proofs.MethodsThere.{others_do_nothing, methods_counted}

-- ---- numbers of methods

method_is : (a b : MethodAt) → is_same_method a b ≡ true → a ≡ b
method_is a b e =
    let parts = both (is_same_home a.home b.home) (a.number == b.number) e in
    ap (λ (h : Home). record { home = h; number = a.number }) (home_is a.home b.home parts.0) ∙ ap (λ (n : ℕ). record { home = b.home; number = n }) ((Decides-eqb a.number b.number).0 parts.1)

method_self : (m : MethodAt) → is_same_method m m ≡ true
method_self m =
    let home = (both (is_same_home m.home m.home) (is_same_global (Named []) (Named [])) (location_self (object_at m.home []))).0 in
    ap (λ b. b && (m.number == m.number)) home ∙ (Decides-eqb m.number m.number).1 refl

-- the method of its number is a method itself
method_next : (m x : MethodAt) (ms : List MethodAt) (b : Bool) (n : ℕ) → is_same_method m x ≡ b → ((k : ℕ) → number_among_methods ms m ≡ Some k → slice_get ms k ≡ Some m)
    → (if b then Some 0 else option_map (λ k. suc k) (number_among_methods ms m)) ≡ Some n → slice_get (x ∷ ms) n ≡ Some m
method_next m x ms true n same later e = ap (λ k. slice_get (x ∷ ms) k) (sym (some_is zero n e)) ∙ ap (λ y. Some y) (sym (method_is m x same))
method_next m x ms false n same later e = of_later (number_among_methods ms m) refl e
  where
    of_later : (o : Option ℕ) → number_among_methods ms m ≡ o → option_map (λ k. suc k) o ≡ Some n → slice_get (x ∷ ms) n ≡ Some m
    of_later None f e = absurd cc
    of_later (Some k) f e = ap (λ j. slice_get (x ∷ ms) j) (sym (some_is (suc k) n e)) ∙ later k f

pub method_numbered : (ms : List MethodAt) (m : MethodAt) (n : ℕ) → number_among_methods ms m ≡ Some n → slice_get ms n ≡ Some m
method_numbered [] m n e = absurd cc
method_numbered (x ∷ ms) m n e = method_next m x ms (is_same_method m x) n refl (λ k f. method_numbered ms m k f) e

-- a number as a list
abbrev pub number_list : Option ℕ → List ℕ
number_list None = []
number_list (Some n) = n ∷ []

module _ (n : ProgramNumbers) where
  -- the numbers of methods, of those that have one
  abbrev pub numbers_of_methods : List MethodAt → List ℕ
  numbers_of_methods methods = flat_map (λ m. number_list (number_among_methods n.methods m)) methods

  no_call : (f : ℕ → NumberedDeed) → ((k : ℕ) → number_called (f k) ≡ []) → (o : Option ℕ) → numbers_called (deed_if_numbered f o) ≡ []
  no_call f h None = refl
  no_call f h (Some k) = ap (λ l. l ++ []) (h k)

  a_call : (o : Option ℕ) → numbers_called (deed_if_numbered (λ k. numbered.Call k) o) ≡ number_list o
  a_call None = refl
  a_call (Some k) = refl

  -- the methods that deeds call
  pub calls_numbered : (deeds : List Deed) → numbers_called (numbered_deeds n deeds) ≡ numbers_of_methods (methods_called deeds)
  calls_numbered [] = refl
  calls_numbered (Mention at ∷ deeds) =
      flat_map-append number_called (numbered_deed n (Mention at)) (numbered_deeds n deeds) ∙ ap (λ l. l ++ numbers_called (numbered_deeds n deeds)) (no_call (λ k. numbered.Mention k) (λ k. refl) _) ∙ calls_numbered deeds
  calls_numbered (MentionObject at ∷ deeds) =
      flat_map-append number_called (numbered_deed n (MentionObject at)) (numbered_deeds n deeds) ∙ ap (λ l. l ++ numbers_called (numbered_deeds n deeds)) (no_call (λ k. numbered.Mention k) (λ k. refl) _) ∙ calls_numbered deeds
  calls_numbered (Change at ∷ deeds) =
      flat_map-append number_called (numbered_deed n (Change at)) (numbered_deeds n deeds) ∙ ap (λ l. l ++ numbers_called (numbered_deeds n deeds)) (no_call (λ k. numbered.Change k) (λ k. refl) _) ∙ calls_numbered deeds
  calls_numbered (CallOf m ∷ deeds) =
      flat_map-append number_called (numbered_deed n (CallOf m)) (numbered_deeds n deeds) ∙ ap (λ l. l ++ numbers_called (numbered_deeds n deeds)) (a_call (number_among_methods n.methods m))
      ∙ ap (λ l. number_list (number_among_methods n.methods m) ++ l) (calls_numbered deeds)
  calls_numbered (WriteAt place ∷ deeds) = calls_numbered deeds

  -- ---- one method more

  -- another method has another number
  other_number : (m x : MethodAt) (k j : ℕ) → number_among_methods n.methods m ≡ Some k → number_among_methods n.methods x ≡ Some j → is_same_method m x ≡ false → (b : Bool) → (j == k) ≡ b → b ≡ false
  other_number m x k j hm hx apart true e =
      let there : Some m ≡ Some x = sym (method_numbered n.methods m k hm) ∙ ap (λ i. slice_get n.methods i) (sym ((Decides-eqb j k).0 e)) ∙ method_numbered n.methods x j hx in
      absurd (true≢false (sym (method_self m) ∙ ap (λ y. is_same_method m y) (some_is m x there) ∙ apart))
  other_number m x k j hm hx apart false e = refl

  -- a method with a number is among methods where its number is among theirs
  among_next : (m x : MethodAt) (k : ℕ) (rest : Bool) (numbers : List ℕ) → number_among_methods n.methods m ≡ Some k → rest ≡ is_one_of_numbers numbers k → (b : Bool) → is_same_method m x ≡ b
      → (o : Option ℕ) → number_among_methods n.methods x ≡ o → (b || rest) ≡ is_one_of_numbers (number_list o ++ numbers) k
  among_next m x k rest numbers hm h true same None hx =
      let is : Some k ≡ None = sym hm ∙ ap (λ y. number_among_methods n.methods y) (method_is m x same) ∙ hx in absurd cc
  among_next m x k rest numbers hm h true same (Some j) hx =
      let is : k ≡ j = some_is k j (sym hm ∙ ap (λ y. number_among_methods n.methods y) (method_is m x same) ∙ hx) in
      sym (ap (λ b. b || is_one_of_numbers numbers k) ((Decides-eqb j k).1 (sym is)))
  among_next m x k rest numbers hm h false same None hx = h
  among_next m x k rest numbers hm h false same (Some j) hx =
      h ∙ sym (ap (λ b. b || is_one_of_numbers numbers k) (other_number m x k j hm hx same (j == k) refl))

  pub among_numbered : (m : MethodAt) (k : ℕ) → number_among_methods n.methods m ≡ Some k → (methods : List MethodAt) → is_among_methods m methods ≡ is_one_of_numbers (numbers_of_methods methods) k
  among_numbered m k hm [] = refl
  among_numbered m k hm (x ∷ methods) =
      among_next m x k (is_among_methods m methods) (numbers_of_methods methods) hm (among_numbered m k hm methods) (is_same_method m x) refl (number_among_methods n.methods x) refl

  -- one method more
  one_numbered : (methods : List MethodAt) (m : MethodAt) (o : Option ℕ) → number_among_methods n.methods m ≡ o → (b : Bool) → is_among_methods m methods ≡ b
      → numbers_of_methods (if b then methods else methods ++ m ∷ []) ≡ with_numbers (numbers_of_methods methods) (number_list o)
  one_numbered methods m None hm true h = refl
  one_numbered methods m None hm false h =
      flat_map-append (λ x. number_list (number_among_methods n.methods x)) methods (m ∷ []) ∙ ap (λ o. numbers_of_methods methods ++ (number_list o ++ [])) hm ∙ append-nil (numbers_of_methods methods)
  one_numbered methods m (Some k) hm true h =
      ap (λ b. if b then numbers_of_methods methods else numbers_of_methods methods ++ k ∷ []) (sym (sym (among_numbered m k hm methods) ∙ h))
  one_numbered methods m (Some k) hm false h =
      flat_map-append (λ x. number_list (number_among_methods n.methods x)) methods (m ∷ []) ∙ ap (λ o. numbers_of_methods methods ++ (number_list o ++ [])) hm
      ∙ ap (λ b. if b then numbers_of_methods methods else numbers_of_methods methods ++ k ∷ []) (sym (sym (among_numbered m k hm methods) ∙ h))

  -- further methods
  pub all_numbered : (methods more : List MethodAt) → numbers_of_methods (fold with_method methods more) ≡ with_numbers (numbers_of_methods methods) (numbers_of_methods more)
  all_numbered methods [] = refl
  all_numbered methods (m ∷ more) =
      all_numbered (with_method methods m) more
      ∙ ap (λ l. with_numbers l (numbers_of_methods more)) (one_numbered methods m (number_among_methods n.methods m) refl (is_among_methods m methods) refl)
      ∙ sym (with_both (numbers_of_methods methods) (number_list (number_among_methods n.methods m)) (numbers_of_methods more))

  -- ---- the deeds of methods

  -- methods without a number do nothing
  abbrev pub OthersDoNothing : UnitTree → Type 0
  OthersDoNothing p = (m : MethodAt) → number_among_methods n.methods m ≡ None → method_deeds p m ≡ []

  deeds_there : (p : UnitTree) (m : MethodAt) (k : ℕ) → number_among_methods n.methods m ≡ Some k → deeds_numbered (all_by_number p n) k ≡ numbered_deeds n (method_deeds p m)
  deeds_there p m k h =
      ap (λ o. deeds_or_none o) (slice_get-map (λ x. numbered_deeds n (method_deeds p x)) n.methods k ∙ ap (λ o. option_map (λ x. numbered_deeds n (method_deeds p x)) o) (method_numbered n.methods m k h))

  -- what one method does, by its number
  deeds_by : (p : UnitTree) → OthersDoNothing p → (m : MethodAt) (o : Option ℕ) → number_among_methods n.methods m ≡ o → numbered_deeds n (method_deeds p m) ≡ flat_map (deeds_numbered (all_by_number p n)) (number_list o)
  deeds_by p others m None h = ap (λ l. numbered_deeds n l) (others m h)
  deeds_by p others m (Some k) h = sym (append-nil (deeds_numbered (all_by_number p n) k) ∙ deeds_there p m k h)

  -- what methods do
  pub deeds_of_all : (p : UnitTree) → OthersDoNothing p → (methods : List MethodAt)
      → numbered_deeds n (flat_map (method_deeds p) methods) ≡ flat_map (deeds_numbered (all_by_number p n)) (numbers_of_methods methods)
  deeds_of_all p others [] = refl
  deeds_of_all p others (m ∷ methods) =
      flat_map-append (numbered_deed n) (method_deeds p m) (flat_map (method_deeds p) methods)
      ∙ ap (λ l. l ++ numbered_deeds n (flat_map (method_deeds p) methods)) (deeds_by p others m (number_among_methods n.methods m) refl)
      ∙ ap (λ l. flat_map (deeds_numbered (all_by_number p n)) (number_list (number_among_methods n.methods m)) ++ l) (deeds_of_all p others methods)
      ∙ sym (flat_map-append (deeds_numbered (all_by_number p n)) (number_list (number_among_methods n.methods m)) (numbers_of_methods methods))

  -- ---- what may be called

  -- the methods that one method calls, by its number
  calls_by : (p : UnitTree) → OthersDoNothing p → (m : MethodAt) (o : Option ℕ) → number_among_methods n.methods m ≡ o
      → numbers_of_methods (methods_called (method_deeds p m)) ≡ flat_map (λ k. numbers_called (deeds_numbered (all_by_number p n) k)) (number_list o)
  calls_by p others m None h = ap (λ deeds. numbers_of_methods (methods_called deeds)) (others m h)
  calls_by p others m (Some k) h =
      sym (append-nil (numbers_called (deeds_numbered (all_by_number p n) k)) ∙ ap (λ deeds. numbers_called deeds) (deeds_there p m k h) ∙ calls_numbered (method_deeds p m))

  calls_of_all : (p : UnitTree) → OthersDoNothing p → (methods : List MethodAt)
      → numbers_of_methods (flat_map (λ m. methods_called (method_deeds p m)) methods) ≡ flat_map (λ k. numbers_called (deeds_numbered (all_by_number p n) k)) (numbers_of_methods methods)
  calls_of_all p others [] = refl
  calls_of_all p others (m ∷ methods) =
      let calls = λ (k : ℕ). numbers_called (deeds_numbered (all_by_number p n) k) in
      flat_map-append (λ x. number_list (number_among_methods n.methods x)) (methods_called (method_deeds p m)) (flat_map (λ x. methods_called (method_deeds p x)) methods)
      ∙ ap (λ l. l ++ numbers_of_methods (flat_map (λ x. methods_called (method_deeds p x)) methods)) (calls_by p others m (number_among_methods n.methods m) refl)
      ∙ ap (λ l. flat_map calls (number_list (number_among_methods n.methods m)) ++ l) (calls_of_all p others methods)
      ∙ sym (flat_map-append calls (number_list (number_among_methods n.methods m)) (numbers_of_methods methods))

  -- methods and those that they call, calls so many deep
  pub reached_numbered : (p : UnitTree) → OthersDoNothing p → (rounds : ℕ) (methods : List MethodAt)
      → numbers_of_methods (reached_from p rounds methods) ≡ numbers_reached (all_by_number p n) rounds (numbers_of_methods methods)
  reached_numbered p others zero methods = refl
  reached_numbered p others (suc rounds) methods =
      let called = flat_map (λ m. methods_called (method_deeds p m)) methods in
      reached_numbered p others rounds (fold with_method methods called)
      ∙ ap (λ l. numbers_reached (all_by_number p n) rounds l) (all_numbered methods called ∙ ap (λ l. with_numbers (numbers_of_methods methods) l) (calls_of_all p others methods))

module _ (p : UnitTree) (locations : List Location) where
  -- the methods that deeds may call
  called_numbered : (own : List Deed)
      → may_call (all_by_number p (program_numbers p locations)) (rounds_of_calls p) (numbered_deeds (program_numbers p locations) own)
      ≡ numbers_of_methods (program_numbers p locations) (may_be_called p own)
  called_numbered own =
      let n = program_numbers p locations in
      let all = all_by_number p n in
      let first = fold with_method [] (methods_called own) in
      ap (λ l. numbers_reached all (rounds_of_calls p) (with_numbers [] l)) (calls_numbered n own)
      ∙ ap (λ l. numbers_reached all (rounds_of_calls p) l) (sym (all_numbered n [] (methods_called own)))
      ∙ sym (reached_numbered n p (others_do_nothing p) (rounds_of_calls p) first)
      ∙ ap (λ k. numbers_of_methods n (reached_from p (k + CALL_DEPTH) first)) (methods_counted p)

  pub callees_numbered : (own : List Deed)
      → with_called (all_by_number p (program_numbers p locations)) (rounds_of_calls p) (numbered_deeds (program_numbers p locations) own)
      ≡ numbered_deeds (program_numbers p locations) (with_callees p own)
  callees_numbered own =
      let n = program_numbers p locations in
      let all = all_by_number p n in
      let called = may_be_called p own in
      ap (λ l. numbered_deeds n own ++ flat_map (deeds_numbered all) l) (called_numbered own)
      ∙ ap (λ l. numbered_deeds n own ++ l) (sym (deeds_of_all n p (others_do_nothing p) called))
      ∙ sym (flat_map-append (numbered_deed n) own (flat_map (method_deeds p) called))

  pub reached_among : (own : List Deed) (m : MethodAt) (k : ℕ) → number_among_methods (methods_in_order p) m ≡ Some k
      → is_one_of_numbers (may_call (all_by_number p (program_numbers p locations)) (rounds_of_calls p) (numbered_deeds (program_numbers p locations) own)) k ≡ is_among_methods m (may_be_called p own)
  reached_among own m k e =
      ap (λ l. is_one_of_numbers l k) (called_numbered own) ∙ sym (among_numbered (program_numbers p locations) m k e (may_be_called p own))
