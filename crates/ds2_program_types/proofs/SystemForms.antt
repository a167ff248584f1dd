-- One more method behind the others: one that can be called, or a system method.
use Rattle.std.proofs.Common.{◌≡◌, ℕ, cond, Bool, true, false, ◌||◌, bytes_eq, codes, List, [], ◌∷◌, ◌++◌, map, filter, Option, Some, None, refl, sym, ap, ◌∙◌, subst}
use Rattle.std.specs.Prelude.{find, not}
use Rattle.std.specs.Option.{option_or}
use Rattle.std.proofs.lemmas.List.{append-nil}
use Rattle.std.proofs.lemmas.Slice.Eq.{bytes_eq-Decides}
use Rattle.ds2_elaboration.specs.UnitsBefore.{UnitsBefore}
use Rattle.ds2_tree.specs.Globals.{Method}
use Rattle.ds2_meaning.specs.Method.{MethodTree}
use Rattle.ds2_meaning.specs.View.{typed_method, system_tree}
use Rattle.ds2_meaning.specs.declared.methods.Method as typed
use Rattle.ds2_meaning.specs.declared.methods.SystemMethod.{SystemMethod}
use Rattle.ds2_names.specs.SourceUnit.{TableColumns, is_system_name, spelled_name, UnitSource}
use Rattle.ds2_names.specs.Uses.{method_named}
use Rattle.ds2_scope.proofs.TableLemmas.{or_none}
use Rattle.ds2_elaboration.specs.ExpressionTypes.{callable_methods}
use Rattle.ds2_elaboration.specs.ProgramTypes.{method_tree_of, body_of_method}
use Rattle.ds2_expression_types.proofs.ArgumentLists.{map-push}
use Rattle.ds2_program_types.specs.TypedMethodLists.{IsSystem, IsSystemOf, AreMethodsOf, kept_place, place_of_name}
use Rattle.ds2_program_types.specs.declared.methods.TypedMethods.{TypedMethods}

-- the first of these methods, and of one more behind them
find_push : (p : Method → Bool) (xs : List Method) (x : Method) → find p (xs ++ x ∷ []) ≡ option_or (find p xs) (cond (p x) (Some x) None)
find_push p [] x = refl
find_push p (y ∷ xs) x = by (p y) (find_push p xs x)
  where
    by : (b : Bool) → find p (xs ++ x ∷ []) ≡ option_or (find p xs) (cond (p x) (Some x) None)
        → cond b (Some y) (find p (xs ++ x ∷ [])) ≡ option_or (cond b (Some y) (find p xs)) (cond (p x) (Some x) None)
    by true h = refl
    by false h = h

filter_push : (p : Method → Bool) (xs : List Method) (x : Method) → filter p (xs ++ x ∷ []) ≡ filter p xs ++ cond (p x) (x ∷ []) []
filter_push p [] x = by (p x)
  where
    by : (b : Bool) → cond b (x ∷ []) [] ≡ [] ++ cond b (x ∷ []) []
    by b = refl
filter_push p (y ∷ xs) x = by (p y) (filter_push p xs x)
  where
    by : (b : Bool) → filter p (xs ++ x ∷ []) ≡ filter p xs ++ cond (p x) (x ∷ []) []
        → cond b (y ∷ filter p (xs ++ x ∷ [])) (filter p (xs ++ x ∷ [])) ≡ cond b (y ∷ filter p xs) (filter p xs) ++ cond (p x) (x ∷ []) []
    by true h = ap (λ (l : List Method). y ∷ l) h
    by false h = h

-- a name that is none of the three
none_of_three : (a b c : Bool) → (a || b || c) ≡ false → (a ≡ false) × (b ≡ false) × (c ≡ false)
none_of_three false false false e = (refl, refl, refl)
none_of_three true b c e = cc
none_of_three false true c e = cc
none_of_three false false true e = cc

-- a name that is one of the three, and neither of the first two
last_of_three : (a b c : Bool) → (a || b || c) ≡ true → a ≡ false → b ≡ false → c ≡ true
last_of_three false false c s e f = s
last_of_three true b c s e f = cc
last_of_three false true c s e f = cc

module _ (tables : TableColumns) (before : UnitsBefore) (u : UnitSource) (methods : List Method) (own : Method) where
  -- a method of another name
  pub other_system : (name : List ℕ) (m : Option SystemMethod) → bytes_eq (spelled_name own.name) name ≡ false → IsSystem tables before u methods name m
      → IsSystem tables before u (methods ++ own ∷ []) name m
  other_system name m e h =
      let same : method_named (methods ++ own ∷ []) name ≡ method_named methods name =
      find_push (λ (x : Method). bytes_eq (spelled_name x.name) name) methods own
      ∙ ap (λ (b : Bool). option_or (method_named methods name) (cond b (Some own) None)) e ∙ or_none (method_named methods name) in
      record {
        place = h.place ∙ sym (ap place_of_name same);
        body = h.body ∙ sym (ap (body_of_method tables before u) same);
      }

  first_of : (x : Option Method) (m : Option SystemMethod) (more : SystemMethod) → kept_place m ≡ place_of_name x → system_tree m ≡ body_of_method tables before u x
      → IsSystemOf tables before u own more
      → (kept_place (option_or m (Some more)) ≡ place_of_name (option_or x (Some own))) × (system_tree (option_or m (Some more)) ≡ body_of_method tables before u (option_or x (Some own)))
  first_of None None more e f g = (ap (λ p. Some p) g.0, g.1)
  first_of (Some x) (Some m) more e f g = (e, f)
  first_of None (Some m) more e f g = cc
  first_of (Some x) None more e f g = cc

  -- a method of this name: of two the first counts
  pub this_system : (name : List ℕ) (m next : Option SystemMethod) (more : SystemMethod) → bytes_eq (spelled_name own.name) name ≡ true → IsSystem tables before u methods name m
      → IsSystemOf tables before u own more → next ≡ option_or m (Some more) → IsSystem tables before u (methods ++ own ∷ []) name next
  this_system name m next more e h g n =
      let same : method_named (methods ++ own ∷ []) name ≡ option_or (method_named methods name) (Some own) =
      find_push (λ (x : Method). bytes_eq (spelled_name x.name) name) methods own
      ∙ ap (λ (b : Bool). option_or (method_named methods name) (cond b (Some own) None)) e in
      let first = first_of (method_named methods name) m more h.place h.body g in
      subst (λ (o : Option SystemMethod). IsSystem tables before u (methods ++ own ∷ []) name o) (sym n)
      (record {
        place = first.0 ∙ sym (ap place_of_name same);
        body = first.1 ∙ sym (ap (body_of_method tables before u) same);
      })

  -- the methods that can be called, with one more
  pub callable_more : (all : List typed.Method) (m : typed.Method) → map typed_method all ≡ map (method_tree_of tables before u) (callable_methods methods)
      → is_system_name (spelled_name own.name) ≡ false → typed_method m ≡ method_tree_of tables before u own
      → map typed_method (all ++ m ∷ []) ≡ map (method_tree_of tables before u) (callable_methods (methods ++ own ∷ []))
  callable_more all m h s e =
      map-push typed_method all m ∙ ap (λ (l : List MethodTree). l ++ typed_method m ∷ []) h
      ∙ ap (λ (t : MethodTree). map (method_tree_of tables before u) (callable_methods methods) ++ t ∷ []) e
      ∙ sym
      (ap (map (method_tree_of tables before u))
      (filter_push (λ (x : Method). not (is_system_name (spelled_name x.name))) methods own
      ∙ ap (λ (b : Bool). callable_methods methods ++ cond (not b) (own ∷ []) []) s)
      ∙ map-push (method_tree_of tables before u) (callable_methods methods) own)

  -- a system method is none of them
  pub callable_same : is_system_name (spelled_name own.name) ≡ true → callable_methods (methods ++ own ∷ []) ≡ callable_methods methods ++ []
  callable_same s =
      filter_push (λ (x : Method). not (is_system_name (spelled_name x.name))) methods own ∙ ap (λ (b : Bool). callable_methods methods ++ cond (not b) (own ∷ []) []) s

  callable_kept : (all : List typed.Method) → map typed_method all ≡ map (method_tree_of tables before u) (callable_methods methods) → is_system_name (spelled_name own.name) ≡ true
      → map typed_method all ≡ map (method_tree_of tables before u) (callable_methods (methods ++ own ∷ []))
  callable_kept all h s = h ∙ ap (map (method_tree_of tables before u)) (sym (callable_same s ∙ append-nil (callable_methods methods)))

  -- one more that can be called, behind the others
  pub callable_added : (t next : TypedMethods) (m : typed.Method) → AreMethodsOf tables before u methods t → is_system_name (spelled_name own.name) ≡ false → typed_method m ≡ method_tree_of tables before u own
      → next.methods ≡ t.methods ++ m ∷ [] → next.init ≡ t.init → next.run ≡ t.run → next.term ≡ t.term → AreMethodsOf tables before u (methods ++ own ∷ []) next
  callable_added t next m h s e l i r k =
      let none = none_of_three (bytes_eq (spelled_name own.name) (codes "init")) (bytes_eq (spelled_name own.name) (codes "run")) (bytes_eq (spelled_name own.name) (codes "term")) s in
      record {
        callable = ap (map typed_method) l ∙ callable_more t.methods m h.callable s e;
        init = subst (λ (o : Option SystemMethod). IsSystem tables before u (methods ++ own ∷ []) (codes "init") o) (sym i) (other_system (codes "init") t.init none.0 h.init);
        run = subst (λ (o : Option SystemMethod). IsSystem tables before u (methods ++ own ∷ []) (codes "run") o) (sym r) (other_system (codes "run") t.run none.1 h.run);
        term = subst (λ (o : Option SystemMethod). IsSystem tables before u (methods ++ own ∷ []) (codes "term") o) (sym k) (other_system (codes "term") t.term none.2 h.term);
      }

  other_named : (name other : List ℕ) → bytes_eq (spelled_name own.name) name ≡ true → bytes_eq name other ≡ false → bytes_eq (spelled_name own.name) other ≡ false
  other_named name other e f = ap (λ (n : List ℕ). bytes_eq n other) ((bytes_eq-Decides (spelled_name own.name) name).0 e) ∙ f

  -- one more `init`
  pub init_added : (t : TypedMethods) (next : Option SystemMethod) (m : SystemMethod) → AreMethodsOf tables before u methods t → is_system_name (spelled_name own.name) ≡ true
      → bytes_eq (spelled_name own.name) (codes "init") ≡ true → IsSystemOf tables before u own m → next ≡ option_or t.init (Some m)
      → AreMethodsOf tables before u (methods ++ own ∷ []) (record { methods = t.methods; init = next; run = t.run; term = t.term })
  init_added t next m h s e g n = record {
    callable = callable_kept t.methods h.callable s;
    init = this_system (codes "init") t.init next m e h.init g n;
    run = other_system (codes "run") t.run (other_named (codes "init") (codes "run") e refl) h.run;
    term = other_system (codes "term") t.term (other_named (codes "init") (codes "term") e refl) h.term;
  }

  -- one more `run`
  pub run_added : (t : TypedMethods) (next : Option SystemMethod) (m : SystemMethod) → AreMethodsOf tables before u methods t → is_system_name (spelled_name own.name) ≡ true
      → bytes_eq (spelled_name own.name) (codes "run") ≡ true → IsSystemOf tables before u own m → next ≡ option_or t.run (Some m)
      → AreMethodsOf tables before u (methods ++ own ∷ []) (record { methods = t.methods; init = t.init; run = next; term = t.term })
  run_added t next m h s e g n = record {
    callable = callable_kept t.methods h.callable s;
    init = other_system (codes "init") t.init (other_named (codes "run") (codes "init") e refl) h.init;
    run = this_system (codes "run") t.run next m e h.run g n;
    term = other_system (codes "term") t.term (other_named (codes "run") (codes "term") e refl) h.term;
  }

  -- one more `term`: a system method that is neither of the others
  pub term_added : (t : TypedMethods) (next : Option SystemMethod) (m : SystemMethod) → AreMethodsOf tables before u methods t → is_system_name (spelled_name own.name) ≡ true
      → bytes_eq (spelled_name own.name) (codes "init") ≡ false → bytes_eq (spelled_name own.name) (codes "run") ≡ false → IsSystemOf tables before u own m
      → next ≡ option_or t.term (Some m) → AreMethodsOf tables before u (methods ++ own ∷ []) (record { methods = t.methods; init = t.init; run = t.run; term = next })
  term_added t next m h s e f g n =
      let third = last_of_three (bytes_eq (spelled_name own.name) (codes "init")) (bytes_eq (spelled_name own.name) (codes "run")) (bytes_eq (spelled_name own.name) (codes "term")) s e f in
      record {
        callable = callable_kept t.methods h.callable s;
        init = other_system (codes "init") t.init e h.init;
        run = other_system (codes "run") t.run f h.run;
        term = this_system (codes "term") t.term next m third h.term g n;
      }
