-- The methods that may be called: what holds of all deeds of a statement and of the methods that it may call holds of each call, as deep as
-- calls may ever be.
use Rattle.std.proofs.Common.{◌≡◌, ℕ, zero, suc, ◌+◌, ◌≤◌, Bool, true, false, ◌||◌, ◌==◌, List, [], ◌∷◌, ◌++◌, fold, flat_map, refl, sym, ap, ◌∙◌, subst, arith, if◌then◌else◌}
use Rattle.std.specs.List.{AllByRecursion}
use Rattle.std.proofs.lemmas.Bool.{true≢false}
use Rattle.std.proofs.lemmas.Bool.Decides.{Decides-eqb}
use Rattle.ds2_value.specs.declared.fault.TheConstants.{CALL_DEPTH}
use Rattle.ds2_meaning.specs.Location.{Home, is_same_home, Location}
use Rattle.ds2_meaning.specs.ProgramTree.{UnitTree}
use Rattle.ds2_locality.specs.Deeds.{MethodAt, is_same_method, Deed, Mention, MentionObject, Change, CallOf, WriteAt, method_deeds, methods_called, is_among_methods, with_method, reached_from, number_of_methods, may_be_called, with_callees}
use Rattle.ds2_locality.proofs.Frame.{all_front, all_back, both, home_is, Allowed, AreAllowed}

method_is : (a b : MethodAt) → is_same_method a b ≡ true → a ≡ b
method_is a b e =
    let parts = both (is_same_home a.home b.home) (a.number == b.number) e in
    ap (λ (h : Home). record { home = h; number = a.number }) (home_is a.home b.home parts.0) ∙ ap (λ (n : ℕ). record { home = b.home; number = n }) ((Decides-eqb a.number b.number).0 parts.1)

module _ (Q : MethodAt → Type 0) where
  among_has_by : (b : Bool) (m k : MethodAt) (ms : List MethodAt) → is_same_method m k ≡ b → (b || is_among_methods m ms) ≡ true → Q k → (is_among_methods m ms ≡ true → Q m) → Q m
  among_has_by true m k ms e f q later = subst Q (sym (method_is m k e)) q
  among_has_by false m k ms e f q later = later f

  among_has : (m : MethodAt) (ms : List MethodAt) → is_among_methods m ms ≡ true → AllByRecursion Q ms → Q m
  among_has m [] e h = absurd (true≢false (sym e))
  among_has m (k ∷ ms) e h = among_has_by (is_same_method m k) m k ms refl e h.0 (λ f. among_has m ms f h.1)

  in_with_by : (b : Bool) (ms : List MethodAt) (m : MethodAt) → is_among_methods m ms ≡ b → AllByRecursion Q (if b then ms else ms ++ m ∷ []) → AllByRecursion Q ms × Q m
  in_with_by true ms m e h = (h, among_has m ms e h)
  in_with_by false ms m e h = (all_front Q ms (m ∷ []) h, (all_back Q ms (m ∷ []) h).0)

  -- what holds of methods with others holds of both
  in_fold : (ms more : List MethodAt) → AllByRecursion Q (fold with_method ms more) → AllByRecursion Q ms × AllByRecursion Q more
  in_fold ms [] h = (h, tt)
  in_fold ms (m ∷ more) h =
      let rest = in_fold (with_method ms m) more h in
      let here = in_with_by (is_among_methods m ms) ms m refl rest.0 in
      (here.0, (here.1, rest.1))

module _ (p : UnitTree) (W U V : Location → Type 0) where
  -- what is asked of a deed by itself
  abbrev pub Single : Deed → Type 0
  Single deed = Allowed W U V (λ m. Unit {0}) deed

  -- it holds of the deeds of a method, and of those that it calls, so many calls deep
  abbrev pub Safe : ℕ → MethodAt → Type 0
  Safe zero m = Unit {0}
  Safe (suc k) m = AreAllowed W U V (Safe k) (method_deeds p m)

  abbrev Own : MethodAt → Type 0
  Own m = AllByRecursion Single (method_deeds p m)

  allowed_of : (k : ℕ) (deeds : List Deed) → AllByRecursion Single deeds → AllByRecursion (Safe k) (methods_called deeds) → AreAllowed W U V (Safe k) deeds
  allowed_of k [] g h = tt
  allowed_of k (Mention at ∷ deeds) g h = (g.0, allowed_of k deeds g.1 h)
  allowed_of k (MentionObject at ∷ deeds) g h = (g.0, allowed_of k deeds g.1 h)
  allowed_of k (Change at ∷ deeds) g h = (g.0, allowed_of k deeds g.1 h)
  allowed_of k (CallOf m ∷ deeds) g h = (h.0, allowed_of k deeds g.1 h.1)
  allowed_of k (WriteAt place ∷ deeds) g h = (tt, allowed_of k deeds g.1 h)

  abbrev callees : List MethodAt → List MethodAt
  callees ms = flat_map (λ m. methods_called (method_deeds p m)) ms

  own_from : (k : ℕ) (ms : List MethodAt) → AllByRecursion Own (reached_from p k ms) → AllByRecursion Own ms
  own_from zero ms h = h
  own_from (suc k) ms h = (in_fold Own ms (callees ms) (own_from k (fold with_method ms (callees ms)) h)).0

  safe_each : (k : ℕ) (ms : List MethodAt) → AllByRecursion Own ms → AllByRecursion (Safe k) (callees ms) → AllByRecursion (Safe (suc k)) ms
  safe_each k [] g h = tt
  safe_each k (m ∷ ms) g h = (
    allowed_of k (method_deeds p m) g.0 (all_front (Safe k) (methods_called (method_deeds p m)) (callees ms) h),
    safe_each k ms g.1 (all_back (Safe k) (methods_called (method_deeds p m)) (callees ms) h),
  )

  all_safe_at_zero : (ms : List MethodAt) → AllByRecursion (Safe zero) ms
  all_safe_at_zero [] = tt
  all_safe_at_zero (m ∷ ms) = (tt, all_safe_at_zero ms)

  safe_from : (k : ℕ) (ms : List MethodAt) → AllByRecursion Own (reached_from p k ms) → AllByRecursion (Safe k) ms
  safe_from zero ms h = all_safe_at_zero ms
  safe_from (suc k) ms h =
      let wider = fold with_method ms (callees ms) in
      let safe = in_fold (Safe k) ms (callees ms) (safe_from k wider h) in
      let own = in_fold Own ms (callees ms) (own_from k wider h) in
      safe_each k ms own.0 safe.1

  pub allowed_less : (R Q : MethodAt → Type 0) → ((m : MethodAt) → R m → Q m) → (deeds : List Deed) → AreAllowed W U V R deeds → AreAllowed W U V Q deeds
  allowed_less R Q f [] h = tt
  allowed_less R Q f (Mention at ∷ deeds) h = (h.0, allowed_less R Q f deeds h.1)
  allowed_less R Q f (MentionObject at ∷ deeds) h = (h.0, allowed_less R Q f deeds h.1)
  allowed_less R Q f (Change at ∷ deeds) h = (h.0, allowed_less R Q f deeds h.1)
  allowed_less R Q f (CallOf m ∷ deeds) h = (f m h.0, allowed_less R Q f deeds h.1)
  allowed_less R Q f (WriteAt place ∷ deeds) h = (tt, allowed_less R Q f deeds h.1)

  pub safe_less : (n k : ℕ) → k ≤ n → (m : MethodAt) → Safe n m → Safe k m
  safe_less n zero l m h = tt
  safe_less zero (suc k) l m h = absurd (omega (arith, l))
  safe_less (suc n) (suc k) l m h = allowed_less (Safe n) (Safe k) (λ z q. safe_less n k (omega (arith, l)) z q) (method_deeds p m) h

  each_own : (ms : List MethodAt) → AllByRecursion Single (flat_map (method_deeds p) ms) → AllByRecursion Own ms
  each_own [] h = tt
  each_own (m ∷ ms) h = (all_front Single (method_deeds p m) (flat_map (method_deeds p) ms) h, each_own ms (all_back Single (method_deeds p m) (flat_map (method_deeds p) ms) h))

  each_less : (n k : ℕ) → k ≤ n → (ms : List MethodAt) → AllByRecursion (Safe n) ms → AllByRecursion (Safe k) ms
  each_less n k l [] h = tt
  each_less n k l (m ∷ ms) h = (safe_less n k l m h.0, each_less n k l ms h.1)

  -- what holds of deeds and of those of the methods that they may call holds in all calls that are ever under way
  pub deeds_allowed : (deeds : List Deed) → AllByRecursion Single (with_callees p deeds) → AreAllowed W U V (Safe CALL_DEPTH) deeds
  deeds_allowed deeds all =
      let n = number_of_methods p in
      let called = fold with_method [] (methods_called deeds) in
      let own = each_own (may_be_called p deeds) (all_back Single deeds (flat_map (method_deeds p) (may_be_called p deeds)) all) in
      let safe = each_less (n + CALL_DEPTH) CALL_DEPTH (omega arith) called (safe_from (n + CALL_DEPTH) called own) in
      allowed_of CALL_DEPTH deeds (all_front Single deeds (flat_map (method_deeds p) (may_be_called p deeds)) all) (in_fold (Safe CALL_DEPTH) [] (methods_called deeds) safe).1
