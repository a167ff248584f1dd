-- From the methods that mention a name to those that call them, layer by layer.
use Rattle.std.proofs.Common.{◌≡◌, ℕ, zero, suc, ◌+◌, ◌-◌, ◌≤◌, ◌==◌, Bool, true, false, not, ◌||◌, ◌&&◌, cond, List, [], ◌∷◌, ◌++◌, bytes_eq, nat_eq, Option, Some, None, refl, subst, sym, ap, ◌∙◌, true≢false, add-one, length, arith}
use Rattle.std.specs.List.{list_any}
use Rattle.std.specs.Cmp.Lexicographic.{pointwise}
use Rattle.std.specs.HashSet.{HashSet, contains}
use Rattle.std.proofs.lemmas.Bool.{eqb-true}
use Rattle.std.proofs.lemmas.Slice.Eq.{bytes_eq-Decides}
use Rattle.ds2_meaning.specs.ProgramTree.{is_listed}
use Rattle.ds2_names.specs.NameRules.{from_each}
use Rattle.ds2_aliases.specs.declared.links.LinkKind.TheVariants as kind
use Rattle.ds2_aliases.specs.declared.parts.MethodParts.{MethodParts}
use Rattle.ds2_aliases.specs.declared.parts.UnitParts.{UnitParts}
use Rattle.ds2_aliases.specs.declared.reach.Links.{Links}
use Rattle.ds2_aliases.specs.MethodLinks.{linked, links_if_any}
use Rattle.ds2_aliases.specs.ReachingMethods.{part_named, has_variable_of, holds, mentions_itself, mentions_or_calls, reaches}
use Rattle.ds2_aliases.specs.ReachedNames.{AreLinks, HasReaching}
use Rattle.ds2_aliases.proofs.TestLemmas.{same_truth, or_false, and_false, or_left, or_right, or_else, listed_append, listed_each, passed_by, passing}

-- names that were entered into a set, and those that were not in it before
pub one_entered : (a cy e c r : Bool) → (e ≡ true → cy ≡ c) → ((a || (not cy && e)) || (not (e || c) && r)) ≡ (a || (not c && (e || r)))
one_entered true cy e c r h = refl
one_entered false cy true c r h = or_false (not cy && true) ∙ ap (λ x. not x && true) (h refl)
one_entered false true false c r h = refl
one_entered false false false c r h = refl

-- what the method of a name calls, and whether it mentions another name itself
abbrev calls_by : UnitParts → List ℕ → List (List ℕ)
calls_by unit method = links_if_any kind.Calls (part_named unit.methods method)

abbrev mentions_if_any : List MethodParts → List ℕ → Option MethodParts → Bool
mentions_if_any objects name None = false
mentions_if_any objects name (Some m) = mentions_itself objects name m

abbrev mentions_by : UnitParts → List ℕ → List ℕ → Bool
mentions_by unit name method = mentions_if_any unit.objects name (part_named unit.methods method)

-- one of some names is listed among others where one of these is listed among them
one_listed : (xs ys : List (List ℕ)) → list_any (λ o. is_listed ys o) xs ≡ true → list_any (λ o. is_listed xs o) ys ≡ true
one_listed xs ys h = by (passing (λ o. is_listed ys o) xs h)
  where
    by : ((o : List ℕ) × ((is_listed xs o ≡ true) × (is_listed ys o ≡ true))) → list_any (λ o. is_listed xs o) ys ≡ true
    by p = passed_by (λ o. is_listed xs o) ys p.0 p.1.1 p.1.0

either_listed : (xs ys : List (List ℕ)) → list_any (λ o. is_listed ys o) xs ≡ list_any (λ o. is_listed xs o) ys
either_listed xs ys = same_truth (list_any (λ o. is_listed ys o) xs) (list_any (λ o. is_listed xs o) ys) (one_listed xs ys) (one_listed ys xs)

-- a method mentions a name itself where it links to it, or uses an instance that has a variable of this name
mention_parts : (objects : List MethodParts) (name : List ℕ) (m : Option MethodParts)
    → (is_listed (links_if_any kind.Mentions m) name || list_any (holds objects name) (links_if_any kind.Uses m)) ≡ mentions_if_any objects name m
mention_parts objects name None = refl
mention_parts objects name (Some m) = refl

held : (name : List ℕ) (object : Option MethodParts) → is_listed (links_if_any kind.Mentions object) name ≡ has_variable_of name object
held name None = refl
held name (Some m) = refl

-- a set has the methods that reach a name within so many calls, and a list those that come next
pub record IsLayer {S : Type 0} (unit : UnitParts) (name : List ℕ) (k : ℕ) (reached : HashSet (List ℕ) S) (next : List (List ℕ)) : Type 0 where
  pub here : (method : List ℕ) → contains (pointwise nat_eq) reached method ≡ reaches unit name k method
  pub beyond : (method : List ℕ) → reaches unit name (suc k) method ≡ (contains (pointwise nat_eq) reached method || is_listed next method)

module _ (unit : UnitParts) (name : List ℕ) where
  -- a method reaches the name where it mentions it or calls one that reaches it
  reach_parts : (k : ℕ) (method : List ℕ) → reaches unit name (suc k) method ≡ (mentions_by unit name method || list_any (λ called. reaches unit name k called) (calls_by unit method))
  reach_parts k method = by (part_named unit.methods method)
    where
      by : (m : Option MethodParts)
          → mentions_or_calls (λ called. reaches unit name k called) unit.objects name m
          ≡ (mentions_if_any unit.objects name m || list_any (λ called. reaches unit name k called) (links_if_any kind.Calls m))
      by None = refl
      by (Some m) = refl

  -- links tell which methods mention a name themselves
  mentioning_is : (links : Links) → AreLinks links unit → (method : List ℕ)
      → is_listed (linked links.mentioners name ++ from_each (linked links.users) (linked links.holders name)) method ≡ mentions_by unit name method
  mentioning_is links are method =
      let p = part_named unit.methods method in
      listed_append (linked links.mentioners name) (from_each (linked links.users) (linked links.holders name)) method
      ∙ (λ i. are.mentioners name method i || listed_each (linked links.users) (linked links.holders name) method i)
      ∙ ap (λ t. is_listed (links_if_any kind.Mentions p) name || t)
      ((λ i. list_any (λ o. are.users o method i) (linked links.holders name))
      ∙ either_listed (linked links.holders name) (links_if_any kind.Uses p)
      ∙ (λ i. list_any (λ o. (are.holders name o ∙ held name (part_named unit.objects o)) i) (links_if_any kind.Uses p)))
      ∙ mention_parts unit.objects name p

  -- a method that mentions it reaches it, and so does one that calls a method that does
  by_mention : (k : ℕ) (method : List ℕ) → mentions_by unit name method ≡ true → reaches unit name (suc k) method ≡ true
  by_mention k method h = reach_parts k method ∙ or_left (mentions_by unit name method) (list_any (λ called. reaches unit name k called) (calls_by unit method)) h

  by_call : (k : ℕ) (method called : List ℕ) → is_listed (calls_by unit method) called ≡ true → reaches unit name k called ≡ true → reaches unit name (suc k) method ≡ true
  by_call k method called c h =
      reach_parts k method
      ∙ or_right (mentions_by unit name method) (list_any (λ x. reaches unit name k x) (calls_by unit method)) (passed_by (λ x. reaches unit name k x) (calls_by unit method) called c h)

  reach_deeper : (k : ℕ) → ((called : List ℕ) → reaches unit name k called ≡ true → reaches unit name (suc k) called ≡ true) → (method : List ℕ)
      → reaches unit name (suc k) method ≡ true → reaches unit name (suc (suc k)) method ≡ true
  reach_deeper k deeper method h = by (mentions_by unit name method) refl (sym (reach_parts k method) ∙ h)
    where
      called_one : ((called : List ℕ) × ((is_listed (calls_by unit method) called ≡ true) × (reaches unit name k called ≡ true))) → reaches unit name (suc (suc k)) method ≡ true
      called_one p = by_call (suc k) method p.0 p.1.0 (deeper p.0 p.1.1)

      by : (t : Bool) → mentions_by unit name method ≡ t → (t || list_any (λ x. reaches unit name k x) (calls_by unit method)) ≡ true → reaches unit name (suc (suc k)) method ≡ true
      by true e l = by_mention (suc k) method e
      by false e l = called_one (passing (λ x. reaches unit name k x) (calls_by unit method) l)

  -- what reaches it within so many calls reaches it within one more
  reach_more : (k : ℕ) (method : List ℕ) → reaches unit name k method ≡ true → reaches unit name (suc k) method ≡ true
  reach_more zero method h = absurd (true≢false (sym h))
  reach_more (suc k) method h = reach_deeper k (λ called g. reach_more k called g) method h

  none_reaches : (xs : List (List ℕ)) → list_any (λ called. reaches unit name 0 called) xs ≡ false
  none_reaches [] = refl
  none_reaches (x ∷ xs) = none_reaches xs

  pub first_layer : {S : Type 0} (links : Links) → AreLinks links unit → (reached : HashSet (List ℕ) S) (next : List (List ℕ)) → ((method : List ℕ) → contains (pointwise nat_eq) reached method ≡ false)
      → next ≡ linked links.mentioners name ++ from_each (linked links.users) (linked links.holders name) → IsLayer unit name 0 reached next
  first_layer links are reached next empty n = record {
    here = empty;
    beyond = λ method.
        reach_parts 0 method
        ∙ ap (λ t. mentions_by unit name method || t) (none_reaches (calls_by unit method))
        ∙ or_false (mentions_by unit name method)
        ∙ sym (mentioning_is links are method)
        ∙ ap (λ ms. is_listed ms method) (sym n)
        ∙ ap (λ t. t || is_listed next method) (sym (empty method));
  }

-- the methods that were entered call for those that call them
module _ {S : Type 0} (unit : UnitParts) (name : List ℕ) (k : ℕ) (reached reached' : HashSet (List ℕ) S) (next added next' : List (List ℕ)) (layer : IsLayer unit name k reached next)
    (enter : (method : List ℕ) → contains (pointwise nat_eq) reached' method ≡ (contains (pointwise nat_eq) reached method || is_listed next method))
    (new : (method : List ℕ) → is_listed added method ≡ (not (contains (pointwise nat_eq) reached method) && is_listed next method))
    (calls : (method : List ℕ) → is_listed next' method ≡ list_any (λ called. is_listed (calls_by unit method) called) added) where
  now_here : (method : List ℕ) → contains (pointwise nat_eq) reached' method ≡ reaches unit name (suc k) method
  now_here method = enter method ∙ sym (layer.beyond method)

  is_entered : (called : List ℕ) → contains (pointwise nat_eq) reached called ≡ false → reaches unit name (suc k) called ≡ true → is_listed added called ≡ true
  is_entered called out h =
      new called
      ∙ ap (λ t. not t && is_listed next called) out
      ∙ or_else (contains (pointwise nat_eq) reached called) (is_listed next called) (sym (layer.beyond called) ∙ h) out

  -- one that was entered reaches the name
  is_new : (called : List ℕ) → is_listed added called ≡ true → reaches unit name (suc k) called ≡ true
  is_new called h = layer.beyond called ∙ by (contains (pointwise nat_eq) reached called) (sym (new called) ∙ h)
    where
      by : (t : Bool) → (not t && is_listed next called) ≡ true → (t || is_listed next called) ≡ true
      by true l = refl
      by false l = l

  from_call : (method called : List ℕ) → is_listed (calls_by unit method) called ≡ true → reaches unit name (suc k) called ≡ true → (contains (pointwise nat_eq) reached' method || is_listed next' method) ≡ true
  from_call method called c h = by (contains (pointwise nat_eq) reached called) refl
    where
      by : (t : Bool) → contains (pointwise nat_eq) reached called ≡ t → (contains (pointwise nat_eq) reached' method || is_listed next' method) ≡ true
      by true e =
          or_left (contains (pointwise nat_eq) reached' method) (is_listed next' method) (now_here method ∙ by_call unit name k method called c (sym (layer.here called) ∙ e))
      by false e =
          or_right (contains (pointwise nat_eq) reached' method) (is_listed next' method)
          (calls method ∙ passed_by (λ x. is_listed (calls_by unit method) x) added called (is_entered called e h) c)

  onward : (method : List ℕ) → reaches unit name (suc (suc k)) method ≡ true → (contains (pointwise nat_eq) reached' method || is_listed next' method) ≡ true
  onward method h = by (mentions_by unit name method) refl (sym (reach_parts unit name (suc k) method) ∙ h)
    where
      called_one : ((called : List ℕ) × ((is_listed (calls_by unit method) called ≡ true) × (reaches unit name (suc k) called ≡ true)))
          → (contains (pointwise nat_eq) reached' method || is_listed next' method) ≡ true
      called_one p = from_call method p.0 p.1.0 p.1.1

      by : (t : Bool) → mentions_by unit name method ≡ t → (t || list_any (λ x. reaches unit name (suc k) x) (calls_by unit method)) ≡ true
          → (contains (pointwise nat_eq) reached' method || is_listed next' method) ≡ true
      by true e l = or_left (contains (pointwise nat_eq) reached' method) (is_listed next' method) (now_here method ∙ by_mention unit name k method e)
      by false e l = called_one (passing (λ x. reaches unit name (suc k) x) (calls_by unit method) l)

  back : (method : List ℕ) → (contains (pointwise nat_eq) reached' method || is_listed next' method) ≡ true → reaches unit name (suc (suc k)) method ≡ true
  back method h = by (contains (pointwise nat_eq) reached' method) refl h
    where
      calls_one : ((called : List ℕ) × ((is_listed added called ≡ true) × (is_listed (calls_by unit method) called ≡ true))) → reaches unit name (suc (suc k)) method ≡ true
      calls_one p = by_call unit name (suc k) method p.0 p.1.1 (is_new p.0 p.1.0)

      by : (t : Bool) → contains (pointwise nat_eq) reached' method ≡ t → (t || is_listed next' method) ≡ true → reaches unit name (suc (suc k)) method ≡ true
      by true e l = reach_more unit name (suc k) method (sym (now_here method) ∙ e)
      by false e l = calls_one (passing (λ x. is_listed (calls_by unit method) x) added (sym (calls method) ∙ l))

  layer_beyond : IsLayer unit name (suc k) reached' next'
  layer_beyond = record {
    here = now_here;
    beyond = λ method. same_truth (reaches unit name (suc (suc k)) method) (contains (pointwise nat_eq) reached' method || is_listed next' method) (onward method) (back method);
  }

pub next_layer : {S : Type 0} (unit : UnitParts) (name : List ℕ) (links : Links) → AreLinks links unit → (k : ℕ) (reached reached' : HashSet (List ℕ) S) (next added next' : List (List ℕ))
    → IsLayer unit name k reached next
    → ((method : List ℕ) → contains (pointwise nat_eq) reached' method ≡ (contains (pointwise nat_eq) reached method || is_listed next method))
    → ((method : List ℕ) → is_listed added method ≡ (not (contains (pointwise nat_eq) reached method) && is_listed next method))
    → next' ≡ from_each (linked links.callers) added → IsLayer unit name (k + 1) reached' next'
next_layer unit name links are k reached reached' next added next' layer enter new n =
    subst (λ j. IsLayer unit name j reached' next') (sym (add-one k))
    (layer_beyond unit name k reached reached' next added next' layer enter new
    (λ method.
    ap (λ ms. is_listed ms method) n
    ∙ listed_each (linked links.callers) added method
    ∙ (λ i. list_any (λ called. are.callers called method i) added)))

-- where no method comes next, none comes later
pub still_layer : {S : Type 0} (unit : UnitParts) (name : List ℕ) (reached : HashSet (List ℕ) S) (d k : ℕ) → IsLayer unit name k reached [] → IsLayer unit name (k + d) reached []
still_layer unit name reached zero k layer = subst (λ j. IsLayer unit name j reached []) (omega arith) layer
still_layer unit name reached (suc d) k layer =
    subst (λ j. IsLayer unit name j reached []) (omega arith)
    (still_layer unit name reached d (suc k)
    (layer_beyond unit name k reached reached [] [] [] layer
    (λ method. sym (or_false (contains (pointwise nat_eq) reached method))) (λ method. sym (and_false (not (contains (pointwise nat_eq) reached method)))) (λ method. refl)))

no_names : (names : List (List ℕ)) → (length names == 0) ≡ true → names ≡ []
no_names [] h = refl
no_names (x ∷ names) h = let k = eqb-true (length (x ∷ names)) 0 h in absurd (omega (arith, k))

-- the methods of the last layer that is not empty are all that reach the name
pub last_layer : {S : Type 0} (unit : UnitParts) (name : List ℕ) (reached : HashSet (List ℕ) S) (next : List (List ℕ)) (k n : ℕ) → IsLayer unit name k reached next → k ≤ n
    → (length next == 0) ≡ true → (method : List ℕ) → contains (pointwise nat_eq) reached method ≡ reaches unit name n method
last_layer unit name reached next k n layer few none method =
    (still_layer unit name reached (n - k) k (subst (IsLayer unit name k reached) (no_names next none) layer)).here method
    ∙ ap (λ (j : ℕ). reaches unit name j method) (omega (arith, few))

-- one name more whose methods were looked for
pub one_more_reached : {T : Type 0} (unit : UnitParts) (name other : List ℕ) (set : HashSet (List ℕ) T) (old new : Option (HashSet (List ℕ) T))
    → HasReaching unit name (Some set) → HasReaching unit other old → new ≡ cond (bytes_eq name other) (Some set) old → HasReaching unit other new
one_more_reached unit name other set old new here there put = by (bytes_eq name other) refl put
  where
    by : (t : Bool) → bytes_eq name other ≡ t → new ≡ cond t (Some set) old → HasReaching unit other new
    by true e h = subst (λ o. HasReaching unit other o) (sym h) (subst (λ n. HasReaching unit n (Some set)) ((bytes_eq-Decides name other).0 e) here)
    by false e h = subst (λ o. HasReaching unit other o) (sym h) there
