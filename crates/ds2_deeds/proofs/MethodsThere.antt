-- Each method of a program has its number.
use Rattle.std.proofs.Common.{◌≡◌, ◌<◌, ℕ, zero, suc, ◌+◌, Bool, true, false, List, [], ◌∷◌, length, map, slice_get, Option, Some, None, refl, sym, ap, ◌∙◌, length-append, arith}
use Rattle.std.proofs.lemmas.Bool.{true≢false}
use Rattle.std.proofs.lemmas.Bool.Decides.{Decides-eqb}
use Rattle.std.proofs.lemmas.List.Folds.{list_any-append}
use Rattle.std.proofs.lemmas.List.FromFn.{length-map-range_with_len}
use Rattle.std.proofs.lemmas.Option.{slice_get_within}
use Rattle.std.proofs.lemmas.Slice.Eq.{bytes_eq-Decides}
use Rattle.std.specs.List.{list_any, range_with_len}
use Rattle.std.specs.Prelude.{◌&&◌, ◌||◌, ◌==◌, bytes_eq, if◌then◌else◌, is_some, flat_map}
use Rattle.ds2_meaning.specs.declared.location.Global.TheVariants.{Named}
use Rattle.ds2_meaning.specs.HashObjects.{object_at}
use Rattle.ds2_meaning.specs.Location.{Home, is_same_home, is_same_global}
use Rattle.ds2_meaning.specs.Method.{MethodTree}
use Rattle.ds2_meaning.specs.ProgramTree.{InstanceTree, UnitTree, instance_methods, methods_of}
use Rattle.ds2_locality.specs.Deeds.{MethodAt, is_same_method, deeds_of_method, method_deeds, number_of_methods}
use Rattle.ds2_locality.proofs.Frame.{both}
use Rattle.ds2_locality.proofs.Near.{location_self}
use Rattle.ds2_deeds.specs.NamedMethods.{number_among_methods, home_methods, methods_in_order}
use Rattle.ds2_deeds.proofs.NumberLemmas.{any_numbered}

or_left : (b rest : Bool) → b ≡ true → (b || rest) ≡ true
or_left b rest e = ap (λ x. x || rest) e

or_right : (b rest : Bool) → rest ≡ true → (b || rest) ≡ true
or_right true rest e = refl
or_right false rest e = e

home_self : (home : Home) → is_same_home home home ≡ true
home_self home = (both (is_same_home home home) (is_same_global (Named []) (Named [])) (location_self (object_at home []))).0

-- a method of a home
abbrev method_of : Home → ℕ → MethodAt
method_of home k = record { home = home; number = k }

same_method : (home : Home) (k j : ℕ) → k ≡ j → is_same_method (method_of home k) (method_of home j) ≡ true
same_method home k j e = ap (λ b. b && (k == j)) (home_self home) ∙ (Decides-eqb k j).1 e

-- it is among those of its home
among_from : (home : Home) (a d n k : ℕ) → d < n → k ≡ a + d → list_any (is_same_method (method_of home k)) (map (method_of home) (range_with_len a n)) ≡ true
among_from home a d zero k lt e = absurd (omega (arith, lt))
among_from home a zero (suc n) k lt e =
    or_left (is_same_method (method_of home k) (method_of home a)) (list_any (is_same_method (method_of home k)) (map (method_of home) (range_with_len (a + 1) n))) (same_method home k a (omega (arith, e)))
among_from home a (suc d) (suc n) k lt e =
    or_right (is_same_method (method_of home k) (method_of home a)) (list_any (is_same_method (method_of home k)) (map (method_of home) (range_with_len (a + 1) n)))
    (among_from home (a + 1) d n k (omega (arith, lt)) (omega (arith, e)))

among_home : (home : Home) (methods : List MethodTree) (k : ℕ) (x : MethodTree) → slice_get methods k ≡ Some x → list_any (is_same_method (method_of home k)) (home_methods home (length methods)) ≡ true
among_home home methods k x e = among_from home 0 k (length methods) k (slice_get_within methods k x e) (omega arith)

-- those of the instances
abbrev of_instance : InstanceTree → List MethodAt
of_instance i = home_methods (Some i.name) (length i.methods)

among_next : (i : InstanceTree) (is : List InstanceTree) (name : List ℕ) (k : ℕ) (x : MethodTree) (b : Bool) → bytes_eq i.name name ≡ b
    → (slice_get (instance_methods is name) k ≡ Some x → list_any (is_same_method (method_of (Some name) k)) (flat_map of_instance is) ≡ true)
    → slice_get (if b then i.methods else instance_methods is name) k ≡ Some x
    → (list_any (is_same_method (method_of (Some name) k)) (of_instance i) || list_any (is_same_method (method_of (Some name) k)) (flat_map of_instance is)) ≡ true
among_next i is name k x true same later e =
    or_left (list_any (is_same_method (method_of (Some name) k)) (of_instance i)) (list_any (is_same_method (method_of (Some name) k)) (flat_map of_instance is))
    (ap (λ (l : List ℕ). list_any (is_same_method (method_of (Some l) k)) (of_instance i)) (sym ((bytes_eq-Decides i.name name).0 same)) ∙ among_home (Some i.name) i.methods k x e)
among_next i is name k x false same later e =
    or_right (list_any (is_same_method (method_of (Some name) k)) (of_instance i)) (list_any (is_same_method (method_of (Some name) k)) (flat_map of_instance is)) (later e)

among_instances : (is : List InstanceTree) (name : List ℕ) (k : ℕ) (x : MethodTree) → slice_get (instance_methods is name) k ≡ Some x
    → list_any (is_same_method (method_of (Some name) k)) (flat_map of_instance is) ≡ true
among_instances [] name k x e = absurd cc
among_instances (i ∷ is) name k x e =
    list_any-append (is_same_method (method_of (Some name) k)) (of_instance i) (flat_map of_instance is)
    ∙ among_next i is name k x (bytes_eq i.name name) refl (λ f. among_instances is name k x f) e

among_all : (p : UnitTree) (home : Home) (k : ℕ) (x : MethodTree) → slice_get (methods_of p home) k ≡ Some x → list_any (is_same_method (method_of home k)) (methods_in_order p) ≡ true
among_all p None k x e =
    let test = is_same_method (method_of None k) in
    let instances = flat_map of_instance p.instances in
    list_any-append test (home_methods None (length p.methods)) instances ∙ or_left (list_any test (home_methods None (length p.methods))) (list_any test instances) (among_home None p.methods k x e)
among_all p (Some name) k x e =
    let test = is_same_method (method_of (Some name) k) in
    let instances = flat_map of_instance p.instances in
    list_any-append test (home_methods None (length p.methods)) instances
    ∙ or_right (list_any test (home_methods None (length p.methods))) (list_any test instances) (among_instances p.instances name k x e)

-- a method without a number does nothing
nothing_by : (p : UnitTree) (m : MethodAt) (o : Option MethodTree) → slice_get (methods_of p m.home) m.number ≡ o → number_among_methods (methods_in_order p) m ≡ None → method_deeds p m ≡ []
nothing_by p m None e none = ap (λ x. deeds_of_method p m.home x) e
nothing_by p m (Some x) e none =
    absurd (true≢false (sym (among_all p m.home m.number x e) ∙ any_numbered (is_same_method m) (methods_in_order p) ∙ ap (λ (o : Option ℕ). is_some o) none))

pub others_do_nothing : (p : UnitTree) (m : MethodAt) → number_among_methods (methods_in_order p) m ≡ None → method_deeds p m ≡ []
others_do_nothing p m none = nothing_by p m (slice_get (methods_of p m.home) m.number) refl none

-- ---- how many methods there are

instances_counted : (is : List InstanceTree) → length (flat_map of_instance is) ≡ length (flat_map (λ (i : InstanceTree). i.methods) is)
instances_counted [] = refl
instances_counted (i ∷ is) =
    length-append (of_instance i) (flat_map of_instance is)
    ∙ ap (λ n. n + length (flat_map of_instance is)) (length-map-range_with_len (method_of (Some i.name)) 0 (length i.methods))
    ∙ ap (λ n. length i.methods + n) (instances_counted is)
    ∙ sym (length-append i.methods (flat_map (λ (j : InstanceTree). j.methods) is))

pub methods_counted : (p : UnitTree) → length (methods_in_order p) ≡ number_of_methods p
methods_counted p =
    length-append (home_methods None (length p.methods)) (flat_map of_instance p.instances)
    ∙ ap (λ n. n + length (flat_map of_instance p.instances)) (length-map-range_with_len (method_of None) 0 (length p.methods))
    ∙ ap (λ n. length p.methods + n) (instances_counted p.instances)
