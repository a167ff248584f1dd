-- Methods of a program in order, and the one of a number.
use Rattle.std.proofs.Common.{◌≡◌, ◌<◌, ℕ, zero, suc, ◌+◌, Bool, if◌then◌else◌, List, [], ◌∷◌, ◌++◌, length, map, flat_map, drop, get_or, slice_get, Option, Some, None, option_map, true, sym, ap, ◌∙◌, append_assoc, arith, eq-eqb, ne_eqb}
use Rattle.std.specs.List.{range_with_len}
use Rattle.std.proofs.lemmas.List.{map-append}
use Rattle.std.proofs.lemmas.Option.{slice_get-map}
use Rattle.std.proofs.lemmas.List.FromFn.{map-range_with_len_more}
use Rattle.std.specs.Prelude.{bytes_eq}
use Rattle.ds2_meaning.specs.declared.methods.Method.{Method}
use Rattle.ds2_meaning.specs.declared.units.Instance.{Instance}
use Rattle.ds2_meaning.specs.Location.{Home}
use Rattle.ds2_meaning.specs.Method.{MethodTree}
use Rattle.ds2_meaning.specs.ProgramTree.{instance_methods, InstanceTree, UnitTree}
use Rattle.ds2_meaning.specs.View.{instance_tree, typed_method}
use Rattle.ds2_locality.specs.Deeds.{MethodAt}
use Rattle.ds2_deeds.specs.declared.location.CodeHome.{CodeHome}
use Rattle.ds2_deeds.specs.declared.methods.MethodName.{MethodName}
use Rattle.ds2_deeds.specs.NamedLocations.{code_home}
use Rattle.ds2_deeds.specs.NamedMethods.{method_of_name, methods_named, home_methods, methods_in_order, number_among_methods, AreOwnFirst}
use Rattle.ds2_deeds.proofs.DeedLemmas.{drop_next}

-- the method of a number of the first instance of a name that is left
pub found_there : (instances : List Instance) (i : ℕ) (x : Instance) (name : List ℕ) (k : ℕ) (o : Option Method) (whole : Option MethodTree) → i < length instances → x ≡ get_or instances i x
    → bytes_eq x.name name ≡ true → o ≡ slice_get x.package.methods k → slice_get (instance_methods (map instance_tree (drop i instances)) name) k ≡ whole → option_map typed_method o ≡ whole
found_there instances i x name k o whole lt here is got before =
    ap (λ (m : Option Method). option_map typed_method m) got ∙ sym (slice_get-map typed_method x.package.methods k)
    ∙ ap (λ (b : Bool). slice_get (if b then map typed_method x.package.methods else instance_methods (map instance_tree (drop (i + 1) instances)) name) k) (sym is)
    ∙ ap (λ (l : List Instance). slice_get (instance_methods (map instance_tree l) name) k) (sym (drop_next instances i x lt here))
    ∙ before

-- one method of a home more
one_more : (home : Home) (n : ℕ) → home_methods home (n + 1) ≡ home_methods home n ++ (record { home = home; number = n }) ∷ []
one_more home n = map-range_with_len_more (λ (k : ℕ). record { home = home; number = k }) 0 n n (omega arith)

pub method_added : (now next : List MethodName) (before : List MethodAt) (home : CodeHome) (n : ℕ) → next ≡ now ++ (record { home = home; number = n }) ∷ []
    → methods_named now ≡ before ++ home_methods (code_home home) n → methods_named next ≡ before ++ home_methods (code_home home) (n + 1)
method_added now next before home n is so_far =
    let last : MethodAt = record { home = code_home home; number = n } in
    ap (λ l. methods_named l) is ∙ map-append method_of_name now ((record { home = home; number = n }) ∷ []) ∙ ap (λ l. l ++ last ∷ []) so_far
    ∙ append_assoc before (home_methods (code_home home) n) (last ∷ []) ∙ ap (λ l. before ++ l) (sym (one_more (code_home home) n))

-- ---- a program's own methods

-- the method of a number of the program itself
abbrev own : ℕ → MethodAt
own k = record { home = None; number = k }

later_own : (from k count : ℕ) (rest : List MethodAt) → k < count → number_among_methods (map own (range_with_len from count) ++ rest) (own (from + k)) ≡ Some k
later_own from k zero rest lt = absurd (omega (arith, lt))
later_own from zero (suc count) rest lt =
    ap (λ (b : Bool). if b then Some 0 else option_map (λ m. suc m) (number_among_methods (map own (range_with_len (from + 1) count) ++ rest) (own (from + zero)))) (eq-eqb (from + zero) from (omega arith))
later_own from (suc k) (suc count) rest lt =
    let others = map own (range_with_len (from + 1) count) ++ rest in
    let there : from + suc k ≡ from + 1 + k = omega arith in
    let less : k < count = omega (arith, lt) in
    ap (λ (b : Bool). if b then Some 0 else option_map (λ m. suc m) (number_among_methods others (own (from + suc k)))) (ne_eqb (from + suc k) from (λ e. omega (arith, e)))
    ∙ ap (λ j. option_map (λ m. suc m) (number_among_methods others (own j))) there ∙ ap (λ o. option_map (λ m. suc m) o) (later_own (from + 1) k count rest less)

-- they stand first
pub own_are_first : (p : UnitTree) → AreOwnFirst (length p.methods) (methods_in_order p)
own_are_first p k lt = let here : k ≡ 0 + k = omega arith in ap (λ j. number_among_methods (methods_in_order p) (own j)) here ∙ later_own 0 k (length p.methods) (flat_map (λ (i : InstanceTree). home_methods (Some i.name) (length i.methods)) p.instances) lt
