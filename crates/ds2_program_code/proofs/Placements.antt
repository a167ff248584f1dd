-- The placements of a program are what the laws of code ask for.
use Rattle.std.proofs.Common.{◌≡◌, ℕ, zero, suc, ◌+◌, ◌<◌, ◌≤◌, nat_lt, nat_le, Bool, true, false, not, ◌&&◌, ◌||◌, List, [], ◌∷◌, ◌++◌, length, map, bytes_eq, Option, Some, None, refl, sym, ap, ◌∙◌, subst, arith, length-append, lt-ltb, le-ltb, ltb-true, le-leb, if◌then◌else◌}
use Rattle.std.specs.Prelude.{IsTrue, slice_get}
use Rattle.std.specs.Option.{option_map}
use Rattle.std.proofs.lemmas.Bool.{true≢false, lt-leb}
use Rattle.std.proofs.lemmas.List.{length-map}
use Rattle.std.proofs.lemmas.Slice.Eq.{bytes_eq-Decides}
use Rattle.ds2_meaning.specs.declared.globals.Variable.{Variable}
use Rattle.ds2_meaning.specs.declared.location.Global.{Global}
use Rattle.ds2_meaning.specs.declared.location.Global.TheVariants.{Named, First, Last, Present, Parameter as ParameterNamed}
use Rattle.ds2_meaning.specs.declared.methods.Parameter.{Parameter}
use Rattle.ds2_meaning.specs.IsTyped.{are_distinct}
use Rattle.ds2_meaning.specs.Location.{Home, Location, is_same_home, is_same_global, is_same_location}
use Rattle.ds2_meaning.specs.Method.{MethodTree}
use Rattle.ds2_meaning.specs.ProgramTree.{BodyTree, UnitTree, has_variable, is_listed}
use Rattle.ds2_gen.specs.CodeCells.{Nameable, GlobalAt, LocalNamed, is_same_nameable, CodeCell, SlotCell, LocalCell, HashCell, IteratorCell, ParameterCell}
use Rattle.ds2_gen.specs.MethodCode.{HaveLocals, IsLocalAt, IsMethodPlacement, is_in_frame}
use Rattle.ds2_gen.specs.StatementCode.{statements_keep}
use Rattle.ds2_gen.specs.UnitCode.{HaveSlots, IsUnitPlacement}
use Rattle.ds2_program_code.specs.PlacedProgram.{number_of_first, number_of_location, number_of_name, slot_locations, hash_locations, iterator_locations, parameter_locations, first_cell, program_cell, own_slots, layout_size, first_of_run, first_of_term, is_numbered_among, names_of_variables, is_kept_slot, system_cell, system_reserved, system_placement, frame_names, frame_size, method_cell, method_reserved, method_placement}
use Rattle.ds2_program_code.specs.PlacementLaws.{HasDistinctParameters, SystemMethodFits, MethodFits, PlacementsFit}

-- ---- truths

pub some_is : {X : Type 0} (a b : X) → Some a ≡ Some b → a ≡ b
some_is a b e = cc

pub both : (a b : Bool) → (a && b) ≡ true → (a ≡ true) × (b ≡ true)
both true b e = (refl, e)
both false b e = absurd (true≢false (sym e))

three_true : (a b c : Bool) → a ≡ true → b ≡ true → c ≡ true → (a && (b && c)) ≡ true
three_true true true c e f g = g
three_true true false c e f g = absurd (true≢false (sym f))
three_true false b c e f g = absurd (true≢false (sym e))

first_false : (a b : Bool) → a ≡ false → (a && b) ≡ false
first_false true b e = absurd (true≢false e)
first_false false b e = refl

middle_false : (a b c : Bool) → b ≡ false → (a && (b && c)) ≡ false
middle_false true true c e = absurd (true≢false e)
middle_false true false c e = refl
middle_false false b c e = refl

last_false : (a b c : Bool) → c ≡ false → (a && (b && c)) ≡ false
last_false true true c e = e
last_false true false c e = refl
last_false false b c e = refl

second_false : (a b : Bool) → b ≡ false → (a && b) ≡ false
second_false true b e = e
second_false false b e = refl

both_true : (a b : Bool) → a ≡ true → b ≡ true → (a && b) ≡ true
both_true true b e f = f
both_true false b e f = absurd (true≢false (sym e))

turned : (a : Bool) → a ≡ false → not a ≡ true
turned true e = absurd (true≢false e)
turned false e = refl

turned_back : (a : Bool) → a ≡ true → not a ≡ false
turned_back true e = refl
turned_back false e = absurd (true≢false (sym e))

not_is : (a : Bool) → not a ≡ true → a ≡ false
not_is true e = sym e
not_is false e = refl

first_of_both : (a b : Bool) → (a || b) ≡ false → a ≡ false
first_of_both true b e = absurd (true≢false e)
first_of_both false b e = refl

pub either_left : (a b : Bool) → a ≡ true → (a || b) ≡ true
either_left true b e = refl
either_left false b e = absurd (true≢false (sym e))

pub either_right : (a b : Bool) → b ≡ true → (a || b) ≡ true
either_right true b e = refl
either_right false b e = e

neither : (a b : Bool) → a ≡ false → b ≡ false → (a || b) ≡ false
neither true b e f = absurd (true≢false e)
neither false b e f = f

either_more : (a b c : Bool) → (a ≡ true → c ≡ true) → (a || b) ≡ true → (c || b) ≡ true
either_more true b c f e = either_left c b (f refl)
either_more false b c f e = either_right c b e

-- ---- numbers

number_by : {X : Type 0} (test : X → Bool) (b : Bool) (x : X) (xs : List X) (n : ℕ) (o : Option ℕ) → test x ≡ b → ((k : ℕ) → o ≡ Some k → (y : X) × (slice_get xs k ≡ Some y) × (test y ≡ true))
    → (if b then Some 0 else option_map (λ k. suc k) o) ≡ Some n → (y : X) × (slice_get (x ∷ xs) n ≡ Some y) × (test y ≡ true)
number_by test true x xs n o passes later e = (x, ap (λ k. slice_get (x ∷ xs) k) (sym (some_is 0 n e)), passes)
number_by test false x xs n None passes later e = absurd cc
number_by test false x xs n (Some k) passes later e =
    let it = later k refl in
    (it.0, ap (λ m. slice_get (x ∷ xs) m) (sym (some_is (suc k) n e)) ∙ it.1, it.2)

-- the item of a number passes the test
pub number_has : {X : Type 0} (test : X → Bool) (xs : List X) (n : ℕ) → number_of_first test xs ≡ Some n → (y : X) × (slice_get xs n ≡ Some y) × (test y ≡ true)
number_has test [] n e = absurd cc
number_has test (x ∷ xs) n e = number_by test (test x) x xs n (number_of_first test xs) refl (λ k f. number_has test xs k f) e

inside : {X : Type 0} (xs : List X) (n : ℕ) (x : X) → slice_get xs n ≡ Some x → n < length xs
inside [] n x e = absurd cc
inside (y ∷ xs) zero x e = omega arith
inside (y ∷ xs) (suc n) x e = let less : n < length xs = inside xs n x e in omega arith

mapped_cell : (f : ℕ → CodeCell) (o : Option ℕ) (c : CodeCell) → option_map f o ≡ Some c → (n : ℕ) × (o ≡ Some n) × (f n ≡ c)
mapped_cell f None c e = absurd cc
mapped_cell f (Some n) c e = (n, refl, some_is (f n) c e)

-- ---- names and locations

home_is : (a b : Home) → is_same_home a b ≡ true → a ≡ b
home_is None None e = refl
home_is None (Some b) e = absurd (true≢false (sym e))
home_is (Some a) None e = absurd (true≢false (sym e))
home_is (Some a) (Some b) e = ap Some ((bytes_eq-Decides a b).0 e)

global_is : (a b : Global) → is_same_global a b ≡ true → a ≡ b
global_is (Named a) (Named b) e = ap Named ((bytes_eq-Decides a b).0 e)
global_is (First a) (First b) e = ap First ((bytes_eq-Decides a b).0 e)
global_is (Last a) (Last b) e = ap Last ((bytes_eq-Decides a b).0 e)
global_is (Present a) (Present b) e = ap Present ((bytes_eq-Decides a b).0 e)
global_is (ParameterNamed a) (ParameterNamed b) e = ap ParameterNamed ((bytes_eq-Decides a b).0 e)
global_is _ _ e = absurd (true≢false (sym e))

abbrev located : Home → Global → Location
located home global = record { home = home; global = global }

location_parts : (a b : Location) → a.home ≡ b.home → a.global ≡ b.global → located a.home a.global ≡ located b.home b.global
location_parts a b h g = ap (λ x. located x a.global) h ∙ ap (λ x. located b.home x) g

pub location_is : (a b : Location) → is_same_location a b ≡ true → a ≡ b
location_is a b e =
    let parts = both (is_same_home a.home b.home) (is_same_global a.global b.global) e in
    location_parts a b (home_is a.home b.home parts.0) (global_is a.global b.global parts.1)

-- locations of one number are one
one_location : (locations : List Location) (a b : Location) (n : ℕ) → number_of_location locations a ≡ Some n → number_of_location locations b ≡ Some n → is_same_location a b ≡ true
one_location locations a b n e f =
    let first = number_has (λ other. is_same_location a other) locations n e in
    let second = number_has (λ other. is_same_location b other) locations n f in
    let same : first.0 ≡ second.0 = some_is first.0 second.0 (sym first.1 ∙ second.1) in
    ap (λ x. is_same_location a x) (location_is b second.0 second.2 ∙ sym same) ∙ first.2

one_name : (names : List (List ℕ)) (a b : List ℕ) (n : ℕ) → number_of_name names a ≡ Some n → number_of_name names b ≡ Some n → bytes_eq a b ≡ true
one_name names a b n e f =
    let first = number_has (λ other. bytes_eq a other) names n e in
    let second = number_has (λ other. bytes_eq b other) names n f in
    let same : first.0 ≡ second.0 = some_is first.0 second.0 (sym first.1 ∙ second.1) in
    ap (λ x. bytes_eq a x) ((bytes_eq-Decides b second.0).0 second.2 ∙ sym same) ∙ first.2

location_inside : (locations : List Location) (a : Location) (n : ℕ) → number_of_location locations a ≡ Some n → n < length locations
location_inside locations a n e =
    let it = number_has (λ other. is_same_location a other) locations n e in
    inside locations n it.0 it.1

name_inside : (names : List (List ℕ)) (a : List ℕ) (n : ℕ) → number_of_name names a ≡ Some n → n < length names
name_inside names a n e =
    let it = number_has (λ other. bytes_eq a other) names n e in
    inside names n it.0 it.1

-- ---- globals

-- what the cell of a global tells
abbrev pub IsGlobalCell : UnitTree → Location → CodeCell → Type 0
IsGlobalCell p at (SlotCell n) = number_of_location (slot_locations p) at ≡ Some n
IsGlobalCell p at (HashCell n) = number_of_location (hash_locations p) at ≡ Some n
IsGlobalCell p at (IteratorCell n) = number_of_location (iterator_locations p) at ≡ Some n
IsGlobalCell p at (ParameterCell n) = number_of_location (parameter_locations p) at ≡ Some n
IsGlobalCell p at (LocalCell n) = ⊥

cell_by : (p : UnitTree) (at : Location) (o1 o2 o3 o4 : Option ℕ) (c : CodeCell) → number_of_location (slot_locations p) at ≡ o1 → number_of_location (hash_locations p) at ≡ o2
    → number_of_location (iterator_locations p) at ≡ o3 → number_of_location (parameter_locations p) at ≡ o4
    → first_cell (option_map SlotCell o1) (first_cell (option_map HashCell o2) (first_cell (option_map IteratorCell o3) (option_map ParameterCell o4))) ≡ Some c → IsGlobalCell p at c
cell_by p at (Some n) o2 o3 o4 c e1 e2 e3 e4 e = subst (λ k. IsGlobalCell p at k) (some_is (SlotCell n) c e) e1
cell_by p at None (Some n) o3 o4 c e1 e2 e3 e4 e = subst (λ k. IsGlobalCell p at k) (some_is (HashCell n) c e) e2
cell_by p at None None (Some n) o4 c e1 e2 e3 e4 e = subst (λ k. IsGlobalCell p at k) (some_is (IteratorCell n) c e) e3
cell_by p at None None None (Some n) c e1 e2 e3 e4 e = subst (λ k. IsGlobalCell p at k) (some_is (ParameterCell n) c e) e4
cell_by p at None None None None c e1 e2 e3 e4 e = absurd cc

pub global_cell : (p : UnitTree) (at : Location) (c : CodeCell) → program_cell p at ≡ Some c → IsGlobalCell p at c
global_cell p at c e =
    cell_by p at (number_of_location (slot_locations p) at) (number_of_location (hash_locations p) at) (number_of_location (iterator_locations p) at) (number_of_location (parameter_locations p) at) c refl refl refl refl e

globals_by : (p : UnitTree) (a b : Location) (c : CodeCell) → IsGlobalCell p a c → IsGlobalCell p b c → is_same_location a b ≡ true
globals_by p a b (SlotCell n) e f = one_location (slot_locations p) a b n e f
globals_by p a b (HashCell n) e f = one_location (hash_locations p) a b n e f
globals_by p a b (IteratorCell n) e f = one_location (iterator_locations p) a b n e f
globals_by p a b (ParameterCell n) e f = one_location (parameter_locations p) a b n e f
globals_by p a b (LocalCell n) e f = absurd e

globals_apart : (p : UnitTree) (a b : Location) (c : CodeCell) → program_cell p a ≡ Some c → program_cell p b ≡ Some c → is_same_location a b ≡ true
globals_apart p a b c e f = globals_by p a b c (global_cell p a c e) (global_cell p b c f)

global_below : (p : UnitTree) (a : Location) (n : ℕ) → program_cell p a ≡ Some (SlotCell n) → n < layout_size p
global_below p a n e = location_inside (slot_locations p) a n (global_cell p a (SlotCell n) e)

slot_is : (a b : ℕ) → SlotCell a ≡ SlotCell b → a ≡ b
slot_is a b e = cc

local_is : (a b : ℕ) → LocalCell a ≡ LocalCell b → a ≡ b
local_is a b e = cc

slot_no_local : (a b : ℕ) → SlotCell a ≡ LocalCell b → ⊥
slot_no_local a b e = absurd cc

-- ---- locals

name_count : (variables : List Variable) → length (names_of_variables variables) ≡ length variables
name_count variables = length-map variables (λ (v : Variable). v.name)

pub turned_name : (a b : List ℕ) → bytes_eq a b ≡ true → bytes_eq b a ≡ true
turned_name a b e = (bytes_eq-Decides b a).1 (sym ((bytes_eq-Decides a b).0 e))

listed_by : (b : Bool) (v : Variable) (name : List ℕ) (o : Option ℕ) (n : ℕ) (rest : Bool) → bytes_eq name v.name ≡ b → ((k : ℕ) → o ≡ Some k → rest ≡ true) → (if b then Some 0 else option_map (λ k. suc k) o) ≡ Some n
    → (bytes_eq v.name name || rest) ≡ true
listed_by true v name o n rest same later e = either_left (bytes_eq v.name name) rest (turned_name name v.name same)
listed_by false v name None n rest same later e = absurd cc
listed_by false v name (Some k) n rest same later e = either_right (bytes_eq v.name name) rest (later k refl)

numbered_listed : (variables : List Variable) (name : List ℕ) (n : ℕ) → number_of_name (names_of_variables variables) name ≡ Some n → has_variable variables name ≡ true
numbered_listed [] name n e = absurd cc
numbered_listed (v ∷ variables) name n e =
    listed_by (bytes_eq name v.name) v name (number_of_name (names_of_variables variables) name) n (has_variable variables name) refl (λ k f. numbered_listed variables name k f) e

pub numbered_by : (b : Bool) (o : Option ℕ) → (b ≡ false → (k : ℕ) × (o ≡ Some k)) → (n : ℕ) × ((if b then Some 0 else option_map (λ k. suc k) o) ≡ Some n)
numbered_by true o later = (0, refl)
numbered_by false o later =
    let it = later refl in
    (suc it.0, ap (λ x. option_map (λ k. suc k) x) it.1)

pub later_by : (t rest : Bool) (a b : List ℕ) → bytes_eq a b ≡ t → (t || rest) ≡ true → bytes_eq b a ≡ false → rest ≡ true
later_by true rest a b same e f = absurd (true≢false (sym (turned_name a b same) ∙ f))
later_by false rest a b same e f = e

pub listed_later : (a b : List ℕ) (rest : Bool) → (bytes_eq a b || rest) ≡ true → bytes_eq b a ≡ false → rest ≡ true
listed_later a b rest e f = later_by (bytes_eq a b) rest a b refl e f

listed_numbered : (variables : List Variable) (name : List ℕ) → has_variable variables name ≡ true → (n : ℕ) × (number_of_name (names_of_variables variables) name ≡ Some n)
listed_numbered [] name e = absurd (true≢false (sym e))
listed_numbered (v ∷ variables) name e =
    numbered_by (bytes_eq name v.name) (number_of_name (names_of_variables variables) name) (λ other. listed_numbered variables name (listed_later v.name name (has_variable variables name) e other))

pub self_listed : (v : Variable) (rest : Bool) → (bytes_eq v.name v.name || rest) ≡ true
self_listed v rest = either_left (bytes_eq v.name v.name) rest ((bytes_eq-Decides v.name v.name).1 refl)

-- ---- system methods

among_not : (first count n : ℕ) → first + count ≤ n → is_numbered_among first count n ≡ false
among_not first count n h = second_false (nat_le first n) (nat_lt n (first + count)) (le-ltb n (first + count) h)

among_is : (first count n : ℕ) → first ≤ n → n < first + count → is_numbered_among first count n ≡ true
among_is first count n h k = both_true (nat_le first n) (nat_lt n (first + count)) (le-leb first n h) (lt-ltb n (first + count) k)

module _ (p : UnitTree) (first : ℕ) (body : BodyTree) (least : layout_size p ≤ first) where
  local_at : (name : List ℕ) (c : CodeCell) → system_cell p first body (LocalNamed name) ≡ Some c
      → (n : ℕ) × (number_of_name (names_of_variables body.locals) name ≡ Some n) × (SlotCell (first + n) ≡ c)
  local_at name c e = mapped_cell (λ n. SlotCell (first + n)) (number_of_name (names_of_variables body.locals) name) c e

  global_no_local : (a : Location) (name : List ℕ) (c : CodeCell) → program_cell p a ≡ Some c → system_cell p first body (LocalNamed name) ≡ Some c → ⊥
  global_no_local a name c e f =
      let it = local_at name c f in
      let below : first + it.0 < layout_size p = global_below p a (first + it.0) (e ∙ ap Some (sym it.2)) in
      absurd (omega arith)

  system_apart : (x y : Nameable) (c : CodeCell) → system_cell p first body x ≡ Some c → system_cell p first body y ≡ Some c → is_same_nameable x y ≡ true
  system_apart (GlobalAt a) (GlobalAt b) c e f = globals_apart p a b c e f
  system_apart (GlobalAt a) (LocalNamed n) c e f = absurd (global_no_local a n c e f)
  system_apart (LocalNamed n) (GlobalAt b) c e f = absurd (global_no_local b n c f e)
  system_apart (LocalNamed n) (LocalNamed m) c e f =
      let one = local_at n c e in
      let other = local_at m c f in
      let sums : first + one.0 ≡ first + other.0 = slot_is (first + one.0) (first + other.0) (one.2 ∙ sym other.2) in
      let same : other.0 ≡ one.0 = omega arith in
      one_name (names_of_variables body.locals) n m one.0 one.1 (other.1 ∙ ap Some same)

  below_unkept : (kept n : ℕ) → n < layout_size p → is_kept_slot (layout_size p) first (length body.locals) (statements_keep body.statements) kept n ≡ false
  below_unkept kept n less =
      first_false (nat_le (layout_size p) n)
      (not (is_numbered_among first (length body.locals) n) && (nat_lt n (first + length body.locals + kept) || not (is_numbered_among (first + length body.locals) (statements_keep body.statements) n)))
      (lt-leb (layout_size p) n less)

  global_unreserved : (a : Location) (c : CodeCell) (kept : ℕ) → program_cell p a ≡ Some c → system_reserved p first body kept c ≡ false
  global_unreserved a (SlotCell n) kept e = below_unkept kept n (global_below p a n e)
  global_unreserved a (LocalCell n) kept e = refl
  global_unreserved a (HashCell n) kept e = refl
  global_unreserved a (IteratorCell n) kept e = refl
  global_unreserved a (ParameterCell n) kept e = refl

  system_unreserved : (x : Nameable) (c : CodeCell) (kept : ℕ) → system_cell p first body x ≡ Some c → system_reserved p first body kept c ≡ false
  system_unreserved (GlobalAt a) c kept e = global_unreserved a c kept e
  system_unreserved (LocalNamed name) c kept e =
      let it = local_at name c e in
      let count = name_count body.locals in
      let less : it.0 < length (names_of_variables body.locals) = name_inside (names_of_variables body.locals) name it.0 it.1 in
      let among : is_numbered_among first (length body.locals) (first + it.0) ≡ true = among_is first (length body.locals) (first + it.0) (omega arith) (omega (arith, count, less)) in
      subst (λ k. system_reserved p first body kept k ≡ false) it.2
      (middle_false (nat_le (layout_size p) (first + it.0)) (not (is_numbered_among first (length body.locals) (first + it.0)))
      (nat_lt (first + it.0) (first + length body.locals + kept) || not (is_numbered_among (first + length body.locals) (statements_keep body.statements) (first + it.0)))
      (turned_back (is_numbered_among first (length body.locals) (first + it.0)) among))

  module _ (n kept : ℕ) (less : n < statements_keep body.statements) where
    system_behind : n < kept → system_reserved p first body kept (SlotCell (first + length body.locals + n)) ≡ true
    system_behind above =
        let m = first + length body.locals + n in
        three_true (nat_le (layout_size p) m) (not (is_numbered_among first (length body.locals) m)) (nat_lt m (first + length body.locals + kept) || not (is_numbered_among (first + length body.locals) (statements_keep body.statements) m))
        (le-leb (layout_size p) m (omega arith)) (turned (is_numbered_among first (length body.locals) m) (among_not first (length body.locals) m (omega arith)))
        (either_left (nat_lt m (first + length body.locals + kept)) (not (is_numbered_among (first + length body.locals) (statements_keep body.statements) m)) (lt-ltb m (first + length body.locals + kept) (omega arith)))

    system_ahead : kept ≤ n → system_reserved p first body kept (SlotCell (first + length body.locals + n)) ≡ false
    system_ahead least_kept =
        let m = first + length body.locals + n in
        let among : is_numbered_among (first + length body.locals) (statements_keep body.statements) m ≡ true = among_is (first + length body.locals) (statements_keep body.statements) m (omega arith) (omega arith) in
        last_false (nat_le (layout_size p) m) (not (is_numbered_among first (length body.locals) m)) (nat_lt m (first + length body.locals + kept) || not (is_numbered_among (first + length body.locals) (statements_keep body.statements) m))
        (neither (nat_lt m (first + length body.locals + kept)) (not (is_numbered_among (first + length body.locals) (statements_keep body.statements) m)) (le-ltb m (first + length body.locals + kept) (omega arith))
        (turned_back (is_numbered_among (first + length body.locals) (statements_keep body.statements) m) among))

  kept_on : (kept more n : ℕ) → kept ≤ more → nat_lt n (first + length body.locals + kept) ≡ true → nat_lt n (first + length body.locals + more) ≡ true
  kept_on kept more n h e =
      let less : n < first + length body.locals + kept = ltb-true n (first + length body.locals + kept) e in
      lt-ltb n (first + length body.locals + more) (omega arith)

  system_grows : (kept more : ℕ) (c : CodeCell) → kept ≤ more → system_reserved p first body kept c ≡ true → system_reserved p first body more c ≡ true
  system_grows kept more (SlotCell n) h is =
      let apart = not (is_numbered_among (first + length body.locals) (statements_keep body.statements) n) in
      let parts = both (nat_le (layout_size p) n) (not (is_numbered_among first (length body.locals) n) && (nat_lt n (first + length body.locals + kept) || apart)) is in
      let rest = both (not (is_numbered_among first (length body.locals) n)) (nat_lt n (first + length body.locals + kept) || apart) parts.1 in
      three_true (nat_le (layout_size p) n) (not (is_numbered_among first (length body.locals) n)) (nat_lt n (first + length body.locals + more) || apart) parts.0 rest.0
      (either_more (nat_lt n (first + length body.locals + kept)) apart (nat_lt n (first + length body.locals + more)) (kept_on kept more n h) rest.1)
  system_grows kept more (LocalCell n) h is = is
  system_grows kept more (HashCell n) h is = is
  system_grows kept more (IteratorCell n) h is = is
  system_grows kept more (ParameterCell n) h is = is

  have_slots : (vs : List Variable) → ((name : List ℕ) → has_variable vs name ≡ true → has_variable body.locals name ≡ true) → HaveSlots (system_placement p first body) vs
  have_slots [] all = tt
  have_slots (v ∷ vs) all =
      let it = listed_numbered body.locals v.name (all v.name (self_listed v (has_variable vs v.name))) in (
        (first + it.0, ap (λ o. option_map (λ n. SlotCell (first + n)) o) it.1),
        have_slots vs (λ name h. all name (either_right (bytes_eq v.name name) (has_variable vs name) h)),
      )

  system_alone : (name : List ℕ) (c : CodeCell) → system_cell p first body (LocalNamed name) ≡ Some c → has_variable body.locals name ≡ true
  system_alone name c e =
      let it = local_at name c e in
      numbered_listed body.locals name it.0 it.1

  system_frameless : (x : Nameable) (n : ℕ) → system_cell p first body x ≡ Some (LocalCell n) → ⊥
  system_frameless (GlobalAt a) n e = global_cell p a (LocalCell n) e
  system_frameless (LocalNamed name) n e =
      let it = local_at name (LocalCell n) e in
      slot_no_local (first + it.0) n it.2

  system_placed : IsUnitPlacement (system_placement p first body) body.locals
  system_placed = record {
    sound = record {
      apart = system_apart;
      unreserved = system_unreserved;
      values = λ n less. tt;
      behind = λ n kept less above. system_behind n kept less above;
      ahead = λ n kept less least_kept. system_ahead n kept less least_kept;
      grows = system_grows;
    };
    slots = have_slots body.locals (λ name h. h);
    alone = system_alone;
    frameless = system_frameless;
    kept_frameless = λ k n less e. slot_no_local (first + length body.locals + k) n e;
  }

  -- a system method leaves its slots to none of the methods that it calls
  module _ (method : MethodTree) where
    system_locals : (name : List ℕ) (c : CodeCell) → system_cell p first body (LocalNamed name) ≡ Some c → is_in_frame c ≡ false → method_reserved p method 0 c ≡ true
    system_locals name c e out =
        let it = local_at name c e in
        subst (λ k. method_reserved p method 0 k ≡ true) it.2 (le-leb (layout_size p) (first + it.0) (omega arith))

    system_keeps : (kept : ℕ) (c : CodeCell) → system_reserved p first body kept c ≡ true → is_in_frame c ≡ false → method_reserved p method 0 c ≡ true
    system_keeps kept (SlotCell n) is out =
        (both (nat_le (layout_size p) n)
        (not (is_numbered_among first (length body.locals) n) && (nat_lt n (first + length body.locals + kept) || not (is_numbered_among (first + length body.locals) (statements_keep body.statements) n))) is).0
    system_keeps kept (LocalCell n) is out = absurd (true≢false out)
    system_keeps kept (HashCell n) is out = is
    system_keeps kept (IteratorCell n) is out = is
    system_keeps kept (ParameterCell n) is out = is

  pub system_fits : SystemMethodFits p first body
  system_fits = record {
    placed = system_placed;
    calls = λ method. record { globals = λ at. refl; locals = system_locals method; reserved = system_keeps method };
  }

-- ---- methods

frame_count : (method : MethodTree) → length (frame_names method) ≡ frame_size method
frame_count method =
    let parameters = map (λ (x : Parameter). x.name) method.parameters in
    omega (arith, length-append parameters (names_of_variables method.locals), length-map method.parameters (λ (x : Parameter). x.name), name_count method.locals)

-- names of parameters in a frame
abbrev parameter_names : List Parameter → List (List ℕ)
parameter_names ps = map (λ (x : Parameter). x.name) ps

local_by : (b : Bool) (x : Parameter) (ps : List Parameter) (rest : List (List ℕ)) (locals : ℕ) (name : List ℕ) (o : Option ℕ) (n : ℕ) → bytes_eq name x.name ≡ b → ((k : ℕ) → o ≡ Some k → IsLocalAt ps locals name k)
    → (if b then Some 0 else option_map (λ k. suc k) o) ≡ Some n → IsLocalAt (x ∷ ps) locals name n
local_by true x ps rest locals name o n same later e = subst (λ k. IsLocalAt (x ∷ ps) locals name k) (some_is 0 n e) same
local_by false x ps rest locals name None n same later e = absurd cc
local_by false x ps rest locals name (Some k) n same later e = subst (λ m. IsLocalAt (x ∷ ps) locals name m) (some_is (suc k) n e) (same, later k refl)

local_place : (ps : List Parameter) (rest : List (List ℕ)) (locals : ℕ) (name : List ℕ) (n : ℕ) → length rest ≤ locals → number_of_name (parameter_names ps ++ rest) name ≡ Some n → IsLocalAt ps locals name n
local_place [] rest locals name n h e = let less : n < length rest = name_inside rest name n e in let within : n < locals = omega arith in within
local_place (x ∷ ps) rest locals name n h e =
    local_by (bytes_eq name x.name) x ps rest locals name (number_of_name (parameter_names ps ++ rest) name) n refl (λ k f. local_place ps rest locals name k h f) e

-- the number of a name behind names that are others
first_other_by : (t : Bool) (x name : List ℕ) (rest : Bool) → bytes_eq name x ≡ t → (bytes_eq x name || rest) ≡ false → t ≡ false
first_other_by true x name rest same h = absurd (true≢false (sym (either_left (bytes_eq x name) rest (turned_name name x same)) ∙ h))
first_other_by false x name rest same h = refl

second_other : (t rest : Bool) → (t || rest) ≡ false → rest ≡ false
second_other true rest h = absurd (true≢false h)
second_other false rest h = h

number_behind : (front rest : List (List ℕ)) (name : List ℕ) → is_listed front name ≡ false → number_of_name (front ++ name ∷ rest) name ≡ Some (length front)
number_behind [] rest name fresh = ap (λ b. if b then Some 0 else option_map (λ k. suc k) (number_of_name rest name)) ((bytes_eq-Decides name name).1 refl)
number_behind (x ∷ front) rest name fresh =
    let other : bytes_eq name x ≡ false = first_other_by (bytes_eq name x) x name (is_listed front name) refl fresh in
    ap (λ b. if b then Some 0 else option_map (λ k. suc k) (number_of_name (front ++ name ∷ rest) name)) other
    ∙ ap (λ o. option_map (λ k. suc k) o) (number_behind front rest name (second_other (bytes_eq x name) (is_listed front name) fresh))

-- one more name in front
listed_behind : (front : List (List ℕ)) (x name : List ℕ) → is_listed front name ≡ false → bytes_eq x name ≡ false → is_listed (front ++ x ∷ []) name ≡ false
listed_behind [] x name e f = neither (bytes_eq x name) false f refl
listed_behind (y ∷ front) x name e f =
    neither (bytes_eq y name) (is_listed (front ++ x ∷ []) name) (first_of_both (bytes_eq y name) (is_listed front name) e) (listed_behind front x name (second_other (bytes_eq y name) (is_listed front name) e) f)

shifted_name : (front rest : List (List ℕ)) (x : List ℕ) → (front ++ x ∷ []) ++ rest ≡ front ++ x ∷ rest
shifted_name [] rest x = refl
shifted_name (y ∷ front) rest x = ap (λ names. y ∷ names) (shifted_name front rest x)

not_self : (t : Bool) (names : List (List ℕ)) (x name : List ℕ) → bytes_eq x name ≡ t → is_listed names x ≡ false → is_listed names name ≡ true → t ≡ false
not_self true names x name same fresh there = absurd (true≢false (sym there ∙ ap (is_listed names) (sym ((bytes_eq-Decides x name).0 same)) ∙ fresh))
not_self false names x name same fresh there = refl

module _ (p : UnitTree) (method : MethodTree) where
  -- parameters behind others in a frame
  have_locals : (front : List (List ℕ)) (ps : List Parameter) (n : ℕ) → frame_names method ≡ front ++ (parameter_names ps ++ names_of_variables method.locals) → length front ≡ n → IsTrue (are_distinct (parameter_names ps))
      → ((name : List ℕ) → is_listed (parameter_names ps) name ≡ true → is_listed front name ≡ false) → HaveLocals (method_placement p method) n ps
  have_locals front [] n all count distinct fresh = tt
  have_locals front (x ∷ ps) n all count distinct fresh =
      let rest = parameter_names ps ++ names_of_variables method.locals in
      let parts = both (not (is_listed (parameter_names ps) x.name)) (are_distinct (parameter_names ps)) distinct in
      let alone : is_listed (parameter_names ps) x.name ≡ false = not_is (is_listed (parameter_names ps) x.name) parts.0 in
      let first : is_listed front x.name ≡ false = fresh x.name (either_left (bytes_eq x.name x.name) (is_listed (parameter_names ps) x.name) ((bytes_eq-Decides x.name x.name).1 refl)) in
      let numbered : number_of_name (frame_names method) x.name ≡ Some n = ap (λ names. number_of_name names x.name) all ∙ number_behind front rest x.name first ∙ ap Some count in (
        ap (λ o. option_map LocalCell o) numbered,
        have_locals (front ++ x.name ∷ []) ps (suc n) (all ∙ sym (shifted_name front rest x.name)) (omega (arith, length-append front (x.name ∷ []))) parts.1
            (λ name there. listed_behind front x.name name (fresh name (either_right (bytes_eq x.name name) (is_listed (parameter_names ps) name) there))
            (not_self (bytes_eq x.name name) (parameter_names ps) x.name name refl alone there)),
      )

  frame_cell : (name : List ℕ) (c : CodeCell) → method_cell p method (LocalNamed name) ≡ Some c → (n : ℕ) × (number_of_name (frame_names method) name ≡ Some n) × (LocalCell n ≡ c)
  frame_cell name c e = mapped_cell LocalCell (number_of_name (frame_names method) name) c e

  frame_inside : (name : List ℕ) (n : ℕ) → number_of_name (frame_names method) name ≡ Some n → n < frame_size method
  frame_inside name n e =
      let less : n < length (frame_names method) = name_inside (frame_names method) name n e in
      let count = frame_count method in
      omega (arith, count, less)

  global_no_frame : (a : Location) (name : List ℕ) (c : CodeCell) → program_cell p a ≡ Some c → method_cell p method (LocalNamed name) ≡ Some c → ⊥
  global_no_frame a name c e f =
      let it = frame_cell name c f in
      global_cell p a (LocalCell it.0) (e ∙ ap Some (sym it.2))

  method_apart : (x y : Nameable) (c : CodeCell) → method_cell p method x ≡ Some c → method_cell p method y ≡ Some c → is_same_nameable x y ≡ true
  method_apart (GlobalAt a) (GlobalAt b) c e f = globals_apart p a b c e f
  method_apart (GlobalAt a) (LocalNamed n) c e f = absurd (global_no_frame a n c e f)
  method_apart (LocalNamed n) (GlobalAt b) c e f = absurd (global_no_frame b n c f e)
  method_apart (LocalNamed n) (LocalNamed m) c e f =
      let one = frame_cell n c e in
      let other = frame_cell m c f in
      let same : other.0 ≡ one.0 = sym (local_is one.0 other.0 (one.2 ∙ sym other.2)) in
      one_name (frame_names method) n m one.0 one.1 (other.1 ∙ ap Some same)

  global_free : (a : Location) (c : CodeCell) (kept : ℕ) → program_cell p a ≡ Some c → method_reserved p method kept c ≡ false
  global_free a (SlotCell n) kept e = lt-leb (layout_size p) n (global_below p a n e)
  global_free a (LocalCell n) kept e = absurd (global_cell p a (LocalCell n) e)
  global_free a (HashCell n) kept e = refl
  global_free a (IteratorCell n) kept e = refl
  global_free a (ParameterCell n) kept e = refl

  method_unreserved : (x : Nameable) (c : CodeCell) (kept : ℕ) → method_cell p method x ≡ Some c → method_reserved p method kept c ≡ false
  method_unreserved (GlobalAt a) c kept e = global_free a c kept e
  method_unreserved (LocalNamed name) c kept e =
      let it = frame_cell name c e in
      subst (λ k. method_reserved p method kept k ≡ false) it.2
      (first_false (nat_le (frame_size method) it.0) (nat_lt it.0 (frame_size method + kept)) (lt-leb (frame_size method) it.0 (frame_inside name it.0 it.1)))

  method_grows : (kept more : ℕ) (c : CodeCell) → kept ≤ more → method_reserved p method kept c ≡ true → method_reserved p method more c ≡ true
  method_grows kept more (SlotCell n) h is = is
  method_grows kept more (LocalCell n) h is =
      let parts = both (nat_le (frame_size method) n) (nat_lt n (frame_size method + kept)) is in
      let less : n < frame_size method + kept = ltb-true n (frame_size method + kept) parts.1 in
      both_true (nat_le (frame_size method) n) (nat_lt n (frame_size method + more)) parts.0 (lt-ltb n (frame_size method + more) (omega arith))
  method_grows kept more (HashCell n) h is = is
  method_grows kept more (IteratorCell n) h is = is
  method_grows kept more (ParameterCell n) h is = is

  method_names : (name : List ℕ) (c : CodeCell) → method_cell p method (LocalNamed name) ≡ Some c
      → (n : ℕ) × (c ≡ LocalCell n) × IsLocalAt method.parameters (length method.locals + statements_keep method.body) name n
  method_names name c e =
      let it = frame_cell name c e in
      let count = name_count method.locals in
      (it.0, sym it.2, local_place method.parameters (names_of_variables method.locals) (length method.locals + statements_keep method.body) name it.0 (omega (arith, count)) it.1)

  method_placed : HasDistinctParameters method → IsMethodPlacement (method_placement p method) method.parameters (length method.locals + statements_keep method.body)
  method_placed distinct = record {
    sound = record {
      apart = method_apart;
      unreserved = method_unreserved;
      values = λ n less. tt;
      behind = λ n kept less above. among_is (frame_size method) kept (frame_size method + n) (omega arith) (omega arith);
      ahead = λ n kept less least_kept. among_not (frame_size method) kept (frame_size method + n) (omega arith);
      grows = method_grows;
    };
    parameters = have_locals [] method.parameters 0 refl refl distinct (λ name there. refl);
    names = method_names;
    kept = λ k less. (frame_size method + k, refl, omega arith);
    frameless = λ at n e. global_cell p at (LocalCell n) e;
  }

  module _ (other : MethodTree) where
    method_locals : (name : List ℕ) (c : CodeCell) → method_cell p method (LocalNamed name) ≡ Some c → is_in_frame c ≡ false → method_reserved p other 0 c ≡ true
    method_locals name c e out =
        let it = frame_cell name c e in
        absurd (true≢false (ap is_in_frame it.2 ∙ out))

    method_keeps : (kept : ℕ) (c : CodeCell) → method_reserved p method kept c ≡ true → is_in_frame c ≡ false → method_reserved p other 0 c ≡ true
    method_keeps kept (SlotCell n) is out = is
    method_keeps kept (LocalCell n) is out = absurd (true≢false out)
    method_keeps kept (HashCell n) is out = is
    method_keeps kept (IteratorCell n) is out = is
    method_keeps kept (ParameterCell n) is out = is

  pub method_fits : HasDistinctParameters method → MethodFits p method
  method_fits distinct = record {
    frame = method_placed distinct;
    further_calls = λ other. record { globals = λ at. refl; locals = method_locals other; reserved = method_keeps other };
  }

-- ---- a program

behind_layout : (a b : ℕ) → a ≤ a + b
behind_layout a b = omega arith

behind_both : (a b c : ℕ) → a ≤ a + b + c
behind_both a b c = omega arith

at_layout : (a : ℕ) → a ≤ a
at_layout a = omega arith

pub placements_fit : PlacementsFit
placements_fit p = record {
  in_init = system_fits p (layout_size p) p.init (at_layout (layout_size p));
  in_run = system_fits p (first_of_run p) p.run (behind_layout (layout_size p) (own_slots p.init));
  in_term = system_fits p (first_of_term p) p.term (behind_both (layout_size p) (own_slots p.init) (own_slots p.run));
  in_methods = λ method distinct. method_fits p method distinct;
}
