-- Data of a program's code hold what they keep, and so its groups are independent as the law on stages asks.
use Rattle.std.proofs.Common.{◌≡◌, ℕ, zero, suc, ◌+◌, ◌-◌, ◌<◌, ◌≤◌, ◌⊎◌, inl, inr, Bool, true, false, ◌||◌, List, [], ◌∷◌, ◌++◌, length, slice_get, is_some, Option, Some, None, refl, sym, ap, ◌∙◌, subst, arith, if◌then◌else◌}
use Rattle.std.specs.List.{list_all, list_any, range_with_len}
use Rattle.std.specs.Option.{option_map}
use Rattle.std.proofs.Math.Nat.{eq-or-lt_of_le}
use Rattle.std.proofs.lemmas.Bool.{true≢false, and_parts, and_from}
use Rattle.std.proofs.lemmas.Slice.Eq.{bytes_eq-Decides}
use Rattle.ds2_value.specs.declared.value.Value.{Value}
use Rattle.ds2_value.specs.declared.value.Value.TheVariants.{Null}
use Rattle.ds2_schedule.specs.Groups.{UnitRun, Normally, ByFault, run_loads, IsSameRun}
use Rattle.ds2_schedule.specs.Schedule.{AgreeAsStates}
use Rattle.ds2_meaning.specs.declared.location.Global.{Global}
use Rattle.ds2_meaning.specs.declared.location.Global.TheVariants.{Named, First, Last, Present, Parameter}
use Rattle.ds2_meaning.specs.Location.{Home, Location, is_same_home, is_same_global, is_same_location, Content, Holds, Items, Position, Storage}
use Rattle.ds2_meaning.specs.ProgramTree.{UnitTree, objects_of}
use Rattle.ds2_code.specs.Desk.{ProgramData}
use Rattle.ds2_gen.specs.CodeCells.{CodeCell, SlotCell, LocalCell, HashCell, IteratorCell, ParameterCell, CellHas}
use Rattle.ds2_gen.specs.UnitCode.{data_cells}
use Rattle.ds2_program_code.specs.PlacedProgram.{number_of_first, number_of_location, slot_locations, hash_locations, iterator_locations, parameter_locations, first_cell, program_cell, layout_size}
use Rattle.ds2_program_code.specs.CodeParts.{code_slots}
use Rattle.ds2_program_code.specs.ProgramRuns.{HoldsProgram}
use Rattle.ds2_locality.specs.Independence.{UnitsGave}
use Rattle.ds2_locality.specs.KeptLocations.{is_hash_global, is_iterator_global, seen_in_kind, seen_at}
use Rattle.ds2_same_meaning.specs.CodeIndependence.{coded_stage, AreSameCodeRuns, LocalCodeIsIndependent}
use Rattle.ds2_same_meaning.specs.CodeStates.{or_absent, kept_in_cell, kept_by_code, has_cell, cell_locations, is_data_of_code, fixed_data, LocalCodeMakesStage}

-- ---- locations

home_is : (a b : Home) → is_same_home a b ≡ true → a ≡ b
home_is None None e = refl
home_is None (Some b) e = absurd (true≢false (sym e))
home_is (Some a) None e = absurd (true≢false (sym e))
home_is (Some a) (Some b) e = ap Some ((bytes_eq-Decides a b).0 e)

global_is : (a b : Global) → is_same_global a b ≡ true → a ≡ b
global_is (Named a) (Named b) e = ap Named ((bytes_eq-Decides a b).0 e)
global_is (First a) (First b) e = ap First ((bytes_eq-Decides a b).0 e)
global_is (Last a) (Last b) e = ap Last ((bytes_eq-Decides a b).0 e)
global_is (Present a) (Present b) e = ap Present ((bytes_eq-Decides a b).0 e)
global_is (Parameter a) (Parameter b) e = ap Parameter ((bytes_eq-Decides a b).0 e)
global_is _ _ e = absurd (true≢false (sym e))

location_is : (a b : Location) → is_same_location a b ≡ true → a ≡ b
location_is a b e =
    let parts = and_parts (is_same_home a.home b.home) (is_same_global a.global b.global) e in
    let homes : a.home ≡ b.home = home_is a.home b.home parts.0 in
    let globals : a.global ≡ b.global = global_is a.global b.global parts.1 in
    λ i. record { home = homes i; global = globals i }

-- ---- lists

or_left : (a b : Bool) → a ≡ true → (a || b) ≡ true
or_left true b e = refl
or_left false b e = absurd (true≢false (sym e))

or_right : (a b : Bool) → b ≡ true → (a || b) ≡ true
or_right true b e = refl
or_right false b e = e

any_front : (test : Location → Bool) (xs ys : List Location) → list_any test xs ≡ true → list_any test (xs ++ ys) ≡ true
any_front test [] ys e = absurd (true≢false (sym e))
any_front test (x ∷ xs) ys e = of (test x) (list_any test xs) (list_any test (xs ++ ys)) (λ k. any_front test xs ys k) e
  where
    of : (a b d : Bool) → (b ≡ true → d ≡ true) → (a || b) ≡ true → (a || d) ≡ true
    of true b d f e = refl
    of false b d f e = f e

any_back : (test : Location → Bool) (xs ys : List Location) → list_any test ys ≡ true → list_any test (xs ++ ys) ≡ true
any_back test [] ys e = e
any_back test (x ∷ xs) ys e = or_right (test x) (list_any test (xs ++ ys)) (any_back test xs ys e)

numbered_by : (test : Location → Bool) (b : Bool) (xs : List Location) (n : ℕ) → (if b then Some 0 else option_map (λ n. suc n) (number_of_first test xs)) ≡ Some n
    → ((m : ℕ) → number_of_first test xs ≡ Some m → list_any test xs ≡ true) → (b || list_any test xs) ≡ true
numbered_by test true xs n e later = refl
numbered_by test false xs n e later = of (number_of_first test xs) refl e
  where
    of : (o : Option ℕ) → number_of_first test xs ≡ o → option_map (λ n. suc n) o ≡ Some n → list_any test xs ≡ true
    of None f g = absurd cc
    of (Some m) f g = later m f

numbered : (test : Location → Bool) (xs : List Location) (n : ℕ) → number_of_first test xs ≡ Some n → list_any test xs ≡ true
numbered test [] n e = absurd cc
numbered test (x ∷ xs) n e = numbered_by test (test x) xs n e (λ m f. numbered test xs m f)

-- what holds of all that are listed holds of one that is
each_of : (test : Location → Bool) (at : Location) (xs : List Location) → list_any (λ other. is_same_location at other) xs ≡ true → list_all test xs ≡ true → test at ≡ true
each_of test at [] e f = absurd (true≢false (sym e))
each_of test at (x ∷ xs) e f =
    let parts = and_parts (test x) (list_all test xs) f in of (is_same_location at x) refl e parts.0 (λ g. each_of test at xs g parts.1)
  where
    of : (b : Bool) → is_same_location at x ≡ b → (b || list_any (λ other. is_same_location at other) xs) ≡ true → test x ≡ true → (list_any (λ other. is_same_location at other) xs ≡ true → test at ≡ true) → test at ≡ true
    of true same g h later = ap test (location_is at x same) ∙ h
    of false same g h later = later g

later_in : (test : ℕ → Bool) (a n : ℕ) → (a ≡ n) ⊎ (a < n) → test a ≡ true → (a < n → test n ≡ true) → test n ≡ true
later_in test a n (inl same) here later = ap test (sym same) ∙ here
later_in test a n (inr behind) here later = later behind

in_range : (test : ℕ → Bool) (a k n : ℕ) → a ≤ n → n < a + k → list_all test (range_with_len a k) ≡ true → test n ≡ true
in_range test a zero n l m e = absurd (omega (arith, l, m))
in_range test a (suc k) n l m e =
    let parts = and_parts (test a) (list_all test (range_with_len (a + 1) k)) e in
    later_in test a n (eq-or-lt_of_le l) parts.0 (λ h. in_range test (a + 1) k n (omega (arith, h)) (omega (arith, m)) parts.1)

all_in_range : (test : ℕ → Bool) (a k : ℕ) → ((n : ℕ) → a ≤ n → n < a + k → test n ≡ true) → list_all test (range_with_len a k) ≡ true
all_in_range test a zero f = refl
all_in_range test a (suc k) f =
    and_from (test a) (list_all test (range_with_len (a + 1) k)) (f a (omega arith) (omega arith)) (all_in_range test (a + 1) k (λ n l m. f n (omega (arith, l)) (omega (arith, m))))

-- ---- cells

some_is : {A : Type 0} (other : A) (o : Option A) → is_some o ≡ true → o ≡ Some (or_absent other o)
some_is other None e = absurd (true≢false (sym e))
some_is other (Some a) e = refl

some_there : {A : Type 0} (o : Option A) → is_some o ≡ true → (a : A) × (o ≡ Some a)
some_there None e = absurd (true≢false (sym e))
some_there (Some a) e = (a, refl)

-- a cell that is there has what is kept in it
cell_has : (d : ProgramData) (c : CodeCell) → has_cell d (Some c) ≡ true → CellHas c (kept_in_cell d (Some c)) (data_cells d)
cell_has d (SlotCell n) e = some_is Null (slice_get d.slots n) e
cell_has d (LocalCell n) e = absurd (true≢false (sym e))
cell_has d (HashCell n) e = some_is [] (slice_get d.hashes n) e
cell_has d (IteratorCell n) e = some_is None (slice_get d.iterators n) e
cell_has d (ParameterCell n) e = some_is Null (slice_get d.parameters n) e

-- a cell that has something is there
cell_there : (d : ProgramData) (c : CodeCell) (z : Content) → CellHas c z (data_cells d) → has_cell d (Some c) ≡ true
cell_there d (SlotCell n) z e = ap is_some e
cell_there d (LocalCell n) z e = absurd cc
cell_there d (HashCell n) z e = ap is_some e
cell_there d (IteratorCell n) z e = ap is_some e
cell_there d (ParameterCell n) z e = ap is_some e

-- a cell that has what another content is seen as is seen so
same_seen : (is_hash is_iterator : Bool) (c : CodeCell) (u s : ProgramData) (z : Content) → CellHas c z (data_cells u)
    → seen_in_kind is_hash is_iterator z ≡ seen_in_kind is_hash is_iterator (kept_in_cell s (Some c))
    → seen_in_kind is_hash is_iterator (kept_in_cell u (Some c)) ≡ seen_in_kind is_hash is_iterator (kept_in_cell s (Some c))
same_seen true i (SlotCell n) u s z e f = refl
same_seen false true (SlotCell n) u s z e f = refl
same_seen false false (SlotCell n) u s z e f = ap (λ (o : Option Value). Holds (or_absent Null o)) e ∙ f
same_seen true i (LocalCell n) u s z e f = refl
same_seen false true (LocalCell n) u s z e f = refl
same_seen false false (LocalCell n) u s z e f = refl
same_seen true i (HashCell n) u s z e f = ap (λ o. Items (or_absent [] o)) e ∙ f
same_seen false true (HashCell n) u s z e f = refl
same_seen false false (HashCell n) u s z e f = refl
same_seen true i (IteratorCell n) u s z e f = refl
same_seen false true (IteratorCell n) u s z e f = ap (λ (o : Option (Option ℕ)). Position (or_absent None o)) e ∙ f
same_seen false false (IteratorCell n) u s z e f = refl
same_seen true i (ParameterCell n) u s z e f = refl
same_seen false true (ParameterCell n) u s z e f = refl
same_seen false false (ParameterCell n) u s z e f = ap (λ (o : Option Value). Holds (or_absent Null o)) e ∙ f

module _ (p : UnitTree) where
  -- a location that has a cell is listed
  listed_by : (at : Location) (c : CodeCell) (slots hashes iterators parameters : Option ℕ) → number_of_location (slot_locations p) at ≡ slots → number_of_location (hash_locations p) at ≡ hashes
      → number_of_location (iterator_locations p) at ≡ iterators → number_of_location (parameter_locations p) at ≡ parameters
      → first_cell (option_map SlotCell slots) (first_cell (option_map HashCell hashes) (first_cell (option_map IteratorCell iterators) (option_map ParameterCell parameters))) ≡ Some c
      → list_any (λ other. is_same_location at other) (cell_locations p) ≡ true
  listed_by at c (Some n) h i r e f g k is =
      let test : Location → Bool = λ other. is_same_location at other in
      any_front test (slot_locations p ++ hash_locations p ++ iterator_locations p) (parameter_locations p)
      (any_front test (slot_locations p ++ hash_locations p) (iterator_locations p) (any_front test (slot_locations p) (hash_locations p) (numbered test (slot_locations p) n e)))
  listed_by at c None (Some n) i r e f g k is =
      let test : Location → Bool = λ other. is_same_location at other in
      any_front test (slot_locations p ++ hash_locations p ++ iterator_locations p) (parameter_locations p)
      (any_front test (slot_locations p ++ hash_locations p) (iterator_locations p) (any_back test (slot_locations p) (hash_locations p) (numbered test (hash_locations p) n f)))
  listed_by at c None None (Some n) r e f g k is =
      let test : Location → Bool = λ other. is_same_location at other in
      any_front test (slot_locations p ++ hash_locations p ++ iterator_locations p) (parameter_locations p)
      (any_back test (slot_locations p ++ hash_locations p) (iterator_locations p) (numbered test (iterator_locations p) n g))
  listed_by at c None None None (Some n) e f g k is =
      any_back (λ other. is_same_location at other) (slot_locations p ++ hash_locations p ++ iterator_locations p) (parameter_locations p) (numbered (λ other. is_same_location at other) (parameter_locations p) n k)
  listed_by at c None None None None e f g k is = absurd cc

  listed : (at : Location) (c : CodeCell) → program_cell p at ≡ Some c → list_any (λ other. is_same_location at other) (cell_locations p) ≡ true
  listed at c is =
      listed_by at c (number_of_location (slot_locations p) at) (number_of_location (hash_locations p) at) (number_of_location (iterator_locations p) at) (number_of_location (parameter_locations p) at) refl refl refl refl is

  -- data of the code hold what they keep
  pub data_hold : (d : ProgramData) → is_data_of_code p d ≡ true → HoldsProgram p (kept_by_code p d) d
  data_hold d is =
      let parts = and_parts (list_all (λ at. has_cell d (program_cell p at)) (cell_locations p)) (list_all (λ n. is_some (slice_get d.slots n)) (range_with_len (layout_size p) (length (code_slots p) - layout_size p))) is in
      record {
        globals = λ at c e.
            subst (λ (o : Option CodeCell). CellHas c (kept_in_cell d o) (data_cells d)) (sym e)
            (cell_has d c (sym (ap (has_cell d) e) ∙ each_of (λ other. has_cell d (program_cell p other)) at (cell_locations p) (listed at c e) parts.0));
        own = λ n l m.
            some_there (slice_get d.slots n)
            (in_range (λ k. is_some (slice_get d.slots k)) (layout_size p) (length (code_slots p) - layout_size p) n l (omega (arith, l, m)) parts.1);
      }

  cell_of : (kept : Storage) (d : ProgramData) → HoldsProgram p kept d → (at : Location) (o : Option CodeCell) → program_cell p at ≡ o → has_cell d o ≡ true
  cell_of kept d h at None e = refl
  cell_of kept d h at (Some c) e = cell_there d c (kept at) (h.globals at c e)

  all_cells : (kept : Storage) (d : ProgramData) → HoldsProgram p kept d → (locations : List Location) → list_all (λ at. has_cell d (program_cell p at)) locations ≡ true
  all_cells kept d h [] = refl
  all_cells kept d h (at ∷ more) =
      and_from (has_cell d (program_cell p at)) (list_all (λ at. has_cell d (program_cell p at)) more) (cell_of kept d h at (program_cell p at) refl) (all_cells kept d h more)

  -- data that hold something are data of the code
  pub held_data : (kept : Storage) (d : ProgramData) → HoldsProgram p kept d → is_data_of_code p d ≡ true
  held_data kept d h =
      and_from (list_all (λ at. has_cell d (program_cell p at)) (cell_locations p)) (list_all (λ n. is_some (slice_get d.slots n)) (range_with_len (layout_size p) (length (code_slots p) - layout_size p)))
      (all_cells kept d h (cell_locations p))
      (all_in_range (λ n. is_some (slice_get d.slots n)) (layout_size p) (length (code_slots p) - layout_size p) (λ n l m. ap is_some (h.own n l (omega (arith, l, m))).1))

  -- what data keep is seen as what was before, where what they hold is
  seen_by : (kept : Storage) (u s : ProgramData) → HoldsProgram p kept u → (at : Location) (o : Option CodeCell) → program_cell p at ≡ o → seen_at p at (kept at) ≡ seen_at p at (kept_in_cell s o)
      → seen_at p at (kept_in_cell u o) ≡ seen_at p at (kept_in_cell s o)
  seen_by kept u s h at None e f = refl
  seen_by kept u s h at (Some c) e f =
      same_seen (is_hash_global (objects_of p at.home) at.global) (is_iterator_global (objects_of p at.home) at.global) c u s (kept at) (h.globals at c e) f

  as_states : (s t : ProgramData) → is_data_of_code p s ≡ true → is_data_of_code p t ≡ true → (x y : UnitRun ProgramData (UnitsGave ℕ)) → AreSameCodeRuns p (kept_by_code p s) (kept_by_code p t) x y
      → IsSameRun (AgreeAsStates (is_data_of_code p) (fixed_data p)) s t x y
  as_states s t is_s is_t (Normally u o) (Normally v q) r = (
    r.0,
    (held_data r.1.kept u r.1.holds, is_s, λ at f. seen_by r.1.kept u s r.1.holds at (program_cell p at) refl (r.1.agrees at f)),
    (held_data r.2.kept v r.2.holds, is_t, λ at f. seen_by r.2.kept v t r.2.holds at (program_cell p at) refl (r.2.agrees at f)),
  )
  as_states s t is_s is_t (Normally u o) (ByFault q) r = absurd r
  as_states s t is_s is_t (ByFault o) (Normally v q) r = absurd r
  as_states s t is_s is_t (ByFault o) (ByFault q) r = r

pub local_code_makes_stage : LocalCodeIsIndependent → LocalCodeMakesStage
local_code_makes_stage law t typed told grain local =
    let p = t.program in
    let free = law t typed told grain local in
    record {
      groups = λ budget ls ks s t gl gk alike agree.
          as_states p s t agree.0 agree.1 (run_loads (coded_stage p) budget ls s) (run_loads (coded_stage p) budget ks t)
          (free.groups budget ls ks (kept_by_code p s) (kept_by_code p t) s t (data_hold p s agree.0) (data_hold p t agree.1) gl gk alike agree.2);
      terms = λ budget s t agree.
          free.terms budget (kept_by_code p s) (kept_by_code p t) s t (data_hold p s agree.0) (data_hold p t agree.1) agree.2;
    }
