-- The groups of a local thread program's code over its tables are independent.
use Rattle.std.proofs.Common.{◌≡◌, ℕ, zero, suc, ◌+◌, Bool, true, false, List, [], ◌∷◌, map, slice_get, Option, Some, None, refl, sym, ap, ◌∙◌, subst, arith}
use Rattle.std.specs.Option.{option_map}
use Rattle.ds2_base.specs.declared.place.Place.{Place}
use Rattle.ds2_value.specs.Progress.{Progress, UnitOutcome, Completed, Interrupted, Strayed}
use Rattle.ds2_value.specs.declared.fault.Ending.{Ending}
use Rattle.ds2_value.specs.declared.fault.Ending.TheVariants.{Normal, Faulted}
use Rattle.ds2_value.specs.declared.fault.Fault.{Fault}
use Rattle.ds2_table.specs.Loads.{KeyedLoad, groups}
use Rattle.ds2_table.specs.Table.{Contents}
use Rattle.ds2_schedule.specs.Groups.{UnitRun, Normally, ByFault, with_before, then_from, run_loads, IsSameRun, IsSameEnd, SameButEarly, AreSameButEarly, IsAmongGroups}
use Rattle.ds2_schedule.specs.Schedule.{AgreeAsStates}
use Rattle.ds2_meaning.specs.declared.readings.Reading.{Reading}
use Rattle.ds2_meaning.specs.declared.readings.Reading.TheVariants as read
use Rattle.ds2_meaning.specs.IsTyped.{ReadsNoStage}
use Rattle.ds2_meaning.specs.Location.{Location, Storage}
use Rattle.ds2_meaning.specs.ProgramMeaning.{program_units, opening_of}
use Rattle.ds2_meaning.specs.ProgramTree.{UnitTree}
use Rattle.ds2_meaning.specs.Reading.{TableRows, Settings}
use Rattle.ds2_code.specs.CodeUnit.{code_unit, code_run, code_term, without_cleared}
use Rattle.ds2_code.specs.Desk.{ProgramData, SlotSettings, with_slots}
use Rattle.ds2_program_code.specs.LoadSettings.{slot_settings, table_load}
use Rattle.ds2_program_code.specs.ProgramCode.{program_code}
use Rattle.ds2_program_code.specs.ProgramRuns.{EndsLikeUnit, TypedUnitsRunAsMeant}
use Rattle.ds2_code_answer.specs.CodeAnswer.{code_opening}
use Rattle.ds2_code_answer.specs.CodeLoads.{load_settings, code_reading, retains_columns, code_keyed_loads}
use Rattle.ds2_code_answer.specs.StageSchedules.{units_of_code}
use Rattle.ds2_code_answer.specs.StageTold.{StageTold, told_of_unit, told_outcome, told_units}
use Rattle.ds2_same_meaning.specs.SameLoads.{rows_read, LoadsAreAlike, TypedLoadsAreAlike}
use Rattle.ds2_locality.specs.Independence.{UnitsGave, unit_gave, unit_ended, LocatedLoad, located, settings_at, loads_of_tables, located_group, thread_groups, IsTableGroup, IsGroupOfReading}
use Rattle.ds2_locality.specs.KeptLocations.{is_flag_before}
use Rattle.ds2_same_meaning.specs.CodeIndependence.{seen_count, coded_stage}
use Rattle.ds2_same_meaning.specs.CodeStates.{is_data_of_code, fixed_data, LocalCodeMakesStage}
use Rattle.ds2_same_meaning.specs.LocalGroups.{code_groups, LocalCodeHasIndependentGroups}
use Rattle.ds2_same_meaning.proofs.CodeStage.{held_data}

-- ---- what units gave, as it is told

-- the sum of counts
abbrev total : List ℕ → ℕ
total [] = 0
total (n ∷ counts) = n + total counts

-- the end that is told of a fault, or of none
abbrev ending_told : Option (Fault × Place) → Option Ending
ending_told None = None
ending_told (Some f) = Some (Faulted f.0 f.1)

-- what is told of units that ended so
abbrev told_so : Option Ending → UnitsGave ℕ → StageTold
told_so ending g = record { rows = g.rows; lines = g.lines; executed = total g.courses; ending = ending }

-- a run, with what is told of it
abbrev told_run : UnitRun ProgramData (UnitsGave ℕ) → UnitRun ProgramData StageTold
told_run (Normally s g) = Normally s (told_so (Some Normal) g)
told_run (ByFault g) = ByFault (told_so (ending_told g.fault) g)

and_none : (n : ℕ) → n ≡ n + 0
and_none n = omega arith

told_unit : (o : UnitOutcome ProgramData) → told_outcome o ≡ told_run (unit_ended seen_count o)
told_unit (Completed s unit n) = ap (λ k. Normally s (told_of_unit unit k (Some Normal))) (and_none n)
told_unit (Interrupted fault unit n) = ap (λ k. ByFault (told_of_unit unit k (Some (Faulted fault unit.place)))) (and_none n)
told_unit Strayed = refl

module _ (p : UnitTree) where
  -- a unit told in front of a run
  told_before : (unit : Progress) (n : ℕ) (x : UnitRun ProgramData (UnitsGave ℕ))
      → with_before (told_units (units_of_code (program_code p))) (told_of_unit unit n (Some Normal)) (told_run x) ≡ told_run (with_before (coded_stage p) (unit_gave unit n None) x)
  told_before unit n (Normally s g) = refl
  told_before unit n (ByFault g) = refl

  told_then : (o : UnitOutcome ProgramData) (go : ProgramData → UnitRun ProgramData StageTold) (coded : ProgramData → UnitRun ProgramData (UnitsGave ℕ)) → ((s : ProgramData) → go s ≡ told_run (coded s))
      → then_from (told_units (units_of_code (program_code p))) (told_outcome o) go ≡ told_run (then_from (coded_stage p) (unit_ended seen_count o) coded)
  told_then (Completed s unit n) go coded same =
      ap (λ x. with_before (told_units (units_of_code (program_code p))) (told_of_unit unit n (Some Normal)) x) (same s) ∙ told_before unit n (coded s)
  told_then (Interrupted fault unit n) go coded same = told_unit (Interrupted fault unit n)
  told_then Strayed go coded same = refl

  -- ---- loads

  located_back : (settings : Settings) → settings_at (located settings) ≡ settings
  located_back [] = refl
  located_back (set ∷ settings) = ap (λ more. set ∷ more) (located_back settings)

  -- what a load of the code sets
  abbrev load_sets_slots : List Contents → KeyedLoad → SlotSettings
  load_sets_slots contents l = load_settings (program_code p).slots (code_reading (program_code p)) (retains_columns (program_code p).reading) contents l.load

  -- what the program's load sets, at its locations
  abbrev load_located : TableRows → KeyedLoad → LocatedLoad
  load_located tables l = located (table_load p (rows_read p tables) l.load)

  module _ (tables : TableRows) (contents : List Contents) (alike : LoadsAreAlike p tables contents) where
    run_is : (budget : ℕ) (l : KeyedLoad) (s : ProgramData) → code_run (program_code p) budget (load_sets_slots contents l) s ≡ code_run (program_code p) budget (slot_settings p (settings_at (load_located tables l))) s
    run_is budget l s =
        ap (λ slots. code_unit (program_code p) (program_code p).run budget (with_slots slots s)) (alike.sets l.load (without_cleared (program_code p).slots s.slots))
        ∙ ap (λ (settings : Settings). code_run (program_code p) budget (slot_settings p settings) s) (sym (located_back (table_load p (rows_read p tables) l.load)))

    runs_told : (budget : ℕ) (group : List KeyedLoad) (s : ProgramData)
        → run_loads (told_units (units_of_code (program_code p))) budget (map (load_sets_slots contents) group) s ≡ told_run (run_loads (coded_stage p) budget (map (load_located tables) group) s)
    runs_told budget [] s = refl
    runs_told budget (l ∷ group) s =
        let go = run_loads (told_units (units_of_code (program_code p))) budget (map (load_sets_slots contents) group) in
        ap (λ (o : UnitOutcome ProgramData). then_from (told_units (units_of_code (program_code p))) (told_outcome o) go) (run_is budget l s)
        ∙ told_then (code_run (program_code p) budget (slot_settings p (settings_at (load_located tables l))) s) go (run_loads (coded_stage p) budget (map (load_located tables) group)) (λ t. runs_told budget group t)

-- ---- lists

option_is : {A X : Type 0} (f : A → X) (o : Option A) (y : X) → option_map f o ≡ Some y → (a : A) × (o ≡ Some a) × (f a ≡ y)
option_is f None y e = absurd (cc e)
option_is f (Some a) y e = (a, refl, cc e)

at_mapped : {A X : Type 0} (f : A → X) (xs : List A) (n : ℕ) → slice_get (map f xs) n ≡ option_map f (slice_get xs n)
at_mapped f [] zero = refl
at_mapped f [] (suc n) = refl
at_mapped f (x ∷ xs) zero = refl
at_mapped f (x ∷ xs) (suc n) = at_mapped f xs n

one_load : (xs ys : SlotSettings) → SameButEarly (λ n. false) xs ys → xs ≡ ys
one_load [] [] same = refl
one_load [] (y ∷ ys) same = absurd same
one_load (x ∷ xs) [] same = absurd same
one_load (x ∷ xs) (y ∷ ys) same = λ i. (same.0 i, same.1 refl i) ∷ one_load xs ys same.2 i

one_group : (ls ks : List SlotSettings) → AreSameButEarly (λ n. false) ls ks → ls ≡ ks
one_group [] [] same = refl
one_group [] (k ∷ ks) same = absurd same
one_group (l ∷ ls) [] same = absurd same
one_group (l ∷ ls) (k ∷ ks) same = λ i. one_load l k same.0 i ∷ one_group ls ks same.1 i

same_load : (early : Location → Bool) (l : LocatedLoad) → SameButEarly early l l
same_load early [] = tt
same_load early (x ∷ l) = (refl, λ e. refl, same_load early l)

same_loads : (early : Location → Bool) (ls : List LocatedLoad) → AreSameButEarly early ls ls
same_loads early [] = tt
same_loads early (l ∷ ls) = (same_load early l, same_loads early ls)

-- ---- runs

same_told_run : (agrees : ProgramData → ProgramData → Type 0) (s t : ProgramData) (x y : UnitRun ProgramData (UnitsGave ℕ)) → IsSameRun agrees s t x y → IsSameRun agrees s t (told_run x) (told_run y)
same_told_run agrees s t (Normally u o) (Normally v q) h = (ap (told_so (Some Normal)) h.0, h.1, h.2)
same_told_run agrees s t (Normally u o) (ByFault q) h = absurd h
same_told_run agrees s t (ByFault o) (Normally v q) h = absurd h
same_told_run agrees s t (ByFault o) (ByFault q) h = ap (λ (g : UnitsGave ℕ). told_so (ending_told g.fault) g) h

same_told_end : (x y : UnitRun ProgramData (UnitsGave ℕ)) → IsSameEnd x y → IsSameEnd (told_run x) (told_run y)
same_told_end (Normally u o) (Normally v q) h = ap (told_so (Some Normal)) h
same_told_end (Normally u o) (ByFault q) h = absurd h
same_told_end (ByFault o) (Normally v q) h = absurd h
same_told_end (ByFault o) (ByFault q) h = ap (λ (g : UnitsGave ℕ). told_so (ending_told g.fault) g) h

group_of_tables : (r : Reading) (p : UnitTree) (grain : ℕ) (ls : List LocatedLoad) → ReadsNoStage r → IsTableGroup p grain ls → IsGroupOfReading r p grain ls
group_of_tables read.Nothing p grain ls reads is = is
group_of_tables read.Once p grain ls reads is = is
group_of_tables (read.Set inputs bys) p grain ls reads is = is
group_of_tables (read.Merge inputs bys retains) p grain ls reads is = is
group_of_tables (read.From instance workers columns) p grain ls reads is = absurd reads

-- ---- whole

-- data behind a unit that ended as one of the program's did are data of the code
stood : (p : UnitTree) (first : ProgramData) (unit : Progress) (executed : ℕ) (meant : UnitOutcome Storage) → EndsLikeUnit p (Completed first unit executed) meant → is_data_of_code p first ≡ true
stood p first unit executed (Completed kept r none) h = held_data p kept first h.1
stood p first unit executed (Interrupted fault r none) h = absurd h
stood p first unit executed Strayed h = absurd h

-- a group of the code over tables is one of the program
record IsGroupOfCode (p : UnitTree) (tables : TableRows) (contents : List Contents) (grain : ℕ) (ls : List SlotSettings) : Type 0 where
  group : List KeyedLoad
  sets : ls ≡ map (load_sets_slots p contents) group
  among : IsAmongGroups (thread_groups p tables grain) (map (load_located p tables) group)

group_of_code : (p : UnitTree) (tables : TableRows) (contents : List Contents) (grain : ℕ) (ls : List SlotSettings) → code_keyed_loads (program_code p) contents ≡ loads_of_tables p tables
    → IsAmongGroups (code_groups grain (program_code p) contents) ls → IsGroupOfCode p tables contents grain ls
group_of_code p tables contents grain ls same is =
    let all = groups grain (loads_of_tables p tables) in
    let there : slice_get (map (map (load_sets_slots p contents)) all) is.0 ≡ Some ls = ap (λ keyed. slice_get (map (map (load_sets_slots p contents)) (groups grain keyed)) is.0) (sym same) ∙ is.1 in
    let it = option_is (map (load_sets_slots p contents)) (slice_get all is.0) ls (sym (at_mapped (map (load_sets_slots p contents)) all is.0) ∙ there) in
    record {
      group = it.0;
      sets = sym it.2;
      among = (is.0, at_mapped (located_group p tables) all is.0 ∙ ap (λ o. option_map (located_group p tables) o) it.1);
    }

pub groups_are_independent : LocalCodeMakesStage → TypedUnitsRunAsMeant → TypedLoadsAreAlike → LocalCodeHasIndependentGroups
groups_are_independent stages run_alike loads t typed reads named told grain local tables contents has whole are =
    let p = t.program in
    let alike = loads p typed reads named tables contents has in
    let law = stages t typed told grain local in
    let agrees = AgreeAsStates (is_data_of_code p) (fixed_data p) in
    record {
      free = record {
        groups = λ budget ls ks s u gl gk same agree.
            let it = group_of_code p tables contents grain ls alike.loads gl in
            let at = map (load_located p tables) it.group in
            let is : IsGroupOfReading p.reading p grain at = group_of_tables p.reading p grain at reads (record { tables = tables; rows = alike.rows whole are; among = it.among }) in
            let x = run_loads (coded_stage p) budget at s in
            let y = run_loads (coded_stage p) budget at u in
            let first : run_loads (told_units (units_of_code (program_code p))) budget ls s ≡ told_run x =
            ap (λ l. run_loads (told_units (units_of_code (program_code p))) budget l s) it.sets ∙ runs_told p tables contents alike budget it.group s in
            let second : run_loads (told_units (units_of_code (program_code p))) budget ks u ≡ told_run y =
            ap (λ l. run_loads (told_units (units_of_code (program_code p))) budget l u) (sym (one_group ls ks same) ∙ it.sets) ∙ runs_told p tables contents alike budget it.group u in
            subst (λ (a : UnitRun ProgramData StageTold). IsSameRun agrees s u a (run_loads (told_units (units_of_code (program_code p))) budget ks u)) (sym first)
            (subst (λ (b : UnitRun ProgramData StageTold). IsSameRun agrees s u (told_run x) b) (sym second)
            (same_told_run agrees s u x y (law.groups budget at at s u is is (same_loads (is_flag_before grain p.reading) at) agree)));
        terms = λ budget s u agree.
            subst (λ (a : UnitRun ProgramData StageTold). IsSameEnd a (told_outcome (code_term (program_code p) budget u))) (sym (told_unit (code_term (program_code p) budget s)))
            (subst (λ (b : UnitRun ProgramData StageTold). IsSameEnd (told_run (unit_ended seen_count (code_term (program_code p) budget s))) b) (sym (told_unit (code_term (program_code p) budget u)))
            (same_told_end (unit_ended seen_count (code_term (program_code p) budget s)) (unit_ended seen_count (code_term (program_code p) budget u)) (law.terms budget s u agree)));
      };
      begun = λ budget given first unit executed e.
          let kept = opening_of p tables given in
          let state = code_opening (program_code p) [] contents given in
          let meant : UnitOutcome Storage = (program_units p budget).init kept in
          stood p first unit executed meant (subst (λ (o : UnitOutcome ProgramData). EndsLikeUnit p o meant) e ((run_alike p typed).in_init budget kept state (alike.opens given)));
    }
