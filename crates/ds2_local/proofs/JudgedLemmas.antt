-- What the code holds of a thread program.
use Rattle.std.proofs.Common.{◌≡◌, ℕ, ◌+◌, List, ◌++◌, length, map, Option, Some, None, refl, sym, ap, ◌∙◌, subst}
use Rattle.std.proofs.lemmas.List.{length-map}
use Rattle.ds2_value.specs.declared.fault.TheConstants.{CALL_DEPTH}
use Rattle.ds2_meaning.specs.declared.globals.Variable.{Variable}
use Rattle.ds2_meaning.specs.declared.units.Program.{Program}
use Rattle.ds2_meaning.specs.declared.units.TypedThread.{TypedThread, out-TypedThread}
use Rattle.ds2_meaning.specs.Location.{Home, Location}
use Rattle.ds2_meaning.specs.ProgramTree.{UnitTree, reader_of}
use Rattle.ds2_meaning.specs.View.{typed_method, typed_thread_program, unit_tree}
use Rattle.ds2_layout.specs.declared.slot.LayoutSlot.{LayoutSlot}
use Rattle.ds2_layout.specs.Layout.{program_slots, location_of_slot}
use Rattle.ds2_layout.proofs.ReadingThread.{reader_of_thread}
use Rattle.ds2_locality.specs.Deeds.{MethodAt, method_deeds, with_callees}
use Rattle.ds2_locality.specs.Verdict.{JudgedThread, locations_in_order, objects_in_order}
use Rattle.ds2_deeds.specs.CallsByNumber.{OnceToldAreDistinct, OwnMethodsAreFirst, CalleesByNumber, ReachedByNumber, program_numbers, all_by_number, rounds_of_calls}
use Rattle.ds2_deeds.specs.CodeTrees.{nameless_tree}
use Rattle.ds2_deeds.specs.declared.location.LocationName.{LocationName}
use Rattle.ds2_deeds.specs.declared.methods.MethodName.{MethodName}
use Rattle.ds2_deeds.specs.NamedLocations.{locations_named, told_once, AreDistinct}
use Rattle.ds2_deeds.specs.NamedMethods.{methods_named, methods_in_order, number_among_methods, AreOwnFirst}
use Rattle.ds2_deeds.specs.NumberedCalls.{is_one_of_numbers, may_call, with_called}
use Rattle.ds2_deeds.specs.NumberedDeeds.{ProgramNumbers, numbers_of, numbered_deeds}
use Rattle.ds2_local.specs.declared.judged.JudgedBodies.{JudgedBodies}
use Rattle.ds2_local.specs.JudgedBodies.{AreCycleEffects, HoldsJudged, IsNumbered}
use Rattle.ds2_local.specs.JudgedTrees.{judged_thread}

-- the program of a thread program that is judged
pub judged_program : (names : List (List ℕ)) (t : TypedThread) → (judged_thread names t).program ≡ unit_tree (Some (out-TypedThread t).name) (out-TypedThread t).parameters (out-TypedThread t).program
judged_program names t = sym (reader_of_thread t)

-- the name and the parameters of a thread program change no deed of a method
deeds_same : (thread : Option (List ℕ)) (parameters : List Variable) (program : Program) (home : Home) (number : ℕ)
    → method_deeds (unit_tree thread parameters program) (record { home = home; number = number }) ≡ method_deeds (nameless_tree program) (record { home = home; number = number })
deeds_same thread parameters program None number = refl
deeds_same thread parameters program (Some name) number = refl

module _ (t : JudgedThread) (b : JudgedBodies) (numbered : IsNumbered t b.program.now (numbers_of b.numbers)) where
  method_deeds_held : method_deeds (nameless_tree b.program.now) ≡ method_deeds t.program
  method_deeds_held = λ i m. (sym (ap (λ p. method_deeds p m) numbered.tree ∙ deeds_same numbered.thread numbered.parameters b.program.now m.home m.number)) i

  numbers_are : numbers_of b.numbers ≡ program_numbers t.program (locations_named b.numbers.locations.now)
  numbers_are = ap (λ (ms : List MethodAt). let n : ProgramNumbers = record { locations = locations_named b.numbers.locations.now; methods = ms } in n) numbered.methods

  module _ (deeds : b.deeds.now ≡ map (λ (m : MethodAt). numbered_deeds (numbers_of b.numbers) (method_deeds t.program m)) (methods_named b.numbers.methods.now)) where
    all_are : b.deeds.now ≡ all_by_number t.program (program_numbers t.program (locations_named b.numbers.locations.now))
    all_are = deeds ∙ ap (λ n. all_by_number t.program n) numbers_are

    rounds_are : length b.deeds.now + CALL_DEPTH ≡ rounds_of_calls t.program
    rounds_are =
        ap (λ k. k + CALL_DEPTH)
        (ap (λ l. length l) deeds ∙ length-map (methods_named b.numbers.methods.now) (λ (x : MethodAt). numbered_deeds (numbers_of b.numbers) (method_deeds t.program x)) ∙ ap (λ l. length l) numbered.methods)

    held_with : OnceToldAreDistinct → CalleesByNumber → ReachedByNumber → AreCycleEffects (length b.numbers.locations.now) b.deeds.now b.cycles.now → HoldsJudged t b
    held_with once callees reached cycles = record {
      numbered = numbered;
      distinct = subst AreDistinct (sym numbered.locations) (once (locations_in_order t));
      deeds = deeds;
      callees = λ own.
          ap (λ rounds. with_called b.deeds.now rounds (numbered_deeds (numbers_of b.numbers) own)) rounds_are
          ∙ ap (λ all. with_called all (rounds_of_calls t.program) (numbered_deeds (numbers_of b.numbers) own)) all_are
          ∙ ap (λ n. with_called (all_by_number t.program (program_numbers t.program (locations_named b.numbers.locations.now))) (rounds_of_calls t.program) (numbered_deeds n own)) numbers_are
          ∙ callees t.program (locations_named b.numbers.locations.now) own ∙ ap (λ n. numbered_deeds n (with_callees t.program own)) (sym numbers_are);
      reached = λ own m k is.
          ap (λ rounds. is_one_of_numbers (may_call b.deeds.now rounds (numbered_deeds (numbers_of b.numbers) own)) k) rounds_are
          ∙ ap (λ all. is_one_of_numbers (may_call all (rounds_of_calls t.program) (numbered_deeds (numbers_of b.numbers) own)) k) all_are
          ∙ ap (λ n. is_one_of_numbers (may_call (all_by_number t.program (program_numbers t.program (locations_named b.numbers.locations.now))) (rounds_of_calls t.program) (numbered_deeds n own)) k) numbers_are
          ∙ reached t.program (locations_named b.numbers.locations.now) own m k (ap (λ ms. number_among_methods ms m) (sym numbered.methods) ∙ is);
      cycles = cycles;
    }

  -- what the code holds
  pub holds_judged : OnceToldAreDistinct → CalleesByNumber → ReachedByNumber → AreCycleEffects (length b.numbers.locations.now) b.deeds.now b.cycles.now
      → b.deeds.now ≡ map (λ (m : MethodAt). numbered_deeds (numbers_of b.numbers) (method_deeds (nameless_tree b.program.now) m)) (methods_named b.numbers.methods.now) → HoldsJudged t b
  holds_judged once callees reached cycles by_tree =
      held_with (by_tree ∙ ap (λ of. map (λ (m : MethodAt). numbered_deeds (numbers_of b.numbers) (of m)) (methods_named b.numbers.methods.now)) method_deeds_held) once callees reached cycles

-- the numbers of a thread program
pub numbered_thread : (names : List (List ℕ)) (t : TypedThread) (n : ProgramNumbers) (slots : List LayoutSlot) → slots ≡ program_slots (reader_of (typed_thread_program t))
    → n.locations ≡ told_once (map location_of_slot slots ++ objects_in_order names (nameless_tree (out-TypedThread t).program)) → n.methods ≡ methods_in_order (nameless_tree (out-TypedThread t).program)
    → IsNumbered (judged_thread names t) (out-TypedThread t).program n
numbered_thread names t n slots laid locations methods = record {
  thread = Some (out-TypedThread t).name;
  parameters = (out-TypedThread t).parameters;
  tree = judged_program names t;
  run_place = refl;
  term_place = refl;
  locations = locations ∙ ap (λ l. told_once (map location_of_slot l ++ objects_in_order names (nameless_tree (out-TypedThread t).program))) laid
      ∙ ap (λ (p : UnitTree). told_once (map location_of_slot (program_slots (reader_of (typed_thread_program t))) ++ objects_in_order names p)) (sym (judged_program names t));
  methods = methods ∙ ap (λ (p : UnitTree). methods_in_order p) (sym (judged_program names t));
}

-- locations that are told once have the numbers of their places
pub told_distinct : OnceToldAreDistinct → (names : List LocationName) (told : List Location) → locations_named names ≡ told_once told → AreDistinct (locations_named names)
told_distinct once names told is = subst AreDistinct (sym is) (once told)

-- so many methods of a program stand first where they are all its own
pub own_first : OwnMethodsAreFirst → (p : Program) (own : ℕ) (methods : List MethodName) → own ≡ length p.methods → methods_named methods ≡ methods_in_order (nameless_tree p)
    → AreOwnFirst own (methods_named methods)
own_first law p own methods count named =
    subst (λ (ms : List MethodAt). AreOwnFirst own ms) (sym named)
    (subst (λ (k : ℕ). AreOwnFirst k (methods_in_order (nameless_tree p))) (length-map p.methods typed_method ∙ sym count) (law (nameless_tree p)))
