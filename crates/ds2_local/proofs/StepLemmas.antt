-- The effects of one method, and of all of them one deeper.
use Rattle.std.proofs.Common.{◌≡◌, ℕ, suc, ◌+◌, Bool, true, false, List, [], ◌∷◌, length, Option, Some, None, refl, sym, ap, ◌∙◌, subst}
use Rattle.std.specs.List.{list_any, filter}
use Rattle.std.specs.Prelude.{if◌then◌else◌, slice_get}
use Rattle.ds2_value.specs.declared.fault.TheConstants.{CALL_DEPTH}
use Rattle.ds2_base.specs.declared.place.Place.{Place}
use Rattle.ds2_meaning.specs.declared.globals.Variable.{Variable}
use Rattle.ds2_meaning.specs.declared.readings.ByVariable.{ByVariable}
use Rattle.ds2_meaning.specs.declared.units.Program.{Program}
use Rattle.ds2_meaning.specs.Location.{Home, Location}
use Rattle.ds2_meaning.specs.Method.{MethodTree}
use Rattle.ds2_meaning.specs.ProgramTree.{methods_of}
use Rattle.ds2_meaning.specs.View.{unit_tree}
use Rattle.ds2_program_code.specs.PlacedProgram.{number_of_location}
use Rattle.ds2_locality.specs.Deeds.{MethodAt, CodeScope, method_scope, method_deeds, mentions_location}
use Rattle.ds2_locality.specs.Verdict.{JudgedThread, locations_in_order, read_on_cycle, past_body, walk_body, walk_method}
use Rattle.ds2_locality.specs.Walk.{DirtySet, WalkEnd, read_locations, CallWalks, walk_all}
use Rattle.ds2_deeds.specs.declared.deed.NumberedDeed.{NumberedDeed}
use Rattle.ds2_deeds.specs.CodeTrees.{nameless_tree, scope_of}
use Rattle.ds2_deeds.specs.NamedLocations.{locations_named}
use Rattle.ds2_deeds.specs.NamedMethods.{methods_named, number_among_methods}
use Rattle.ds2_deeds.specs.NumberedCalls.{deeds_or_none, is_one_of_numbers, may_call, with_called}
use Rattle.ds2_deeds.specs.NumberedDeeds.{numbers_of, numbered_deeds}
use Rattle.ds2_recorded_walk.specs.declared.record.CallEffect.{CallEffect}
use Rattle.ds2_recorded_walk.specs.declared.walk_scope.RecordScope.{RecordScope}
use Rattle.ds2_recorded_walk.specs.KnownFlags.{first_flags}
use Rattle.ds2_recorded_walk.specs.LocationBits.{set_of_bits}
use Rattle.ds2_recorded_walk.specs.RecordedStatements.{TellsCalls}
use Rattle.ds2_recorded_walk.specs.RecordedWalks.{of_those, past_effect, EffectsTell}
use Rattle.ds2_local.specs.declared.judged.JudgedBodies.{JudgedBodies}
use Rattle.ds2_local.specs.EffectSteps.{EffectTells, BodyTells}
use Rattle.ds2_local.specs.JudgedBodies.{HoldsJudged, effect_of_mentions}
use Rattle.ds2_local.proofs.CycleLemmas.{mentions_told}
use Rattle.ds2_local.proofs.DepthLemmas.{held_deeds, held_cycle, located, cycle_tells}

-- ---- the name and the parameters of a thread program change no method

pub methods_same : (thread : Option (List ℕ)) (parameters : List Variable) (program : Program) (home : Home) → methods_of (unit_tree thread parameters program) home ≡ methods_of (nameless_tree program) home
methods_same thread parameters program None = refl
methods_same thread parameters program (Some name) = refl

pub scope_same : (thread : Option (List ℕ)) (parameters : List Variable) (program : Program) (home : Home) → method_scope (unit_tree thread parameters program) home ≡ method_scope (nameless_tree program) home
scope_same thread parameters program None = refl
scope_same thread parameters program (Some name) = refl

none_picked : (ls : List Location) → filter (λ at. list_any (mentions_location at) []) ls ≡ []
none_picked [] = refl
none_picked (x ∷ ls) = none_picked ls

module _ (t : JudgedThread) (b : JudgedBodies) (holds : HoldsJudged t b) where
  methods_held : (home : Home) → methods_of t.program home ≡ methods_of (nameless_tree b.program.now) home
  methods_held home = ap (λ p. methods_of p home) holds.numbered.tree ∙ methods_same holds.numbered.thread holds.numbered.parameters b.program.now home

  pub scope_held : (home : Home) → method_scope t.program home ≡ method_scope (nameless_tree b.program.now) home
  scope_held home = ap (λ p. method_scope p home) holds.numbered.tree ∙ scope_same holds.numbered.thread holds.numbered.parameters b.program.now home

  -- a method that is not there
  pub absent_tells : (known : List ByVariable) (calls : CallWalks) (home : Home) (number : ℕ) → None ≡ slice_get (methods_of (nameless_tree b.program.now) home) number
      → EffectTells (numbers_of b.numbers) (effect_of_mentions (length b.numbers.locations.now) []) (walk_body t (first_flags known) calls home (slice_get (methods_of t.program home) number))
  absent_tells known calls home number e place bits before =
      let d = of_those (set_of_bits (locations_named b.numbers.locations.now) bits) before in
      ap (λ ms. walk_body t (first_flags known) calls home (slice_get ms number) place d) (methods_held home)
      ∙ ap (λ o. walk_body t (first_flags known) calls home o place d) (sym e)
      ∙ ap (λ ls. read_locations place ls d) (sym (none_picked (locations_in_order t)))
      ∙ mentions_told (numbers_of b.numbers) (locations_in_order t) [] holds.numbered.locations holds.distinct (length b.numbers.locations.now) (located t b holds) place bits before

  pub absent_effect : (known : List ByVariable) (calls : CallWalks) (home : Home) (number : ℕ) (effect : CallEffect) → None ≡ slice_get (methods_of (nameless_tree b.program.now) home) number
      → effect ≡ effect_of_mentions (length b.numbers.locations.now) [] → EffectTells (numbers_of b.numbers) effect (walk_body t (first_flags known) calls home (slice_get (methods_of t.program home) number))
  absent_effect known calls home number effect e is =
      subst (λ x. EffectTells (numbers_of b.numbers) x (walk_body t (first_flags known) calls home (slice_get (methods_of t.program home) number))) (sym is) (absent_tells known calls home number e)

  -- a method whose body is walked
  pub present_tells : (s : RecordScope) (home : Home) (number : ℕ) (method : MethodTree) (effect : CallEffect) → s.numbers ≡ b.numbers → scope_of s.body ≡ method_scope (nameless_tree b.program.now) home
      → Some method ≡ slice_get (methods_of (nameless_tree b.program.now) home) number → BodyTells s method.body effect → (calls : CallWalks) → EffectsTell (numbers_of b.numbers) s.effects.now calls
      → EffectTells (numbers_of b.numbers) effect (walk_body t (first_flags s.known.now) calls home (slice_get (methods_of t.program home) number))
  present_tells s home number method effect same code e tells calls told place bits before =
      let d = of_those (set_of_bits (locations_named b.numbers.locations.now) bits) before in
      let tells_calls : TellsCalls s calls = record {
        distinct = λ n at f. (ap (λ ns. number_of_location (locations_named ns.locations.now) at) same) ∙ holds.distinct n at (ap (λ ns. slice_get (locations_named ns.locations.now) n) (sym same) ∙ f);
        effects = subst (λ ns. EffectsTell (numbers_of ns) s.effects.now calls) (sym same) told;
      } in
      ap (λ ms. walk_body t (first_flags s.known.now) calls home (slice_get ms number) place d) (methods_held home)
      ∙ ap (λ o. walk_body t (first_flags s.known.now) calls home o place d) (sym e)
      ∙ ap (λ (c : CodeScope). past_body place (walk_all (record { code = c; calls = calls; known = first_flags s.known.now }) method.body d)) (scope_held home ∙ sym code)
      ∙ subst (λ ns. past_body place (walk_all (record { code = scope_of s.body; calls = calls; known = first_flags s.known.now }) method.body (of_those (set_of_bits (locations_named ns.locations.now) bits) before))
      ≡ past_effect (locations_named ns.locations.now) (Some effect) place (of_those (set_of_bits (locations_named ns.locations.now) bits) before)) same (tells calls tells_calls place bits before)

  -- ---- one deeper

  pub deeds_held : (m : MethodAt) (k : ℕ) (deeds : List NumberedDeed) → number_among_methods (methods_named b.numbers.methods.now) m ≡ Some k → deeds ≡ deeds_or_none (slice_get b.deeds.now k)
      → deeds ≡ numbered_deeds (numbers_of b.numbers) (method_deeds t.program m)
  deeds_held m k deeds is e = e ∙ ap (λ o. deeds_or_none o) (held_deeds t b holds m k is)

  abbrev by_cycle : (known : Location → Bool) (depth : ℕ) (m : MethodAt) (place : Place) (dirty : DirtySet) → Bool → WalkEnd DirtySet
  by_cycle known depth m place dirty on =
      if on then read_locations place (read_on_cycle t m) dirty else walk_body t known (walk_method t known depth) m.home (slice_get (methods_of t.program m.home) m.number) place dirty

  -- a method on a cycle
  pub on_cycle_tells : (known : Location → Bool) (depth : ℕ) (m : MethodAt) (k : ℕ) (deeds : List NumberedDeed) (effect : CallEffect) → number_among_methods (methods_named b.numbers.methods.now) m ≡ Some k
      → deeds ≡ deeds_or_none (slice_get b.deeds.now k) → is_one_of_numbers (may_call b.deeds.now (length b.deeds.now + CALL_DEPTH) deeds) k ≡ true
      → effect ≡ effect_of_mentions (length b.numbers.locations.now) (with_called b.deeds.now (length b.deeds.now + CALL_DEPTH) deeds)
      → EffectTells (numbers_of b.numbers) effect (walk_method t known (suc depth) m)
  on_cycle_tells known depth m k deeds effect is found on e place bits before =
      let own = deeds_held m k deeds is found in
      let d = of_those (set_of_bits (locations_named b.numbers.locations.now) bits) before in
      ap (λ c. by_cycle known depth m place d c) (sym (held_cycle t b holds deeds m k is own) ∙ on)
      ∙ cycle_tells t b holds deeds m own place bits before
      ∙ ap (λ x. past_effect (locations_named b.numbers.locations.now) (Some x) place d) (sym e)

  -- another one
  pub off_cycle_tells : (known : List ByVariable) (depth : ℕ) (m : MethodAt) (k : ℕ) (deeds : List NumberedDeed) (effect : CallEffect)
      → number_among_methods (methods_named b.numbers.methods.now) m ≡ Some k → deeds ≡ deeds_or_none (slice_get b.deeds.now k)
      → is_one_of_numbers (may_call b.deeds.now (length b.deeds.now + CALL_DEPTH) deeds) k ≡ false
      → EffectTells (numbers_of b.numbers) effect (walk_body t (first_flags known) (walk_method t (first_flags known) depth) m.home (slice_get (methods_of t.program m.home) m.number))
      → EffectTells (numbers_of b.numbers) effect (walk_method t (first_flags known) (suc depth) m)
  off_cycle_tells known depth m k deeds effect is found off tells place bits before =
      let d = of_those (set_of_bits (locations_named b.numbers.locations.now) bits) before in
      ap (λ c. by_cycle (first_flags known) depth m place d c) (sym (held_cycle t b holds deeds m k is (deeds_held m k deeds is found)) ∙ off)
      ∙ tells place bits before

  -- where calls are at no depth
  pub first_tells : (known : Location → Bool) (m : MethodAt) (k : ℕ) (deeds : List NumberedDeed) (effect : CallEffect) → number_among_methods (methods_named b.numbers.methods.now) m ≡ Some k
      → deeds ≡ deeds_or_none (slice_get b.deeds.now k)
      → effect ≡ effect_of_mentions (length b.numbers.locations.now) (with_called b.deeds.now (length b.deeds.now + CALL_DEPTH) deeds) → EffectTells (numbers_of b.numbers) effect (walk_method t known 0 m)
  first_tells known m k deeds effect is found e place bits before =
      let d = of_those (set_of_bits (locations_named b.numbers.locations.now) bits) before in
      cycle_tells t b holds deeds m (deeds_held m k deeds is found) place bits before ∙ ap (λ x. past_effect (locations_named b.numbers.locations.now) (Some x) place d) (sym e)
