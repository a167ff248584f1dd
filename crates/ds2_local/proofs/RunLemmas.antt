-- The walk over `run`, and the effects of all methods at each depth.
use Rattle.std.proofs.Common.{◌≡◌, ◌<◌, ℕ, zero, suc, ◌+◌, ◌-◌, Bool, List, [], ◌∷◌, ◌++◌, length, map, drop, take, get_or, Option, Some, None, refl, sym, ap, ◌∙◌, subst, arith, true, false, true≢false, option_map}
use Rattle.std.specs.List.{range_with_len}
use Rattle.std.specs.Option.{option_or}
use Rattle.std.specs.Prelude.{slice_get, is_some, bytes_eq, if◌then◌else◌}
use Rattle.std.proofs.lemmas.List.{length-append, length-map}
use Rattle.std.proofs.lemmas.Option.{same_Some, slice_get-map, slice_get_read}
use Rattle.ds2_value.specs.declared.fault.TheConstants.{CALL_DEPTH}
use Rattle.ds2_base.specs.declared.place.Place.{Place}
use Rattle.ds2_meaning.specs.declared.readings.ByVariable.{ByVariable}
use Rattle.ds2_meaning.specs.declared.location.Global.{Global}
use Rattle.ds2_meaning.specs.declared.location.Global.TheVariants.{Named, First, Last, Present, Parameter}
use Rattle.ds2_meaning.specs.IsTyped.{is_by}
use Rattle.ds2_meaning.specs.Location.{Home, Location}
use Rattle.ds2_meaning.specs.ProgramTree.{UnitTree, sources, program_has_output}
use Rattle.ds2_meaning.specs.Reading.{bys_of}
use Rattle.ds2_meaning.specs.TypedStatement.{TypedStatements}
use Rattle.ds2_meaning.specs.View.{system_tree, reading_with_run}
use Rattle.ds2_program_code.specs.PlacedProgram.{number_of_location}
use Rattle.ds2_locality.specs.Deeds.{MethodAt, CodeScope, method_deeds, system_scope, columns_written, number_of_methods}
use Rattle.ds2_locality.specs.KeptLocations.{is_flag_of_by, is_first_of_by}
use Rattle.ds2_locality.specs.Verdict.{JudgedThread, walk_method, walk_run}
use Rattle.ds2_locality.specs.Walk.{DirtySet, no_flag, WalkEnd, then_walk, at_end, CallWalks, walk_all}
use Rattle.ds2_deeds.specs.declared.deed.NumberedDeed.{NumberedDeed}
use Rattle.ds2_deeds.specs.declared.methods.MethodName.{MethodName}
use Rattle.ds2_deeds.specs.CodeTrees.{nameless_tree, scope_of}
use Rattle.ds2_deeds.specs.NamedLocations.{locations_named}
use Rattle.ds2_deeds.specs.NamedMethods.{method_of_name, methods_named, number_among_methods}
use Rattle.ds2_deeds.specs.NumberedCalls.{deeds_or_none, with_called}
use Rattle.ds2_deeds.specs.NumberedDeeds.{numbers_of, numbered_deeds}
use Rattle.ds2_recorded_walk.specs.declared.record.CallEffect.{CallEffect}
use Rattle.ds2_recorded_walk.specs.declared.record.RecordedRead.{RecordedRead}
use Rattle.ds2_recorded_walk.specs.declared.record.RecordedWalk.{RecordedWalk}
use Rattle.ds2_recorded_walk.specs.declared.walk_scope.RecordScope.{RecordScope}
use Rattle.ds2_recorded_walk.specs.KnownFlags.{first_flags}
use Rattle.ds2_recorded_walk.specs.LocationBits.{set_of_bits, both_on, either_on}
use Rattle.ds2_recorded_walk.specs.RecordedStatements.{TellsCalls}
use Rattle.ds2_recorded_walk.specs.RecordedWalks.{of_those, first_failing, walk_ending, EffectsTell}
use Rattle.ds2_local.specs.declared.judged.JudgedBodies.{JudgedBodies}
use Rattle.ds2_local.specs.EffectSteps.{EffectTells, EffectsAtDepth, RunTells, RunRecorded}
use Rattle.ds2_local.specs.JudgedBodies.{HoldsJudged, effect_of_mentions}
use Rattle.ds2_local.specs.JudgedTrees.{place_of_system}
use Rattle.ds2_local.specs.RunGrounds.{AreCells, past_run_by, is_flag_at, find_dirty, IsGroundAt}
use Rattle.ds2_local.specs.Verdicts.{TellsCells}
use Rattle.ds2_local.proofs.CellLemmas.{told_number}
use Rattle.ds2_local.proofs.DepthLemmas.{held_count}
use Rattle.ds2_local.proofs.GrainLemmas.{grain_told}

by_next : (b c d : Bool) → (if b then true else c) ≡ true → (c ≡ true → d ≡ true) → (if b then true else d) ≡ true
by_next true c d e later = refl
by_next false c d e later = later e

-- one of the first BY variables is one of them
by_of_first : (bys : List ByVariable) (count : ℕ) (name : List ℕ) → is_by (take count bys) name ≡ true → is_by bys name ≡ true
by_of_first [] zero name e = e
by_of_first [] (suc count) name e = e
by_of_first (by ∷ bys) zero name e = absurd (true≢false (sym e))
by_of_first (by ∷ bys) (suc count) name e = by_next (bytes_eq by.name name) (is_by (take count bys) name) (is_by bys name) e (λ f. by_of_first bys count name f)

-- ---- `run`

module _ (t : JudgedThread) (b : JudgedBodies) (holds : HoldsJudged t b) where
  abbrev ls : List Location
  ls = locations_named b.numbers.locations.now

  -- the walk over `run`, of its parts
  abbrev walk_of : (known : Location → Bool) (d : DirtySet) (code : CodeScope) (statements : TypedStatements) (has_output : Bool) (place : Place) (outputs : ℕ) → WalkEnd DirtySet
  walk_of known d code statements has_output place outputs =
      then_walk (walk_all (record { code = code; calls = walk_method t known (number_of_methods t.program); known = known }) statements d)
      (λ ways. past_run_by has_output place (columns_written code (range_with_len 0 outputs)) (at_end ways))

  run_by_parts : (known : Location → Bool) (d : DirtySet) (code : CodeScope) → code ≡ system_scope (nameless_tree b.program.now)
      → walk_run t known d ≡ walk_of known d code (system_tree b.program.now.run).statements (program_has_output (nameless_tree b.program.now)) (place_of_system b.program.now.run) (length code.outputs)
  run_by_parts known d code e =
      ap (λ (p : UnitTree). walk_of known d (system_scope p) p.run.statements (program_has_output p) t.run_place (length p.outputs)) holds.numbered.tree
      ∙ ap (λ place. walk_of known d (system_scope (nameless_tree b.program.now)) (system_tree b.program.now.run).statements (program_has_output (nameless_tree b.program.now)) place (length b.program.now.outputs)) holds.numbered.run_place
      ∙ ap (λ n. walk_of known d (system_scope (nameless_tree b.program.now)) (system_tree b.program.now.run).statements (program_has_output (nameless_tree b.program.now)) (place_of_system b.program.now.run) n)
      (sym (length-map b.program.now.outputs sources))
      ∙ ap (λ (c : CodeScope). walk_of known d c (system_tree b.program.now.run).statements (program_has_output (nameless_tree b.program.now)) (place_of_system b.program.now.run) (length c.outputs)) (sym e)

  -- a recorded walk over `run` tells how it is walked
  pub run_tells : (s : RecordScope) (w : RecordedWalk) → s.numbers ≡ b.numbers → scope_of s.body ≡ system_scope (nameless_tree b.program.now) → EffectsAtDepth t b s.known.now s.effects.now (length b.deeds.now)
      → RunRecorded s (system_tree b.program.now.run).statements (program_has_output (nameless_tree b.program.now)) (place_of_system b.program.now.run) w → RunTells t ls (first_flags s.known.now) w
  run_tells s w same code told recorded bits before =
      let known = first_flags s.known.now in
      let calls = walk_method t known (number_of_methods t.program) in
      let deep : EffectsAtDepth t b s.known.now s.effects.now (number_of_methods t.program) = subst (λ n. EffectsAtDepth t b s.known.now s.effects.now n) (held_count t b holds) told in
      let tells_calls : TellsCalls s calls = record {
        distinct = λ n at f. ap (λ ns. number_of_location (locations_named ns.locations.now) at) same ∙ holds.distinct n at (ap (λ ns. slice_get (locations_named ns.locations.now) n) (sym same) ∙ f);
        effects = subst (λ ns. EffectsTell (numbers_of ns) s.effects.now calls) (sym same) deep;
      } in
      run_by_parts known (of_those (set_of_bits ls bits) before) (scope_of s.body) code
      ∙ subst (λ ns. walk_of known (of_those (set_of_bits (locations_named ns.locations.now) bits) before) (scope_of s.body) (system_tree b.program.now.run).statements (program_has_output (nameless_tree b.program.now)) (place_of_system b.program.now.run) (length (scope_of s.body).outputs)
      ≡ walk_ending (first_failing (locations_named ns.locations.now) (of_those (set_of_bits (locations_named ns.locations.now) bits) before) w.reads)
      (of_those (set_of_bits (locations_named ns.locations.now) w.onward) (of_those (set_of_bits (locations_named ns.locations.now) bits) before))) same (recorded calls tells_calls bits before)

  -- without known flags
  pub no_flag_tells : (w : RecordedWalk) → RunTells t ls (first_flags []) w → RunTells t ls no_flag w
  no_flag_tells w h = subst (λ known. RunTells t ls known w) none_known h
    where
      none_at : (at : Location) → first_flags [] at ≡ no_flag at
      none_at at = by_parts at.home at.global
        where
          by_parts : (home : Home) (g : Global) → is_first_of_by [] home g ≡ false
          by_parts None (First name) = refl
          by_parts None (Last name) = refl
          by_parts None (Named name) = refl
          by_parts None (Present name) = refl
          by_parts None (Parameter name) = refl
          by_parts (Some instance) g = refl

      none_known : first_flags [] ≡ no_flag
      none_known = λ i at. none_at at i

  -- ---- the BY variables

  bys_here : bys_of t.program.reading ≡ bys_of (reading_with_run b.program.now.run b.program.now.reading)
  bys_here = ap (λ (p : UnitTree). bys_of p.reading) holds.numbered.tree

  -- how many there are
  pub bys_counted : (bys : List ByVariable) → bys ≡ bys_of (reading_with_run b.program.now.run b.program.now.reading) → bys ≡ bys_of t.program.reading
  bys_counted bys e = e ∙ sym bys_here

  -- the flags of the first ones have numbers
  pub flags_told : TellsCells t → (count : ℕ) (at : Location) → is_flag_at (take count (bys_of t.program.reading)) at ≡ true → is_some (number_of_location ls at) ≡ true
  flags_told told count at e = told_number t b holds at (told.flags at (of_first at.home at.global e))
    where
      of_first : (home : Home) (g : Global) → is_flag_of_by (take count (bys_of t.program.reading)) home g ≡ true → is_flag_of_by (bys_of t.program.reading) home g ≡ true
      of_first None (First name) f = by_of_first (bys_of t.program.reading) count name f
      of_first None (Last name) f = by_of_first (bys_of t.program.reading) count name f
      of_first None (Named name) f = absurd (true≢false (sym f))
      of_first None (Present name) f = absurd (true≢false (sym f))
      of_first None (Parameter name) f = absurd (true≢false (sym f))
      of_first (Some instance) g f = absurd (true≢false (sym f))

  -- the ground at a grain, by what the code finds
  pub grain_found : TellsCells t → (cells : List Bool) → AreCells t ls cells → (grain : ℕ) (bys coarser finer : List ByVariable) (first : RecordedWalk) (flags dirty : List Bool) (read : Option RecordedRead) (later : RecordedWalk)
      → bys ≡ bys_of (reading_with_run b.program.now.run b.program.now.reading) → coarser ≡ take (grain - 1) bys → finer ≡ drop (grain - 1) bys
      → RunTells t ls (first_flags finer) first → flags ≡ map (is_flag_at coarser) ls → dirty ≡ either_on cells flags → RunTells t ls no_flag later
      → read ≡ option_or (find_dirty dirty first.reads) (find_dirty (either_on (both_on dirty first.onward) flags) later.reads) → IsGroundAt t ls grain read
  grain_found told cells are grain bys coarser finer first flags dirty read later e f g tells_first h k tells_later i =
      let same = bys_counted bys e in
      grain_told t ls holds.distinct grain cells flags dirty first later read are (flags_told told (grain - 1)) (h ∙ ap (λ l. map (is_flag_at l) ls) (f ∙ ap (λ l. take (grain - 1) l) same)) k
      (subst (λ l. RunTells t ls (first_flags l) first) (g ∙ ap (λ l. drop (grain - 1) l) same) tells_first) tells_later i
