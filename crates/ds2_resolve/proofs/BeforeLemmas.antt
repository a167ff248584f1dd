-- The limits over a source, and what stands behind a unit.
use Rattle.std.proofs.Common.{◌≡◌, ℕ, ◌+◌, ◌-◌, ◌||◌, List, [], ◌∷◌, ◌++◌, length, drop, nat_lt, nat_eq, Option, subst, refl, sym, ap, ◌∙◌, length-append, arith}
use Rattle.std.specs.Prelude.{if◌then◌else◌}
use Rattle.std.specs.Cmp.Lexicographic.{pointwise}
use Rattle.std.specs.HashSet.{contains}
use Rattle.std.proofs.lemmas.List.{length-map}
use Rattle.ds2_base.specs.declared.place.Place.{Place}
use Rattle.ds2_calls.specs.KnownUnits.{KnowsCalls}
use Rattle.ds2_calls.specs.declared.known_calls.KnownCalls.{KnownCalls}
use Rattle.ds2_tree.specs.Units.{Package, Thread, DataProgram, APackage, AThread, AData, package_spelling}
use Rattle.ds2_meaning.specs.ProgramTree.{is_listed}
use Rattle.ds2_names.specs.NameRules.{from_each, columns_left}
use Rattle.ds2_names.specs.SourceLimits.{BeforeUnit, mentioned_table, tables_of_store, first_mentions, known_part, behind_part, unit_place, units_before, tokens_behind, beyond_tokens, too_many_units, too_many_tokens, too_many_tables, beyond_source_limits, chain_length}
use Rattle.ds2_names.specs.SourceUnit.{TableColumns, PlacedName, UnitSource, KnownUnit, Packaged, Threaded, spelled_name, names_alone, names_of_unit, source_instances, source_methods, unit_of_package, unit_of_thread, unit_of_data}
use Rattle.ds2_names.specs.UnitRules.{places_of}
use Rattle.ds2_scope.specs.CodeUnits.{unit_kind}
use Rattle.ds2_scope.specs.Earliest.{earlier_of, earliest}
use Rattle.ds2_scope.specs.UnitsKnown.{KnowsUnits}
use Rattle.ds2_scope.specs.declared.known.KnownUnits.{KnownUnits}
use Rattle.ds2_scope.specs.declared.unit.UnitKind.{UnitKind}
use Rattle.ds2_scope.specs.declared.unit.UnitKind.TheVariants as kind
use Rattle.ds2_scope.proofs.EarliestLemmas.{earliest_append}
use Rattle.ds2_resolve.specs.declared.before.UnitsBefore.{UnitsBefore}
use Rattle.ds2_resolve.specs.StandingBefore.{first_tables, count_of_kind, TellsOfUnits, behind_mentions}
use Rattle.ds2_resolve.specs.StoreMentions.{stored_in_global, first_by}
use Rattle.ds2_resolve.specs.TableMakers.{maker_in, makes_table}
use Rattle.ds2_resolve.proofs.MakerLemmas.{maker_is}
use Rattle.ds2_resolve.proofs.MentionedTables.{listed_append, first_mentions_are, globals_stored}

counts_are : (b : UnitsBefore) (units : BeforeUnit) → TellsOfUnits b units → (k : UnitKind) → count_of_kind b k ≡ units_before units (unit_kind k)
counts_are b units kept kind.Package = kept.known.package_count
counts_are b units kept kind.Thread = kept.known.thread_count
counts_are b units kept kind.Data = kept.count

module _ (b : UnitsBefore) (units : BeforeUnit) (kept : TellsOfUnits b units) (u : UnitSource) where
  -- the tables of the store that a unit mentions for the first time
  pub first_are : first_mentions units.mentioned (tables_of_store units.made u.globals) ≡ first_tables b u.globals
  first_are =
      first_mentions_are units.mentioned (tables_of_store units.made u.globals)
      ∙ ap (first_by (is_listed units.mentioned)) (globals_stored (λ name. nat_eq (mentioned_table units.made name).maker 0) u.globals)
      ∙ sym (λ i. first_by (λ name. kept.mentioned name i) (from_each (stored_in_global (λ name. nat_eq (kept.makers name i) 0)) u.globals))

  -- the earliest place beyond a limit over the source
  pub limits_are : (k : UnitKind) → unit_kind k ≡ u.kind
      → earlier_of (earlier_of (earliest (if nat_lt (count_of_kind b k) 64 then [] else unit_place u.name u.outputs)) (earliest (beyond_tokens 1000000 units.known b.tokens (source_instances u.globals))))
      (earliest (places_of (drop b.room (first_tables b u.globals))))
      ≡ earliest (beyond_source_limits units u)
  limits_are k same =
      let count = counts_are b units kept k ∙ ap (units_before units) same in
      (λ i. earlier_of (earlier_of (earliest (if nat_lt (count i) 64 then [] else unit_place u.name u.outputs)) (earliest (beyond_tokens 1000000 units.known (kept.tokens i) (source_instances u.globals))))
      (earliest (places_of (drop (kept.room i) (sym first_are i)))))
      ∙ sym (earliest_append (too_many_units units u ++ too_many_tokens units u) (too_many_tables units u) ∙ ap (λ x. earlier_of x (earliest (too_many_tables units u))) (earliest_append (too_many_units units u) (too_many_tokens units u)))

  -- what is kept with the unit's mentions and tokens
  pub mentions_are : (b' : UnitsBefore) → b'.known ≡ b.known → b'.calls ≡ b.calls → b'.count ≡ b.count → b'.makers ≡ b.makers
      → ((name : List ℕ) → contains (pointwise nat_eq) b'.mentioned name ≡ (is_listed (names_alone (first_tables b u.globals)) name || contains (pointwise nat_eq) b.mentioned name))
      → b'.room ≡ b.room - length (first_tables b u.globals) → b'.tokens ≡ tokens_behind units.known b.tokens (source_instances u.globals) → TellsOfUnits b' (behind_mentions u units)
  mentions_are b' k c n m mentioned room tokens = record {
    known = subst (λ (x : KnownUnits). KnowsUnits x units.known) (sym k) kept.known;
    calls = subst (λ (x : KnownCalls). KnowsCalls x units.known) (sym c) kept.calls;
    count = n ∙ kept.count;
    makers = λ name. ap (λ x. maker_in x name) m ∙ kept.makers name;
    mentioned = λ name.
        mentioned name
        ∙ (λ i. is_listed (names_alone (sym first_are i)) name || kept.mentioned name i)
        ∙ sym (listed_append (names_alone (first_mentions units.mentioned (tables_of_store units.made u.globals))) units.mentioned name);
    room =
        let first = first_mentions units.mentioned (tables_of_store units.made u.globals) in
        let all = length-append (names_alone first) units.mentioned in
        let alone = length-map first (λ (x : PlacedName). x.name) in
        let same : length first ≡ length (first_tables b u.globals) = ap length first_are in
        omega (arith, room, kept.room, all, alone, same);
    tokens = tokens ∙ ap (λ x. tokens_behind units.known x (source_instances u.globals)) kept.tokens;
  }

-- ---- behind a unit

-- behind a data program
pub data_behind : (b b' : UnitsBefore) (units : BeforeUnit) (u : DataProgram) (tables : TableColumns) → TellsOfUnits b (behind_mentions (unit_of_data u) units)
    → b'.known ≡ b.known → b'.calls ≡ b.calls → b'.count ≡ b.count + 1 → ((name : List ℕ) → maker_in b'.makers name ≡ (if makes_table u.outputs name then b.count + 1 else maker_in b.makers name))
    → b'.mentioned ≡ b.mentioned → b'.room ≡ b.room → b'.tokens ≡ b.tokens → TellsOfUnits b' (behind_part tables (AData u) units)
data_behind b b' units u tables kept k c count makers m r t = record {
  known = subst (λ (x : KnownUnits). KnowsUnits x units.known) (sym k) kept.known;
  calls = subst (λ (x : KnownCalls). KnowsCalls x units.known) (sym c) kept.calls;
  count = count ∙ ap (λ n. n + 1) kept.count;
  makers = λ name.
      makers name
      ∙ (λ i. if makes_table u.outputs name then kept.count i + 1 else kept.makers name i)
      ∙ sym (maker_is (units.data_programs + 1) u.outputs units.made name);
  mentioned = λ name. ap (λ x. contains (pointwise nat_eq) x name) m ∙ kept.mentioned name;
  room = r ∙ kept.room;
  tokens = t ∙ kept.tokens;
}

-- behind a package
pub package_behind : (b b' : UnitsBefore) (units : BeforeUnit) (u : Package) (tables : TableColumns) → TellsOfUnits b (behind_mentions (unit_of_package u) units)
    → KnowsUnits b'.known (known_part tables units.known (APackage u) ++ units.known) → KnowsCalls b'.calls (known_part tables units.known (APackage u) ++ units.known)
    → b'.count ≡ b.count → b'.makers ≡ b.makers → b'.mentioned ≡ b.mentioned → b'.room ≡ b.room → b'.tokens ≡ b.tokens → TellsOfUnits b' (behind_part tables (APackage u) units)
package_behind b b' units u tables kept known calls count makers m r t = record {
  known = known;
  calls = calls;
  count = let k = kept.count in omega (arith, count, k);
  makers = λ name. ap (λ x. maker_in x name) makers ∙ kept.makers name;
  mentioned = λ name. ap (λ x. contains (pointwise nat_eq) x name) m ∙ kept.mentioned name;
  room = r ∙ kept.room;
  tokens = t ∙ kept.tokens;
}

-- behind a thread program
pub thread_behind : (b b' : UnitsBefore) (units : BeforeUnit) (u : Thread) (tables : TableColumns) → TellsOfUnits b (behind_mentions (unit_of_thread u) units)
    → KnowsUnits b'.known (known_part tables units.known (AThread u) ++ units.known) → KnowsCalls b'.calls (known_part tables units.known (AThread u) ++ units.known)
    → b'.count ≡ b.count → b'.makers ≡ b.makers → b'.mentioned ≡ b.mentioned → b'.room ≡ b.room → b'.tokens ≡ b.tokens → TellsOfUnits b' (behind_part tables (AThread u) units)
thread_behind b b' units u tables kept known calls count makers m r t = record {
  known = known;
  calls = calls;
  count = let k = kept.count in omega (arith, count, k);
  makers = λ name. ap (λ x. maker_in x name) makers ∙ kept.makers name;
  mentioned = λ name. ap (λ x. contains (pointwise nat_eq) x name) m ∙ kept.mentioned name;
  room = r ∙ kept.room;
  tokens = t ∙ kept.tokens;
}
