-- The names of a unit, from the lists that its parts give.
use Rattle.std.proofs.Common.{◌≡◌, ℕ, Bool, true, false, not, List, [], ◌∷◌, ◌++◌, Option, Some, None, refl, ap, ◌∙◌, append-nil, append_assoc}
use Rattle.std.specs.Prelude.{if◌then◌else◌, map, filter, is_some}
use Rattle.std.specs.Option.{option_map}
use Rattle.ds2_base.specs.declared.place.Place.{Place}
use Rattle.ds2_token.specs.declared.token.Token.{Token}
use Rattle.ds2_tree.specs.declared.readings.Reading.{Reading}
use Rattle.ds2_tree.specs.declared.readings.Reading.TheVariants as reading
use Rattle.ds2_meaning.specs.ProgramTree.{is_listed}
use Rattle.ds2_names.specs.SourceUnit.{TableColumns, PlacedName, names_alone, declared_names, variable_declarations, SourceInstance, source_instances, UnitSource, KnownUnit, KnownThread, names_of_unit, flag_names, new_columns, stage_columns_at, columns_of_stage, tables_of_reading, bys_of_reading, stage_token, stage_read}
use Rattle.ds2_scope.specs.Collected.{by_name, output_table_name, parameter_name, instance_name}
use Rattle.ds2_scope.specs.NameSets.{stage_columns_by}
use Rattle.ds2_scope.specs.UnitNames.{NamesAre, reading_in_unit, is_stage_open}
use Rattle.ds2_scope.specs.UnitsKnown.{kept_thread}
use Rattle.ds2_scope.specs.declared.known.KnownThread as code_thread

-- ---- columns of a thread program

columns_at : (names : List (List ℕ)) (place : Place) (columns : List (List ℕ))
    → stage_columns_by (is_listed names) place columns ≡ map (λ name. record { name = name; place = place }) (filter (λ name. not (is_listed names name)) columns)
columns_at names place [] = refl
columns_at names place (c ∷ columns) = by (is_listed names c) (columns_at names place columns)
  where
    one : List ℕ → PlacedName
    one name = record { name = name; place = place }

    rest : List (List ℕ)
    rest = filter (λ name. not (is_listed names name)) columns

    by : (t : Bool) → stage_columns_by (is_listed names) place columns ≡ map one rest
        → (if t then [] else one c ∷ []) ++ stage_columns_by (is_listed names) place columns ≡ map one (if not t then c ∷ rest else rest)
    by true h = h
    by false h = ap (λ r. one c ∷ r) h

abbrev columns_in : Option code_thread.KnownThread → List (List ℕ)
columns_in None = []
columns_in (Some t) = t.columns

module _ (known : List KnownUnit) (is : List SourceInstance) (names : List (List ℕ)) (stage : Token) where
  -- where the thread program is not known
  pub stage_none : None ≡ option_map kept_thread (stage_read known is (Some stage)) → ([] ≡ columns_of_stage known is names (Some stage)) × (true ≡ is_stage_open known is (Some stage))
  stage_none h = by (stage_read known is (Some stage)) h
    where
      by : (r : Option KnownThread) → None ≡ option_map kept_thread r → ([] ≡ stage_columns_at names stage.place r) × (true ≡ not (is_some r))
      by None k = (refl, refl)
      by (Some t) k = absurd (cc k)

  -- where it is known
  pub stage_some : (thread : code_thread.KnownThread) → Some thread ≡ option_map kept_thread (stage_read known is (Some stage))
      → (stage_columns_by (is_listed names) stage.place thread.columns ≡ columns_of_stage known is names (Some stage)) × (false ≡ is_stage_open known is (Some stage))
  stage_some thread h = by (stage_read known is (Some stage)) h
    where
      by : (r : Option KnownThread) → Some thread ≡ option_map kept_thread r
          → (stage_columns_by (is_listed names) stage.place thread.columns ≡ stage_columns_at names stage.place r) × (false ≡ not (is_some r))
      by None k = absurd (cc k)
      by (Some t) k = (ap (λ o. stage_columns_by (is_listed names) stage.place (columns_in o)) k ∙ columns_at names stage.place t.columns, refl)

-- ---- a unit

-- the reading statement of a unit is that among its names
pub reading_is : (tables : TableColumns) (known : List KnownUnit) (u : UnitSource) → reading_in_unit u ≡ (names_of_unit tables known u).reading
reading_is tables known u = refl

-- declared variables, the columns of tables and those of a thread program
pub read_is : (tables : TableColumns) (known : List KnownUnit) (is : List SourceInstance) (d : List PlacedName) (r : Option Reading)
    → (d ++ new_columns tables (names_alone d) (tables_of_reading r)) ++ columns_of_stage known is (names_alone (d ++ new_columns tables (names_alone d) (tables_of_reading r))) (stage_token r)
    ≡ d ++ (new_columns tables (names_alone d) (tables_of_reading r) ++ columns_of_stage known is (names_alone d) (stage_token r))
read_is tables known is d None = append_assoc d [] []
read_is tables known is d (Some (reading.Set keyword inputs end by)) = append_assoc d (new_columns tables (names_alone d) inputs) []
read_is tables known is d (Some (reading.SetFrom keyword from instance threads end)) = ap (λ x. x ++ columns_of_stage known is (names_alone x) (Some instance)) (append-nil d)
read_is tables known is d (Some (reading.Merge keyword inputs retain end by)) = append_assoc d (new_columns tables (names_alone d) inputs) []

abbrev declared : UnitSource → List PlacedName
declared u = declared_names (variable_declarations u.globals)

module _ (tables : TableColumns) (known : List KnownUnit) (u : UnitSource) where
  pub names_are : (r : Option Reading) (vars params flags bys outputs instances : List PlacedName) (is_open : Bool) → r ≡ reading_in_unit u
      → vars ≡ declared_names (variable_declarations u.globals) ++ (new_columns tables (names_alone (declared_names (variable_declarations u.globals))) (tables_of_reading r)
      ++ columns_of_stage known (source_instances u.globals) (names_alone (declared_names (variable_declarations u.globals))) (stage_token r))
      → params ≡ map parameter_name u.parameters → flags ≡ flag_names (tables_of_reading r) → bys ≡ map by_name (bys_of_reading r) → outputs ≡ map output_table_name u.outputs
      → instances ≡ map instance_name (source_instances u.globals) → is_open ≡ is_stage_open known (source_instances u.globals) (stage_token r)
      → NamesAre (record { variables = vars; parameters = params; flags = flags; bys = bys; outputs = outputs; instances = instances; is_open = is_open }) (names_of_unit tables known u)
  names_are r vars params flags bys outputs instances is_open e v p f b o n s =
      let k = e ∙ reading_is tables known u in record {
        variables = v ∙ (λ i. declared u ++ (new_columns tables (names_alone (declared u)) (tables_of_reading (k i)) ++ columns_of_stage known (source_instances u.globals) (names_alone (declared u)) (stage_token (k i))));
        parameters = p;
        flags = f ∙ (λ i. flag_names (tables_of_reading (k i)));
        bys = b ∙ (λ i. map by_name (bys_of_reading (k i)));
        outputs = o;
        instances = n;
        is_open = s ∙ (λ i. is_stage_open known (source_instances u.globals) (stage_token (k i)));
      }
