-- What the rules of readings, globals, units and sources read depends on the tokens up to the next one, and more levels or turns change nothing of it.
use Rattle.std.proofs.Common.{◌≡◌, ℕ, ◌≤◌, codes, List, Option, Some, None}
use Rattle.ds2_token.specs.declared.token.Token.{Token}
use Rattle.ds2_token.specs.Words.{is_name_token, is_package_name, is_table, is_text, is_integer, spells_table}
use Rattle.ds2_tree.specs.Parsers.{One, Two, peek}
use Rattle.ds2_tree.proofs.Steady.{Steady, Steadily, steady_pure, steady_no, steady_then, steady_peek, by_to, by_seq, by_choose, by_optional, by_many}
use Rattle.ds2_tree.specs.Globals.{is_dcl, is_list_keyword, is_decimal_keyword, is_text_keyword}
use Rattle.ds2_tree.specs.Units.{SourcePart, is_kept_or_dropped, is_answer}
use Rattle.ds2_parse_rules.specs.GrammarTokens.{is_open_mark, is_comma_mark, starts, one_or_more}
use Rattle.ds2_parse_rules.specs.StatementGrammar.{begins_statement, statement_rule}
use Rattle.ds2_parse_rules.specs.ReadingGrammar.{input_flag_of, input_flag_rule, input_read, inputs_rule, begins_by_variable, by_variable_of, by_of, by_rule, threads_of, threads_rule, set_from_rule, set_tables_rule, is_slash_mark, merge_retain_of, merge_rule, reading_of_kind, begins_reading, reading_rule}
use Rattle.ds2_parse_rules.specs.GlobalGrammar.{type_scale_of, type_of_kind, type_rule, names_rule, variables_of, variables_tail, variables_rule, is_minus_mark, is_number_constant, is_unsigned_constant, begins_constant, signed_value, constant_behind, constant_list_of, constants_rule, begins_bracketed_name, bracketed_name_of, bracketed_names_of, bracketed_of, bracketed_rule, hash_table_of, hash_size_of, hash_size_rule, hash_rule, hiter_rule, instance_rule, package_tail, declaration_of, declaration_rule, begins_parameter, parameter_behind, parameters_of, parameters_rule, returns_of, returns_rule, body_rule, method_of, method_rule, listed_rule, global_of_kind, begins_global, global_rule}
use Rattle.ds2_parse_rules.specs.UnitGrammar.{renaming_of, option_of_kind, begins_option, option_rule, options_read, output_read, output_rule, unit_body_rule, package_of, package_rule, thread_of, thread_rule, data_of, data_rule, part_of_kind, begins_part, part_rule, parts_rule, at_the_end, source_rule}
use Rattle.ds2_parse_statements.proofs.SteadyLaws.{by_kept, by_mark, by_word, by_more, by_commas, steady_statement}

-- ---- readings

module _ {Same : Type 0} (m m' : ℕ) (le : m ≤ m') where
  steady_flag : Steadily Same input_flag_rule input_flag_rule
  steady_flag = by_to input_flag_of (by_seq (by_mark (codes "(")) (by_seq (by_word (codes "in")) (by_seq (by_mark (codes "=")) (by_seq (by_kept is_name_token) (by_mark (codes ")"))))))

  steady_inputs : Steadily Same (inputs_rule m) (inputs_rule m')
  steady_inputs = by_more m m' le is_table (by_to input_read (by_seq (by_kept is_table) (by_optional is_open_mark steady_flag)))

  steady_by : Steadily Same (by_rule m) (by_rule m')
  steady_by = by_to by_of (by_seq (by_word (codes "by")) (by_seq (by_more m m' le begins_by_variable
      (by_to by_variable_of (by_seq (by_optional (starts (codes "descending")) (by_word (codes "descending"))) (by_kept is_name_token)))) (by_mark (codes ";"))))

  steady_threads : Steadily Same threads_rule threads_rule
  steady_threads = by_to threads_of (by_seq (by_word (codes "threads")) (by_seq (by_mark (codes "=")) (by_kept is_integer)))

  steady_set_from : Steadily Same set_from_rule set_from_rule
  steady_set_from = by_seq (by_word (codes "from")) (by_seq (by_kept is_name_token) (by_seq (by_optional (starts (codes "threads")) steady_threads) (by_mark (codes ";"))))

  steady_set_tables : Steadily Same (set_tables_rule m) (set_tables_rule m')
  steady_set_tables = by_seq steady_inputs (by_seq (by_mark (codes ";")) (by_optional (starts (codes "by")) steady_by))

  steady_merge : Steadily Same (merge_rule m) (merge_rule m')
  steady_merge = by_seq (by_word (codes "merge")) (by_seq steady_inputs (by_seq (by_optional is_slash_mark (by_to merge_retain_of (by_seq (by_mark (codes "/")) (by_word (codes "retain"))))) (by_seq (by_mark (codes ";")) steady_by)))

  pub steady_reading : Steadily Same (reading_rule m) (reading_rule m')
  steady_reading = by_to reading_of_kind (by_choose (starts (codes "set"))
      (by_to One (by_seq (by_word (codes "set")) (by_choose (starts (codes "from")) (by_to One steady_set_from) (by_to Two steady_set_tables)))) (by_to Two steady_merge))

  -- ---- declarations

  steady_type : Steadily Same type_rule type_rule
  steady_type = by_to type_of_kind (by_choose (starts (codes "bigint")) (by_to One (by_word (codes "bigint"))) (by_to Two (by_choose is_decimal_keyword
      (by_to One (by_seq (by_kept is_decimal_keyword) (by_seq (by_mark (codes "(")) (by_seq (by_kept is_integer) (by_seq (by_optional is_comma_mark (by_to type_scale_of (by_seq (by_mark (codes ",")) (by_kept is_integer)))) (by_mark (codes ")")))))))
      (by_to Two (by_seq (by_kept is_text_keyword) (by_seq (by_mark (codes "(")) (by_seq (by_kept is_integer) (by_mark (codes ")")))))))))

  steady_names : Steadily Same (names_rule m) (names_rule m')
  steady_names = by_more m m' le is_name_token (by_kept is_name_token)

  steady_tail : Steadily Same (variables_tail m) (variables_tail m')
  steady_tail = by_seq steady_type (by_seq steady_names (by_mark (codes ";")))

  steady_variables : Steadily Same (variables_rule m) (variables_rule m')
  steady_variables = by_to variables_of (by_seq (by_kept is_dcl) steady_tail)

  steady_constants : Steadily Same (constants_rule m) (constants_rule m')
  steady_constants = by_to constant_list_of (by_seq (by_mark (codes "(")) (by_seq (by_commas m m' le begins_constant constant_behind
      (by_to signed_value (by_choose is_minus_mark (by_to One (by_seq (by_mark (codes "-")) (by_kept is_number_constant))) (by_to Two (by_kept is_unsigned_constant))))) (by_mark (codes ")"))))

  steady_bracketed : Steadily Same (bracketed_rule m) (bracketed_rule m')
  steady_bracketed = by_to bracketed_of (by_seq (by_mark (codes "[")) (by_seq (by_to bracketed_names_of (by_seq (by_kept is_name_token) (by_many m m' le begins_bracketed_name
      (by_to bracketed_name_of (by_seq (by_optional is_comma_mark (by_mark (codes ","))) (by_kept is_name_token)))))) (by_mark (codes "]"))))

  steady_hash_size : Steadily Same hash_size_rule hash_size_rule
  steady_hash_size = by_to hash_size_of (by_seq (by_mark (codes ",")) (by_seq (by_kept is_integer) (by_optional is_comma_mark (by_to hash_table_of (by_seq (by_mark (codes ",")) (by_kept spells_table))))))

  steady_hash : Steadily Same (hash_rule m) (hash_rule m')
  steady_hash =
      by_seq (by_word (codes "hash")) (by_seq (by_kept is_name_token) (by_seq (by_mark (codes "(")) (by_seq steady_bracketed (by_seq (by_mark (codes ","))
      (by_seq steady_bracketed (by_seq (by_optional is_comma_mark steady_hash_size) (by_seq (by_mark (codes ")")) (by_mark (codes ";")))))))))

  steady_hiter : Steadily Same hiter_rule hiter_rule
  steady_hiter = by_seq (by_word (codes "hiter")) (by_seq (by_kept is_name_token) (by_seq (by_mark (codes "(")) (by_seq (by_kept is_text) (by_seq (by_mark (codes ")")) (by_mark (codes ";"))))))

  steady_instance : Steadily Same (instance_rule m) (instance_rule m')
  steady_instance = by_seq (by_kept is_package_name) (by_seq (by_kept is_name_token) (by_seq (by_optional is_open_mark steady_constants) (by_mark (codes ";"))))

  steady_package_tail : Steadily Same (package_tail m) (package_tail m')
  steady_package_tail = by_choose (starts (codes "hash")) (by_to One steady_hash) (by_to Two (by_choose (starts (codes "hiter")) (by_to One steady_hiter) (by_to Two steady_instance)))

  steady_declaration : Steadily Same (declaration_rule m) (declaration_rule m')
  steady_declaration = by_to declaration_of (by_seq (by_kept is_dcl)
      (by_choose (starts (codes "package")) (by_to One (by_seq (by_word (codes "package")) steady_package_tail)) (by_to Two (by_choose (starts (codes "thread"))
      (by_to One (by_seq (by_word (codes "thread")) (by_seq (by_kept is_name_token) (by_seq (by_kept is_name_token) (by_mark (codes ";")))))) (by_to Two steady_tail)))))

  -- ---- methods and globals

  steady_parameters : Steadily Same (parameters_rule m) (parameters_rule m')
  steady_parameters = by_to parameters_of (by_seq (by_mark (codes "(")) (by_seq (by_commas m m' le begins_parameter parameter_behind
      (by_seq (by_optional (starts (codes "in_out")) (by_word (codes "in_out"))) (by_seq steady_type (by_kept is_name_token)))) (by_mark (codes ")"))))

  steady_returns : Steadily Same returns_rule returns_rule
  steady_returns = by_to returns_of (by_seq (by_word (codes "returns")) steady_type)

  steady_listed : Steadily Same (listed_rule m) (listed_rule m')
  steady_listed = by_seq (by_kept is_list_keyword) (by_seq steady_names (by_mark (codes ";")))

  module _ (n n' : ℕ) (low : n ≤ n') (is : Same → n ≡ n') where
    steady_body : Steadily Same (body_rule m (statement_rule m n)) (body_rule m' (statement_rule m' n'))
    steady_body = by_seq (by_many m m' le is_dcl steady_variables) (by_seq (by_optional begins_reading steady_reading)
        (by_seq (by_many m m' le begins_statement (steady_statement m m' le n n' low is)) (by_seq (by_word (codes "end")) (by_mark (codes ";")))))

    steady_method : Steadily Same (method_rule m n) (method_rule m' n')
    steady_method = by_to method_of (by_seq (by_word (codes "method")) (by_seq (by_kept is_name_token) (by_seq steady_parameters (by_seq (by_optional (starts (codes "returns")) steady_returns) (by_seq (by_mark (codes ";")) steady_body)))))

    pub steady_global : Steadily Same (global_rule m n) (global_rule m' n')
    steady_global = by_to global_of_kind (by_choose is_dcl (by_to One steady_declaration) (by_to Two (by_choose is_list_keyword (by_to One steady_listed) (by_to Two steady_method))))

    -- ---- units

    steady_unit_body : (w : List ℕ) → Steadily Same (unit_body_rule m n w) (unit_body_rule m' n' w)
    steady_unit_body w = by_seq (by_many m m' le begins_global steady_global) (by_seq (by_word w) (by_mark (codes ";")))

    steady_option : Steadily Same (option_rule m) (option_rule m')
    steady_option = by_to option_of_kind (by_choose is_kept_or_dropped
        (by_to One (by_seq (by_kept is_kept_or_dropped) (by_seq (by_mark (codes "=")) (by_seq (by_mark (codes "(")) (by_seq steady_names (by_mark (codes ")")))))))
        (by_to Two (by_choose (starts (codes "overwrite")) (by_to One (by_seq (by_word (codes "overwrite")) (by_seq (by_mark (codes "=")) (by_kept is_answer))))
        (by_to Two (by_seq (by_word (codes "rename")) (by_seq (by_mark (codes "=")) (by_seq (by_mark (codes "(")) (by_seq
        (by_more m m' le is_name_token (by_to renaming_of (by_seq (by_kept is_name_token) (by_seq (by_mark (codes "=")) (by_kept is_name_token))))) (by_mark (codes ")"))))))))))

    steady_outputs : Steadily Same (one_or_more m is_table (output_rule m)) (one_or_more m' is_table (output_rule m'))
    steady_outputs = by_more m m' le is_table (by_to output_read (by_seq (by_kept is_table) (by_optional is_open_mark
        (by_to options_read (by_seq (by_mark (codes "(")) (by_seq (by_many m m' le begins_option steady_option) (by_mark (codes ")"))))))))

    steady_package : Steadily Same (package_rule m n) (package_rule m' n')
    steady_package = by_to package_of (by_seq (by_word (codes "package")) (by_seq (by_kept is_package_name) (by_seq (by_mark (codes ";")) (steady_unit_body (codes "endpackage")))))

    steady_thread : Steadily Same (thread_rule m n) (thread_rule m' n')
    steady_thread = by_to thread_of (by_seq (by_word (codes "thread")) (by_seq (by_kept is_name_token) (by_seq (by_optional is_open_mark steady_parameters) (by_seq (by_mark (codes ";")) (steady_unit_body (codes "endthread"))))))

    steady_data : Steadily Same (data_rule m n) (data_rule m' n')
    steady_data = by_to data_of (by_seq (by_word (codes "data")) (by_seq steady_outputs (by_seq (by_mark (codes ";")) (steady_unit_body (codes "enddata")))))

    pub steady_part : Steadily Same (part_rule m n) (part_rule m' n')
    steady_part = by_to part_of_kind (by_choose (starts (codes "proc")) (by_to One (by_seq (by_word (codes "proc")) (by_seq (by_word (codes "ds2")) (by_mark (codes ";"))))) (by_to Two
        (by_choose (starts (codes "run")) (by_to One (by_seq (by_word (codes "run")) (by_mark (codes ";")))) (by_to Two
        (by_choose (starts (codes "quit")) (by_to One (by_seq (by_word (codes "quit")) (by_mark (codes ";")))) (by_to Two
        (by_choose (starts (codes "package")) (by_to One steady_package) (by_to Two (by_choose (starts (codes "thread")) (by_to One steady_thread) (by_to Two steady_data))))))))))

    pub steady_parts : Steadily Same (parts_rule m n) (parts_rule m' n')
    steady_parts = by_many m m' le begins_part steady_part

-- ---- sources

-- what stands at the end is told by the next token alone
pub steady_source : (Same : Type 0) (m m' : ℕ) → m ≤ m' → (n n' : ℕ) → n ≤ n' → (Same → n ≡ n') → Steady Same (source_rule m n) (source_rule m' n')
steady_source Same m m' le n n' low is =
    steady_then Same (parts_rule m n) (parts_rule m' n') (λ parts. peek (at_the_end parts)) (λ parts. peek (at_the_end parts)) (steady_parts m m' le n n' low is).holds
    (λ parts. steady_peek Same (at_the_end parts) (at_the_end parts) (end_is parts))
  where
    end_is : (parts : List SourcePart) (o : Option Token) → Steady Same (at_the_end parts o) (at_the_end parts o)
    end_is parts None = steady_pure Same parts
    end_is parts (Some t) = steady_no Same
