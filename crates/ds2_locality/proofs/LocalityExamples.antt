-- The verdicts on small thread programs, computed.
use Rattle.std.proofs.Common.{refl}
use Rattle.ds2_locality.specs.LocalityExamples.{GrainVerdicts, ReadVerdicts, CallVerdicts, OutsideVerdicts}

pub grain_verdicts : GrainVerdicts
grain_verdicts = record {
  sum_by_a = refl;
  sum_by_two = refl;
  sum_by_first_of_two = refl;
  last_flag_of_the_coarser = refl;
  coarser_flag_read = refl;
  never_reset = refl;
  reset_behind = refl;
  last_is_not_known = refl;
  without_by = refl;
  without_by_not_reset = refl;
  not_retained = refl;
  never_changed = refl;
  cleaned_before_the_end = refl;
  flag_decides_nothing_kept = refl;
}

pub read_verdicts : ReadVerdicts
read_verdicts = record {
  cleaned_on_one_way = refl;
  implicit_output_reads = refl;
  cleaned_on_both_ways = refl;
  returned_before = refl;
  behind_return = refl;
  and_of_known_and_other = refl;
  or_of_known_and_other = refl;
  not_of_known = refl;
  comparison_of_known = refl;
  select_decided = refl;
  select_value_undecided = refl;
  select_without_otherwise = refl;
  loop_body_may_not_run = refl;
  loop_test_reads = refl;
  last_test_cleans = refl;
  left_before = refl;
  counted_is_clean = refl;
  counted_body_may_not_run = refl;
  counted_from_itself = refl;
  innermost_statement = refl;
  read_at_later_loads = refl;
  first_operand_first = refl;
}

pub call_verdicts : CallVerdicts
call_verdicts = record {
  method_cleans = refl;
  method_reads = refl;
  flag_in_method = refl;
  recursive_reads = refl;
  recursive_behind_reset = refl;
  in_out_reads = refl;
  instance_named = refl;
  instance_reset = refl;
  hash_only_searched = refl;
  find_cleans_nothing = refl;
  hash_kept = refl;
  hash_cleared = refl;
  hash_read_first = refl;
  data_read_by_add = refl;
  iterator_kept = refl;
  iterator_cleared = refl;
  parameter_read = refl;
  parameter_changed = refl;
}

pub outside_verdicts : OutsideVerdicts
outside_verdicts = record {
  term_has_statement = refl;
  init_puts = refl;
  init_calls_what_puts = refl;
  constructor_puts = refl;
  init_sets = refl;
}
