-- The verdicts on jobs and on further small thread programs, computed.
use Rattle.std.proofs.Common.{refl}
use Rattle.ds2_locality.specs.FurtherVerdicts.{JobVerdicts, FurtherVerdicts}

pub job_verdicts : JobVerdicts
job_verdicts = record {
  by_one = refl;
  reset_after_output = refl;
  by_two = refl;
  region_flag_read = refl;
}

pub further_verdicts : FurtherVerdicts
further_verdicts = record {
  finest_of_three = refl;
  middle_of_three = refl;
  coarsest_of_three = refl;
  merged_sum = refl;
  one_load = refl;
  labelled_item_reads = refl;
  argument_reads = refl;
  prefix_reads = refl;
  comparison_reads = refl;
  select_reads = refl;
  when_reads = refl;
  when_behind_known = refl;
  continued_before = refl;
  loop_test_is_not_decided = refl;
  block_cleans = refl;
  present_is_not_known = refl;
  replace_reads = refl;
  remove_reads = refl;
  only_checked = refl;
  counted_before_added = refl;
  deep_read = refl;
  cycle_of_two = refl;
  cycle_in_order = refl;
}
