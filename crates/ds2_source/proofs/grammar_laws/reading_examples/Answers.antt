use Rattle.std.proofs.Common.{refl}
use Rattle.ds2_source.proofs.grammar_laws.reading_examples.Goals as goal

pub returns : goal.returns
returns c = record {
  nothing = refl;
  run = refl;
  no_global = refl;
  ends_early = refl;
  trails = refl;
  nearest = refl;
  chained = refl;
  then_opens = refl;
  from_the_left = refl;
  one_comparison = refl;
  second_parenthesis = refl;
  empty_list_opens = refl;
  hash_in_quotes = refl;
  text_is_no_table = refl;
  reading_comes_first = refl;
}
