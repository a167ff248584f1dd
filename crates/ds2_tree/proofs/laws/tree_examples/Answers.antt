use Rattle.std.proofs.Common.{refl}
use Rattle.ds2_tree.proofs.laws.tree_examples.Goals as goal

pub returns : goal.returns
returns c = record {
  chained = refl;
  chained_opens_one = refl;
  then_part_opens = refl;
  else_is_nearest = λ h. cc (h.4);
  computed = refl;
  arguments_open = refl;
  sign_opens = refl;
  two_levels = refl;
  product_binds_tighter = λ h. cc (h.0.1);
  hash_spelled = refl;
  hash_is_one = (refl, refl, refl, refl, (tt, refl, (refl, tt)), (tt, refl, (refl, tt)), (refl, refl));
  output_spelled = refl;
  output_is_one = (refl, ((refl, (refl, (refl, tt))), ((refl, ((refl, refl), tt)), tt)));
  block_opens = refl;
}
