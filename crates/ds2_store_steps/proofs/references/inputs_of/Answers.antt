use Rattle.std.proofs.Common.{ℕ, List, nat_eq, [], ap}
use Rattle.std.specs.Cmp.Lexicographic.{pointwise}
use Rattle.std.specs.HashSet.{contains}
use Rattle.std.specs.List.{list_any}
use Rattle.ds2_answer.specs.TablePlans.{none_made}
use Rattle.ds2_store_steps.proofs.Leading.{item_is, none_is_left}
use Rattle.ds2_store_steps.proofs.ReferenceSteps.{named_all, named_reference, naming_begins}
use Rattle.ds2_store_steps.proofs.references.inputs_of.Goals as goal

pub references-init : goal.references-init
references-init c = naming_begins none_made (contains (pointwise nat_eq) c.new-known.result) [] c.new-names.result c.args.references.now (λ name. ap (λ (keys : List (List ℕ)). list_any (pointwise nat_eq name) keys) c.new-known.ensures) c.new-names.ensures

pub references-preserved : goal.references-preserved
references-preserved c = named_reference _ _ _ _ _ _ _ _ _ _ (item_is _ _ c.in-len1-up.len_at_least c.reference-item.is) c.references.invariant c.in_ok-add_input.ensures.known c.in_ok-add_input.ensures.names

pub returns : goal.returns
returns c = (named_all _ _ _ _ _ _ (none_is_left _ c.in_default.len_below) c.references.invariant).1
