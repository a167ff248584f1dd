use Rattle.ds2_object_words.proofs.WriteSteps.{list_written}
use Rattle.ds2_object_words.proofs.lists.write_list.Goals as goal

pub returns : goal.returns
returns g c = list_written c.in_ok-write.ensures c.in_ok-write_items.ensures
