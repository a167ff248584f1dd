use Rattle.ds2_object_words.proofs.lists.ListSpelled.write.Goals as goal

pub returns : goal.returns
returns g c = rw (← c.as_slice.ensures) c.in_ok-write_list.ensures
