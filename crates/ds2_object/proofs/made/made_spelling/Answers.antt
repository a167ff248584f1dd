use Rattle.std.proofs.Common.{ℕ, List, length, map, subst}
use Rattle.ds2_base.specs.Bytes.{Bytes}
use Rattle.ds2_object_words.specs.Parts.{number32_part, Writes, ItemsWritten}
use Rattle.ds2_object_words.specs.Words.{column_part}
use Rattle.ds2_object.specs.MadeTables.{made_table_column}
use Rattle.ds2_object.proofs.MadeLemmas.{table_spelled}
use Rattle.ds2_object.proofs.made.made_spelling.Goals as goal

pub returns : goal.returns
returns c =
    let output = c.args.output.now in
    let slots = c.args.slots.now in
    let count : Writes number32_part c.write.new.out (length output.columns) c.write-2.new.out =
    subst (λ (n : ℕ). Writes number32_part c.write.new.out n c.write-2.new.out) c.len.ensures c.in_ok-write-2.ensures in
    let columns : ItemsWritten column_part c.write-2.new.out (map (made_table_column slots) output.columns) c.write_made_columns.new.out =
    subst (λ (xs : List (Bytes × ℕ)). ItemsWritten column_part c.write-2.new.out (map (made_table_column slots) xs) c.write_made_columns.new.out) c.as_slice.ensures
    c.in_ok-write_made_columns.ensures in
    table_spelled slots c.args.maker output _ c.write_table_name.new.out c.write.new.out c.write-2.new.out c.write_made_columns.new.out c.new-key.ensures
    c.in_ok-write_table_name.ensures c.in_ok-write.ensures count columns
