-- The files of tables.
use Rattle.std.specs.Prelude.{ℕ, List, ◌++◌, codes}

-- the file of a table
abbrev pub table_file : List ℕ → List ℕ
table_file name = name ++ codes ".csv"
