-- Tables that programs make.
use Rattle.std.proofs.Common.{◌≡◌, ℕ, Bool, true, false, not, ◌||◌, ◌&&◌, cond, List, [], ◌∷◌, ◌++◌, bytes_eq, Option, Some, refl, ap}
use Rattle.std.specs.Prelude.{if◌then◌else◌, unwrap_or, codes, filter, map}
use Rattle.ds2_tree.specs.declared.units.OutputTable as source_output
use Rattle.ds2_meaning.specs.declared.readings.MentionedTable.{MentionedTable}
use Rattle.ds2_names.specs.SourceLimits.{mentioned_table, tables_made_by}
use Rattle.ds2_names.specs.SourceUnit.{spelled_name}
use Rattle.ds2_resolve.specs.TableMakers.{makes_table}

-- a table that was noted
pub maker_noted : (t : Bool) (number : ℕ) (old new : Option ℕ) → new ≡ cond t (Some number) old → unwrap_or new 0 ≡ (if t then number else unwrap_or old 0)
maker_noted true number old new h = ap (λ o. unwrap_or o 0) h
maker_noted false number old new h = ap (λ o. unwrap_or o 0) h

-- one output more, before further ones
pub one_more_output : (rest here : Bool) (number maker : ℕ) → (if rest then number else (if here then number else maker)) ≡ (if here || rest then number else maker)
one_more_output true true number maker = refl
one_more_output true false number maker = refl
one_more_output false true number maker = refl
one_more_output false false number maker = refl

-- the tables that a program makes stand before those of earlier programs
pub maker_is : (number : ℕ) (outputs : List source_output.OutputTable) (made : List MentionedTable) (name : List ℕ)
    → (mentioned_table (tables_made_by number outputs ++ made) name).maker ≡ (if makes_table outputs name then number else (mentioned_table made name).maker)
maker_is number [] made name = refl
maker_is number (o ∷ outputs) made name = by (bytes_eq (spelled_name o.table) (codes "_null_")) (maker_is number outputs made name)
  where
    rest : List (List ℕ)
    rest = filter (λ n. not (bytes_eq n (codes "_null_"))) (map (λ (x : source_output.OutputTable). spelled_name x.table) outputs)

    one : List ℕ → MentionedTable
    one n = record { name = n; maker = number }

    choose : Bool → MentionedTable → MentionedTable → MentionedTable
    choose t a b = if t then a else b

    found : (here : Bool) → (mentioned_table (map one rest ++ made) name).maker ≡ (if makes_table outputs name then number else (mentioned_table made name).maker)
        → (choose here (one (spelled_name o.table)) (mentioned_table (map one rest ++ made) name)).maker ≡ (if here || makes_table outputs name then number else (mentioned_table made name).maker)
    found true h = refl
    found false h = h

    by : (null : Bool) → (mentioned_table (map one rest ++ made) name).maker ≡ (if makes_table outputs name then number else (mentioned_table made name).maker)
        → (mentioned_table (map one (if not null then spelled_name o.table ∷ rest else rest) ++ made) name).maker
        ≡ (if (not null && bytes_eq (spelled_name o.table) name) || makes_table outputs name then number else (mentioned_table made name).maker)
    by true h = h
    by false h = found (bytes_eq (spelled_name o.table) name) h
