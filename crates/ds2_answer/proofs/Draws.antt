-- Sales that are made one after the other, two draws each.
use Rattle.std.proofs.Common.{◌≡◌, ℕ, suc, ◌+◌, ◌-◌, ◌*◌, ◌<◌, ◌^◌, IsTrue, ap, subst, ◌∙◌, arith}
use Rattle.ds2_value.specs.Row.{Row}
use Rattle.ds2_value.specs.Schema.{row_fits}
use Rattle.ds2_table.specs.Table.{Contents, with_row}
use Rattle.ds2_answer.specs.Drawn.{drawn, next_drawn}
use Rattle.ds2_answer.specs.Sales.{first_sales, sale_of, sales_columns, sales_table}
use Rattle.ds2_answer.proofs.Fitting.{sale_fits}

-- the first of n rows
abbrev pub first_table : (n rows : ℕ) → Contents
first_table n rows = record { columns = sales_columns; rows = first_sales n rows }

-- so many of n sales are in the table, and this number was drawn last
pub record HaveSold (n rows number : ℕ) (table : Contents) : Type 0 where
  pub table_is : table ≡ first_table n rows
  pub drawn_is : number ≡ drawn n (2 * rows)
  pub small : number < 2 ^ 31

-- the two numbers that are drawn behind those of some rows
first_draw : (n rows number first : ℕ) → number ≡ drawn n (2 * rows) → first ≡ next_drawn number → first ≡ drawn n (2 * suc rows - 1)
first_draw n rows number first at is =
    let e : suc (2 * rows) ≡ 2 * suc rows - 1 = omega arith in
    is ∙ ap next_drawn at ∙ ap (drawn n) e

pub second_draw : (n rows number first second : ℕ) → number ≡ drawn n (2 * rows) → first ≡ next_drawn number → second ≡ next_drawn first → second ≡ drawn n (2 * suc rows)
second_draw n rows number first second at is next =
    let e : suc (suc (2 * rows)) ≡ 2 * suc rows = omega arith in
    next ∙ ap next_drawn (is ∙ ap next_drawn at) ∙ ap (drawn n) e

-- a sale that is made fits the table
pub sold_fits : (n rows first second : ℕ) (table : Contents) (row : Row) → row ≡ sale_of first second → table ≡ first_table n rows → IsTrue (row_fits row table.columns)
sold_fits n rows first second table row row_is table_is = (λ i. row_fits (row_is i) (Contents.columns (table_is i))) ∙ sale_fits first second

pub one_sold : (n rows number first second : ℕ) (before table : Contents) (row : Row) → HaveSold n rows number before → first ≡ next_drawn number → second ≡ next_drawn first → second < 2 ^ 31
    → row ≡ sale_of first second → table ≡ with_row before row → HaveSold n (rows + 1) second table
one_sold n rows number first second before table row h first_is second_is small row_is is = subst (λ (m : ℕ). HaveSold n m second table) one_more (record {
  table_is = is ∙ ap (λ (t : Contents). with_row t row) h.table_is ∙ ap (with_row (first_table n rows)) (row_is
      ∙ (λ i. sale_of (first_draw n rows number first h.drawn_is first_is i) (second_draw n rows number first second h.drawn_is first_is second_is i)));
  drawn_is = second_draw n rows number first second h.drawn_is first_is second_is;
  small = small;
})
  where
    one_more : suc rows ≡ rows + 1
    one_more = omega arith

pub all_sold : (n rows number : ℕ) (table : Contents) → HaveSold n rows number table → rows ≡ n → table ≡ sales_table n
unfolding sales_table
all_sold n rows number table h all = h.table_is ∙ ap (first_table n) all
