-- All that a call can touch.
use Rattle.std.specs.Prelude.{ℕ, ◌-◌, Bool, cond, ◌||◌, List, map, length, Some, None, Option, ◌==◌, nat_lt, slice_index_or}
use Rattle.std.specs.List.{slice_get}
use Rattle.lookup.specs.Lookup.{seek}
use Rattle.std.specs.Ordering.{nat_cmp}
use Rattle.tables.specs.declared.rows.Security.{Security}
use Rattle.tables.specs.Rows.{security_key}
use Rattle.registers.specs.Meaning.{Meaning}
use Rattle.orders.specs.declared.order.Order.{Order}
use Rattle.orders.specs.Records.{no_order}
use Rattle.gate.specs.declared.figures.Figures.{Figures}

-- The day's figures, the lines of the security list, what the two registers mean, and the book of orders.
pub record Desk : Type 0 where
  pub figures : Figures
  pub list : List Security
  pub participants : Meaning
  pub accounts : Meaning
  pub book : List Order

-- A desk of its parts.
abbrev pub desk : Figures → List Security → Meaning → Meaning → List Order → Desk
desk figures list participants accounts book = record { figures = figures; list = list; participants = participants; accounts = accounts; book = book }

-- What is of the participants' register where no account is named, else of the accounts'.
abbrev pub by_account : {X : Type 0} → ℕ → X → X → X
by_account account own other = cond (account == 0) own other

-- The place of a code among the lines of the list.
abbrev pub listed : List Security → ℕ → Option ℕ
listed list code = seek nat_cmp 0 (map security_key list) code

-- The line at a place that was found, if it was.
abbrev pub line_at : List Security → Option ℕ → Option Security
line_at list (Some place) = slice_get list place
line_at list None = None

-- The line of a code, if it is listed.
abbrev pub line_of : List Security → ℕ → Option Security
line_of list code = line_at list (listed list code)

-- Orders are numbered from 1 in book order: a number has no record where it is 0, above the day's count, or past the book's end.
abbrev pub no_record : Figures → List Order → ℕ → Bool
no_record f book number = number == 0 || (nat_lt f.count number || nat_lt (length book) number)

-- The record of an order's number.
abbrev pub record_of : List Order → ℕ → Order
record_of book number = slice_index_or book (number - 1) no_order
