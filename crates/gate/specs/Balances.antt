-- The balance of the daily quota, and when it shuts buying.
use Rattle.std.specs.Prelude.{ℕ, ◌^◌, Bool, not, ◌&&◌, ◌||◌, ℤ, pos, ◌+ℤ◌, int_le, int_lt}
use Rattle.rules.specs.declared.phase.Phase.{Phase}
use Rattle.rules.specs.Phases.{phase_rules}
use Rattle.gate.specs.declared.figures.Figures.{Figures}

-- The balance stays within so much of 0, either way.
abbrev pub most_balance : ℕ
most_balance = 10 ^ 18

-- A day takes so many orders at the most.
abbrev pub most_orders : ℕ
most_orders = 50000

-- A balance of 0 or less in a phase in which that shuts buying.
abbrev pub low : Phase → ℤ → Bool
low phase balance = (phase_rules phase).shuts && int_le balance (pos 0)

-- The balance, raised by so much, would leave its bounds.
abbrev pub too_high : Figures → ℕ → Bool
too_high f by = int_lt (pos most_balance) (f.balance +ℤ pos by)

-- The figures after an accepted call: a low balance shuts buying, and a day that is shut stays so.
abbrev pub settled : Figures → Figures
settled f = record { market = f.market; date = f.date; quota = f.quota; balance = f.balance; phase = f.phase; shut = f.shut || low f.phase f.balance; count = f.count }

-- The figures after an accepted call that leaves this balance, phase and number of orders.
abbrev pub settled_at : Figures → ℤ → Phase → ℕ → Figures
settled_at f balance phase count = settled (record { market = f.market; date = f.date; quota = f.quota; balance = balance; phase = phase; shut = f.shut; count = count })

-- The figures after an accepted call that raises the balance.
abbrev pub raised_by : Figures → ℕ → Figures
raised_by f by = settled_at f (f.balance +ℤ pos by) f.phase f.count

-- A low balance has shut buying.
abbrev pub shut_in_time : Figures → Bool
shut_in_time f = not (low f.phase f.balance) || f.shut
