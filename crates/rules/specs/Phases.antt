-- The phases of a day.
use Rattle.std.specs.Prelude.{ℕ, Bool, true, false, Some, None, Option}
use Rattle.rules.specs.declared.phase.Phase.{Phase}
use Rattle.rules.specs.declared.phase.Phase.TheVariants.{OpeningCall, OpeningCallNoCancel, Continuous, ClosingCall, AfterHours}

-- What the rules say of a phase: its number, whether a balance of 0 or less shuts buying in it, where a step leads,
-- whether orders are taken in it, whether a cancel may be asked in it, and whether the day may close in it.
pub record PhaseRules : Type 0 where
  pub number : ℕ
  pub shuts : Bool
  pub next : Option Phase
  pub orders : Bool
  pub cancels : Bool
  pub closes : Bool

-- Each phase's rules.
abbrev pub phase_rules : Phase → PhaseRules
phase_rules OpeningCall = record { number = 1; shuts = false; next = Some OpeningCallNoCancel; orders = true; cancels = true; closes = false }
phase_rules OpeningCallNoCancel = record { number = 2; shuts = false; next = Some Continuous; orders = true; cancels = false; closes = false }
phase_rules Continuous = record { number = 3; shuts = true; next = Some ClosingCall; orders = true; cancels = true; closes = false }
phase_rules ClosingCall = record { number = 4; shuts = true; next = Some AfterHours; orders = true; cancels = false; closes = false }
phase_rules AfterHours = record { number = 5; shuts = false; next = None; orders = false; cancels = false; closes = true }
