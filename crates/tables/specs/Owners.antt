-- The owners of holdings, by their numbers.
use Rattle.std.specs.Prelude.{ℕ}
use Rattle.tables.specs.declared.owner.Participant.{Participant}
use Rattle.tables.specs.declared.owner.Account.{Account}

-- The participant of a number.
abbrev pub participant : ℕ → Participant
participant n = record { 0 = n }

-- The account of a number.
abbrev pub account : ℕ → Account
account n = record { 0 = n }
