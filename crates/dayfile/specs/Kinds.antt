-- The four groups of the day part.
use Rattle.std.specs.Prelude.{ℕ, ◌+◌, cond, List, Some, None, Ok, Err, Option, Result, ◌==◌, nat_lt}
use Rattle.std.specs.declared.cmp.Ordering.{Ordering}
use Rattle.rules.specs.declared.letter.Letter.{Letter}
use Rattle.rules.specs.declared.letter.Letter.TheVariants as letter
use Rattle.rules.specs.declared.refusal.Refusal.TheVariants as refusal
use Rattle.lookup.specs.declared.key.Pair.{Pair}
use Rattle.tables.specs.declared.rows.Security.{Security}
use Rattle.tables.specs.declared.rows.Holding.{Holding}
use Rattle.tables.specs.declared.owner.Participant.{Participant}
use Rattle.tables.specs.declared.owner.Account.{Account}
use Rattle.tables.specs.declared.rows.Designation.{Designation}
use Rattle.lookup.specs.Lookup.{is_above}
use Rattle.std.specs.Ordering.{nat_cmp}
use Rattle.lookup.specs.Orders.{pair_order}
use Rattle.tables.specs.Rows.{pair}
use Rattle.fields.specs.declared.fault.FieldFault.{FieldFault}
use Rattle.fields.specs.Faults.{and_then}
use Rattle.dayfile.specs.declared.run.Run.{Run}
use Rattle.dayfile.specs.Groups.{Kind}
use Rattle.dayfile.specs.Rows.{line_of, security_of, holding_of, account_holding_of, designation_of}

-- An account may name so many participants.
abbrev pub most_named : ℕ
most_named = 20

-- The key has to be above the one before it.
abbrev pub above : {K : Type 0} → (K → K → Ordering) → Option K → K → Result (Option K) FieldFault
above order last k = cond (is_above order last k) (Ok (Some k)) (Err (record { cause = refusal.Sequence; column = 1 }))

-- The lines of one account go on, up to as many as it may name.
abbrev pub named_next : Run → Pair → Result (Option Run) FieldFault
named_next run p =
    cond (run.last.first == p.first)
    (cond (nat_lt run.named most_named) (Ok (Some (record { last = p; named = run.named + 1 }))) (Err (record { cause = refusal.Designations; column = 1 })))
    (Ok (Some (record { last = p; named = 1 })))

-- A designation has to be above the one before it, and not one too many of its account.
abbrev pub naming : Option Run → Pair → Result (Option Run) FieldFault
naming None p = Ok (Some (record { last = p; named = 1 }))
naming (Some run) p = and_then (above pair_order (Some run.last) p) (λ _. named_next run p)

-- S lines rise by their code.
abbrev pub security_kind : Kind Security (Option ℕ)
security_kind = record { letter = letter.Security; reads = line_of letter.Security security_of; first = None; step = λ last s. above nat_cmp last s.code }

-- Lines of the holdings of owners rise by owner and code.
abbrev pub held_kind : {O : Type 0} → Letter → (List ℕ → Result (Holding O) FieldFault) → (O → ℕ) → Kind (Holding O) (Option Pair)
held_kind l gives number = record { letter = l; reads = line_of l gives; first = None; step = λ last h. above pair_order last (pair (number h.owner) h.code) }

-- P lines rise by participant and code.
abbrev pub holding_kind : Kind (Holding Participant) (Option Pair)
holding_kind = held_kind letter.Holding holding_of (λ p. p.0)

-- A lines rise by account and code.
abbrev pub account_holding_kind : Kind (Holding Account) (Option Pair)
account_holding_kind = held_kind letter.AccountHolding account_holding_of (λ a. a.0)

-- G lines rise by account and participant, and name few participants for an account.
abbrev pub designation_kind : Kind Designation (Option Run)
designation_kind = record { letter = letter.Designation; reads = line_of letter.Designation designation_of; first = None; step = λ run d. naming run (pair d.account d.participant) }
