-- The participants' and the accounts' registers: what the lines of their tables mean.
use Rattle.std.specs.Prelude.{◌≡◌, ℕ, Bool, cond, ◌||◌, List, [], ◌∷◌, map, Some, None, Ok, Err, Option, Result, ◌==◌}
use Rattle.std.specs.List.{slice_get}
use Rattle.rules.specs.declared.refusal.Refusal.{Refusal}
use Rattle.rules.specs.declared.refusal.Refusal.TheVariants.{Account, Undesignated, NoPosition}
use Rattle.rules.specs.declared.range.Quantity.{Quantity}
use Rattle.rules.specs.declared.range.Quantity.TheVariants as quantity
use Rattle.tables.specs.declared.owner.Participant.{Participant}
use Rattle.tables.specs.declared.owner.Account.{Account as an_account}
use Rattle.tables.specs.declared.rows.Holding.{Holding}
use Rattle.tables.specs.declared.rows.Designation.{Designation}
use Rattle.lookup.specs.declared.key.Pair.{Pair}
use Rattle.lookup.specs.Orders.{pair_order}
use Rattle.lookup.specs.Lookup.{seek, some_of}
use Rattle.tables.specs.Rows.{pair, held_present, held_key, designation_key}
use Rattle.registers.specs.declared.pool.Pool.{Pool}
use Rattle.registers.specs.Meaning.{Meaning, pool_of}

-- A present holding is a pool.
abbrev pub held_pool : {O : Type 0} → Quantity → (O → ℕ) → Holding O → Option Pool
held_pool numbers number h = cond (held_present numbers number h) (Some (pool_of h.opening h.sellable)) None

-- The pool of a line, if there is such a line.
abbrev pub pool_at : {O : Type 0} → Quantity → (O → ℕ) → Option (Holding O) → Option Pool
pool_at numbers number None = None
pool_at numbers number (Some h) = held_pool numbers number h

-- The line that is found is the pool; where none is, there is no position.
abbrev pub position : Option ℕ → Result ℕ Refusal
position (Some i) = Ok i
position None = Err NoPosition

-- The account has designated the participant, or the order is refused.
abbrev pub designated : Option ℕ → Result ℕ Refusal → Result ℕ Refusal
designated (Some i) next = next
designated None next = Err Undesignated

-- A participant's own shares: no account is named, and its line of the code is found.
abbrev pub own_finds : List (Option Pair) → ℕ → ℕ → ℕ → Result ℕ Refusal
own_finds keys participant account code =
    cond (account == 0) (position (seek pair_order 0 keys (pair participant code))) (Err Account)

-- The account has a line in either table.
abbrev pub known_account : List (Option Pair) → List Designation → ℕ → Bool
known_account keys names account = some_of account keys || some_of account (map designation_key names)

-- An account's shares: the account is known, it has designated the participant, and its line of the code is found.
abbrev pub designated_finds : List Designation → List (Option Pair) → ℕ → ℕ → ℕ → Result ℕ Refusal
designated_finds names keys participant account code =
    cond (known_account keys names account)
    (designated (seek pair_order 0 (map designation_key names) (pair account participant)) (position (seek pair_order 0 keys (pair account code))))
    (Err Account)

-- What the lines of holdings mean, where orders find a line's key by a rule: a pool's number is its line's place.
abbrev pub held_meaning : {O : Type 0} → Quantity → (O → ℕ) → (List (Option Pair) → ℕ → ℕ → ℕ → Result ℕ Refusal) → List (Holding O) → Meaning
held_meaning numbers number finds lines = record { pools = λ k. pool_at numbers number (slice_get lines k); finds = finds (map (held_key numbers number) lines) }

-- What the lines of the participants' holdings mean.
abbrev pub participant_meaning : List (Holding Participant) → Meaning
participant_meaning = held_meaning quantity.Participant (λ p. p.0) own_finds

-- What the lines of the accounts' holdings mean, beside the lines of the designations.
abbrev pub account_meaning : List (Holding an_account) → List Designation → Meaning
account_meaning lines names = held_meaning quantity.Account (λ a. a.0) (designated_finds names) lines

-- All of each holding may still be sold.
abbrev pub FreshHoldings : {O : Type 0} → List (Holding O) → Type 0
FreshHoldings [] = Unit {0}
FreshHoldings (h ∷ hs) = (h.sellable ≡ h.opening) × FreshHoldings hs
