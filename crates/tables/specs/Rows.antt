-- The rows of the four tables: when one is present, and its key.
use Rattle.std.specs.Prelude.{ℕ, Bool, false, cond, ◌&&◌, Some, None, Option, nat_le}
use Rattle.rules.specs.declared.buying.Buying.{Buying}
use Rattle.rules.specs.declared.buying.Buying.TheVariants.{Open}
use Rattle.rules.specs.declared.price.PriceBand.TheVariants.{Five}
use Rattle.rules.specs.declared.range.Quantity.{Quantity}
use Rattle.rules.specs.declared.range.Quantity.TheVariants as quantity
use Rattle.rules.specs.declared.notice.NoticeBand.{NoticeBand}
use Rattle.rules.specs.Buyings.{after_notice}
use Rattle.rules.specs.Ranges.{in_range, range_of}
use Rattle.lookup.specs.declared.key.Pair.{Pair}
use Rattle.tables.specs.declared.owner.Participant.{Participant}
use Rattle.tables.specs.declared.owner.Account.{Account}
use Rattle.tables.specs.declared.rows.Security.{Security}
use Rattle.tables.specs.declared.rows.Holding.{Holding}
use Rattle.tables.specs.declared.rows.Designation.{Designation}

-- Two numbers as a key.
abbrev pub pair : ℕ → ℕ → Pair
pair a b = record { first = a; second = b }

-- A security's code and close are in range.
abbrev pub security_present : Security → Bool
security_present s = in_range (range_of quantity.Code) s.code && in_range (range_of quantity.Close) s.close

-- A security is found by its code.
abbrev pub security_key : Security → Option ℕ
security_key s = cond (security_present s) (Some s.code) None

-- A holding's owner, code and opening number are in range, where owners have such numbers.
abbrev pub held_bounds : {O : Type 0} → Quantity → (O → ℕ) → Holding O → Bool
held_bounds numbers number h = (in_range (range_of numbers) (number h.owner) && in_range (range_of quantity.Code) h.code) && in_range (range_of quantity.Holding) h.opening

-- A holding's numbers are in range, and no more of it may be sold than there was at the opening.
abbrev pub held_present : {O : Type 0} → Quantity → (O → ℕ) → Holding O → Bool
held_present numbers number h = held_bounds numbers number h && nat_le h.sellable h.opening

-- A holding is found by its owner and code.
abbrev pub held_key : {O : Type 0} → Quantity → (O → ℕ) → Holding O → Option Pair
held_key numbers number h = cond (held_present numbers number h) (Some (pair (number h.owner) h.code)) None

-- A participant's holding is found by the participant and the code.
abbrev pub holding_key : Holding Participant → Option Pair
holding_key = held_key quantity.Participant (λ p. p.0)

-- An account's holding is found by the account and the code.
abbrev pub account_holding_key : Holding Account → Option Pair
account_holding_key = held_key quantity.Account (λ a. a.0)

-- A designation's account and participant are in range.
abbrev pub designation_present : Designation → Bool
designation_present d = in_range (range_of quantity.Account) d.account && in_range (range_of quantity.Participant) d.participant

-- A designation is found by its account and participant.
abbrev pub designation_key : Designation → Option Pair
designation_key d = cond (designation_present d) (Some (pair d.account d.participant)) None

-- An empty row of the security list, which is absent.
abbrev pub no_security : Security
no_security = record { code = 0; buying = Open; close = 0; band = Five }

-- An empty row of holdings, of the owner of number 0.
abbrev pub no_holding : {O : Type 0} → (ℕ → O) → Holding O
no_holding of = record { owner = of 0; code = 0; opening = 0; sellable = 0 }

-- An empty row of designations.
abbrev pub no_designation : Designation
no_designation = record { account = 0; participant = 0 }

-- The same security in another buying state.
abbrev pub with_buying : Security → Buying → Security
with_buying s b = record { code = s.code; buying = b; close = s.close; band = s.band }

-- The same security after a notice of the band.
abbrev pub noticed : Security → NoticeBand → Security
noticed s b = with_buying s (after_notice s.buying b)

-- The same holding with another sellable number.
abbrev pub with_sellable : {O : Type 0} → Holding O → ℕ → Holding O
with_sellable h n = record { owner = h.owner; code = h.code; opening = h.opening; sellable = n }

-- A line that is present may have so many sellable shares, where it had as many at the opening.
abbrev pub may_sell : {O : Type 0} → Quantity → (O → ℕ) → ℕ → Option (Holding O) → Bool
may_sell numbers number n None = false
may_sell numbers number n (Some h) = held_present numbers number h && nat_le n h.opening
