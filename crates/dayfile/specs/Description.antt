-- A day part in the file's own terms: the description that it is the written form of.
use Rattle.std.specs.Prelude.{◌≡◌, ℕ, ◌+◌, ◌≤◌, cond, List, [], ◌∷◌, ◌++◌, map, length, drop, ◌==◌}
use Rattle.std.specs.List.{flat_map, AllByRecursion}
use Rattle.rules.specs.declared.letter.Letter.TheVariants as letter
use Rattle.rules.specs.Buyings.{buying_rules}
use Rattle.rules.specs.Letters.{letter_rules}
use Rattle.rules.specs.Prices.{band_percent}
use Rattle.tables.specs.declared.rows.Security.{Security}
use Rattle.tables.specs.declared.rows.Holding.{Holding}
use Rattle.tables.specs.declared.owner.Participant.{Participant}
use Rattle.tables.specs.declared.owner.Account.{Account}
use Rattle.tables.specs.declared.rows.Designation.{Designation}
use Rattle.lookup.specs.Lookup.{Rising}
use Rattle.std.specs.Ordering.{nat_cmp}
use Rattle.lookup.specs.Orders.{pair_order}
use Rattle.tables.specs.Rows.{security_key, holding_key, account_holding_key, designation_key}
use Rattle.fields.specs.Numbers.{Within, written_line}
use Rattle.dayfile.specs.declared.plan.Counts.{Counts}
use Rattle.dayfile.specs.DayPart.{Plan, account_holdings_at, counts, designations_at, holdings_at, plan, securities_at}
use Rattle.dayfile.specs.Groups.{rows_of}
use Rattle.dayfile.specs.Kinds.{most_named, security_kind, holding_kind, account_holding_kind, designation_kind}

-- A day as a custodian describes it: market, date, quota, and the lines of each group.
pub record Description : Type 0 where
  pub market : ℕ
  pub date : ℕ
  pub quota : ℕ
  pub securities : List Security
  pub holdings : List (Holding Participant)
  pub account_holdings : List (Holding Account)
  pub designations : List Designation

-- The numbers of a security's line.
abbrev pub security_numbers : Security → List ℕ
security_numbers s = s.code ∷ ((buying_rules s.buying).number ∷ (s.close ∷ (band_percent s.band ∷ [])))

-- The numbers of a holding's line.
abbrev pub held_numbers : {O : Type 0} → (O → ℕ) → Holding O → List ℕ
held_numbers number h = number h.owner ∷ (h.code ∷ (h.opening ∷ []))

-- The numbers of a participant's holding.
abbrev pub holding_numbers : Holding Participant → List ℕ
holding_numbers = held_numbers (λ p. p.0)

-- The numbers of an account's holding.
abbrev pub account_holding_numbers : Holding Account → List ℕ
account_holding_numbers = held_numbers (λ a. a.0)

-- The numbers of a designation's line.
abbrev pub designation_numbers : Designation → List ℕ
designation_numbers d = d.account ∷ (d.participant ∷ [])

-- The numbers of the D line.
abbrev pub opening_numbers : Description → List ℕ
opening_numbers d = d.market ∷ (d.date ∷ (d.quota ∷ []))

-- The numbers of the E line.
abbrev pub end_numbers : Counts → List ℕ
end_numbers c = c.securities ∷ (c.holdings ∷ (c.account_holdings ∷ (c.designations ∷ [])))

-- How many lines each group has.
abbrev pub counts_of : Description → Counts
counts_of d = counts (length d.securities) (length d.holdings) (length d.account_holdings) (length d.designations)

-- The written form: one D line, the groups in their order, one E line.
abbrev pub written : Description → List ℕ
written d =
    written_line letter.Day (opening_numbers d)
    ++ (flat_map (λ s. written_line letter.Security (security_numbers s)) d.securities
    ++ (flat_map (λ h. written_line letter.Holding (holding_numbers h)) d.holdings
    ++ (flat_map (λ h. written_line letter.AccountHolding (account_holding_numbers h)) d.account_holdings
    ++ (flat_map (λ g. written_line letter.Designation (designation_numbers g)) d.designations
    ++ written_line letter.End (end_numbers (counts_of d))))))

-- How many participants the account names.
abbrev pub named_by : ℕ → List Designation → ℕ
named_by account [] = 0
named_by account (d ∷ ds) = cond (d.account == account) 1 0 + named_by account ds

-- The numbers are in their ranges, each group rises strictly by its key, every share held may be sold, and no account
-- names too many participants.
pub record WellFormed (d : Description) : Type 0 where
  pub opening : Within (letter_rules letter.Day).fields (opening_numbers d)
  pub securities : Rising nat_cmp (map security_key d.securities)
  pub holdings : Rising pair_order (map holding_key d.holdings)
  pub holdings_fresh : AllByRecursion (λ h. h.sellable ≡ h.opening) d.holdings
  pub account_holdings : Rising pair_order (map account_holding_key d.account_holdings)
  pub account_holdings_fresh : AllByRecursion (λ h. h.sellable ≡ h.opening) d.account_holdings
  pub designations : Rising pair_order (map designation_key d.designations)
  pub few_named : (account : ℕ) → named_by account d.designations ≤ most_named
  pub ending : Within (letter_rules letter.End).fields (end_numbers (counts_of d))

-- Each table has room for its lines.
pub record Fits (room : Counts) (d : Description) : Type 0 where
  pub securities : length d.securities ≤ room.securities
  pub holdings : length d.holdings ≤ room.holdings
  pub account_holdings : length d.account_holdings ≤ room.account_holdings
  pub designations : length d.designations ≤ room.designations

-- The input begins with the written form of the description, which is well formed and fits the tables.
pub record Describes (input : List ℕ) (room : Counts) (d : Description) : Type 0 where
  pub well_formed : WellFormed d
  pub fits : Fits room d
  pub events : List ℕ
  pub form : input ≡ written d ++ events

-- The description that a day part of this plan is the written form of.
abbrev pub described : List ℕ → Plan → Description
described input made = record {
  market = made.opening.market;
  date = made.opening.date;
  quota = made.opening.quota;
  securities = rows_of security_kind made.counts.securities (drop securities_at input);
  holdings = rows_of holding_kind made.counts.holdings (drop (holdings_at made.counts) input);
  account_holdings = rows_of account_holding_kind made.counts.account_holdings (drop (account_holdings_at made.counts) input);
  designations = rows_of designation_kind made.counts.designations (drop (designations_at made.counts) input);
}

-- The plan of a description.
abbrev pub plan_of : Description → Plan
plan_of d = plan (record { market = d.market; date = d.date; quota = d.quota }) (counts_of d)
