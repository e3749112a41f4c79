-- Whether a security may be bought.
use Rattle.std.specs.Prelude.{ℕ, [], ◌∷◌, Some, None, Option}
use Rattle.rules.specs.declared.buying.Buying.{Buying}
use Rattle.rules.specs.declared.buying.Buying.TheVariants.{Open, SellOnly, Suspended}
use Rattle.rules.specs.declared.notice.NoticeBand.{NoticeBand}
use Rattle.rules.specs.declared.notice.NoticeBand.TheVariants.{Suspending, Between, Reopening}
use Rattle.rules.specs.declared.refusal.Refusal.{Refusal}
use Rattle.rules.specs.declared.refusal.Refusal.TheVariants as refusal
use Rattle.rules.specs.Cases.{numbered}

-- What the rules say of a buying state: its number, and the refusal that a buy gets.
pub record BuyingRules : Type 0 where
  pub number : ℕ
  pub refusal : Option Refusal

-- Each buying state's rules.
abbrev pub buying_rules : Buying → BuyingRules
buying_rules Open = record { number = 1; refusal = None }
buying_rules SellOnly = record { number = 2; refusal = Some refusal.SellOnly }
buying_rules Suspended = record { number = 3; refusal = Some refusal.Suspended }

-- The buying state of a number.
abbrev pub buying_numbered : ℕ → Option Buying
buying_numbered = numbered (λ b. (buying_rules b).number) (Open ∷ (SellOnly ∷ (Suspended ∷ [])))

-- Where a notice moves a security that may be bought or is suspended.
abbrev pub moved : NoticeBand → Buying → Buying
moved Suspending found = Suspended
moved Between found = found
moved Reopening found = Open

-- What a notice does to the state that it finds: it leaves a sell-only security as it is.
abbrev pub after_notice : Buying → NoticeBand → Buying
after_notice SellOnly band = SellOnly
after_notice Open band = moved band Open
after_notice Suspended band = moved band Suspended
