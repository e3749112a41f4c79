-- Notices of foreign holding.
use Rattle.std.specs.Prelude.{ℕ, ◌*◌, Bool, cond, not, ◌||◌, nat_le, nat_lt}
use Rattle.rules.specs.declared.notice.NoticeBand.{NoticeBand}
use Rattle.rules.specs.declared.notice.NoticeBand.TheVariants.{Suspending, Between, Reopening}
use Rattle.rules.specs.declared.range.Quantity.TheVariants.{TotalShares}
use Rattle.rules.specs.Ranges.{in_range, range_of}

-- A notice's band: its number, and the percentages of the total at which it begins and ends.
pub record NoticeBandRules : Type 0 where
  pub number : ℕ
  pub at_least : ℕ
  pub at_most : ℕ

-- Each band's rules: 28 percent and more suspends, 26 and less reopens.
abbrev pub notice_band_rules : NoticeBand → NoticeBandRules
notice_band_rules Suspending = record { number = 1; at_least = 28; at_most = 100 }
notice_band_rules Between = record { number = 2; at_least = 26; at_most = 28 }
notice_band_rules Reopening = record { number = 3; at_least = 0; at_most = 26 }

-- The band of so many foreign shares in a total, without division.
abbrev pub notice_band : ℕ → ℕ → NoticeBand
notice_band foreign total =
    cond (nat_le (total * (notice_band_rules Suspending).at_least) (foreign * 100)) Suspending
    (cond (nat_le (foreign * 100) (total * (notice_band_rules Reopening).at_most)) Reopening Between)

-- The total is out of its range, or there are more foreign shares than shares.
abbrev pub unfit_notice : ℕ → ℕ → Bool
unfit_notice foreign total = not (in_range (range_of TotalShares) total) || nat_lt total foreign
