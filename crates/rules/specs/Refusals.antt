-- The table of refusals.
use Rattle.std.specs.Prelude.{ℕ}
use Rattle.rules.specs.declared.refusal.Refusal.{Refusal}
use Rattle.rules.specs.declared.refusal.Refusal.TheVariants as refusal

-- The number by which each refusal is shown.
abbrev pub refusal_number : Refusal → ℕ
refusal_number refusal.Hours = 1
refusal_number refusal.Full = 2
refusal_number refusal.Code = 3
refusal_number refusal.Price = 4
refusal_number refusal.Lot = 5
refusal_number refusal.Account = 6
refusal_number refusal.Undesignated = 7
refusal_number refusal.NoPosition = 8
refusal_number refusal.ShortBalance = 9
refusal_number refusal.SellOnly = 10
refusal_number refusal.Suspended = 11
refusal_number refusal.Quota = 12
refusal_number refusal.Order = 13
refusal_number refusal.State = 14
refusal_number refusal.Fill = 15
refusal_number refusal.Phase = 16
refusal_number refusal.NoCancel = 17
refusal_number refusal.Foreign = 18
refusal_number refusal.Unsound = 19
refusal_number refusal.Pass = 20
refusal_number refusal.Business = 21
refusal_number refusal.Link = 22
refusal_number refusal.Letter = 23
refusal_number refusal.Length = 24
refusal_number refusal.Digits = 25
refusal_number refusal.Range = 26
refusal_number refusal.Sequence = 27
refusal_number refusal.Room = 28
refusal_number refusal.Count = 29
refusal_number refusal.Designations = 30
