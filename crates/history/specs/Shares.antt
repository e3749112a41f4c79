-- The calls that move no share.
use Rattle.std.specs.Prelude.{◌≡◌, Bool, true, false, Some, None, Option}
use Rattle.rules.specs.declared.refusal.Refusal.{Refusal}
use Rattle.rules.specs.declared.side.Side.{Side}
use Rattle.rules.specs.declared.side.Side.TheVariants.{Buy}
use Rattle.gate.specs.Calls.{Call, Did, cancel, confirm, decline, give_back, notice, reserve, send, step, trade, void}
use Rattle.gate.specs.Desks.{Desk, record_of}
use Rattle.history.specs.History.{register_of}
use Rattle.history.specs.Tally.{Holder}

-- The side of the order that a call is about, if it is about one.
abbrev pub side_of : Desk → Call → Option Side
side_of d (reserve a) = Some a.side
side_of d (send pass) = Some (record_of d.book pass.number).side
side_of d (void pass) = Some (record_of d.book pass.number).side
side_of d (trade number shares price) = Some (record_of d.book number).side
side_of d (give_back number) = Some (record_of d.book number).side
side_of d (cancel number participant) = Some (record_of d.book number).side
side_of d (confirm number) = Some (record_of d.book number).side
side_of d (decline number) = Some (record_of d.book number).side
side_of d step = None
side_of d (notice code foreign total) = None

-- The call can take shares out of a register or put them back.
abbrev pub moves_shares : Call → Bool
moves_shares (reserve a) = true
moves_shares (send pass) = false
moves_shares (void pass) = true
moves_shares (trade number shares price) = false
moves_shares (give_back number) = true
moves_shares (cancel number participant) = false
moves_shares (confirm number) = true
moves_shares (decline number) = false
moves_shares step = false
moves_shares (notice code foreign total) = false

-- Every register of a desk is as it was.
abbrev pub SameShares : Desk → Desk → Type 0
SameShares d d' = (holder : Holder) → register_of d' holder ≡ register_of d holder

-- Whatever a call answers, a buy changes no register; nor do Send, Trade, Cancel, Decline, Step and Notice, whatever the side.
pub record BuysKeepShares : Type 0 where
  pub buys : (d : Desk) (c : Call) (answer : Option Refusal) (d' : Desk) → Did d c answer d' → side_of d c ≡ Some Buy → SameShares d d'
  pub others : (d : Desk) (c : Call) (answer : Option Refusal) (d' : Desk) → Did d c answer d' → moves_shares c ≡ false → SameShares d d'
