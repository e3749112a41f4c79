-- A line as it is cut from the input: its letter and its fields.
use Rattle.std.specs.Prelude.{ℕ, List}
use Rattle.rules.specs.declared.letter.Letter.{Letter}
use Rattle.rules.specs.declared.letter.Letter.TheVariants as letter
use Rattle.rules.specs.Sides.{by_side}
use Rattle.fields.specs.declared.line.DayLine.{DayLine}
use Rattle.fields.specs.declared.line.DayLine.TheVariants as day
use Rattle.fields.specs.declared.line.EventLine.{EventLine}
use Rattle.fields.specs.declared.line.EventLine.TheVariants as event
use Rattle.fields.specs.Layout.{FieldAt}

-- The letter of a line of the day part.
abbrev pub day_letter_of : DayLine → Letter
day_letter_of (day.Day a b c) = letter.Day
day_letter_of (day.Security a b c d) = letter.Security
day_letter_of (day.Holding a b c) = letter.Holding
day_letter_of (day.AccountHolding a b c) = letter.AccountHolding
day_letter_of (day.Designation a b) = letter.Designation
day_letter_of (day.End a b c d) = letter.End

-- The fields of a line of the day part are those of the input, from the left.
abbrev pub DayFieldsOf : List ℕ → DayLine → Type 0
DayFieldsOf line (day.Day a b c) = FieldAt line 0 a × FieldAt line 1 b × FieldAt line 2 c
DayFieldsOf line (day.Security a b c d) = FieldAt line 0 a × FieldAt line 1 b × FieldAt line 2 c × FieldAt line 3 d
DayFieldsOf line (day.Holding a b c) = FieldAt line 0 a × FieldAt line 1 b × FieldAt line 2 c
DayFieldsOf line (day.AccountHolding a b c) = FieldAt line 0 a × FieldAt line 1 b × FieldAt line 2 c
DayFieldsOf line (day.Designation a b) = FieldAt line 0 a × FieldAt line 1 b
DayFieldsOf line (day.End a b c d) = FieldAt line 0 a × FieldAt line 1 b × FieldAt line 2 c × FieldAt line 3 d

-- The letter of a line of the event part.
abbrev pub event_letter_of : EventLine → Letter
event_letter_of event.Step = letter.Step
event_letter_of (event.Notice a b c) = letter.Notice
event_letter_of (event.Link a) = letter.Link
event_letter_of (event.Request side a b c d e) = by_side side letter.Buy letter.Sell
event_letter_of (event.Trade a b c) = letter.Trade
event_letter_of (event.Return a) = letter.Return
event_letter_of (event.Confirm a) = letter.Confirm
event_letter_of (event.Decline a) = letter.Decline
event_letter_of (event.Cancel a b) = letter.Cancel
event_letter_of event.Close = letter.Close

-- The fields of a line of the event part are those of the input, from the left.
abbrev pub EventFieldsOf : List ℕ → EventLine → Type 0
EventFieldsOf line event.Step = Unit {0}
EventFieldsOf line (event.Notice a b c) = FieldAt line 0 a × FieldAt line 1 b × FieldAt line 2 c
EventFieldsOf line (event.Link a) = FieldAt line 0 a
EventFieldsOf line (event.Request side a b c d e) = FieldAt line 0 a × FieldAt line 1 b × FieldAt line 2 c × FieldAt line 3 d × FieldAt line 4 e
EventFieldsOf line (event.Trade a b c) = FieldAt line 0 a × FieldAt line 1 b × FieldAt line 2 c
EventFieldsOf line (event.Return a) = FieldAt line 0 a
EventFieldsOf line (event.Confirm a) = FieldAt line 0 a
EventFieldsOf line (event.Decline a) = FieldAt line 0 a
EventFieldsOf line (event.Cancel a b) = FieldAt line 0 a × FieldAt line 1 b
EventFieldsOf line event.Close = Unit {0}
