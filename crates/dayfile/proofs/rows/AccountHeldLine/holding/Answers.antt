use Rattle.std.proofs.Common.{◌≡◌, Ok, refl, ◌∙◌, subst}
use Rattle.rules.specs.declared.letter.Letter.TheVariants as letter
use Rattle.rules.specs.declared.range.Quantity.TheVariants as quantity
use Rattle.tables.specs.Owners.{account}
use Rattle.fields.specs.Layout.{opening, day_letters}
use Rattle.fields.specs.Lines.{day_letter_of, DayFieldsOf}
use Rattle.dayfile.proofs.Held.{held_read}
use Rattle.dayfile.proofs.rows.AccountHeldLine.holding.Goals as goal

pub returns-in-AccountHolding : goal.returns-in-AccountHolding
returns-in-AccountHolding c =
    let h = c.in-AccountHolding in
    let cut = subst (λ l. (opening day_letters c.args.line.now ≡ Ok (day_letter_of l)) × DayFieldsOf c.args.line.now l) h.is c.in_ok-account.ensures in
    c.held.ensures ∙ held_read quantity.Account account letter.AccountHolding c.args.line.now h.account h.code h.shares refl cut.0 cut.1.0 cut.1.1 cut.1.2
