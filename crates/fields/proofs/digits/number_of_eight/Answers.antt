use Rattle.core.proofs.dec2flt.Eight.{eight_is}
use Rattle.fields.proofs.digits.number_of_eight.Goals as goal

pub returns : goal.returns
returns c ds eight e = eight_is ds c.args.digits eight e
