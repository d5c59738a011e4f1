-- `decimal::divide::Wide::aligned` meets its contract: the word's leading zeros say how far its
-- highest bit goes, and what leaves the lower word is added to the upper. Assumes nothing.
use Rattle.std.proofs.Common.{rules}
use Rattle.decimal.proofs.Words.{from_low, from_both, both_fit}
use Rattle.decimal.proofs.divide.Wide.aligned.Goals as goal

pub returns-then-self-eq0 : goal.returns-then-self-eq0
returns-then-self-eq0 c =
    from_low c.args.self (search rules) c.if-self-eq0.true c.requires

pub overflow_add-number : goal.overflow_add-number
overflow_add-number c =
    record { fits = both_fit c.args.self (search rules) (search rules) c.if-self-eq0.false }

pub returns : goal.returns
returns c =
    from_both c.args.self (search rules) (search rules) c.if-self-eq0.false
