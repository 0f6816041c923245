-- By the order in which streams get their shares, and by what a share sends.
use Rattle.h2_ends.proofs.TurnSends.{share_sends}
use Rattle.h2_ends.proofs.TurnShares.{share_between}
use Rattle.h2_ends.proofs.laws.shares_are_given_in_turn.Goals as goal

pub returns-clause-turns : goal.returns-clause-turns
returns-clause-turns c = λ i j low. share_between i j low

pub returns-clause-sends : goal.returns-clause-sends
returns-clause-sends c = λ turn most id count end after halt octets ends shares body room on.
    share_sends turn most id end room count halt after octets ends shares body on
