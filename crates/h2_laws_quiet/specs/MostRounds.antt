-- How many rounds it takes until two ends are quiet, at most.
use Rattle.std.specs.Prelude.{ℕ, zero, suc, ◌+◌, ◌*◌, ◌-◌, min}
use Rattle.h2_spec_log.specs.Log.{Log}
use Rattle.h2_laws_log.specs.Sums.{sum_below}
use Rattle.h2_ends.specs.Ends.{EndLog}
use Rattle.h2_ends.specs.EndCalls.{unsent_on}
use Rattle.h2_laws_quiet.specs.Room.{window_ahead}
use Rattle.h2_laws_quiet.specs.Work.{above_streams, tokens_on}

-- how many shares of so many octets it takes until none of these is left: the octets by the share,
-- rounded up, where no share is empty. The last number ends the count, so that an empty share has
-- an answer; the number of the octets themselves is always enough.
unfoldable pub shares : (octets share most : ℕ) → ℕ
shares zero share most = 0
shares octets share zero = 0
shares octets share (suc most) = suc (shares (octets - share) share most)

-- how many octets of bodies wait at an end
abbrev pub octets_left : EndLog → ℕ
octets_left end = sum_below (above_streams end.log) (unsent_on end)

-- how many kinds of piece wait on a stream: 1 for its octets, 1 for its trailers, 1 for its end
abbrev pub pieces_on : EndLog → ℕ → ℕ
pieces_on end i = min 1 (unsent_on end i) + (tokens_on end i - unsent_on end i)

abbrev pub pieces_left : EndLog → ℕ
pieces_left end = sum_below (above_streams end.log) (pieces_on end)

-- how many shares of a window wait at an end, and the pieces
abbrev pub shares_left : (writer : EndLog) (reader : Log) → ℕ
shares_left writer reader =
    shares (octets_left writer) (window_ahead reader) (octets_left writer) + pieces_left writer

-- After so many rounds two ends are quiet, where memory sufficed in them and neither has failed.
-- rule (law): joined (own) Two ends that are driven get quiet, and all that was accepted arrives
abbrev pub most_rounds : (one other : EndLog) → ℕ
most_rounds one other = 10 + 2 * (shares_left one other.log + shares_left other one.log)
