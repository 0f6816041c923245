-- What is shown of a connection while it goes on: the frames of both sides.
use Rattle.std.specs.Prelude.{◌≡◌, ℕ, true, false, List, ◌++◌}
use Rattle.h2_spec_log.specs.Limits.{most_max_frame}
use Rattle.h2_cli.specs.declared.status.Status.TheVariants.{Fault}
use Rattle.h2_show.specs.declared.options.ShowOptions.{ShowOptions}
use Rattle.h2_show.specs.declared.options.Side.{Side}
use Rattle.h2_show.specs.declared.options.Side.TheVariants.{Client, Server}
use Rattle.h2_show.specs.declared.options.Style.TheVariants.{Plain}
use Rattle.h2_show.specs.Shown.{ShowsOctets}
use Rattle.h2_show.specs.Printed.{ViewerHasPrinted}
use Rattle.h2_watch.specs.declared.watch.Watch.{Watch}
use Rattle.h2_watch.specs.declared.watch.WatchedSide.{WatchedSide}

-- how a side is shown: as `show` does without words, but for frames of any length that it reads
-- rule: engines (own) get -v shows the frames of both sides as they come
abbrev pub options_of : Side → ShowOptions
options_of side = record { hex = false; from = side; max_frame = most_max_frame; style = Plain }

-- the other side
abbrev pub opposite_side : Side → Side
opposite_side Client = Server
opposite_side Server = Client

-- what is kept of a side
abbrev pub side_in : Watch → Side → WatchedSide
side_in watch Client = watch.client
side_in watch Server = watch.server

-- A side has sent these octets so far, and this text was printed of them: what `show` prints of
-- octets that go on, or, after a fault, all that it prints of them, whatever follows.
-- rule: engines (own) get -v shows the frames of both sides as they come
pub data HasShown (from : Side) (one : WatchedSide) (octets text : List ℕ) : Type 0 where
  goes_on : one.is_over ≡ false → ViewerHasPrinted one.viewer (options_of from) octets text
      → HasShown from one octets text
  is_at_fault : one.is_over ≡ true
      → ((more : List ℕ) → ShowsOctets (options_of from) (octets ++ more) Fault text)
      → HasShown from one octets text

-- Octets of a side have come, and this was printed of them: whatever was shown of it before, this
-- follows, and of the other side all is as it was.
-- rule: engines (own) get -v shows the frames of both sides as they come
abbrev pub ShowsMore : (old new : Watch) → Side → (octets printed : List ℕ) → Type 0
ShowsMore old new side octets printed =
    ((before text : List ℕ) → HasShown side (side_in old side) before text
    → HasShown side (side_in new side) (before ++ octets) (text ++ printed))
    × (side_in new (opposite_side side) ≡ side_in old (opposite_side side))
