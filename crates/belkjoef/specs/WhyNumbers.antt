-- The numbers of why a connection has failed, in the order of `Why`.
use Rattle.std.specs.Prelude.{◌≡◌, ℕ, Option, option_map}
use Rattle.h2_spec_log.specs.Acts.{Values}
use Rattle.h2_spec_log.specs.Log.{Log}
use Rattle.h2_conn.specs.declared.why.Why.{Why}
use Rattle.h2_conn.specs.declared.why.Why.TheVariants as whys
use Rattle.h2_conn.specs.Conn.{ConnRepresents}
use Rattle.h2_conn.specs.Why.{IsWhy}
use Rattle.h2_ends.specs.declared.end.End.{End}

-- 1 to 27
abbrev pub why_number : Why → ℕ
why_number whys.BadPreface = 1
why_number whys.FrameTooLong = 2
why_number whys.PushPromise = 3
why_number whys.WrongStream = 4
why_number whys.WrongLength = 5
why_number whys.PaddingTooLong = 6
why_number whys.FirstFrameNotSettings = 7
why_number whys.BlockInterrupted = 8
why_number whys.StrayContinuation = 9
why_number whys.BlockTooLong = 10
why_number whys.BlockNotDecoded = 11
why_number whys.FrameOnIdleStream = 12
why_number whys.DataOnClosedStream = 13
why_number whys.BlockOnClosedStream = 14
why_number whys.BlockOnIdleNumber = 15
why_number whys.DataAboveConnectionWindow = 16
why_number whys.DataAboveStreamWindow = 17
why_number whys.ZeroConnectionIncrement = 18
why_number whys.ConnectionWindowTooLarge = 19
why_number whys.BadEnablePush = 20
why_number whys.BadInitialWindow = 21
why_number whys.BadMaxFrameSize = 22
why_number whys.ShiftTooLarge = 23
why_number whys.TooManyResets = 24
why_number whys.TooMuchOutput = 25
why_number whys.OutOfMemory = 26
why_number (whys.EndedAbove code) = 27

-- Whatever has happened, this is the number of why the connection has failed, if it has.
-- rule: c (own) A reader says what the end in its place answers
pub record SaysWhy (end : End) (said : Option ℕ) : Type 0 where
  pub why : Option Why
  pub number : said ≡ option_map why_number why
  pub is : (values : Values) (log : Log) → ConnRepresents values end.conn log
      → IsWhy values log why
