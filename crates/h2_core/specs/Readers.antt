-- The readers of an end, and putting output out.
use Rattle.std.specs.Prelude.{◌≡◌, ℕ, ◌==◌, ◌++◌, if◌then◌else◌, ℤ, pos, List, take, Option, Some}
use Rattle.std.specs.Prelude.{None, is_some}
use Rattle.std.specs.Option.{option_map}
use Rattle.h2_spec_log.specs.View.{owed_on}
use Rattle.h2_spec_log.specs.Acts.{PutOut, Count}
use Rattle.h2_spec_log.specs.CallRules.{answer_of}
use Rattle.h2_spec_machine.specs.End.{End, end_view, stream_at}
use Rattle.h2_spec_machine.specs.Machine.{after_call, before_put_out_at}

-- the number of octets that may be sent on the connection (0) or a stream
-- rule: calls (own) An end answers of its state, and of little once it has failed
abbrev pub room_of : End → ℕ → Option ℤ
room_of e id =
    if is_some e.failed then None
    else if id == 0 then Some (pos e.windows.send)
    else option_map (λ stream. stream.send_window) (stream_at e id)

-- what is owed on a stream
-- rule: calls (own) An end answers of its state, and of little once it has failed
abbrev pub owed_of : End → ℕ → ℕ
owed_of e id = if is_some e.failed then 0 else owed_on (stream_at e id)

-- `given` octets of the queued output were consumed, once what is unreturned was returned.
pub record Consumes (e : End) (count given : ℕ) (new : End) : Type 0 where
  pub answer : Count given ≡ answer_of (end_view e) (PutOut count)
  pub machine : new ≡ after_call e (PutOut count)

-- They were put out: they are the first of what was queued then.
pub record PutsOut (e : End) (count given : ℕ) (before after : List ℕ) (new : End) : Type 0 where
  pub consumed : Consumes e count given new
  pub octets : after ≡ before ++ take given (before_put_out_at e).output.waiting
