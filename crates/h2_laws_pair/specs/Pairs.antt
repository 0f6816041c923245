-- Two ends joined by two pipes, and which pairs come about: whatever calls are made at either end,
-- however the octets are moved and delivered.
use Rattle.std.specs.Prelude.{◌≡◌, ◌≢◌, ℕ, List, [], ◌++◌, take, drop, None}
use Rattle.h2_spec_log.specs.Acts.{Values, AreInRange, Act, Answer, IsTypedAct}
use Rattle.h2_spec_log.specs.Log.{Log}
use Rattle.h2_spec_log.specs.LogCalls.{MayAnswer, with_call, opened}
use Rattle.h2_spec_log.specs.declared.role.Role.TheVariants.{Client, Server}
use Rattle.h2_laws_machine.specs.Machines.{MachineStep, uses_part, ends_frame, meets_fault}
use Rattle.h2_laws_machine.specs.Machines.{runs_out_of_memory, reports_unprocessed, is_called}
use Rattle.h2_laws_machine.specs.Machines.{MayStep, log_after}

-- an end of a pair, with the pipe that leads to it
pub record Half : Type 0 where
  pub log : Log
  -- octets that the other end gave out and that weren't delivered yet, the first one first
  pub incoming : List ℕ
  -- octets that were delivered once this end had failed, and that it didn't use
  pub lost : List ℕ

-- the octets of its output that an end had given out by this log
abbrev pub given_out : Log → List ℕ
given_out log = take log.given log.written

-- the octets that it has given out since an earlier log
abbrev pub given_since : Log → Log → List ℕ
given_since before after = drop before.given (given_out after)

-- the octets that a step uses
abbrev pub octets_used : MachineStep → List ℕ
octets_used (uses_part octets unparsed) = octets
octets_used (ends_frame octets frame decoded) = octets
octets_used (meets_fault octets fault) = octets
octets_used (runs_out_of_memory octets) = octets
octets_used reports_unprocessed = []
octets_used (is_called act answer) = []

-- A step at one end of a pair, and what it makes of this end and of the other one.
pub data HalfStep (one other : Half) : Half → Half → Type 0 where
  -- A call was made. What it gives out joins the pipe to the other end.
  calls : (act : Act) (answer : Answer) → IsTypedAct act → MayAnswer one.log act answer
      → HalfStep one other (record one { log = with_call one.log act answer })
      (record other {
        incoming = other.incoming ++ given_since one.log (with_call one.log act answer);
      })
  -- Octets were delivered that this end used, or a stream was reported as unprocessed.
  takes : (step : MachineStep) (rest : List ℕ) → MayStep one.log step
      → ((act : Act) (answer : Answer) → step ≢ is_called act answer)
      → one.incoming ≡ octets_used step ++ rest
      → HalfStep one other (record one { log = log_after one.log step; incoming = rest }) other
  -- Octets were delivered to this end once it had failed, and it didn't use them.
  loses : (octets rest : List ℕ) → one.log.failed ≢ None → one.incoming ≡ octets ++ rest
      → HalfStep one other (record one { incoming = rest; lost = one.lost ++ octets }) other

-- The pairs of a client and a server that come about, with the values of their own settings: at
-- first two new ends and empty pipes, then one step more, at either end.
pub data IsPair (client_values server_values : Values) : Half → Half → Type 0 where
  begins : AreInRange client_values → AreInRange server_values
      → IsPair client_values server_values
      (record { log = opened Client client_values; incoming = []; lost = [] })
      (record { log = opened Server server_values; incoming = []; lost = [] })
  client_steps : {client server new_client new_server : Half}
      → IsPair client_values server_values client server
      → HalfStep client server new_client new_server
      → IsPair client_values server_values new_client new_server
  server_steps : {client server new_client new_server : Half}
      → IsPair client_values server_values client server
      → HalfStep server client new_server new_client
      → IsPair client_values server_values new_client new_server
