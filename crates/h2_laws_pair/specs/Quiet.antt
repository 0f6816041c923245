-- When a pair is quiet, and when a stream was reset (RFC 9113, sections 5.1 and 6.8).
use Rattle.std.specs.Prelude.{◌≡◌, ◌≢◌, ◌⊎◌, ℕ, true, ℤ, pos, int_lt, List, [], ◌∷◌, ◌++◌}
use Rattle.std.specs.Prelude.{length}
use Rattle.std.specs.List.{Contains}
use Rattle.h2_spec_log.specs.Events.{UnprocessedEvent}
use Rattle.h2_spec_log.specs.Log.{Log, active, owed, send_window, next_unprocessed}
use Rattle.h2_spec_log.specs.Windows.{connection_send_window}
use Rattle.h2_laws_pair.specs.Pairs.{Half}
use Rattle.h2_laws_pair.specs.Undisturbed.{WasAsked}
use Rattle.h2_laws_pair.specs.Tokens.{Token, FieldsToken, OctetToken, EndToken, tokens_sent}
use Rattle.h2_laws_pair.specs.Tokens.{Said, said_tokens}

-- All output of one end was given out and delivered to the other, which owes nothing on any stream
-- and has nothing unreturned.
pub record IsQuietTo (writer reader : Half) : Type 0 where
  pub given : writer.log.given ≡ length writer.log.written
  pub delivered : reader.incoming ≡ []
  pub none_owed : (i : ℕ) → owed reader.log i ≡ 0
  pub none_unreturned : reader.log.unreturned ≡ 0

-- Both directions are quiet, and each stream that the server does not process was reported.
pub record IsQuiet (client server : Half) : Type 0 where
  pub to_server : IsQuietTo client server
  pub to_client : IsQuietTo server client
  pub all_reported : next_unprocessed client.log ≡ 0

-- A reset of the stream was asked for at either end, or the client has reported that the server
-- does not process it.
abbrev pub WasReset : (client server : Log) → ℕ → Type 0
WasReset client server i =
    ((code : ℕ) × WasAsked client.calls i code) ⊎ (((code : ℕ) × WasAsked server.calls i code)
    ⊎ Contains client.reported (UnprocessedEvent i))

-- The token could be sent on the stream now: an octet where both windows are above 0, and any other
-- token.
abbrev pub CouldGo : Log → ℕ → Token → Type 0
CouldGo log i (OctetToken octet) =
    (int_lt (pos 0) (send_window log i) ≡ true)
    × (int_lt (pos 0) (connection_send_window log.received log.sent) ≡ true)
CouldGo log i (FieldsToken list end) = Unit {0}
CouldGo log i EndToken = Unit {0}

-- The next of the tokens that wait, if there is one, cannot go.
abbrev pub NoneCouldGo : Log → ℕ → List Token → Type 0
NoneCouldGo log i [] = Unit {0}
NoneCouldGo log i (token ∷ tokens) = CouldGo log i token → ⊥

-- An end was given this to say on the stream and has sent a prefix of it, the head at least; these
-- tokens of it wait.
pub record IsSending (log : Log) (i : ℕ) (said : Said) (waiting : List Token) : Type 0 where
  pub sent : said_tokens said ≡ tokens_sent i log.calls ++ waiting
  pub begun : tokens_sent i log.calls ≢ []

-- What waits cannot go, as long as the stream is active.
abbrev pub IsStuck : Log → ℕ → List Token → Type 0
IsStuck log i waiting = active log i ≡ true → NoneCouldGo log i waiting
