-- The conditions that refuse calls, each with a call that just isn't refused.
use Rattle.h2_spec_log.specs.declared.refusal.Refusal.TheVariants.{Closed, Ended, ListTooLarge}
use Rattle.h2_spec_log.specs.declared.refusal.Refusal.TheVariants.{StreamsExhausted, TooManyResets}
use Rattle.h2_spec_log.specs.declared.refusal.Refusal.TheVariants.{TooManyStreams}
use Rattle.h2_spec_log.proofs.Names
use Names.{List, None, Some, [], false, map, pos, refl, replicate, true, ℕ, ◌++◌, ◌∷◌, ◌≡◌}
use Names.{Settings, NoError, Act, ChangeSettings, Count, Done, Number, Open, PutOut, Refuse}
use Names.{Refused, Release, ResetStream, SendData, SendFields, SendGoAway, SendPing, active_count}
use Names.{recv_window, send_window, waiting, with_call, log_view, View, takes, NotOwed, GoingAway}
use Names.{NoSuchStream, OutputFull, PingWaits, SettingsWait}
use Rattle.h2_spec_log.specs.Acts.{Widen}
use Rattle.h2_spec_log.specs.declared.refusal.Refusal.TheVariants.{WindowTooLarge}
use Rattle.h2_spec_log.proofs.Computing.{computing}
use Rattle.h2_spec_log.proofs.examples.Blocks.{list_of_size}
use Rattle.h2_spec_log.proofs.examples.Ends.{active_server, active_view, asking_view, new_client}
use Rattle.h2_spec_log.proofs.examples.Ends.{server_with_body}
use Rattle.h2_spec_log.proofs.examples.Words.{abcd, answered, answers, one_to_eight, outcome}
use Rattle.h2_spec_log.proofs.examples.Words.{short_answer, short_request, small_values}

-- a server with four octets of a body on stream 1, whose SETTINGS are acknowledged
abbrev pub body_view : View
body_view = log_view (takes (server_with_body false) (Settings true []))

-- calls on a stream
abbrev pub stream_calls : ℕ → List Act
stream_calls =
    λ id.
    SendFields id short_answer false ∷ SendData id abcd false ∷ Release id 4 ∷ ResetStream id 8 ∷ []

-- calls on the connection
abbrev pub connection_calls : List Act
connection_calls =
    SendPing one_to_eight ∷ SendGoAway ∷ ChangeSettings small_values ∷ Widen 1000 ∷ []

-- Where no condition holds none is refused.
calls_that_are_answered :
    (answers body_view (stream_calls 1) ≡ Done ∷ Count 4 ∷ Done ∷ Done ∷ [])
    × (answers body_view connection_calls ≡ replicate 4 Done)
    × (answers body_view (Refuse 1 1 ∷ PutOut 10 ∷ []) ≡ Done ∷ Count 10 ∷ [])
unfolding computing
calls_that_are_answered = (refl, refl, refl)

-- C1: the connection has failed. Output is put out all the same.
refused_after_a_failure :
    (answers (record body_view { failed = Some NoError })
    (stream_calls 1 ++ connection_calls ++ Open short_request true ∷ Refuse 1 1 ∷ Refuse 1 2 ∷ [])
    ≡ replicate 11 (Refused Closed))
    × (answered (record body_view { failed = Some NoError }) (PutOut 10) ≡ Count 10)
unfolding computing
refused_after_a_failure = (refl, refl)

-- C2: the stream isn't active.
-- rule: 5.1 Each frame is sent only in states that allow it
refused_without_a_stream :
    (answers body_view (stream_calls 3 ++ Refuse 3 1 ∷ []) ≡ replicate 5 (Refused NoSuchStream))
    × (answered body_view (Refuse 3 2) ≡ Done)
unfolding computing
refused_without_a_stream = (refl, refl)

-- stream 1 of this view, on which this end has sent END_STREAM
abbrev pub ended_view : View
ended_view = record body_view {
  stream = λ i. Some (record {
    send_window = pos 9;
    recv_window = pos 9;
    owed = 4;
    ended_in = false;
    ended_out = true;
  });
}

-- C3: this end has ended the stream.
-- rule (best): 5.1 Each frame is sent only in states that allow it
refused_after_the_end :
    answers ended_view (stream_calls 1) ≡ Refused Ended ∷ Refused Ended ∷ Done ∷ Done ∷ []
unfolding computing
refused_after_the_end = refl

-- C4: as many streams are active as the client may have (RFC 9113, section 5.1.2).
-- rule: 5.1.2 A client has at most as many active streams as the server allows
too_many_streams :
    (map (λ count. answered (record (log_view new_client) { active_count = count })
    (Open short_request true))
    (99 ∷ 100 ∷ []) ≡ Number 1 ∷ Refused TooManyStreams ∷ [])
    × (map (λ count. answered (record asking_view { active_count = count })
    (Open short_request true))
    (999 ∷ 1000 ∷ []) ≡ Number 3 ∷ Refused TooManyStreams ∷ [])
unfolding computing
too_many_streams = (refl, refl)

-- C5: the next number is above 2^31 - 1; a server opens no stream (section 5.1.1).
-- rule: 5.1.1 When the numbers of 31 bits are used up no stream is opened
no_number_left :
    (map (λ number. answered (record asking_view { next_number = number })
    (Open short_request true))
    (2147483647 ∷ 2147483649 ∷ []) ≡ Number 2147483647 ∷ Refused StreamsExhausted ∷ [])
    × (answered body_view (Open short_request true) ≡ Refused StreamsExhausted)
unfolding computing
no_number_left = (refl, refl)

-- C6: GOAWAY was sent or received; only the own one keeps from sending GOAWAY (section 6.8).
-- rule: 6.8 No stream is opened after GOAWAY was received
going_away :
    (answers (record asking_view { goaway_sent = true }) (Open short_request true ∷ SendGoAway ∷ [])
    ≡ Refused GoingAway ∷ Refused GoingAway ∷ [])
    × (answers (record asking_view { goaway_received = Some 7 }) (Open short_request true
    ∷ SendGoAway ∷ [])
    ≡ Refused GoingAway ∷ Done ∷ [])
unfolding computing
going_away = (refl, refl)

-- C7: 65,536 octets of output wait. Refusing a stream and putting output out aren't refused for it.
full_output :
    (answers (record body_view { waiting = 65536 }) (stream_calls 1 ++ connection_calls)
    ≡ replicate 8 (Refused OutputFull))
    × (answered (record asking_view { waiting = 65536 }) (Open short_request true)
    ≡ Refused OutputFull)
    × (answers (record body_view { waiting = 65536 }) (Refuse 1 1 ∷ PutOut 10 ∷ [])
    ≡ Done ∷ Count 10 ∷ [])
    × (answers (record body_view { waiting = 65535 }) (stream_calls 1 ++ connection_calls)
    ≡ Done ∷ Count 4 ∷ replicate 6 Done)
    × (answered (record asking_view { waiting = 65535 }) (Open short_request true) ≡ Number 3)
unfolding computing
full_output = (refl, refl, refl, refl, refl)

-- C8: an own PING awaits its answer.
ping_waits :
    answered (record body_view { ping = Some one_to_eight }) (SendPing abcd) ≡ Refused PingWaits
unfolding computing
ping_waits = refl

-- C9: 1,000 streams were reset.
-- rule: 6.4 (own) An end resets a stream on request, and counts it
too_many_resets :
    map (λ count. answers (record body_view { resets = count }) (ResetStream 1 8 ∷ Refuse 1 1 ∷ []))
    (999 ∷ 1000 ∷ []) ≡ (Done ∷ Done ∷ []) ∷ (Refused TooManyResets ∷ Done ∷ []) ∷ []
unfolding computing
too_many_resets = refl

-- C10: the list's size is above 65,536.
-- rule: 10.5 (own) An own list above 65,536 octets is refused
list_too_large :
    (map (λ size. answered body_view (SendFields 1 (list_of_size size) true)) (65536 ∷ 65537 ∷ [])
    ≡ Done ∷ Refused ListTooLarge ∷ [])
    × (map (λ size. answered asking_view (Open (list_of_size size) true)) (65536 ∷ 65537 ∷ [])
    ≡ Number 3 ∷ Refused ListTooLarge ∷ [])
unfolding computing
list_too_large = (refl, refl)

-- C11: none are released, or more than are owed.
not_owed :
    answers body_view (Release 1 0 ∷ Release 1 1 ∷ Release 1 4 ∷ Release 1 5 ∷ [])
    ≡ Refused NotOwed ∷ Done ∷ Done ∷ Refused NotOwed ∷ []
unfolding computing
not_owed = refl

-- C13: own SETTINGS await their acknowledgment (section 6.5.3).
settings_wait :
    answered (record body_view { settings_wait = true }) (ChangeSettings small_values)
    ≡ Refused SettingsWait
unfolding computing
settings_wait = refl

-- C14: the connection's window is widened by nothing, or to more than 2^31 - 1 (section 6.9.1).
-- rule: 6.9.2 (own) The window of the connection is widened by a call, for good
window_too_large :
    (answers body_view (map Widen (0 ∷ 1 ∷ 2147418112 ∷ 2147418113 ∷ []))
    ≡ Refused WindowTooLarge ∷ Done ∷ Done ∷ Refused WindowTooLarge ∷ [])
    × (answers (record body_view { granted = 2147483646 }) (map Widen (1 ∷ 2 ∷ []))
    ≡ Done ∷ Refused WindowTooLarge ∷ [])
    × (answered (record body_view { waiting = 65536 }) (Widen 0) ≡ Refused OutputFull)
    × (answered (record body_view { failed = Some NoError }) (Widen 0) ≡ Refused Closed)
unfolding computing
window_too_large = (refl, refl, refl, refl)

-- a view of which every condition of `Open` holds
abbrev pub refusing_view : View
refusing_view = record asking_view {
  failed = Some NoError;
  active_count = 1000;
  next_number = 2147483649;
  goaway_sent = true;
  waiting = 65536;
}

-- opening a stream with a list that is too large
abbrev pub large_open : Act
large_open = Open (list_of_size 65537) true

-- Of several conditions the first one in this order refuses.
-- rule: calls (own) A call does what it says, or is refused for its first condition
order_of_refusals :
    (map (λ view. answered view large_open)
    (refusing_view ∷ record refusing_view { failed = None }
    ∷ record refusing_view { failed = None; active_count = 1 }
    ∷ record refusing_view { failed = None; active_count = 1; next_number = 3 }
    ∷ record asking_view { waiting = 65536 } ∷ asking_view ∷ [])
    ≡ Refused Closed ∷ Refused TooManyStreams ∷ Refused StreamsExhausted ∷ Refused GoingAway
    ∷ Refused OutputFull ∷ Refused ListTooLarge ∷ [])
    × (answers (record ended_view { waiting = 65536 })
    (SendFields 1 (list_of_size 65537) true ∷ SendData 1 abcd true ∷ Release 1 9 ∷ [])
    ≡ Refused Ended ∷ Refused Ended ∷ Refused OutputFull ∷ [])
    × (answers (record body_view {
      waiting = 65536;
      resets = 1000;
      ping = Some
          [];
      settings_wait = true;
      goaway_sent = true;
    })
    (SendFields 1 (list_of_size 65537) true ∷ ResetStream 1 8 ∷ SendPing []
    ∷ ChangeSettings small_values
    ∷ SendGoAway ∷ [])
    ≡ Refused OutputFull ∷ Refused OutputFull ∷ Refused OutputFull ∷ Refused OutputFull
    ∷ Refused GoingAway ∷ [])
unfolding computing
order_of_refusals = (refl, refl, refl)

-- A refused call changes nothing of what an end has come to.
-- rule: calls (own) A call does what it says, or is refused for its first condition
refused_call :
    (outcome (with_call active_server (Release 1 5) (Refused NotOwed)) ≡ outcome active_server)
    × ((log_view (with_call active_server (Release 1 5) (Refused NotOwed))).waiting
    ≡ active_view.waiting)
unfolding computing
refused_call = (refl, refl)
