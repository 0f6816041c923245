-- Bodies that are longer than the windows.
use Rattle.std.specs.Prelude.{length, take}
use Rattle.h2_spec_log.proofs.Names.{List, None, Some, [], codes, false, map, negsuc, pos, refl}
use Rattle.h2_spec_log.proofs.Names.{replicate, true, ℕ, ◌++◌, ◌∷◌, ◌≡◌, Data, WindowUpdate, alone}
use Rattle.h2_spec_log.proofs.Names.{Count, PutOut, Refused, SendData, items_of, Log, output}
use Rattle.h2_spec_log.proofs.Names.{recv_window, send_window, waiting, with_call, log_view, takes}
use Rattle.h2_spec_log.proofs.Names.{ℤ, StreamView, OutputFull}
use Rattle.h2_spec_log.proofs.Computing.{computing}
use Rattle.h2_spec_log.proofs.examples.Ends.{asked_output, asking_client, asking_view}
use Rattle.h2_spec_log.proofs.examples.Octets.{octets}
use Rattle.h2_spec_log.proofs.examples.Words.{answered, come_to, empty_settings, outcome}

-- the client has sent as much of 70,000 octets as the windows allow
abbrev pub client_with_body : Log
client_with_body = with_call asking_client (SendData 1 (replicate 70000 0) true) (Count 65535)

-- its output is put out
abbrev pub client_with_output : Log
client_with_output = with_call client_with_body (PutOut 100000) (Count 65649)

-- it tries to send the others
abbrev pub client_without_send_window : Log
client_without_send_window =
    with_call client_with_output (SendData 1 (replicate 4465 0) true) (Count 0)

-- both windows grow by as many
abbrev pub client_with_send_window : Log
client_with_send_window =
    takes (takes client_without_send_window (WindowUpdate 1 4465)) (WindowUpdate 0 4465)

-- and they go
abbrev pub client_with_all : Log
client_with_all =
    with_call client_with_send_window (SendData 1 (replicate 4465 0) true) (Count 4465)

-- the heads of DATA with 16,384 octets, and with 16,383
abbrev pub full_head : List ℕ
full_head = octets (codes "004000 00 00 00000001")

-- the latter
abbrev pub last_head : List ℕ
last_head = octets (codes "003fff 00 00 00000001")

-- what the client has written of the body at first
abbrev pub first_body_output : List ℕ
first_body_output =
    asked_output ++ full_head ++ replicate 16384 0 ++ full_head ++ replicate 16384 0
    ++ full_head ++ replicate 16384 0 ++ last_head ++ replicate 16383 0

-- Of a body as much goes as the windows let through, in DATA of 16,384 octets but the last, without
-- END_STREAM. Then nothing goes until both windows have grown; the others go with END_STREAM (RFC
-- 9113, sections 6.1, 6.9 and 6.9.1).
-- rule: 6.9.1 DATA is sent within both windows
sends_a_body :
    (answered asking_view (SendData 1 (replicate 70000 0) true) ≡ Count 65535)
    × (outcome client_with_body ≡ come_to empty_settings [] first_body_output None)
    × (answered (log_view client_with_body) (SendData 1 (replicate 4465 0) true)
    ≡ Refused OutputFull)
    × (answered (log_view client_with_body) (PutOut 100000) ≡ Count 65649)
    × (waiting client_with_output ≡ 0)
    × (answered (log_view client_with_output) (SendData 1 (replicate 4465 0) true) ≡ Count 0)
    × (outcome client_without_send_window ≡ come_to empty_settings [] first_body_output None)
    × (answered (log_view client_with_send_window) (SendData 1 (replicate 4465 0) true)
    ≡ Count 4465)
    × (outcome client_with_all ≡ come_to (empty_settings
    ++ octets (codes "000004 08 00 00000001 00001171 000004 08 00 00000000 00001171")) []
    (first_body_output ++ octets (codes "001171 00 01 00000001") ++ replicate 4465 0) None)
unfolding computing
sends_a_body = (refl, refl, refl, refl, refl, refl, refl, refl, refl)

-- a stream with this window for its DATA
abbrev pub wide : ℤ → StreamView
wide =
    λ window. record {
      send_window = window;
      recv_window = pos 0;
      owed = 0;
      ended_in = false;
      ended_out = false;
    }

-- A call sends at most 65,536 octets (own), and no more than either window lets through.
-- rule: 6.9.1 DATA is sent within both windows
octets_of_one_call :
    map (λ view. answered view (SendData 1 (replicate 70000 0) true))
    (record asking_view { send_window = pos 100000; stream = λ i. Some (wide (pos 100000)) }
    ∷ record asking_view { send_window = pos 7; stream = λ i. Some (wide (pos 100000)) }
    ∷ record asking_view { send_window = pos 100000; stream = λ i. Some (wide (pos 8)) }
    ∷ record asking_view { send_window = negsuc 6; stream = λ i. Some (wide (pos 8)) } ∷ [])
    ≡ Count 65536 ∷ Count 7 ∷ Count 8 ∷ Count 0 ∷ []
unfolding computing
octets_of_one_call = refl

-- An empty body with END_STREAM is one DATA without octets; without it, none.
empty_bodies :
    map (λ end. items_of asking_view (SendData 1 [] end) (Count 0)) (true ∷ false ∷ [])
    ≡ (alone (Data 1 true [] None) ∷ []) ∷ [] ∷ []
unfolding computing
empty_bodies = refl

-- The octets of a body that go, in four parts; and the output after them.
pub record GoesInFour (octets : List ℕ) : Type 0 where
  pub first : List ℕ
  pub second : List ℕ
  pub third : List ℕ
  pub fourth : List ℕ
  pub joined : take 65535 octets ≡ first ++ second ++ third ++ fourth
  pub first_length : length first ≡ 16384
  pub second_length : length second ≡ 16384
  pub third_length : length third ≡ 16384
  pub fourth_length : length fourth ≡ 16383
  pub out : output (with_call asking_client (SendData 1 octets true) (Count 65535))
      ≡ asked_output ++ full_head ++ first ++ full_head ++ second ++ full_head ++ third
      ++ last_head ++ fourth
