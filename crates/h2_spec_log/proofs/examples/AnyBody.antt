-- Any body of 70,000 octets goes like the one of the example, cut into DATA.
use Rattle.std.proofs.Common.{◌≡◌, ℕ, true, false, List, [], ◌∷◌, ◌++◌, take, drop, None, refl}
use Rattle.std.proofs.Common.{append_assoc, length-take}
use Rattle.std.proofs.lemmas.List.{take-append-drop}
use Rattle.h2_spec_log.specs.Log.{max_payload_sent}
use Rattle.h2_spec_log.proofs.Names.{length, sym, ap, ◌∙◌, arith, Data, Item, alone, SendData}
use Rattle.h2_spec_log.proofs.Names.{Count, Log, output, log_view, data_frames, length-drop}
use Rattle.h2_spec_log.proofs.Names.{with_sent, with_unreturned, owed_at_close, called, with_items}
use Rattle.h2_spec_log.proofs.Names.{with_call, data_items, items_of, stream_of_act}
use Rattle.h2_spec_log.proofs.Computing.{computing}
use Rattle.h2_spec_log.proofs.examples.Words.{answered}
use Rattle.h2_spec_log.proofs.examples.Ends.{asking_client, asked_output}
use Rattle.h2_spec_log.proofs.examples.LongBodies.{full_head, last_head, GoesInFour}
use Rattle.h2_spec_log.proofs.DataFrames.{frames_last, frames_more}

-- four frames
frames_four : (octets : List ℕ) → length octets ≡ 65535
    → data_frames 65536 16384 1 octets false
    ≡ alone (Data 1 false (drop 16384 (drop 16384 (drop 16384 octets))) None) ∷ alone
    (Data 1 false (take 16384 (drop 16384
    (drop 16384 octets))) None)
    ∷ alone (Data 1 false (take 16384 (drop 16384 octets)) None) ∷ alone (Data 1 false
    (take 16384 octets) None) ∷ []
frames_four octets all =
    let first = length-drop 16384 octets in
    let second = length-drop 16384 (drop 16384 octets) in
    let third = length-drop 16384 (drop 16384 (drop 16384 octets)) in
    let one = frames_more 65535 16384 1 octets false (omega arith) in
    let two = frames_more 65534 16384 1 (drop 16384 octets) false (omega arith) in
    let three = frames_more 65533 16384 1 (drop 16384 (drop 16384 octets)) false (omega arith) in
    let four = frames_last 65532 16384 1 (drop 16384 (drop 16384 (drop 16384 octets))) false
    (omega arith) in
    let after = λ (others : List Item) (octets : List ℕ). others ++ alone
    (Data 1 false octets None) ∷ [] in
    one ∙ ap (λ (others : List Item). after others (take 16384 octets))
    (two ∙ ap (λ (others : List Item). after others (take 16384 (drop 16384 octets)))
    (three ∙ ap (λ (others : List Item). after others (take 16384 (drop 16384
    (drop 16384 octets)))) four))

-- the most octets of a payload that the client sends
most_of_client : max_payload_sent asking_client ≡ 16384
unfolding computing
most_of_client = refl

-- what is written of the body
items_of_body : (octets : List ℕ) → length octets ≡ 70000
    → items_of (log_view asking_client) (SendData 1 octets true) (Count 65535)
    ≡ data_frames 65536 16384 1 (take 65535 octets) false
unfolding items_of data_items
items_of_body octets all = rw (all, most_of_client) refl

-- the log after a call that writes these
sends : List ℕ → List Item → Log
sends octets items =
    with_unreturned (owed_at_close asking_client (with_sent (called asking_client
    (SendData 1 octets true) (Count 65535)) items) 1)
    (with_sent (called asking_client (SendData 1 octets true) (Count 65535)) items)

-- which is that after the call
call_sends : (octets : List ℕ)
    → with_call asking_client (SendData 1 octets true) (Count 65535)
    ≡ sends octets (items_of (log_view asking_client) (SendData 1 octets true) (Count 65535))
unfolding with_call with_items stream_of_act sends
call_sends octets = refl

-- octets after one another
after_one_another : (a b c d e f g : List ℕ) → ((a ++ (b ++ c)) ++ (d ++ e)) ++ (f ++ g)
    ≡ (((((a ++ b) ++ c) ++ d) ++ e) ++ f) ++ g
after_one_another a b c d e f g = simp append_assoc

-- four of them
pieces_after : (a b c d : List ℕ) → a ++ (b ++ (c ++ d)) ≡ ((a ++ b) ++ c) ++ d
pieces_after a b c d = simp append_assoc

-- its output
output_of_four : (octets first second third fourth : List ℕ) → length first
    ≡ 16384 → length second ≡ 16384 → length third ≡ 16384
    → length fourth ≡ 16383
    → output (sends octets (alone (Data 1 false fourth None) ∷ alone (Data 1 false third None)
    ∷ alone (Data 1 false second None) ∷ alone
    (Data 1 false first None) ∷ []))
    ≡ asked_output ++ full_head ++ first ++ full_head ++ second ++ full_head ++ third
    ++ last_head ++ fourth
unfolding computing sends
output_of_four octets first second third fourth a b c d =
    rw (a, b, c, d) (ap (λ (others : List ℕ). (asked_output ++ full_head) ++ others)
    (after_one_another first full_head second full_head third last_head fourth))

-- four pieces of octets, joined
joined_four : (octets : List ℕ)
    → octets
    ≡ take 16384 octets ++ take 16384 (drop 16384 octets) ++ take 16384 (drop 16384
    (drop 16384 octets))
    ++ drop 16384 (drop 16384 (drop 16384 octets))
joined_four octets =
    let one = sym (take-append-drop 16384 octets) in
    let two = sym (take-append-drop 16384 (drop 16384 octets)) in
    let three = sym (take-append-drop 16384 (drop 16384 (drop 16384 octets))) in
    one ∙ ap (λ (others : List ℕ). take 16384 octets ++ others) (two ∙ ap (λ
    (others : List ℕ). take 16384 (drop 16384 octets) ++ others) three)
    ∙ pieces_after (take 16384 octets) (take 16384 (drop 16384 octets)) (take 16384 (drop 16384
    (drop 16384 octets))) (drop 16384 (drop 16384 (drop 16384 octets)))

-- what the call answers
answers_any : (octets : List ℕ) → length octets
    ≡ 70000 → answered (log_view asking_client) (SendData 1 octets true) ≡ Count 65535
unfolding computing
answers_any octets all = rw all refl

-- what goes of the body
goes_in_four : (octets : List ℕ) → length octets ≡ 70000 → GoesInFour octets
goes_in_four octets all =
    let front : length (take 65535 octets) ≡ 65535 = omega (arith, length-take 65535 octets) in
    let body = take 65535 octets in
    let first = length-drop 16384 body in
    let second = length-drop 16384 (drop 16384 body) in
    let third = length-drop 16384 (drop 16384 (drop 16384 body)) in
    let first_length : length (take 16384 body) ≡ 16384 = omega (arith, length-take 16384 body) in
    let second_length : length (take 16384 (drop 16384 body)) ≡ 16384 =
    omega (arith, length-take 16384 (drop 16384 body)) in
    let third_length : length (take 16384 (drop 16384 (drop 16384 body))) ≡ 16384 =
    omega (arith, length-take 16384 (drop 16384 (drop 16384 body))) in
    let fourth_length : length (drop 16384 (drop 16384 (drop 16384 body))) ≡ 16383 = omega arith in
    record {
      first = take 16384 body;
      second = take 16384 (drop 16384 body);
      third = take 16384 (drop 16384 (drop 16384 body));
      fourth = drop 16384 (drop 16384 (drop 16384 body));
      joined = joined_four body;
      first_length = first_length;
      second_length = second_length;
      third_length = third_length;
      fourth_length = fourth_length;
      out = ap output (call_sends octets ∙ ap (λ (items : List Item). sends octets items)
          (items_of_body octets all ∙ frames_four body front))
          ∙ output_of_four octets _ _ _ _ first_length second_length third_length fourth_length;
    }

-- Any body of that length goes so.
pub sends_any_body : (octets : List ℕ) → length octets ≡ 70000
    → (answered (log_view asking_client) (SendData 1 octets true) ≡ Count 65535) × GoesInFour octets
sends_any_body octets all = (answers_any octets all, goes_in_four octets all)
