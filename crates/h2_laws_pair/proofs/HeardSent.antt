-- What an end was given for a stream is what the items that it has sent carry, with the lists of
-- its calls.
use Rattle.std.proofs.Common.{map as each, eq-eqb}
use Rattle.std.proofs.lemmas.Bool.{not-true, false_from_ne_true}
use Rattle.std.proofs.lemmas.List.{map-append}
use Rattle.h2_laws_pair.proofs.Names
use Names.{◌≡◌, ℕ, zero, suc, ◌<◌, ◌==◌, ◌&&◌, not, Bool, true, false, if◌then◌else◌, List, [], ◌∷◌}
use Names.{◌++◌, length, take, drop, None, refl, sym, ap, ◌∙◌, arith, append_assoc, append-nil}
use Names.{length-drop, list_any, both_ways, or_parts, leb-false, and_parts, eqb-true, and_from}
use Names.{take-append-drop, length-take, Field, code_number, Data, GoAway, WindowUpdate, Settings}
use Names.{Ping, Item, alone, block, Role, Values, Act, Answer, Open, SendFields, SendData, Release}
use Names.{Done, Log, max_payload_sent_by, log_view, Verdict, NoEvent, replies_to, items_of}
use Names.{answer_of, data_items, data_frames, read, with_sent, opened, called, IsLog}
use Names.{IsLogInvariant, kept_by_logs, WritesNone, refused, no_memory, fails_instead, puts_out}
use Names.{lists_accepted, Token, OctetToken, end_tokens, tokens_of_call, tokens_sent}
use Names.{tokens_written, ends_connection}
use Rattle.h2_laws_pair.proofs.HeardCalls.{silent_lists}

-- Items and calls carry the same on the stream.
abbrev AreTold : ℕ → Log → Type 0
AreTold i log = tokens_sent i log.calls ≡ tokens_written i log.sent (lists_accepted log.calls)

-- Whether an item carries anything of a message.
unfoldable carries : Item → Bool
carries (block stream end octets) = true
carries (alone (Data stream end octets pad)) = true
carries (alone _) = false

-- An item that carries nothing has no tokens.
one_untold : (i : ℕ) (item : Item) (sent : List Item) (lists : List (List Field))
    → carries item ≡ false → tokens_written i (item ∷ sent) lists ≡ tokens_written i sent lists
unfolding tokens_written carries
one_untold i (block stream end octets) sent lists none = absurd (both_ways true none refl)
one_untold i (alone (Data stream end octets pad)) sent lists none =
    absurd (both_ways true none refl)
one_untold i (alone frame) sent lists none = refl

-- Nor have such items.
more_untold : (i : ℕ) (items sent : List Item) (lists : List (List Field))
    → list_any carries items ≡ false
    → tokens_written i (items ++ sent) lists ≡ tokens_written i sent lists
more_untold i [] sent lists none = refl
more_untold i (item ∷ items) sent lists none =
    let parts = or_parts (carries item) (list_any carries items) none in
    one_untold i item (items ++ sent) lists parts.0 ∙ more_untold i items sent lists parts.1

-- Items that are written keep this, if none carries anything.
wrote_told : (i : ℕ) (log : Log) (items : List Item) → list_any carries items ≡ false
    → AreTold i log → AreTold i (with_sent log items)
unfolding with_sent
wrote_told i log [] none is = is
wrote_told i log (item ∷ items) none is =
    is ∙ sym (more_untold i (item ∷ items) log.sent (lists_accepted log.calls) none)

-- Replies carry nothing.
replies_untold : (verdict : Verdict) (item : Item)
    → list_any carries (replies_to verdict item) ≡ false
unfolding replies_to carries
replies_untold NoEvent (alone (Settings false pairs)) = refl
replies_untold NoEvent (alone (Ping false octets)) = refl
replies_untold verdict item = refl

-- what octets of a body carry, by the test whether they are of the stream
abbrev body_tokens : Bool → List ℕ → Bool → List Token
body_tokens b octets end = if b then each OctetToken octets ++ end_tokens end else []

-- A front of the octets without END_STREAM, and then the others, are all of them.
body_joined : (b : Bool) (front back octets : List ℕ) (end : Bool) → front ++ back ≡ octets
    → body_tokens b front false ++ body_tokens b back end ≡ body_tokens b octets end
unfolding end_tokens
body_joined true front back octets end joined =
    rw (← joined, map-append OctetToken front back) (simp (append-nil, append_assoc))
body_joined false front back octets end joined = refl

-- One DATA.
one_data : (i id : ℕ) (octets : List ℕ) (end : Bool) (sent : List Item)
    (lists : List (List Field))
    → tokens_written i (alone (Data id end octets None) ∷ sent) lists
    ≡ tokens_written i sent lists ++ body_tokens (id == i) octets end
unfolding tokens_written
one_data i id octets end sent lists = refl

-- The last DATA, or one and those after it, by the test.
frames_by : (i most id : ℕ) (octets : List ℕ) (end b : Bool) (after sent : List Item)
    (lists : List (List Field))
    → (b ≡ false → tokens_written i (after ++ alone (Data id false (take most octets) None) ∷ sent)
    lists ≡ tokens_written i (alone (Data id false (take most octets) None) ∷ sent) lists
    ++ body_tokens (id == i) (drop most octets) end)
    → tokens_written i ((if b then alone (Data id end octets None) ∷ []
    else after ++ alone (Data id false (take most octets) None) ∷ []) ++ sent) lists
    ≡ tokens_written i sent lists ++ body_tokens (id == i) octets end
frames_by i most id octets end true after sent lists before = one_data i id octets end sent lists
frames_by i most id octets end false after sent lists before =
    rw (append_assoc after, before refl, one_data i id (take most octets) false sent lists)
    (append_assoc (tokens_written i sent lists) _ _ ∙ ap (λ (line : List Token).
    tokens_written i sent lists ++ line) (body_joined (id == i) (take most octets)
    (drop most octets) octets end (take-append-drop most octets)))

-- The DATA of octets.
frames_told : (i count most id : ℕ) (octets : List ℕ) (end : Bool) (sent : List Item)
    (lists : List (List Field)) → 0 < most → length octets < count
    → tokens_written i (data_frames count most id octets end ++ sent) lists
    ≡ tokens_written i sent lists ++ body_tokens (id == i) octets end
unfolding data_frames
frames_told i zero most id octets end sent lists some enough = absurd (omega arith)
frames_told i (suc count) most id octets end sent lists some enough =
    frames_by _ _ _ _ _ _ _ _ lists (λ more. let above = leb-false (length octets) most more in
    frames_told i count most id (drop most octets) end
    (alone (Data id false (take most octets) None) ∷ sent) lists some
    (omega (arith, length-drop most octets)))

-- No octets without END_STREAM carry nothing.
nothing : (b : Bool) → body_tokens b [] false ≡ []
unfolding end_tokens
nothing true = refl
nothing false = refl

-- So it is where none are sent.
none_body : (b : Bool) (count size : ℕ) (octets : List ℕ) (end : Bool)
    → (count == 0 && not (size == 0 && end)) ≡ true
    → body_tokens b (take count octets) (end && count == size) ≡ []
none_body b count size octets end none =
    let parts = and_parts (count == 0) (not (size == 0 && end)) none in
    let zero_count = eqb-true count 0 parts.0 in
    let goes_on : (end && count == size) ≡ false = false_from_ne_true _ (λ here.
    let both = and_parts end (count == size) here in
    let empty = eq-eqb size 0 (sym (eqb-true count size both.1) ∙ zero_count) in
    both_ways _ (not-true _ parts.1) (and_from (size == 0) end empty both.0)) in
    rw (goes_on, zero_count) (nothing b)

-- The octets of a call, by the test whether there are any.
items_by : (i : ℕ) (items sent : List Item) (lists : List (List Field)) (tokens : List Token)
    (b : Bool) → (b ≡ true → tokens ≡ [])
    → tokens_written i (items ++ sent) lists ≡ tokens_written i sent lists ++ tokens
    → tokens_written i ((if b then [] else items) ++ sent) lists
    ≡ tokens_written i sent lists ++ tokens
items_by i items sent lists tokens true none is = rw (none refl) (sym (append-nil _))
items_by i items sent lists tokens false none is = is

-- What a call that sends octets writes.
items_told : (i most id : ℕ) (octets : List ℕ) (end : Bool) (count : ℕ) (sent : List Item)
    (lists : List (List Field)) → 0 < most
    → tokens_written i (data_items most id octets end count ++ sent) lists
    ≡ tokens_written i sent lists
    ++ body_tokens (id == i) (take count octets) (end && count == length octets)
unfolding data_items
items_told i most id octets end count sent lists some =
    items_by i (data_frames (suc count) most id (take count octets) (end && count == length octets))
    sent lists (body_tokens (id == i) (take count octets) (end && count == length octets))
    (count == 0 && not (length octets == 0 && end)) (none_body (id == i) _ _ _ end)
    (frames_told i (suc count) most id (take count octets) (end && count == length octets) sent
    lists some (omega (arith, length-take count octets)))

-- A payload has some octets.
pub some_payload : (received : List Item) → 0 < max_payload_sent_by received
unfolding max_payload_sent_by
some_payload received = omega arith

-- A call that carries nothing and writes nothing of a message.
called_told : (i : ℕ) (log : Log) (act : Act) (answer : Answer) → tokens_of_call i act answer ≡ []
    → lists_accepted ((act, answer) ∷ log.calls) ≡ lists_accepted log.calls → AreTold i log
    → AreTold i (called log act answer)
unfolding tokens_sent
called_told i log act answer none lists is = rw (none, lists, append-nil) is

quiet_told : (i : ℕ) (log : Log) (act : Act) (answer : Answer)
    → list_any carries (items_of (log_view log) act answer) ≡ false
    → tokens_of_call i act answer ≡ []
    → lists_accepted ((act, answer) ∷ log.calls) ≡ lists_accepted log.calls → AreTold i log
    → AreTold i (with_sent (called log act answer) (items_of (log_view log) act answer))
quiet_told i log act answer untold none lists is =
    wrote_told i (called log act answer) _ untold (called_told i log act answer none lists is)

-- Where what a call writes carries the call's tokens.
wrote_call : (i : ℕ) (log : Log) (act : Act) (answer : Answer) (items : List Item)
    → tokens_written i (items ++ log.sent) (lists_accepted ((act, answer) ∷ log.calls))
    ≡ tokens_written i log.sent (lists_accepted log.calls) ++ tokens_of_call i act answer
    → AreTold i log → AreTold i (with_sent (called log act answer) items)
unfolding with_sent tokens_sent
wrote_call i log act answer [] same is = rw is (sym same)
wrote_call i log act answer (item ∷ items) same is = rw is (sym same)

-- Nor does what a release writes carry anything.
updates_untold : (id count : ℕ) (ended : Bool) → list_any carries (alone
    (WindowUpdate 0 count) ∷ (if ended then [] else alone (WindowUpdate id count) ∷ [])) ≡ false
unfolding carries
updates_untold id count true = refl
updates_untold id count false = refl

-- A call that is accepted.
accepted_told : (i : ℕ) (log : Log) (act : Act) → AreTold i log
    → AreTold i (with_sent (called log act (answer_of (log_view log) act))
    (items_of (log_view log) act (answer_of (log_view log) act)))
unfolding items_of lists_accepted tokens_of_call carries tokens_written
accepted_told i log (Open fields end) is = wrote_call _ _ _ _ _ refl is
accepted_told i log (SendFields id fields end) is = wrote_call _ _ _ Done _ refl is
accepted_told i log (SendData id octets end) is =
    wrote_call _ _ _ _ _ (items_told _ _ _ _ _ _ _ _ (some_payload log.received)) is
accepted_told i log (Release id count) is =
    quiet_told i log (Release id count) Done (updates_untold _ _ _) refl refl is
accepted_told i log act is = quiet_told i log act (answer_of (log_view log) act) refl refl refl is

-- A call that writes no items of its own carries nothing.
silent_tokens : (i : ℕ) (act : Act) (answer : Answer) → WritesNone act answer
    → tokens_of_call i act answer ≡ []
unfolding tokens_of_call
silent_tokens i _ _ (refused (Open fields end) refusal) = refl
silent_tokens i _ _ (refused act refusal) = refl
silent_tokens i _ _ (no_memory (Open fields end)) = refl
silent_tokens i _ _ (no_memory act) = refl
silent_tokens i _ _ (fails_instead id code) = refl
silent_tokens i _ _ (ends_connection code) = refl
silent_tokens i _ _ (puts_out count given) = refl

-- What a log sends carries what it was given.
sends_told : (i : ℕ) (role : Role) (values : Values) → IsLogInvariant role values (AreTold i)
unfolding opened with_sent lists_accepted tokens_sent tokens_written carries
sends_told i role values = record {
  opening = λ in_range. refl;
  used = λ log octets unparsed is. is;
  framed = λ log frames is. is;
  begun = λ log begun is. is;
  replied = λ log decoded item verdict replies is.
      wrote_told i (read log decoded item) _ (replies_untold verdict item) is;
  reported = λ log event events may is. is;
  unreturned = λ log count is. is;
  returned = λ log returns is. wrote_told i (record log { unreturned = 0 })
      (alone (WindowUpdate 0 log.unreturned) ∷ []) refl is;
  failed = λ log code last names is.
      wrote_told i log (alone (GoAway last (code_number code) []) ∷ []) refl is;
  called = λ log act answer is_log none is. called_told i log act answer
      (silent_tokens i act answer none) (silent_lists act answer log.calls none) is;
  sent = λ log act accepted is. accepted_told i log act is;
  given = λ log more is. is;
}

-- Every log.
pub tokens_carried : (i : ℕ) (role : Role) (values : Values) (log : Log) → IsLog role values log
    → tokens_sent i log.calls ≡ tokens_written i log.sent (lists_accepted log.calls)
tokens_carried i role values log is = kept_by_logs role values (AreTold i) (sends_told _ _ _) log is
