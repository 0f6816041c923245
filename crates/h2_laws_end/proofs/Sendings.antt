-- The field blocks that an end has written are what its encoder makes of the lists of its calls.
use Rattle.h2_laws_end.proofs.Names
use Names.{◌≡◌, ℕ, Bool, true, false, if◌then◌else◌, List, [], ◌∷◌, ◌++◌, Option, refl, subst}
use Names.{list_any, both_ways, or_parts, Field, Code, Settings, WindowUpdate, Item, alone, block}
use Names.{Role, Refusal, Values, Act, Answer, Open, SendFields, SendData, Release, Refuse, PutOut}
use Names.{Count, Done, OutOfMemory, Refused, Log, log_view, Verdict, ConnectionFault, StreamFault}
use Names.{NoEvent, Reported, Decoded, answer_of, data_items, read, called, IsLog, IsLogInvariant}
use Names.{kept_by_logs, block_of, replies_to, opening_pairs, items_of, with_sent, opened}
use Names.{WritesNone, refused, no_memory, fails_instead, puts_out, changes_encoder, Fail}
use Names.{ends_connection}
use Rattle.hpack.specs.Lists.{EncoderState}
use Rattle.hpack.specs.Choice.{after_block}
use Rattle.h2_spec_log.specs.CallRules.{encoder_after_call}
use Rattle.h2_laws_end.specs.Sendings.{lists_accepted, settings_received, EncodesInOrder}
use Rattle.h2_laws_end.specs.Sendings.{sent_nothing, sent_acknowledgment, sent_block, sent_other}
use Rattle.h2_laws_end.proofs.SettingsApplied.{is_settings, replies_stay, IsApplied}
use Rattle.h2_laws_end.proofs.SettingsApplied.{verdict_applied}
use Rattle.h2_laws_end.proofs.DataItems.{body_all, none_of_all}

-- What was sent by a log, in order.
abbrev LogIsSent : Log → Type 0
LogIsSent log = EncodesInOrder log.sent (settings_received log.received) (lists_accepted log.calls)
    log.encoder

-- Items that change no encoder.
more_sent : (items sent : List Item) (settings : List (List (ℕ × ℕ))) (lists : List (List Field))
    (encoder : EncoderState) → list_any changes_encoder items ≡ false
    → EncodesInOrder sent settings lists encoder
    → EncodesInOrder (items ++ sent) settings lists encoder
more_sent [] sent settings lists encoder none is = is
more_sent (item ∷ items) sent settings lists encoder none is =
    let parts = or_parts (changes_encoder item) (list_any changes_encoder items) none in
    sent_other (more_sent items sent settings lists encoder parts.1 is) item parts.0

-- Items that are written keep this, if none changes the encoder.
wrote_keeps : (log : Log) (items : List Item) → list_any changes_encoder items ≡ false
    → LogIsSent log → LogIsSent (with_sent log items)
unfolding with_sent
wrote_keeps log [] none is = is
wrote_keeps log (item ∷ items) none is =
    more_sent (item ∷ items) log.sent (settings_received log.received) (lists_accepted log.calls)
    log.encoder none is

-- Any other item that is read keeps this.
read_keeps : (log : Log) (decoded : Option Decoded) (item : Item) → is_settings item ≡ false
    → LogIsSent log → LogIsSent (read log decoded item)
unfolding settings_received
read_keeps log decoded (alone (Settings false pairs)) other is = absurd (both_ways true other refl)
read_keeps log decoded (block stream end octets) other is = is
read_keeps log decoded (alone frame) other is = is

-- An item that is read, and replied to.
other_replied : (log : Log) (decoded : Option Decoded) (item : Item) (verdict : Verdict)
    → is_settings item ≡ false → LogIsSent log
    → LogIsSent (with_sent (read log decoded item) (replies_to verdict item))
other_replied log decoded item verdict other is =
    wrote_keeps _ _ (replies_stay verdict item other) (read_keeps log decoded item other is)

settings_replied : (log : Log) (decoded : Option Decoded) (pairs : List (ℕ × ℕ)) → LogIsSent log
    → LogIsSent (with_sent (read log decoded (alone (Settings false pairs)))
    (replies_to NoEvent (alone (Settings false pairs))))
unfolding with_sent replies_to settings_received
settings_replied log decoded pairs is = sent_acknowledgment is pairs

silent_replied : (log : Log) (decoded : Option Decoded) (item : Item) → LogIsSent log
    → LogIsSent (with_sent (read log decoded item) (replies_to NoEvent item))
silent_replied log decoded (alone (Settings false pairs)) is = settings_replied log decoded pairs is
silent_replied log decoded item is = other_replied log decoded item NoEvent refl is

-- An item that is read and replied to, by its verdict.
replied_keeps : (log : Log) (decoded : Option Decoded) (item : Item) (verdict : Verdict)
    → ((code : Code) → verdict ≡ ConnectionFault code → ⊥) → IsApplied verdict item
    → LogIsSent log → LogIsSent (with_sent (read log decoded item) (replies_to verdict item))
replied_keeps log decoded item (ConnectionFault code) up applied is = absurd (up code refl)
replied_keeps log decoded item (StreamFault code) up applied is =
    other_replied log decoded item (StreamFault code) applied is
replied_keeps log decoded item NoEvent up applied is = silent_replied log decoded item is
replied_keeps log decoded item Reported up applied is =
    other_replied log decoded item Reported applied is

-- DATA changes no encoder.
data_stay : (most id : ℕ) (octets : List ℕ) (end : Bool) (count : ℕ)
    → list_any changes_encoder (data_items most id octets end count) ≡ false
unfolding changes_encoder
data_stay most id octets end count =
    none_of_all changes_encoder _ (body_all (λ item. changes_encoder item ≡ false) most id
    (λ one short. refl) octets end count (λ last short. refl))

-- Nor does what a release writes.
updates_stay : (id count : ℕ) (ended : Bool) → list_any changes_encoder (alone
    (WindowUpdate 0 count) ∷ (if ended then [] else alone (WindowUpdate id count) ∷ [])) ≡ false
unfolding changes_encoder
updates_stay id count true = refl
updates_stay id count false = refl

-- A call that was given no list.
quiet_called : (log : Log) (act : Act) (answer : Answer)
    → lists_accepted ((act, answer) ∷ log.calls) ≡ lists_accepted log.calls
    → encoder_after_call log.encoder act answer ≡ log.encoder → LogIsSent log
    → LogIsSent (called log act answer)
quiet_called log act answer lists same is = rw (lists, same) is

-- A call that was given no list, and writes nothing that changes the encoder.
quiet_call : (log : Log) (act : Act) (answer : Answer)
    → list_any changes_encoder (items_of (log_view log) act answer) ≡ false
    → lists_accepted ((act, answer) ∷ log.calls) ≡ lists_accepted log.calls
    → encoder_after_call log.encoder act answer ≡ log.encoder → LogIsSent log
    → LogIsSent (with_sent (called log act answer) (items_of (log_view log) act answer))
quiet_call log act answer none lists same is =
    wrote_keeps (called log act answer) _ none (quiet_called log act answer lists same is)

-- A call that writes a block of its list.
block_call : (log : Log) (act : Act) (answer : Answer) (stream : ℕ) (end : Bool)
    (fields : List Field)
    → items_of (log_view log) act answer ≡ block stream end (block_of log.encoder fields) ∷ []
    → lists_accepted ((act, answer) ∷ log.calls) ≡ fields ∷ lists_accepted log.calls
    → encoder_after_call log.encoder act answer ≡ after_block log.encoder fields → LogIsSent log
    → LogIsSent (with_sent (called log act answer) (items_of (log_view log) act answer))
unfolding with_sent
block_call log act answer stream end fields items lists after is =
    rw items (rw (lists, after) (sent_block is stream end fields))

-- A call that is accepted.
accepted_keeps : (log : Log) (act : Act) → LogIsSent log
    → LogIsSent (with_sent (called log act (answer_of (log_view log) act))
    (items_of (log_view log) act (answer_of (log_view log) act)))
unfolding items_of lists_accepted encoder_after_call changes_encoder
accepted_keeps log (Open fields end) is = block_call _ _ _ _ _ fields refl refl refl is
accepted_keeps log (SendFields id fields end) is = block_call _ _ Done _ _ fields refl refl refl is
accepted_keeps log (SendData id octets end) is = quiet_call _ _ _ (data_stay _ _ _ _ _) refl refl is
accepted_keeps log (Release id count) is = quiet_call _ _ Done (updates_stay _ _ _) refl refl is
accepted_keeps log act is = quiet_call log act (answer_of (log_view log) act) refl refl refl is

-- A refused call changes neither lists nor the encoder; nor does one in which memory ran out.
pub refused_lists : (act : Act) (refusal : Refusal) (calls : List (Act × Answer))
    (encoder : EncoderState)
    → (lists_accepted ((act, Refused refusal) ∷ calls) ≡ lists_accepted calls)
    × (encoder_after_call encoder act (Refused refusal) ≡ encoder)
unfolding lists_accepted encoder_after_call
refused_lists (Open fields end) refusal calls encoder = (refl, refl)
refused_lists act refusal calls encoder = (refl, refl)

pub failed_lists : (act : Act) (calls : List (Act × Answer)) (encoder : EncoderState)
    → (lists_accepted ((act, OutOfMemory) ∷ calls) ≡ lists_accepted calls)
    × (encoder_after_call encoder act OutOfMemory ≡ encoder)
unfolding lists_accepted encoder_after_call
failed_lists (Open fields end) calls encoder = (refl, refl)
failed_lists act calls encoder = (refl, refl)

-- A call that writes no items of its own.
silent_call : (log : Log) (act : Act) (answer : Answer) → WritesNone act answer → LogIsSent log
    → LogIsSent (called log act answer)
unfolding lists_accepted encoder_after_call
silent_call log _ _ (refused act refusal) is =
    let same = refused_lists act refusal log.calls log.encoder in
    quiet_called log act (Refused refusal) same.0 same.1 is
silent_call log _ _ (no_memory act) is =
    let same = failed_lists act log.calls log.encoder in
    quiet_called log act OutOfMemory same.0 same.1 is
silent_call log _ _ (fails_instead id code) is = quiet_called log (Refuse id code) Done refl refl is
silent_call log _ _ (ends_connection code) is = quiet_called log (Fail code) Done refl refl is
silent_call log _ _ (puts_out count given) is =
    quiet_called log (PutOut count) (Count given) refl refl is

-- A new log.
begins_sent : (role : Role) (values : Values) → LogIsSent (opened role values)
unfolding opened with_sent settings_received lists_accepted changes_encoder
begins_sent role values =
    sent_other sent_nothing (alone (Settings false (opening_pairs role values))) refl

-- Each change of a log keeps it.
keeps_sent : (role : Role) (values : Values) → IsLogInvariant role values LogIsSent
unfolding changes_encoder
keeps_sent role values = record {
  opening = λ in_range. begins_sent role values;
  used = λ log octets unparsed is. is;
  framed = λ log frames is. is;
  begun = λ log begun is. is;
  replied = λ log decoded item verdict replies is.
      replied_keeps log decoded item verdict replies.up
      (subst (λ (v : Verdict). IsApplied v item) replies.is
      (verdict_applied (log_view log) decoded item)) is;
  reported = λ log event events may is. is;
  unreturned = λ log count is. is;
  returned = λ log returns is. wrote_keeps (record log { unreturned = 0 }) _ refl is;
  failed = λ log code last names is. wrote_keeps log _ refl is;
  sent = λ log act accepted is. accepted_keeps log act is;
  called = λ log act answer is_log none is. silent_call log act answer none is;
  given = λ log more is. is;
}

-- Every log.
pub log_sent : (role : Role) (values : Values) (log : Log) → IsLog role values log → LogIsSent log
log_sent role values log is = kept_by_logs role values LogIsSent (keeps_sent role values) log is
