-- Each SETTINGS and each PING that was read is replied to once, and nothing else is.
use Rattle.h2_laws_end.proofs.Names
use Names.{◌≡◌, ChangeSettings, ConnectionFault, verdict_of_fault, IsLogInvariant, verdict_by_rules}
use Names.{Widen}
use Names.{ℕ, [], ◌∷◌, refl, sym, ap, ◌∙◌, Code, Ping, Item, Role, Act, Open, Done, Log, View, read}
use Names.{Bool, Settings, SendData, SendPing, Reported, ended_in, answer_of, replies_to, with_sent}
use Names.{true, false, List, ◌++◌, Some, None, subst, alone, Number, Count, called, IsLog, opened}
use Names.{if◌then◌else◌, append_assoc, WindowUpdate, kept_by_logs, AllByRecursion, replies_among}
use Names.{Option, Values, Answer, Release, Refuse, Verdict, NoEvent, log_view, Decoded, items_of}
use Names.{SendFields, ResetStream, SendGoAway, StreamFault, verdict_of, data_items, replies_owed}
use Rattle.h2_laws_end.proofs.Unread.{wrote_reads}
use Rattle.h2_laws_end.proofs.ReadVerdicts.{by_limits}
use Rattle.h2_laws_end.proofs.DataItems.{body_all}

-- The replies that a log has written are those that are due.
abbrev HasReplies : Log → Type 0
HasReplies log = replies_among log.sent ≡ replies_owed log.received

-- The reply that an item is, or none, stands before those among the others.
replies_first : (item : Item) (items : List Item) → replies_among (item ∷ items)
    ≡ replies_among (item ∷ []) ++ replies_among items
unfolding replies_among
replies_first (alone (Settings true pairs)) items = refl
replies_first (alone (Ping true octets)) items = refl
replies_first item items = refl

-- The replies among items after others.
replies_append : (newer older : List Item) → replies_among (newer ++ older)
    ≡ replies_among newer ++ replies_among older
unfolding replies_among
replies_append [] older = refl
replies_append (item ∷ newer) older =
    replies_first item (newer ++ older)
    ∙ ap (λ (items : List Item). replies_among (item ∷ []) ++ items) (replies_append newer older)
    ∙ sym (append_assoc (replies_among (item ∷ [])) (replies_among newer) (replies_among older))
    ∙ ap (λ (items : List Item). items ++ replies_among older) (sym (replies_first item newer))

-- Items none of which is a reply.
no_replies : (items : List Item)
    → AllByRecursion (λ item. replies_among (item ∷ []) ≡ []) items → replies_among items ≡ []
unfolding replies_among
no_replies [] all = refl
no_replies (item ∷ items) all = replies_first item items ∙ rw (all.0) (no_replies items all.1)

-- What is written of a body is no reply.
body_replies : (most id : ℕ) (octets : List ℕ) (end : Bool) (count : ℕ)
    → replies_among (data_items most id octets end count) ≡ []
unfolding replies_among
body_replies most id octets end count =
    no_replies _ (body_all (λ item. replies_among (item ∷ []) ≡ []) most id (λ one short. refl)
    octets end count (λ last short. refl))

-- What credit is returned by is no reply, by whether the stream has ended.
credit_replies : (b : Bool) (id count : ℕ) → replies_among (alone (WindowUpdate 0 count) ∷
    (if b then [] else alone (WindowUpdate id count) ∷ [])) ≡ []
unfolding replies_among
credit_replies true id count = refl
credit_replies false id count = refl

-- What a call writes is no reply.
call_replies : (view : View) (act : Act) (answer : Answer)
    → replies_among (items_of view act answer) ≡ []
unfolding items_of replies_among
call_replies view (Open fields end) (Number id) = refl
call_replies view (SendFields id fields end) Done = refl
call_replies view (SendData id octets end) (Count count) = body_replies _ _ _ _ count
call_replies view (Release id count) Done = credit_replies (ended_in (view.stream id)) id count
call_replies view (ResetStream id code) Done = refl
call_replies view (Refuse id code) Done = refl
call_replies view (SendPing octets) Done = refl
call_replies view SendGoAway Done = refl
call_replies view (ChangeSettings values) Done = refl
call_replies view (Widen count) Done = refl
call_replies view act answer = refl

-- What is due for an item stands before what is due for the others.
due_first : (item : Item) (items : List Item) → replies_owed (item ∷ items)
    ≡ replies_owed (item ∷ []) ++ replies_owed items
unfolding replies_owed
due_first (alone (Settings false pairs)) items = refl
due_first (alone (Ping false octets)) items = refl
due_first item items = refl

-- With this verdict an item is replied to as is due, where the connection doesn't fail.
abbrev IsRepliedTo : Verdict → Item → Type 0
IsRepliedTo (ConnectionFault code) item = Unit {0}
IsRepliedTo (StreamFault code) item =
    replies_among (replies_to (StreamFault code) item) ≡ replies_owed (item ∷ [])
IsRepliedTo NoEvent item = replies_among (replies_to NoEvent item) ≡ replies_owed (item ∷ [])
IsRepliedTo Reported item = replies_among (replies_to Reported item) ≡ replies_owed (item ∷ [])

-- An item to which no reply is due, whatever the verdict.
none_due : (verdict : Verdict) (item : Item) → replies_owed (item ∷ []) ≡ []
    → replies_to NoEvent item ≡ [] → IsRepliedTo verdict item
unfolding replies_to replies_among
none_due (ConnectionFault code) item due none = tt
none_due (StreamFault code) item due none = sym due
none_due NoEvent item due none = ap replies_among none ∙ sym due
none_due Reported item due none = sym due

-- SETTINGS, by their fault.
settings_replied : (fault : Option Code) (pairs : List (ℕ × ℕ))
    → IsRepliedTo (verdict_of_fault fault) (alone (Settings false pairs))
unfolding replies_to replies_among replies_owed
settings_replied (Some code) pairs = tt
settings_replied None pairs = refl

-- By the rules an item is replied to as is due.
replied_by_rules : (view : View) (decoded : Option Decoded) (item : Item)
    → IsRepliedTo (verdict_by_rules view decoded item) item
unfolding verdict_by_rules replies_to replies_among replies_owed
replied_by_rules view decoded (alone (Settings false pairs)) = settings_replied _ _
replied_by_rules view decoded (alone (Ping false octets)) = refl
replied_by_rules view decoded item = none_due (verdict_by_rules view decoded item) item refl refl

-- And so by the limits.
replied : (view : View) (decoded : Option Decoded) (item : Item)
    → IsRepliedTo (verdict_of view decoded item) item
replied view decoded item =
    by_limits (λ verdict. IsRepliedTo verdict item) _ _ item tt (replied_by_rules view decoded item)

-- So it is where it is no fault of the connection.
due_of : (verdict : Verdict) (item : Item)
    → ((code : Code) → verdict ≡ ConnectionFault code → ⊥) → IsRepliedTo verdict item
    → replies_among (replies_to verdict item) ≡ replies_owed (item ∷ [])
due_of (ConnectionFault code) item up due = absurd (up code refl)
due_of other item up due = due

-- Items are written, with these replies among them.
replies_written : (log : Log) (items replies : List Item) → replies_among items ≡ replies
    → replies_among (with_sent log items).sent ≡ replies ++ replies_among log.sent
replies_written log items replies among =
    ap replies_among (wrote_reads log items).3 ∙ replies_append items log.sent
    ∙ ap (λ (line : List Item). line ++ replies_among log.sent) among

-- Each change of a log keeps it.
replies_kept : (role : Role) (values : Values) → IsLogInvariant role values HasReplies
unfolding opened with_sent replies_among replies_owed
replies_kept role values = record {
  opening = λ in_range. refl;
  used = λ log octets unparsed is. is;
  framed = λ log frames is. is;
  begun = λ log begun is. is;
  replied = λ log decoded item verdict replies is.
      let base = read log decoded item in
      let due = due_of verdict item replies.up (subst (λ (v : Verdict). IsRepliedTo v item)
      replies.is (replied (log_view log) decoded item)) in
      replies_written base (replies_to verdict item) _ due
      ∙ rw is (sym (due_first item log.received))
      ∙ ap replies_owed (sym (wrote_reads base (replies_to verdict item)).2);
  reported = λ log event events may is. is;
  unreturned = λ log count is. is;
  returned = λ log returns is. is;
  failed = λ log code last names is. is;
  sent = λ log act accepted is.
      let answer = answer_of (log_view log) act in
      let items = items_of (log_view log) act answer in
      replies_written (called log act answer) items []
      (call_replies (log_view log) act answer) ∙ is
      ∙ ap replies_owed (sym (wrote_reads (called log act answer) items).2);
  called = λ log act answer is_log none is. is;
  given = λ log more is. is;
}

-- Every log.
pub replies_of_logs : (role : Role) (values : Values) (log : Log) → IsLog role values log
    → replies_among log.sent ≡ replies_owed log.received
replies_of_logs role values = kept_by_logs role values HasReplies (replies_kept role values)
