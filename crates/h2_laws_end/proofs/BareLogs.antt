-- Logs that are the same but for their turns and for the limits of payloads: what they read and are
-- asked makes of them logs that are the same but for these.
use Rattle.h2_laws_end.proofs.Names
use Names.{◌≡◌, ℕ, ◌+◌, max, List, [], ◌∷◌, ◌++◌, Option, Some, None, refl, sym, ap, ap₂, ◌∙◌, Code}
use Names.{InternalError, Frame, Item, stream_of_item, Event, UnprocessedEvent, Act, Answer, Refuse}
use Names.{PutOut, Count, OutOfMemory, Refused, Log, View, log_view, Verdict, ConnectionFault}
use Names.{StreamFault, NoEvent, Reported, Decoded, FrameStep, fails_with, begins_block, completes}
use Names.{frame_step, replies_to, verdict_of, events_of, read, with_failure, took_none, items_of}
use Names.{refuse_fault, called, last_processed, waiting, output, unreleased, next_number}
use Names.{active_count, max_streams, next_unprocessed, overflows, opened_by, with_sent}
use Names.{with_reported, with_unreturned, with_verdict, with_item, with_step, with_frame}
use Names.{with_items, refused_with, before_put_out, with_call, Fail}
use Rattle.h2_spec_log.specs.ItemEffects.{discarded_flow}
use Rattle.h2_spec_log.specs.LogSteps.{owed_at_close}
use Rattle.h2_spec_log.specs.CallRules.{stream_of_act, returns_before_put_out, returns_credit}
use Rattle.h2_laws_log.proofs.CreditCases.{both_by}

-- a log without its turns, whose payloads may always have 16,384 octets
abbrev pub bare : Log → Log
bare log = record log { limits = λ place. 16384; turns = [] }

-- The logs are the same but for these.
abbrev pub AreSameBare : Log → Log → Type 0
AreSameBare log other = bare log ≡ bare other

-- What doesn't look at them is the same.
part_same : {A : Type 0} (part : Log → A) → ((log : Log) → part (bare log) ≡ part log)
    → (log other : Log) → AreSameBare log other → part log ≡ part other
part_same part blind log other same =
    sym (blind log) ∙ ap (λ (one : Log). part one) same ∙ blind other

-- A change that doesn't look at them keeps this.
bare_by : (change : Log → Log) → ((log : Log) → bare (change (bare log)) ≡ bare (change log))
    → (log other : Log) → AreSameBare log other → AreSameBare (change log) (change other)
bare_by change = part_same (λ log. bare (change log))

-- The view, the last stream that was processed and the next unprocessed one.
pub view_same : (log other : Log) → AreSameBare log other → log_view log ≡ log_view other
unfolding overflows next_number active_count last_processed max_streams waiting output unreleased
view_same = part_same (λ log. log_view log) (λ log. refl)

last_same : (log other : Log) → AreSameBare log other → last_processed log ≡ last_processed other
unfolding last_processed
last_same = part_same (λ log. last_processed log) (λ log. refl)

next_same : (log other : Log) → AreSameBare log other
    → next_unprocessed log ≡ next_unprocessed other
unfolding next_unprocessed
next_same = part_same (λ log. next_unprocessed log) (λ log. refl)

-- What is owed at a close.
owed_same : (before after other later : Log) (i : ℕ) → AreSameBare before other
    → AreSameBare after later → owed_at_close before after i ≡ owed_at_close other later i
unfolding owed_at_close unreleased
owed_same before after other later i same again =
    part_same (λ one. owed_at_close one after i) (λ one. refl) before other same
    ∙ part_same (λ two. owed_at_close other two i) (λ two. refl) after later again

-- What is written.
sent_bare : (items : List Item) (log : Log) → bare (with_sent (bare log) items)
    ≡ bare (with_sent log items)
unfolding with_sent
sent_bare [] log = refl
sent_bare (item ∷ items) log = refl

sent_same : (log other : Log) (items others : List Item) → items ≡ others → AreSameBare log other
    → AreSameBare (with_sent log items) (with_sent other others)
sent_same log other items others equal same =
    bare_by (λ one. with_sent one items) (sent_bare items) log other same
    ∙ ap (λ (line : List Item). bare (with_sent other line)) equal

-- What is reported.
reported_bare : (events : List Event) (log : Log) → bare (with_reported (bare log) events)
    ≡ bare (with_reported log events)
unfolding with_reported
reported_bare [] log = refl
reported_bare (event ∷ events) log = refl

reported_same : (log other : Log) (events others : List Event) → events ≡ others
    → AreSameBare log other → AreSameBare (with_reported log events) (with_reported other others)
reported_same log other events others equal same =
    bare_by (λ one. with_reported one events) (reported_bare events) log other same
    ∙ ap (λ (line : List Event). bare (with_reported other line)) equal

-- What is due: the logs return all of it, or neither does.
due_bare : (more : ℕ) (log : Log) → bare (with_unreturned more (bare log))
    ≡ bare (with_unreturned more log)
unfolding with_unreturned with_sent waiting output
due_bare more log =
    both_by (λ (one other : Log). bare one ≡ bare other) (returns_credit more (waiting log)) refl
    refl

due_same : (log other : Log) (more most : ℕ) → more ≡ most → AreSameBare log other
    → AreSameBare (with_unreturned more log) (with_unreturned most other)
due_same log other more most equal same =
    bare_by (λ one. with_unreturned more one) (due_bare more) log other same
    ∙ ap (λ (n : ℕ). bare (with_unreturned n other)) equal

-- A failure.
failure_bare : (code : Code) (last : ℕ) (log : Log) → bare (with_failure code last (bare log))
    ≡ bare (with_failure code last log)
unfolding with_sent
failure_bare code last log = refl

pub failure_same : (log other : Log) (code : Code) (last final : ℕ) → last ≡ final
    → AreSameBare log other
    → AreSameBare (with_failure code last log) (with_failure code final other)
failure_same log other code last final equal same =
    bare_by (λ one. with_failure code last one) (failure_bare code last) log other same
    ∙ ap (λ (n : ℕ). bare (with_failure code n other)) equal

-- A failure with the last stream that was processed.
last_failure_same : (log other : Log) (code : Code) → AreSameBare log other
    → AreSameBare (with_failure code (last_processed log) log)
    (with_failure code (last_processed other) other)
last_failure_same log other code same = failure_same log other code _ _ (last_same _ _ same) same

-- An item that was read.
read_same : (log other : Log) (decoded : Option Decoded) (item : Item) → AreSameBare log other
    → AreSameBare (read log decoded item) (read other decoded item)
read_same log other decoded item same =
    bare_by (λ one. read one decoded item) (λ one. refl) log other same

-- After an item that was replied to and reported.
abbrev replied : Log → Option Decoded → Item → Verdict → Log
replied log decoded item verdict = with_sent (read log decoded item) (replies_to verdict item)

abbrev reported_item : Log → Option Decoded → Item → Verdict → Log
reported_item log decoded item verdict =
    let events = events_of (log_view log) decoded verdict item in
    let owing = owed_at_close log (with_reported (replied log decoded item verdict) events)
    (stream_of_item item) in
    with_reported (with_unreturned (discarded_flow verdict item + owing)
    (replied log decoded item verdict)) events

module _ (log other : Log) (decoded : Option Decoded) (item : Item) where
  replied_same : (verdict : Verdict) → AreSameBare log other
      → AreSameBare (reported_item log decoded item verdict)
      (reported_item other decoded item verdict)
  replied_same verdict same =
      let events = ap (λ (view : View). events_of view decoded verdict item)
      (view_same log other same) in
      let sent = sent_same _ _ (replies_to verdict item) _ refl
      (read_same log other decoded item same) in
      let owing = owed_same log _ other _ (stream_of_item item) same
      (reported_same _ _ _ _ events sent) in
      reported_same _ _ _ _ events
      (due_same _ _ _ _ (ap (λ (n : ℕ). discarded_flow verdict item + n) owing) sent)

  -- After an item, by its verdict.
  verdict_same : (verdict : Verdict) → AreSameBare log other
      → AreSameBare (with_verdict log decoded item verdict) (with_verdict other decoded item
      verdict)
  unfolding with_verdict
  verdict_same (ConnectionFault code) same =
      failure_same log other code _ _ (ap₂ max (last_same log other same)
      (ap (λ (view : View). opened_by view decoded item) (view_same log other same))) same
  verdict_same (StreamFault code) same = replied_same (StreamFault code) same
  verdict_same NoEvent same = replied_same NoEvent same
  verdict_same Reported same = replied_same Reported same

  -- After an item.
  item_same : AreSameBare log other
      → AreSameBare (with_item log decoded item) (with_item other decoded item)
  item_same same = verdict_same _ same
      ∙ ap (λ (verdict : Verdict). bare (with_verdict other decoded item verdict))
      (ap (λ (view : View). verdict_of view decoded item) (view_same log other same))

-- After what a frame makes of the block that has begun.
step_same : (log other : Log) (decoded : Option Decoded) (step : FrameStep) → AreSameBare log other
    → AreSameBare (with_step log decoded step) (with_step other decoded step)
unfolding with_step
step_same log other decoded (fails_with code) same = last_failure_same log other code same
step_same log other decoded (begins_block begun) same =
    bare_by (λ one. record one { begun = Some begun }) (λ one. refl) log other same
step_same log other decoded (completes item) same =
    item_same (record log { begun = None }) (record other { begun = None }) decoded item
    (bare_by (λ one. record one { begun = None }) (λ one. refl) log other same)

module _ (log other : Log) where
  -- After a frame.
  pub frame_same : (decoded : Option Decoded) (frame : Frame) → AreSameBare log other
      → AreSameBare (with_frame log decoded frame) (with_frame other decoded frame)
  unfolding with_frame
  frame_same decoded frame same = step_same _ _ decoded (frame_step (log_view log) frame)
      (bare_by (λ one. record one { frames = one.frames ++ frame ∷ [] }) (λ one. refl) log other
      same) ∙ ap (λ (step : FrameStep). bare (with_step (record other {
        frames = other.frames ++ frame ∷ [];
      }) decoded step)) (ap (λ (view : View). frame_step view frame) (view_same log other same))

  -- After a call.
  called_same : (act : Act) (answer : Answer) → AreSameBare log other
      → AreSameBare (called log act answer) (called other act answer)
  called_same act answer same = bare_by (λ one. called one act answer) (λ one. refl) log other same

  -- After what a call writes.
  items_same : (act : Act) (answer : Answer) → AreSameBare log other
      → AreSameBare (with_items log act answer) (with_items other act answer)
  unfolding with_items
  items_same act answer same =
      let items : items_of (log_view log) act answer ≡ items_of (log_view other) act answer =
      ap (λ (view : View). items_of view act answer) (view_same log other same) in
      let sent = sent_same _ _ _ _ items (called_same act answer same) in
      due_same _ _ _ _ (owed_same log _ other _ (stream_of_act act) same sent) sent

  -- After a stream was refused.
  refused_same : (act : Act) (answer : Answer) (fault : Option Code) → AreSameBare log other
      → AreSameBare (refused_with log act answer fault) (refused_with other act answer fault)
  unfolding refused_with
  refused_same act answer (Some code) same =
      failure_same _ _ code _ _ (last_same log other same) (called_same act answer same)
  refused_same act answer None same = items_same act answer same

-- What is returned before output is put out.
ready_bare : (log : Log) → bare (before_put_out (bare log)) ≡ bare (before_put_out log)
unfolding before_put_out with_sent
ready_bare log =
    let test = ap (λ (view : View). returns_before_put_out view) (view_same (bare log) log refl) in
    rw test (both_by (λ (one other : Log). bare one ≡ bare other)
    (returns_before_put_out (log_view log)) refl refl)

module _ (log other : Log) where
  -- After output was put out.
  put_out_same : (act : Act) (answer : Answer) (given : ℕ) → AreSameBare log other
      → AreSameBare (record (before_put_out (called log act answer)) { given = log.given + given })
      (record (before_put_out (called other act answer)) { given = other.given + given })
  put_out_same act answer given same =
      let ready = bare_by (λ one. before_put_out one) ready_bare _ _
      (called_same log other act answer same) in
      let count : log.given + given ≡ other.given + given =
      ap (λ (one : Log). one.given + given) same in
      bare_by (λ one. record one { given = log.given + given }) (λ one. refl)
      (before_put_out (called log act answer)) (before_put_out (called other act answer)) ready
      ∙ ap (λ (n : ℕ). bare (record (before_put_out (called other act answer)) { given = n })) count

  -- After a call with its answer.
  pub call_same : (act : Act) (answer : Answer) → AreSameBare log other
      → AreSameBare (with_call log act answer) (with_call other act answer)
  unfolding with_call
  call_same act (Refused refusal) same = called_same log other act _ same
  call_same act OutOfMemory same = failure_same _ _ InternalError _ _ (last_same log other same)
      (called_same log other act OutOfMemory same)
  call_same (Refuse id code) answer same = refused_same log other (Refuse id code) answer _ same
      ∙ ap (λ (fault : Option Code). bare (refused_with other (Refuse id code) answer fault))
      (ap (λ (view : View). refuse_fault view code) (view_same log other same))
  call_same (Fail code) answer same =
      failure_same _ _ code _ _ (last_same log other same)
      (called_same log other (Fail code) answer same)
  call_same (PutOut count) (Count given) same = put_out_same (PutOut count) (Count given) given same
  call_same act answer same = items_same log other act answer same

  -- After a stream that was reported as unprocessed.
  pub none_same : AreSameBare log other → AreSameBare (took_none log) (took_none other)
  none_same same =
      let next = next_same log other same in
      let events = ap (λ (i : ℕ). UnprocessedEvent i ∷ []) next in
      let owed = owed_same log _ other _ (next_unprocessed log) same
      (reported_same log other _ _ events same)
      ∙ ap (λ (i : ℕ). owed_at_close other (with_reported other (UnprocessedEvent
      (next_unprocessed other) ∷ [])) i) next in
      reported_same _ _ _ _ events (due_same log other _ _ owed same)
