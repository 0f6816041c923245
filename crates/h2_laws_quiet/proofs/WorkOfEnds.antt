-- A pump, a release and output that is put out leave no more work at an end, whatever the peer.
use Rattle.std.proofs.Common.{◌≡◌, ◌≢◌, inl, inr, ℕ, ◌+◌, ◌≤◌, Bool, true, List, []}
use Rattle.std.proofs.Common.{◌∷◌, ◌++◌, length, take, Option, None, Some, Result, Ok, Err, refl}
use Rattle.std.proofs.Common.{sym}
use Rattle.std.proofs.Common.{ap, ◌∙◌, arith, append_assoc, length-append, length-take, subst}
use Rattle.std.proofs.Common.{map as each, ◌&&◌, ◌==◌}
use Rattle.std.proofs.lemmas.Bool.{both_ways, cases_Bool}
use Rattle.std.proofs.lemmas.List.{length-map}
use Rattle.std.specs.List.{AllByRecursion}
use Rattle.hpack.specs.declared.types.field.Field.{Field}
use Rattle.h2_block.specs.Grouping.{Item}
use Rattle.h2_spec_log.specs.declared.refusal.Refusal.{Refusal}
use Rattle.h2_spec_log.specs.declared.refusal.Refusal.TheVariants.{Closed, OutputFull, Memory}
use Rattle.h2_spec_log.specs.declared.role.Role.{Role}
use Rattle.h2_spec_log.specs.Acts.{Values, Act, Answer, SendFields, SendData, Release, PutOut}
use Rattle.h2_spec_log.specs.Acts.{Number, Count, Done, Refused, IsTypedAct}
use Rattle.h2_spec_log.specs.Events.{Event}
use Rattle.h2_spec_log.specs.Histories.{IsLog, called_one}
use Rattle.h2_spec_log.specs.Items.{increment_on}
use Rattle.h2_spec_log.specs.Log.{Log, active, owed}
use Rattle.h2_spec_log.specs.LogCalls.{MayAnswer, with_call}
use Rattle.h2_laws_log.proofs.InvariantLogs.{written_is_allowed}
use Rattle.h2_laws_log.proofs.WindowsOfTwoEnds.{total-append}
use Rattle.h2_laws_end.proofs.ActivityCalls.{inactive_by_call}
use Rattle.h2_laws_pair.specs.Tokens.{OctetToken, EndToken, trailers_tokens}
unfoldable use Rattle.h2_laws_pair.specs.Tokens.{tokens_of_call, end_tokens}
use Rattle.h2_ends.specs.declared.refusal.EndRefusal.{EndRefusal}
use Rattle.h2_ends.specs.declared.refusal.EndRefusal.TheVariants as refusals
use Rattle.h2_ends.specs.Ends.{EndLog, tokens_waiting}
use Rattle.h2_ends.specs.EndCalls.{BodyWaits, TrailersWait, Pumps, pumps_no_more, pumps_data}
use Rattle.h2_ends.specs.EndCalls.{pumps_trailers, data_refused, trailers_refused, Releases}
use Rattle.h2_ends.specs.EndCalls.{releases_no_more, releases_one, releases_refused}
unfoldable use Rattle.h2_ends.specs.EndCalls.{MayPump, MayReleaseAll}
use Rattle.h2_ends.specs.Pumping.{end_after_call}
use Rattle.h2_ends.proofs.EndTokens.{no_part_tokens, refused_tokens}
use Rattle.h2_ends.proofs.PumpStuck.{waiting_same}
use Rattle.h2_ends.proofs.PumpTokens.{data_tokens, fields_tokens}
use Rattle.h2_ends.proofs.PumpWindows.{data_active, data_within}
use Rattle.h2_laws_quiet.specs.Work.{one_to_answer, work_of_item, tokens_on, tokens_left}
use Rattle.h2_laws_quiet.proofs.PumpGoes.{none_said}
use Rattle.h2_laws_quiet.proofs.WorkOfItems.{IsSomeUpdate}
use Rattle.h2_laws_quiet.proofs.WorkOfLogs.{Drives, drives_none, some_updates, data_drives}
use Rattle.h2_laws_quiet.proofs.WorkOfLogs.{fields_drives, release_drives, put_out_drives}
use Rattle.h2_laws_quiet.proofs.WorkOfLogs.{refused_drives}
use Rattle.h2_laws_quiet.proofs.WorkOfTokens.{none_more_left, gone_left, on_after, gone_after}

-- An end goes on in a step of driving, and as many tokens less wait as have gone, on no stream
-- more than before; where none have gone, the same wait.
pub record EndDrives (before after : EndLog) : Type 0 where
  pub gone : ℕ
  pub drives : Drives before.log after.log gone
  pub tokens : tokens_left after + gone ≤ tokens_left before
  pub each : (i : ℕ) → tokens_on after i ≤ tokens_on before i
  pub same : gone ≡ 0 → (i : ℕ) → tokens_waiting after i ≡ tokens_waiting before i

-- One step after another.
unfoldable pub drives_twice : (one two three : Log) (g h : ℕ) → Drives one two g →
    Drives two three h
    → Drives one three (g + h)
drives_twice one two three g h a b = record {
  written = b.written ++ a.written;
  read = b.read ++ a.read;
  events = b.events ++ a.events;
  reported = b.reported ∙ ap (λ (events : List Event). b.events ++ events) a.reported
      ∙ sym (append_assoc b.events a.events one.reported);
  as_wide = b.as_wide ∙ a.as_wide;
  margin = b.margin + a.margin;
  sent = b.sent ∙ ap (λ (items : List Item). b.written ++ items) a.sent
      ∙ sym (append_assoc b.written a.written one.sent);
  received = b.received ∙ ap (λ (items : List Item). b.read ++ items) a.received
      ∙ sym (append_assoc b.read a.read one.received);
  cheap = omega (
    arith,
    a.cheap,
    b.cheap,
    total-append work_of_item b.written a.written,
    total-append (increment_on 0) b.written a.written,
    total-append one_to_answer b.read a.read,
  );
}

unfoldable pub ends_twice : (one two three : EndLog) → EndDrives one two → EndDrives two three
    → EndDrives one three
ends_twice one two three a b = record {
  gone = a.gone + b.gone;
  drives = drives_twice one.log two.log three.log a.gone b.gone a.drives b.drives;
  tokens = let before = a.tokens in let after = b.tokens in omega (arith, before, after);
  each = λ i. omega (arith, a.each i, b.each i);
  same = λ none i. b.same (omega (arith, none)) i ∙ a.same (omega (arith, none)) i;
}

-- None at all.
unfoldable pub ends_none : (end : EndLog) → EndDrives end end
ends_none end = record {
  gone = 0;
  drives = drives_none end.log end.log 0 refl refl refl refl;
  tokens = omega arith;
  each = λ i. omega arith;
  same = λ none i. refl;
}

-- The log after a call comes about, so each WINDOW_UPDATE in it is of some octets.
updates_of : (role : Role) (values : Values) (log : Log) → IsLog role values log
    → AllByRecursion IsSomeUpdate log.sent
updates_of role values log is =
    some_updates role log.received log.sent (written_is_allowed role values log is)

-- A stream that is active after a call that opens none was so before.
pub was_active : (log : Log) (act : Act) (answer : Answer) (i : ℕ) → MayAnswer log act answer
    → answer ≢ Number i → active (with_call log act answer) i ≡ true → active log i ≡ true
was_active log act answer i may other now = elim (cases_Bool (active log i)) [
  | inl was ↦ was
  | inr over ↦ absurd (both_ways _ (inactive_by_call log act answer i may over other) now)
]

-- A call that sends nothing that is said drives on where its log does.
quiet_call : (end : EndLog) (act : Act) (answer : Answer) → MayAnswer end.log act answer
    → ((i : ℕ) → answer ≢ Number i) → ((i : ℕ) → tokens_of_call i act answer ≡ [])
    → Drives end.log (with_call end.log act answer) 0
    → EndDrives end (end_after_call end act answer)
quiet_call end act answer may other silent drives = record {
  gone = 0;
  drives = drives;
  tokens =
      let less = none_more_left end (end_after_call end act answer) (λ i.
      on_after end act answer i (was_active end.log act answer i may (other i))) in
      omega (arith, less);
  each = λ i. on_after end act answer i (was_active end.log act answer i may (other i));
  same = λ none i. waiting_same end act answer i (silent i);
}

-- One that sends what waits on a stream does, of which so many tokens go.
saying_call : (end : EndLog) (act : Act) (answer : Answer) (id gone : ℕ)
    → MayAnswer end.log act answer → ((i : ℕ) → answer ≢ Number i)
    → Drives end.log (with_call end.log act answer) gone → active end.log id ≡ true
    → gone ≤ length (tokens_of_call id act answer) → gone ≤ length (tokens_waiting end id)
    → (gone ≡ 0 → (i : ℕ) → tokens_of_call i act answer ≡ [])
    → EndDrives end (end_after_call end act answer)
saying_call end act answer id gone may other drives alive sent waits silent = record {
  gone = gone;
  drives = drives;
  tokens = gone_left end (end_after_call end act answer) id gone alive
      (λ i others. on_after end act answer i (was_active end.log act answer i may (other i)))
      (gone_after end act answer id gone alive sent waits);
  each = λ i. on_after end act answer i (was_active end.log act answer i may (other i));
  same = λ none i. waiting_same end act answer i (silent none i);
}

-- Octets of a body.
pub some_length : (octets : List ℕ) → octets ≢ [] → length octets ≢ 0
some_length [] some none = some refl
some_length (octet ∷ octets) some none = omega (arith, none)

pub octets_fall : (role : Role) (values : Values) (end : EndLog) (id : ℕ) (octets : List ℕ)
    (ends : Bool) (n : ℕ) → IsLog role values end.log → IsTypedAct (SendData id octets ends)
    → length octets ≢ 0 → length octets ≤ length (tokens_waiting end id)
    → MayAnswer end.log (SendData id octets ends) (Count n)
    → EndDrives end (end_after_call end (SendData id octets ends) (Count n))
octets_fall role values end id octets ends n is typed some waits may =
    let act = SendData id octets ends in
    let within = data_within end.log id octets ends n may in
    let first = length-take n octets in
    let said = ap length (data_tokens id octets ends n) in
    let sum = length-append (each OctetToken (take n octets)) (end_tokens (counted n)) in
    let count = length-map (take n octets) OctetToken in
    saying_call end act (Count n) id n may (λ i is_number. cc)
    (data_drives end.log id octets ends n some may
    (updates_of role values _ (called_one is act (Count n) typed may)))
    (data_active end.log id octets ends n may) (omega (arith, within, first, said, sum, count))
    (omega (arith, within, waits))
    (λ none i. subst (λ (m : ℕ). tokens_of_call i act (Count m) ≡ []) (sym none)
    (none_said i id octets ends some))
  where
    counted : ℕ → Bool
    counted m = ends && m == length octets

-- the rest of a body,
pub body_waits : (end : EndLog) (id : ℕ) (octets : List ℕ) (ends : Bool)
    → BodyWaits end id octets ends → length octets ≤ length (tokens_waiting end id)
body_waits end id octets ends waits =
    let waiting = ap length waits.waits in
    let all = length-append (each OctetToken octets)
    (trailers_tokens waits.trailers ++ EndToken ∷ []) in
    let whole = length-map octets OctetToken in
    omega (arith, waiting, all, whole)

data_falls : (role : Role) (values : Values) (end : EndLog) (id : ℕ) (octets : List ℕ)
    (ends : Bool) (n : ℕ) → IsLog role values end.log → IsTypedAct (SendData id octets ends)
    → BodyWaits end id octets ends → MayAnswer end.log (SendData id octets ends) (Count n)
    → EndDrives end (end_after_call end (SendData id octets ends) (Count n))
data_falls role values end id octets ends n is typed waits may =
    octets_fall role values end id octets ends n is typed (some_length octets waits.some)
    (body_waits end id octets ends waits) may

-- Trailers.
pub fields_fall : (role : Role) (values : Values) (end : EndLog) (id : ℕ) (list : List Field)
    → IsLog role values end.log → IsTypedAct (SendFields id list true)
    → active end.log id ≡ true → TrailersWait end id list
    → MayAnswer end.log (SendFields id list true) Done
    → EndDrives end (end_after_call end (SendFields id list true) Done)
fields_fall role values end id list is typed alive wait may =
    let act = SendFields id list true in
    let said = ap length (fields_tokens id list) in
    let waiting = ap length wait in
    saying_call end act Done id 1 may (λ i is_number. cc)
    (fields_drives end.log id list true may
    (updates_of role values _ (called_one is act Done typed may))) alive
    (omega (arith, said)) (omega (arith, waiting)) (λ none i. absurd (omega (arith, none)))

-- A refused call.
pub refused_falls : (end : EndLog) (act : Act) (refusal : Refusal)
    → MayAnswer end.log act (Refused refusal)
    → EndDrives end (end_after_call end act (Refused refusal))
refused_falls end act refusal may =
    quiet_call end act (Refused refusal) may (λ i is_number. cc)
    (λ i. refused_tokens i act refusal) (refused_drives end.log act refusal 0)

-- Credit that is released, and output that is put out.
pub release_falls : (role : Role) (values : Values) (end : EndLog) (id count : ℕ) → count ≢ 0
    → IsLog role values end.log → IsTypedAct (Release id count)
    → MayAnswer end.log (Release id count) Done
    → EndDrives end (end_after_call end (Release id count) Done)
release_falls role values end id count some is typed may =
    quiet_call end (Release id count) Done may (λ i is_number. cc)
    (λ i. no_part_tokens i (Release id count) Done tt)
    (release_drives end.log id count some may
    (updates_of role values _ (called_one is (Release id count) Done typed may)))

pub put_out_falls : (role : Role) (values : Values) (end : EndLog) (count n : ℕ)
    → IsLog role values end.log → IsTypedAct (PutOut count)
    → MayAnswer end.log (PutOut count) (Count n)
    → EndDrives end (end_after_call end (PutOut count) (Count n))
put_out_falls role values end count n is typed may =
    quiet_call end (PutOut count) (Count n) may (λ i is_number. cc)
    (λ i. no_part_tokens i (PutOut count) (Count n) tt)
    (put_out_drives end.log count n may
    (updates_of role values _ (called_one is (PutOut count) (Count n) typed may)))

module _ (role : Role) (values : Values) where
  -- The calls of a pump.
  pumps_fall : (end after : EndLog) (count : ℕ) (refused : Option Refusal)
      → Pumps end count refused after → IsLog role values end.log → EndDrives end after
  pumps_fall end _ _ _ (pumps_no_more _) is = ends_none end
  pumps_fall end _ _ _ (pumps_data _ id sent more octets ends refused after next typed waits may
      pumps) is =
      let act = SendData id octets ends in
      ends_twice end (end_after_call end act (Count sent)) after
      (data_falls role values end id octets ends sent is typed waits may)
      (pumps_fall (end_after_call end act (Count sent)) after more refused pumps
      (called_one is act (Count sent) typed may))
  pumps_fall end _ _ _ (pumps_trailers _ id more list refused after next typed wait may pumps) is =
      let act = SendFields id list true in
      ends_twice end (end_after_call end act Done) after
      (fields_fall role values end id list is typed next.active wait may)
      (pumps_fall (end_after_call end act Done) after more refused pumps
      (called_one is act Done typed may))
  pumps_fall end _ _ _ (data_refused _ id octets ends refusal next typed waits may) is =
      refused_falls end (SendData id octets ends) refusal may
  pumps_fall end _ _ _ (trailers_refused _ id list refusal next typed wait may) is =
      refused_falls end (SendFields id list true) refusal may

  -- Those of a release of all that is owed.
  releases_fall : (end after : EndLog) (refused : Option Refusal) → Releases end refused after
      → IsLog role values end.log → EndDrives end after
  releases_fall end _ _ (releases_no_more _) is = ends_none end
  releases_fall end _ _ (releases_one _ id refused after next typed may releases) is =
      let act = Release id (owed end.log id) in
      ends_twice end (end_after_call end act Done) after
      (release_falls role values end id (owed end.log id) next.some is typed may)
      (releases_fall (end_after_call end act Done) after refused releases
      (called_one is act Done typed may))
  releases_fall end _ _ (releases_refused _ id refusal next typed may) is =
      refused_falls end (Release id (owed end.log id)) refusal may

  -- So do both, whatever they answer.
  pub pump_falls : (end after : EndLog) (result : Result ℕ EndRefusal) → MayPump end result after
      → IsLog role values end.log → EndDrives end after
  unfolding MayPump
  pump_falls end after (Ok count) (up, inl full) is =
      pumps_fall end after count (Some OutputFull) full.0 is
  pump_falls end after (Ok count) (up, inr done) is = pumps_fall end after count None done.0 is
  pump_falls end after (Err (refusals.Conn Closed)) (down, same) is = rw same (ends_none end)
  pump_falls end after (Err (refusals.Conn Memory)) (up, count, pumps) is =
      pumps_fall end after count (Some Memory) pumps is
  pump_falls end after (Err other) may is = absurd may

  pub release_all_falls : (end after : EndLog) (result : Result (Unit {0}) EndRefusal)
      → MayReleaseAll end result after → IsLog role values end.log → EndDrives end after
  unfolding MayReleaseAll
  release_all_falls end after (Ok done) (up, releases, none) is =
      releases_fall end after None releases is
  release_all_falls end after (Err (refusals.Conn Closed)) (down, same) is =
      rw same (ends_none end)
  release_all_falls end after (Err (refusals.Conn OutputFull)) (up, releases, full, some) is =
      releases_fall end after (Some OutputFull) releases is
  release_all_falls end after (Err (refusals.Conn Memory)) (up, releases) is =
      releases_fall end after (Some Memory) releases is
  release_all_falls end after (Err other) may is = absurd may
