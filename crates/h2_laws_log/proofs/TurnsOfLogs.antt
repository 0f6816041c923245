-- The turns of every log that comes about.
use Rattle.std.proofs.Common.{◌≡◌, ℕ, not, List, [], ◌∷◌, ◌++◌, map, sym, ◌∙◌}
use Rattle.std.proofs.lemmas.List.{append_assoc, append-nil}
use Rattle.h2_laws_log.proofs.Names.{ap, expected_preface, code_number, GoAway, Item, alone, Role}
use Rattle.h2_laws_log.proofs.Names.{encoding_of_item, encoding_of_items, Event, Values, Act}
use Rattle.h2_laws_log.proofs.Names.{Answer, Turn, Happened, is_server, Log, max_payload_sent, read}
use Rattle.h2_laws_log.proofs.Names.{used, with_sent, called, opened, IsLog, rules}
use Rattle.h2_laws_log.specs.Turns.{octets_in, octets_out, events_in, acts_in, answers_in, acts_of}
use Rattle.h2_laws_log.specs.Turns.{answers_of, TurnsRecord}
use Rattle.h2_laws_log.proofs.LogInduction.{IsLogInvariant, kept_by_logs}
use Rattle.h2_laws_log.proofs.PayloadsOfLogs.{written_more}

-- The octets of items after others.
pub written_after : (most : ℕ) (newer older : List Item) → encoding_of_items most (newer ++ older)
    ≡ encoding_of_items most older ++ encoding_of_items most newer
unfolding encoding_of_items
written_after most [] older = sym (append-nil (encoding_of_items most older))
written_after most (item ∷ newer) older =
    ap (λ (octets : List ℕ). octets ++ encoding_of_item most item) (written_after most newer older)
    ∙ append_assoc (encoding_of_items most older) (encoding_of_items most newer)
    (encoding_of_item most item)

-- Events that were reported are turns, and nothing else is reported by them.
pub record HappenedOnly (happened : List Event) (turns : List Turn) : Type 0 where
  pub input : octets_in (map Happened happened ++ turns) ≡ octets_in turns
  pub output : octets_out (map Happened happened ++ turns) ≡ octets_out turns
  pub events : events_in (map Happened happened ++ turns) ≡ happened ++ events_in turns
  pub acts : acts_in (map Happened happened ++ turns) ≡ acts_in turns
  pub answers : answers_in (map Happened happened ++ turns) ≡ answers_in turns

happened_only : (events : List Event) (turns : List Turn) → HappenedOnly events turns
unfolding octets_in octets_out events_in acts_in answers_in
happened_only [] turns = assumption
happened_only (event ∷ events) turns =
    let others = happened_only events turns in
    assumption (ap (λ (reported : List Event). event ∷ reported) others.events, others)

-- Items that are written.
wrote_reported : (log : Log) (items : List Item) → TurnsRecord log
    → TurnsRecord (with_sent log items)
unfolding with_sent octets_in octets_out events_in acts_in answers_in
wrote_reported log [] is = is
wrote_reported log (item ∷ items) is =
    assumption (
      ap (λ (octets : List ℕ). octets ++ encoding_of_items (max_payload_sent log) (item ∷ items))
          is.output,
      written_more (expected_preface (not (is_server log.role))) (max_payload_sent log)
          (item ∷ items) log.sent log.payloads log.written is.items,
      is,
    )

-- Events that are reported.
reports_reported : (log : Log) (events : List Event) → TurnsRecord log
    → TurnsRecord (record log {
      reported = events ++ log.reported;
      turns = map Happened events ++ log.turns;
    })
reports_reported log events is =
    let only = happened_only events log.turns in
    record {
      input = only.input ∙ is.input;
      output = only.output ∙ is.output;
      events = only.events ∙ ap (λ (reported : List Event). events ++ reported) is.events;
      acts = only.acts ∙ is.acts;
      answers = only.answers ∙ is.answers;
      items = is.items;
    }

-- Octets that are used.
used_reported : (log : Log) (octets unparsed : List ℕ) → TurnsRecord log
    → TurnsRecord (used log octets unparsed)
unfolding used octets_in octets_out events_in acts_in answers_in
used_reported log octets unparsed is =
    assumption (ap (λ (stream : List ℕ). stream ++ octets) is.input, is)

-- A call, and its answer.
called_reported : (log : Log) (act : Act) (answer : Answer) → TurnsRecord log
    → TurnsRecord (called log act answer)
unfolding octets_in octets_out events_in acts_in answers_in acts_of answers_of
called_reported log act answer is = search rules

-- The turns of a new end.
begins_reported : (role : Role) (values : Values) → TurnsRecord (opened role values)
unfolding opened with_sent octets_in octets_out events_in acts_in answers_in acts_of answers_of
    encoding_of_items encoding_of_item
begins_reported role values = assumption

-- Each change of a log keeps what the turns tell.
turns_are_kept : (role : Role) (values : Values) → IsLogInvariant role values TurnsRecord
unfolding used
turns_are_kept role values = record {
  opening = λ in_range. begins_reported role values;
  used = used_reported;
  framed = λ log frames is. assumption is;
  begun = λ log begun is. assumption is;
  replied = λ log decoded item verdict replies is.
      wrote_reported (read log decoded item) _ (assumption is);
  reported = λ log event events may. reports_reported log (event ∷ events);
  unreturned = λ log count is. assumption is;
  returned = λ log returns is. wrote_reported (record log { unreturned = 0 }) _ (assumption is);
  failed = λ log code last names is.
      assumption (wrote_reported log (alone (GoAway last (code_number code) []) ∷ []) is);
  sent = λ log act accepted is. wrote_reported _ _ (called_reported log act _ is);
  called = λ log act answer is_log none. called_reported log act answer;
  given = λ log more is. assumption is;
}

-- The turns of every log.
pub turns_report : (role : Role) (values : Values) (log : Log) → IsLog role values log
    → TurnsRecord log
turns_report role values = kept_by_logs role values TurnsRecord (turns_are_kept role values)
