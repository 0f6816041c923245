-- What an end has handed out is a prefix of what the other was given to say.
use Rattle.h2_joined.proofs.Names
use Names.{inl, inr, true, [], sym, ◌∙◌, append-nil, subst, list_any, both_ways, cases_Bool, Item}
use Names.{Role, Values, IsLog, Log, openings, stream_of_log, is_number_used, Token, tokens_sent}
use Names.{tokens_heard, IsPrefixOfTokens, begins_message, EndLog, tokens_handed, tokens_said}
use Names.{SendsInOrder, JointEnd, Made, half_of, is_used, ◌≡◌, ◌≢◌, ℕ, false, List, Side}
use Rattle.std.proofs.lemmas.Bool.{and_from}
use Rattle.h2_laws_log.proofs.InvariantLogs.{written_is_allowed}
use Rattle.h2_laws_log.proofs.ReaderStates.{opens_here}
use Rattle.h2_laws_end.specs.Sendings.{lists_accepted}
use Rattle.h2_laws_pair.proofs.HeardGoAways.{speaks}
use Rattle.h2_laws_pair.proofs.HeardMessages.{IsOpened, spoken_opened, silent_tokens}
use Rattle.h2_laws_pair.proofs.HeardSent.{tokens_carried}
use Rattle.h2_ends.specs.Ends.{tokens_out}
use Rattle.h2_ends.specs.Represents.{HandsInOrder}
use Rattle.h2_joined.proofs.JointHolds.{HoldsAt, AllHadMemory}
use Rattle.h2_joined.proofs.HoldsSides.{hears_at}

-- What was handed out of a stream is a prefix of what its connection has reported.
handed_begins : (end : EndLog) (i : ℕ) → HandsInOrder end i
    → IsPrefixOfTokens (tokens_handed end i) (tokens_heard i end.log.reported)
handed_begins end i (inl same) = ([], same ∙ sym (append-nil (tokens_handed end i)))
handed_begins end i (inr cut) = cut.prefix

-- A prefix of a prefix is one.
prefix_of_prefix : (one other whole : List Token) → IsPrefixOfTokens one other
    → IsPrefixOfTokens other whole → IsPrefixOfTokens one whole
prefix_of_prefix one other whole begins (rest, is) =
    begins_message one other rest whole begins is

-- What one end has handed out is a prefix of what the other was given, where that was heard.
handed_said : (one other : EndLog) (i : ℕ) → HandsInOrder one i → SendsInOrder other i
    → IsPrefixOfTokens (tokens_heard i one.log.reported) (tokens_out other i)
    → IsPrefixOfTokens (tokens_handed one i) (tokens_said other i)
handed_said one other i hands sends heard =
    begins_message (tokens_handed one i) (tokens_out other i) sends.waiting (tokens_said other i)
    (prefix_of_prefix (tokens_handed one i) (tokens_heard i one.log.reported)
    (tokens_out other i) (handed_begins one i hands) heard) sends.prefix

-- So it is at either end.
pub hands_at : (side : Side) (client_values server_values : Values) (made : List Made)
    (one other : JointEnd) (i : ℕ) → HoldsAt side client_values server_values made one other
    → IsPrefixOfTokens (tokens_handed one.happened i) (tokens_said other.happened i)
hands_at side client_values server_values made one other i holds =
    handed_said one.happened other.happened i (holds.order.hands i) (holds.other_order.sends i)
    (hears_at side client_values server_values (half_of one holds.stays.lost)
    (half_of other holds.stays.other_lost) (AllHadMemory made) i holds.stays.pair)

-- A stream that was opened is used.
opened_used : (role : Role) (i : ℕ) (received sent : List Item) → IsOpened role i received sent
    → is_used role i received sent ≡ true
unfolding is_used
opened_used role i received sent is =
    and_from _ _ is.odd (opens_here i (openings role received sent) is.odd is.opened)

-- On one that isn't used an end has sent nothing,
pub unused_unsent : (role : Role) (values : Values) (log : Log) (i : ℕ) → IsLog role values log
    → is_number_used log i ≡ false → tokens_sent i log.calls ≡ []
unused_unsent role values log i is unused = elim (cases_Bool (list_any (speaks i) log.sent)) [
  | inl spoken ↦ absurd (both_ways _ unused
      (subst (λ (own : Role). is_used own i log.received log.sent ≡ true)
      (sym (stream_of_log role values log is).role)
      (opened_used role i log.received log.sent (spoken_opened role i log.received log.sent
      (written_is_allowed role values log is) spoken))))
  | inr silent ↦ tokens_carried i role values log is
      ∙ silent_tokens i log.sent (lists_accepted log.calls) silent
]

-- and so one on which it has sent something is.
pub sent_used : (role : Role) (values : Values) (log : Log) (i : ℕ) → IsLog role values log
    → tokens_sent i log.calls ≢ [] → is_number_used log i ≡ true
sent_used role values log i is some = elim (cases_Bool (is_number_used log i)) [
  | inl was ↦ was
  | inr unused ↦ absurd (some (unused_unsent role values log i is unused))
]
