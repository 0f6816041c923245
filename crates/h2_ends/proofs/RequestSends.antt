-- What the connection answers to the head of a message, or to trailers that are too large.
use Rattle.h2_ends.proofs.Names
use Names.{◌≡◌, ℕ, ◌<◌, ◌^◌, Bool, true, false, List, Option, Some, None, refl, ap, ◌∙◌, inl, inr}
use Names.{Vec, Global, Field, both_ways, Role, Client, Server, Refusal, Values, Act, Open}
use Names.{SendFields, Done, Refused, is_too_large, Log, log_view, MayAnswer, with_call, Conn}
use Names.{ConnRepresents, answer_by, Message, SentMessage, message_value, is_head_alone}
use Names.{end_with_log, EndLog, sameb, the_type, IsTypedAct, trailer_fields, SendsHead}
use Rattle.h2_ends.specs.EndCalls.{IsUnchanged, IsHeadCall}
use Rattle.hpack.specs.Written.{AreOctets}
use Rattle.std.specs.Prelude.{Result, Ok, Err, option_map}
use Rattle.h2_ends.proofs.RequestRefusals.{fields_too_large, is_refused, trailers_refuse_fields}
use Rattle.h2_ends.proofs.RequestRefusals.{refuses_fitting, refused_so}

-- The trailers of a message.
pub trailers_are : (message : Message) (trailers : Vec Field Global)
    → message.trailers ≡ Some trailers
    → trailers.items ≡ trailer_fields (message_value message).trailers
unfolding trailer_fields
trailers_are message trailers is = rw is refl

-- Trailers that aren't there are small.
none_fit : (trailers : Option (Vec Field Global))
    → ((some : Vec Field Global) → trailers ≡ Some some → ⊥)
    → is_too_large (trailer_fields (option_map
    (λ (fields : Vec Field Global). fields.items) trailers)) ≡ false
unfolding trailer_fields
none_fit None none = refl
none_fit (Some trailers) none = absurd (none trailers refl)

pub no_trailers_fit : (message : Message)
    → ((some : Vec Field Global) → message.trailers ≡ Some some → ⊥)
    → is_too_large (trailer_fields (message_value message).trailers) ≡ false
no_trailers_fit message none = none_fit message.trailers none

-- Two refusals that are one.
pub same_refusal : (one other : Refusal) → Refused other ≡ Refused one → one ≡ other
same_refusal one other same = cc

-- Fields whose names and values are octets are those that types hold.
pub fields_typed : (id : ℕ) (fields : List Field) (ends : Bool) → id < 2 ^ 32 → AreOctets fields
    → IsTypedAct (SendFields id fields ends)
unfolding IsTypedAct
fields_typed id fields ends below octets = (below, octets)

pub open_typed : (fields : List Field) (ends : Bool) → AreOctets fields
    → IsTypedAct (Open fields ends)
unfolding IsTypedAct
open_typed fields ends octets = octets

-- Trailers that are too large are refused in place of the message.
pub sends_trailers : (values : Values) (log : Log) (id : ℕ) (message : SentMessage)
    (result : Result (Unit {0}) Refusal) (conn : Conn)
    → is_too_large (trailer_fields message.trailers) ≡ true
    → IsTypedAct (SendFields id (trailer_fields message.trailers) true)
    → MayAnswer log (SendFields id (trailer_fields message.trailers) true)
    (answer_by (λ done. Done) result)
    → ConnRepresents values conn (with_call log
    (SendFields id (trailer_fields message.trailers) true) (answer_by (λ done. Done) result))
    → SendsHead values log id message result conn
sends_trailers values log id message (Ok done) conn large typed may new =
    let act = SendFields id (trailer_fields message.trailers) true in
    let first = fields_too_large (log_view log) id (trailer_fields message.trailers) true large in
    let wrong = is_refused log act Done first.0 first.1 may in cc
sends_trailers values log id message (Err refusal) conn large typed may new =
    let act = SendFields id (trailer_fields message.trailers) true in
    let first = fields_too_large (log_view log) id (trailer_fields message.trailers) true large in
    let is = is_refused log act (Refused refusal) first.0 first.1 may in
    let same : first.0 ≡ refusal = same_refusal first.0 refusal is in (
      trailer_fields message.trailers,
      true,
      trailers_refuse_fields log id message (is_head_alone message) refusal large
          (first.1 ∙ ap Some same),
      typed,
      may,
      new,
    )

-- The head of a message whose trailers may be sent.
pub sends_head : (values : Values) (log : Log) (id : ℕ) (message : SentMessage)
    (result : Result (Unit {0}) Refusal) (conn : Conn)
    → is_too_large (trailer_fields message.trailers) ≡ false
    → IsTypedAct (SendFields id message.head (is_head_alone message))
    → MayAnswer log (SendFields id message.head (is_head_alone message))
    (answer_by (λ done. Done) result)
    → ConnRepresents values conn (with_call log
    (SendFields id message.head (is_head_alone message)) (answer_by (λ done. Done) result))
    → SendsHead values log id message result conn
sends_head values log id message (Ok done) conn fits typed may new = (fits, may, new)
sends_head values log id message (Err refusal) conn fits typed may new =
    let act = SendFields id message.head (is_head_alone message) in (
      message.head,
      is_head_alone message,
      refuses_fitting log act message refusal fits
          (refused_so log act refusal (λ same. cc) may),
      typed,
      may,
      new,
    )

-- What an end represents after a call that the connection refused.
pub unchanged_by : (end : EndLog) (act : Act) (refusal : Refusal) → IsTypedAct act
    → IsHeadCall act
    → MayAnswer end.log act (Refused refusal)
    → IsUnchanged end (end_with_log end (with_call end.log act (Refused refusal)))
unfolding IsUnchanged
unchanged_by end act refusal typed head may = inr (act, refusal, typed, head, may, refl)

pub unchanged_itself : (end : EndLog) → IsUnchanged end end
unfolding IsUnchanged
unchanged_itself end = inl refl

-- The role by its test.
pub is_client : (role : Role) → sameb the_type role Client ≡ true → role ≡ Client
is_client Client is = refl
is_client Server is = absurd (both_ways false refl is)

pub is_server_by : (role : Role) → sameb the_type role Client ≡ false → role ≡ Server
is_server_by Client is = absurd (both_ways true is refl)
is_server_by Server is = refl
