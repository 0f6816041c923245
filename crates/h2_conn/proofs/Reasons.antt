-- Why a connection has failed: its log has failed, and a step that fails nothing changes nothing of
-- it.
use Rattle.h2_conn.proofs.Names.{◌≡◌, ◌≢◌, ◌∙◌, sym, subst, Option, Some, None, Log, Role, Values}
use Rattle.h2_conn.proofs.Names.{Act, Answer, with_call, with_sent, used, none_some, Why}
use Rattle.h2_conn.proofs.Names.{End, Represents, IsTypedAct, MayAnswer}
use Rattle.h2_spec_log.proofs.StreamLemmas.{Keeps-call}
use Rattle.h2_spec_log.specs.Histories.{IsLog}
use Rattle.h2_conn.specs.Why.{FailedFor, for_octets, for_memory, for_a_frame, for_a_call, still}
use Rattle.h2_conn.specs.Why.{IsWhy}

-- What a machine represents is the log of an end of its own role.
pub came_of : (values : Values) (e : End) (log : Log) → Represents values e log
    → IsLog log.role values log
came_of values e log s = subst (λ (role : Role). IsLog role values log) s.role s.came

-- What the connection failed for is said of a log of the same role.
pub said_for : (values : Values) (role : Role) (log : Log) (why : Why) → log.role ≡ role
    → FailedFor role values log why → IsWhy values log (Some why)
said_for values role log why same is =
    subst (λ (of : Role). FailedFor of values log why) (sym same) is

module _ (values : Values) where
  -- A connection that failed for something has failed.
  pub has_failed : (role : Role) (log : Log) (why : Why) → FailedFor role values log why
      → log.failed ≢ None
  unfolding used with_sent
  has_failed role _ _ (for_octets came takes octets fault met) = λ is. cc
  has_failed role _ _ (for_memory came up octets may) = λ is. cc
  has_failed role _ _ (for_a_frame came takes octets frame decoded code read sees fails) =
      λ is. none_some code (sym is ∙ fails)
  has_failed role _ _ (for_a_call came up act answer code typed may fails) =
      λ is. none_some code (sym is ∙ fails)
  has_failed role _ why (still {log} before act answer typed may same) =
      λ is. has_failed role log why before (sym same ∙ is)

  -- As long as it goes on it has failed for nothing.
  pub why_up : (log after : Log) (why : Option Why) → IsWhy values log why → log.failed ≡ None
      → after.failed ≡ None → IsWhy values after why
  why_up log after None is up going = going
  why_up log after (Some why) is up going = absurd (has_failed log.role log why is up)

  -- A call that fails nothing changes nothing of it.
  pub why_called : (log : Log) (act : Act) (answer : Answer) (why : Option Why)
      → IsWhy values log why → IsTypedAct act → MayAnswer log act answer
      → (with_call log act answer).failed ≡ log.failed
      → IsWhy values (with_call log act answer) why
  why_called log act answer None is typed may same = same ∙ is
  why_called log act answer (Some why) is typed may same =
      said_for values log.role (with_call log act answer) why (Keeps-call log act answer).role
      (still is act answer typed may same)
