-- Which of two joined ends has failed, by what their connections answer.
use Rattle.std.proofs.Common.{◌≡◌, Option, Some, None, is_some, true, false, sym, ap, ◌∙◌}
use Rattle.std.proofs.lemmas.Bool.{both_ways}
use Rattle.h2_conn.proofs.AskMemory.{none_of}
use Rattle.h2_joined.proofs.Names.{Code}
use Rattle.h2_joined.specs.declared.act.Side.TheVariants.{Client, Server}
use Rattle.h2_joined.specs.declared.joined.Joined.{Joined}
use Rattle.h2_joined.proofs.CodeDelivers.{HasFailed}
use Rattle.h2_settle.specs.RoundEndings.{FindsFailed}

-- What is some is not none.
some_not_none : (failed : Option Code) → is_some failed ≡ true → failed ≡ None → ⊥
some_not_none failed some none = both_ways (is_some failed) (ap is_some none) some

-- The client has.
pub finds_client : (joined : Joined) (one : Option Code) → HasFailed Client joined one
    → is_some one ≡ true → FindsFailed joined (Some Client)
finds_client joined one tells some client_values server_values made client server is none =
    some_not_none one some (tells client_values client.happened.log
    is.client_represents.streams.conn ∙ none)

-- The server has, and the client has not.
pub finds_server : (joined : Joined) (one other : Option Code) → HasFailed Client joined one
    → HasFailed Server joined other → is_some one ≡ false → is_some other ≡ true
    → FindsFailed joined (Some Server)
finds_server joined one other tells_one tells_other no_client some client_values server_values made
    client server is = (
      sym (tells_one client_values client.happened.log is.client_represents.streams.conn)
          ∙ none_of one no_client,
      λ none. some_not_none other some (tells_other server_values server.happened.log
          is.server_represents.streams.conn ∙ none),
    )

-- Neither has.
pub finds_neither : (joined : Joined) (one other : Option Code) → HasFailed Client joined one
    → HasFailed Server joined other → is_some one ≡ false → is_some other ≡ false
    → FindsFailed joined None
finds_neither joined one other tells_one tells_other no_client no_server client_values
    server_values made client server is = (
      sym (tells_one client_values client.happened.log is.client_represents.streams.conn)
          ∙ none_of one no_client,
      sym (tells_other server_values server.happened.log is.server_represents.streams.conn)
          ∙ none_of other no_server,
    )
