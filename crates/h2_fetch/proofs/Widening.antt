-- A fetch goes on where the window of its connection was widened, or that was refused.
use Rattle.h2_engines.proofs.Names
use Names.{◌≡◌, ◌<◌, ◌^◌, ℕ, Result, Ok, Err, ◌∙◌, Done, EndAnswers, IsTypedAct, Refusal}
use Names.{sym, subst, IsLinked}
use Rattle.h2_conn.specs.Conn.{answer_by}
use Rattle.h2_spec_log.specs.Acts.{Widen}
use Rattle.h2_engines.specs.ClientHistories.{widens as one_widens}
use Rattle.h2_engines.proofs.LinkInvariants.{IsQuiet}
use Rattle.h2_engines.proofs.ResponderEnds.{given_within}
use Rattle.h2_engines.proofs.ServeLinkLogs.{call_goes, goes_links}
use Rattle.h2_fetch.specs.Comings.{octets_unused}
use Rattle.h2_fetch.specs.Several.{several_unused, widens}
use Rattle.h2_fetch.specs.Widening.{WidensFetch, WidensSeveral}
use Rattle.h2_fetch.specs.declared.fetch.PartFetch.{PartFetch}
use Rattle.h2_fetch.specs.declared.connection.ClientConnection.{ClientConnection}

-- The call is quiet, whether it is refused or not.
quiet_answer : (count : ℕ) (result : Result (Unit {0}) Refusal)
    → IsQuiet (Widen count) (answer_by (λ done. Done) result)
quiet_answer count (Ok done) = tt
quiet_answer count (Err refusal) = tt

typed_widen : (count : ℕ) → count < 2 ^ 32 → IsTypedAct (Widen count)
unfolding IsTypedAct
typed_widen count few = few

pub widens_fetch : (count : ℕ) (result : Result (Unit {0}) Refusal) (old new : PartFetch)
    → count < 2 ^ 32 → EndAnswers old.client.end (Widen count) (answer_by (λ done. Done) result)
    new.client.end
    → new.id ≡ old.id → octets_unused new ≡ octets_unused old
    → WidensFetch count (answer_by (λ done. Done) result) old new
widens_fetch count result old new few answers id unused values message wide start now end on =
    let answer = answer_by (λ done. Done) result in
    let both = answers values end on.represents in
    let goes = call_goes end.log (Widen count) answer (quiet_answer count result) in (
      both.0,
      record {
        fetching = one_widens on.fetching count answer (typed_widen count few) both.0;
        represents = both.1;
        accepted = rw id on.accepted;
        up = goes.failed ∙ on.up;
        linked = subst (IsLinked start now _) (sym unused)
            (goes_links (given_within on.represents) goes on.linked);
      },
    )

pub widens_several : (count : ℕ) (result : Result (Unit {0}) Refusal) (old new : ClientConnection)
    → count < 2 ^ 32 → EndAnswers old.client.end (Widen count) (answer_by (λ done. Done) result)
    new.client.end
    → new.kept ≡ old.kept → several_unused new ≡ several_unused old
    → WidensSeveral count (answer_by (λ done. Done) result) old new
widens_several count result old new few answers kept unused values wide start now asked end
    answered on =
    let answer = answer_by (λ done. Done) result in
    let both = answers values end on.represents in
    let goes = call_goes end.log (Widen count) answer (quiet_answer count result) in (
      both.0,
      record {
        fetching = widens on.fetching count answer (typed_widen count few) both.0;
        represents = both.1;
        accepted = on.accepted;
        up = goes.failed ∙ on.up;
        linked = subst (IsLinked start now _) (sym unused)
            (goes_links (given_within on.represents) goes on.linked);
        parts = rw kept on.parts;
        dropped = rw kept on.dropped;
      },
    )
