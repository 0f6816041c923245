-- What is sent before a piece is read, and what is read.
use Rattle.h2_engines.proofs.Names
use Names.{◌≡◌, ℕ, List, [], ◌++◌, Ok, Err, ◌∙◌, subst, ap, append-nil, Appends, Appends-trans}
use Names.{End, EndLog, EndsWriting, LinkError, Log, Traffic, HasGiven, None, take}
use Rattle.h2_engines.proofs.MachineViews.{all_in_part}
use Rattle.h2_engines.proofs.MachineWrites.{written_links}
use Rattle.h2_fetch.specs.Reads.{ReadSo, ReadsOver}
use Rattle.h2_fetch.specs.Sends.{SendsAllOver, StopsSending}
use Rattle.h2_fetch.specs.Several.{StopsAllFor}
use Rattle.h2_engines.specs.declared.sending.Credit.{Credit}
use Rattle.h2_link.specs.declared.error.LinkError.TheVariants as errors

-- What ends sending ends a fetch so.
sending_so : (start now : Traffic) (end : EndLog) (error : LinkError) → EndsWriting error
    → StopsSending {A = Unit {0}} now end (Err error) → StopsAllFor start now end error
sending_so start now end errors.Device writing why = tt
sending_so start now end errors.Memory writing why = why
sending_so start now end errors.NoProgress writing why = why
sending_so start now end error writing why = absurd writing

pub read_unsent : (credit : Credit) (before now : Traffic) (old new : End) (buffer : List ℕ)
    (error : LinkError) → EndsWriting error → SendsAllOver credit before now old new (Err error)
    → ReadsOver credit before now old new buffer (Err error)
unfolding ReadSo
read_unsent credit before now old new buffer error writing sends values asking start end is was
    allows linked up =
    let sent = sends values asking start end [] is was allows linked up in
    record {
      after = sent.after;
      returned = sent.returned;
      asks = sent.asks;
      represents = sent.represents;
      same = sent.same;
      so = (
        record { unused = []; given = sent.given; taken = sent.taken },
        sending_so start now sent.after error writing sent.why,
      );
    }

-- The link has given these octets since, and taken none.
gives_more : (start middle now : Traffic) (log : Log) (octets : List ℕ)
    → HasGiven start middle log [] → Appends middle.given now.given octets
    → HasGiven start now log octets
gives_more start middle now log octets given more =
    subst (Appends start.given now.given)
    (ap (λ (input : List ℕ). input ++ octets) (append-nil log.input))
    (Appends-trans start.given middle.given now.given _ octets given more)

takes_none : (start middle now : Traffic) (octets : List ℕ)
    → Appends start.taken middle.taken octets → Appends middle.taken now.taken []
    → Appends start.taken now.taken octets
takes_none start middle now octets taken none =
    subst (Appends start.taken now.taken) (append-nil octets)
    (Appends-trans start.taken middle.taken now.taken octets [] taken none)

module _ (credit : Credit) (before middle now : Traffic) (old new : End) (done : Unit {0})
    (gone : Appends middle.taken now.taken [])
    (sends : SendsAllOver credit before middle old new (Ok done)) where
  -- A piece was read,
  pub read_some : (buffer : List ℕ) (count : ℕ) → Appends middle.given now.given (take count buffer)
      → ReadsOver credit before now old new buffer (Ok count)
  unfolding ReadSo
  read_some buffer count gives values asking start end is was allows linked up =
      let sent = sends values asking start end [] is was allows linked up in
      let went = written_links [] sent.given sent.taken in
      record {
        after = sent.after;
        returned = sent.returned;
        asks = sent.asks;
        represents = sent.represents;
        same = sent.same;
        so = (
          sent.same.failed ∙ up,
          record {
            given = gives_more start middle now sent.after.log (take count buffer) went.given gives;
            taken = takes_none start middle now _ went.taken gone;
          },
          sent.turns,
        );
      }

  module _ (buffer : List ℕ) (gives : Appends middle.given now.given []) where
    -- or none, at the end of the input,
    pub read_none : ReadsOver credit before now old new buffer (Err errors.CutOff)
    unfolding ReadSo
    read_none values asking start end is was allows linked up =
        let sent = sends values asking start end [] is was allows linked up in
        let went = written_links [] sent.given sent.taken in
        let given = gives_more start middle now sent.after.log [] went.given gives in
        let still = sent.same.failed ∙ up in
        record {
          after = sent.after;
          returned = sent.returned;
          asks = sent.asks;
          represents = sent.represents;
          same = sent.same;
          so = (
            all_in_part
                (record { given = given; taken = takes_none start middle now _ went.taken gone }),
            (
              still,
              given,
              takes_none start middle now _ sent.taken.taken gone,
              sent.taken.returned still,
            ),
          );
        }

    -- where the read has failed, or where there is no buffer for one.
    pub read_fails : (error : LinkError)
        → ((start : Traffic) (end : EndLog) → end.log.failed ≡ None
        → StopsAllFor start now end error) → ReadsOver credit before now old new buffer (Err error)
    unfolding ReadSo
    read_fails error stops values asking start end is was allows linked up =
        let sent = sends values asking start end [] is was allows linked up in
        let went = written_links [] sent.given sent.taken in
        record {
          after = sent.after;
          returned = sent.returned;
          asks = sent.asks;
          represents = sent.represents;
          same = sent.same;
          so = (
            all_in_part (record {
              given = gives_more start middle now sent.after.log [] went.given gives;
              taken = takes_none start middle now _ went.taken gone;
            }),
            stops start sent.after (sent.same.failed ∙ up),
          );
        }
