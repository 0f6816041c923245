-- Two turns are kept, or three.
use Rattle.h2_replay.proofs.Names.{◌∙◌, ap, sym, refl, None, Option, List, map, In, Happened, Event}
use Rattle.h2_replay.proofs.Names.{Code, each_octet, all_by_octets, KeptEvent, kept_event_value}
use Rattle.h2_replay.proofs.Names.{taken_events}
use Rattle.h2_replay.specs.Taking.{reported_by}
use Rattle.h2_replay.proofs.TakingLemmas.{kept_twice, kept_without, kept_with, one_event}
use Rattle.h2_replay.proofs.taking.keep_taking.Goals as goal

pub returns-in-Some-clause-kept : goal.returns-in-Some-clause-kept
returns-in-Some-clause-kept c =
    kept_without _ _ _ _ (taken_events c.args.taking) (kept_twice _ _ _ _ _ _ _
    c.in_ok-push.ensures.items c.in_ok-push-2.ensures.items
    (ap (each_octet In) c.in_ok-from_slice.ensures.items) refl)
    (ap (λ (f : Option Code). reported_by f c.args.taking.event) c.in-Some.is)

pub returns-then-used-piece-clause-kept : goal.returns-then-used-piece-clause-kept
returns-then-used-piece-clause-kept c =
    kept_without _ _ _ _ (taken_events c.args.taking) (kept_twice _ _ _ _ _ _ _
    c.in_ok-push.ensures.items c.in_ok-push-2.ensures.items
    (ap (each_octet In) c.in_ok-from_slice.ensures.items) refl)
    (ap (λ (f : Option Code). reported_by f c.args.taking.event) c.in_default.is
    ∙ ap (λ (e : Option KeptEvent). reported_by None e) c.in_default-event.is)

pub returns-else-used-piece-clause-kept : goal.returns-else-used-piece-clause-kept
returns-else-used-piece-clause-kept c =
    kept_without _ _ _ _ (taken_events c.args.taking) (kept_twice _ _ _ _ _ _ _
    c.in_ok-push.ensures.items c.in_ok-push-2.ensures.items
    (ap (each_octet In) c.in_ok-from_slice.ensures.items) refl)
    (ap (λ (f : Option Code). reported_by f c.args.taking.event) c.in_default.is
    ∙ ap (λ (e : Option KeptEvent). reported_by None e) c.in_default-event.is)

pub returns-clause-kept : goal.returns-clause-kept
returns-clause-kept c =
    kept_with _ _ _ _ _ _ (taken_events c.args.taking) (kept_twice _ _ _ _ _ _ _
    c.in_ok-push.ensures.items c.in_ok-push-2.ensures.items
    (ap (each_octet In) c.in_ok-from_slice.ensures.items) refl)
    c.in_ok-push-3.ensures.items
    (one_event (kept_event_value c.in-Some-event.event)
    ∙ ap (λ (e : List Event). all_by_octets (map Happened e))
    (sym (ap (λ (f : Option Code). reported_by f c.args.taking.event) c.in_default.is
    ∙ ap (λ (e : Option KeptEvent). reported_by None e) c.in-Some-event.is)))
