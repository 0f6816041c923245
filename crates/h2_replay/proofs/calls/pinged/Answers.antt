-- Octets are of their type, and the call gives nothing out.
use Rattle.h2_replay.proofs.Names.{refl, Done, IsTypedAct}
use Rattle.std.proofs.Common.{rules}
use Rattle.hpack_text.proofs.ReadLemmas.{all_octets}
use Rattle.h2_replay.proofs.CallLemmas.{answered_call, shows_itself}
use Rattle.h2_replay.proofs.calls.pinged.Goals as goal

pub returns-clause-typed : goal.returns-clause-typed
unfolding IsTypedAct
returns-clause-typed c = (search rules, all_octets c.args.octets (λ i. search rules))

pub returns-clause-makes : goal.returns-clause-makes
returns-clause-makes c =
    answered_call c.args.conn.now c.ping.new.self _ _ _ _ c.done.ensures
    (shows_itself (λ done. Done) c.ping.result (λ id. refl)) tt refl c.ping.ensures
