use Rattle.std.proofs.Common.{refl, rules, ◌<◌, ◌^◌}
use Rattle.h2_host.proofs.SoundKept.{sound_new}
use Rattle.h2_host.proofs.host.Host.new.Goals as goal

pub invariant_of-result : goal.invariant_of-result
invariant_of-result g c =
    let sized : c.args.limits.held_in_all < 2 ^ 64 = search rules in
    sound_new g.P.Party.held_of g.P.Party.ready_of _ c.new.ensures c.new-2.ensures.items refl sized
