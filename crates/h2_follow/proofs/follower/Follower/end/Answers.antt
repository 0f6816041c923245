-- Each side's end is written.
use Rattle.h2_follow.proofs.Names.{ap, subst, OneSide, EndsSide, Follower, Client, Server}
use Rattle.std.proofs.KnownBytes.{Appends-trans}
use Rattle.h2_follow.proofs.FollowerLemmas.{written_text}
use Rattle.h2_follow.proofs.follower.Follower.end.Goals as goal

pub returns : goal.returns
returns g c =
    let (one, one_is, one_ends) = c.in_ok-client.ensures in
    let (two, two_is, two_ends) = c.in_ok-server.ensures in
    let first = written_text Client (g.W.Write.contents c.args.out.now)
    (g.W.Write.contents c.write_text.new.out) _ _ one c.clear.ensures.items one_is
    c.in_ok-write_text.ensures.written in
    let second = written_text Server (g.W.Write.contents c.write_text.new.out)
    (g.W.Write.contents c.write_text-2.new.out) _ _ two c.clear-2.ensures.items two_is
    c.in_ok-write_text-2.ensures.written in (
      c.in_ok-client.client,
      c.in_ok-server.server,
      one,
      two,
      c.both.ensures,
      one_ends,
      subst (λ (side : OneSide). EndsSide side c.in_ok-server.server two)
          (ap (λ (some : Follower). some.server_side) c.in_ok-write_text.ensures.same) two_ends,
      Appends-trans _ _ _ _ _ first second,
    )
