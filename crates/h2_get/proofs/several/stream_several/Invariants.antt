-- So many responses were printed, none of which ends all; the link has not failed.
use Rattle.std.proofs.Common.{◌≡◌, length, take}
use Rattle.h2_args.specs.Words.{asked_by}
use Rattle.h2_engines.specs.Linked.{traffic}
use Rattle.h2_get.specs.Several.{AllGoOn}
use Rattle.h2_get.proofs.SeveralInOrder.{PrintsFirst}
use Rattle.h2_get.proofs.several.stream_several.Given as goal

abbrev pub invariant-loop-place : goal.invariant-loop-place
invariant-loop-place g l =
    record {
      failures : g.L.Link.faults l.link ≡ g.L.Link.faults l.initial.link;
      count : length l.results.items ≡ l.place;
      good : AllGoOn l.results.items;
      prints : PrintsFirst (asked_by l.fn.options)
          (traffic (g.L.Link.given l.initial.link) (g.L.Link.taken l.initial.link)
          (g.L.Link.stalled l.initial.link))
          (traffic (g.L.Link.given l.link) (g.L.Link.taken l.link) (g.L.Link.stalled l.link))
          l.initial.fetch l.fetch (g.W.Write.contents l.initial.out) (g.W.Write.contents l.out)
          (take l.place l.ids) l.results.items;
    }
