-- The locations are those of the URLs so far, of the host and port of the first.
use Rattle.std.proofs.Common.{map, take}
use Rattle.h2_tool.specs.GetsSeveral.{AreSameHost, NameInOrder}
use Rattle.h2_tool.proofs.get_several.locations_of.Given as goal

abbrev pub invariant-loop-url : goal.invariant-loop-url
invariant-loop-url l =
    record {
      name : NameInOrder (map (λ url. url.now) (take l.url-index l.urls)) l.fn.port
          l.locations.items;
      same : AreSameHost l.fn.first l.locations.items;
    }
