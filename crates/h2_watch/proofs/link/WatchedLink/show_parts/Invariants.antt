-- What was shown so far, and what is still to be, are the octets.
use Rattle.std.proofs.Common.{◌≡◌, ℕ, List, ◌++◌, take, drop}
use Rattle.std.specs.Io.Slices.{io_slices_bytes}
use Rattle.h2_show.specs.declared.options.Side.TheVariants.{Client}
use Rattle.h2_watch.specs.WatchedLinks.{ShowsStill}
use Rattle.h2_watch.proofs.link.WatchedLink.show_parts.Given as goal

abbrev pub invariant-loop-part : goal.invariant-loop-part
invariant-loop-part g l =
    record {
      link : l.self.link ≡ l.initial.self.link;
      same_out : l.self.out.ghost_name ≡ l.initial.self.out.ghost_name;
      shown : (done : List ℕ)
          × (done ++ take l.left (io_slices_bytes (drop l.part-index l.parts))
          ≡ take l.count (io_slices_bytes l.parts))
          × ShowsStill l.initial.self.watch l.self.watch Client done
          (g.E.Write.contents l.initial.self.out.now) (g.E.Write.contents l.self.out.now);
    }
