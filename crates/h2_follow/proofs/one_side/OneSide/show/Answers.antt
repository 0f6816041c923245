-- The viewer and the scanner read the same octets, within the limits in force.
use Rattle.h2_follow.proofs.Names.{ℕ, List, ◌∙◌, [], ap, subst, sym, take}
use Rattle.std.proofs.Common.{min}
use Rattle.std.proofs.Math.Seq.{take-length}
use Rattle.h2_wire.specs.Cutter.{CutterLimited}
use Rattle.h2_show.specs.Limited.{ViewerLimited}
use Rattle.h2_show.specs.declared.printer.Printer.{Printer}
use Rattle.h2_follow.specs.Follower.{SideReads}
use Rattle.h2_follow.specs.InForce.{bound_of}
use Rattle.h2_follow.proofs.SideLemmas.{all_used, reads_fault, reads_part}
use Rattle.h2_follow.proofs.one_side.OneSide.show.Goals as goal

pub returns-in_ok-show_part-in-Ok : goal.returns-in_ok-show_part-in-Ok
returns-in_ok-show_part-in-Ok c = λ is.
    let scans = c.in-Ok.ensures.ok in
    let (printed, written, shows) = c.in_ok-show_part-in-Ok.ensures.part in
    let limit = c.min-limit.ensures
    ∙ ap (λ (most : ℕ). min most 1048576) c.max_frame-allowed.ensures in
    record {
      frames = scans.frames;
      lines = printed;
      within = scans.within;
      some = scans.some;
      adds = written;
      own_next = scans.own_next;
      others_next = scans.others_next;
      few = scans.few;
      reads = reads_part c.args.self.now
          (record c.args.self.now {
            viewer = c.set_max_frame.new.self;
            scanner = c.scan.new.scanner;
            allowed = c.max_frame-allowed.result;
          })
          c.show_part.new.self c.set_limit.new.self c.args.least (bound_of c.args.own.now)
          (take c.in-Ok.scanned.used c.args.octets.now) scans.frames c.in-Ok.scanned.ends_block
          printed is
          (subst (λ (most : ℕ). CutterLimited c.args.self.now.scanner most c.set_limit.new.self)
          limit c.set_limit.ensures)
          scans.continues c.in_ok-show_part-in-Ok.ensures.scanner
          (subst (λ (most : ℕ). ViewerLimited c.args.self.now.viewer.cutter
          c.args.self.now.viewer.blocks c.args.self.now.viewer.printer.is_due most
          c.set_max_frame.new.self.cutter c.set_max_frame.new.self.blocks
          c.set_max_frame.new.self.printer.is_due) limit c.set_max_frame.ensures.limited)
          (ap (λ (some : Printer). some.style) c.set_max_frame.ensures.printer) scans.ends
          (rw c.table-table.ensures at shows is);
    }

pub returns-in_ok-show_fault-in-Err : goal.returns-in_ok-show_fault-in-Err
returns-in_ok-show_fault-in-Err c = λ is.
    let other = c.in_ok-show_fault-in-Err.ensures.other in
    let (printed, written, over, shows) = c.in_ok-show_fault-in-Err.ensures.part in
    let (fails, own_same, others_same) = c.in-Err.ensures.err other in
    let used = all_used c.args.octets.now in
    let limit = c.min-limit.ensures
    ∙ ap (λ (most : ℕ). min most 1048576) c.max_frame-allowed.ensures in
    record {
      frames = [];
      lines = printed;
      within = used.0;
      some = used.1;
      adds = written;
      own_next = ap bound_of own_same;
      others_next = ap bound_of others_same;
      few = tt;
      reads = subst (λ (octets : List ℕ). SideReads c.args.self.now c.show_fault.new.self
          c.args.least (bound_of c.args.own.now) octets [] printed)
          (sym (take-length c.args.octets.now))
          (reads_fault c.args.self.now
          (record c.args.self.now {
            viewer = c.set_max_frame.new.self;
            scanner = c.scan.new.scanner;
            allowed = c.max_frame-allowed.result;
          })
          c.show_fault.new.self c.set_limit.new.self c.scan.new.scanner c.args.least
          (bound_of c.args.own.now) c.args.octets.now c.in-Err.fault printed is
          (subst (λ (most : ℕ). CutterLimited c.args.self.now.scanner most c.set_limit.new.self)
          limit c.set_limit.ensures)
          other fails
          (subst (λ (most : ℕ). ViewerLimited c.args.self.now.viewer.cutter
          c.args.self.now.viewer.blocks c.args.self.now.viewer.printer.is_due most
          c.set_max_frame.new.self.cutter c.set_max_frame.new.self.blocks
          c.set_max_frame.new.self.printer.is_due) limit c.set_max_frame.ensures.limited)
          (ap (λ (some : Printer). some.style) c.set_max_frame.ensures.printer) over shows);
    }
