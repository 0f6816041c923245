-- The lines of the side after its mark were written.
use Rattle.std.proofs.Common.{ℕ, List, subst, ◌∙◌}
use Rattle.std.proofs.lemmas.Result.{on_ok_weaker}
use Rattle.std.specs.Io.KnownBytes.{Appends}
use Rattle.h2_watch.proofs.WatchLemmas.{marked_lines}
use Rattle.h2_watch.proofs.watch.Watch.show.Goals as goal

pub returns : goal.returns
returns g c =
    let (printed, added, shows) = c.in_ok-add_lines.ensures in
    let all = marked_lines c.args.side c.new-text.result.items c.add_lines.new.text.items printed
    c.mark_of.result.now c.new-lines.result.items c.mark_lines.new.lines.items
    c.new-text.ensures.items added c.mark_of.ensures c.new-lines.ensures.items
    (rw c.deref.ensures.value at c.in_ok-mark_lines.ensures) in
    on_ok_weaker c.write_all.result
    (λ written. (
      printed,
      subst (λ (lines : List ℕ). Appends (g.E.Write.contents c.args.out.now)
          (g.E.Write.contents c.write_all.new.self) lines) (c.deref-2.ensures.value ∙ all) written,
      shows,
    ))
    c.write_all.ensures.bytes
