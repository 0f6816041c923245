-- Line after line is read, until one can't follow or the text ends.
use Rattle.h2_follow.proofs.Names.{[], ◌∷◌, ◌++◌, ◌+◌, ap, arith, refl, Err}
use Rattle.std.proofs.KnownBytes.{Appends-nil}
use Rattle.h2_follow.specs.FollowText.{pieces_read}
use Rattle.h2_follow.proofs.LinesLemmas.{none_read, read_none, reads_next, counted_next}
use Rattle.h2_follow.proofs.FollowLemmas.{ended_told, refused_told}
use Rattle.h2_follow.proofs.StretchLemmas.{written_append}
use Rattle.h2_follow.proofs.follow.follow_lines.Goals as goal

pub loop-count-init : goal.loop-count-init
loop-count-init g c = (
  [],
  [],
  [],
  refl,
  none_read (g.B.Read.remaining c.args.input.now),
  read_none,
  Appends-nil (g.W.Write.contents c.args.out.now),
  λ least shows. shows,
)

pub returns-then-branch-eq0-clause-follows : goal.returns-then-branch-eq0-clause-follows
returns-then-branch-eq0-clause-follows g c =
    let (lines, pieces, log, counted, reads, read, written, shows) = c.loop-count.invariant in
    ended_told (g.B.Read.remaining c.args.input.now) _ _ _ _ c.args.follower.now
    c.loop-count.follower lines pieces log c.loop-count.part c.in_ok-status.status reads read
    written shows (c.in_ok-read_until.ensures.end c.if-branch-eq0.true) c.in_ok-status.ensures

pub returns-in-Err-BadHex-clause-bad_line : goal.returns-in-Err-BadHex-clause-bad_line
returns-in-Err-BadHex-clause-bad_line g c = λ bad.
    let (lines, pieces, log, counted, reads, read, written, shows) = c.loop-count.invariant in
    refused_told (g.B.Read.remaining c.args.input.now) (g.B.Read.remaining c.read_until.new.self) _
    _ c.args.follower.now c.loop-count.follower lines c.read_until.new.buf.items pieces log
    c.loop-count.part (c.loop-count.count + 1) c.bad_line.result.hint
    (reads_next _ _ _ lines c.clear.new.self.items c.read_until.new.buf.items reads
    c.clear.ensures.items c.in_ok-read_until.ensures.bytes c.in_ok-read_until.ensures.rest
    (λ none. c.if-branch-eq0.false (omega (
      arith,
      c.in_ok-read_until.ensures.ok,
      c.read_until.new.buf.ok.0,
      c.clear.ensures.len,
      none,
    ))))
    read written shows (rw c.deref.ensures.value at (c.in-Err-BadHex.ensures.err
    (ap Err c.in-Err-BadHex.field-0-is))) (ap (λ number. number + 1) counted)
    (rw c.deref-in-Err-BadHex.ensures.value at c.bad_line.ensures)

pub loop-count-preserved : goal.loop-count-preserved
loop-count-preserved g c =
    let (lines, pieces, log, counted, reads, read, written, shows) = c.loop-count.invariant in
    let (more, wrote, takes) = c.in_ok-take_line-in-Ok.ensures in
    let line = c.read_until.new.buf.items in (
      lines ++ line ∷ [],
      pieces ++ pieces_read c.in-Ok.next.read,
      more ++ log,
      counted_next c.loop-count.count lines line counted,
      reads_next _ _ _ lines c.clear.new.self.items line reads c.clear.ensures.items
          c.in_ok-read_until.ensures.bytes c.in_ok-read_until.ensures.rest
          (λ none. c.if-branch-eq0.false (omega (
            arith,
            c.in_ok-read_until.ensures.ok,
            c.read_until.new.buf.ok.0,
            c.clear.ensures.len,
            none,
          ))),
      rw c.deref.ensures.value at (c.in-Ok.ensures.ok lines pieces read),
      written_append _ _ _ log more written wrote,
      λ least first. takes least pieces log (shows least first),
    )
