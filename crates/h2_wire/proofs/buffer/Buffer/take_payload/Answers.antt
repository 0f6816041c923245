-- A frame with a sound head continues: to the piece's end, or to its own.
use Rattle.h2_wire.proofs.Names.{◌≡◌, ◌+◌, ◌-◌, ◌<◌, ◌≤◌, ℕ, List, length, take, drop, arith, ◌++◌}
use Rattle.h2_wire.proofs.Names.{refl, sym, ◌∙◌, ap, length-append, take_rest, Buffer}
use Rattle.std.proofs.Common.{vec_len, eqb-true}
use Rattle.std.proofs.lemmas.List.{nil_from_length}
use Rattle.h2_wire.proofs.BufferLemmas.{keeps_piece, ends_frame}
use Rattle.h2_wire.specs.declared.buffer.Phase.TheVariants as phases
use Rattle.h2_wire.specs.declared.cut.Source.TheVariants as sources
use Rattle.h2_wire.proofs.buffer.Buffer.take_payload.Goals as goal

pub overflow_sub-missing : goal.overflow_sub-missing
overflow_sub-missing c =
    let short = c.requires.starts.short in
    omega (arith, short, c.len.ensures, c.args.self.now.octets.ok.0)

pub returns-then-following-missing-clause-takes : goal.returns-then-following-missing-clause-takes
returns-then-following-missing-clause-takes c =
    let old = c.args.self.now in
    let piece = c.args.piece.now in
    let starts = c.requires.starts in
    let following : take (length piece - c.args.start) (drop c.args.start piece)
    ≡ drop c.args.start piece = take_rest piece c.args.start in
    let items = rw following at c.in_ok-append.ensures.ok in
    let few : length (drop c.args.start piece) < 9 + c.args.head.length - c.len.result =
    rw following at c.if-following-missing.true in
    let joined = length-append old.octets.items (drop c.args.start piece) in
    let short : length (old.octets.items ++ drop c.args.start piece) < 9 + c.args.head.length =
    omega (arith, few, joined, c.len.ensures, old.octets.ok.0) in
    let enough = starts.nine in
    let limit = ap (λ (b : Buffer). b.limit) c.in_ok-append.ensures.same in
    let greatest = ap (λ (b : Buffer). b.greatest) c.in_ok-append.ensures.same in
    record {
      invariant = rw c.pass.ensures (record {
        within = rw (limit, greatest) starts.invariant.within;
        fits = rw (items, greatest) (record {
          nine = omega (arith, enough, joined);
          is_head = starts.is_head;
          bounded = starts.bounded;
          form = starts.form;
          within = starts.within_greatest;
          short = short;
        });
      });
      makes = keeps_piece old c.append.new.self c.pass.new.self piece c.args.start
          (phases.Payload c.args.head)
          c.in_ok-append.ensures.same c.pass.ensures items refl refl refl
          (λ expects limits stream so_far represented.
          let (past, sound) = starts.opens expects limits stream so_far represented in
          (past, λ nine. (rw (← starts.is_head) sound, rw (← starts.is_head) short)));
    }

pub end_frame-requires-clause-form : goal.end_frame-requires-clause-form
end_frame-requires-clause-form c = c.requires.starts.form

pub end_frame-requires-2-clause-form : goal.end_frame-requires-2-clause-form
end_frame-requires-2-clause-form c = c.requires.starts.form

pub returns-then-is_empty-clause-takes : goal.returns-then-is_empty-clause-takes
returns-then-is_empty-clause-takes c =
    let old = c.args.self.now in
    let following : List ℕ = drop c.args.start c.args.piece.now in
    let starts = c.requires.starts in
    let short = starts.short in
    let counted : vec_len old.octets ≡ 0 =
    eqb-true (vec_len old.octets) 0 (sym c.is_empty.ensures ∙ c.if-is_empty.true) in
    let none : length old.octets.items ≡ 0 = omega (arith, counted, old.octets.ok.0) in
    let enough : 9 + c.args.head.length - c.len.result ≤ length following =
    rw (take_rest c.args.piece.now c.args.start) at c.if-following-missing.false in
    let lies : take (9 + c.args.head.length) following
    ≡ old.octets.items ++ take (9 + c.args.head.length - c.len.result) following =
    rw (nil_from_length old.octets.items none)
    (ap (λ (n : ℕ). take n following) (omega (arith, none, c.len.ensures))) in
    ends_frame old old c.end_frame.new.self c.args.piece.now c.args.start
    (9 + c.args.head.length - c.len.result)
    c.args.head (sources.Piece c.args.start) c.end_frame.result refl
    lies starts (omega (arith, c.len.ensures, old.octets.ok.0, short)) enough c.end_frame.ensures

pub returns-clause-takes : goal.returns-clause-takes
returns-clause-takes c =
    let old = c.args.self.now in
    let starts = c.requires.starts in
    let short = starts.short in
    let following : take (length c.args.piece.now - c.args.start)
    (drop c.args.start c.args.piece.now) ≡ drop c.args.start c.args.piece.now =
    take_rest c.args.piece.now c.args.start in
    let enough : 9 + c.args.head.length - c.len.result
    ≤ length (drop c.args.start c.args.piece.now) =
    rw following at c.if-following-missing.false in
    ends_frame old c.append-2.new.self c.end_frame-2.new.self c.args.piece.now c.args.start
    (9 + c.args.head.length - c.len.result)
    c.args.head sources.Kept c.end_frame-2.result
    c.in_ok-append-2.ensures.same (rw following at c.in_ok-append-2.ensures.ok) starts
    (omega (arith, c.len.ensures, old.octets.ok.0, short)) enough c.end_frame-2.ensures
