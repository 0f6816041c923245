-- By the gatherer's clauses and the decoder's.
use Rattle.h2_show.proofs.Names.{inl, inr, err_from_is_err_and}
use Rattle.h2_show.proofs.BlocksLemmas.{represent_alone, represent_more, represent_block}
use Rattle.h2_show.proofs.BlocksLemmas.{grouping_error_reports, decoding_error_reports}
use Rattle.h2_show.proofs.BlocksShown.{show_alone, show_more, show_block}
use Rattle.h2_show.proofs.blocks.Blocks.take.Goals as goal

pub returns-in_err-take-clause-err : goal.returns-in_err-take-clause-err
returns-in_err-take-clause-err c =
    let result = c.from_residual.result in
    let answer = err_from_is_err_and result c.from_residual.ensures.1 in
    rw (answer.1, answer.2) (λ frames represents.
    grouping_error_reports c.args.self.now c.take.new.self _ frames c.in_err-take.field-0.0
    c.in_err-take.ensures.takes represents)

pub returns-in_err-decode-in-Block-clause-err : goal.returns-in_err-decode-in-Block-clause-err
returns-in_err-decode-in-Block-clause-err c =
    let result = c.from_residual-in_err-decode-in-Block.result in
    let answer = err_from_is_err_and result c.from_residual-in_err-decode-in-Block.ensures.1 in
    rw (answer.1, answer.2) (λ frames represents.
    decoding_error_reports c.args.self.now c.take.new.self _ frames c.in-Block.stream
    c.in-Block.end c.in-Block.octets.items _
    (rw c.in-Block.is at c.in_ok-take.ensures.takes)
    (rw c.in-Block.is at c.in_ok-take.ensures.ended)
    (rw c.deref.ensures.value at c.in_err-decode-in-Block.ensures.err) represents)

pub returns-in-Pass : goal.returns-in-Pass
returns-in-Pass c =
    record {
      ok = λ frames represents. elim c.in-Pass.is [
        | inl passed ↦ represent_alone c.args.self.now c.take.new.self _ _ frames
            (rw passed.1 at c.in_ok-take.ensures.takes) represents
        | inr more ↦ represent_more c.args.self.now c.take.new.self _ frames
            (rw more at c.in_ok-take.ensures.takes) represents
      ];
      err = tt;
      shown = λ frames lines shows. elim c.in-Pass.is [
        | inl passed ↦ show_alone c.args.self.now c.take.new.self _ _ frames lines
            (rw passed.1 at c.in_ok-take.ensures.takes) shows
        | inr more ↦ show_more c.args.self.now c.take.new.self _ frames lines
            (rw more at c.in_ok-take.ensures.takes) shows
      ];
    }

pub returns-in_ok-decode-in-Block-clause-ok : goal.returns-in_ok-decode-in-Block-clause-ok
returns-in_ok-decode-in-Block-clause-ok c = λ frames represents.
    represent_block c.args.self.now c.decode.new.self c.take.new.self _ frames c.in-Block.stream
    c.in-Block.end c.in-Block.octets.items _ _
    (rw c.in-Block.is at c.in_ok-take.ensures.takes) c.decode.ensures.same
    (rw c.deref.ensures.value at c.in_ok-decode-in-Block.ensures.ok.1) represents

pub returns-in_ok-decode-in-Block-clause-shown : goal.returns-in_ok-decode-in-Block-clause-shown
returns-in_ok-decode-in-Block-clause-shown c = λ frames lines shows.
    show_block c.args.self.now c.decode.new.self c.take.new.self _ frames lines c.in-Block.stream
    c.in-Block.end c.in-Block.octets.items _ _
    (rw c.in-Block.is at c.in_ok-take.ensures.takes)
    (rw c.in-Block.is at c.in_ok-take.ensures.ended) c.decode.ensures.same
    (rw c.deref.ensures.value at c.in_ok-decode-in-Block.ensures.ok.1) shows
