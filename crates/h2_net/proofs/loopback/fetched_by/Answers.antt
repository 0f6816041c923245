-- A response that is whole is there.
use Rattle.std.proofs.lemmas.Result.{err_from_is_err_and}
use Rattle.h2_net.proofs.PostingLemmas.{exchanges}
use Rattle.h2_net.proofs.loopback.fetched_by.Goals as goal

pub returns-in_err-whole_or_cut_off : goal.returns-in_err-whole_or_cut_off
returns-in_err-whole_or_cut_off c = λ count posts.
    let answer = err_from_is_err_and c.from_residual.result c.from_residual.ensures.1 in
    rw (answer.1, answer.2) (c.in_err-whole_or_cut_off.ensures count c.args.client posts)

pub returns : goal.returns
returns c = λ count posts.
    exchanges count _ c.into_fetched.result
    (c.in_ok-whole_or_cut_off.ensures count c.args.client posts)
    c.into_fetched.ensures.ok c.into_fetched.ensures.whole c.into_fetched.ensures.err
