-- By the lemmas on what is sent and read.
use Rattle.h2_engines.proofs.Names.{refl, ◌∙◌, inl, Appends-nil, err_from_is_err_and}
use Rattle.h2_engines.proofs.MachineDrives.{gives_none, gives_piece}
use Rattle.h2_link.specs.declared.error.LinkError.TheVariants as errors
use Rattle.h2_fetch.proofs.ReadPieces.{read_fails, read_none, read_some, read_unsent}
use Rattle.h2_fetch.proofs.reading.read_piece.Goals as goal

pub returns-in_err-send_all-clause-reads : goal.returns-in_err-send_all-clause-reads
returns-in_err-send_all-clause-reads g c =
    let answer = err_from_is_err_and c.from_residual.result c.from_residual.ensures.1 in
    rw (answer.1, answer.2) (read_unsent c.args.credit _ _ _ _ _ c.in_err-send_all.field-0.0
    c.in_err-send_all.ensures.err c.in_err-send_all.ensures.sends)

pub returns-in_err-make_buffer-clause-reads : goal.returns-in_err-make_buffer-clause-reads
returns-in_err-make_buffer-clause-reads g c =
    let answer = err_from_is_err_and c.from_residual-in_err-make_buffer.result
    c.from_residual-in_err-make_buffer.ensures.1 in
    rw (answer.1, answer.2) (read_fails c.args.credit _ _ _ _ _ tt (Appends-nil _)
    c.in_ok-send_all.ensures.sends _ (Appends-nil _) errors.Memory (λ start end up. inl (inl up)))

pub returns-in_err-count-clause-reads : goal.returns-in_err-count-clause-reads
returns-in_err-count-clause-reads g c =
    let answer = err_from_is_err_and c.from_residual-in_err-count.result
    c.from_residual-in_err-count.ensures.1 in
    rw (answer.1, answer.2) (read_fails c.args.credit _ _ _ _ _ tt
    c.in_err-count.ensures.takes_none c.in_ok-send_all.ensures.sends _
    c.in_err-count.ensures.gives errors.Device (λ start end up. tt))

pub returns-then-count-eq0-clause-reads : goal.returns-then-count-eq0-clause-reads
returns-then-count-eq0-clause-reads g c =
    read_none c.args.credit _ _ _ _ _ tt c.in_ok-count.ensures.takes_none
    c.in_ok-send_all.ensures.sends _ (gives_none _ _ c.read.new.buffer c.in_ok-count.count
    c.if-count-eq0.true c.in_ok-count.ensures.gives.1)

pub returns-clause-reads : goal.returns-clause-reads
returns-clause-reads g c =
    read_some c.args.credit _ _ _ _ _ tt c.in_ok-count.ensures.takes_none
    c.in_ok-send_all.ensures.sends _ c.in_ok-count.count (gives_piece _ _ c.in_ok-count.count
    c.make_buffer.new.buffer.len c.read.new.buffer _ _ refl
    (c.in_ok-count.ensures.length ∙ c.deref_mut.ensures.len) c.in_ok-count.ensures.gives.1)
