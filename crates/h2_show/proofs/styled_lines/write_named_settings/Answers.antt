-- The words of the pairs follow the others.
use Rattle.h2_show.proofs.Names.{ℕ, List, ◌≡◌, ◌++◌, refl, sym, ◌∙◌, ap, append-nil, codes, length}
use Rattle.h2_show.proofs.Names.{pairs_left, lent_pairs, flag_word}
use Rattle.std.proofs.Common.{decimal, ◌*◌}
use Rattle.std.proofs.Output.{has_written_append, has_written_of_eq}
use Rattle.h2_show.specs.StyledLines.{named_pairs}
use Rattle.h2_show.proofs.NamedLemmas.{named_settings_words}
use Rattle.h2_show.proofs.styled_lines.write_named_settings.Goals as goal

pub returns : goal.returns
returns g c = λ plain ok.
    let first = rw c.settings_length-length.ensures at c.in_ok-write.ensures.writes plain refl in
    let pairs = lent_pairs c.args.pairs in
    let all : c.loop-id.yielded ≡ pairs =
    sym (append-nil c.loop-id.yielded)
    ∙ ap (λ (left : List (ℕ × ℕ)). c.loop-id.yielded ++ left) (sym c.in-None.ensures.steps.0)
    ∙ c.loop-id.invariant.left ∙ ap pairs_left c.into_iter-id-iterator.ensures.into_iter_gives
    ∙ c.iter-id-items.ensures in
    has_written_of_eq _ _ _ _ _
    (ap (λ (shown : List (ℕ × ℕ)).
    (codes "SETTINGS 0 " ++ (decimal (6 * length pairs) ++ flag_word c.args.ack (codes "ack")))
    ++ named_pairs shown) all ∙ named_settings_words c.args.ack pairs)
    (has_written_append _ _ _ _ _ _ first (c.loop-id.invariant.written first.plain))
