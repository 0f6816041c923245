-- The flag, and the array of the pairs.
use Rattle.h2_show.proofs.Names.{ℕ, List, ◌≡◌, ◌++◌, [], sym, ◌∙◌, ap, subst, append-nil, map}
use Rattle.h2_show.proofs.Names.{flat_map, pairs_left, lent_pairs, rules}
use Rattle.json.specs.Token.{Token}
use Rattle.json.specs.Tree.{json_tokens}
use Rattle.h2_show.specs.JsonLines.{pair_json}
use Rattle.h2_show.proofs.JsonLemmas.{array_written, values_next, written_then}
use Rattle.h2_show.proofs.json_lines.settings_members.Goals as goal

pub returns : goal.returns
returns c =
    let pairs = lent_pairs c.args.pairs in
    let all : c.loop-id.yielded ≡ pairs =
    sym (append-nil c.loop-id.yielded)
    ∙ ap (λ (left : List (ℕ × ℕ)). c.loop-id.yielded ++ left) (sym c.in-None.ensures.steps.0)
    ∙ c.loop-id.invariant.left ∙ ap pairs_left c.into_iter-id-iterator.ensures.into_iter_gives
    ∙ c.iter-id-items.ensures in
    written_then c.end_array.result c.args.writer.now c.flag_member.new.writer c.end_array.new.self _
    _ c.in_ok-flag_member.ensures.ok c.in_ok-flag_member.ensures.before
    (array_written c.end_array.result c.flag_member.new.writer c.key.new.self c.begin_array.new.self
    c.loop-id.writer c.end_array.new.self _ (map pair_json pairs) c.in_ok-key.ensures.ok
    c.in_ok-key.ensures.room.0 c.in_ok-begin_array.ensures.ok c.in_ok-begin_array.ensures.room.0
    (c.loop-id.invariant.tokens ∙ ap (λ (shown : List (ℕ × ℕ)).
    c.begin_array.new.self.tokens ++ flat_map json_tokens (map pair_json shown)) all)
    c.loop-id.invariant.before c.end_array.ensures)
