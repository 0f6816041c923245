use Rattle.std.proofs.Common.{◌∙◌, ◌++◌, ℕ, List, ap, sym, take, get_or, arith}
use Rattle.std.proofs.lemmas.List.{append-nil, append_assoc, take_more}
use Rattle.h2_folder.specs.LogLines.{log_octet, log_octets}
use Rattle.h2_folder.proofs.LogLemmas.{log_octets_more}
use Rattle.h2_folder.proofs.log.add_escaped.Goals as goal

pub loop-octet-init : goal.loop-octet-init
unfolding log_octets
loop-octet-init c = sym (append-nil c.args.line.now.items)

pub loop-octet-preserved : goal.loop-octet-preserved
loop-octet-preserved c =
    let before = c.args.line.now.items in
    let octets = c.args.octets.now in
    let index = c.loop-octet.octet-index in
    let so_far = log_octets (take index octets) in
    c.in_ok-add_one.ensures
    ∙ ap (λ (line : List ℕ). line ++ log_octet (get_or octets index 0)) c.loop-octet.invariant
    ∙ append_assoc before so_far (log_octet (get_or octets index 0))
    ∙ ap (λ (rest : List ℕ). before ++ rest)
    (sym (log_octets_more (take index octets) (get_or octets index 0))
    ∙ ap log_octets (sym (take_more octets index 0 (omega arith))))
