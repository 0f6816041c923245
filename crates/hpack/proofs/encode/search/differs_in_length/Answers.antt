use Rattle.hpack.proofs.Names.{ap, sym, ◌∙◌, length, get_or, static_entries, Sought, is_sought}
use Rattle.hpack.proofs.StaticChainLemmas.{differs}
use Rattle.hpack.proofs.WordLemmas.{other_value}
use Rattle.hpack.proofs.encode.search.differs_in_length.Goals as goal

pub returns-in-Exact : goal.returns-in-Exact
returns-in-Exact c = λ other is.
    let one = get_or static_entries c.args.place other in
    other_value c.args.field.now one (λ same. differs c.value_len.result _ is
    (c.value_len.ensures other ∙ (same ∙ ap length (sym c.as_slice.ensures))))
    ∙ ap (λ (sought : Sought). is_sought sought c.args.field.now one) (sym c.in-Exact.is)
