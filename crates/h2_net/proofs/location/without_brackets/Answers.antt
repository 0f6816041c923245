-- A host that begins with no bracket, and one that does.
use Rattle.std.proofs.Common.{lit<, sym, refl, Some, None}
use Rattle.std.proofs.lemmas.Str.Pattern.{strip_prefix_char, strip_suffix_char}
use Rattle.h2_net.proofs.HostBrackets.{after_opening, no_opening}
use Rattle.h2_net.proofs.location.without_brackets.Goals as goal

pub returns-in-None : goal.returns-in-None
returns-in-None c =
    sym (no_opening c.args.host.now
    (strip_prefix_char 91 c.args.host.now None c.in-None.ensures.cases
    (lit< tt)))

pub returns-in-Some : goal.returns-in-Some
returns-in-Some c =
    rw c.unwrap_or.ensures (
    after_opening c.args.host.now c.in-Some.inner.now c.strip_suffix.result c.args.host
    (strip_prefix_char 91 c.args.host.now (Some c.in-Some.inner) c.in-Some.ensures.cases (lit< tt))
    refl
    (strip_suffix_char 93 c.in-Some.inner.now c.strip_suffix.result c.strip_suffix.ensures.cases
    (lit< tt)))
