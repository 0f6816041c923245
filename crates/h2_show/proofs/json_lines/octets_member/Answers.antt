-- Octets are text where they are UTF-8.
use Rattle.h2_show.proofs.Names.{ℕ, List, [], ◌∷◌, ◌∙◌, ap, subst, sym}
use Rattle.std.proofs.lemmas.Str.{IsUtf8-from_is_utf8, is_utf8-from_IsUtf8}
use Rattle.std.proofs.lemmas.Bool.{false_from_ne_true}
use Rattle.json.specs.Token.{Token}
use Rattle.h2_show.specs.JsonLines.{WritesTokens}
use Rattle.h2_show.proofs.JsonLemmas.{octets_as_hex, octets_as_text}
use Rattle.h2_show.proofs.json_lines.octets_member.Goals as goal

pub returns-in-Ok : goal.returns-in-Ok
returns-in-Ok c =
    let known = c.in-Ok.ensures.cases in
    subst (λ (tokens : List Token). WritesTokens c.text_member.result c.args.writer.now
    c.text_member.new.writer tokens)
    (ap (λ (text : List ℕ). Token.key c.args.name.now ∷ Token.string text ∷ []) known.0
    ∙ sym (octets_as_text c.args.name.now c.args.octets.now (is_utf8-from_IsUtf8 _ known.1)))
    c.text_member.ensures

pub returns-in-Err : goal.returns-in-Err
returns-in-Err c =
    let not = false_from_ne_true _
    (λ is. c.in-Err.ensures.cases.0 (IsUtf8-from_is_utf8 c.args.octets.now is)) in
    subst (λ (tokens : List Token). WritesTokens c.hex_member.result c.args.writer.now
    c.hex_member.new.writer tokens)
    (sym (octets_as_hex c.args.name.now c.args.hex_name.now c.args.octets.now c.requires not))
    c.hex_member.ensures
