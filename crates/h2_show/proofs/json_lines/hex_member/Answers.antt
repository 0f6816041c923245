-- The digits are those of the octets.
use Rattle.h2_show.proofs.Names.{ℕ, List, [], ◌∷◌, ◌∙◌, subst}
use Rattle.json.specs.Token.{Token}
use Rattle.h2_show.specs.JsonLines.{WritesTokens}
use Rattle.h2_show.proofs.json_lines.hex_member.Goals as goal

pub returns : goal.returns
returns c =
    subst (λ (text : List ℕ). WritesTokens c.text_member.result c.args.writer.now
    c.text_member.new.writer (Token.key c.args.name.now ∷ Token.string text ∷ []))
    (c.as_str.ensures.value ∙ c.in_ok-digits.ensures) c.text_member.ensures
