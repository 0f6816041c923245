use Rattle.std.proofs.Common.{◌≡◌, ◌∙◌, ℕ, List, [], ap, codes, length, None}
use Rattle.std.specs.Prelude.{if◌then◌else◌}
use Rattle.h2_folder.specs.Heads.{short_text, with_content}
use Rattle.h2_folder.proofs.messages.text_message.Goals as goal

pub returns : goal.returns
returns c =
    let octets : length c.as_slice.result.now ≡ length (short_text c.args.status) =
    ap length (c.as_slice.ensures.value ∙ c.in_ok-text.ensures) in
    let head = c.in_ok-add_content.ensures
    ∙ ap (λ (n : ℕ). with_content (codes "text/plain; charset=utf-8") n c.args.head.items)
    octets in
    let body = c.body_if.ensures
    ∙ ap (λ (text : List ℕ). if c.args.has_body then text else []) c.in_ok-text.ensures in
    λ i. record { head = head i; body = body i; trailers = None }
