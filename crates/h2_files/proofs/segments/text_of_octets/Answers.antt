-- Octets are a text where they are UTF-8.
use Rattle.std.proofs.Common.{◌≡◌, Global, true, false, true≢false, refl, sym, ap, Ok}
use Rattle.std.proofs.Common.{string_bytes, rules}
use Rattle.std.proofs.lemmas.Bool.{false_from_ne_true}
use Rattle.std.proofs.lemmas.Str.{IsUtf8-from_is_utf8, IsUtf8-string_bytes, is_utf8-from_IsUtf8}
use Rattle.std.specs.Str.{is_utf8}
use Rattle.h2_files.proofs.segments.text_of_octets.Goals as goal

pub returns-in-Ok : goal.returns-in-Ok
returns-in-Ok c =
    let same : string_bytes c.in-Ok.text ≡ c.args.octets.items = search rules in
    let utf8 : is_utf8 c.args.octets.items ≡ true =
    is_utf8-from_IsUtf8 _ (rw same at (IsUtf8-string_bytes {Z = Global} c.in-Ok.text)) in
    rw utf8 (ap Ok (sym same))

pub returns : goal.returns
returns c =
    let fails : is_utf8 c.args.octets.items ≡ false =
    false_from_ne_true _ (λ yes.
    true≢false (sym (c.in-Err.ensures.succeeds (IsUtf8-from_is_utf8 _ yes)))) in
    rw fails refl
