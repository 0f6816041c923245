-- Octets in quotes, one after another.
use Rattle.std.specs.Prelude.{◌≡◌, ℕ, List, [], ◌∷◌, ◌++◌}
use Rattle.std.proofs.Common.{◌∙◌, ap, sym}
use Rattle.std.proofs.lemmas.List.{append_assoc, append-nil}
use Rattle.h2_folder.specs.LogLines.{log_octet, log_octets}

-- One more octet in quotes is added to those before it.
pub log_octets_more : (octets : List ℕ) (octet : ℕ)
    → log_octets (octets ++ octet ∷ []) ≡ log_octets octets ++ log_octet octet
unfolding log_octets
log_octets_more [] octet = append-nil (log_octet octet)
log_octets_more (first ∷ octets) octet =
    ap (λ rest. log_octet first ++ rest) (log_octets_more octets octet)
    ∙ sym (append_assoc (log_octet first) (log_octets octets) (log_octet octet))
