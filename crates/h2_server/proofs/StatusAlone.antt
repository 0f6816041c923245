-- An answer that is a status alone.
use Rattle.std.proofs.Common.{◌≡◌, refl}
use Rattle.std.specs.Prelude.{ℕ, [], None, decimal}
use Rattle.h2_message.specs.declared.message.Message.{Message}
use Rattle.h2_message.specs.Messages.{response_head}
use Rattle.h2_message.specs.Values.{message_value}
use Rattle.h2_server.specs.Giving.{status_alone}

-- Such a message has this value.
pub status_value : (message : Message) (status : ℕ)
    → (message.head.items ≡ response_head (decimal status)) × (message.body.items ≡ [])
    × (message.trailers ≡ None)
    → message_value message ≡ status_alone status
status_value message status is = rw (is.0, is.1, is.2) refl
