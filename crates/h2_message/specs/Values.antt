-- A message of the code as a value.
use Rattle.std.specs.Prelude.{option_map}
use Rattle.h2_message.specs.declared.message.Message.{Message}
use Rattle.h2_message.specs.Messages.{SentMessage}

-- rule: 8.1.1 (own) A message to be sent is refused for the least of M1 to M11 it breaks
abbrev pub message_value : Message → SentMessage
message_value message = record {
  head = message.head.items;
  body = message.body.items;
  trailers = option_map (λ fields. fields.items) message.trailers;
}
