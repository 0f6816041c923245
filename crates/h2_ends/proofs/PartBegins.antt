-- What is kept of a message that is begun.
use Rattle.h2_ends.proofs.Names.{◌≡◌, ℕ, List, refl, sym, Field, Reads, EndLog}
use Rattle.h2_ends.proofs.Names.{IsOutgoing, begun, said_tokens, trailers_tokens}
use Rattle.h2_ends.proofs.Names.{end_tokens, is_too_large, trailer_fields, false}
use Rattle.h2_message.specs.Lengths.{length_to_send}
use Rattle.h2_message.specs.declared.parts.BodyLength.{BodyLength}
use Rattle.h2_ends.proofs.PartLengths.{left_of_all}
use Rattle.h2_ends.proofs.RequestHeads.{LeftOf}
use Rattle.h2_ends.specs.declared.outgoing.Outgoing.TheVariants as outgoings

-- It has no trailers.
pub begun_fits : (reads : Reads) (head : List Field)
    → is_too_large (trailer_fields (begun reads head).message.trailers) ≡ false
unfolding trailer_fields
begun_fits reads head = refl

-- Once its head was sent, all of its body is left.
pub left_of_begun : (end : EndLog) (id : ℕ) (reads : Reads) (head : List Field)
    (rest : BodyLength) → rest.left ≡ length_to_send reads head
    → LeftOf end id (begun reads head) (outgoings.Open rest)
unfolding IsOutgoing said_tokens trailers_tokens end_tokens
left_of_begun end id reads head rest is accepted sent =
    record {
      said = begun reads head;
      number = length_to_send reads head;
      accepted = accepted;
      form = refl;
      bare = refl;
      out = sym sent;
      left = left_of_all (length_to_send reads head) rest is;
    }
