-- What a client has written on two streams: the lists of its field blocks, the octets of its DATA,
-- and the end (RFC 9113, sections 6.1 and 8.1).
use Rattle.h2_laws_pair.proofs.Names
use Names.{codes, Field, Data, Settings, Item, alone, block, Open, SendData, Log, computing, octets}
use Names.{default_values, get_block, request, request_block, short_request, lists_accepted, ◌≡◌}
use Names.{true, false, List, [], ◌∷◌, None, refl, Token, FieldsToken, OctetToken, EndToken}
use Names.{end_tokens, tokens_sent, tokens_of_call, tokens_written}
use Rattle.h2_laws_pair.proofs.examples.Steps.{new_pair, log_called}
use Rattle.h2_laws_pair.proofs.examples.SmallPair.{client_opening}

-- SETTINGS; HEADERS on streams 1 and 3; an octet of DATA on stream 3, and two on stream 1, which
-- end it. The newest item stands first.
abbrev items : List Item
items =
    alone (Data 1 true (octets (codes "6869")) None)
    ∷ alone (Data 3 false (octets (codes "6a")) None) ∷ block 3 false get_block
    ∷ block 1 false request_block ∷ alone (Settings false client_opening) ∷ []

-- the lists of both blocks, the newest first
abbrev lists : List (List Field)
lists = short_request ∷ request ∷ []

-- what is on stream 1, on stream 3, and on stream 5
abbrev on_first : List Token
on_first = FieldsToken request false ∷ OctetToken 104 ∷ OctetToken 105 ∷ EndToken ∷ []

abbrev on_third : List Token
on_third = FieldsToken short_request false ∷ OctetToken 106 ∷ []

-- Each stream has its own: the fields of its block, the octets of its DATA, and its end.
each_has_its_own :
    (tokens_written 1 items lists ≡ on_first) × (tokens_written 3 items lists ≡ on_third)
    × (tokens_written 5 items lists ≡ [])
unfolding computing tokens_written end_tokens
each_has_its_own = (refl, refl, refl)

-- a client that is called so
abbrev opened_log : Log
opened_log =
    log_called (log_called (new_pair default_values default_values).client.log
    (Open request false)) (Open short_request false)

abbrev called_log : Log
called_log =
    log_called (log_called opened_log (SendData 3 (octets (codes "6a")) false))
    (SendData 1 (octets (codes "6869")) true)

-- It has written these items, of these lists; and on both streams what it was called with.
calls_are_written :
    (called_log.sent ≡ items) × (lists_accepted called_log.calls ≡ lists)
    × (tokens_sent 1 called_log.calls ≡ on_first) × (tokens_sent 3 called_log.calls ≡ on_third)
unfolding computing tokens_sent tokens_of_call end_tokens lists_accepted
calls_are_written = (refl, refl, refl, refl)
