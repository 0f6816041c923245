-- The pair of a request and its answer comes about.
use Rattle.h2_laws_pair.proofs.Names.{true, refl, codes, empty_table, Settings, Headers, computing}
use Rattle.h2_laws_pair.proofs.Names.{octets, Open, SendFields, PutOut, default_values, request}
use Rattle.h2_laws_pair.proofs.Names.{request_block, short_answer, table_with_authority, Some, None}
use Rattle.h2_laws_pair.proofs.Names.{false, []}
use Rattle.h2_spec_log.proofs.examples.Coming.{values_are, are_octets, are_pairs, fields_are_octets}
use Rattle.h2_spec_log.proofs.examples.Coming.{fields_are, pairs_are, long_block, answer_block}
use Rattle.h2_frame.proofs.EncodingLemmas.{below_test as below}
use Rattle.h2_laws_pair.proofs.examples.Steps.{Comes, new_pair, new_pair_comes, client_calls_comes}
use Rattle.h2_laws_pair.proofs.examples.Steps.{server_calls_comes, client_takes_comes}
use Rattle.h2_laws_pair.proofs.examples.Steps.{server_takes_comes, client_takes}
use Rattle.h2_laws_pair.proofs.examples.SmallPair.{client_opening, server_opening, asked_pair}
use Rattle.h2_laws_pair.proofs.examples.SmallPair.{request_on_pipe, settings_delivered}
use Rattle.h2_laws_pair.proofs.examples.SmallPair.{request_delivered, answered_pair, answer_on_pipe}
use Rattle.h2_laws_pair.proofs.examples.SmallPair.{answer_delivered, acknowledgment_on_pipe}
use Rattle.h2_laws_pair.proofs.examples.SmallPair.{quiet_pair}

request_on_pipe_comes : Comes default_values default_values request_on_pipe
unfolding computing fields_are_octets are_octets
request_on_pipe_comes =
    client_calls_comes asked_pair (PutOut 83) (client_calls_comes
    (new_pair default_values default_values) (Open request true)
    (new_pair_comes default_values default_values
    (values_are default_values refl refl refl refl refl refl refl)
    (values_are default_values refl refl refl refl refl refl refl)) (fields_are request refl) tt)
    (below _ _ refl) tt

settings_delivered_comes : Comes default_values default_values settings_delivered
unfolding computing are_pairs
settings_delivered_comes =
    server_takes_comes request_on_pipe None (Settings false client_opening) request_on_pipe_comes
    refl refl refl (pairs_are client_opening refl) refl refl refl refl refl

request_delivered_comes : Comes default_values default_values request_delivered
unfolding computing
request_delivered_comes =
    server_takes_comes settings_delivered
    (Some (record { fields = request; after = table_with_authority }))
    (Headers 1 true true request_block None None) settings_delivered_comes
    refl refl refl (tt, tt) refl refl long_block refl refl

answer_on_pipe_comes : Comes default_values default_values answer_on_pipe
unfolding computing fields_are_octets are_octets
answer_on_pipe_comes =
    server_calls_comes answered_pair (PutOut 52) (server_calls_comes request_delivered
    (SendFields 1 short_answer true) request_delivered_comes
    (below _ _ refl, fields_are short_answer refl) tt) (below _ _ refl) tt

opening_delivered_comes :
    Comes default_values default_values
    (client_takes answer_on_pipe (Settings false server_opening))
unfolding computing are_pairs
opening_delivered_comes =
    client_takes_comes answer_on_pipe None (Settings false server_opening) answer_on_pipe_comes
    refl refl refl (pairs_are server_opening refl) refl refl refl refl refl

answer_delivered_comes : Comes default_values default_values answer_delivered
unfolding computing
answer_delivered_comes =
    client_takes_comes
    (client_takes (client_takes answer_on_pipe (Settings false server_opening)) (Settings true []))
    (Some (record { fields = short_answer; after = empty_table 4096 }))
    (Headers 1 true true (octets (codes "88")) None None)
    (client_takes_comes (client_takes answer_on_pipe (Settings false server_opening)) None
    (Settings true []) opening_delivered_comes refl refl refl tt refl refl refl refl refl)
    refl refl refl (tt, tt) refl refl answer_block refl refl

-- Each step from two new ends on may be the next one, and none disturbs the pair.
pub quiet_pair_comes : Comes default_values default_values quiet_pair
unfolding computing
quiet_pair_comes =
    server_takes_comes acknowledgment_on_pipe None (Settings true [])
    (client_calls_comes answer_delivered (PutOut 9) answer_delivered_comes (below _ _ refl) tt)
    refl refl refl tt refl refl refl refl refl
