-- The stream of which an end of a pair hears a part of a message has a number below 2^31 (RFC 9113,
-- section 5.1.1).
use Rattle.h2_joined.proofs.Names.{◌<◌, ◌^◌, ◌==◌, true, [], ◌∷◌, inl, inr, refl, arith}
use Rattle.h2_joined.proofs.Names.{AllByRecursion, list_any, both_ways, Item, alone, block, Role}
use Rattle.h2_joined.proofs.Names.{Values, Event, Log, openings, is_number_used, MayTake, Took}
use Rattle.h2_joined.proofs.Names.{Part, Half, both_logs, part_of_event, Side, is_used, ◌≡◌, ℕ}
use Rattle.h2_joined.proofs.Names.{Bool, false, List, Some, Client, Server}
use Rattle.std.proofs.Common.{◌%◌, ◌&&◌, nat_le}
use Rattle.std.proofs.lemmas.Bool.{or_cases, and_parts, leb-true}
use Rattle.h2_spec_log.specs.Items.{opens_from}
use Rattle.h2_spec_log.specs.Limits.{max_frame_size_sent}
use Rattle.h2_laws_log.specs.Sending.{IsSendable}
use Rattle.h2_laws_end.proofs.SendableCalls.{written_sendable}
use Rattle.h2_laws_pair.proofs.CarriedItems.{items_both_ways}
use Rattle.h2_ends.proofs.EndOrder.{part_in_use}
use Rattle.h2_joined.proofs.HoldsSides.{IsPairAt, has_role_at}
use Rattle.h2_laws_pair.proofs.Lists.{all_older as all_later}
use Rattle.h2_spec_log.specs.declared.role.Role.TheVariants as roles

-- A number that items open is below 2^31, where each of them can be sent.
opens_low : (i : ℕ) (items : List Item) → AllByRecursion (IsSendable max_frame_size_sent) items
    → list_any (opens_from i) items ≡ true → i < 2 ^ 31
unfolding opens_from
opens_low i [] all some = absurd (both_ways false refl some)
opens_low i (alone frame ∷ items) all some = opens_low i items all.1 some
opens_low i (block stream end octets ∷ items) all some =
    elim (or_cases (stream % 2 == 1 && nat_le i stream) (list_any (opens_from i) items) some) [
      | inl here ↦ omega (arith, leb-true i stream (and_parts _ _ here).1, all.0.1)
      | inr after ↦ opens_low i items all.1 after
    ]

-- What was used was opened.
was_opened : (role : Role) (i : ℕ) (received sent : List Item)
    → is_used role i received sent ≡ true
    → list_any (opens_from i) (openings role received sent) ≡ true
unfolding is_used
was_opened role i received sent was = (and_parts _ _ was).1

-- At either end of a pair: a client has written what opens its streams, and a server has read it.
used_low_at : (side : Side) (client_values server_values : Values) (one other : Half)
    (calm : Type 0) (i : ℕ) → IsPairAt side client_values server_values one other calm
    → is_number_used one.log i ≡ true → i < 2 ^ 31
used_low_at Client client_values server_values one other calm i pair was =
    let role = has_role_at Client client_values server_values one other calm pair in
    let opened = was_opened one.log.role i one.log.received one.log.sent was in
    let log = (both_logs client_values server_values one other pair.0).client_log in
    opens_low i one.log.sent (written_sendable roles.Client client_values one.log log)
    (rw role at opened)
used_low_at Server client_values server_values one other calm i pair was =
    let role = has_role_at Server client_values server_values one other calm pair in
    let opened = was_opened one.log.role i one.log.received one.log.sent was in
    let log = (both_logs client_values server_values other one pair.0).client_log in
    let way = (items_both_ways client_values server_values other one pair.0).0 in
    let all = written_sendable roles.Client client_values other.log log in
    opens_low i one.log.received
    (all_later (IsSendable max_frame_size_sent) way.0 one.log.received (rw way.1 at all))
    (rw role at opened)

-- So its number is low.
pub part_low_at : (side : Side) (client_values server_values : Values) (one other : Half)
    (calm : Type 0) (before : Log) (piece : List ℕ) (count : ℕ) (event : Event) (id : ℕ)
    (part : Part × Bool) → IsPairAt side client_values server_values one other calm
    → MayTake before piece (Took count (Some event)) one.log
    → part_of_event event ≡ Some (id, part) → id < 2 ^ 31
part_low_at side client_values server_values one other calm before piece count event id part pair
    may of =
    used_low_at side client_values server_values one other calm id pair
    (part_in_use before one.log piece count event id part may of).1
