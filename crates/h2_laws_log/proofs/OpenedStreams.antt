-- A number on which this end has sent END_STREAM is used, and a server's stream is active once the
-- block that opens it has come: so it may be reset then.
use Rattle.h2_laws_log.proofs.Names
use Names.{subst, list_any, both_ways, or_cases, or_parts, or_from, or_left, and_parts, and_right}
use Names.{eqb-true, eq-eqb, false_from_ne_true, Data, Settings, Item, alone, block, Role, Client}
use Names.{Server, is_block_on, ends, resets, is_goaway, is_goaway_below, is_server, Event}
use Names.{reports_unprocessed, Idle, is_above, is_active, is_used, Log, state, goaway_written}
use Names.{log_view, AllowedHistory, starts, reads, writes, Allowed, MayOpen, MayContinue, MayReset}
use Names.{◌≡◌, ◌⊎◌, ℕ, ◌%◌, ◌==◌, ◌&&◌, Bool, true, false, List, [], ◌∷◌, refl, inl, inr}
use Names.{peer_opens}
use Rattle.h2_laws_log.proofs.ItemLists.{below_quiet}
use Rattle.h2_laws_log.proofs.LogHistory.{history_of}
use Rattle.h2_laws_log.proofs.LogInvariant.{NumbersFit}
use Rattle.h2_laws_log.proofs.ReaderStates.{active_by_parts, active_used}
use Rattle.h2_laws_log.proofs.ReplyInvariant.{used_more, used_here, resets_used, idle_unused}
use Rattle.h2_laws_log.proofs.StreamNumbers.{opening_uses}

-- A block that may be written is of a number that is used then.
block_uses : (role : Role) (i : ℕ) (end : Bool) (octets : List ℕ) (received sent : List Item)
    → MayOpen role i received sent ⊎ MayContinue role i received sent
    → is_used role i received (block i end octets ∷ sent) ≡ true
block_uses role i end octets received sent (inl opens) =
    opening_uses role i end octets received sent opens.client opens.odd
block_uses role i end octets received sent (inr goes) =
    used_more role i [] (block i end octets ∷ []) received sent (active_used _ _ _ _ [] goes.active)

-- What may be written with END_STREAM is of a number that is used then.
end_uses : (role : Role) (i : ℕ) (received sent : List Item) (item : Item)
    → Allowed role received sent item → ends i item ≡ true
    → is_used role i received (item ∷ sent) ≡ true
unfolding ends
end_uses role i received sent (block stream end octets) allowed is =
    subst (λ (j : ℕ). is_used role j received (block stream end octets ∷ sent) ≡ true)
    (eqb-true stream i (and_parts _ _ is).0)
    (block_uses role stream end octets received sent allowed.1)
end_uses role i received sent (alone (Data stream end octets pad)) allowed is =
    subst (λ (j : ℕ). is_used role j received (alone (Data stream end octets pad) ∷ sent) ≡ true)
    (eqb-true stream i (and_parts _ _ is).0)
    (used_more role stream [] (alone (Data stream end octets pad) ∷ []) received sent
    (active_used role stream received sent [] (allowed.1).goes_on.active))
end_uses role i received sent (alone frame) allowed is = absurd (both_ways false refl is)

-- An opening ends nothing.
settings_end : (i : ℕ) (ack : Bool) (pairs : List (ℕ × ℕ))
    → ends i (alone (Settings ack pairs)) ≡ false
unfolding ends
settings_end i ack pairs = refl

-- What was ended is used.
pub ends_used : (role : Role) (i : ℕ) (received sent : List Item)
    → AllowedHistory role received sent → list_any (ends i) sent ≡ true
    → is_used role i received sent ≡ true
ends_used role i _ _ (starts values ok) some =
    absurd (both_ways _ (or_from _ _ (settings_end i false _) refl) some)
ends_used role i _ sent (reads {received = received} item with_sent) some =
    used_more role i (item ∷ []) [] received sent (ends_used role i received sent with_sent some)
ends_used role i received _ (writes {sent = sent} item with_sent allowed) some =
    elim (or_cases _ _ some) [
      | inl here ↦ end_uses _ _ _ _ item allowed here
      | inr before ↦ used_more _ _ [] (item ∷ []) _ _ (ends_used _ _ _ _ with_sent before)
    ]

-- Where there is no GOAWAY, none is below a number.
pub no_goaway_below : (i : ℕ) (items : List Item) → list_any is_goaway items ≡ false
    → list_any (is_goaway_below i) items ≡ false
no_goaway_below i [] none = refl
no_goaway_below i (item ∷ items) none =
    let both = or_parts (is_goaway item) (list_any is_goaway items) none in
    or_from _ _ (below_quiet i item both.0) (no_goaway_below i items both.1)

-- A server's stream is active once its block was read.
pub open_at_server : (role : Role) (i : ℕ) (received sent : List Item) (reported : List Event)
    → role ≡ Server → i % 2 == 1 ≡ true → list_any (is_block_on i) received ≡ true
    → list_any (is_goaway_below i) sent ≡ false → list_any (ends i) sent ≡ false
    → list_any (resets i) received ≡ false → list_any (resets i) sent ≡ false
    → list_any (reports_unprocessed i) reported ≡ false
    → is_active role i received sent reported ≡ true
unfolding is_above
open_at_server Client i received sent reported server odd here below unended unreset kept unnamed =
    cc
open_at_server Server i received sent reported server odd here below unended unreset kept unnamed =
    active_by_parts Server i received sent reported odd here below
    (and_right (list_any (ends i) received) (list_any (ends i) sent) unended) unreset kept unnamed

-- A block resets nothing.
pub block_resets : (i id : ℕ) (end : Bool) (octets : List ℕ)
    → resets i (block id end octets) ≡ false
unfolding resets
block_resets i id end octets = refl

-- It is a server where the peer opens streams.
pub server_of : (role : Role) (odd : Bool) → (is_server role && odd) ≡ true → role ≡ Server
server_of Server odd is = refl
server_of Client odd is = absurd (both_ways false refl is)

-- The block stands first.
pub block_first : (i : ℕ) (end : Bool) (octets : List ℕ) (received : List Item)
    → list_any (is_block_on i) (block i end octets ∷ received) ≡ true
unfolding is_block_on
block_first i end octets received = or_left (i == i) _ (eq-eqb i i refl)

-- An idle stream that the peer opens, before any GOAWAY was sent, may be reset.
pub idle_resets : (log : Log) (i : ℕ) (end : Bool) (octets : List ℕ)
    → AllowedHistory log.role log.received log.sent → NumbersFit (history_of log)
    → state log i ≡ Idle → peer_opens (log_view log) i ≡ true → goaway_written log ≡ false
    → MayReset log.role i (block i end octets ∷ log.received) log.sent
idle_resets log i end octets with_sent fit idle opens stays =
    let unused = idle_unused _ _ _ idle in
    let once = false_from_ne_true _ (λ some. both_ways _ unused
    (resets_used _ _ _ _ with_sent some)) in
    record {
      used = used_here _ _ _ _ _ _ opens;
      once = once;
      active = inl (open_at_server _ _ _ _ [] (server_of log.role _ opens) (and_parts _ _ opens).1
          (block_first _ _ _ _) (no_goaway_below _ _ stays)
          (false_from_ne_true _ (λ some. both_ways _ unused (ends_used _ _ _ _ with_sent some)))
          (or_from _ _ (block_resets _ _ _ _) (false_from_ne_true _ (λ some.
          both_ways _ unused (fit.reset_read i some)))) once refl);
    }
