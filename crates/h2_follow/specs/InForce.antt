-- What the SETTINGS of one side allow the other (RFC 9113, sections 6.5 and 6.5.3): a side may use
-- what the other's SETTINGS say from where they stand in the text, and has to keep to it from its
-- own acknowledgment on. So of the values that it acknowledged last and of those that were sent
-- since, the greatest is in force.
-- contract: h2_follow::follow_input
use Rattle.std.specs.Prelude.{ℕ, ◌==◌, max, true, false, if◌then◌else◌, List, []}
use Rattle.std.specs.Prelude.{◌∷◌, ◌++◌}
use Rattle.h2_frame.specs.Frames.{Frame, Settings}
use Rattle.h2_show.specs.declared.options.Side.{Side}
use Rattle.h2_show.specs.declared.options.Side.TheVariants.{Client, Server}
use Rattle.h2_follow.specs.declared.in_force.Values.{Values}
use Rattle.h2_follow.specs.declared.in_force.InForce.{InForce}

-- What the SETTINGS of the other side say to a side.
pub record Bound : Type 0 where
  -- the values that the side acknowledged last, or the first ones
  pub acknowledged : Values
  -- the values of the SETTINGS that it hasn't acknowledged, in order
  pub waiting : List Values
  -- the values of the last SETTINGS, which stay where the next don't change them
  pub newest : Values

-- the values before any SETTINGS (section 6.5.2)
-- rule: follow (own) What a side may send follows the other's SETTINGS, and its own ACK
abbrev pub values_at_first : Values
values_at_first = record { max_frame = 16384; table = 4096 }

abbrev pub first_bound : Bound
first_bound = record { acknowledged = values_at_first; waiting = []; newest = values_at_first }

-- the values after a pair: HEADER_TABLE_SIZE is 1, and MAX_FRAME_SIZE 5
-- rule: follow (own) What a side may send follows the other's SETTINGS, and its own ACK
abbrev pub with_pair : Values → ℕ × ℕ → Values
with_pair values pair =
    if pair.0 == 1 then record { max_frame = values.max_frame; table = pair.1 }
    else if pair.0 == 5 then record { max_frame = pair.1; table = values.table } else values

-- and after pairs, in order: the last value of a setting stays (section 6.5.3)
-- rule: follow (own) What a side may send follows the other's SETTINGS, and its own ACK
abbrev pub with_pairs : Values → List (ℕ × ℕ) → Values
with_pairs values [] = values
with_pairs values (pair ∷ pairs) = with_pairs (with_pair values pair) pairs

-- the other side has sent SETTINGS with these pairs
-- rule: follow (own) What a side may send follows the other's SETTINGS, and its own ACK
abbrev pub announced : List (ℕ × ℕ) → Bound → Bound
announced pairs bound = record {
  acknowledged = bound.acknowledged;
  waiting = bound.waiting ++ with_pairs bound.newest pairs ∷ [];
  newest = with_pairs bound.newest pairs;
}

-- the first of the values that wait are acknowledged, where some do
abbrev pub with_first : List Values → Bound → Bound
with_first [] bound = bound
with_first (values ∷ more) bound =
    record { acknowledged = values; waiting = more; newest = bound.newest }

-- the side has acknowledged SETTINGS, the first of those that it hasn't yet
-- rule: follow (own) What a side may send follows the other's SETTINGS, and its own ACK
abbrev pub acknowledged : Bound → Bound
acknowledged bound = with_first bound.waiting bound

-- what a side may send after a frame of its own
-- rule: follow (own) What a side may send follows the other's SETTINGS, and its own ACK
abbrev pub after_own : Frame → Bound → Bound
after_own (Settings true pairs) bound = acknowledged bound
after_own _ bound = bound

-- and after one of the other side
-- rule: follow (own) What a side may send follows the other's SETTINGS, and its own ACK
abbrev pub after_others : Frame → Bound → Bound
after_others (Settings false pairs) bound = announced pairs bound
after_others _ bound = bound

-- frames of both sides
abbrev pub SentFrame : Type 0
SentFrame = Side × Frame

abbrev pub after_sent : (side : Side) → SentFrame → Bound → Bound
after_sent Client (Client, frame) bound = after_own frame bound
after_sent Client (Server, frame) bound = after_others frame bound
after_sent Server (Client, frame) bound = after_others frame bound
after_sent Server (Server, frame) bound = after_own frame bound

-- what a side may send after the frames of both sides, the newest of which is first
-- rule: follow (own) What a side may send follows the other's SETTINGS, and its own ACK
abbrev pub in_force : Side → List SentFrame → Bound
in_force side [] = first_bound
in_force side (item ∷ items) = after_sent side item (in_force side items)

-- the greatest payload, and the greatest table, of these values and of `most`
abbrev pub greatest_frame : (most : ℕ) → List Values → ℕ
greatest_frame most [] = most
greatest_frame most (values ∷ more) = greatest_frame (max most values.max_frame) more

abbrev pub greatest_table : (most : ℕ) → List Values → ℕ
greatest_table most [] = most
greatest_table most (values ∷ more) = greatest_table (max most values.table) more

-- the most octets of a payload that a side may send, which is `least` at least
-- rule: follow (own) What a side may send follows the other's SETTINGS, and its own ACK
abbrev pub frame_bound : (least : ℕ) → Bound → ℕ
frame_bound least bound =
    greatest_frame (max least bound.acknowledged.max_frame) bound.waiting

-- the greatest table of its encoder
-- rule: follow (own) What a side may send follows the other's SETTINGS, and its own ACK
abbrev pub table_bound : Bound → ℕ
table_bound bound = greatest_table bound.acknowledged.table bound.waiting

-- what the code keeps of it
abbrev pub bound_of : InForce → Bound
bound_of in_force = record {
  acknowledged = in_force.acknowledged;
  waiting = in_force.waiting.items;
  newest = in_force.newest;
}
