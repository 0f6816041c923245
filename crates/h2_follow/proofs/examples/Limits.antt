-- The limits in force, by the frames of both sides so far, the newest of which is first.
use Rattle.h2_follow.proofs.Names.{◌≡◌, [], ◌∷◌, true, false, refl, Client, Server}
use Rattle.h2_frame.specs.Frames.{Settings}
use Rattle.h2_follow.specs.InForce.{SentFrame, frame_bound, in_force, table_bound}
use Rattle.h2_follow.specs.Unchecked.{allows_unread}

-- SETTINGS of the server with MAX_FRAME_SIZE 32,768, and with 16,384
abbrev larger : SentFrame
larger = (Server, Settings false ((5, 32768) ∷ []))

abbrev smaller : SentFrame
smaller = (Server, Settings false ((5, 16384) ∷ []))

-- the acknowledgment of the client
abbrev acknowledges : SentFrame
acknowledges = (Client, Settings true [])

-- before any SETTINGS a frame has 16,384 octets at most, so that one of 20,000 is a fault
-- rule: follow (own) What a side may send follows the other's SETTINGS, and its own ACK
no_settings : frame_bound 16384 (in_force Client []) ≡ 16384
no_settings = refl

-- after the server's SETTINGS a frame of the client of 20,000 octets is right, before the ACK too
raised : frame_bound 16384 (in_force Client (larger ∷ [])) ≡ 32768
raised = refl

raised_and_acknowledged : frame_bound 16384 (in_force Client (acknowledges ∷ larger ∷ [])) ≡ 32768
raised_and_acknowledged = refl

-- but one of the server isn't
others_own : frame_bound 16384 (in_force Server (larger ∷ [])) ≡ 16384
others_own = refl

-- a lower limit is in force from the acknowledgment on, and not from the SETTINGS
lowered_later : frame_bound 16384 (in_force Client (smaller ∷ acknowledges ∷ larger ∷ [])) ≡ 32768
lowered_later = refl

lowered : frame_bound 16384
    (in_force Client (acknowledges ∷ smaller ∷ acknowledges ∷ larger ∷ [])) ≡ 16384
lowered = refl

-- each acknowledgment is of the first SETTINGS that none was for
first_of_two : frame_bound 16384 (in_force Client (acknowledges ∷ smaller ∷ larger ∷ [])) ≡ 32768
first_of_two = refl

-- SETTINGS without the setting change nothing of it
other_settings : frame_bound 16384 (in_force Client
    (acknowledges ∷ (Server, Settings false ((3, 100) ∷ [])) ∷ acknowledges ∷ larger ∷ []))
    ≡ 32768
other_settings = refl

-- and --max-frame is the least that is in force
least : frame_bound 65536 (in_force Client (larger ∷ [])) ≡ 65536
least = refl

-- a lower table: it has to be lowered in the first block after the acknowledgment
abbrev without_table : SentFrame
without_table = (Server, Settings false ((1, 0) ∷ []))

first_table : table_bound (in_force Client []) ≡ 4096
first_table = refl

table_later : table_bound (in_force Client (without_table ∷ [])) ≡ 4096
table_later = refl

table_lowered : table_bound (in_force Client (acknowledges ∷ without_table ∷ [])) ≡ 0
table_lowered = refl

-- a greater table than is kept, before the acknowledgment too
abbrev large_table : SentFrame
large_table = (Server, Settings false ((1, 65537) ∷ []))

-- rule: follow (own) Where SETTINGS allow a side more than is read, a line says so once
unread_table : allows_unread (in_force Client (large_table ∷ [])) ≡ true
unread_table = refl

-- a table of just so much is kept
kept_table : allows_unread (in_force Client ((Server, Settings false ((1, 65536) ∷ [])) ∷ [])) ≡ false
kept_table = refl

-- what allows the client more allows the server nothing
unread_other : allows_unread (in_force Server (large_table ∷ [])) ≡ false
unread_other = refl

-- longer frames than are taken
unread_frames : allows_unread (in_force Client ((Server, Settings false ((5, 1048577) ∷ [])) ∷ []))
    ≡ true
unread_frames = refl
