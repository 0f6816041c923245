-- What a handler does whose exchanges are written down.
use Rattle.std.specs.Prelude.{◌≡◌, ◌⊎◌, ◌+◌, ◌-◌, ◌^◌, ℕ, Bool, List, min, is_some}
use Rattle.std.specs.Prelude.{Option, Some, None, Result, Ok, Err}
use Rattle.std.specs.Io.KnownBytes.{Appends, Keeps}
use Rattle.std.specs.Net.Socket.{socket_ip}
use Rattle.std.specs.Net.Text.{ip_text}
use Rattle.std.specs.declared.net.ip_addr.IpAddr.{IpAddr}
use Rattle.hpack.specs.declared.types.field.Field.{Field}
use Rattle.h2_folder.specs.LogLines.{IsLogLine}
use Rattle.h2_folder.specs.declared.log.LogEntry.{LogEntry}
use Rattle.h2_server.specs.declared.handler.Cause.{Cause}
use Rattle.h2_server.specs.declared.handler.HandlerFault.{HandlerFault}
use Rattle.h2_server.specs.declared.handler.HandlerFault.TheVariants.{Memory}
use Rattle.h2_server.specs.declared.handler.Part.{Part}
use Rattle.h2_server.specs.declared.handler.Reply.{Reply}
use Rattle.h2_hosting.specs.Noting.{IsNoted, CountsPart, NotesReply}
use Rattle.h2_hosting.specs.declared.logged.Logged.{Logged}
use Rattle.h2_hosting.specs.declared.logged.Note.{Note}

-- The line is that of an exchange with a peer, as it was noted, at some time.
-- rule: hosts (own) Each request that has ended has one line in the log
abbrev pub IsNoteLine : {W : Type 0} → (peer : IpAddr) → Note W → (line : List ℕ) → Type 0
IsNoteLine peer note line =
    (entry : LogEntry) × (entry.peer.now ≡ ip_text peer) × (entry.method.now ≡ note.method.items)
    × (entry.path.now ≡ note.path.items) × (entry.status ≡ note.status)
    × (entry.octets ≡ note.octets) × IsLogLine entry line

-- A journal has one line more, that of an exchange.
abbrev pub AddsLine : {W : Type 0} → (peer : IpAddr) → Note W → (before after : Option (List ℕ))
    → Type 0
AddsLine peer note before after =
    (line : List ℕ) × IsNoteLine peer note line × Appends before after line

-- an exchange more whose line was lost; no more than 2^64 - 1 are counted
abbrev pub one_more_lost : ℕ → ℕ
one_more_lost lost = min (2 ^ 64 - 1) (lost + 1)

-- An exchange has ended, and its line was added to the journal, or lost where memory was missing,
-- and counted. Without a journal nothing is written down.
-- rule: hosts (own) Each request that has ended has one line in the log
abbrev pub WritesLine : {J W : Type 0} → (lines_of : J → Option (List ℕ)) → (peer : IpAddr)
    → Note W → (before after : Option J) → (lost_before lost_after : ℕ) → Type 0
WritesLine lines_of peer note None None lost_before lost_after = lost_after ≡ lost_before
WritesLine lines_of peer note (Some before) (Some after) lost_before lost_after =
    (AddsLine peer note (lines_of before) (lines_of after) × (lost_after ≡ lost_before))
    ⊎ (Keeps (lines_of before) (lines_of after) × (lost_after ≡ one_more_lost lost_before))
WritesLine lines_of peer note before after lost_before lost_after = ⊥

-- Nothing was written down, nor lost.
pub record KeepsJournal {R J H : Type 0} (old new : Logged R J H) : Type 0 where
  pub peer : new.peer ≡ old.peer
  pub journal : new.journal ≡ old.journal
  pub lost : new.lost ≡ old.lost

-- The head of a request was answered by the handler inside, and noted. Where that has failed, as
-- for want of memory before it was asked, nothing is kept.
abbrev pub HeadsLogged : {R J H W : Type 0}
    → (heads : H → List Field → Bool → Result (W × Reply) HandlerFault → H → Type 0)
    → (old : Logged R J H) → List Field → (end : Bool) → Result (Note W × Reply) HandlerFault
    → (new : Logged R J H) → Type 0
HeadsLogged heads old list end (Ok (note, reply)) new =
    KeepsJournal old new × heads old.handler list end (Ok (note.work, reply)) new.handler
    × IsNoted (is_some old.journal) list reply note
HeadsLogged heads old list end (Err fault) new =
    KeepsJournal old new
    × (((fault ≡ Memory) × (new.handler ≡ old.handler))
    ⊎ heads old.handler list end (Err fault) new.handler)

-- More of a request was answered by the handler inside, and noted.
abbrev pub MoreLogged : {R J H W : Type 0}
    → (told : H → W → Result Reply HandlerFault → W → H → Type 0) → (old : Logged R J H)
    → Note W → Result Reply HandlerFault → (after : Note W) → (new : Logged R J H) → Type 0
MoreLogged told old note reply after new =
    KeepsJournal old new × told old.handler note.work reply after.work new.handler
    × NotesReply note reply after

-- A part of an answer was given by the handler inside, and its octets were counted.
abbrev pub GivesLogged : {R J H W : Type 0}
    → (gives : H → W → Result Part HandlerFault → List ℕ → W → H → Type 0)
    → (old : Logged R J H) → Note W → Result Part HandlerFault → (room : List ℕ)
    → (after : Note W) → (new : Logged R J H) → Type 0
GivesLogged gives old note part room after new =
    KeepsJournal old new × gives old.handler note.work part room after.work new.handler
    × CountsPart note part after

-- An exchange has ended: it has at the handler inside, and its line was written down. Only so is a
-- line written, and of each exchange once.
-- rule: hosts (own) Each request that has ended has one line in the log
abbrev pub EndsLogged : {R J H W : Type 0} → (lines_of : J → Option (List ℕ))
    → (ends : H → W → Cause → H → Type 0) → (old : Logged R J H) → Note W → Cause
    → (new : Logged R J H) → Type 0
EndsLogged lines_of ends old note cause new =
    (new.peer ≡ old.peer) × ends old.handler note.work cause new.handler
    × WritesLine lines_of (socket_ip old.peer) note old.journal new.journal old.lost new.lost
