-- No DATA that an end has written passes its windows (RFC 9113, section 6.9.1).
use Rattle.std.specs.Prelude.{◌≡◌, ◌≢◌, ℕ, ◌+◌, ◌==◌, Bool, false, if◌then◌else◌, pos, int_lt}
use Rattle.std.specs.Prelude.{List, [], ◌∷◌, ◌++◌, length, Option}
use Rattle.h2_frame.specs.Frames.{Data}
use Rattle.h2_frame.specs.Encoding.{payload_of}
use Rattle.h2_block.specs.Grouping.{Item, alone}
use Rattle.h2_spec_log.specs.Items.{data_on, total}
use Rattle.h2_spec_log.specs.Acts.{Act, Answer, SendData, Count}
use Rattle.h2_spec_log.specs.Windows.{send_window_of, connection_send_window}
use Rattle.h2_spec_log.specs.Log.{Log}
use Rattle.h2_spec_log.specs.Allowed.{HasAcknowledged}

-- By some first part of what was read, neither send window is negative with this DATA and all that
-- was sent before. All SETTINGS of that part had been acknowledged then, and no later one: those
-- that make windows smaller among them. Which increments had been read then, the lists of items
-- don't tell: for that there is `NewestFits`.
-- rule: 6.9.1 DATA is sent within both windows
pub record IsWithinWindows (received before : List Item) (i : ℕ) (item : Item) : Type 0 where
  pub unread : List Item
  pub read : List Item
  pub front : received ≡ unread ++ read
  pub acknowledged : HasAcknowledged read before
  pub stream : int_lt (send_window_of i read (item ∷ before)) (pos 0) ≡ false
  pub connection : int_lt (connection_send_window read (item ∷ before)) (pos 0) ≡ false

-- Each DATA whose payload has octets was written so. Without octets it takes nothing of a window.
-- rule: 6.9.1 DATA is sent within both windows
abbrev pub NoDataPassesWindows : Log → Type 0
NoDataPassesWindows log = (after before : List Item) (i : ℕ) (end : Bool) (octets : List ℕ)
    (pad : Option ℕ) → log.sent ≡ after ++ alone (Data i end octets pad) ∷ before
    → length (payload_of (Data i end octets pad)) ≢ 0
    → IsWithinWindows log.received before i (alone (Data i end octets pad))

-- Where such DATA was written last, neither send window is negative by all that was read. So it is
-- of the log after each call whose last item is such DATA, and with it of all DATA of that call.
-- rule: 6.9.1 DATA is sent within both windows
abbrev pub NewestFits : Log → Type 0
NewestFits log = (before : List Item) (i : ℕ) (end : Bool) (octets : List ℕ) (pad : Option ℕ)
    → log.sent ≡ alone (Data i end octets pad) ∷ before
    → length (payload_of (Data i end octets pad)) ≢ 0
    → (int_lt (send_window_of i log.received log.sent) (pos 0) ≡ false)
    × (int_lt (connection_send_window log.received log.sent) (pos 0) ≡ false)

-- how many octets calls of `data` have sent on a stream
unfoldable pub octets_by_calls : ℕ → List (Act × Answer) → ℕ
octets_by_calls i [] = 0
octets_by_calls i ((SendData id octets end, Count count) ∷ calls) =
    (if id == i then count else 0) + octets_by_calls i calls
octets_by_calls i (_ ∷ calls) = octets_by_calls i calls

-- No DATA passes the windows, and on each stream as many octets of DATA were written as calls of
-- `data` have sent.
-- rule: 6.9.1 DATA is sent within both windows
pub record KeepsWindows (log : Log) : Type 0 where
  pub within : NoDataPassesWindows log
  pub newest : NewestFits log
  pub by_calls : (i : ℕ) → total (data_on i) log.sent ≡ octets_by_calls i log.calls
