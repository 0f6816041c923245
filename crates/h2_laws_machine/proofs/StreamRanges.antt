-- The windows of streams are in their ranges: what an entry that is set, removed or shifted makes
-- of that.
use Rattle.h2_laws_machine.proofs.Names
use Names.{◌≡◌, ◌≢◌, ℕ, ◌+◌, ◌-◌, ◌≤◌, ◌==◌, nat_lt, ◌&&◌, ◌||◌, Bool, true, false, cond}
use Names.{if◌then◌else◌, ℤ, pos, ◌+ℤ◌, ◌-ℤ◌, List, [], ◌∷◌, Option, Some, None, refl, sym, ap}
use Names.{subst, ◌∙◌, arith, false_from_ne_true, ints, nat_cmp, at_least_none, exceeds}
use Names.{overflows_by, StreamView, greatest_window, StreamEntry, active_entry, reset_entry}
use Names.{StreamMap, stream_in, above_by_shift, any_above, shifted_entry, recv_shifted_entry}
use Names.{each_entry, changed_entry, get_each, get_set, get_removed, neither_other}
use Rattle.std.proofs.Common.{negsuc, int_lt, ltb-false, eqb-true}
use Rattle.h2_laws_log.proofs.CallConditions.{neither_one}
use Rattle.std.specs.FinMap as map

-- A stream's windows are in their ranges, by the initial windows of the peer and of this end.
pub record WindowsFit (peer own : ℕ) (stream : StreamView) : Type 0 where
  pub send_most : int_lt (pos greatest_window) stream.send_window ≡ false
  pub send_least : int_lt (stream.send_window +ℤ pos greatest_window) (pos peer) ≡ false
  pub recv_most : int_lt (pos own) (stream.recv_window +ℤ pos stream.owed) ≡ false
  pub recv_least : int_lt (stream.recv_window +ℤ pos greatest_window) (pos own) ≡ false

-- So are those of all active streams, whose numbers aren't 0.
abbrev pub StreamsFit : (peer own : ℕ) → StreamMap → Type 0
StreamsFit peer own m = (i : ℕ) (stream : StreamView) → stream_in (map.get m i) ≡ Some stream
    → (i ≢ 0) × WindowsFit peer own stream

-- An entry is set whose stream is in range, by the test whether a number is its own.
set_by : (peer own : ℕ) (m : StreamMap) (k : ℕ) (v : StreamEntry) (q : ℕ) (s : StreamView)
    (b : Bool)
    → (q == k) ≡ b
    → ((t : StreamView) → stream_in (Some v) ≡ Some t → (k ≢ 0) × WindowsFit peer own t)
    → StreamsFit peer own m → stream_in (if b then Some v else map.get m q) ≡ Some s
    → (q ≢ 0) × WindowsFit peer own s
set_by peer own m k v q s true same one all is =
    let h = one s is in (λ zero. h.0 (sym (eqb-true q k same) ∙ zero), h.1)
set_by peer own m k v q s false same one all is = all q s is

-- An entry is set whose stream is in range.
entry_fits : (peer own : ℕ) (m : StreamMap) (k : ℕ) (v : StreamEntry)
    → ((t : StreamView) → stream_in (Some v) ≡ Some t → (k ≢ 0) × WindowsFit peer own t)
    → StreamsFit peer own m → StreamsFit peer own (map.insert m k v)
entry_fits peer own m k v one all q s is =
    set_by peer own m k v q s (q == k) refl one all (sym (ap stream_in (get_set m k v q)) ∙ is)

-- A stream that is the same is in range too.
same_fits : (peer own : ℕ) (stream other : StreamView) → WindowsFit peer own stream
    → Some stream ≡ Some other → WindowsFit peer own other
same_fits peer own stream other h is =
    let same : stream ≡ other = cc in subst (WindowsFit peer own) same h

-- A stream is set that is in range.
pub set_fits : (peer own : ℕ) (m : StreamMap) (k : ℕ) (stream : StreamView) → k ≢ 0
    → WindowsFit peer own stream → StreamsFit peer own m
    → StreamsFit peer own (map.insert m k (active_entry stream))
set_fits peer own m k stream apart one all =
    entry_fits peer own m k (active_entry stream) (λ t is. (apart, same_fits _ _ _ t one is)) all

-- A stream is reset.
pub reset_fits : (peer own : ℕ) (m : StreamMap) (k : ℕ) → StreamsFit peer own m
    → StreamsFit peer own (map.insert m k reset_entry)
reset_fits peer own m k all = entry_fits peer own m k reset_entry (λ t is. absurd (cc)) all

-- An entry is removed, by the test whether a number is its own.
removed_by : (peer own : ℕ) (m : StreamMap) (q : ℕ) (s : StreamView) (b : Bool)
    → StreamsFit peer own m → stream_in (if b then None else map.get m q) ≡ Some s
    → (q ≢ 0) × WindowsFit peer own s
removed_by peer own m q s true all is = absurd (cc)
removed_by peer own m q s false all is = all q s is

-- An entry is removed.
pub removed_fits : (peer own : ℕ) (m : StreamMap) (k : ℕ) → StreamsFit peer own m
    → StreamsFit peer own (map.remove m k)
removed_fits peer own m k all q s is =
    removed_by peer own m q s (q == k) all (sym (ap stream_in (get_removed m k q)) ∙ is)

-- A send window that is shifted is at most the greatest, where the test says so.
shift_most : (greatest old new : ℕ) (w : ℤ)
    → int_lt (pos (greatest + old)) (w +ℤ pos new) ≡ false
    → int_lt (pos greatest) ((w +ℤ pos new) -ℤ pos old) ≡ false
shift_most greatest old new w is = false_from_ne_true _ (λ less. omega (arith, ints))

-- A window that is shifted is as far below the initial window.
shift_least : (greatest old new : ℕ) (w : ℤ) → int_lt (w +ℤ pos greatest) (pos old) ≡ false
    → int_lt (((w +ℤ pos new) -ℤ pos old) +ℤ pos greatest) (pos new) ≡ false
shift_least greatest old new w is = false_from_ne_true _ (λ less. omega (arith, ints))

-- A receive window that is shifted is, with what is owed, at most the initial window.
shift_owed : (old new owed : ℕ) (w : ℤ) → int_lt (pos old) (w +ℤ pos owed) ≡ false
    → int_lt (pos new) (((w +ℤ pos new) -ℤ pos old) +ℤ pos owed) ≡ false
shift_owed old new owed w is = false_from_ne_true _ (λ less. omega (arith, ints))

-- An initial window brings no stream's send window above the greatest.
abbrev pub NoneAbove : (old new : ℕ) → StreamMap → Type 0
NoneAbove old new m = (i : ℕ) (stream : StreamView) → stream_in (map.get m i) ≡ Some stream
    → int_lt (pos (greatest_window + old)) (stream.send_window +ℤ pos new) ≡ false

-- An entry that is found isn't above by a shift where none is, by the test whether it is the first.
not_above_by : (old new : ℕ) (first x : StreamEntry) (found : Option StreamEntry) (any b : Bool)
    → (above_by_shift old new first || any) ≡ false → cond b (Some first) found ≡ Some x
    → (found ≡ Some x → any ≡ false → above_by_shift old new x ≡ false)
    → above_by_shift old new x ≡ false
not_above_by old new first x found any true none is following =
    let same : first ≡ x = cc in
    sym (ap (above_by_shift old new) same) ∙ neither_one _ _ none
not_above_by old new first x found any false none is following =
    following is (neither_other (above_by_shift old new first) any none)

-- An entry that is found isn't above by a shift where none is.
not_above : (old new q : ℕ) (x : StreamEntry) (es : List (ℕ × StreamEntry))
    → any_above old new es ≡ false
    → map.find nat_cmp q es ≡ Some x → above_by_shift old new x ≡ false
unfolding any_above
not_above old new q x [] none is = absurd (cc)
not_above old new q x (e ∷ es) none is =
    not_above_by _ _ _ _ _ _ _ none is (λ found any. not_above old new q x es any found)

-- The entry of an active stream.
entry_of : (x : Option StreamEntry) (stream : StreamView) → stream_in x ≡ Some stream
    → x ≡ Some (active_entry stream)
entry_of (Some reset_entry) stream is = cc
entry_of x stream is = cc

-- Where no entry is above by a shift, no stream's window is.
pub none_above : (old new : ℕ) (m : StreamMap) → any_above old new (map.entries m) ≡ false
    → NoneAbove old new m
none_above old new m none i stream is =
    not_above old new i (active_entry stream) (map.entries m) none
    (sym (map.get-entries m i) ∙ entry_of (map.get m i) stream is)

-- The same initial window brings none above.
pub none_above_same : (old own : ℕ) (m : StreamMap) → StreamsFit old own m → NoneAbove old old m
none_above_same old own m all i stream is =
    let most : int_lt (pos greatest_window) stream.send_window ≡ false =
    (all i stream is).1.send_most in
    above_same greatest_window old stream.send_window most
  where
    above_same : (greatest old : ℕ) (w : ℤ) → int_lt (pos greatest) w ≡ false
        → int_lt (pos (greatest + old)) (w +ℤ pos old) ≡ false
    above_same greatest old w is = false_from_ne_true _ (λ less. omega (arith, ints))

-- Send windows are shifted, by the entry.
send_by : (old new own q : ℕ) (x : Option StreamEntry) (s : StreamView)
    → ((t : StreamView) → stream_in x ≡ Some t → (q ≢ 0) × WindowsFit old own t)
    → ((t : StreamView) → stream_in x ≡ Some t
    → int_lt (pos (greatest_window + old)) (t.send_window +ℤ pos new) ≡ false)
    → stream_in (changed_entry (shifted_entry old new) x) ≡ Some s
    → (q ≢ 0) × WindowsFit new own s
send_by old new own q None s all most is = absurd (cc)
send_by old new own q (Some reset_entry) s all most is = absurd (cc)
send_by old new own q (Some (active_entry t)) s all most is =
    let h = all t refl in (
      h.0,
      same_fits new own
          (record t { send_window = (t.send_window +ℤ pos new) -ℤ pos old }) s (assumption (
            shift_most greatest_window old new t.send_window (most t refl),
            shift_least greatest_window old new t.send_window h.1.send_least,
            h,
          )) is,
    )

-- Send windows are shifted to another initial window of the peer's.
pub send_shifted_fits : (old new own : ℕ) (m : StreamMap) → NoneAbove old new m
    → StreamsFit old own m → StreamsFit new own (each_entry (shifted_entry old new) m)
send_shifted_fits old new own m none all q s is =
    send_by _ _ _ q _ s (all q) (none q) (sym (ap stream_in (get_each _ _ q)) ∙ is)

-- Receive windows are shifted, by the entry.
recv_by : (peer old new q : ℕ) (x : Option StreamEntry) (s : StreamView)
    → ((t : StreamView) → stream_in x ≡ Some t → (q ≢ 0) × WindowsFit peer old t)
    → stream_in (changed_entry (recv_shifted_entry old new) x) ≡ Some s
    → (q ≢ 0) × WindowsFit peer new s
recv_by peer old new q None s all is = absurd (cc)
recv_by peer old new q (Some reset_entry) s all is = absurd (cc)
recv_by peer old new q (Some (active_entry t)) s all is =
    let h = all t refl in (
      h.0,
      same_fits peer new
          (record t { recv_window = (t.recv_window +ℤ pos new) -ℤ pos old }) s (assumption (
            shift_owed old new t.owed t.recv_window h.1.recv_most,
            shift_least greatest_window old new t.recv_window h.1.recv_least,
            h,
          )) is,
    )

-- Receive windows are shifted to another initial window of this end's.
pub recv_shifted_fits : (peer old new : ℕ) (m : StreamMap) → StreamsFit peer old m
    → StreamsFit peer new (each_entry (recv_shifted_entry old new) m)
recv_shifted_fits peer old new m all q s is =
    recv_by peer old new q (map.get m q) s (all q) (sym (ap stream_in (get_each _ _ q)) ∙ is)

-- A receive window after DATA is as far below the initial window, by the test whether that has
-- octets.
data_least : (greatest own count : ℕ) (w : ℤ) (some : Bool) → nat_lt 0 count ≡ some
    → (some && int_lt w (pos count)) ≡ false → own ≤ greatest
    → int_lt (w +ℤ pos greatest) (pos own) ≡ false
    → int_lt ((w -ℤ pos count) +ℤ pos greatest) (pos own) ≡ false
data_least greatest own count w true some fits most is =
    false_from_ne_true _ (λ less. omega (arith, ints))
data_least greatest own count w false none fits most is =
    let zero : count ≤ 0 = ltb-false 0 count none in
    false_from_ne_true _ (λ less. omega (arith, ints, zero))

-- A receive window after DATA is, with what is owed, as great.
data_owed : (own owed count : ℕ) (w : ℤ) → int_lt (pos own) (w +ℤ pos owed) ≡ false
    → int_lt (pos own) ((w -ℤ pos count) +ℤ pos (owed + count)) ≡ false
data_owed own owed count w is = false_from_ne_true _ (λ less. omega (arith, ints))

-- A stream after DATA that doesn't exceed its window.
pub data_fits_stream : (peer own : ℕ) (stream : StreamView) (count : ℕ) (ended : Bool)
    → exceeds count stream.recv_window ≡ false → own ≤ greatest_window
    → WindowsFit peer own stream
    → WindowsFit peer own (record stream {
      recv_window = stream.recv_window -ℤ pos count;
      owed = stream.owed + count;
      ended_in = ended;
    })
data_fits_stream peer own stream count ended fits most h =
    assumption (
      data_owed own stream.owed count stream.recv_window h.recv_most,
      data_least greatest_window _ _ _ (nat_lt 0 count) refl fits most h.recv_least,
      h,
    )

-- A send window after octets that it lets through is at most as great.
sent_most : (greatest count : ℕ) (w : ℤ) → int_lt (pos greatest) w ≡ false
    → int_lt (pos greatest) (w -ℤ pos count) ≡ false
sent_most greatest count w is = false_from_ne_true _ (λ less. omega (arith, ints))

-- A send window after octets that it lets through is as far below the initial window.
sent_least : (greatest peer count : ℕ) (w : ℤ) → count ≤ at_least_none w → peer ≤ greatest
    → int_lt (w +ℤ pos greatest) (pos peer) ≡ false
    → int_lt ((w -ℤ pos count) +ℤ pos greatest) (pos peer) ≡ false
sent_least greatest peer count (pos n) few most is =
    false_from_ne_true _ (λ less. omega (arith, ints))
sent_least greatest peer count (negsuc n) few most is =
    false_from_ne_true _ (λ less. omega (arith, ints))

-- A stream after octets that its window lets through.
pub sent_fits_stream : (peer own : ℕ) (stream : StreamView) (count : ℕ) (ended : Bool)
    → count ≤ at_least_none stream.send_window → peer ≤ greatest_window
    → WindowsFit peer own stream
    → WindowsFit peer own (record stream {
      send_window = stream.send_window -ℤ pos count;
      ended_out = ended;
    })
sent_fits_stream peer own stream count ended few most h =
    assumption (
      sent_most greatest_window count stream.send_window h.send_most,
      sent_least greatest_window peer count stream.send_window few most h.send_least,
      h,
    )

-- A send window that is widened is as far below the initial window.
widened_least : (greatest peer increment : ℕ) (w : ℤ)
    → int_lt (w +ℤ pos greatest) (pos peer) ≡ false
    → int_lt ((w +ℤ pos increment) +ℤ pos greatest) (pos peer) ≡ false
widened_least greatest peer increment w is = false_from_ne_true _ (λ less. omega (arith, ints))

-- A stream whose window is widened to no more than the greatest.
pub widened_fits_stream : (peer own : ℕ) (stream : StreamView) (increment : ℕ)
    → overflows_by increment stream.send_window ≡ false → WindowsFit peer own stream
    → WindowsFit peer own (record stream { send_window = stream.send_window +ℤ pos increment })
widened_fits_stream peer own stream increment fits h =
    assumption (
      fits,
      widened_least greatest_window peer increment stream.send_window h.send_least,
      h,
    )

-- A receive window after a release is, with what is owed, as great or less, by the test whether the
-- peer has ended the stream.
released_owed : (own owed count : ℕ) (w : ℤ) (ended : Bool) → count ≤ owed
    → int_lt (pos own) (w +ℤ pos owed) ≡ false
    → int_lt (pos own) ((if ended then w else w +ℤ pos count) +ℤ pos (owed - count)) ≡ false
released_owed own owed count w true few is = false_from_ne_true _ (λ less. omega (arith, ints))
released_owed own owed count w false few is = false_from_ne_true _ (λ less. omega (arith, ints))

-- A receive window after a release is as far below the initial window or nearer.
released_least : (greatest own count : ℕ) (w : ℤ) (ended : Bool)
    → int_lt (w +ℤ pos greatest) (pos own) ≡ false
    → int_lt ((if ended then w else w +ℤ pos count) +ℤ pos greatest) (pos own) ≡ false
released_least greatest own count w true is = is
released_least greatest own count w false is = false_from_ne_true _ (λ less. omega (arith, ints))

-- A stream after octets that were released, of those that are owed.
pub released_fits_stream : (peer own : ℕ) (stream : StreamView) (count : ℕ) → count ≤ stream.owed
    → WindowsFit peer own stream
    → WindowsFit peer own (record stream {
      owed = stream.owed - count;
      recv_window = if stream.ended_in then stream.recv_window else stream.recv_window +ℤ pos count;
    })
released_fits_stream peer own stream count few h =
    assumption (
      released_owed own stream.owed count stream.recv_window stream.ended_in few h.recv_most,
      released_least greatest_window own count stream.recv_window stream.ended_in h.recv_least,
      h,
    )

-- The initial windows are in range.
at_most : (greatest w : ℕ) → w ≤ greatest → int_lt (pos greatest) (pos w) ≡ false
at_most greatest w few = false_from_ne_true _ (λ less. omega (arith, ints))

-- They are no further below themselves.
at_least : (greatest w : ℕ) → int_lt (pos w +ℤ pos greatest) (pos w) ≡ false
at_least greatest w = false_from_ne_true _ (λ less. omega (arith, ints))

-- A window with nothing owed is itself.
nothing_owed : (w : ℕ) → int_lt (pos w) (pos w +ℤ pos 0) ≡ false
nothing_owed w = false_from_ne_true _ (λ less. omega (arith, ints))

-- A stream that is opened has the initial windows.
pub new_fits_stream : (peer own : ℕ) (ended_in ended_out : Bool) → peer ≤ greatest_window
    → WindowsFit peer own (record {
      send_window = pos peer;
      recv_window = pos own;
      owed = 0;
      ended_in = ended_in;
      ended_out = ended_out;
    })
new_fits_stream peer own ended_in ended_out few = record {
  send_most = at_most greatest_window peer few;
  send_least = at_least greatest_window peer;
  recv_most = nothing_owed own;
  recv_least = at_least greatest_window own;
}

-- Ends of sides change no window.
pub ended_fits_stream : (peer own : ℕ) (stream : StreamView) (ended_in ended_out : Bool)
    → WindowsFit peer own stream
    → WindowsFit peer own (record stream { ended_in = ended_in; ended_out = ended_out })
ended_fits_stream peer own stream ended_in ended_out h = assumption h
