-- What waits at an end, in octets and pieces: no more after a round, and less where something
-- goes.
use Rattle.std.proofs.Common.{◌≡◌, ◌≢◌, inl, inr, ℕ, zero, suc, ◌+◌, ◌-◌, ◌≤◌, ◌<◌, true}
use Rattle.std.proofs.Common.{List, [], ◌++◌, length, Option, None, Some, Ok, refl, sym, ap}
use Rattle.std.proofs.Common.{◌∙◌, arith, length-append, nat_lt, ltb-true, ltb-false}
use Rattle.std.proofs.lemmas.Bool.{cases_Bool, cases_eq}
use Rattle.h2_spec_log.specs.declared.refusal.Refusal.{Refusal}
use Rattle.h2_spec_log.specs.declared.refusal.Refusal.TheVariants.{OutputFull}
use Rattle.h2_spec_log.specs.declared.role.Role.{Role}
use Rattle.h2_spec_log.specs.Acts.{Values, Act, Answer, SendFields, SendData, Count, Done, Number}
use Rattle.h2_spec_log.specs.Acts.{Refused}
use Rattle.h2_spec_log.specs.Items.{data_of, total}
use Rattle.h2_spec_log.specs.Log.{active}
use Rattle.h2_spec_log.specs.LogCalls.{MayAnswer}
unfoldable use Rattle.h2_spec_log.specs.LogCalls.{with_call}
use Rattle.h2_laws_log.specs.Sums.{sum_below}
use Rattle.h2_laws_log.proofs.LogHistory.{sum_less, sum_moves}
use Rattle.h2_laws_pair.specs.Tokens.{Token}
use Rattle.h2_ends.specs.Ends.{EndLog, tokens_waiting}
use Rattle.h2_ends.specs.EndCalls.{Pumps, pumps_no_more, pumps_data, pumps_trailers, data_refused}
use Rattle.h2_ends.specs.EndCalls.{trailers_refused}
unfoldable use Rattle.h2_ends.specs.EndCalls.{MayPump, octets_among, unsent_on}
use Rattle.h2_ends.specs.Pumping.{end_after_call}
use Rattle.h2_ends.proofs.EndTokens.{refused_tokens}
use Rattle.h2_ends.proofs.PumpStuck.{waiting_same}
use Rattle.h2_ends.proofs.PumpWindows.{data_within}
unfoldable use Rattle.h2_laws_quiet.specs.MostRounds.{shares}
use Rattle.h2_laws_quiet.specs.MostRounds.{octets_left, pieces_on, pieces_left}
use Rattle.h2_laws_quiet.specs.Work.{above_streams}
unfoldable use Rattle.h2_laws_quiet.specs.Work.{tokens_on}
use Rattle.h2_laws_quiet.proofs.FewFrames.{others_among}
use Rattle.h2_laws_quiet.proofs.FewItems.{data_counts, sent_of_all, fields_send_none}
use Rattle.h2_laws_quiet.proofs.FewRounds.{last_waits, released_keeps, w_last, some_first}
use Rattle.h2_laws_quiet.proofs.FewTurns.{Turn}
use Rattle.h2_laws_quiet.proofs.FewCalls.{pump_is_ok}
use Rattle.h2_laws_quiet.proofs.FewWindows.{alive_by}
use Rattle.h2_laws_quiet.proofs.PumpSent.{SentSince, among_since, data_sent, stays_out}
use Rattle.h2_laws_quiet.proofs.PumpSent.{trailers_sent}
use Rattle.h2_laws_quiet.proofs.PumpOctets.{among_both, among_data_here, among_within}
use Rattle.h2_laws_quiet.proofs.WorkOfEnds.{was_active}
use Rattle.h2_laws_quiet.proofs.WorkOfTokens.{sum_ends, none_beyond, on_by}

pub unsent_none : (end : EndLog) (i : ℕ) → tokens_on end i ≡ 0 → unsent_on end i ≡ 0
unfolding tokens_on unsent_on
unsent_none end i none = elim (cases_Bool (active end.log i)) [
  | inl alive ↦ rw alive (omega (arith, among_within (tokens_waiting end i), rw alive at none))
  | inr over ↦ rw over refl
]

pub unsent_alive : (end : EndLog) (i : ℕ) → active end.log i ≡ true
    → unsent_on end i ≡ octets_among (tokens_waiting end i)
unfolding unsent_on
unsent_alive end i alive = rw alive refl

pub tokens_alive : (end : EndLog) (i : ℕ) → active end.log i ≡ true
    → tokens_on end i ≡ length (tokens_waiting end i)
unfolding tokens_on
tokens_alive end i alive = rw alive refl

-- Fewer octets can be cut into no more shares, and a whole share less makes one less.
pub shares_more : (a b share m n : ℕ) → 1 ≤ share → a ≤ m → b ≤ n → a ≤ b
    → shares a share m ≤ shares b share n
unfolding shares
shares_more zero b share m n some one other less = omega arith
shares_more (suc a) b share zero n some one other less = absurd (omega (arith, one))
shares_more (suc a) zero share (suc m) n some one other less = absurd (omega (arith, less))
shares_more (suc a) (suc b) share (suc m) zero some one other less = absurd (omega (arith, other))
shares_more (suc a) (suc b) share (suc m) (suc n) some one other less =
    omega (
      arith,
      shares_more (suc a - share) (suc b - share) share m n some
          (omega (arith, one, some)) (omega (arith, other, some)) (omega (arith, less)),
    )

pub shares_fewer : (a b share m n : ℕ) → 1 ≤ share → a ≤ m → b ≤ n → a + share ≤ b
    → shares a share m + 1 ≤ shares b share n
unfolding shares
shares_fewer a zero share m n some one other less = absurd (omega (arith, some, less))
shares_fewer a (suc b) share m zero some one other less = absurd (omega (arith, other))
shares_fewer a (suc b) share m (suc n) some one other less =
    omega (
      arith,
      shares_more a (suc b - share) share m n some one (omega (arith, other, some))
          (omega (arith, less)),
    )

-- Sums over the streams of an end, none of which has a number beyond.
swapped : (a b : ℕ) (f : ℕ → ℕ) → sum_below (a + b) f ≡ sum_below (b + a) f
swapped a b f = ap (λ (n : ℕ). sum_below n f) (both a b)
  where
    both : (m n : ℕ) → m + n ≡ n + m
    both m n = omega arith

module _ (one other : ℕ) (f g : ℕ → ℕ) (none : (i : ℕ) → one ≤ i → f i ≡ 0)
    (none_then : (i : ℕ) → other ≤ i → g i ≡ 0) where
  sum_no_more : ((i : ℕ) → g i ≤ f i) → sum_below other g ≤ sum_below one f
  sum_no_more less =
      omega (
        arith,
        sum_less (one + other) f g (λ j low. less j),
        sum_ends other one g none_then,
        sum_ends one other f none,
        swapped one other f,
      )

  sum_some_less : (id k : ℕ) → id < one → ((j : ℕ) → j ≢ id → g j ≤ f j) → g id + k ≤ f id
      → sum_below other g + k ≤ sum_below one f
  sum_some_less id k low less here =
      omega (
        arith,
        sum_moves (one + other) id k 0 f g (omega (arith, low)) less
            (omega (arith, here)),
        sum_ends other one g none_then,
        sum_ends one other f none,
        swapped one other f,
      )

unsent_beyond : (end : EndLog) (i : ℕ) → above_streams end.log ≤ i → unsent_on end i ≡ 0
unsent_beyond end i above = unsent_none end i (none_beyond end i above)

pub pieces_none : (end : EndLog) (i : ℕ) → tokens_on end i ≡ 0 → pieces_on end i ≡ 0
pieces_none end i none = omega (arith, none, unsent_none end i none)

pieces_beyond : (end : EndLog) (i : ℕ) → above_streams end.log ≤ i → pieces_on end i ≡ 0
pieces_beyond end i above = pieces_none end i (none_beyond end i above)

low_by : (end : EndLog) (i : ℕ) → tokens_on end i ≢ 0 → i < above_streams end.log
low_by end i some = elim (cases_Bool (nat_lt i (above_streams end.log))) [
  | inl low ↦ ltb-true i (above_streams end.log) low
  | inr high ↦ absurd (some (none_beyond end i (ltb-false i (above_streams end.log) high)))
]

module _ (before after : EndLog) where
  pub octets_no_more : ((i : ℕ) → unsent_on after i ≤ unsent_on before i)
      → octets_left after ≤ octets_left before
  octets_no_more less =
      sum_no_more (above_streams before.log) (above_streams after.log) (unsent_on before)
      (unsent_on after) (unsent_beyond before) (unsent_beyond after) less

  pub octets_less : (id k : ℕ) → tokens_on before id ≢ 0
      → ((i : ℕ) → unsent_on after i ≤ unsent_on before i)
      → unsent_on after id + k ≤ unsent_on before id → octets_left after + k ≤ octets_left before
  octets_less id k some less here =
      sum_some_less (above_streams before.log) (above_streams after.log) (unsent_on before)
      (unsent_on after) (unsent_beyond before) (unsent_beyond after) id k (low_by before id some)
      (λ j other. less j) here

  pub pieces_no_more : ((i : ℕ) → pieces_on after i ≤ pieces_on before i)
      → pieces_left after ≤ pieces_left before
  pieces_no_more less =
      sum_no_more (above_streams before.log) (above_streams after.log) (pieces_on before)
      (pieces_on after) (pieces_beyond before) (pieces_beyond after) less

  pub pieces_less : (id : ℕ) → tokens_on before id ≢ 0
      → ((i : ℕ) → pieces_on after i ≤ pieces_on before i)
      → pieces_on after id + 1 ≤ pieces_on before id → pieces_left after + 1 ≤ pieces_left before
  pieces_less id some less here =
      sum_some_less (above_streams before.log) (above_streams after.log) (pieces_on before)
      (pieces_on after) (pieces_beyond before) (pieces_beyond after) id 1 (low_by before id some)
      (λ j other. less j) here

  -- What waits after is the rest of what waited.
  fewer_by : (i : ℕ) (more : List Token)
      → tokens_waiting before i ≡ more ++ tokens_waiting after i
      → (tokens_on after i ≢ 0 → tokens_on before i ≢ 0)
      → (unsent_on after i ≤ unsent_on before i) × (pieces_on after i ≤ pieces_on before i)
  fewer_by i more is stays = elim (cases_eq (tokens_on after i) 0) [
    | inl none ↦
        let unsent = unsent_none after i none in
        let pieces = pieces_none after i none in
        (omega (arith, unsent), omega (arith, pieces))
    | inr some ↦
        let alive = alive_by after i some in
        let was = alive_by before i (stays some) in
        let octets = ap octets_among is ∙ among_both more (tokens_waiting after i) in
        let all = ap length is ∙ length-append more (tokens_waiting after i) in
        let here = unsent_alive after i alive in
        let there = unsent_alive before i was in
        let tokens_here = tokens_alive after i alive in
        let tokens_there = tokens_alive before i was in
        let within = among_within more in
        let within_after = among_within (tokens_waiting after i) in (
          omega (arith, octets, here, there),
          omega (arith, octets, all, here, there, tokens_here, tokens_there, within, within_after),
        )
  ]

pub unsent_within : (end : EndLog) (i : ℕ) → unsent_on end i ≤ tokens_on end i
unsent_within end i = elim (cases_eq (tokens_on end i) 0) [
  | inl none ↦ omega (arith, unsent_none end i none)
  | inr some ↦
      let alive = alive_by end i some in
      omega (
        arith,
        unsent_alive end i alive,
        tokens_alive end i alive,
        among_within (tokens_waiting end i),
      )
]

-- Octets that a pump sends no longer wait.
unsent_call : (end : EndLog) (act : Act) (answer : Answer) (j : ℕ) → MayAnswer end.log act answer
    → answer ≢ Number j
    → octets_among (tokens_waiting (end_after_call end act answer) j)
    ≤ octets_among (tokens_waiting end j)
    → unsent_on (end_after_call end act answer) j ≤ unsent_on end j
unfolding unsent_on
unsent_call end act answer j may other less =
    on_by (active (with_call end.log act answer) j) (active end.log j)
    (octets_among (tokens_waiting (end_after_call end act answer) j))
    (octets_among (tokens_waiting end j)) (was_active end.log act answer j may other)
    (λ now. less)

unsent_most : (end : EndLog) (j : ℕ) → unsent_on end j ≤ octets_among (tokens_waiting end j)
unfolding unsent_on
unsent_most end j = elim (cases_Bool (active end.log j)) [
  | inl alive ↦ rw alive (omega arith)
  | inr over ↦ rw over (omega arith)
]

refused_octets : (end : EndLog) (act : Act) (refusal : Refusal)
    → MayAnswer end.log act (Refused refusal)
    → octets_left (end_after_call end act (Refused refusal))
    + total data_of (with_call end.log act (Refused refusal)).sent
    ≤ octets_left end + total data_of end.log.sent
unfolding with_call
refused_octets end act refusal may =
    omega (
      arith,
      octets_no_more end (end_after_call end act (Refused refusal)) (λ j.
          unsent_call end act (Refused refusal) j may (λ wrong. cc)
          (omega (
            arith,
            ap octets_among (waiting_same end act (Refused refusal) j
                (refused_tokens j act refusal)),
          ))),
    )

pumps_octets : (end after : EndLog) (count : ℕ) (refused : Option Refusal)
    → Pumps end count refused after
    → octets_left after + total data_of after.log.sent
    ≤ octets_left end + total data_of end.log.sent
pumps_octets end _ _ _ (pumps_no_more _) = omega arith
pumps_octets end _ _ _ (pumps_data _ id sent more octets ends refused after next typed waits may
    pumps) =
    let act = SendData id octets ends in
    let between = end_after_call end act (Count sent) in
    let rest = pumps_octets between after more refused pumps in
    let all = sent_of_all end.log id octets ends sent may in
    let since = among_since end between id _ (data_sent end id sent octets ends id waits) in
    let call = among_data_here id octets ends sent (data_within end.log id octets ends sent may) in
    let was = unsent_alive end id next.active in
    let now = unsent_most between id in
    elim (cases_eq sent 0) [
      | inl nothing ↦
          let less = octets_no_more end between (λ j. unsent_call end act (Count sent) j may
          (λ wrong. cc) (let here = among_since end between j _
          (data_sent end id sent octets ends j waits) in omega (arith, here))) in
          omega (arith, rest, all, less, nothing)
      | inr some ↦
          let tokens = tokens_alive end id next.active in
          let less = octets_less end between id sent
          (λ none. some (omega (
            arith,
            none,
            tokens,
            since,
            call,
            among_within (tokens_waiting end id),
          ))) (λ j. unsent_call end act (Count sent) j may
          (λ wrong. cc) (let here = among_since end between j _
          (data_sent end id sent octets ends j waits) in omega (arith, here)))
          (omega (arith, since, call, was, now)) in
          omega (arith, rest, all, less)
    ]
pumps_octets end _ _ _ (pumps_trailers _ id more list refused after next typed wait may pumps) =
    let act = SendFields id list true in
    let between = end_after_call end act Done in
    let rest = pumps_octets between after more refused pumps in
    let all = (fields_send_none 0 end.log id list true may).0 in
    let less = octets_no_more end between (λ j. unsent_call end act Done j may (λ wrong. cc)
    (let here = among_since end between j _ (trailers_sent end id list j wait) in
    omega (arith, here))) in
    omega (arith, rest, all, less)
pumps_octets end _ _ _ (data_refused _ id octets ends refusal next typed waits may) =
    refused_octets end (SendData id octets ends) refusal may
pumps_octets end _ _ _ (trailers_refused _ id list refusal next typed wait may) =
    refused_octets end (SendFields id list true) refusal may

pump_octets : (end after : EndLog) (count : ℕ) → MayPump end (Ok count) after
    → octets_left after + total data_of after.log.sent
    ≤ octets_left end + total data_of end.log.sent
unfolding MayPump
pump_octets end after count (up, inl full) =
    pumps_octets end after count (Some OutputFull) full.0
pump_octets end after count (up, inr done) = pumps_octets end after count None done.0

pub pump_since : (end after : EndLog) (count i : ℕ) → MayPump end (Ok count) after
    → (more : List Token) × SentSince end after i more
unfolding MayPump
pump_since end after count i (up, inl full) =
    stays_out end after count (Some OutputFull) i full.0
pump_since end after count i (up, inr done) = stays_out end after count None i done.0

module _ (role other : Role) (values others : Values) (w0 r0 w1 r1 : EndLog)
    (t : Turn role other values others w0 r0 w1 r1) where
  pub pump_may : (count : ℕ) × MayPump t.w_released (Ok count) t.w_pumped
  pump_may = pump_is_ok t.w_released t.w_pumped t.writes.pump t.writes.pumps t.writes.pump_had
      t.writes.up_released

  pub released_same : (i : ℕ) → tokens_waiting t.w_released i ≡ tokens_waiting w0 i
  released_same i =
      (released_keeps role other values others w0 r0 w1 r1 t i data_of data_counts).waits i

  pub released_octets : (i : ℕ) → octets_among (tokens_waiting t.w_released i)
      ≡ octets_among (tokens_waiting w0 i)
  released_octets i = ap octets_among (released_same i)

  pub released_length : (i : ℕ) → length (tokens_waiting t.w_released i)
      ≡ length (tokens_waiting w0 i)
  released_length i = ap length (released_same i)

  -- What waits after a round is the rest of what waited.
  turn_since : (i : ℕ)
      → (more : List Token) × (tokens_waiting w0 i ≡ more ++ tokens_waiting w1 i)
  turn_since i =
      let since = pump_since t.w_released t.w_pumped pump_may.0 i pump_may.1 in (
        since.0,
        sym (released_same i) ∙ since.1.waited ∙ ap (λ (line : List Token). since.0 ++ line)
            (sym (last_waits role other values others w0 r0 w1 r1 t i)),
      )

  -- So no more octets and pieces wait on any stream,
  pub turn_fewer : (i : ℕ) → (unsent_on w1 i ≤ unsent_on w0 i) × (pieces_on w1 i ≤ pieces_on w0 i)
  turn_fewer i =
      let since = turn_since i in
      fewer_by w0 w1 i since.0 since.1
      (some_first role other values others w0 r0 w1 r1 t i)

  pub turn_octets : octets_left w1 ≤ octets_left w0
  turn_octets = octets_no_more w0 w1 (λ i. (turn_fewer i).0)

  pub turn_pieces : pieces_left w1 ≤ pieces_left w0
  turn_pieces = pieces_no_more w0 w1 (λ i. (turn_fewer i).1)

  -- as many octets fewer as were sent,
  pub turn_sends : octets_left w1 + total data_of w1.log.sent
      ≤ octets_left w0 + total data_of w0.log.sent
  turn_sends =
      let first = octets_no_more w0 t.w_released (λ i. (fewer_by w0 t.w_released i []
      (sym (released_same i)) (λ some none. some (omega (
        arith,
        none,
        t.w_stages.releases.each i,
      )))).0) in
      let sends = pump_octets t.w_released t.w_pumped pump_may.0 pump_may.1 in
      let last = octets_no_more t.w_pumped w1 (λ i. (fewer_by t.w_pumped w1 i []
      (sym (last_waits role other values others w0 r0 w1 r1 t i)) (λ some none. some
      (omega (arith, none, t.w_stages.moves.each i, t.w_stages.takes.ends.each i)))).0) in
      let same = (released_keeps role other values others w0 r0 w1 r1 t 0 data_of
      data_counts).counted in
      let later = w_last role other values others w0 r0 w1 r1 t data_of data_counts in
      omega (arith, first, sends, last, same, later)

  -- and one piece fewer where trailers or the end went.
  pub turn_piece_goes : (id : ℕ) → active t.w_released.log id ≡ true
      → others_among (tokens_waiting t.w_pumped id)
      < others_among (tokens_waiting t.w_released id) → pieces_left w1 + 1 ≤ pieces_left w0
  turn_piece_goes id alive fewer =
      let length_is = tokens_alive t.w_released id alive in
      let some : tokens_on w0 id ≢ 0 = λ none. absurd (omega (
        arith,
        none,
        fewer,
        length_is,
        t.w_stages.releases.each id,
      )) in
      let was = alive_by w0 id some in
      let octets_was = unsent_alive w0 id was in
      let tokens_was = tokens_alive w0 id was in
      let same = ap octets_among (released_same id) in
      let same_length = ap length (released_same id) in
      let last = ap octets_among (last_waits role other values others w0 r0 w1 r1 t id) in
      let last_length = ap length (last_waits role other values others w0 r0 w1 r1 t id) in
      pieces_less w0 w1 id some (λ i. (turn_fewer i).1)
      (elim (cases_eq (tokens_on w1 id) 0) [
        | inl none ↦
            let nothing = pieces_none w1 id none in
            omega (arith, nothing, octets_was, tokens_was, same, same_length, fewer)
        | inr still ↦
            let now = alive_by w1 id still in
            let octets_now = unsent_alive w1 id now in
            let tokens_now = tokens_alive w1 id now in
            let less = (turn_fewer id).0 in
            omega (
              arith,
              octets_was,
              tokens_was,
              octets_now,
              tokens_now,
              same,
              same_length,
              last,
              last_length,
              fewer,
              less,
            )
      ])

  pub turn_others : (i : ℕ) → others_among (tokens_waiting w1 i)
      ≤ others_among (tokens_waiting w0 i)
  turn_others i =
      let since = turn_since i in
      let octets = ap octets_among since.1 ∙ among_both since.0 (tokens_waiting w1 i) in
      let all = ap length since.1 ∙ length-append since.0 (tokens_waiting w1 i) in
      omega (arith, octets, all, among_within since.0)
