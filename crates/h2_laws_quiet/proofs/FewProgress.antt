-- In two rounds in which all credit comes back a share fewer waits at an end, or a piece fewer.
use Rattle.std.proofs.Common.{◌≡◌, ◌≢◌, ◌⊎◌, inl, inr, ℕ, zero, suc, ◌+◌, ◌≤◌, ◌<◌, min, true}
use Rattle.std.proofs.Common.{List, [], ◌∷◌, length, length-append, refl, ap, ◌∙◌, arith}
use Rattle.std.proofs.lemmas.Bool.{cases_eq}
use Rattle.h2_spec_log.specs.declared.role.Role.{Role}
use Rattle.h2_spec_log.specs.Acts.{Values}
use Rattle.h2_spec_log.specs.Histories.{IsLog}
use Rattle.h2_spec_log.specs.Limits.{full_output}
use Rattle.h2_spec_log.specs.Log.{Log, active, waiting}
use Rattle.h2_spec_log.specs.Windows.{first_window}
unfoldable use Rattle.h2_laws_log.specs.Sums.{sum_below}
use Rattle.h2_laws_log.proofs.InvariantLogs.{written_is_allowed}
use Rattle.h2_laws_pair.specs.Tokens.{Token, FieldsToken, OctetToken, EndToken}
use Rattle.h2_laws_pair.proofs.HeardQuiet.{some_window}
use Rattle.h2_ends.specs.Ends.{EndLog, tokens_waiting}
unfoldable use Rattle.h2_ends.specs.EndCalls.{octets_among}
use Rattle.h2_ends.specs.EndCalls.{unsent_on}
use Rattle.h2_ends.specs.Pumping.{IsStuckBelow}
use Rattle.h2_laws_quiet.specs.Going.{CouldGoOn, WentOn}
use Rattle.h2_laws_quiet.specs.MostRounds.{shares, octets_left, pieces_on, pieces_left}
use Rattle.h2_laws_quiet.specs.MostRounds.{shares_left}
use Rattle.h2_laws_quiet.specs.Room.{window_ahead}
use Rattle.h2_laws_quiet.specs.Rounds.{all_octets}
use Rattle.h2_laws_quiet.specs.Work.{above_streams, credit_left, tokens_left, tokens_on}
use Rattle.h2_laws_quiet.proofs.FewFills.{with_owed}
use Rattle.h2_laws_quiet.proofs.FewFrames.{others_among}
use Rattle.h2_laws_quiet.proofs.FewPieces.{unsent_alive, tokens_alive, shares_more}
use Rattle.h2_laws_quiet.proofs.FewPieces.{shares_fewer, octets_less, pieces_less, pieces_none}
use Rattle.h2_laws_quiet.proofs.FewPieces.{pump_may, released_length, released_octets, turn_fewer}
use Rattle.h2_laws_quiet.proofs.FewPieces.{turn_octets}
use Rattle.h2_laws_quiet.proofs.FewPieces.{turn_pieces, turn_piece_goes, turn_others}
use Rattle.h2_laws_quiet.proofs.FewReleases.{release_all_waits}
use Rattle.h2_laws_quiet.proofs.FewRounds.{HasCome, some_released, window_goes}
use Rattle.h2_laws_quiet.proofs.FewRounds.{value_kept}
use Rattle.h2_laws_quiet.proofs.FewTurns.{Turn}
use Rattle.h2_laws_quiet.proofs.FewWindows.{alive_by, stuck_by_none}
use Rattle.h2_laws_quiet.proofs.PumpGoes.{lowest_goes}
use Rattle.h2_laws_quiet.proofs.PumpOctets.{among_both, among_within}
use Rattle.h2_laws_quiet.proofs.RoundSides.{put_out_end}

-- Where a sum is of something, there is a lowest number that counts.
record Lowest (n : ℕ) (f : ℕ → ℕ) : Type 0 where
  at : ℕ
  some : f at ≢ 0
  below : (j : ℕ) → j < at → f j ≡ 0

lowest_or_none : (n : ℕ) (f : ℕ → ℕ) → Lowest n f ⊎ ((j : ℕ) → j < n → f j ≡ 0)
lowest_or_none zero f = inr (λ j low. absurd (omega (arith, low)))
lowest_or_none (suc n) f = elim (lowest_or_none n f) [
  | inl found ↦ inl (record { at = found.at; some = found.some; below = found.below })
  | inr none ↦ elim (cases_eq (f n) 0) [
    | inl nothing ↦ inr (λ j low. elim (cases_eq j n) [
      | inl same ↦ rw same nothing
      | inr other ↦ none j (omega (arith, low, other))
    ])
    | inr some ↦ inl (record { at = n; some = some; below = none })
  ]
]

sum_none : (n : ℕ) (f : ℕ → ℕ) → ((j : ℕ) → j < n → f j ≡ 0) → sum_below n f ≡ 0
unfolding sum_below
sum_none zero f none = refl
sum_none (suc n) f none =
    omega (arith, none n (omega arith), sum_none n f (λ j low. none j (omega (arith, low))))

lowest_of : (n : ℕ) (f : ℕ → ℕ) → sum_below n f ≢ 0 → Lowest n f
lowest_of n f some = elim (lowest_or_none n f) [
  | inl found ↦ found
  | inr none ↦ absurd (some (sum_none n f none))
]

-- A window lets an octet through.
pub window_some : (role : Role) (values : Values) (log : Log) → IsLog role values log
    → 1 ≤ window_ahead log
window_some role values log is =
    let some = some_window role log.received log.sent (written_is_allowed role values log is) in
    omega (arith, some)

-- Something that is no octet could go.
could_go_there : (end : EndLog) (i : ℕ) (tokens : List Token) → tokens_waiting end i ≡ tokens
    → active end.log i ≡ true → length tokens ≢ 0 → octets_among tokens ≡ 0 → CouldGoOn end i
unfolding octets_among
could_go_there end i [] is alive some none = absurd (some refl)
could_go_there end i (OctetToken octet ∷ others) is alive some none = absurd (omega (arith, none))
could_go_there end i (FieldsToken list ended ∷ others) is alive some none = record {
  active = alive;
  next = FieldsToken list ended;
  others = others;
  waits = is;
  could_go = tt;
}
could_go_there end i (EndToken ∷ others) is alive some none =
    record { active = alive; next = EndToken; others = others; waits = is; could_go = tt }

not_empty : (more : List Token) → more ≢ [] → length more ≢ 0
not_empty [] some none = some refl
not_empty (token ∷ more) some none = omega (arith, none)

-- Where no octet waits, of the other tokens fewer wait once something went.
others_gone : (end after : EndLog) (i : ℕ) → WentOn end after i
    → octets_among (tokens_waiting end i) ≡ 0
    → others_among (tokens_waiting after i) < others_among (tokens_waiting end i)
others_gone end after i went none =
    let count = not_empty went.more went.some in
    let parted = ap octets_among went.waited ∙ among_both went.more (tokens_waiting after i) in
    let lengths = ap length went.waited ∙ length-append went.more (tokens_waiting after i) in
    omega (arith, count, parted, lengths, none, among_within (tokens_waiting after i))

-- A round leaves no more shares.
module _ (role other : Role) (values others : Values) (w0 r0 w1 r1 : EndLog)
    (t : Turn role other values others w0 r0 w1 r1) where
  pub window_kept : window_ahead r1.log ≡ window_ahead r0.log
  window_kept =
      ap (min first_window) (value_kept role other values others w0 r0 w1 r1 t)

  pub shares_kept : shares_left w1 r1.log ≤ shares_left w0 r0.log
  shares_kept =
      let octets = turn_octets role other values others w0 r0 w1 r1 t in
      let pieces = turn_pieces role other values others w0 r0 w1 r1 t in
      let some = window_some other others r0.log t.r_log in
      let fewer = shares_more (octets_left w1) (octets_left w0) (window_ahead r0.log)
      (octets_left w1) (octets_left w0) some (omega arith) (omega arith) octets in
      let same = ap (λ (u : ℕ). shares (octets_left w1) u (octets_left w1)) window_kept in
      omega (arith, pieces, fewer, same)

  pub output_room : with_owed w0.log < full_output → waiting t.w_released.log < full_output
  output_room room =
      let waits = release_all_waits role values w0 t.w_released t.writes.release t.writes.releases
      t.w_log in
      omega (arith, waits.0, room)

module _ (role other : Role) (values others : Values) (w0 r0 w1 r1 w2 r2 : EndLog)
    (a : Turn role other values others w0 r0 w1 r1)
    (b : Turn role other values others w1 r1 w2 r2) (come : HasCome w0.log r0.log)
    (back : credit_left (put_out_end a.r_pumped all_octets a.back).log ≡ 0)
    (room : with_owed w0.log < full_output) (room_then : with_owed w1.log < full_output)
    (some : tokens_left w0 ≢ 0) where
  low : Lowest (above_streams w0.log) (tokens_on w0)
  low = lowest_of (above_streams w0.log) (tokens_on w0) some

  abbrev i : ℕ
  i = low.at

  alive_first : active w0.log i ≡ true
  alive_first = alive_by w0 i low.some

  -- A piece fewer in the first round is one fewer in both.
  by_first : pieces_left w1 + 1 ≤ pieces_left w0
      → shares_left w2 r2.log + 1 ≤ shares_left w0 r0.log
  by_first fewer =
      let kept = shares_kept role other values others w1 r1 w2 r2 b in
      let octets = turn_octets role other values others w0 r0 w1 r1 a in
      let window = window_some other others r0.log a.r_log in
      let shares_fewer = shares_more (octets_left w1) (octets_left w0) (window_ahead r0.log)
      (octets_left w1) (octets_left w0) window (omega arith) (omega arith) octets in
      let same = ap (λ (u : ℕ). shares (octets_left w1) u (octets_left w1))
      (window_kept role other values others w0 r0 w1 r1 a) in
      omega (arith, kept, fewer, shares_fewer, same)

  -- So is one in both.
  window_both : window_ahead r2.log ≡ window_ahead r0.log
  window_both = window_kept role other values others w1 r1 w2 r2 b
      ∙ window_kept role other values others w0 r0 w1 r1 a

  by_both : ((octets_left w2 ≤ octets_left w0) × (pieces_left w2 + 1 ≤ pieces_left w0))
      ⊎ ((octets_left w2 + window_ahead r0.log ≤ octets_left w0)
      × (pieces_left w2 ≤ pieces_left w0))
      → shares_left w2 r2.log + 1 ≤ shares_left w0 r0.log
  by_both less =
      let window = window_some other others r0.log a.r_log in
      let same = ap (λ (u : ℕ). shares (octets_left w2) u (octets_left w2)) window_both in
      elim less [
        | inl (octets, pieces) ↦
            let fewer = shares_more (octets_left w2) (octets_left w0) (window_ahead r0.log)
            (octets_left w2) (octets_left w0) window (omega arith) (omega arith) octets in
            omega (arith, same, fewer, pieces)
        | inr (octets, pieces) ↦
            let fewer = shares_fewer (octets_left w2) (octets_left w0) (window_ahead r0.log)
            (octets_left w2) (octets_left w0) window (omega arith) (omega arith) octets in
            omega (arith, same, fewer, pieces)
      ]

  octets_both : octets_left w2 ≤ octets_left w0
  octets_both =
      let one = turn_octets role other values others w0 r0 w1 r1 a in
      let two = turn_octets role other values others w1 r1 w2 r2 b in
      omega (arith, one, two)

  pieces_both : (j : ℕ) → pieces_on w2 j ≤ pieces_on w0 j
  pieces_both j =
      let one = (turn_fewer role other values others w0 r0 w1 r1 a j).1 in
      let two = (turn_fewer role other values others w1 r1 w2 r2 b j).1 in
      omega (arith, one, two)

  -- Trailers or the end are first, and go.
  part_goes : unsent_on w0 i ≡ 0 → shares_left w2 r2.log + 1 ≤ shares_left w0 r0.log
  part_goes none =
      let first = tokens_alive w0 i alive_first in
      let octets = unsent_alive w0 i alive_first in
      let tokens = low.some in
      elim (cases_eq (tokens_on w1 i) 0) [
        | inl nothing ↦
            let pieces = pieces_none w1 i nothing in
            by_first (pieces_less w0 w1 i low.some
            (λ j. (turn_fewer role other values others w0 r0 w1 r1 a j).1)
            (omega (arith, pieces, none, tokens)))
        | inr still ↦
            let alive = alive_by a.w_released i
            (some_released role other values others w0 r0 w1 r1 a i still) in
            let same_length = released_length role other values others w0 r0 w1 r1 a i in
            let same_octets = released_octets role other values others w0 r0 w1 r1 a i in
            let may = pump_may role other values others w0 r0 w1 r1 a in
            let below : IsStuckBelow a.w_released i = λ j less. stuck_by_none a.w_released j
            (omega (arith, low.below j less, a.w_stages.releases.each j)) in
            let went = lowest_goes a.w_released a.w_pumped i may.0 may.1
            (output_room role other values others w0 r0 w1 r1 a room)
            (could_go_there a.w_released i (tokens_waiting a.w_released i) refl alive
            (λ empty. tokens (omega (arith, first, same_length, empty)))
            (omega (arith, octets, same_octets, none))) below in
            by_first (turn_piece_goes role other values others w0 r0 w1 r1 a i alive
            (others_gone a.w_released a.w_pumped i went
            (omega (arith, octets, same_octets, none))))
      ]

  -- Octets are first, and a window of them goes, or all.
  octets_go : unsent_on w0 i ≢ 0 → shares_left w2 r2.log + 1 ≤ shares_left w0 r0.log
  octets_go waits = elim (cases_eq (tokens_on w2 i) 0) [
    | inl nothing ↦
        let pieces = pieces_none w2 i nothing in
        by_both (inl (
          octets_both,
          pieces_less w0 w2 i low.some pieces_both
              (omega (arith, pieces, waits)),
        ))
    | inr still ↦
        let goes = window_goes role other values others w0 r0 w1 r1 w2 r2 a b i come back
        (output_room role other values others w0 r0 w1 r1 a room)
        (output_room role other values others w1 r1 w2 r2 b room_then) low.below still in
        let alive = alive_by w2 i still in
        let now = unsent_alive w2 i alive in
        let tokens_now = tokens_alive w2 i alive in
        let was = unsent_alive w0 i alive_first in
        let tokens_was = tokens_alive w0 i alive_first in
        let one = turn_others role other values others w0 r0 w1 r1 a i in
        let two = turn_others role other values others w1 r1 w2 r2 b i in
        let pieces = turn_pieces role other values others w0 r0 w1 r1 a in
        let pieces_then = turn_pieces role other values others w1 r1 w2 r2 b in
        elim (cases_eq (unsent_on w2 i) 0) [
          | inl none ↦ by_both (inl (
            octets_both,
            pieces_less w0 w2 i low.some pieces_both
                (omega (arith, none, waits, now, was, tokens_now, tokens_was, one, two)),
          ))
          | inr left ↦ by_both (inr (
            octets_less w0 w2 i (window_ahead r0.log) low.some (λ j.
                let first = (turn_fewer role other values others w0 r0 w1 r1 a j).0 in
                let later = (turn_fewer role other values others w1 r1 w2 r2 b j).0 in
                omega (arith, first, later)) (omega (arith, goes, now, was, left)),
            omega (arith, pieces, pieces_then),
          ))
        ]
  ]

  -- So a share fewer waits.
  pub progress : shares_left w2 r2.log + 1 ≤ shares_left w0 r0.log
  progress = elim (cases_eq (unsent_on w0 i) 0) [
    | inl none ↦ part_goes none
    | inr waits ↦ octets_go waits
  ]
