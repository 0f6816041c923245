-- What a share of octets makes of an end, by what its calls answer.
use Rattle.h2_ends.proofs.Names
use Names.{◌≡◌, ◌≢◌, ◌⊎◌, inl, inr, ℕ, ◌+◌, ◌-◌, ◌<◌, ◌≤◌, ◌==◌, ◌&&◌, Bool, true, false, List}
use Names.{length, take, Option, Some, None, refl, sym, ap, ◌∙◌, arith, min, length-drop, Values}
use Names.{Act, Answer, IsTypedAct, SendFields, SendData, Count, Done, Refused, MayAnswer}
use Names.{with_call, active, waiting, Log, Refusal, Conn, ConnRepresents, ConnAnswers, End}
use Names.{Stream, Waiting, SendState, Sent, Stuck, Full, EndLog, Result, Ok, StopsBy}
use Names.{end_after_call, with_outgoing, keeps_of, EndRepresents, outgoing_in, is_none}
use Names.{option_map, Field, subst, Vec, Global, ◌↔◌, take-length, nat_tests, BodyWaits}
use Rattle.std.specs.Prelude.{nat_le}
use Rattle.h2_numbers.specs.Entries.{NumberEntries}
use Rattle.h2_numbers.specs.Lends.{WritesThrough}
use Rattle.std.proofs.Common.{length-take, take_all}
use Rattle.h2_laws_machine.proofs.BoundedLogs.{few_wait}
use Rattle.h2_ends.specs.declared.passing.Pass.{Pass}
use Rattle.h2_ends.specs.Passes.{IsSpent, Halt, CutShort, Stopped, Shares, share_act}
use Rattle.h2_ends.specs.Passes.{shares_octets, shares_some, share_is_cut, shares_rest}
use Rattle.h2_ends.specs.Passes.{shares_trailers, octets_refused, list_refused, IsNoError, rest_of}
unfoldable use Rattle.h2_ends.specs.Passing.{IsShared}
use Rattle.h2_ends.specs.Passing.{GivesShare, HasShare, size_of, IsSamePass}
use Rattle.h2_ends.proofs.PumpSends.{data_closes_none}
use Rattle.h2_ends.proofs.PumpTokens.{octets_left, sent_more, body_waits, trailers_wait}
use Rattle.h2_ends.proofs.PumpTokens.{trailers_fit, waiting_goes_on}
use Rattle.h2_ends.proofs.PumpWindows.{data_waits, data_failed, fields_wait, fields_failed}
use Rattle.h2_ends.proofs.PumpWindows.{refused_waits, refused_failed, data_within}
use Rattle.h2_ends.proofs.RequestSteps.{refused_fields_keep}
use Rattle.h2_ends.proofs.SendingStreams.{with_streams}
use Rattle.h2_ends.proofs.ShareSteps.{waiting_here, share_goes, share_ends, list_goes}
use Rattle.h2_ends.proofs.ShareSteps.{share_refused, below_or}
use Rattle.h2_ends.specs.declared.outgoing.Outgoing.TheVariants as outgoings
use Rattle.h2_ends.proofs.PumpRefusals as refused
use Rattle.h2_ends.proofs.ShareTrailers.{keeps_written, rest_by, stopped_at, waits_now, gives}

-- So few octets wait that a sum that they bound is exact.
exact : (count n total few : ℕ) → total ≡ min (count + n) 18446744073709551615
    → count + n ≤ few → few ≤ 262161 → total ≡ count + n
exact count n total few is within bound = omega (arith, is, within, bound)

-- All octets of a share, and others wait.
more_left : (most left : ℕ) (n sent size : ℕ) → n ≡ min most left → left ≡ size - sent
    → sent < size → sent + n < size → most < left
more_left most left n sent size all is some more = omega (arith, all, is, some, more)

-- The message goes on after a share without the last octets.
not_last : (none : Bool) (n size : ℕ) → n < size → (none && n == size) ≡ false
not_last none n size fewer = grind (arith, nat_tests)

-- The octets that a share hands over, and whether the end is among them, as the code has them.
pub share_octets : (most : ℕ) (octets rest : List ℕ) (size : ℕ) → rest ≡ octets
    → size ≡ min (length rest) most → take size rest ≡ take most octets
share_octets most octets rest size same least = rw same (elim (below_or most (length octets)) [
  | inl fewer ↦ ap (λ (n : ℕ). take n octets) (let len = ap length same in
      omega (arith, least, fewer, len))
  | inr all ↦ ap (λ (n : ℕ). take n octets) (let len = ap length same in whole_size least all len)
      ∙ take-length octets ∙ sym (take_all most octets all)
])
  where
    whole_size : {size most left right : ℕ} → size ≡ min left most → right ≤ most → left ≡ right
        → size ≡ right
    whole_size least all len = omega (arith, least, all, len)

ends_by : (most size left : ℕ) (ends none : Bool) → size ≡ min left most
    → ((size ≡ left) × (ends ≡ none)) ⊎ ((size ≢ left) × (ends ≡ false))
    → ends ≡ (none && nat_le left most)
ends_by most size left ends true least (inl (all, is)) = is ∙ grind (arith, nat_tests)
ends_by most size left ends false least (inl (all, is)) = is
ends_by most size left ends true least (inr (part, is)) = is ∙ grind (arith, nat_tests)
ends_by most size left ends false least (inr (part, is)) = is

pub share_ends_by : (most size : ℕ) (rest octets : List ℕ) (ends none : Bool) → rest ≡ octets
    → size ≡ min (length rest) most
    → ((size ≡ length rest) × (ends ≡ none)) ⊎ ((size ≢ length rest) × (ends ≡ false))
    → ends ≡ (none && nat_le (length octets) most)
share_ends_by most size rest octets ends none same least how =
    rw (← same) (ends_by most size (length rest) ends none least how)

pub typed_share : (most id : ℕ) (rest octets : List ℕ) (none ends : Bool)
    → octets ≡ take most rest → ends ≡ (none && nat_le (length rest) most)
    → IsTypedAct (SendData id octets ends) → IsTypedAct (share_act most id rest none)
typed_share most id rest octets none ends are is typed =
    subst IsTypedAct (rw (are, is) refl) typed

pub as_share : (old new : Conn) (most id : ℕ) (rest octets : List ℕ) (none ends : Bool)
    (answer : Answer) → octets ≡ take most rest → ends ≡ (none && nat_le (length rest) most)
    → ConnAnswers old (SendData id octets ends) answer new
    → ConnAnswers old (share_act most id rest none) answer new
as_share old new most id rest octets none ends answer are is answers =
    subst (λ (act : Act). ConnAnswers old act answer new) (rw (are, is) refl) answers

module _ (old : End) (id : ℕ) (pass then : Pass) (stream : Stream) (waits : Waiting)
    (here : keeps_of old id ≡ Some stream) (outgoing : stream.outgoing ≡ outgoings.Waiting waits)
    (goes : IsSamePass pass then) (left : then.left ≡ pass.left) where
  -- how many octets the share has at most
  abbrev most : ℕ
  most = size_of pass id

  abbrev rest : List ℕ
  rest = octets_left waits

  abbrev share : Act
  share = share_act most id rest (is_none waits.trailers)

  module _ (some : waits.sent < length waits.body.items) (typed : IsTypedAct share) where
    -- Octets were sent.
    module _ (n : ℕ) (conn : Conn) (answers : ConnAnswers old.conn share (Count n) conn)
        (sum : then.count ≡ min (pass.count + n) 18446744073709551615) where
      has_share : (values : Values) (happened : EndLog) (halt : Option Halt)
          → EndRepresents values old happened → happened.log.failed ≡ None
          → active happened.log id ≡ true → pass.count ≤ waiting happened.log
          → ((stop : Halt) → halt ≡ Some stop → then.rest ≡ rest_of stop)
          → Shares most id happened n halt (end_after_call happened share (Count n))
          → HasShare happened id pass then halt (end_after_call happened share (Count n))
      has_share values happened halt is up alive few rests shares =
          let both = answers values happened.log is.streams.conn in
          let given = is.streams.conn.machine.output.given in
          let more = data_waits happened.log id (take most rest) (is_none waits.trailers
          && nat_le (length rest) most) n given both.0 in
          let bound = few_wait _ values (with_call happened.log share (Count n))
          both.1.machine.came in
          let total = exact pass.count n then.count _ sum (omega (arith, more, few)) bound in
          record {
            waits = waits_now old id pass then stream waits here outgoing goes left
                values happened is alive;
            sent = n;
            shares = shares;
            rest = rests;
            sum = total;
            few = omega (arith, total, more, few);
            up = data_failed happened.log id (take most rest) (is_none waits.trailers
                && nat_le (length rest) most) n ∙ up;
          }

      body_now : (values : Values) (happened : EndLog) → EndRepresents values old happened
          → active happened.log id ≡ true → BodyWaits happened id rest (is_none waits.trailers)
      body_now values happened is alive =
          body_waits happened id waits
          (waiting_here values old happened id stream waits is here alive outgoing) some

      within_share : (values : Values) (happened : EndLog) → EndRepresents values old happened
          → n ≤ length (take most rest)
      within_share values happened is =
          data_within happened.log id (take most rest) (is_none waits.trailers
          && nat_le (length rest) most) n (answers values happened.log is.streams.conn).0

      module _ (streams : NumberEntries Stream)
          (writes : WritesThrough id old.streams
          (with_outgoing stream (outgoings.Waiting (sent_more waits n))) streams) where
        -- and others wait still.
        goes_on : (values : Values) (happened : EndLog) → EndRepresents values old happened
            → active happened.log id ≡ true
            → (is_none waits.trailers && n == length rest) ≡ false
            → EndRepresents values (with_streams old conn streams)
            (end_after_call happened share (Count n))
        goes_on values happened is alive goes =
            let both = answers values happened.log is.streams.conn in
            share_goes values old (with_streams old conn streams) happened id stream waits is here
            alive outgoing refl refl most n (within_share values happened is) some both.0
            both.1 (keeps_written old conn streams id stream _ here writes) goes

        -- Fewer than the share has went: the pass ends there, or goes on.
        pub some_octets : (state : SendState) → then.rest ≡ most - n → n < length (take most rest)
            → ((values : Values) (log : Log) → ConnRepresents values conn log
            → (state ≡ Full) ↔ IsSpent log) → (state ≡ Full) ⊎ (state ≡ Stuck)
            → GivesShare old id pass (Ok state) (with_streams old conn streams) then
        unfolding IsShared IsNoError
        some_octets state left_is fewer spent (inl full) =
            gives old id pass then stream waits here outgoing goes left conn streams _ (Ok state)
            writes (λ values happened is up alive few.
            let size = length-take most rest in
            let both = answers values happened.log is.streams.conn in
            rw full (
              end_after_call happened share (Count n),
              (
                CutShort (most - n),
                has_share values happened (Some (CutShort (most - n))) is up alive few
                    (λ stop is_that. rest_by (CutShort (most - n)) stop then.rest left_is is_that)
                    (share_is_cut happened rest (is_none waits.trailers) n typed
                    (body_now values happened is alive) both.0 fewer
                    ((spent values _ both.1).0 full)),
                tt,
                goes_on values happened is alive
                    (not_last (is_none waits.trailers) n (length rest)
                    (omega (arith, fewer, size))),
              ),
            ))
        some_octets state left_is fewer spent (inr stuck) =
            gives old id pass then stream waits here outgoing goes left conn streams _ (Ok state)
            writes (λ values happened is up alive few.
            let size = length-take most rest in
            let both = answers values happened.log is.streams.conn in
            rw stuck (
              end_after_call happened share (Count n),
              (
                has_share values happened None is up alive few (λ stop none. cc)
                    (shares_some happened rest (is_none waits.trailers) n typed
                    (body_now values happened is alive) both.0 fewer
                    (λ over. let wrong = sym stuck ∙ (spent values _ both.1).1 over in cc)),
                goes_on values happened is alive
                    (not_last (is_none waits.trailers) n (length rest)
                    (omega (arith, fewer, size))),
              ),
            ))

        -- All of it went, and others wait.
        pub all_octets : n ≡ length (take most rest)
            → waits.sent + n < length waits.body.items
            → GivesShare old id pass (Ok Stuck) (with_streams old conn streams) then
        unfolding IsShared
        all_octets all more =
            gives old id pass then stream waits here outgoing goes left conn streams _ (Ok Stuck)
            writes (λ values happened is up alive few.
            let size = length-take most rest in
            let is_left = length-drop waits.sent waits.body.items in
            let both = answers values happened.log is.streams.conn in (
              end_after_call happened share (Count n),
              (
                has_share values happened None is up alive few (λ stop none. cc)
                    (shares_octets happened rest (is_none waits.trailers) n typed
                    (body_now values happened is alive) both.0 all
                    (inl (more_left most (length rest) n waits.sent
                    (length waits.body.items) (omega (arith, all, size)) is_left some more))),
                goes_on values happened is alive
                    (not_last (is_none waits.trailers) n (length rest)
                    (omega (arith, more, is_left))),
              ),
            ))

      -- The last octets went, and the end with them.
      pub last_octets : (streams : NumberEntries Stream)
          → WritesThrough id old.streams (with_outgoing stream outgoings.Sent)
          streams → n ≡ length (take most rest) → length waits.body.items ≤ waits.sent + n
          → waits.trailers ≡ None
          → GivesShare old id pass (Ok Sent) (with_streams old conn streams) then
      unfolding IsShared
      last_octets streams writes all none no_trailers =
          gives old id pass then stream waits here outgoing goes left conn streams _ (Ok Sent)
          writes (λ values happened is up alive few.
          let size = length-take most rest in
          let is_left = length-drop waits.sent waits.body.items in
          let both = answers values happened.log is.streams.conn in
          let ends : is_none waits.trailers ≡ true = ap is_none no_trailers in
          let keeps = keeps_written old conn streams id stream _ here writes in (
            end_after_call happened share (Count n),
            (
              has_share values happened None is up alive few (λ stop none. cc)
                  (shares_octets happened rest (is_none waits.trailers) n typed
                  (body_now values happened is alive) both.0 all (inr ends)),
              none_sent keeps.one,
              share_ends values old (with_streams old conn streams) happened id stream waits
                  is here alive outgoing refl refl most n (within_share values happened is) some
                  both.0 both.1 keeps ends (omega (arith, all, size, is_left, none, some)),
            ),
          ))
        where
          none_sent : {kept : Option Stream} → kept ≡ Some (with_outgoing stream outgoings.Sent)
              → (other : Waiting) → outgoing_in kept ≢ outgoings.Waiting other
          none_sent same other is = cc

      -- Trailers follow, once no octets are left.
      module _ (streams mid_streams : NumberEntries Stream)
          (mid_writes : WritesThrough id old.streams
          (with_outgoing stream (outgoings.Waiting (sent_more waits n))) mid_streams)
          (all : n ≡ length (take most rest)) (none : length waits.body.items ≤ waits.sent + n)
          (list : List Field) (list_typed : IsTypedAct (SendFields id list true))
          (are : option_map (λ one. one.items) waits.trailers ≡ Some list) (last : Conn) where
        -- the end between the two calls
        abbrev between : End
        between = with_streams old conn mid_streams

        kept_between : keeps_of between id
            ≡ Some (with_outgoing stream (outgoings.Waiting (sent_more waits n)))
        kept_between = (keeps_written old conn mid_streams id stream _ here mid_writes).one

        not_none : is_none waits.trailers ≡ false
        not_none = some_list waits.trailers are
          where
            some_list : (trailers : Option (Vec Field Global))
                → option_map (λ one. one.items) trailers ≡ Some list → is_none trailers ≡ false
            some_list None wrong = cc
            some_list (Some one) is = refl

        none_left : length (octets_left (sent_more waits n)) ≡ 0
        none_left =
            let is_left = length-drop (waits.sent + n) waits.body.items in
            omega (arith, is_left, none)

        whole : n ≡ length rest
        whole =
            let size = length-take most rest in
            let is_left = length-drop waits.sent waits.body.items in
            omega (arith, all, size, is_left, none, some)

        fits_share : length rest ≤ most
        fits_share =
            let size = length-take most rest in omega (arith, all, size, whole)

        first : (values : Values) (happened : EndLog) → EndRepresents values old happened
            → active happened.log id ≡ true
            → EndRepresents values between (end_after_call happened share (Count n))
        first values happened is alive =
            goes_on mid_streams mid_writes values happened is alive (rw not_none refl)

        stays : (values : Values) (happened : EndLog) → EndRepresents values old happened
            → active happened.log id ≡ true
            → active (with_call happened.log share (Count n)) id ≡ true
        stays values happened is alive =
            (first values happened is alive).active id
            (λ gone. let wrong = sym kept_between ∙ gone in cc)

        shares_both : (values : Values) (happened : EndLog) (halt : Option Halt) (after : EndLog)
            → EndRepresents values old happened → active happened.log id ≡ true
            → Shares most id (end_after_call happened share (Count n)) 0 halt after
            → Shares most id happened n halt after
        shares_both values happened halt after is alive shares =
            let both = answers values happened.log is.streams.conn in
            let act : share ≡ share_act most id rest false =
            ap (λ (b : Bool). share_act most id rest b) not_none in
            subst (λ (m : ℕ). Shares most id happened m halt after) (sym whole)
            (shares_rest happened rest halt after (subst IsTypedAct act typed)
            (subst (λ (b : Bool). BodyWaits happened id rest b) not_none
            (body_now values happened is alive))
            (subst (λ (a : Act). MayAnswer happened.log a (Count (length rest))) act
            (subst (λ (m : ℕ). MayAnswer happened.log share (Count m)) whole both.0)) fits_share
            (subst (λ (a : Act).
            Shares most id (end_after_call happened a (Count (length rest))) 0 halt
            after) act (subst (λ (m : ℕ).
            Shares most id (end_after_call happened share (Count m)) 0 halt after) whole
            shares)))

        -- what holds of both, with the state after the second one
        has_both : (values : Values) (happened after : EndLog) (halt : Option Halt)
            → EndRepresents values old happened → happened.log.failed ≡ None
            → active happened.log id ≡ true → pass.count ≤ waiting happened.log
            → ((stop : Halt) → halt ≡ Some stop → then.rest ≡ rest_of stop)
            → Shares most id (end_after_call happened share (Count n)) 0 halt after
            → waiting (with_call happened.log share (Count n)) ≤ waiting after.log
            → after.log.failed ≡ (with_call happened.log share (Count n)).failed
            → HasShare happened id pass then halt after
        has_both values happened after halt is up alive few rests shares more same =
            let both = answers values happened.log is.streams.conn in
            let given = is.streams.conn.machine.output.given in
            let grows = data_waits happened.log id (take most rest) (is_none waits.trailers
            && nat_le (length rest) most) n given both.0 in
            let bound = few_wait _ values (with_call happened.log share (Count n))
            both.1.machine.came in
            let total = exact pass.count n then.count _ sum (omega (arith, grows, few)) bound in
            record {
              waits = waits_now old id pass then stream waits here outgoing goes left
                  values happened is alive;
              sent = n;
              shares = shares_both values happened halt after is alive shares;
              rest = rests;
              sum = total;
              few = omega (arith, total, grows, few, more);
              up = same ∙ data_failed happened.log id (take most rest) (is_none waits.trailers
                  && nat_le (length rest) most) n ∙ up;
            }

        -- They were sent,
        pub both_go : ConnAnswers conn (SendFields id list true) Done last
            → WritesThrough id old.streams (with_outgoing stream outgoings.Sent)
            streams → GivesShare old id pass (Ok Sent) (with_streams old last streams) then
        unfolding IsShared
        both_go answered writes =
            gives old id pass then stream waits here outgoing goes left last streams _ (Ok Sent)
            writes (λ values happened is up alive few.
            let mid = end_after_call happened share (Count n) in
            let begun = first values happened is alive in
            let live = stays values happened is alive in
            let both = answered values mid.log begun.streams.conn in
            let left_over = sent_more waits n in
            let keeps = keeps_written old last streams id stream _ here writes in
            let before = keeps_written old conn mid_streams id stream _ here mid_writes in
            let wait = trailers_wait mid id left_over list
            (waiting_here values between mid id _ left_over begun kept_between live refl) none_left
            are in (
              end_after_call mid (SendFields id list true) Done,
              (
                has_both values happened (end_after_call mid (SendFields id list true) Done) None
                    is up alive few (λ stop none. cc)
                    (shares_trailers mid list list_typed wait both.0)
                    (fields_wait mid.log id list true begun.streams.conn.machine.output.given)
                    (fields_failed mid.log id list true),
                none_sent keeps.one,
                list_goes values between (with_streams old last streams) mid id _ left_over begun
                    kept_between live refl refl refl list none_left are both.0 both.1 (record {
                      one = keeps.one;
                      others = λ i other. keeps.others i other ∙ sym (before.others i other);
                    }),
              ),
            ))
          where
            none_sent : {kept : Option Stream}
                → kept ≡ Some (with_outgoing stream outgoings.Sent)
                → (other : Waiting) → outgoing_in kept ≢ outgoings.Waiting other
            none_sent same other is = cc

        -- or refused.
        pub list_stopped : (refusal : Refusal) (result : Result SendState Refusal)
            → StopsBy refusal result → then.rest ≡ 0
            → ConnAnswers conn (SendFields id list true) (Refused refusal) last →
            WritesThrough id old.streams
            (with_outgoing stream (outgoings.Waiting (sent_more waits n))) streams
            → GivesShare old id pass result (with_streams old last streams) then
        list_stopped refusal result stops none_left_of answered writes =
            gives old id pass then stream waits here outgoing goes left last streams _ result
            writes (λ values happened is up alive few.
            let mid = end_after_call happened share (Count n) in
            let act = SendFields id list true in
            let after = end_after_call mid act (Refused refusal) in
            let begun = first values happened is alive in
            let live = stays values happened is alive in
            let both = answered values mid.log begun.streams.conn in
            let left_over = sent_more waits n in
            let keeps = keeps_written old last streams id stream _ here writes in
            let before = keeps_written old conn mid_streams id stream _ here mid_writes in
            let waiting_is = waiting_here values between mid id _ left_over begun kept_between live
            refl in
            let wait = trailers_wait mid id left_over list waiting_is none_left are in
            let kept_on = refused_waits mid.log act refusal in
            let running = data_failed happened.log id (take most rest) (is_none waits.trailers
            && nat_le (length rest) most) n ∙ up in (
              after,
              stopped_at values happened id pass then refusal result stops
                  (with_streams old last streams) after _ 0
                  (has_both values happened after (Some (Stopped refusal 0)) is up alive few
                  (λ stop is_that. rest_by (Stopped refusal 0) stop then.rest none_left_of is_that)
                  (list_refused mid list refusal list_typed wait both.0)
                  (omega (arith, kept_on)) (refused_failed mid.log act refusal))
                  (share_refused values between (with_streams old last streams) mid id _ left_over
                  begun kept_between live refl refl refl act refusal both.0 both.1 (record {
                    one = keeps.one;
                    others = λ i other. keeps.others i other ∙ sym (before.others i other);
                  }) (λ i. refused_fields_keep i id list true refusal))
                  (refused.fields_refused mid.log id list true refusal running live
                  (waiting_goes_on _ values mid id left_over begun.streams.conn.machine.came
                  waiting_is) (trailers_fit mid id left_over list waiting_is are) both.0),
            ))

    -- The octets were refused.
    pub octets_stopped : (conn : Conn) (streams : NumberEntries Stream) (refusal : Refusal)
        (result : Result SendState Refusal) → StopsBy refusal result
        → ConnAnswers old.conn share (Refused refusal) conn → then.count ≡ pass.count
        → then.rest ≡ most
        → WritesThrough id old.streams
        (with_outgoing stream (outgoings.Waiting waits)) streams
        → GivesShare old id pass result (with_streams old conn streams) then
    octets_stopped conn streams refusal result stops answers same whole writes =
        gives old id pass then stream waits here outgoing goes left conn streams _ result
        writes (λ values happened is up alive few.
        let after = end_after_call happened share (Refused refusal) in
        let both = answers values happened.log is.streams.conn in
        let keeps = keeps_written old conn streams id stream _ here writes in
        let waiting_is = waiting_here values old happened id stream waits is here alive outgoing in
        let kept_on = refused_waits happened.log share refusal in
        let ends = is_none waits.trailers && nat_le (length rest) most in (
          after,
          stopped_at values happened id pass then refusal result stops
              (with_streams old conn streams) after _ most (record {
                waits = waits_now old id pass then stream waits here outgoing goes left
                    values happened is alive;
                sent = 0;
                shares = octets_refused happened rest (is_none waits.trailers) refusal typed
                    (body_waits happened id waits waiting_is some) both.0;
                rest = λ stop is_that. rest_by (Stopped refusal most) stop then.rest whole is_that;
                sum = omega (arith, same);
                few = omega (arith, same, few, kept_on);
                up = refused_failed happened.log share refusal ∙ up;
              }) (share_refused values old (with_streams old conn streams) happened id stream waits
              is here alive outgoing refl refl share refusal both.0 both.1 keeps
              (λ i. data_closes_none i id (take most rest) ends refusal))
              (refused.data_refused happened.log id (take most rest) ends refusal up alive
              (waiting_goes_on _ values happened id waits is.streams.conn.machine.came waiting_is)
              both.0),
        ))
