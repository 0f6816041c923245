-- How the parts of a response that come one after another are passed on.
use Rattle.std.proofs.Common.{◌≡◌, ◌<◌, ◌≤◌, ℕ, ◌+◌, ◌-◌, ◌^◌, false, List, []}
use Rattle.std.proofs.Common.{◌∷◌}
use Rattle.std.proofs.Common.{◌++◌, length, take, Option, Some, None, Ok, Err, refl, sym}
use Rattle.std.proofs.Common.{ap}
use Rattle.std.proofs.Common.{◌∙◌, subst, arith, append-nil, append_assoc, inr, Vec, Global}
use Rattle.std.proofs.Common.{length-append}
use Rattle.std.proofs.KnownBytes.{Appends-nil, Appends-trans}
use Rattle.std.proofs.Math.Seq.{take-append-add}
use Rattle.std.specs.Io.KnownBytes.{Appends}
use Rattle.hpack.specs.declared.types.field.Field.{Field}
use Rattle.h2_spec_log.specs.Acts.{Values}
use Rattle.h2_message.specs.Messages.{SentMessage}
use Rattle.h2_ends.specs.Ends.{EndLog, Handed, InterimHanded, HeadHanded, BodyHanded}
use Rattle.h2_ends.specs.Ends.{TrailersHanded}
use Rattle.h2_link.specs.declared.error.LinkError.{LinkError}
use Rattle.h2_link.specs.declared.error.LinkError.TheVariants as errors
use Rattle.h2_engines.specs.Linked.{Traffic}
use Rattle.h2_engines.proofs.MachineViews.{all_in_part}
use Rattle.h2_fetch.specs.declared.fetch.PartFetch.{PartFetch}
use Rattle.h2_fetch.specs.declared.part.ResponsePart.{ResponsePart}
use Rattle.h2_fetch.specs.declared.part.ResponsePart.TheVariants as parts
use Rattle.h2_fetch.specs.Comings.{AnswersNext, ComesSo, HandsSince, HasStopped, IsComing}
use Rattle.h2_fetch.specs.Parts.{handed_of, handed_on}
use Rattle.h2_get.specs.declared.pass_error.PassError.{PassError}
use Rattle.h2_get.specs.declared.pass_error.PassError.TheVariants as passes
use Rattle.h2_get.specs.declared.pass_error.ResponseHead.{ResponseHead}
use Rattle.h2_get.specs.declared.pass_error.Passed.TheVariants.{Whole}
use Rattle.h2_get.specs.Receives.{HeadComes, EndsBody, EndsResponse, HasNoHead, HeadComesSo}
use Rattle.h2_get.specs.Receives.{PassedSo, PassesBody, PassesPart, body_handed, body_of_part}
use Rattle.h2_get.specs.Receives.{fields_in_trailers, head_in, is_head}

-- The octets of two lists of parts are those of the first and those of the second.
pub body_append : (one two : List Handed)
    → body_handed (one ++ two) ≡ body_handed one ++ body_handed two
unfolding body_handed
body_append [] two = refl
body_append (BodyHanded id octets end ∷ one) two =
    ap (λ (body : List ℕ). octets ++ body) (body_append one two)
    ∙ sym (append_assoc octets (body_handed one) (body_handed two))
body_append (part ∷ one) two = body_append one two

body_one : (id : ℕ) (part : ResponsePart) → body_handed (handed_of id part ∷ []) ≡ body_of_part part
unfolding body_handed
body_one id (parts.Interim list) = refl
body_one id (parts.Head list end) = refl
body_one id (parts.Body octets end) = append-nil octets.items
body_one id (parts.Trailers list) = refl

pub body_and_one : (id : ℕ) (came : List Handed) (part : ResponsePart)
    → body_handed (came ++ handed_of id part ∷ []) ≡ body_handed came ++ body_of_part part
body_and_one id came part =
    body_append came (handed_of id part ∷ [])
    ∙ ap (λ (body : List ℕ). body_handed came ++ body) (body_one id part)

-- What was handed out since, and what was lost after that.
since : {id : ℕ} {before middle after : EndLog} {came : List Handed} {error : LinkError}
    → handed_on id middle.handed ≡ handed_on id before.handed ++ came
    → HandsSince id middle after [] error → HandsSince id before after came error
since {id} {before} {middle} {after} {came} came_so then =
    record {
      lost = then.lost;
      handed = then.handed ∙ ap (λ (handed : List Handed). handed ++ then.lost) came_so
          ∙ append_assoc (handed_on id before.handed) came then.lost;
      all = then.all;
    }

and_one : (id : ℕ) (before middle after came : List Handed) (one : Handed)
    → handed_on id middle ≡ handed_on id before ++ came
    → handed_on id after ≡ handed_on id middle ++ one ∷ []
    → handed_on id after ≡ handed_on id before ++ (came ++ one ∷ [])
and_one id before middle after came one came_so then =
    then ∙ ap (λ (handed : List Handed). handed ++ one ∷ []) came_so
    ∙ append_assoc (handed_on id before) came (one ∷ [])

-- The client fetches still, in each round a turn has passed at least, and these parts have come,
-- for which something holds.
pub record IsPassing (P : List Handed → Type 0) (values : Values) (message : SentMessage) (wide : ℕ)
    (start now : Traffic) (fetch : PartFetch) (before : EndLog) (rounds : ℕ) : Type 0 where
  pub after : EndLog
  pub came : List Handed
  pub coming : IsComing values message wide start now fetch after
  pub handed : handed_on fetch.id after.handed ≡ handed_on fetch.id before.handed ++ came
  pub holds : P came
  pub turns : rounds + length before.log.turns ≤ length after.log.turns

-- Whatever had happened at first, it is so now.
abbrev pub PassesOn : (P : List Handed → Type 0) → (before now : Traffic) → (old new : PartFetch)
    → (rounds : ℕ) → Type 0
PassesOn P before now old new rounds =
    (values : Values) (message : SentMessage) (wide : ℕ) (start : Traffic) (end : EndLog)
    → IsComing values message wide start before old end
    → IsPassing P values message wide start now new end rounds

pub passes_first : (P : List Handed → Type 0) (now : Traffic) (fetch : PartFetch) → P []
    → PassesOn P now now fetch fetch 0
passes_first P now fetch holds values message wide start end is =
    record {
      after = end;
      came = [];
      coming = is;
      handed = sym (append-nil (handed_on fetch.id end.handed));
      holds = holds;
      turns = omega arith;
    }

module _ (P : List Handed → Type 0) (before middle now : Traffic) (old self new : PartFetch)
    (rounds : ℕ) (on : PassesOn P before middle old self rounds) (stream : new.id ≡ self.id) where
  -- One part more has come,
  pub passes_one : (Q : List Handed → Type 0) (part : ResponsePart)
      → ((came : List Handed) → P came → Q (came ++ handed_of new.id part ∷ []))
      → AnswersNext middle now self new (Ok part) → PassesOn Q before now old new (rounds + 1)
  unfolding ComesSo
  passes_one Q part holds answers values message wide start end is =
      let go = on values message wide start end is in
      let next = answers values message wide start go.after go.coming in
      record {
        after = next.0;
        came = go.came ++ handed_of new.id part ∷ [];
        coming = next.1.0;
        handed = and_one new.id end.handed go.after.handed next.0.handed go.came
            (handed_of new.id part) (rw stream go.handed) next.1.1;
        holds = holds go.came go.holds;
        turns = omega (arith, go.turns, next.1.2);
      }

  -- or the fetch has ended early.
  pub stops_after : (error : LinkError) → AnswersNext middle now self new (Err error)
      → (values : Values) (message : SentMessage) (wide : ℕ) (start : Traffic) (end : EndLog)
      → IsComing values message wide start before old end
      → (after : EndLog) × (came : List Handed)
      × HasStopped values message wide start now new after error
      × HandsSince new.id end after came error × P came
  unfolding ComesSo
  stops_after error answers values message wide start end is =
      let go = on values message wide start end is in
      let next = answers values message wide start go.after go.coming in
      (next.0, go.came, next.1.0, since (rw stream go.handed) next.1.1, go.holds)

-- There were as many rounds as may be.
pub no_round_left : (P : List Handed → Type 0) (before now : Traffic) (old new : PartFetch)
    (rounds : ℕ) → 2 ^ 64 - 1 ≤ rounds → PassesOn P before now old new rounds
    → (values : Values) (message : SentMessage) (wide : ℕ) (start : Traffic) (end : EndLog)
    → IsComing values message wide start before old end
    → (after : EndLog) × (came : List Handed)
    × HasStopped values message wide start now new after errors.NoProgress
    × HandsSince new.id end after came errors.NoProgress × P came
no_round_left P before now old new rounds all on values message wide start end is =
    let go = on values message wide start end is in (
      go.after,
      go.came,
      record {
        fetching = go.coming.fetching;
        represents = go.coming.represents;
        accepted = go.coming.accepted;
        linked = all_in_part go.coming.linked;
        so = inr (omega (arith, all, go.turns));
      },
      record {
        lost = [];
        handed = go.handed ∙ ap (λ (came : List Handed). handed_on new.id end.handed ++ came)
            (sym (append-nil go.came));
        all = λ other. refl;
      },
      go.holds,
    )

-- Of the body that has come, all was written.
abbrev pub Written : (written now : Option (List ℕ)) → List Handed → Type 0
Written written now came = Appends written now (body_handed came)

pub writes_none : (written : Option (List ℕ)) → Written written written []
unfolding body_handed
writes_none written = Appends-nil written

pub writes_one : (id : ℕ) (start before after : Option (List ℕ)) (part : ResponsePart)
    → Appends before after (body_of_part part) → (came : List Handed) → Written start before came
    → Written start after (came ++ handed_of id part ∷ [])
writes_one id start before after part writes came written =
    subst (Appends start after) (sym (body_and_one id came part))
    (Appends-trans start before after _ _ written writes)

-- The part that ends a response is the last one.
pub ends_body : (id : ℕ) (came : List Handed) (part : ResponsePart)
    (trailers : Option (Vec Field Global)) → EndsResponse part (fields_in_trailers trailers)
    → EndsBody id (came ++ handed_of id part ∷ []) (fields_in_trailers trailers)
ends_body id came (parts.Interim list) trailers ends = absurd ends
ends_body id came (parts.Head list end) trailers ends = absurd ends
ends_body id came (parts.Body octets end) None ends =
    (came, octets.items, rw ends.0 refl)
ends_body id came (parts.Body octets end) (Some list) ends = absurd (cc)
ends_body id came (parts.Trailers list) None ends = absurd (cc)
ends_body id came (parts.Trailers list) (Some other) ends =
    let same : other.items ≡ list.items = cc in (came, rw same refl)

module _ (before middle now : Traffic) (old self new : PartFetch) (rounds : ℕ)
    (start written written_now : Option (List ℕ))
    (on : PassesOn (Written start written) before middle old self rounds)
    (stream : new.id ≡ self.id) (part : ResponsePart)
    (answers : AnswersNext middle now self new (Ok part)) where
  -- So the response is whole,
  pub passed_whole : (trailers : Option (Vec Field Global))
      → PassesPart part written written_now (Ok (Whole trailers))
      → PassesBody before now old new start written_now (Ok trailers)
  unfolding PassedSo passes_one
  passed_whole trailers passes values message wide first end is =
      let go = on values message wide first end is in
      let one = passes_one (Written start written) before middle now old self new rounds on stream
      (Written start written_now) part (writes_one new.id start written written_now part passes.0)
      answers values message wide first end is in (
        one.after,
        one.came,
        (
          one.coming,
          one.handed,
          ends_body new.id go.came part trailers passes.1,
          one.holds,
        ),
      )

  -- or not all of it was written.
  pub passed_first : (error : PassError)
      → PassesPart part written written_now (Err error)
      → PassesBody before now old new start written_now (Err error)
  unfolding PassedSo ComesSo
  passed_first error passes values message wide first end is =
      let go = on values message wide first end is in
      let next = answers values message wide first go.after go.coming in
      let one = handed_of new.id part in
      let xs = body_handed go.came in
      let ys = body_of_part part in
      let count = passes.1.0 in
      let joined = body_and_one new.id go.came part in
      let less : length xs + count < length (body_handed (go.came ++ one ∷ [])) =
      rw (joined, length-append xs ys) (omega (arith, passes.1.1)) in
      let writes : Appends start written_now
      (take (length xs + count) (body_handed (go.came ++ one ∷ []))) =
      subst (λ (body : List ℕ). Appends start written_now (take (length xs + count) body))
      (sym joined)
      (subst (Appends start written_now) (sym (take-append-add xs ys count))
      (Appends-trans start written written_now _ _ go.holds passes.1.2)) in
      rw passes.0 (
        next.0,
        go.came ++ one ∷ [],
        (
          next.1.0,
          and_one new.id end.handed go.after.handed next.0.handed go.came one
              (rw stream go.handed) next.1.1,
          (length xs + count, less, writes),
        ),
      )

-- The fetch has ended early.
pub passed_stops : (before now : Traffic) (old new : PartFetch) (start written : Option (List ℕ))
    (error : LinkError)
    → ((values : Values) (message : SentMessage) (wide : ℕ) (first : Traffic) (end : EndLog)
    → IsComing values message wide first before old end
    → (after : EndLog) × (came : List Handed)
    × HasStopped values message wide first now new after error
    × HandsSince new.id end after came error × Written start written came)
    → PassesBody before now old new start written (Err (passes.Link error))
unfolding PassedSo
passed_stops before now old new start written error stops values message wide first end is =
    let so = stops values message wide first end is in (so.0, so.1, (so.2, so.3, so.4))

-- No head has come yet.
pub no_head_first : HasNoHead []
no_head_first = tt

no_heads : (came : List Handed) (one : Handed) → is_head one ≡ false → HasNoHead came
    → HasNoHead (came ++ one ∷ [])
no_heads [] one not none = (not, tt)
no_heads (first ∷ came) one not none = (none.0, no_heads came one not none.1)

-- A part that is no such head follows.
pub follows_no_head : (id : ℕ) (part : ResponsePart) → head_in part ≡ None → (came : List Handed)
    → HasNoHead came → HasNoHead (came ++ handed_of id part ∷ [])
follows_no_head id (parts.Interim list) not came none =
    no_heads came (InterimHanded id list.items) refl none
follows_no_head id (parts.Head list end) not came none = absurd (cc)
follows_no_head id (parts.Body octets end) not came none =
    no_heads came (BodyHanded id octets.items end) refl none
follows_no_head id (parts.Trailers list) not came none =
    no_heads came (TrailersHanded id list.items) refl none

-- A part that is one is handed out as one.
pub handed_head : (id : ℕ) (part : ResponsePart) (head : ResponseHead) → head_in part ≡ Some head
    → handed_of id part ≡ HeadHanded id head.list.items head.end
handed_head id (parts.Interim list) head is = absurd (cc)
handed_head id (parts.Head list end) head is =
    let same : record { list = list; end = end } ≡ head = cc in
    ap (λ (one : ResponseHead). HeadHanded id one.list.items one.end) same
handed_head id (parts.Body octets end) head is = absurd (cc)
handed_head id (parts.Trailers list) head is = absurd (cc)

module _ (before middle now : Traffic) (old self new : PartFetch) (rounds : ℕ)
    (on : PassesOn HasNoHead before middle old self rounds) (stream : new.id ≡ self.id) where
  -- The head has come,
  pub head_comes : (part : ResponsePart) (head : ResponseHead) → head_in part ≡ Some head
      → AnswersNext middle now self new (Ok part) → HeadComes before now old new (Ok head)
  unfolding ComesSo HeadComesSo
  head_comes part head is answers values message wide start first coming =
      let go = on values message wide start first coming in
      let next = answers values message wide start go.after go.coming in
      let one = handed_of new.id part in (
        next.0,
        go.came ++ one ∷ [],
        (
          next.1.0,
          and_one new.id first.handed go.after.handed next.0.handed go.came one
              (rw stream go.handed) next.1.1,
          record {
            first = go.came;
            none = go.holds;
            last = ap (λ (last : Handed). go.came ++ last ∷ []) (handed_head new.id part head is);
          },
        ),
      )

-- or the fetch has ended early.
pub head_stops : (before now : Traffic) (old new : PartFetch) (error : LinkError)
    → ((values : Values) (message : SentMessage) (wide : ℕ) (start : Traffic) (first : EndLog)
    → IsComing values message wide start before old first
    → (after : EndLog) × (came : List Handed)
    × HasStopped values message wide start now new after error
    × HandsSince new.id first after came error × HasNoHead came)
    → HeadComes before now old new (Err error)
unfolding HeadComesSo
head_stops before now old new error stops values message wide start first is =
    let so = stops values message wide start first is in (so.0, so.1, (so.2, so.3, so.4))
