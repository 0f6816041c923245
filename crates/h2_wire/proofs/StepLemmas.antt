-- What the steps of a call make of the stream, whatever it was: inside the preface, at its end, and
-- after it.
use Rattle.h2_wire.proofs.Names.{◌≡◌, ◌≢◌, ℕ, ◌+◌, ◌-◌, ◌<◌, ◌≤◌, nat_lt, ◌&&◌, Bool, true, false}
use Rattle.h2_wire.proofs.Names.{List, [], ◌∷◌, ◌++◌, length, take, drop, None, Some, refl, ap, sym}
use Rattle.h2_wire.proofs.Names.{◌∙◌, inl, inr, arith, append_assoc, append-nil, length-append}
use Rattle.h2_wire.proofs.Names.{length-take, take-append-drop, Code, Head, head_of, head_fault}
use Rattle.h2_wire.proofs.Names.{Frame, payload_fault, head_of-append, Limits, IsFrame, IsPartial}
use Rattle.h2_wire.proofs.Names.{IsAfterPreface, EndsWithFault, CutterState, saturated}
use Rattle.h2_wire.proofs.Names.{CutterRepresents, CutterContinues, Opens}
use Rattle.h2_wire.proofs.Names.{HeadFault}
use Rattle.h2_wire.specs.Streams.{preface, expected_preface}
use Rattle.std.proofs.Common.{get_or}
use Rattle.std.proofs.lemmas.Bool.{lt-ltb, false≢true}
use Rattle.std.proofs.lemmas.List.{take_more}
use Rattle.std.proofs.Math.Seq.{take-add}
use Rattle.h2_wire.specs.Step.{OpensSoundly}
use Rattle.h2_wire.proofs.StreamLemmas.{IsPartial-empty, past_more, past_frame, past_not_in_preface}
use Rattle.h2_wire.proofs.CallLemmas.{saturated-add, continues_after}
use Rattle.h2_wire.specs.declared.fault.WireFault.TheVariants as faults

-- a preface that is awaited is expected
expects_awaited : (expects : Bool) (count : ℕ) → true ≡ expects && nat_lt count 24 → expects ≡ true
expects_awaited true count e = refl
expects_awaited false count e = sym e

-- less than what precedes the first frame is less than a preface
awaited_short : (expects : Bool) (count : ℕ) → count < length (expected_preface expects)
    → expects && nat_lt count 24 ≡ true
unfolding preface expected_preface
awaited_short true count few = lt-ltb count 24 few
awaited_short false count few = absurd (omega arith)

module _ (state : CutterState) where
  -- Where the preface is awaited, the stream is what was matched of it.
  pub matched_stream : (expects : Bool) (limits : Limits) (stream : List ℕ) (so_far : List Frame)
      → state.in_preface ≡ true → CutterRepresents state expects limits stream so_far
      → (expects ≡ true) × (so_far ≡ []) × (stream ≡ state.unparsed)
  unfolding preface
  matched_stream expects limits stream so_far in_preface represented = elim represented.split [
    | inl short ↦ (
      expects_awaited expects (length stream) (sym in_preface ∙ represented.in_preface),
      short.none,
      sym short.all,
    )
    | inr past ↦ absurd (false≢true
        (sym (past_not_in_preface expects limits stream so_far state.unparsed past)
        ∙ sym represented.in_preface ∙ in_preface))
  ]

  -- After the preface, the unparsed octets follow the frames.
  pub opens_past : state.in_preface ≡ false → Opens state [] state.unparsed
  unfolding preface
  opens_past in_preface expects limits stream so_far represented = elim represented.split [
    | inl short ↦ absurd (false≢true (sym in_preface ∙ represented.in_preface
        ∙ awaited_short expects (length stream) short.short))
    | inr past ↦ rw (append-nil stream) past
  ]

  -- The preface becomes complete.
  pub opens_first : (matched : ℕ) (used : List ℕ) → state.in_preface ≡ true
      → state.unparsed ≡ take matched preface → used ≡ drop matched preface → Opens state used []
  unfolding expected_preface
  opens_first matched used in_preface unparsed same expects limits stream so_far represented =
      let (asked, none, all) = matched_stream expects limits stream so_far in_preface represented in
      let complete : stream ++ used ≡ preface =
      rw (all, unparsed, same) (take-append-drop matched preface) in
      record {
        part = stream ++ used;
        joined = sym (append-nil _);
        sound = record {
          body = [];
          opened = complete ∙ rw (asked, append-nil preface) refl;
          framed = rw none refl;
        };
        partial = IsPartial-empty _;
      }

-- The preface continues, and isn't complete yet.
pub continues_preface : (old new : CutterState) (matched : ℕ) (used : List ℕ) → new.fault ≡ None
    → old.in_preface ≡ true → new.in_preface ≡ true
    → new.limit ≡ old.limit → new.greatest ≡ old.greatest
    → new.place ≡ saturated (old.place + length used)
    → old.unparsed ≡ take matched preface → matched + length used < 24
    → used ≡ take (length used) (drop matched preface)
    → new.unparsed ≡ take (matched + length used) preface → CutterContinues old used [] new
unfolding preface expected_preface
continues_preface old new matched used sound in_preface after limit greatest place unparsed few same
    new_unparsed = record {
      sound = sound;
      same_limit = limit;
      same_greatest = greatest;
      represents = λ expects limits stream so_far represented.
          let (asked, none, all) =
          matched_stream old expects limits stream so_far in_preface represented in
          let matched_now : stream ++ used ≡ take (matched + length used) preface =
          ap (λ (octets : List ℕ). octets ++ used) (all ∙ unparsed)
          ∙ ap (λ (octets : List ℕ). take matched preface ++ octets) same
          ∙ sym (take-add matched (length used) preface) in
          let counted : length (stream ++ used) ≡ matched + length used = ap length matched_now
          ∙ length-take (matched + length used) preface ∙ omega arith in
          record {
            sound = sound;
            split = inl (record {
              missing = drop (matched + length used) preface;
              opens =
                  rw (asked, matched_now) (sym (take-append-drop (matched + length used) preface));
              short = rw (asked, counted) few;
              none = rw none refl;
              all = new_unparsed ∙ sym matched_now;
            });
            in_preface = after ∙ rw (asked, counted) (sym (lt-ltb (matched + length used) 24 few));
            place = place ∙ ap (λ (n : ℕ). saturated (n + length used)) represented.place
                ∙ saturated-add (length stream) (length used)
                ∙ ap saturated (sym (length-append stream used));
            ahead = λ at later. represented.ahead at (omega (arith, length-append stream used))
                ∙ sym limit;
          };
    }

-- An octet isn't that of the preface.
pub wrong_preface : (old : CutterState) (matched start : ℕ) (piece : List ℕ) → old.in_preface ≡ true
    → old.unparsed ≡ take matched preface → start < length piece
    → matched + start < 24 → take start piece ≡ take start (drop matched preface)
    → get_or piece start 0 ≢ get_or preface (matched + start) 0
    → (expects : Bool) (limits : Limits) (stream : List ℕ) (so_far : List Frame)
    → CutterRepresents old expects limits stream so_far
    → EndsWithFault expects limits so_far (stream ++ take (start + 1) piece) faults.BadPreface
unfolding preface expected_preface
wrong_preface old matched start piece in_preface unparsed within inside same differs expects limits
    stream so_far represented =
    let (asked, none, all) =
    matched_stream old expects limits stream so_far in_preface represented in
    let matched_now : stream ++ take start piece ≡ take (matched + start) preface =
    ap (λ (octets : List ℕ). octets ++ take start piece) (all ∙ unparsed)
    ∙ ap (λ (octets : List ℕ). take matched preface ++ octets) same
    ∙ sym (take-add matched start preface) in
    let next : take (start + 1) piece ≡ take start piece ++ get_or piece start 0 ∷ [] =
    take_more piece start 0 within in
    let right : take (matched + start + 1) preface ≡ take (matched + start) preface
    ++ get_or preface (matched + start) 0 ∷ [] = take_more preface (matched + start) 0 inside in
    record {
      none = none;
      prefix = take (matched + start) preface;
      right = get_or preface (matched + start) 0;
      missing = drop (matched + start + 1) preface;
      wrong = get_or piece start 0;
      opens = rw asked (sym (take-append-drop (matched + start + 1) preface)
          ∙ ap (λ (octets : List ℕ). octets ++ drop (matched + start + 1) preface) right
          ∙ append_assoc (take (matched + start) preface) _ _);
      reads = ap (λ (octets : List ℕ). stream ++ octets) next
          ∙ sym (append_assoc stream (take start piece) _)
          ∙ ap (λ (octets : List ℕ). octets ++ get_or piece start 0 ∷ []) matched_now;
      differs = differs;
    }

-- octets that are used are a prefix of the piece, and then those that follow it
pub used_in_two : (stream piece : List ℕ) (start more : ℕ)
    → stream ++ take (start + more) piece ≡ (stream ++ take start piece)
    ++ take more (drop start piece)
used_in_two stream piece start more =
    ap (λ (octets : List ℕ). stream ++ octets) (take-add start more piece)
    ∙ sym (append_assoc stream (take start piece) (take more (drop start piece)))

-- a piece is a prefix, and what follows it
pub piece_in_two : (stream piece : List ℕ) (start : ℕ)
    → stream ++ piece ≡ (stream ++ take start piece) ++ drop start piece
piece_in_two stream piece start =
    ap (λ (octets : List ℕ). stream ++ octets) (sym (take-append-drop start piece))
    ∙ sym (append_assoc stream (take start piece) (drop start piece))

module _ (old new : CutterState) (piece partial : List ℕ) (start : ℕ) where
  -- A frame continues to the piece's end, and isn't complete.
  pub continues_partial : new.fault ≡ None → new.in_preface ≡ false → new.limit ≡ old.limit
      → new.greatest ≡ old.greatest → new.place ≡ saturated (old.place + length piece)
      → new.unparsed ≡ partial ++ drop start piece
      → ((expects : Bool) (limits : Limits) (stream : List ℕ) (so_far : List Frame)
      → CutterRepresents old expects limits stream so_far → (past : IsAfterPreface expects limits
      (stream ++ take start piece) so_far partial) × IsPartial (limits (length past.part + 9))
      (partial ++ drop start piece))
      → CutterContinues old piece [] new
  continues_partial sound in_preface limit greatest place unparsed opens =
      continues_after old new piece [] sound in_preface limit greatest place
      (λ expects limits stream so_far represented.
      let (past, fits) = opens expects limits stream so_far represented in
      rw (piece_in_two stream piece start, append-nil so_far, unparsed)
      (past_more expects limits (stream ++ take start piece) so_far partial
      (drop start piece) past fits))

  -- A frame is complete.
  pub completes_frame : (missing_octets : ℕ) (frame : Frame) → new.fault ≡ None
      → new.in_preface ≡ false → new.limit ≡ old.limit → new.greatest ≡ old.greatest
      → new.place ≡ saturated (old.place + (start + missing_octets))
      → start + missing_octets ≤ length piece → new.unparsed ≡ []
      → ((expects : Bool) (limits : Limits) (stream : List ℕ) (so_far : List Frame)
      → CutterRepresents old expects limits stream so_far → (past : IsAfterPreface expects limits
      (stream ++ take start piece) so_far partial) × IsFrame (limits (length past.part + 9)) frame
      (partial ++ take missing_octets (drop start piece)))
      → CutterContinues old (take (start + missing_octets) piece) (frame ∷ []) new
  completes_frame missing_octets frame sound in_preface limit greatest place within unparsed opens =
      let counted : length (take (start + missing_octets) piece) ≡ start + missing_octets =
      length-take (start + missing_octets) piece ∙ omega arith in
      continues_after old new (take (start + missing_octets) piece)
      (frame ∷ []) sound in_preface limit greatest (place
      ∙ ap (λ (n : ℕ). saturated (old.place + n)) (sym counted))
      (λ expects limits stream so_far represented.
      let (past, complete) = opens expects limits stream so_far represented in
      rw (used_in_two stream piece start missing_octets, unparsed)
      (past_frame expects limits (stream ++ take start piece) so_far partial
      (take missing_octets (drop start piece)) frame past complete))

-- Where less than a head has come, the head is checked by the limit that the cutter has.
pub limit_ahead : (old : CutterState) (expects : Bool) (limits : Limits) (stream : List ℕ)
    (so_far : List Frame) (used partial : List ℕ)
    → CutterRepresents old expects limits stream so_far
    → (past : IsAfterPreface expects limits (stream ++ used) so_far partial) → length partial < 9
    → limits (length past.part + 9) ≡ old.limit
limit_ahead old expects limits stream so_far used partial represented past few =
    let counted = simp length-append at (ap length past.joined) in
    represented.ahead (length past.part + 9) (omega (arith, counted))

-- The head of a prefix is that of all the octets, where there are nine.
pub head_of-take : (octets : List ℕ) (count : ℕ) → 9 ≤ count → 9 ≤ length octets
    → head_of (take count octets) ≡ head_of octets
head_of-take octets count nine enough =
    sym (head_of-append (take count octets) (drop count octets) (simp length-take (omega arith)))
    ∙ ap head_of (take-append-drop count octets)

-- A head is at fault.
pub wrong_head : (old : CutterState) (piece partial : List ℕ) (start : ℕ) (fault : HeadFault)
    → Opens old (take start piece) partial → length partial < 9
    → 9 ≤ length partial + length (drop start piece)
    → head_fault (head_of (partial ++ drop start piece)) old.limit ≡ Some fault
    → (expects : Bool) (limits : Limits) (stream : List ℕ) (so_far : List Frame)
    → CutterRepresents old expects limits stream so_far
    → EndsWithFault expects limits so_far (stream ++ take (start + (9 - length partial)) piece)
    (faults.HeadFault fault)
wrong_head old piece partial start fault opens few enough faulty expects limits stream so_far
    represented =
    let past = opens expects limits stream so_far represented in
    let missing : ℕ = 9 - length partial in
    let last : List ℕ = partial ++ take (9 - length partial) (drop start piece) in
    let nine : length last ≡ 9 =
    length-append partial (take (9 - length partial) (drop start piece))
    ∙ ap (λ (n : ℕ). length partial + n)
    (length-take (9 - length partial) (drop start piece)) ∙ omega arith in
    let prefix : head_of (partial ++ drop start piece) ≡ head_of last =
    ap (λ (octets : List ℕ). head_of (partial ++ octets))
    (sym (take-append-drop (9 - length partial) (drop start piece)))
    ∙ ap head_of
    (sym (append_assoc partial (take (9 - length partial) (drop start piece))
    (drop (9 - length partial) (drop start piece))))
    ∙ head_of-append last (drop (9 - length partial) (drop start piece)) (omega (arith, nine)) in
    record {
      part = past.part;
      last = last;
      joined = used_in_two stream piece start (9 - length partial)
          ∙ ap (λ (octets : List ℕ). octets ++ take (9 - length partial) (drop start piece))
          past.joined ∙ append_assoc past.part partial _;
      sound = past.sound;
      nine = nine;
      faulty =
          rw (
            limit_ahead old expects limits stream so_far
                (take start piece) partial represented past few,
            ← prefix,
          ) faulty;
    }

-- A payload is at fault.
pub wrong_payload : (old : CutterState) (piece partial : List ℕ) (start missing_octets : ℕ)
    (head : Head) (code : Code) → OpensSoundly old (take start piece) partial head
    → head ≡ head_of (partial ++ take missing_octets (drop start piece))
    → length (partial ++ take missing_octets (drop start piece)) ≡ 9 + head.length
    → payload_fault head (drop 9 (partial ++ take missing_octets (drop start piece))) ≡ Some code
    → (expects : Bool) (limits : Limits) (stream : List ℕ) (so_far : List Frame)
    → CutterRepresents old expects limits stream so_far
    → EndsWithFault expects limits so_far (stream ++ take (start + missing_octets) piece)
    (faults.PayloadFault code)
wrong_payload old piece partial start missing_octets head code opens is_head complete faulty expects
    limits stream so_far represented =
    let (past, sound) = opens expects limits stream so_far represented in
    record {
      part = past.part;
      last = partial ++ take missing_octets (drop start piece);
      joined = used_in_two stream piece start missing_octets
          ∙ ap (λ (octets : List ℕ). octets ++ take missing_octets (drop start piece)) past.joined
          ∙ append_assoc past.part partial _;
      sound = past.sound;
      complete = rw (← is_head) complete;
      sound_head = rw (← is_head) sound;
      faulty = rw (← is_head) faulty;
    }
