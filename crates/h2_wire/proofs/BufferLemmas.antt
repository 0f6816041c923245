-- What the steps of a call make of a buffer's state.
use Rattle.h2_wire.proofs.Names
use Names.{◌≡◌, ◌≢◌, ℕ, ◌+◌, ◌-◌, ◌<◌, ◌≤◌, Bool, false, List, ◌++◌, length, take, drop, [], ◌∷◌}
use Names.{Option, None, Some, MatchOption, Result, Ok, Err, refl, arith, length-append}
use Names.{length-take, length-drop, append_assoc, subst, ap, sym, ◌∙◌, take_rest, take-append-drop}
use Names.{drop-append_seam, Code, WireFault, Buffer, Phase, Head, head_of, head_fault, Frame}
use Names.{HeadFault}
use Names.{Encodes, payload_fault, pad_of, head_of-append, Limits, IsAfterPreface, IsPartial}
use Names.{CutterState, saturated, CutterRepresents, CutterFaults, CutterFails, CutterPasses}
use Names.{CutterCompletes, octets_of, octets_at, Source, Complete, Advance, state_of, unparsed_of}
use Names.{fault_of, is_in_preface, IsPartialPayload, BufferTakes}
use Rattle.h2_wire.specs.Streams.{preface, BeginsWithPreface, GoesPastPreface}
use Rattle.std.proofs.lemmas.List.{length-take-le, drop-append-le, take_at, get_or-drop}
use Rattle.std.proofs.lemmas.List.{get_or_append_left}
use Rattle.std.proofs.lemmas.Slice.{take-put_mid}
use borrow.Rule.Slice.PartMut.{put_mid}
use Rattle.std.proofs.Math.ListN.{get_or}
use Rattle.std.proofs.Math.Seq.{drop-append-add}
use Rattle.h2_wire.specs.Buffer.{BufferInvariant}
use Rattle.h2_wire.specs.Step.{StartsFrame, StartsPayload, EndsFrame}
use Rattle.h2_wire.proofs.CallLemmas.{fails_at}
use Rattle.h2_wire.proofs.StepLemmas.{continues_partial, completes_frame, head_of-take, opens_past}
use Rattle.h2_wire.proofs.StepLemmas.{wrong_payload}
use Rattle.h2_wire.specs.declared.fault.WireFault.TheVariants as faults
use Rattle.h2_wire.specs.declared.buffer.Phase.TheVariants as phases

-- where there is no fault yet, what is said of a first one
pub if_first : (fault : Option WireFault) (First : Type 0) (Known : WireFault → Type 0)
    → fault ≡ None → First → MatchOption fault First Known
if_first None First Known none holds = holds
if_first (Some known) First Known none holds = (cc)

-- A first fault ends the stream.
pub fails_preface : (old : CutterState) (piece : List ℕ) (new : CutterState) → old.fault ≡ None
    → CutterFaults old piece faults.BadPreface new → CutterFails old piece faults.BadPreface new
fails_preface old piece new sound failed_now =
    if_first old.fault (CutterFaults old piece faults.BadPreface new)
    (λ known. new ≡ old) sound failed_now

pub fails_head : (old : CutterState) (piece : List ℕ) (fault : HeadFault) (new : CutterState)
    → old.fault ≡ None → CutterFaults old piece (faults.HeadFault fault) new
    → CutterFails old piece (faults.HeadFault fault) new
fails_head old piece fault new sound failed_now =
    if_first old.fault (CutterFaults old piece (faults.HeadFault fault) new)
    (λ known. new ≡ old) sound failed_now

pub fails_payload : (old : CutterState) (piece : List ℕ) (code : Code) (new : CutterState)
    → old.fault ≡ None → CutterFaults old piece (faults.PayloadFault code) new
    → CutterFails old piece (faults.PayloadFault code) new
fails_payload old piece code new sound failed_now =
    if_first old.fault (CutterFaults old piece (faults.PayloadFault code) new)
    (λ known. new ≡ old) sound failed_now

-- The piece is kept after what was kept, and no frame is complete.
pub keeps_piece : (old appended new : Buffer) (piece : List ℕ) (start : ℕ) (phase : Phase)
    → appended ≡ record old { octets = appended.octets }
    → new ≡ record appended { phase = phase; place = saturated (appended.place + length piece) }
    → appended.octets.items ≡ old.octets.items ++ drop start piece → fault_of phase ≡ None
    → is_in_preface phase ≡ false
    → unparsed_of phase appended.octets.items ≡ appended.octets.items
    → ((expects : Bool) (limits : Limits) (stream : List ℕ) (so_far : List Frame)
    → CutterRepresents (state_of old) expects limits stream so_far
    → (past : IsAfterPreface expects limits (stream ++ take start piece) so_far old.octets.items)
    × IsPartial (limits (length past.part + 9)) (old.octets.items ++ drop start piece))
    → CutterPasses (state_of old) piece (length piece) (state_of new)
keeps_piece old appended new piece start phase same changed items sound after kept opens =
    rw changed (record {
      all = refl;
      continues = continues_partial (state_of old) _ piece old.octets.items start sound after
          (ap (λ (b : Buffer). b.limit) same) (ap (λ (b : Buffer). b.greatest) same)
          (ap (λ (b : Buffer). saturated (b.place + length piece)) same) (kept ∙ items) opens;
    })

module _ (partial : List ℕ) where
  -- A head that has come was checked when its ninth octet came.
  pub sound_head : (more : List ℕ) (limit : ℕ) (head : Head) → IsPartial limit partial
      → head ≡ head_of (partial ++ more) → 9 ≤ length partial → head_fault head limit ≡ None
  sound_head more limit head fits is_head nine =
      rw (is_head, head_of-append partial more nine) (fits nine).0

  -- A frame's head is that of the octets up to its end.
  pub complete_head : (more : List ℕ) (missing_octets : ℕ)
      → 9 ≤ length (partial ++ take missing_octets more)
      → head_of (partial ++ more) ≡ head_of (partial ++ take missing_octets more)
  complete_head more missing_octets nine = ap (λ (octets : List ℕ). head_of (partial ++ octets))
      (sym (take-append-drop missing_octets more))
      ∙ ap head_of (sym (append_assoc partial (take missing_octets more) (drop missing_octets
      more))) ∙ head_of-append (partial ++ take missing_octets more) (drop missing_octets more) nine

  -- The head of what is kept and of the octets missing to nine, one written after the other, is
  -- that of the octets joined.
  pub read_head : (lent piece first more second : List ℕ) (kept start : ℕ) (head : Head)
      → kept ≡ length partial → length partial < 9
      → 9 - kept ≤ length (take (length piece - start) (drop start piece)) → lent ≡ partial
      → first ≡ lent → second ≡ take (9 - kept) (take (length piece - start) (drop start piece))
      → head ≡ head_of (put_mid kept (9 - kept) (first ++ more) second)
      → (9 ≤ length partial + length (drop start piece))
      × (head ≡ head_of (partial ++ drop start piece))
  read_head lent piece first more second kept start head counted few enough same is_lent rest
      is_head =
      let following = take_rest piece start in
      let all : 9 - kept ≤ length (drop start piece) = rw following at enough in
      let octets = put_mid kept (9 - kept) (first ++ more) second in
      let missing : second ≡ take (9 - kept) (drop start piece) = rw following at rest in
      let long : length second ≡ 9 - kept =
      rw (missing, length-take (9 - kept) (drop start piece)) (omega arith) in
      let shown : first ≡ partial = is_lent ∙ same in
      let begun : take kept (first ++ more) ≡ partial =
      take_at first more kept (rw shown (sym counted)) ∙ shown in
      let within : kept ≤ length (first ++ more) =
      rw (length-append first more, shown) (omega (arith, counted)) in
      let nine : take 9 octets ≡ partial ++ take (9 - kept) (drop start piece) =
      take-put_mid kept (9 - kept) (first ++ more) second 9 (omega (arith, long, counted)) within
      ∙ rw (begun, missing) refl in
      let whole : 9 ≤ length (partial ++ take (9 - kept) (drop start piece)) =
      rw (length-append, ← missing, long) (omega (arith, counted)) in (
        omega (arith, all, counted),
        is_head ∙ sym (head_of-take octets 9 (omega arith) (rw (begun, length-append, length-append)
            (omega (arith, long, counted))))
            ∙ ap head_of nine ∙ sym (complete_head (drop start piece) (9 - kept) whole),
      )

-- so many octets more complete a frame
pub length-complete : (partial more : List ℕ) (missing_octets : ℕ) (head : Head)
    → length partial + missing_octets ≡ 9 + head.length → missing_octets ≤ length more
    → length (partial ++ take missing_octets more) ≡ 9 + head.length
length-complete partial more missing_octets head counted enough =
    length-append partial (take missing_octets more)
    ∙ ap (λ (n : ℕ). length partial + n) (length-take missing_octets more) ∙ omega arith

module _ (old kept new : Buffer) (piece : List ℕ) (start missing_octets : ℕ) where
  -- The frame is complete, where it lies, and without fault.
  completes : (frame : Complete)
      → kept ≡ record old { octets = kept.octets }
      → new ≡ record kept {
        phase = phases.Lent;
        place = saturated (kept.place + (start + missing_octets));
      }
      → octets_of (state_of kept) piece frame
      ≡ old.octets.items ++ take missing_octets (drop start piece)
      → StartsPayload old piece start frame.head
      → length old.octets.items + missing_octets ≡ 9 + frame.head.length
      → missing_octets ≤ length (drop start piece)
      → payload_fault frame.head (drop 9 (octets_of (state_of kept) piece frame)) ≡ None
      → frame.pad ≡ pad_of frame.head (drop 9 (octets_of (state_of kept) piece frame))
      → CutterCompletes (state_of old) piece (start + missing_octets) frame (state_of new)
  completes frame same changed items starts counted enough sound_payload pad =
      let following : List ℕ = drop start piece in
      let complete : length (old.octets.items ++ take missing_octets following)
      ≡ 9 + frame.head.length =
      length-complete old.octets.items following missing_octets frame.head counted enough in
      let prefix : frame.head ≡ head_of (old.octets.items ++ take missing_octets following) =
      starts.is_head
      ∙ complete_head old.octets.items following missing_octets (omega (arith, complete)) in
      let within : start ≤ length piece = starts.within in
      let short : length old.octets.items < 9 + frame.head.length = starts.short in
      let all_within : start + missing_octets ≤ length piece =
      omega (arith, enough, length-drop start piece) in
      rw changed (record {
        within = all_within;
        some = omega (arith, counted, short);
        lies = record {
          complete = ap length items ∙ complete;
          is_head = prefix ∙ ap head_of (sym items);
          bounded = starts.bounded;
          form = starts.form;
          sound = sound_payload;
          pad = pad;
        };
        none_unparsed = refl;
        continues = λ value encodes.
            completes_frame (state_of old) _ piece old.octets.items start missing_octets value refl
            refl (ap (λ (b : Buffer). b.limit) same) (ap (λ (b : Buffer). b.greatest) same)
            (ap (λ (b : Buffer). saturated (b.place + (start + missing_octets))) same) all_within
            refl (λ expects limits stream so_far represented.
            let (past, sound_head) = starts.opens expects limits stream so_far represented in (
              past,
              record {
                encodes = subst (λ (octets : List ℕ). Encodes value octets) items encodes;
                sound_head = rw (← prefix) sound_head;
                sound_payload = rw (← prefix) (rw items at sound_payload);
              },
            ));
      })

  -- So what `end_frame` answers is what the call makes of the buffer.
  pub ends_frame : (head : Head) (source : Source) (result : Result Advance WireFault)
      → kept ≡ record old { octets = kept.octets }
      → octets_at kept.octets.items piece (9 + head.length) source ≡ old.octets.items ++ take
      missing_octets (drop start piece)
      → StartsPayload old piece start head
      → length old.octets.items + missing_octets ≡ 9 + head.length
      → missing_octets ≤ length (drop start piece)
      → EndsFrame kept piece (start + missing_octets) head source result new
      → BufferTakes (state_of old) piece result new
  ends_frame head source (Ok advance) same items starts counted enough (sound, answer, changed) =
      let within_now : kept.limit ≤ kept.greatest =
      rw (ap (λ (b : Buffer). b.limit) same, ap (λ (b : Buffer). b.greatest) same)
      starts.invariant.within in
      rw answer (record {
        invariant = rw changed (record { within = within_now; fits = tt });
        makes = completes _ same changed items starts counted enough sound refl;
      })
  ends_frame head source (Err fault) same items starts counted enough (code, faulty, is, changed) =
      let within_now : kept.limit ≤ kept.greatest =
      rw (ap (λ (b : Buffer). b.limit) same, ap (λ (b : Buffer). b.greatest) same)
      starts.invariant.within in
      let following : List ℕ = drop start piece in
      let complete : length (old.octets.items ++ take missing_octets following) ≡ 9 + head.length =
      length-complete old.octets.items following missing_octets head counted enough in
      let prefix : head ≡ head_of (old.octets.items ++ take missing_octets following) =
      starts.is_head
      ∙ complete_head old.octets.items following missing_octets (omega (arith, complete)) in
      let within : start ≤ length piece = starts.within in
      record {
        invariant = rw changed (record { within = within_now; fits = tt });
        makes = rw (is, changed, is) (fails_payload (state_of old) piece code _ starts.sound
            (fails_at (state_of old) _ piece (faults.PayloadFault code) (start + missing_octets)
            refl refl refl (ap (λ (b : Buffer). b.limit) same)
            (ap (λ (b : Buffer). b.greatest) same)
            (omega (arith, enough, within, length-drop start piece))
            (ap (λ (b : Buffer). saturated (b.place + (start + missing_octets))) same)
            (wrong_payload (state_of old) piece old.octets.items start missing_octets head code
            starts.opens prefix complete (rw items at faulty))));
      }

-- A head begins or continues.
pub starts_head : (buffer : Buffer) (piece : List ℕ) → buffer.phase ≡ phases.Head
    → BufferInvariant buffer → StartsFrame buffer piece 0
starts_head buffer piece is invariant =
    let few : length buffer.octets.items < 9 = rw is at invariant.fits in
    let sound : fault_of buffer.phase ≡ None = rw is refl in
    let after : is_in_preface buffer.phase ≡ false = rw is refl in
    let unparsed : unparsed_of buffer.phase buffer.octets.items ≡ buffer.octets.items =
    rw is refl in
    record {
      invariant = invariant;
      sound = sound;
      within = omega arith;
      few = few;
      opens = λ expects limits stream so_far represented.
          rw unparsed at (opens_past (state_of buffer) after expects limits stream so_far
          represented);
    }

-- A payload continues.
pub starts_payload : (buffer : Buffer) (piece : List ℕ) (head : Head)
    → buffer.phase ≡ phases.Payload head
    → BufferInvariant buffer → StartsPayload buffer piece 0 head
starts_payload buffer piece head is invariant =
    let kept : IsPartialPayload buffer.greatest head buffer.octets.items =
    rw is at invariant.fits in
    let sound : fault_of buffer.phase ≡ None = rw is refl in
    let after : is_in_preface buffer.phase ≡ false = rw is refl in
    let unparsed : unparsed_of buffer.phase buffer.octets.items ≡ buffer.octets.items =
    rw is refl in
    let nine : 9 ≤ length buffer.octets.items = kept.nine in
    let is_head : head ≡ head_of (buffer.octets.items ++ piece) = kept.is_head
    ∙ sym (head_of-append buffer.octets.items piece nine) in
    record {
      invariant = invariant;
      sound = sound;
      within = omega arith;
      short = kept.short;
      nine = omega (arith, nine);
      is_head = is_head;
      bounded = kept.bounded;
      form = kept.form;
      within_greatest = kept.within;
      opens = λ expects limits stream so_far represented.
          let past =
          rw unparsed at (opens_past
          (state_of buffer) after expects limits stream so_far represented) in (
            past,
            sound_head buffer.octets.items piece
                (limits (length past.part + 9)) head past.partial is_head nine,
          );
    }

-- octets that complete the preface begin with it
pub begins_with_preface : (matched count : ℕ) (unparsed piece : List ℕ)
    → unparsed ≡ take matched preface
    → take count piece ≡ drop matched preface → BeginsWithPreface (unparsed ++ piece)
begins_with_preface matched count unparsed piece kept same = record {
  following = drop count piece;
  joined = ap (λ (octets : List ℕ). unparsed ++ octets) (sym (take-append-drop count piece))
      ∙ sym (append_assoc unparsed (take count piece) (drop count piece))
      ∙ ap (λ (octets : List ℕ). octets ++ drop count piece)
      (ap (λ (octets : List ℕ). octets ++ take count piece) kept
      ∙ ap (λ (octets : List ℕ). take matched preface ++ octets) same
      ∙ take-append-drop matched preface);
}

some_octets : (octets : List ℕ) → octets ≢ [] → 0 < length octets
some_octets [] some = absurd (some refl)
some_octets (octet ∷ octets) some = omega arith

-- Where octets follow those that complete it, they go past it.
pub goes_past_preface : (matched count : ℕ) (unparsed piece : List ℕ)
    → unparsed ≡ take matched preface → take count piece ≡ drop matched preface
    → drop count piece ≢ [] → GoesPastPreface (unparsed ++ piece)
unfolding begins_with_preface
goes_past_preface matched count unparsed piece kept same some =
    let begins = begins_with_preface matched count unparsed piece kept same in
    let long : length (unparsed ++ piece) ≡ length preface + length (drop count piece) =
    ap length begins.joined ∙ length-append preface (drop count piece) in (
      begins,
      rw long (omega (arith, some_octets (drop count piece) some)),
    )

-- what follows the preface, where so many octets of a piece complete it
pub follows_preface : (matched count : ℕ) (piece : List ℕ) → matched + count ≡ 24
    → drop (length preface) (take matched preface ++ piece) ≡ drop count piece
unfolding preface
follows_preface matched count piece all =
    let few : length (take matched preface) ≡ matched =
    length-take-le matched preface (omega (arith, all)) in
    ap (λ (n : ℕ). drop n (take matched preface ++ piece))
    (sym all ∙ ap (λ (n : ℕ). n + count) (sym few))
    ∙ drop-append-add (take matched preface) piece count

-- A piece that completes the preface goes on as it does.
pub goes_on : (matched : ℕ) (piece : List ℕ) → matched ≤ 24
    → BeginsWithPreface (take matched preface ++ piece)
    → (following : List ℕ) × (piece ≡ drop matched preface ++ following)
unfolding preface
goes_on matched piece within begins =
    let few : length (take matched preface) ≡ matched = length-take-le matched preface within in (
      begins.following,
      sym (drop-append_seam (take matched preface) piece)
          ∙ ap (λ (n : ℕ). drop n (take matched preface ++ piece)) few
          ∙ ap (λ (octets : List ℕ). drop matched octets) begins.joined
          ∙ drop-append-le matched preface begins.following within,
    )

-- So one that is shorter doesn't complete it.
pub short_of_preface : (matched : ℕ) (piece : List ℕ) → matched + length piece < 24
    → BeginsWithPreface (take matched preface ++ piece) → ⊥
unfolding preface
short_of_preface matched piece short begins =
    let (following, same) = goes_on matched piece (omega (arith, short)) begins in
    let long : length piece ≡ (24 - matched) + length following =
    ap (λ (octets : List ℕ). length octets) same
    ∙ length-append (drop matched preface) following
    ∙ ap (λ (n : ℕ). n + length following) (length-drop matched preface) in
    omega (arith, short, long)

-- Nor does one with an octet that isn't the preface's.
pub unlike_preface : (matched count : ℕ) (piece : List ℕ) → matched + count < 24
    → get_or piece count 0 ≢ get_or preface (matched + count) 0
    → BeginsWithPreface (take matched preface ++ piece) → ⊥
unfolding preface
unlike_preface matched count piece few differs begins =
    let (following, same) = goes_on matched piece (omega (arith, few)) begins in
    let inside : count < length (drop matched preface) =
    rw length-drop (omega (arith, few)) in
    differs (ap (λ (octets : List ℕ). get_or octets count 0) same
    ∙ get_or_append_left (drop matched preface) following 0 count inside
    ∙ get_or-drop matched preface count 0)
