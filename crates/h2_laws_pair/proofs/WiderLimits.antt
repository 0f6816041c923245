-- Limits of payloads with which both what an end has read and what its peer has written are read.
-- A fault is one with them too, or a head that is too long for the end.
use Rattle.std.proofs.Common.{max}
use Rattle.h2_frame.specs.declared.head_faults.HeadFault.{HeadFault}
use Rattle.h2_frame.specs.Heads.{head_fault, form_fault}
use Rattle.h2_frame.proofs.HeadLemmas.{form_fault-head_fault, length-head_fault}
use Rattle.h2_wire.specs.Streams.{IsAfterPreface, IsWrongHead, IsWrongPayload, EndsWithFault}
use Rattle.h2_wire.proofs.FaultLemmas.{short_past}
use Rattle.h2_wire.proofs.LimitLemmas.{read_wider}
use Rattle.h2_laws_pair.proofs.Names
use Names.{◌≡◌, ◌⊎◌, inl, inr, ℕ, ◌+◌, ◌<◌, ◌≤◌, Bool, List, [], ◌++◌, length, Option, Some, None}
use Names.{refl, sym, ap, ◌∙◌, subst, arith, append-nil, length-append, cases_lt, le-ltb, Code}
use Names.{Head, Frame, WireFault, Limits, IsSound, Frames, none_some, Role, Values, is_server}
use Names.{max_frame_size_sent, Log, limits_from, IsLog, stream_of_log, read_here, head_of}
use Rattle.h2_wire.specs.declared.fault.WireFault.TheVariants as faults

-- at each place the limit that was in force, or that is from the next octet on, and no less than
-- the greatest payload that is sent
abbrev pub wider_limits : Log → Limits
wider_limits log = λ place. max (limits_from log place) max_frame_size_sent

-- What comes next is read with them.
pub comes_widely : (expects : Bool) (log : Log) (stream : List ℕ) (frames : List Frame)
    (unparsed : List ℕ) → Frames expects (limits_from log) stream frames unparsed
    → Frames expects (wider_limits log) stream frames unparsed
comes_widely expects log stream frames unparsed =
    read_wider _ _ _ _ _ unparsed (λ place within. omega arith)

-- So is what an end that is up has read.
pub read_widely : (role : Role) (values : Values) (log : Log) → IsLog role values log
    → log.failed ≡ None
    → Frames (is_server role) (wider_limits log) log.input log.frames log.unparsed
read_widely role values log is up =
    comes_widely (is_server role) log log.input log.frames log.unparsed
    (read_here (is_server role) log ((stream_of_log role values log is).framed up))

-- A sound part is one with other limits that are no less up to its end.
sound_wider : (expects : Bool) (limits others : Limits) (frames : List Frame) (part : List ℕ)
    → ((place : ℕ) → place ≤ length part → limits place ≤ others place)
    → IsSound expects limits frames part → IsSound expects others frames part
sound_wider expects limits others frames part wider sound =
    let past : IsAfterPreface expects limits part frames [] = record {
      part = part;
      joined = sym (append-nil part);
      sound = sound;
      partial = λ nine. absurd (omega arith);
    } in
    elim (read_wider _ _ _ _ frames [] wider (inr past)) [
      | inl short ↦ absurd (short_past expects limits part frames frames [] [] short past)
      | inr other ↦ subst (λ (octets : List ℕ). IsSound expects others frames octets)
          (sym (other.joined ∙ append-nil other.part)) other.sound
    ]

-- A head at fault for its length alone has a greater one than the limit.
too_long : (head : Head) (limit : ℕ) (fault : HeadFault) → head_fault head limit ≡ Some fault
    → form_fault head ≡ None → limit < head.length
unfolding head_fault
too_long head limit fault faulty sound = elim (cases_lt limit head.length) [
  | inl longer ↦ longer
  | inr within ↦ none_some fault (sym sound ∙ rw (le-ltb limit head.length within) at faulty)
]

-- After the frames the octets end in a head whose length is above the limit and within the others.
pub record IsLongHead (expects : Bool) (limits others : Limits) (frames : List Frame)
    (octets : List ℕ) : Type 0 where
  pub part : List ℕ
  pub last : List ℕ
  pub joined : octets ≡ part ++ last
  pub sound : IsSound expects others frames part
  pub nine : length last ≡ 9
  pub sound_head : head_fault (head_of last) (others (length part + 9)) ≡ None
  pub long : limits (length part + 9) < (head_of last).length

-- A fault with other limits, or such a head.
abbrev IsFaultOrLong : Bool → Limits → Limits → List Frame → List ℕ → Type 0
IsFaultOrLong expects limits others frames octets =
    ((fault : WireFault) × EndsWithFault expects others frames octets fault)
    ⊎ IsLongHead expects limits others frames octets

module _ (expects : Bool) (limits others : Limits) (frames : List Frame) (octets : List ℕ) where
  -- A head at fault, by whether it is so with the other limits.
  head_wider : (fault : HeadFault) (wrong : IsWrongHead expects limits frames octets fault)
      → IsSound expects others frames wrong.part → (seen : Option HeadFault)
      → head_fault (head_of wrong.last) (others (length wrong.part + 9)) ≡ seen
      → IsFaultOrLong expects limits others frames octets
  head_wider fault wrong sound (Some other) is = inl (
    faults.HeadFault other,
    record {
      part = wrong.part;
      last = wrong.last;
      joined = wrong.joined;
      sound = sound;
      nine = wrong.nine;
      faulty = is;
    },
  )
  head_wider fault wrong sound None is =
      let head = head_of wrong.last in
      let place = length wrong.part + 9 in
      inr (record {
        part = wrong.part;
        last = wrong.last;
        joined = wrong.joined;
        sound = sound;
        nine = wrong.nine;
        sound_head = is;
        long = too_long head (limits place) fault wrong.faulty
            (form_fault-head_fault head (others place) is);
      })

  -- A payload at fault after a head without one is so with the other limits.
  payload_wider : (code : Code) (wrong : IsWrongPayload expects limits frames octets code)
      → IsSound expects others frames wrong.part
      → limits (length wrong.part + 9) ≤ others (length wrong.part + 9)
      → IsWrongPayload expects others frames octets code
  unfolding head_fault
  payload_wider code wrong sound less =
      let head = head_of wrong.last in
      let place = length wrong.part + 9 in
      let form = form_fault-head_fault head (limits place) wrong.sound_head in
      let within = length-head_fault head (limits place) wrong.sound_head in
      record {
        part = wrong.part;
        last = wrong.last;
        joined = wrong.joined;
        sound = sound;
        complete = wrong.complete;
        sound_head = rw (le-ltb (others place) head.length (omega (arith, within, less))) form;
        faulty = wrong.faulty;
      }

  -- A fault that octets end with is one with limits that are no less, or a head above the limit.
  pub fault_wider : (fault : WireFault)
      → ((place : ℕ) → place ≤ length octets → limits place ≤ others place)
      → EndsWithFault expects limits frames octets fault
      → IsFaultOrLong expects limits others frames octets
  fault_wider faults.BadPreface wider made = inl (faults.BadPreface, made)
  fault_wider (faults.HeadFault head) wider made =
      let counted = simp length-append at (ap length made.joined) in
      head_wider head made (sound_wider expects limits others frames made.part
      (λ place within. wider place (omega (arith, counted, within))) made.sound)
      (head_fault (head_of made.last) (others (length made.part + 9))) refl
  fault_wider (faults.PayloadFault code) wider made =
      let counted = simp length-append at (ap length made.joined) in
      let complete = made.complete in
      inl (
        faults.PayloadFault code,
        payload_wider code made (sound_wider expects limits others frames made.part
            (λ place within. wider place (omega (arith, counted, within))) made.sound)
            (wider (length made.part + 9) (omega (arith, counted, complete))),
      )
  fault_wider faults.Memory wider made = absurd made
