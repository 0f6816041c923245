-- What the turns of a replay tell together.
use Rattle.h2_replay.proofs.Names.{◌≡◌, ℕ, List, [], ◌∷◌, ◌++◌, reverse, None, refl, sym, ap, ◌∙◌}
use Rattle.h2_replay.proofs.Names.{append_assoc, append-nil, Role, Event, Values, In, Out, Happened}
use Rattle.h2_replay.proofs.Names.{TakeAnswered, Log, ReplayAct, Take, Make, IsReplay, starts}
use Rattle.h2_replay.proofs.Names.{takes, calls, turn_value, by_octets, each_octet, all_by_octets}
use Rattle.h2_replay.proofs.Names.{kept_by_octets}
use Rattle.std.proofs.lemmas.List.{reverse-append}
use Rattle.h2_spec_log.specs.Acts.{Turn}
use Rattle.h2_laws_log.specs.Turns.{octets_in, octets_out, events_in}
use Rattle.h2_replay.specs.Joined.{used_in, written_in, event_in, joined, EndsWithCall}
use Rattle.h2_replay.specs.declared.turns.Turn as code

-- what turns have of something, in order
flat : {A : Type 0} → (Turn → List A) → List Turn → List A
flat of [] = []
flat of (turn ∷ turns) = of turn ++ flat of turns

flat_joined : {A : Type 0} (of : Turn → List A) (turns more : List Turn)
    → flat of (turns ++ more) ≡ flat of turns ++ flat of more
unfolding flat
flat_joined of [] more = refl
flat_joined of (turn ∷ turns) more =
    ap (λ all. of turn ++ all) (flat_joined of turns more)
    ∙ sym (append_assoc (of turn) (flat of turns) (flat of more))

-- Something of which a turn, octet by octet, has what the turn has.
module _ {A : Type 0} (of : Turn → List A) (same : (turn : Turn) → flat of (by_octets turn)
    ≡ of turn) where
  kept_flat : (turns : List code.Turn) → joined of turns ≡ flat of (kept_by_octets turns)
  unfolding joined kept_by_octets flat
  kept_flat [] = refl
  kept_flat (turn ∷ turns) =
      ap (λ all. of (turn_value turn) ++ all) (kept_flat turns)
      ∙ ap (λ all. all ++ flat of (kept_by_octets turns)) (sym (same (turn_value turn)))
      ∙ sym (flat_joined of (by_octets (turn_value turn)) (kept_by_octets turns))

  all_flat : (turn : Turn) (turns : List Turn)
      → flat of (all_by_octets (turn ∷ turns)) ≡ flat of (all_by_octets turns) ++ of turn
  unfolding all_by_octets
  all_flat turn turns =
      flat_joined of (all_by_octets turns) (by_octets turn)
      ∙ ap (λ all. flat of (all_by_octets turns) ++ all) (same turn)

-- Octets one by one.
used_each : (octets : List ℕ) → flat used_in (each_octet In octets) ≡ octets
unfolding flat each_octet
used_each [] = refl
used_each (octet ∷ octets) = ap (λ (o : List ℕ). octet ∷ o) (used_each octets)

used_none : (octets : List ℕ) → flat used_in (each_octet Out octets) ≡ []
unfolding flat each_octet
used_none [] = refl
used_none (octet ∷ octets) = used_none octets

written_each : (octets : List ℕ) → flat written_in (each_octet Out octets) ≡ octets
unfolding flat each_octet
written_each [] = refl
written_each (octet ∷ octets) = ap (λ (o : List ℕ). octet ∷ o) (written_each octets)

written_none : (octets : List ℕ) → flat written_in (each_octet In octets) ≡ []
unfolding flat each_octet
written_none [] = refl
written_none (octet ∷ octets) = written_none octets

no_event : (turn : List ℕ → Turn) → ((octets : List ℕ) → event_in (turn octets) ≡ [])
    → (octets : List ℕ) → flat event_in (each_octet turn octets) ≡ []
unfolding flat each_octet
no_event turn none [] = refl
no_event turn none (octet ∷ octets) =
    ap (λ (all : List Event). all ++ flat event_in (each_octet turn octets)) (none (octet ∷ []))
    ∙ no_event turn none octets

-- So it is of a turn.
used_same : (turn : Turn) → flat used_in (by_octets turn) ≡ used_in turn
unfolding flat
used_same (In octets) = used_each octets
used_same (Out octets) = used_none octets
used_same (TakeAnswered None) = refl
used_same turn = refl

written_same : (turn : Turn) → flat written_in (by_octets turn) ≡ written_in turn
unfolding flat
written_same (In octets) = written_none octets
written_same (Out octets) = written_each octets
written_same (TakeAnswered None) = refl
written_same turn = refl

event_same : (turn : Turn) → flat event_in (by_octets turn) ≡ event_in turn
unfolding flat
event_same (In octets) = no_event In (λ octets. refl) octets
event_same (Out octets) = no_event Out (λ octets. refl) octets
event_same (TakeAnswered None) = refl
event_same turn = refl

-- The octets of a log's turns.
used_all : (turns : List Turn) → flat used_in (all_by_octets turns) ≡ octets_in turns
unfolding octets_in all_by_octets flat
used_all [] = refl
used_all (In octets ∷ turns) =
    all_flat used_in used_same (In octets) turns
    ∙ ap (λ (o : List ℕ). o ++ octets) (used_all turns)
used_all (turn ∷ turns) =
    all_flat used_in used_same turn turns ∙ append-nil (flat used_in (all_by_octets turns))
    ∙ used_all turns

written_all : (turns : List Turn) → flat written_in (all_by_octets turns) ≡ octets_out turns
unfolding octets_out all_by_octets flat
written_all [] = refl
written_all (Out octets ∷ turns) =
    all_flat written_in written_same (Out octets) turns
    ∙ ap (λ (o : List ℕ). o ++ octets) (written_all turns)
written_all (turn ∷ turns) =
    all_flat written_in written_same turn turns
    ∙ append-nil (flat written_in (all_by_octets turns)) ∙ written_all turns

-- Their events, of which the newest comes first there.
events_all : (turns : List Turn) → flat event_in (all_by_octets turns) ≡ reverse (events_in turns)
unfolding events_in all_by_octets flat
events_all [] = refl
events_all (Happened event ∷ turns) =
    all_flat event_in event_same (Happened event) turns
    ∙ ap (λ (all : List Event). all ++ event ∷ []) (events_all turns)
    ∙ sym (reverse-append (event ∷ []) (events_in turns))
events_all (turn ∷ turns) =
    all_flat event_in event_same turn turns
    ∙ append-nil (flat event_in (all_by_octets turns)) ∙ events_all turns

-- What is kept is what the turns say.
pub used_kept : (kept : List code.Turn) (turns : List Turn)
    → kept_by_octets kept ≡ all_by_octets turns → joined used_in kept ≡ octets_in turns
used_kept kept turns same =
    kept_flat used_in used_same kept ∙ ap (flat used_in) same ∙ used_all turns

pub written_kept : (kept : List code.Turn) (turns : List Turn)
    → kept_by_octets kept ≡ all_by_octets turns → joined written_in kept ≡ octets_out turns
written_kept kept turns same =
    kept_flat written_in written_same kept ∙ ap (flat written_in) same ∙ written_all turns

pub events_kept : (kept : List code.Turn) (turns : List Turn)
    → kept_by_octets kept ≡ all_by_octets turns → joined event_in kept ≡ reverse (events_in turns)
events_kept kept turns same =
    kept_flat event_in event_same kept ∙ ap (flat event_in) same ∙ events_all turns

-- What the last act of a replay says.
abbrev LastAct : Role → Values → List ReplayAct → Log → Type 0
LastAct role values (Make act ∷ acts) after = EndsWithCall role values acts act after
LastAct role values (Take octets ∷ acts) after = Unit {0}
LastAct role values [] after = Unit {0}

pub last_act : (role : Role) (values : Values) (acts : List ReplayAct) (log : Log)
    (turns : List Turn) → IsReplay role values acts log turns → LastAct role values acts log
last_act role values _ _ _ (starts in_range) = tt
last_act role values _ _ _ (takes is octets fault all news joined) = tt
last_act role values _ _ _ (calls {log = log} {turns = turns} is act answer typed may news joined) =
    record {
      log = log;
      turns = turns;
      answer = answer;
      before = is;
      may = may;
      is = refl;
    }
