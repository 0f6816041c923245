-- A call that sends none of some octets leaves all but the calls as it was; and one that is
-- refused since the output is full finds it full.
use Rattle.std.proofs.Common.{◌≡◌, ◌≢◌, ℕ, ◌+◌, ◌≤◌, ◌==◌, ◌&&◌, not, Bool, true, false}
use Rattle.std.proofs.Common.{if◌then◌else◌, List, [], ◌∷◌, length, Some, refl, ap, ◌∙◌, leb-true}
use Rattle.std.proofs.lemmas.Bool.{ne_eqb}
use Rattle.h2_block.specs.Grouping.{Item}
use Rattle.hpack.specs.declared.types.field.Field.{Field}
use Rattle.h2_spec_log.specs.declared.refusal.Refusal.TheVariants.{Closed, NoSuchStream, Ended}
use Rattle.h2_spec_log.specs.declared.refusal.Refusal.TheVariants.{OutputFull, ListTooLarge}
use Rattle.h2_spec_log.specs.Acts.{Act, Answer, SendFields, SendData, Count, Refused}
use Rattle.h2_spec_log.specs.CallRules.{is_full, is_too_large}
unfoldable use Rattle.h2_spec_log.specs.CallRules.{conditions, first_of, items_of, data_items}
unfoldable use Rattle.h2_spec_log.specs.CallRules.{stream_of_act, encoder_after_call}
use Rattle.h2_spec_log.specs.Limits.{full_output}
use Rattle.h2_spec_log.specs.Log.{Log, active, waiting}
use Rattle.h2_spec_log.specs.LogCalls.{MayAnswer, accepts, refuses, lacks, fails, called}
unfoldable use Rattle.h2_spec_log.specs.LogCalls.{with_call, with_items}
unfoldable use Rattle.h2_spec_log.specs.LogSteps.{with_sent, with_unreturned, owed_at_close}
use Rattle.h2_spec_log.specs.LogView.{log_view}

-- Nothing is owed at the close of a stream that stays as it is.
none_closed : (alive : Bool) (n : ℕ) → (if alive && not alive then n else 0) ≡ 0
none_closed true n = refl
none_closed false n = refl

-- Of some octets, none of which goes, no item is written.
no_items : (count : ℕ) (ends : Bool) (items : List Item) → count ≢ 0
    → (if 0 == 0 && not (count == 0 && ends) then [] else items) ≡ []
no_items count ends items some = rw (ne_eqb count 0 some) refl

-- The log after a call that has sent none of some octets: only that it was made is new.
abbrev pub asked : Log → Act → Answer → Log
asked log act answer = record (called log act answer) { unreturned = log.unreturned + 0 }

pub none_written : (log : Log) (id : ℕ) (octets : List ℕ) (ends : Bool) → length octets ≢ 0
    → with_call log (SendData id octets ends) (Count 0)
    ≡ asked log (SendData id octets ends) (Count 0)
unfolding with_call with_items with_sent with_unreturned owed_at_close items_of data_items
    stream_of_act encoder_after_call
none_written log id octets ends some =
    rw (no_items (length octets) ends _ some, none_closed (active log id) _) refl

-- The first condition that holds is that the output is full: then it is.
full_first : (closed gone ended full : Bool)
    → first_of ((closed, Closed) ∷ (gone, NoSuchStream) ∷ (ended, Ended) ∷ (full, OutputFull) ∷ [])
    ≡ Some OutputFull → full ≡ true
unfolding first_of
full_first true gone ended full is = cc
full_first false true ended full is = cc
full_first false false true full is = cc
full_first false false false true is = refl
full_first false false false false is = cc

full_before : (closed gone ended full large : Bool)
    → first_of ((closed, Closed) ∷ (gone, NoSuchStream) ∷ (ended, Ended) ∷ (full, OutputFull)
    ∷ (large, ListTooLarge) ∷ []) ≡ Some OutputFull → full ≡ true
unfolding first_of
full_before true gone ended full large is = cc
full_before false true ended full large is = cc
full_before false false true full large is = cc
full_before false false false true large is = refl
full_before false false false false true is = cc
full_before false false false false false is = cc

-- A call that sends octets and is refused since the output is full is so.
pub data_full : (log : Log) (id : ℕ) (octets : List ℕ) (ends : Bool)
    → MayAnswer log (SendData id octets ends) (Refused OutputFull) → full_output ≤ waiting log
unfolding conditions
data_full log id octets ends (accepts none is) = cc
data_full log id octets ends (refuses refusal holds is) =
    let same : refusal ≡ OutputFull = cc in
    leb-true full_output (waiting log) (full_first _ _ _ (is_full (log_view log))
    (holds ∙ ap Some same))
data_full log id octets ends (lacks none may is) = cc
data_full log id octets ends (fails none may is) = cc

-- So is one that sends fields.
pub fields_full : (log : Log) (id : ℕ) (list : List Field) (ends : Bool)
    → MayAnswer log (SendFields id list ends) (Refused OutputFull) → full_output ≤ waiting log
unfolding conditions
fields_full log id list ends (accepts none is) = cc
fields_full log id list ends (refuses refusal holds is) =
    let same : refusal ≡ OutputFull = cc in
    leb-true full_output (waiting log) (full_before _ _ _ (is_full (log_view log))
    (is_too_large list) (holds ∙ ap Some same))
fields_full log id list ends (lacks none may is) = cc
fields_full log id list ends (fails none may is) = cc
