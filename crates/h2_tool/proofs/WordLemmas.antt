-- How words that give no options end.
use Rattle.std.proofs.Common.{◌≡◌, ◌⊎◌, inl, inr, Bool, ℕ, List, Option, refl, subst}
use Rattle.clap.specs.Words.{HasKind, IsAmong, Kinds, kind_of}
use Rattle.clap.specs.declared.error.Error.{Error}
use Rattle.clap.specs.declared.error.kind.ErrorKind.{ErrorKind}
use Rattle.clap.specs.declared.error.kind.ErrorKind.TheVariants as kinds
use Rattle.h2_cli.specs.declared.status.Status.{Status}
use Rattle.h2_cli.specs.declared.status.Status.TheVariants.{Good, Fault, Usage, Device, Memory}
use Rattle.h2_args.specs.Words.{ShowWordsFail, ReplayWordsFail, ProgramWordsFail, follow_faults}
use Rattle.h2_tool.specs.Commands.{AnswersWords, AsksHelp, EndsByWords, HasWrongWords, IsOfHelp}
use Rattle.h2_tool.specs.Commands.{IsOfWrongWords, EndsShowOne, EndsFollow, EndsReplayOne}
use Rattle.h2_tool.specs.Commands.{EndsMessages, EndsProgram}

-- A kind of help is not for lack of memory.
no_memory : (kind : ErrorKind) → IsOfHelp kind → kind ≡ kinds.OutOfMemory → ⊥
no_memory kind (inl help) out = absurd (cc)
no_memory kind (inr version) out = absurd (cc)

-- Where the answer is help, help is asked for,
asks_help : (kind : ErrorKind) (faults : Kinds)
    → (kind ≡ kinds.OutOfMemory) ⊎ IsAmong kind faults → IsOfHelp kind → AsksHelp faults
asks_help kind faults (inl out) is = absurd (no_memory kind is out)
asks_help kind faults (inr among) (inl help) =
    inl (subst (λ (it : ErrorKind). IsAmong it faults) help among)
asks_help kind faults (inr among) (inr version) =
    inr (subst (λ (it : ErrorKind). IsAmong it faults) version among)

-- and where it is that the words are wrong, they are.
are_wrong : (kind : ErrorKind) (faults : Kinds)
    → (kind ≡ kinds.OutOfMemory) ⊎ IsAmong kind faults → IsOfWrongWords kind
    → HasWrongWords faults
are_wrong kind faults (inl out) wrong = absurd (wrong.0 out)
are_wrong kind faults (inr among) wrong = (kind, among, wrong)

-- So words end that have one of these kinds of error.
pub ends_by_words : (error : Error) (faults : Kinds) (before after : Option (List ℕ))
    (status : Status) → HasKind faults error → AnswersWords (kind_of error) before after status
    → EndsByWords faults before after status
ends_by_words error faults before after Good has answers =
    asks_help (kind_of error) faults has answers
ends_by_words error faults before after Fault has answers = absurd answers
ends_by_words error faults before after Usage has answers =
    (are_wrong (kind_of error) faults has answers.0, answers.1)
ends_by_words error faults before after Device has (inl help) =
    inl (asks_help (kind_of error) faults has help)
ends_by_words error faults before after Device has (inr wrong) =
    inr (are_wrong (kind_of error) faults has wrong.0, wrong.1)
ends_by_words error faults before after Memory has answers = answers.1

-- `show`
pub show_fails : (colored : Bool) (words : List (List ℕ))
    (remaining before after : Option (List ℕ)) (error : Error) (status : Status)
    → ShowWordsFail words error → AnswersWords (kind_of error) before after status
    → EndsShowOne colored words remaining remaining before after status
show_fails colored words remaining before after error status fails answers = inr (
  _,
  (fails.0, fails.1, refl),
  refl,
  ends_by_words error _ before after status fails.2 answers,
)

-- `show --follow`
pub follow_fails : (words : List (List ℕ)) (remaining before after : Option (List ℕ))
    (error : Error) (status : Status) → HasKind (follow_faults words) error
    → AnswersWords (kind_of error) before after status
    → EndsFollow words remaining remaining before after status
follow_fails words remaining before after error status fails answers =
    inr (refl, ends_by_words error _ before after status fails answers)

-- `replay`
pub replay_fails : (words : List (List ℕ)) (remaining before after : Option (List ℕ))
    (error : Error) (status : Status) → ReplayWordsFail words error
    → AnswersWords (kind_of error) before after status
    → EndsReplayOne words remaining remaining before after status
replay_fails words remaining before after error status fails answers = inr (
  _,
  (fails.0, fails.1, refl),
  refl,
  ends_by_words error _ before after status fails.2 answers,
)

-- `replay --messages`
pub messages_fail : (words : List (List ℕ)) (remaining before after : Option (List ℕ))
    (error : Error) (status : Status) → ReplayWordsFail words error
    → AnswersWords (kind_of error) before after status
    → EndsMessages words remaining remaining before after status
messages_fail words remaining before after error status fails answers = inr (
  _,
  (fails.0, fails.1, refl),
  refl,
  ends_by_words error _ before after status fails.2 answers,
)

-- words without a command
pub program_fails : (words : List (List ℕ)) (before after : Option (List ℕ)) (error : Error)
    (status : Status) → ProgramWordsFail words error
    → AnswersWords (kind_of error) before after status → EndsProgram words before after status
program_fails words before after error status fails answers = (
  _,
  (fails.0, fails.1, fails.2, fails.3, refl),
  ends_by_words error _ before after status fails.4 answers,
)
