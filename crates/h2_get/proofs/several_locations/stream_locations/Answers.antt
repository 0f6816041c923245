-- No connection was made, a request was not accepted, or the responses were printed as they came.
use Rattle.std.proofs.Common.{◌⊎◌, ℕ, map, refl, subst, sym}
use Rattle.std.proofs.lemmas.List.{length-map}
use Rattle.h2_message.specs.Values.{message_value}
use Rattle.h2_get.specs.Asking.{RefusesOne}
use Rattle.h2_get.specs.Several.{are_streamed, none_connected, one_refused, results_lost}
use Rattle.h2_args.specs.Words.{asked_by}
use Rattle.h2_get.specs.Windows.{IsNotWidened, several_values, window_of}
use Rattle.h2_get.proofs.several_locations.stream_locations.Goals.{in-Ok-several_over}
use Rattle.h2_get.proofs.several_locations.stream_locations.Goals.{in-Err-several_over}
use Rattle.h2_get.proofs.several_locations.stream_locations.Goals as goal

pub returns-in-Err : goal.returns-in-Err
returns-in-Err g c =
    rw c.of_link.ensures.error (none_connected c.in-Err.ending.error c.in-Err.ensures.err refl)

pub returns-in-Err-begin_several : goal.returns-in-Err-begin_several
returns-in-Err-begin_several g c =
    let messages = map message_value c.args.messages.items in
    let error = c.in-Err-begin_several.error in
    let window = window_of (asked_by c.args.options.now) in
    rw c.of_error.ensures.error (one_refused error
    (subst (λ (n : ℕ). RefusesOne (several_values window n) messages error ⊎ IsNotWidened error)
    (sym (length-map c.args.messages.items message_value))
    (rw c.window_of.ensures at c.in-Err-begin_several.ensures.refused)) refl)

pub returns : goal.returns
returns g c = elim c.match-several_over.branch [
  | in-Ok-several_over w ↦ rw (w.streamed-is, w.end_several.ensures.results)
      (are_streamed c.in-Ok-begin_several.begun.ids.items c.in-Ok-begin_several.begun.fetch _ _
      (rw c.window_of.ensures at c.in-Ok-begin_several.ensures.ok) w.in-Ok-several_over.ensures)
  | in-Err-several_over w ↦ rw (w.streamed-is, w.of_error-in-Err-several_over.ensures.error)
      results_lost
]
