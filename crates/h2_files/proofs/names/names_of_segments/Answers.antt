-- Each segment in turn, and the last one.
use Rattle.std.proofs.Common.{◌≡◌, [], sym, ap, ◌∙◌, string_bytes}
use Rattle.std.proofs.Common.{◌∷◌, ◌++◌, Ok}
use Rattle.std.proofs.lemmas.List.{map-append}
use Rattle.std.proofs.lemmas.Result.{err_from_is_err_and}
use Rattle.h2_files.specs.Paths.{names_of_segments, segments, texts}
use Rattle.h2_files.proofs.SegmentLemmas.{fault_given, last_read, last_refused, segment_read}
use Rattle.h2_files.proofs.SegmentLemmas.{segment_refused, with_front, with_no_front}
use Rattle.h2_files.proofs.names.names_of_segments.Goals as goal

pub loop-segment-init : goal.loop-segment-init
loop-segment-init c =
    let read = names_of_segments (segments c.args.octets.now) in
    ap (λ names. with_front (texts names) read) c.new-names.ensures.items ∙ with_no_front read

pub returns-in_err-name_of_segment : goal.returns-in_err-name_of_segment
returns-in_err-name_of_segment c =
    let answer = err_from_is_err_and c.from_residual.result c.from_residual.ensures.1 in
    let parts = c.in-Some.ensures in
    rw (answer.1, answer.2)
    (fault_given c.in_err-name_of_segment.field-0.0 _ _ c.in_err-name_of_segment.ensures
    (segment_refused _ _ _ _ _ parts.0 parts.1 c.loop-segment.invariant))

pub loop-segment-preserved : goal.loop-segment-preserved
loop-segment-preserved c =
    let names = c.loop-segment.names.items in
    let name = c.in_ok-name_of_segment.field-0 in
    let grown : texts c.push.new.self.items ≡ texts names ++ (string_bytes name ∷ []) =
    ap texts c.in_ok-push.ensures.items ∙ map-append string_bytes names (name ∷ []) in
    ap (λ front. with_front front (names_of_segments (segments c.in-Some.after.now))) grown
    ∙ segment_read (texts names) c.loop-segment.rest.now c.in-Some.segment.now
    c.in-Some.after.now (string_bytes name) _ c.in-Some.ensures
    c.in_ok-name_of_segment.ensures c.loop-segment.invariant

pub returns-in_err-last_name_of : goal.returns-in_err-last_name_of
returns-in_err-last_name_of c =
    let answer = err_from_is_err_and c.from_residual-in_err-last_name_of.result
    c.from_residual-in_err-last_name_of.ensures.1 in
    rw (answer.1, answer.2)
    (fault_given c.in_err-last_name_of.field-0.0 _ _ c.in_err-last_name_of.ensures
    (last_refused _ _ _ _ c.in_default.ensures c.loop-segment.invariant))

pub returns : goal.returns
returns c =
    let names = c.loop-segment.names.items in
    let name = c.in_ok-last_name_of.field-0 in
    let grown : texts c.push-2.new.self.items ≡ texts names ++ (string_bytes name ∷ []) =
    ap texts c.in_ok-push-2.ensures.items ∙ map-append string_bytes names (name ∷ []) in
    last_read (texts names) c.loop-segment.rest.now (string_bytes name) _ c.in_default.ensures
    c.in_ok-last_name_of.ensures c.loop-segment.invariant
    ∙ ap Ok (sym grown)
