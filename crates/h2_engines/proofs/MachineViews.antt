-- A server and a client as machines, and what stands for a link where there is none.
use Rattle.h2_engines.proofs.Names
use Names.{◌≡◌, List, ℕ, [], ◌++◌, Bool, true, false, Some, None, Result, Ok, Err, refl, sym, ap}
use Names.{◌∙◌, Code, InternalError, Log, SentMessage, given_out, EndLog, LinkError, Fetcher}
use Names.{Responder, Traffic, traffic, IsLinked, CutsOffAtEnd, failures_at_end, failures_by}
use Names.{error_with, IfErr, ◌≢◌, IsLinkedInPart, MachineState, MessageState, Serving, Fetching}
use Names.{EndsFor, lacks_memory, link_fails, has_stalled, stops_itself, reset_refused, has_failed}
use Rattle.h2_engines.specs.WithoutLink.{UsesPiece}
use Rattle.h2_engines.specs.Machines.{cannot_reset, answer_refused, MeetsEnd, counts_no_more}
use Rattle.h2_engines.proofs.MachineTakes.{failures_err}
use Rattle.h2_engines.proofs.ResponderEnds.{given_first}
use Rattle.h2_link.specs.declared.error.LinkError.TheVariants as errors

-- the two machines
abbrev pub server_held : Responder → MachineState
server_held responder = record {
  end = responder.server.end;
  kept = Serving responder.requests responder.answered;
}

abbrev pub client_held : Fetcher → MachineState
client_held fetcher = record {
  end = fetcher.client.end;
  kept = Fetching fetcher.id fetcher.coming fetcher.whole;
}

-- a server has no message of its own
abbrev pub no_message : SentMessage
no_message = record { head = []; body = []; trailers = None }

-- a link of which nothing has gone; and one that has given the piece, and taken what was given out
abbrev pub begun : Traffic
begun = traffic (Some []) (Some []) false

abbrev pub carried : EndLog → List ℕ → Traffic
carried end piece = traffic (Some (end.log.input ++ piece)) (Some (given_out end.log)) false

pub links_alone : (end : EndLog) (piece : List ℕ)
    → IsLinked begun (carried end piece) end.log piece
links_alone end piece = record { given = refl; taken = refl }

-- So much of the piece was used.
pub uses_alone : (end : EndLog) {after : Log} (piece : List ℕ) {unused : List ℕ}
    → IsLinked begun (carried end piece) after unused → UsesPiece end.log after piece unused
uses_alone end piece linked =
    record { input = linked.given; given = sym linked.taken }

-- Where the link took all that was given out, it took the first octets of the output.
pub all_in_part : {start now : Traffic} {log : Log} {unused : List ℕ}
    → IsLinked start now log unused → IsLinkedInPart start now log
all_in_part {start} {now} {log} {unused} linked =
    record {
      unused = unused;
      given = linked.given;
      taken = given_first start now log linked.taken;
    }

-- What ends a machine early is not the end of its input.
code_goes : (code : Code) → error_with code ≢ errors.CutOff
code_goes InternalError same = cc
code_goes code same = cc

pub goes_for : {writes : Bool} {start now : Traffic} (kept : MessageState) {end : EndLog}
    {error : LinkError} → EndsFor writes start now kept end error → error ≢ errors.CutOff
goes_for kept (lacks_memory is why) same = cc
goes_for kept (link_fails is said) same = cc
goes_for kept (has_failed code failed is taken) same = code_goes code (sym is ∙ same)
goes_for kept (has_stalled is stalled) same = cc
goes_for (Serving requests answered) (stops_itself (cannot_reset number is cannot)) same = cc
goes_for (Serving requests answered) (stops_itself (counts_no_more is most)) same = cc
goes_for (Serving requests answered)
    (stops_itself (answer_refused is before id message refusal whole asked may other after)) same =
    cc
goes_for (Serving requests answered)
    (stops_itself (reset_refused is id refusal large refused other after)) same = cc
goes_for (Fetching id coming whole) (stops_itself (number, is, dropped)) same = cc

pub not_cut : (A : Type 0) (error : LinkError) (ended : Bool) → error ≢ errors.CutOff
    → CutsOffAtEnd {A = A} (Err error) ended
not_cut A errors.CutOff ended goes = absurd (goes refl)
not_cut A error ended goes = tt

-- Where a machine isn't whole once it was driven, the end of the input is met.
pub met : (whole ended : Bool) → whole ≡ false → MeetsEnd (Ok whole) ended → ended ≡ true
met true ended not is = absurd (cc)
met false ended not is = is

-- Only a failed call of the link counts as such.
pub fails_none : (A : Type 0) (failures : ℕ) (is : LinkError) (result : Result A LinkError)
    → failures_by failures is ≡ failures → IfErr result (λ error. error ≡ is)
    → failures ≡ failures_at_end failures result
fails_none A failures is (Ok value) none same = refl
fails_none A failures is (Err error) none same =
    sym none ∙ ap (failures_by failures) (sym same) ∙ sym (failures_err A failures error)
