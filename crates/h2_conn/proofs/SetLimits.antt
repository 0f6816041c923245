-- The parts of a connection where its cutter is given the limit of payloads that is in force.
use Rattle.h2_conn.proofs.Names.{◌≡◌, ◌≤◌, ℕ, nat_le, Bool, true, false, if◌then◌else◌, List}
use Rattle.h2_conn.proofs.Names.{length, None, refl, sym, ap, ◌∙◌, arith, CutterState}
use Rattle.h2_conn.proofs.Names.{CutterRepresents, CutterLimited, saturated, body_at, Limits}
use Rattle.h2_conn.proofs.Names.{Complete, Values, most_max_frame, is_server, payload_limit, Log}
use Rattle.h2_conn.proofs.Names.{acked, limits_from, Keeps, End, payload_limit_of, Represents}
use Rattle.h2_conn.proofs.Names.{limit_agrees, PartsFit, rules, Counts, CountsFrames}
use Rattle.h2_conn.proofs.AskLimits.{cuts_same}

-- A cutter that has cut the octets of a log, whatever limit it has for those to come.
pub record HasCut (cutter : CutterState) (log : Log) : Type 0 where
  pub limits : Limits
  pub cut : CutterRepresents cutter (is_server log.role) limits log.input log.frames
  pub same : (place : ℕ) → nat_le place (length log.input) ≡ true
      → log.limits place ≡ limits place
  pub unparsed : cutter.unparsed ≡ log.unparsed
  pub greatest : cutter.greatest ≤ most_max_frame

-- The limit at a place, by whether its octet was used.
by_use : (used : Bool) (is was now limit : ℕ) → (used ≡ true → is ≡ was) → now ≡ limit
    → (if used then is else now) ≡ (if used then was else limit)
by_use true is was now limit same set = same refl
by_use false is was now limit same set = set

-- The limits of a log are those of the cutter once its limit is the one in force.
limits_set : (log : Log) (limits : Limits) (limit : ℕ)
    → ((place : ℕ) → nat_le place (length log.input) ≡ true → log.limits place ≡ limits place)
    → payload_limit (acked log) log.sent ≡ limit
    → limits_from log
    ≡ (λ (place : ℕ). if nat_le place (length log.input) then limits place else limit)
limits_set log limits limit same set = search rules

-- Such a cutter, whose limit is set, and the machine are the parts of a connection.
pub parts_limited : {counts : Counts} (values : Values) (cutter limited : CutterState) (e : End)
    (log : Log)
    → Represents values e log → (log.failed ≡ None → HasCut cutter log)
    → cutter.place ≡ saturated (length log.input)
    → CutterLimited cutter (payload_limit_of e.own) limited
    → (log.failed ≡ None → payload_limit_of e.own ≤ most_max_frame)
    → CountsFrames counts log.frames
    → PartsFit values limited counts e log
parts_limited values cutter limited e log machine has place set within counts_are =
    record {
      machine = machine;
      cut = λ up.
          let one = has up in
          cuts_same limited log.role log.role _ (limits_from log) log.input log.input log.frames
          log.frames refl
          (limits_set log one.limits (payload_limit_of e.own) one.same
          (sym (limit_agrees values e log machine up))) refl refl
          (set.represents (is_server log.role) one.limits log.input log.frames one.cut);
      unparsed = λ up. ap (λ (state : CutterState). state.unparsed) set.same ∙ (has up).unparsed;
      greatest = λ up.
          omega (
            arith,
            ap (λ (state : CutterState). state.greatest) set.same,
            (has up).greatest,
            within up,
          );
      place = ap (λ (state : CutterState). state.place) set.same ∙ place;
      counted = counts_are;
    }

-- The limits of octets that were used are those of the log.
limit_of_used : (log : Log) (place : ℕ) → nat_le place (length log.input) ≡ true
    → limits_from log place ≡ log.limits place
limit_of_used log place used = rw used refl

-- After a step that keeps the stream of octets the cutter has cut it.
pub has_cut_kept : {counts : Counts} (values : Values) (cutter : CutterState) (e : End)
    (log next : Log)
    → PartsFit values cutter counts e log → Keeps log next → next.failed ≡ None
    → HasCut cutter next
has_cut_kept values cutter e log next parts keeps going = search rules

-- What lies there is the same.
pub body_limited : (cutter limited : CutterState) (limit : ℕ) (piece : List ℕ) (frame : Complete)
    → CutterLimited cutter limit limited
    → body_at limited piece frame ≡ body_at cutter piece frame
body_limited cutter limited limit piece frame set = search rules
