-- Octets are carried from one end to the other.
use Rattle.h2_laws_pair.proofs.Names.{◌≡◌, ◌≤◌, ℕ, List, [], ◌++◌, length, take, refl, sym, ◌∙◌}
use Rattle.h2_laws_pair.proofs.Names.{append_assoc, take-append-drop, Role, Values, Log, with_sent}
use Rattle.h2_laws_pair.proofs.Names.{opened, with_call, log_after, Half, HalfStep, calls, takes}
use Rattle.h2_laws_pair.proofs.Names.{loses, given_since, octets_used, CarriesOctets}
use Rattle.std.proofs.lemmas.List.{take-append-le, take-take}
use Rattle.h2_spec_log.proofs.StreamLemmas.{Keeps-call}
use Rattle.h2_laws_pair.specs.Pairs.{given_out}
use Rattle.h2_laws_pair.proofs.LogOutput.{Adds, Gives, gives_call}
use Rattle.h2_laws_pair.proofs.StepsOfLogs.{step_up, step_input, step_adds, given_within}
use Rattle.h2_laws_pair.proofs.BothWays.{IsDirection, ends_of, IsKept, each_way, new_half}

-- Where octets are added and no fewer given out, those given out before are the first.
pub given_more : (old new : Log) → old.given ≤ length old.written → Gives old new
    → given_out new ≡ given_out old ++ given_since old new
given_more old new within gives =
    let first : take old.given (given_out new) ≡ given_out old = rw
    (take-take _ _ _ gives.given, gives.written) (take-append-le _ _ gives.octets within) in
    rw (← first) (sym (take-append-drop _ _))

-- Where octets are added alone, the same are given out.
pub given_same : (old new : Log) → old.given ≤ length old.written → Adds old new
    → given_out new ≡ given_out old
given_same old new within adds =
    rw (adds.given, adds.written) (take-append-le old.given old.written adds.octets within)

-- More comes onto the pipe.
joined_more : (input lost incoming more given : List ℕ) → input ++ (lost ++ incoming) ≡ given
    → input ++ (lost ++ (incoming ++ more)) ≡ given ++ more
joined_more input lost incoming more given is = rw (← is) (simp append_assoc)

-- By a step of the writer.
writer_carries : (writer reader : Half) {new_writer new_reader : Half}
    → IsDirection writer reader → IsDirection new_writer new_reader
    → HalfStep writer reader new_writer new_reader → CarriesOctets writer reader
    → CarriesOctets new_writer new_reader
writer_carries writer reader is now (calls act answer typed may) before =
    let after = with_call writer.log act answer in
    let more = given_more _ _ (given_within _ _ writer.log (ends_of writer reader is).writer_log)
    (gives_call writer.log act answer) in
    record {
      carried = joined_more reader.log.input reader.lost reader.incoming
          (given_since writer.log after) (given_out writer.log) before.carried ∙ sym more;
      none_lost = before.none_lost;
    }
writer_carries writer reader is now (takes step rest may none came) before = record {
  carried = before.carried ∙ sym (given_same writer.log (log_after writer.log step)
      (given_within _ _ writer.log (ends_of writer reader is).writer_log)
      (step_adds writer.log step none));
  none_lost = before.none_lost;
}
writer_carries writer reader is now (loses octets rest failed came) before =
    record { carried = before.carried; none_lost = before.none_lost }

-- Octets of the pipe are used, where none was lost.
used_joined : (input lost incoming octets rest given : List ℕ) → lost ≡ []
    → incoming ≡ octets ++ rest → input ++ (lost ++ incoming) ≡ given
    → (input ++ octets) ++ (lost ++ rest) ≡ given
used_joined input lost incoming octets rest given none came is =
    rw none (append_assoc input octets rest ∙ rw (none, came) at is)

-- Octets of the pipe are lost.
lost_joined : (input lost incoming octets rest given : List ℕ) → incoming ≡ octets ++ rest
    → input ++ (lost ++ incoming) ≡ given → input ++ ((lost ++ octets) ++ rest) ≡ given
lost_joined input lost incoming octets rest given came is = rw append_assoc (rw came at is)

-- By a step of the reader.
reader_carries : (writer reader : Half) {new_writer new_reader : Half}
    → IsDirection writer reader → IsDirection new_writer new_reader
    → HalfStep reader writer new_reader new_writer → CarriesOctets writer reader
    → CarriesOctets new_writer new_reader
reader_carries writer reader is now (calls act answer typed may) before =
    let keeps = Keeps-call reader.log act answer in
    record {
      carried = rw keeps.input before.carried;
      none_lost = λ up. before.none_lost (keeps.up up);
    }
reader_carries writer reader is now (takes step rest may none came) before =
    let lost = before.none_lost (step_up reader.log step none may) in
    record {
      carried = rw (step_input reader.log step none) (used_joined _ _ _ (octets_used step) rest
          (given_out writer.log) lost came before.carried);
      none_lost = λ up. lost;
    }
reader_carries writer reader is now (loses octets rest failed came) before = record {
  carried = lost_joined reader.log.input reader.lost reader.incoming octets rest
      (given_out writer.log) came before.carried;
  none_lost = λ up. absurd (failed up);
}

-- New ends.
new_carries : (role other : Role) (values others : Values)
    → CarriesOctets (new_half role values) (new_half other others)
unfolding opened with_sent
new_carries role other values others = record { carried = refl; none_lost = λ up. refl }

-- They are carried in each direction of every pair.
carries_is_kept : IsKept CarriesOctets
carries_is_kept =
    record { at_first = new_carries; by_writer = writer_carries; by_reader = reader_carries }

pub carried : (writer reader : Half) → IsDirection writer reader → CarriesOctets writer reader
carried = each_way CarriesOctets carries_is_kept
