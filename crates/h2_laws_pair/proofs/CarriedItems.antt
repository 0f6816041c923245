-- The items that one end has received are the first of those that the other has sent, and lie in
-- the octets that this one has given out.
use Rattle.std.proofs.Common.{length-take}
use Rattle.h2_laws_pair.proofs.Names
use Names.{◌≡◌, ◌⊎◌, inl, inr, ℕ, List, [], ◌++◌, take, drop, None, sym, refl, ap, ◌∙◌}
use Names.{append_assoc, append-nil, ◌≤◌, length, not, arith, subst, length-append}
use Names.{take-append-drop, Item, Role, Values, Log, with_sent, opened, grows_call, Half, HalfStep}
use Names.{calls, takes, loses, IsPair, AreUnderWay, expected_preface, is_server, stream_of_log}
use Rattle.h2_laws_pair.proofs.LogOutput.{gives_call, Gives, gives_reads}
use Rattle.h2_laws_pair.proofs.StepsOfLogs.{step_up, step_holds}
use Rattle.h2_laws_pair.proofs.BothWays.{AreEnds, IsDirection, to_server, to_client, ends_of}
use Rattle.h2_laws_pair.proofs.BothWays.{IsKept, each_way, new_half}
use Rattle.h2_laws_pair.proofs.CarriedOctets.{carried}
use Rattle.h2_laws_pair.proofs.ItemsRead.{received_first, step_same_or_up}
use Rattle.h2_laws_pair.proofs.PairLogs.{half_comes_about, other_same}
use Rattle.h2_laws_pair.proofs.WaitingCarried.{LieIn, ReceivedLie, received_lie}

-- what stands before the items of an end's output
abbrev pub before : Role → ℕ
before role = length (expected_preface (not (is_server role)))

-- Items are under way, and those that were received lie in what was given out.
pub record Carries (writer reader : Half) : Type 0 where
  pub way : List Item
  pub under_way : AreUnderWay writer.log reader.log way
  pub lie : ReceivedLie (before writer.log.role) writer.log.given writer.log.payloads way
      reader.log.received

-- The output begins with the input of the other end.
pub begins_with_input : (input pipe written : List ℕ) (given : ℕ)
    → input ++ pipe ≡ take given written → written ≡ input ++ (pipe ++ drop given written)
begins_with_input input pipe written given is =
    rw (← append_assoc input pipe, is) (sym (take-append-drop given written))

-- It has no more octets than were given out.
input_within : (input pipe written : List ℕ) (given : ℕ) → input ++ pipe ≡ take given written
    → length input ≤ given
input_within input pipe written given is =
    omega (arith, ap length is, length-append input pipe, length-take given written)

-- Items lie in more octets, too.
lie_more : (preceding count more : ℕ) (payloads : List ℕ) (items : List Item) → count ≤ more
    → LieIn preceding count payloads items → LieIn preceding more payloads items
lie_more preceding count more payloads items few (inl none) = inl none
lie_more preceding count more payloads items few (inr fits) = inr (omega (arith, few, fits))

-- So do those that were received where no less is given out,
lie_given : (preceding count more : ℕ) (payloads : List ℕ) (way received : List Item)
    → count ≤ more → ReceivedLie preceding count payloads way received
    → ReceivedLie preceding more payloads way received
lie_given preceding count more payloads way received few are = record {
  news = are.news;
  olds = are.olds;
  paid = are.paid;
  each_one = are.each_one;
  within = lie_more preceding count more are.olds received few are.within;
}

-- and where more is sent as well.
lie_sent : (old new : Log) (gives : Gives old new) (way received same : List Item)
    → new.role ≡ old.role → same ≡ received
    → ReceivedLie (before old.role) old.given old.payloads way received
    → ReceivedLie (before new.role) new.given new.payloads (gives.items ++ way) same
lie_sent old new gives way received same role is are = record {
  news = gives.payloads ++ are.news;
  olds = are.olds;
  paid = rw (gives.paid, are.paid, append_assoc) refl;
  each_one = omega (arith, length-append {A = ℕ}, length-append {A = Item});
  within = rw (role, is)
      (lie_more _ old.given new.given are.olds received gives.given are.within);
}

-- Between ends whose reader is up it is so by the octets.
up_carries : (writer reader : Half) → IsDirection writer reader → reader.log.failed ≡ None
    → Carries writer reader
up_carries writer reader is up =
    let ends = ends_of writer reader is in
    let octets = carried writer reader is in
    let joined = begins_with_input reader.log.input _ writer.log.written writer.log.given
    octets.carried in
    let first = received_first writer reader _ ends joined up in
    record {
      way = first.0;
      under_way = first.1;
      lie = subst (λ (role : Role). ReceivedLie (before role) writer.log.given writer.log.payloads
          first.0 reader.log.received) (sym (stream_of_log _ _ writer.log ends.writer_log).role)
          (lie_given _ (length reader.log.input) writer.log.given writer.log.payloads first.0
          reader.log.received (input_within _ _ _ writer.log.given octets.carried)
          (received_lie writer reader _ first.0 ends first.1 joined up));
    }

module _ (writer reader : Half) where
  -- A step of the writer: more was sent, no less given out, and the same received.
  writer_gives : {new_writer new_reader : Half} → HalfStep writer reader new_writer new_reader
      → Gives writer.log new_writer.log × (new_reader.log.received ≡ reader.log.received)
  writer_gives (calls act answer typed may) = (gives_call writer.log act answer, refl)
  writer_gives (takes step rest may none came) =
      (step_holds Gives gives_reads writer.log step none, refl)
  writer_gives (loses octets rest failed came) = (gives_reads.failures.writes.none writer.log, refl)

  -- The role of an end stays.
  same_role : {new_writer new_reader : Half} → AreEnds writer reader
      → HalfStep writer reader new_writer new_reader → new_writer.log.role ≡ writer.log.role
  same_role {new_writer} {new_reader} ends step =
      (stream_of_log _ _ new_writer.log (half_comes_about ends.writer_role ends.writer_values writer
      reader ends.writer_log step)).role ∙ sym (stream_of_log _ _ writer.log ends.writer_log).role

  writer_carries : {new_writer new_reader : Half} → IsDirection writer reader
      → IsDirection new_writer new_reader → HalfStep writer reader new_writer new_reader
      → Carries writer reader → Carries new_writer new_reader
  writer_carries {new_writer} {new_reader} is now step carries =
      let both = writer_gives step in
      record {
        way = both.0.items ++ carries.way;
        under_way = cc (append_assoc both.0.items carries.way new_reader.log.received);
        lie = lie_sent writer.log new_writer.log both.0 carries.way reader.log.received
            new_reader.log.received (same_role (ends_of writer reader is) step) both.1 carries.lie;
      }

  -- A step of the reader: either it has received the same, or it is up.
  reader_same_or_up : {new_writer new_reader : Half} → HalfStep reader writer new_reader new_writer
      → (new_reader.log.received ≡ reader.log.received) ⊎ (new_reader.log.failed ≡ None)
  reader_same_or_up (calls act answer typed may) = inl (grows_call reader.log act answer).received
  reader_same_or_up (takes step rest may none came) =
      step_same_or_up reader.log step none (step_up reader.log step none may)
  reader_same_or_up (loses octets rest failed came) = inl refl

  reader_carries : {new_writer new_reader : Half} → IsDirection writer reader
      → IsDirection new_writer new_reader → HalfStep reader writer new_reader new_writer
      → Carries writer reader → Carries new_writer new_reader
  reader_carries {new_writer} {new_reader} is now step carries = elim (reader_same_or_up step) [
    | inl same ↦ record {
      way = carries.way;
      under_way = other_same reader writer step
          (λ log. AreUnderWay log new_reader.log carries.way) (rw same carries.under_way);
      lie = other_same reader writer step
          (λ log. ReceivedLie (before log.role) log.given log.payloads carries.way
          new_reader.log.received) (rw same carries.lie);
    }
    | inr up ↦ up_carries new_writer new_reader now up
  ]

-- New ends.
new_carries : (role other : Role) (values others : Values)
    → Carries (new_half role values) (new_half other others)
unfolding opened with_sent
new_carries role other values others = record {
  way = (opened role values).sent;
  under_way = sym (append-nil (opened role values).sent);
  lie = record {
    news = (opened role values).payloads;
    olds = [];
    paid = sym (append-nil (opened role values).payloads);
    each_one = refl;
    within = inl refl;
  };
}

-- It is so in each direction of every pair.
carries_is_kept : IsKept Carries
carries_is_kept =
    record { at_first = new_carries; by_writer = writer_carries; by_reader = reader_carries }

pub items_carried : (writer reader : Half) → IsDirection writer reader → Carries writer reader
items_carried = each_way Carries carries_is_kept

pub way_of : (writer reader : Half) → IsDirection writer reader
    → (way : List Item) × AreUnderWay writer.log reader.log way
way_of writer reader is = let carries = items_carried _ _ is in (carries.way, carries.under_way)

pub items_both_ways : (client_values server_values : Values) (client server : Half)
    → IsPair client_values server_values client server
    → ((way : List Item) × AreUnderWay client.log server.log way)
    × ((way : List Item) × AreUnderWay server.log client.log way)
items_both_ways client_values server_values client server is =
    (way_of client server (to_server is), way_of server client (to_client is))
