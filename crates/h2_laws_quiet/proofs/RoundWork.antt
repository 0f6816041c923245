-- Where a round leaves as much work as there was, nothing was read in it, and nothing written as
-- octets were delivered; and where all that was sent was read then, nothing was sent.
use Rattle.h2_laws_quiet.proofs.WorkOfLogs.{KeepsCredit}
use Rattle.std.proofs.Common.{◌≡◌, ◌+◌, ◌≤◌, List, [], ◌∷◌, ◌++◌, length, refl, ap}
use Rattle.std.proofs.Common.{◌∙◌, arith, length-append}
use Rattle.h2_block.specs.Grouping.{Item}
unfoldable use Rattle.h2_spec_log.specs.Items.{total}
use Rattle.h2_spec_log.specs.Items.{increment_on, data_of}
use Rattle.h2_ends.specs.Ends.{EndLog}
use Rattle.h2_laws_quiet.specs.Work.{one_to_answer, work_of_item, credit_left, work_left}
use Rattle.h2_laws_quiet.proofs.WorkOfDeliveries.{EndTakes}
use Rattle.h2_laws_quiet.proofs.WorkOfEnds.{EndDrives}
unfoldable use Rattle.h2_laws_quiet.proofs.WorkOfEnds.{ends_twice, drives_twice}
use Rattle.h2_laws_quiet.proofs.WorkOfLogs.{drives_work, items_work}

-- No items have the length 0.
no_items : (items : List Item) → length items ≡ 0 → items ≡ []
no_items [] none = refl
no_items (item ∷ items) none = absurd (omega (arith, none))

-- What an end does in a round, one after another.
pub record Stages (first released pumped moved last : EndLog) : Type 0 where
  pub releases : EndDrives first released
  pub pumps : EndDrives released pumped
  pub moves : EndDrives pumped moved
  pub takes : EndTakes moved last

-- All of it.
unfoldable pub whole : (first released pumped moved last : EndLog)
    → Stages first released pumped moved last → EndDrives first last
whole first released pumped moved last stages =
    ends_twice first moved last (ends_twice first pumped moved
    (ends_twice first released pumped stages.releases stages.pumps) stages.moves)
    stages.takes.ends

-- Nothing was read, and nothing written as octets were delivered.
pub record ReadsNone (first released pumped moved last : EndLog) : Type 0 where
  pub released_received : released.log.received ≡ first.log.received
  pub pumped_received : pumped.log.received ≡ released.log.received
  pub last_received : last.log.received ≡ pumped.log.received
  pub last_sent : last.log.sent ≡ moved.log.sent

same_by : (more items before : List Item) → more ≡ [] → items ≡ more ++ before → items ≡ before
same_by more items before none is = is ∙ ap (λ (news : List Item). news ++ before) none

pub reads_none : (first released pumped moved last : EndLog)
    (stages : Stages first released pumped moved last)
    → (whole first released pumped moved last stages).drives.margin ≡ 0
    → length (whole first released pumped moved last stages).drives.read ≡ 0
    → ReadsNone first released pumped moved last
unfolding whole ends_twice drives_twice total
reads_none first released pumped moved last stages margin none =
    let one = stages.releases.drives in
    let two = stages.pumps.drives in
    let three = stages.moves.drives in
    let four = stages.takes.ends.drives in
    let outer = length-append four.read (three.read ++ (two.read ++ one.read)) in
    let middle = length-append three.read (two.read ++ one.read) in
    let inner = length-append two.read one.read in
    let no_four = no_items four.read (omega (arith, none, outer, middle, inner)) in
    let no_three = no_items three.read (omega (arith, none, outer, middle, inner)) in
    let no_two = no_items two.read (omega (arith, none, outer, middle, inner)) in
    let no_one = no_items one.read (omega (arith, none, outer, middle, inner)) in
    let asked : total one_to_answer four.read ≡ 0 = ap (total one_to_answer) no_four in
    let count = items_work four.written in
    let back = stages.takes.returns in
    let gone = stages.takes.none_gone in
    let written = no_items four.written (omega
    (arith, margin, asked, count, back, gone, four.cheap))
    in
    record {
      released_received = same_by one.read _ _ no_one one.received;
      pumped_received = same_by two.read _ _ no_two two.received;
      last_received = same_by four.read _ _ no_four four.received
          ∙ same_by three.read _ _ no_three three.received;
      last_sent = same_by four.written _ _ written four.sent;
    }

-- Nothing was sent, and nothing was under way at first.
pub record SendsNone (first released pumped moved : EndLog) (way : List Item) : Type 0 where
  pub no_way : way ≡ []
  pub released_sent : released.log.sent ≡ first.log.sent
  pub pumped_sent : pumped.log.sent ≡ released.log.sent
  pub moved_sent : moved.log.sent ≡ pumped.log.sent

pub sends_none : (first released pumped moved last : EndLog) (way received : List Item)
    → Stages first released pumped moved last → first.log.sent ≡ way ++ received
    → moved.log.sent ≡ received → SendsNone first released pumped moved way
sends_none first released pumped moved last way received stages under_way all =
    let one = stages.releases.drives in
    let two = stages.pumps.drives in
    let three = stages.moves.drives in
    let sent = ap length all in
    let first_sent = ap length under_way ∙ length-append way received in
    let one_sent = ap length one.sent ∙ length-append one.written first.log.sent in
    let two_sent = ap length two.sent ∙ length-append two.written released.log.sent in
    let three_sent = ap length three.sent ∙ length-append three.written pumped.log.sent in
    record {
      no_way = no_items way (omega (arith, sent, first_sent, one_sent, two_sent, three_sent));
      released_sent = same_by one.written _ _ (no_items one.written
          (omega (arith, sent, first_sent, one_sent, two_sent, three_sent))) one.sent;
      pumped_sent = same_by two.written _ _ (no_items two.written
          (omega (arith, sent, first_sent, one_sent, two_sent, three_sent))) two.sent;
      moved_sent = same_by three.written _ _ (no_items three.written
          (omega (arith, sent, first_sent, one_sent, two_sent, three_sent))) three.sent;
    }

-- What two ends have done leaves no more work, by what each has read and returned.
pub both_fall : (client server new_client new_server : EndLog)
    (one : EndDrives client new_client) (two : EndDrives server new_server)
    → KeepsCredit client.log
    → KeepsCredit new_client.log
    → KeepsCredit server.log
    → KeepsCredit new_server.log
    → total work_of_item server.log.received ≤ total work_of_item client.log.sent
    → total work_of_item client.log.received ≤ total work_of_item server.log.sent
    → total work_of_item new_server.log.received ≤ total work_of_item new_client.log.sent
    → total work_of_item new_client.log.received ≤ total work_of_item new_server.log.sent
    → work_left new_client new_server + ((one.drives.margin + length one.drives.read)
    + (two.drives.margin + length two.drives.read)) ≤ work_left client server
both_fall client server new_client new_server one two client_was client_is server_was server_is
    to_server to_client new_to_server new_to_client =
    let first = drives_work client.log new_client.log one.gone one.drives client_was client_is in
    let second = drives_work server.log new_server.log two.gone two.drives server_was server_is in
    let some = one.tokens in
    let others = two.tokens in
    omega (arith, first, second, some, others, to_server, to_client, new_to_server, new_to_client)
