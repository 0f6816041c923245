use Rattle.h2_message.proofs.LawSent.{sent_request, sent_response}
use Rattle.h2_message.proofs.laws.sent_messages_are_well_read.Goals as goal

pub returns-clause-request : goal.returns-clause-request
returns-clause-request c message data_parts none counted =
    sent_request message data_parts none counted

pub returns-clause-response : goal.returns-clause-response
returns-clause-response c to_head message data_parts none counted =
    sent_response to_head message data_parts none counted
