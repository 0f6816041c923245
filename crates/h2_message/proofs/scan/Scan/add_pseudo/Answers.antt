use Rattle.h2_message.proofs.scan.Scan.add_pseudo.Goals as goal

pub returns-in-Request-clause-seen : goal.returns-in-Request-clause-seen
returns-in-Request-clause-seen c fields sensitive colon = rw c.in-Request.is
    (c.add_of_request.ensures.seen fields sensitive colon)

pub returns-in-Response-clause-seen : goal.returns-in-Response-clause-seen
returns-in-Response-clause-seen c fields sensitive colon = rw c.in-Response.is
    (c.add_of_response.ensures.seen fields sensitive colon)
