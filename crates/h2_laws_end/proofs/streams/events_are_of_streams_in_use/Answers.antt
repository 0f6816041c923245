-- By the lemmas on the streams of events.
use Rattle.h2_laws_end.proofs.OverEvents.{fields_in_use, data_in_use}
use Rattle.h2_laws_end.proofs.streams.events_are_of_streams_in_use.Goals as goal

pub returns-clause-fields : goal.returns-clause-fields
returns-clause-fields c = fields_in_use

pub returns-clause-data : goal.returns-clause-data
returns-clause-data c = data_in_use
