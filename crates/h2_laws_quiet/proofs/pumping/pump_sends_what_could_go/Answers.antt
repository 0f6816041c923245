-- By the calls of a pump, one after another.
use Rattle.h2_laws_quiet.proofs.PumpGoes.{lowest_goes, octets_counted, some_goes}
use Rattle.h2_laws_quiet.proofs.PumpGoes.{amount_goes, trailers_go}
use Rattle.h2_laws_quiet.proofs.PumpCounts.{counted_or_full}
use Rattle.h2_laws_quiet.proofs.pumping.pump_sends_what_could_go.Goals as goal

pub returns-clause-lowest : goal.returns-clause-lowest
returns-clause-lowest c = lowest_goes

pub returns-clause-octets : goal.returns-clause-octets
returns-clause-octets c = octets_counted

pub returns-clause-amount : goal.returns-clause-amount
returns-clause-amount c = amount_goes

pub returns-clause-trailers : goal.returns-clause-trailers
returns-clause-trailers c = trailers_go

pub returns-clause-or_full : goal.returns-clause-or_full
returns-clause-or_full c = counted_or_full

pub returns-clause-any : goal.returns-clause-any
returns-clause-any c = some_goes
