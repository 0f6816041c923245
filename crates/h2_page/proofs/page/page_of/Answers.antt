-- The octets of the head and of the end are those of the constants.
use Rattle.h2_page.proofs.page.page_of.Goals as goal

pub returns : goal.returns
returns c = rw (c.as_bytes.ensures.value, c.as_bytes-2.ensures.value) at c.page_with.ensures
