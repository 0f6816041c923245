-- By the lemmas on frames that take no memory.
use Rattle.h2_laws_end.proofs.Promised.{never_out_of_memory, free_frame}
use Rattle.h2_laws_end.proofs.takes.frames_without_memory_are_taken.Goals as goal

pub returns-clause-promised : goal.returns-clause-promised
returns-clause-promised c = never_out_of_memory

pub returns-clause-free : goal.returns-clause-free
returns-clause-free c = free_frame
