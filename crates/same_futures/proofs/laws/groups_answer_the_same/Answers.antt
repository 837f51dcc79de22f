use Rattle.same_futures.proofs.Natives.{base-same, reads-same, slot-in-same}
use Rattle.same_futures.proofs.laws.groups_answer_the_same.Goals as goal

pub returns-clause-read : goal.returns-clause-read
returns-clause-read c = reads-same

pub returns-clause-directory : goal.returns-clause-directory
returns-clause-directory c S K L g h d s t = base-same S K L g h s d t

pub returns-clause-slot : goal.returns-clause-slot
returns-clause-slot c S K L g h rlimit asked s = slot-in-same S K L g h s rlimit asked
