-- The lines of a schedule with requests keep what their player asks for.
use Rattle.step_words.proofs.playing.print_file_played.Goals as goal

pub print_turned-requires-clause-apart : goal.print_turned-requires-clause-apart
print_turned-requires-clause-apart g c = rw c.items-2.ensures c.requires.apart
