use Rattle.tasks.proofs.Counted.{counted-room}
use Rattle.tasks.proofs.Told.{stands-both}
use Rattle.tasks.proofs.laws.room_changes_nothing.Goals as goal

pub returns-clause-stands : goal.returns-clause-stands
returns-clause-stands c S K old new h = stands-both S K old new h

pub returns-clause-count : goal.returns-clause-count
returns-clause-count c old new g h = counted-room old new g h
