pub mod AbleRuns
mod Bounds
mod ByDelays
pub mod ByLevels
mod Counts
pub mod CountsPlaced
mod FoundTexts
mod InHand
mod Marking
mod Merging
mod OneWalk
mod PassByPass
mod Pending
mod Rounds
mod Running
mod Scheduling
pub mod Taking
mod Tellings
mod Walked
mod Walkers
pub mod PathOrder
pub mod PathSteps
pub mod PathSums
pub mod PathsRise
pub mod States
pub mod StateCounts
pub mod FirstOutcomes
pub mod SessionKeys
pub mod SessionParts
pub mod Keys
pub mod Members
pub mod PathsByLeft
pub mod EndsOfAll
pub mod EndsNoted
pub mod EndsSorted
pub mod EndsTell
pub mod StateJoins
pub mod StateTurns
pub mod StatesPlayed
pub mod Going
pub mod LevelJoins
pub mod LevelParts
pub mod LevelTurns
pub mod PathMember
pub mod Played
pub mod PathsExplored
pub mod PathShift
pub mod PathsTold
pub mod ToldAll
pub mod TurnByTurn
pub mod Turns
