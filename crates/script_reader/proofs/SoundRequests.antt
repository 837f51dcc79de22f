-- The worker of a request that is stated has a number from 0 to 15.
-- By cases on the number that stands in its place.
use Rattle.std.proofs.Common.{◌≡◌, ℕ, List, Some, None, refl, if◌then◌else◌, unwrap_or}
use Rattle.std.specs.Prelude.{Bool, true, false, nat_lt, ℤ, pos, negsuc}
use Rattle.lex_core.specs.declared.line.Token.{Token}
use Rattle.step_requests.specs.Numbers.{below}
use Rattle.step_requests.specs.Requests.{number_at}
use Rattle.step_requests.specs.declared.word.Deed.{Deed}
use Rattle.script_reader.specs.Requests.{request_stated}
use Rattle.script_reader.specs.Rules.{IsSound}
use Rattle.script_reader.specs.declared.statement.Statement.{Statement}
use Rattle.script_reader.specs.declared.word.Section.{Section}

in-seat : (seated : Bool) (n : ℕ) → nat_lt n 16 ≡ seated → nat_lt (unwrap_or (if seated then Some n else None) 0) 16 ≡ true
in-seat true n h = h
in-seat false n h = refl

seat-found : (n : ℤ) → nat_lt (unwrap_or (below 16 n) 0) 16 ≡ true
seat-found (pos n) = in-seat (nat_lt n 16) n refl
seat-found (negsuc n) = refl

pub sound_request : (d : Deed) (line : List Token) (s : Statement) → s ≡ request_stated d line → (p : Section) (base_is_stated : Bool) → IsSound p base_is_stated s
sound_request d line s e p base_is_stated = rw e (seat-found (number_at line 1))
