-- The mode of a node asks for its kind.
-- By cases on the kind, and by division.
use Rattle.std.proofs.Common.{◌≡◌, ℕ, ◌+◌, ◌*◌, ◌/◌, ◌%◌, ◌<◌, ap, arith}
use Rattle.hist_model.specs.Requests.{kind_of, kind_of_type}
use Rattle.hist_model.specs.declared.request.Kind.{Kind}
use Rattle.hist_model.specs.declared.request.Kind.TheVariants.{Reg, Chr, Blk, Fifo, Sock, Dir, Bad}
use Rattle.call_lines.specs.Requests.{mode_of}

-- the four bits above the permissions
type_back : (t p : ℕ) → t < 16 → p < 4096 → (t * 4096 + p) / 4096 % 16 ≡ t
type_back t p s h = omega arith

pub asked_kind : (kind : Kind) (p : ℕ) → p < 4096 → kind_of (mode_of kind p) ≡ kind
asked_kind Reg p h = ap kind_of_type (type_back 8 p (omega arith) h)
asked_kind Chr p h = ap kind_of_type (type_back 2 p (omega arith) h)
asked_kind Blk p h = ap kind_of_type (type_back 6 p (omega arith) h)
asked_kind Fifo p h = ap kind_of_type (type_back 1 p (omega arith) h)
asked_kind Sock p h = ap kind_of_type (type_back 12 p (omega arith) h)
asked_kind Dir p h = ap kind_of_type (type_back 4 p (omega arith) h)
asked_kind Bad p h = ap kind_of_type (type_back 15 p (omega arith) h)
