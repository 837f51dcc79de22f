-- Digits of base 16 that were written of bytes are read as them.
use Rattle.std.proofs.Common.{◌≡◌, ◌∙◌, ℕ, List, sym, Ok, Err, Result, inl, inr}
use Rattle.hex.specs.declared.error.FromHexError.{FromHexError}
use Rattle.hex.proofs.HexLemmas.{decode_of-encode_lower, decode_of-same}
use Rattle.worker_ledger.proofs.reading.bytes_of.Goals as goal

pub returns-in-Ok : goal.returns-in-Ok
returns-in-Ok c = λ bytes is e. decode_of-same c.args.digits.now c.in-Ok.bytes.items bytes c.in-Ok.ensures.ok (rw e (decode_of-encode_lower bytes is))

ok-not : (error : FromHexError) (bytes : List ℕ) → ◌≡◌ {A = Result (List ℕ) FromHexError} (Ok bytes) (Err error) → ⊥
ok-not error bytes e = cc

pub returns-in_default : goal.returns-in_default
returns-in_default c = λ bytes is e. elim c.in-Err.ensures.err [
  | inl memory ↦ absurd (c.in_default.not-OutOfMemory memory)
  | inr bad ↦ absurd (ok-not c.in-Err.error bytes (sym (rw e (decode_of-encode_lower bytes is)) ∙ bad))
]
