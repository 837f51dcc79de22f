-- A structure asks for the same by its fields and by its bytes: neither line has a fault but that of the worker's number, and the
-- numbers of the fields are those of the structure.
-- By computing, with `fault_from` unfolded, and by linear arithmetic on the ranges of numbers.
use Rattle.std.proofs.Common.{◌≡◌, ℕ, ◌-◌, ◌^◌, ◌<◌, List, [], ◌∷◌, Option, Some, None, refl, ap, sym, arith, ◌∙◌, replicate, unwrap_or}
use Rattle.std.specs.Prelude.{ℤ, pos, neg_ℤ, codes, int_le, ◌&&◌, true, FitsSigned}
use Rattle.std.specs.Int.{w32, w64}
use Rattle.std.proofs.lemmas.Bool.Decides.{nat_tests}
use Rattle.std.proofs.lemmas.Int.{ints}
use Rattle.hex.specs.Hex.{decode_sized}
use Rattle.lex_core.specs.declared.line.Token.{Token}
use Rattle.lex_core.specs.declared.reason.Reason.{Reason}
use Rattle.lex_core.specs.Numbers as numbers
use Rattle.sys_abi.specs.Wire.{resp_bytes, addfd_bytes}
use Rattle.sys_abi.specs.declared.wire.Resp.{Resp}
use Rattle.sys_abi.specs.declared.wire.Addfd.{Addfd}
use Rattle.step_requests.specs.declared.request.Asked.TheVariants as asks
use Rattle.step_requests.specs.declared.word.Form.{Form}
use Rattle.step_requests.specs.declared.word.Form.TheVariants as form
use Rattle.step_requests.specs.declared.word.Deed.TheVariants as deed
use Rattle.step_requests.specs.Laws.{IsAddfd, IsResp, Says, Writes, worker_line}
use Rattle.step_requests.specs.Numbers.{below, between}
use Rattle.step_requests.specs.Operands.{decoding_fault, earlier, fault_from, line_fault, number_fault, operand_fault, seat}
use Rattle.step_requests.specs.Readings.{read, unless_faulty}
use Rattle.step_requests.specs.Requests.{addfd_at, asked, by_worker, or_zeros, request, resp_at}

-- ---- numbers in their ranges

-- a word is a number between two others
record IsWithin (word : List ℕ) (least most n : ℤ) : Type 0 where
  said : Says word n
  within : (int_le least n && int_le n most) ≡ true

natural-in : (n limit : ℕ) → n < limit → (int_le (pos 0) (pos n) && int_le (pos n) (pos (limit - 1))) ≡ true
natural-in n limit h = grind (arith, ints, nat_tests)

natural-below : (n limit : ℕ) → n < limit → below limit (pos n) ≡ Some n
natural-below n limit h = grind (arith, nat_tests)

word-in : (n : ℤ) → FitsSigned w32 n → (int_le (neg_ℤ (pos (2 ^ 31))) n && int_le n (pos (2 ^ 31 - 1))) ≡ true
word-in n h = grind (arith, ints, nat_tests)

wide-in : (n : ℤ) → FitsSigned w64 n → (int_le (neg_ℤ (pos (2 ^ 63))) n && int_le n (pos (2 ^ 63 - 1))) ≡ true
wide-in n h = grind (arith, ints, nat_tests)

no-fault : (word : List ℕ) (least most n : ℤ) → IsWithin word least most n → number_fault least most (numbers.number word) ≡ None
no-fault word least most n w = rw (w.said, w.within) refl

natural-fault : (word : List ℕ) (n limit : ℕ) → Says word (pos n) → n < limit → number_fault (pos 0) (pos (limit - 1)) (numbers.number word) ≡ None
natural-fault word n limit s h = no-fault word (pos 0) (pos (limit - 1)) (pos n) (record { said = s; within = natural-in n limit h })

natural-value : (word : List ℕ) (n limit : ℕ) → Says word (pos n) → n < limit → unwrap_or (below limit (unwrap_or (numbers.number word) (pos 0))) 0 ≡ n
natural-value word n limit s h = rw (s, natural-below n limit h) refl

signed-value : (word : List ℕ) (least most n : ℤ) → IsWithin word least most n → unwrap_or (between least most (unwrap_or (numbers.number word) (pos 0))) (pos 0) ≡ n
signed-value word least most n w = rw (w.said, w.within) refl

-- ---- lines

same-answer : (found : Option Reason) (f g : Form) (line other : List Token) → request f line ≡ request g other → unless_faulty found f line ≡ unless_faulty found g other
same-answer None f g line other e = e
same-answer (Some why) f g line other e = refl

-- the fault of the worker's number
seat-fault : Token → Option Reason
seat-fault number = earlier (operand_fault seat number) None

-- two lines with the same fault, that ask for the same
alike : (f g : Form) (line other : List Token) (found : Option Reason) → line_fault f line ≡ found → line_fault g other ≡ found → request f line ≡ request g other
    → unless_faulty (line_fault f line) f line ≡ unless_faulty (line_fault g other) g other
alike f g line other found a b e = rw (a, b) (same-answer found f g line other e)

decoded-fault : (digits : List ℕ) (size : ℕ) (bytes : List ℕ) → Writes digits size bytes → decoding_fault (decode_sized digits size) ≡ None
decoded-fault digits size bytes w = rw w refl

decoded : (digits : List ℕ) (size : ℕ) (bytes : List ℕ) → Writes digits size bytes → or_zeros size (decode_sized digits size) ≡ bytes
decoded digits size bytes w = rw w refl

-- ---- a receive

recv-fault : (number : Token) → line_fault (form.Worker deed.Recv) (worker_line number (codes "recv") []) ≡ seat-fault number
unfolding fault_from seat-fault
recv-fault number = refl

recv-raw-fault : (number : Token) (digits bytes : List ℕ) → Writes digits 80 bytes
    → line_fault (form.Worker deed.RecvRaw) (worker_line number (codes "recv-raw") (digits ∷ [])) ≡ seat-fault number
unfolding fault_from seat-fault
recv-raw-fault number digits bytes w = rw (decoded-fault digits 80 bytes w) refl

recv-same : (number : Token) (digits : List ℕ) → Writes digits 80 (replicate 80 0)
    → request (form.Worker deed.Recv) (worker_line number (codes "recv") []) ≡ request (form.Worker deed.RecvRaw) (worker_line number (codes "recv-raw") (digits ∷ []))
recv-same number digits w = rw (decoded digits 80 (replicate 80 0) w) refl

pub recv_alike : (number : Token) (digits : List ℕ) → Writes digits 80 (replicate 80 0)
    → read (worker_line number (codes "recv") []) ≡ read (worker_line number (codes "recv-raw") (digits ∷ []))
recv_alike number digits w =
    alike (form.Worker deed.Recv) (form.Worker deed.RecvRaw) (worker_line number (codes "recv") []) (worker_line number (codes "recv-raw") (digits ∷ [])) (seat-fault number)
    (recv-fault number)
    (recv-raw-fault number digits _ w)
    (recv-same number digits w)

raw-fault : (number : Token) (digits bytes : List ℕ) → Writes digits 24 bytes
    → line_fault (form.Worker deed.SendRaw) (worker_line number (codes "send-raw") (digits ∷ [])) ≡ seat-fault number
unfolding fault_from seat-fault
raw-fault number digits bytes w = rw (decoded-fault digits 24 bytes w) refl

-- ---- an answer

-- the words of an answer's fields
record AreOfResp (resp : Resp) (id val error flags : List ℕ) : Type 0 where
  fits : IsResp resp
  says_id : Says id (pos resp.id)
  says_val : Says val resp.val
  says_error : Says error resp.error
  says_flags : Says flags (pos resp.flags)

val-within : (resp : Resp) (id val error flags : List ℕ) → AreOfResp resp id val error flags → IsWithin val (neg_ℤ (pos (2 ^ 63))) (pos (2 ^ 63 - 1)) resp.val
val-within resp id val error flags a = record { said = a.says_val; within = wide-in resp.val a.fits.val }

error-within : (resp : Resp) (id val error flags : List ℕ) → AreOfResp resp id val error flags → IsWithin error (neg_ℤ (pos (2 ^ 31))) (pos (2 ^ 31 - 1)) resp.error
error-within resp id val error flags a = record { said = a.says_error; within = word-in resp.error a.fits.error }

send-line : Token → List ℕ → List ℕ → List ℕ → List ℕ → List Token
send-line number id val error flags = worker_line number (codes "send") (id ∷ val ∷ error ∷ flags ∷ [])

send-fault : (number : Token) (resp : Resp) (id val error flags : List ℕ) → AreOfResp resp id val error flags
    → line_fault (form.Worker deed.Send) (send-line number id val error flags) ≡ seat-fault number
unfolding fault_from seat-fault send-line
send-fault number resp id val error flags a =
    rw (
      natural-fault id resp.id (2 ^ 64) a.says_id a.fits.id,
      no-fault val _ _ _ (val-within resp id val error flags a),
      no-fault error _ _ _ (error-within resp id val error flags a),
      natural-fault flags resp.flags (2 ^ 32) a.says_flags a.fits.flags,
    ) refl

resp-stated : (number : Token) (resp : Resp) (id val error flags : List ℕ) → AreOfResp resp id val error flags → resp_at (send-line number id val error flags) ≡ resp
unfolding send-line
resp-stated number resp id val error flags a =
    rw (
      natural-value id resp.id (2 ^ 64) a.says_id a.fits.id,
      signed-value val _ _ _ (val-within resp id val error flags a),
      signed-value error _ _ _ (error-within resp id val error flags a),
      natural-value flags resp.flags (2 ^ 32) a.says_flags a.fits.flags,
    ) refl

pub send_alike : (number : Token) (resp : Resp) (id val error flags digits : List ℕ) → IsResp resp
    → Says id (pos resp.id) → Says val resp.val → Says error resp.error → Says flags (pos resp.flags)
    → Writes digits 24 (resp_bytes resp)
    → read (worker_line number (codes "send") (id ∷ val ∷ error ∷ flags ∷ [])) ≡ read (worker_line number (codes "send-raw") (digits ∷ []))
unfolding send-line
send_alike number resp id val error flags digits fits i v e f w =
    let a : AreOfResp resp id val error flags = record { fits = fits; says_id = i; says_val = v; says_error = e; says_flags = f } in
    let same : asked deed.Send (send-line number id val error flags) ≡ asked deed.SendRaw (worker_line number (codes "send-raw") (digits ∷ [])) =
    ap (λ r. asks.Send (resp_bytes r)) (resp-stated number resp id val error flags a) ∙ ap asks.Send (sym (decoded digits 24 (resp_bytes resp) w)) in
    alike (form.Worker deed.Send) (form.Worker deed.SendRaw) (send-line number id val error flags) (worker_line number (codes "send-raw") (digits ∷ [])) (seat-fault number)
    (send-fault number resp id val error flags a)
    (raw-fault number digits _ w)
    (ap (by_worker _) same)

-- ---- a request for a descriptor

addfd-raw-fault : (number : Token) (digits bytes : List ℕ) → Writes digits 24 bytes
    → line_fault (form.Worker deed.AddfdRaw) (worker_line number (codes "addfd-raw") (digits ∷ [])) ≡ seat-fault number
unfolding fault_from seat-fault
addfd-raw-fault number digits bytes w = rw (decoded-fault digits 24 bytes w) refl

-- the words of such a request's fields
record AreOfAddfd (want : Addfd) (id flags srcfd newfd newfd_flags : List ℕ) : Type 0 where
  fits : IsAddfd want
  says_id : Says id (pos want.id)
  says_flags : Says flags (pos want.flags)
  says_srcfd : Says srcfd (pos want.srcfd)
  says_newfd : Says newfd (pos want.newfd)
  says_newfd_flags : Says newfd_flags (pos want.newfd_flags)

addfd-line : Token → List ℕ → List ℕ → List ℕ → List ℕ → List ℕ → List Token
addfd-line number id flags srcfd newfd newfd_flags = worker_line number (codes "addfd") (id ∷ flags ∷ srcfd ∷ newfd ∷ newfd_flags ∷ [])

addfd-fault : (number : Token) (want : Addfd) (id flags srcfd newfd newfd_flags : List ℕ) → AreOfAddfd want id flags srcfd newfd newfd_flags
    → line_fault (form.Worker deed.Addfd) (addfd-line number id flags srcfd newfd newfd_flags) ≡ seat-fault number
unfolding fault_from seat-fault addfd-line
addfd-fault number want id flags srcfd newfd newfd_flags a =
    rw (
      natural-fault id want.id (2 ^ 64) a.says_id a.fits.id,
      natural-fault flags want.flags (2 ^ 32) a.says_flags a.fits.flags,
      natural-fault srcfd want.srcfd (2 ^ 32) a.says_srcfd a.fits.srcfd,
      natural-fault newfd want.newfd (2 ^ 32) a.says_newfd a.fits.newfd,
      natural-fault newfd_flags want.newfd_flags (2 ^ 32) a.says_newfd_flags a.fits.newfd_flags,
    ) refl

addfd-stated : (number : Token) (want : Addfd) (id flags srcfd newfd newfd_flags : List ℕ) → AreOfAddfd want id flags srcfd newfd newfd_flags
    → addfd_at (addfd-line number id flags srcfd newfd newfd_flags) ≡ want
unfolding addfd-line
addfd-stated number want id flags srcfd newfd newfd_flags a =
    rw (
      natural-value id want.id (2 ^ 64) a.says_id a.fits.id,
      natural-value flags want.flags (2 ^ 32) a.says_flags a.fits.flags,
      natural-value srcfd want.srcfd (2 ^ 32) a.says_srcfd a.fits.srcfd,
      natural-value newfd want.newfd (2 ^ 32) a.says_newfd a.fits.newfd,
      natural-value newfd_flags want.newfd_flags (2 ^ 32) a.says_newfd_flags a.fits.newfd_flags,
    ) refl

pub addfd_alike : (number : Token) (want : Addfd) (id flags srcfd newfd newfd_flags digits : List ℕ) → IsAddfd want
    → Says id (pos want.id) → Says flags (pos want.flags) → Says srcfd (pos want.srcfd) → Says newfd (pos want.newfd)
    → Says newfd_flags (pos want.newfd_flags) → Writes digits 24 (addfd_bytes want)
    → read (worker_line number (codes "addfd") (id ∷ flags ∷ srcfd ∷ newfd ∷ newfd_flags ∷ []))
    ≡ read (worker_line number (codes "addfd-raw") (digits ∷ []))
unfolding addfd-line
addfd_alike number want id flags srcfd newfd newfd_flags digits fits i f s n m w =
    let a : AreOfAddfd want id flags srcfd newfd newfd_flags = record { fits = fits; says_id = i; says_flags = f; says_srcfd = s; says_newfd = n; says_newfd_flags = m } in
    let line : List Token = addfd-line number id flags srcfd newfd newfd_flags in
    let raw : List Token = worker_line number (codes "addfd-raw") (digits ∷ []) in
    let same : asked deed.Addfd line ≡ asked deed.AddfdRaw raw =
    ap (λ r. asks.Addfd (addfd_bytes r)) (addfd-stated number want id flags srcfd newfd newfd_flags a) ∙ ap asks.Addfd (sym (decoded digits 24 (addfd_bytes want) w)) in
    alike (form.Worker deed.Addfd) (form.Worker deed.AddfdRaw) line raw (seat-fault number)
    (addfd-fault number want id flags srcfd newfd newfd_flags a)
    (addfd-raw-fault number digits _ w)
    (ap (by_worker _) same)
