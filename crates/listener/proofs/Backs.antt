-- What a structure has a call return, and the structure that is made for it.
-- By cases on what the call gets back, and on the flag and the sign of the error.
use Rattle.std.proofs.Common.{◌≡◌, ◌⊎◌, inl, inr, ℕ, zero, suc, ◌≤◌, true, false, ◌&&◌, refl, arith}
use Rattle.std.specs.Prelude.{◌==◌, ℤ, pos, negsuc, neg_ℤ, nat_abs, FitsSigned}
use Rattle.std.specs.Int.{w64}
use Rattle.std.specs.Ordering.{int_eq}
use Rattle.std.proofs.lemmas.Bool.{cases_Bool, and_parts, or_cases, eqb-true}
use Rattle.std.proofs.lemmas.Int.{ints}
use Rattle.sys_abi.specs.declared.wire.Resp.{Resp}
use Rattle.hist_model.specs.declared.event.Back.{Back}
use Rattle.hist_model.specs.declared.event.Back.TheVariants.{Value, Fail, Continue}
use Rattle.listener.specs.Answers.{is_error, may_be_sent, response, back_of, IsBack, IsPlain}

pub back-again : (id : ℕ) (back : Back) → IsBack back → back_of (response id back) ≡ back
back-again id (Value n) h = refl
back-again id (Fail zero) h = absurd (omega arith)
back-again id (Fail (suc n)) h = refl
back-again id Continue h = refl

zero-is : (n : ℤ) → int_eq n (pos 0) ≡ true → n ≡ pos 0
zero-is n h = grind (arith, ints)

-- a structure that may be sent asks for a native call, without a value and an error; or it has no flag, and one of the errors
record IsSent (resp : Resp) : Type 0 where
  none : resp.flags ≡ 0
  error : is_error resp.error ≡ true

sent-cases : (resp : Resp) → may_be_sent resp ≡ true → ((resp.flags ≡ 1) × (resp.val ≡ pos 0) × (resp.error ≡ pos 0)) ⊎ IsSent resp
sent-cases resp h = elim (or_cases ((resp.flags == 1) && (int_eq resp.val (pos 0) && int_eq resp.error (pos 0))) ((resp.flags == 0) && is_error resp.error) h) [
  | inl p ↦
      let f = and_parts (resp.flags == 1) (int_eq resp.val (pos 0) && int_eq resp.error (pos 0)) p in
      let z = and_parts (int_eq resp.val (pos 0)) (int_eq resp.error (pos 0)) f.1 in
      inl (eqb-true resp.flags 1 f.0, zero-is resp.val z.0, zero-is resp.error z.1)
  | inr p ↦ let f = and_parts (resp.flags == 0) (is_error resp.error) p in inr (record { none = eqb-true resp.flags 0 f.0; error = f.1 })
]

-- an error that isn't 0 is a number from 1 to 4095, negated
negated : (error : ℤ) → is_error error ≡ true → int_eq error (pos 0) ≡ false → (neg_ℤ (pos (nat_abs error)) ≡ error) × (1 ≤ nat_abs error) × (nat_abs error ≤ 4095)
negated (pos n) h z = grind (arith, ints)
negated (negsuc n) h z = (refl, omega arith, grind (arith, ints))

abbrev sent : ℕ → ℤ → ℤ → ℕ → Resp
sent id val error flags = record { id = id; val = val; error = error; flags = flags }

-- the parts of a structure are 0 where the rules of sending say so
natively : (id : ℕ) (val error : ℤ) (flags : ℕ) → flags ≡ 1 → val ≡ pos 0 → error ≡ pos 0 → response id (back_of (sent id val error flags)) ≡ sent id val error flags
natively id val error flags f v e = rw (f, v, e)

by-value : (id : ℕ) (val error : ℤ) (flags : ℕ) → flags ≡ 0 → error ≡ pos 0 → response id (back_of (sent id val error flags)) ≡ sent id val error flags
by-value id val error flags f e = rw (f, e)

by-error : (id : ℕ) (val error : ℤ) (flags : ℕ) → flags ≡ 0 → val ≡ pos 0 → int_eq error (pos 0) ≡ false → neg_ℤ (pos (nat_abs error)) ≡ error → response id (back_of (sent id val error flags)) ≡ sent id val error flags
by-error id val error flags f v z n = rw (f, v, z, n)

pub response-again : (resp : Resp) → may_be_sent resp ≡ true → IsPlain resp → response resp.id (back_of resp) ≡ resp
response-again resp h p = elim (sent-cases resp h) [
  | inl q ↦ natively resp.id resp.val resp.error resp.flags q.0 q.1 q.2
  | inr s ↦ elim (cases_Bool (int_eq resp.error (pos 0))) [
    | inl z ↦ by-value resp.id resp.val resp.error resp.flags s.none (zero-is resp.error z)
    | inr z ↦ by-error resp.id resp.val resp.error resp.flags s.none (p z) z (negated resp.error s.error z).0
  ]
]

pub back-fits : (resp : Resp) → may_be_sent resp ≡ true → FitsSigned w64 resp.val → IsBack (back_of resp)
back-fits resp h l = elim (sent-cases resp h) [
  | inl q ↦ let f = q.0 in rw f tt
  | inr s ↦ let f = s.none in elim (cases_Bool (int_eq resp.error (pos 0))) [
    | inl z ↦ rw (f, z) l
    | inr z ↦ let n = negated resp.error s.error z in rw (f, z) (n.1, n.2)
  ]
]
