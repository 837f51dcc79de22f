-- What a worker's request comes to.
-- By cases on whether the listener takes the structure, and by what the kernel's call answers.
use Rattle.std.proofs.Common.{◌≡◌, ℕ, ◌<◌, Bool, true, false, not, List, Option, Some, None, refl, sym, ap, subst, ◌∙◌, arith}
use Rattle.std.specs.Prelude.{Result, Ok, Err, is_err, is_ok, is_some, if◌then◌else◌}
use Rattle.hist_model.specs.Calls.{count}
use Rattle.hist_model.specs.Deeds.{Deed}
use Rattle.hist_model.specs.Deeds as deed
use Rattle.hist_model.specs.Kinds.{skips}
use Rattle.hist_model.specs.Steps.{deed_step, mem, request_of}
use Rattle.hist_model.specs.declared.event.Back.{Back}
use Rattle.hist_model.specs.declared.request.Request.{Request}
use Rattle.hist_model.specs.declared.event.What.TheVariants.{Skip}
use Rattle.listener.specs.Answers.{back_of, may_be_sent}
use Rattle.listener.specs.Answers as answers
use Rattle.listener.specs.Puts.{may_be_put}
use Rattle.listener.specs.Puts as puts
use Rattle.model_kernel.specs.Kernels.{DoesDeed, IsKernel, past, system}
use Rattle.model_kernel.specs.Ready.{IsSame}
use Rattle.model_kernel.specs.Wire.{are_zeros, send_of}
use Rattle.model_kernel.specs.declared.kernel.Kernel.{Kernel}
use Rattle.step_requests.specs.declared.request.Asked.TheVariants as asks
use Rattle.sys_abi.specs.Wire.{addfd_of, resp_of}
use Rattle.sys_abi.specs.declared.wire.Addfd.{Addfd}
use Rattle.sys_abi.specs.declared.wire.Resp.{Resp}
use Rattle.asked_steps.specs.Asking.{deed_of, if_so, refused}
use Rattle.asked_steps.specs.declared.refusal.Refusal.TheVariants.{RequestIsPut}
use Rattle.sys_abi.specs.Errnos.{einval}
use Rattle.asked_steps.specs.Stands.{Comes, receipt, taking}
use Rattle.listener.specs.Stands.{take_of}
use Rattle.listener.specs.declared.listener.TakeError.{TakeError}
use Rattle.listener.specs.declared.listener.TakeError.TheVariants.{Fault, Pending}
use Rattle.listener.specs.declared.queue.FetchError.{FetchError}
use Rattle.listener.specs.declared.queue.FetchError.TheVariants.{Empty, Gone}
use Rattle.sys_abi.specs.declared.wire.Notif.{Notif}
use Rattle.hist_model.specs.declared.event.Event.{Event}
use Rattle.std.proofs.lemmas.Bool.{ne_eqb}
use Rattle.asked_steps.specs.declared.asking.Came.TheVariants as came

-- a kernel that is as it was
pub unchanged : (old new : Kernel) → IsKernel old → new ≡ old → IsSame old new
unchanged old new k same = subst (λ x. IsSame old x) (sym same) (record { kernel = k; script = refl; past_is = refl })

-- ---- structures

-- of the two branches of an `if` that is read, the one that gave a value
read-one : {A : Type 0} (b : Bool) (x y : A) (errno : ℕ) → Ok x ≡ (if b then Ok y else Err errno) → (b ≡ true) × (x ≡ y)
read-one true x y errno q = (refl, cc)
read-one false x y errno q = cc

read-other : {A : Type 0} (b : Bool) (x y : A) (errno : ℕ) → Ok x ≡ (if not b then Err errno else Ok y) → (b ≡ true) × (x ≡ y)
read-other true x y errno q = (refl, cc)
read-other false x y errno q = cc

first-of : {A : Type 0} (b : Bool) (x y : A) → b ≡ true → (if b then x else y) ≡ x
first-of true x y q = refl
first-of false x y q = cc

pub sent : (old new : Kernel) (w : ℕ) (bytes : List ℕ) (resp : Resp) (back : Back) → Ok resp ≡ answers.reading bytes → back ≡ back_of resp → DoesDeed old w (deed.Send resp.id back) new
    → Comes old w (asks.Send bytes) came.Stepped new
sent old new w bytes resp back read is done =
    let found = read-one (may_be_sent (resp_of bytes)) resp (resp_of bytes) einval read in
    let deed_is : deed.Send resp.id back ≡ send_of (resp_of bytes) = ap (deed.Send resp.id) is ∙ ap send_of found.1 in
    let asks_it : deed_of (asks.Send bytes) ≡ Some (send_of (resp_of bytes)) = first-of (may_be_sent (resp_of bytes)) (Some (send_of (resp_of bytes))) None found.0 in
    (refl, (send_of (resp_of bytes), asks_it, refl, subst (λ d. DoesDeed old w d new) deed_is done))

pub put : (old new : Kernel) (w : ℕ) (bytes : List ℕ) (asked : Addfd) → request_of (past old) w ≡ None → Ok asked ≡ puts.reading bytes true → DoesDeed old w (deed.AddfdPut asked) new
    → Comes old w (asks.Addfd bytes) came.Stepped new
put old new w bytes asked free read done =
    let found = read-other (may_be_put (addfd_of bytes)) asked (addfd_of bytes) einval read in
    let asks_it : deed_of (asks.Addfd bytes) ≡ Some (deed.AddfdPut (addfd_of bytes)) = first-of (may_be_put (addfd_of bytes)) (Some (deed.AddfdPut (addfd_of bytes))) None found.0 in
    let may : refused (past old) w (asks.Addfd bytes) ≡ None = ap (λ r. if_so (is_some r) RequestIsPut) free in
    (may, (deed.AddfdPut (addfd_of bytes), asks_it, refl, subst (λ a. DoesDeed old w (deed.AddfdPut a) new) found.1 done))

-- ---- receiving

pub no_error : {A B : Type 0} (r : Result A B) → is_err r ≡ false → is_ok r ≡ true
no_error (Ok x) q = refl
no_error (Err e) q = cc

pub received : (old new : Kernel) (w : ℕ) (buf : List ℕ) (r : Result Notif FetchError) → IsKernel old → are_zeros buf ≡ true → ((r ≡ Err Empty → ⊥) → DoesDeed old w deed.Recv new)
    → ((r ≡ Err Empty → ⊥) → 0 < count (past old)) → (r ≡ Err Empty → deed_step (system old) (past old) w deed.Recv ≡ Skip) → (r ≡ Err Empty → new ≡ old) → Comes old w (asks.Recv buf) (receipt r) new
received old new w buf r k zeros done counted skip same = by r refl
  where
    asks_it : deed_of (asks.Recv buf) ≡ Some deed.Recv
    asks_it = first-of (are_zeros buf) (Some deed.Recv) None zeros

    not-skipped : 0 < count (past old) → skips (deed_step (system old) (past old) w deed.Recv) ≡ false
    not-skipped some = rw (ne_eqb (count (past old)) 0 (λ n. omega (arith, some, n))) refl

    by : (x : Result Notif FetchError) → r ≡ x → Comes old w (asks.Recv buf) (receipt x) new
    by (Ok n) q = let other : r ≡ Err Empty → ⊥ = λ z. let y = sym q ∙ z in cc in (refl, (deed.Recv, asks_it, not-skipped (counted other), done other))
    by (Err Gone) q = let other : r ≡ Err Empty → ⊥ = λ z. let y = sym q ∙ z in cc in (refl, (deed.Recv, asks_it, not-skipped (counted other), done other))
    by (Err Empty) q = (refl, (deed.Recv, asks_it, skip q, unchanged old new k (same q)))

-- ---- what came of a request for a descriptor

asked-there : (K : List Event) (w : ℕ) → (request_of K w ≡ None → ⊥) → refused K w asks.AddfdResult ≡ None
asked-there K w asked = by (request_of K w) refl
  where
    by : (r : Option ℕ) → request_of K w ≡ r → refused K w asks.AddfdResult ≡ None
    by None q = absurd (asked q)
    by (Some place) q = rw q refl

pub taken : (old new : Kernel) (w : ℕ) (r : Result ℕ TakeError) → IsKernel old → (request_of (past old) w ≡ None → ⊥) → take_of r ≡ deed_step (system old) (past old) w deed.AddfdTake
    → ((r ≡ Err Pending → ⊥) → DoesDeed old w deed.AddfdTake new) → (r ≡ Err Pending → new ≡ old) → Comes old w asks.AddfdResult (taking r) new
taken old new w r k asked step done same = by r refl
  where
    may : refused (past old) w asks.AddfdResult ≡ None
    may = asked-there (past old) w asked

    by : (x : Result ℕ TakeError) → r ≡ x → Comes old w asks.AddfdResult (taking x) new
    by (Ok n) q = let other : r ≡ Err Pending → ⊥ = λ z. let y = sym q ∙ z in cc in (may, (deed.AddfdTake, refl, ap skips (sym step) ∙ ap (λ x. skips (take_of x)) q, done other))
    by (Err (Fault e)) q = let other : r ≡ Err Pending → ⊥ = λ z. let y = sym q ∙ z in cc in (may, (deed.AddfdTake, refl, ap skips (sym step) ∙ ap (λ x. skips (take_of x)) q, done other))
    by (Err Pending) q = (may, (deed.AddfdTake, refl, sym step ∙ ap take_of q, unchanged old new k (same q)))

-- ---- deeds for which room was made

-- the same deed of a kernel that had less room
pub done-after : (old mid new : Kernel) (w : ℕ) (d : Deed) → mid ≡ record old { resources = mid.resources } → DoesDeed mid w d new → DoesDeed old w d new
done-after old mid new w d same done =
    let z = subst (λ k. DoesDeed k w d new) same done in
    record { kernel = z.kernel; script = z.script; events = z.events }

pub acted : (old mid new : Kernel) (w : ℕ) (request : Request) → mid ≡ record old { resources = mid.resources } → DoesDeed mid w (deed.Act request None) new
    → Comes old w (asks.Act request) came.Stepped new
acted old mid new w request same done = (refl, (deed.Act request None, refl, refl, done-after old mid new w (deed.Act request None) same done))

memory-there : (K : List Event) (w addr : ℕ) (bytes : List ℕ) → (mem K w ≡ None → ⊥) → refused K w (asks.Plant addr bytes) ≡ None
memory-there K w addr bytes there = by (mem K w) refl
  where
    by : (m : Option ℕ) → mem K w ≡ m → refused K w (asks.Plant addr bytes) ≡ None
    by None q = absurd (there q)
    by (Some group) q = rw q refl

pub planted : (old mid new : Kernel) (w addr : ℕ) (bytes : List ℕ) → (mem (past old) w ≡ None → ⊥) → mid ≡ record old { resources = mid.resources } → DoesDeed mid w (deed.Plant addr bytes None) new
    → Comes old w (asks.Plant addr bytes) came.Stepped new
planted old mid new w addr bytes there same done =
    (memory-there (past old) w addr bytes there, (deed.Plant addr bytes None, refl, refl, done-after old mid new w (deed.Plant addr bytes None) same done))
