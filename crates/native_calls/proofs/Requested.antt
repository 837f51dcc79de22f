-- A call with paths is that of its request, from its descriptor.
-- By the definition of a native call at a number that has a base, and by cases on the copy.
use Rattle.std.proofs.Common.{inl, inr, ◌≡◌, ℕ, false, List, Option, Some, None, refl, sym, ap, ◌∙◌}
use Rattle.std.specs.Prelude.{Result, Ok, Err, ℤ, pos, negsuc, ◌==◌}
use Rattle.std.proofs.lemmas.Bool.{cases_Bool, eqb-true}
use Rattle.hist_model.specs.Look.{Name}
use Rattle.hist_model.specs.Copies.{plan, copy_of}
use Rattle.hist_model.specs.Memory.{is_number, mapped_byte}
use Rattle.hist_model.specs.Natives.{Files, base_for, copied_natively, request_natively, call_natively}
use Rattle.hist_model.specs.Requests as requests
use Rattle.hist_model.specs.Requests.{base_dirfd}
use Rattle.hist_model.specs.declared.request.ArgCopy.{ArgCopy}
use Rattle.native_calls.specs.Copied.{texts_of}
use Rattle.hist_model.specs.declared.event.Entered.{Entered}
use Rattle.hist_model.specs.declared.event.Event.{Event}
use Rattle.hist_model.specs.declared.event.What.TheVariants.{Enter}
use Rattle.hist_model.specs.declared.request.Request as the_request
use Rattle.hist_model.specs.declared.script.Script.{Script}
use Rattle.native_calls.specs.Prepared.{requested, step_of, IsPrepared}
use Rattle.native_calls.specs.declared.call.NativeCall.TheVariants.{Request}

-- a call that has a base is none that has none
not-other : (nr : ℤ) (args : List ℕ) (d : ℤ) (k : ℕ) → base_dirfd nr args ≡ Some d → base_dirfd (pos k) args ≡ None → is_number nr k ≡ false
not-other (pos m) args d k h g = elim (cases_Bool (m == k)) [
  | inl q ↦ let e : m ≡ k = eqb-true m k q in let h' : base_dirfd (pos k) args ≡ Some d = rw e at h in cc
  | inr q ↦ q
]
not-other (negsuc m) args d k h g = refl

none-closed : (args : List ℕ) → base_dirfd (pos 3) args ≡ None
unfolding base_dirfd
none-closed args = refl

none-numbered : (args : List ℕ) → base_dirfd (pos 39) args ≡ None
unfolding base_dirfd
none-numbered args = refl

none-written : (args : List ℕ) → base_dirfd (pos 99) args ≡ None
unfolding base_dirfd
none-written args = refl

module _ (S : Script) (K : List Event) (g : ℕ) (nr : ℤ) (args : List ℕ) (d : ℤ) (base : base_dirfd nr args ≡ Some d) where
  by-copy : (F : Files) (n : Name) (v : Entered) (copy : Result (List (List ℕ)) ℕ) → copied_natively S F g (Enter nr args v) copy ≡ step_of S K F n g (Request d (requested nr args copy))
  by-copy F n v (Err e) = refl
  by-copy F n v (Ok texts) = ap (λ (o : Option ℤ). request_natively S F g (base_for S F g o) (requests.request nr args texts)) base

  runs-copied : (F : Files) (n : Name) (v : Entered) → call_natively S K F n g (Enter nr args v) ≡ copied_natively S F g (Enter nr args v) (copy_of (mapped_byte S K g) (plan nr args))
  runs-copied F n v =
      let c = not-other nr args d 3 base (none-closed args) in
      let p = not-other nr args d 39 base (none-numbered args) in
      let s = not-other nr args d 99 base (none-written args) in
      rw (c, p, s, base) refl

  pub prepared : (r : Result the_request.Request ℕ) → r ≡ requested nr args (copy_of (mapped_byte S K g) (plan nr args)) → IsPrepared S K g nr args (Request d r)
  prepared r h = record {
    step = λ F n v. runs-copied F n v ∙ by-copy F n v (copy_of (mapped_byte S K g) (plan nr args)) ∙ ap (λ q. step_of S K F n g (Request d q)) (sym h);
    stores = λ v. let s = not-other nr args d 99 base (none-written args) in rw s refl;
  }

-- what a copy of arguments asks for
pub asked : (nr : ℤ) (args : List ℕ) (copied : Result (List (List ℕ)) ℕ) (r : Result ArgCopy ℕ) (copy : ArgCopy) (q : the_request.Request) → texts_of r ≡ copied → r ≡ Ok copy → q ≡ requests.request nr args copy.texts → Ok q ≡ requested nr args copied
asked nr args copied r copy q e i m = rw (← e, i) (ap Ok m)

pub not-asked : (nr : ℤ) (args : List ℕ) (copied : Result (List (List ℕ)) ℕ) (r : Result ArgCopy ℕ) (x : ℕ) → texts_of r ≡ copied → r ≡ Err x → Err x ≡ requested nr args copied
not-asked nr args copied r x e i = rw (← e, i) refl
