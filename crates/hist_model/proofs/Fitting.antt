-- The kernel's step for a worker's deed answers the deed, unless it is a skip: by the cases of the deed, where each operand is itself
-- and a read gives some of the bytes that were asked for. And each read that is due asks for at least one byte.
use Rattle.std.proofs.Common.{◌≡◌, ℕ, ◌≤◌, Bool, true, false, not, List, [], ◌∷◌, refl, Option, Some, None, arith}
use Rattle.std.specs.Prelude.{if◌then◌else◌, ◌==◌, ℤ, Result, Ok, Err, bytes_eq}
use Rattle.std.specs.Ordering.{int_eq}
use Rattle.std.specs.Option.{option_eq}
use Rattle.std.proofs.lemmas.Bool.{eq-eqb}
use Rattle.std.proofs.lemmas.Bool.Decides.{Decides-int_eq}
use Rattle.std.proofs.lemmas.Slice.Eq.{bytes_eq-Decides}
use Rattle.hist_model.specs.Copies.{fits_piece}
use Rattle.hist_model.specs.Fitting.{all_eq, fits, request_eq, cap_eq, addfd_eq, back_eq}
use Rattle.hist_model.specs.Requests.{called}
use Rattle.hist_model.specs.Legal.{system_of, rules_of, copied}
use Rattle.hist_model.specs.Deeds.{Deed}
use Rattle.hist_model.specs.Kinds.{is_letgo, gives_up, opens, opens_base, checks, skips}
use Rattle.hist_model.specs.Sessions.{Decision, Denies, Passes, Acts, Plants, Injects, after_act, inject_deed, addfd_of, decided_deed, judged_deed, copied_deed, checked_deed, based_deed, open_deed, deed_for, deed, notif_of, reads_of, first_some, outcome_in, put_in, take_in, any_of, number_of}
use Rattle.hist_model.specs.Steps.{deed_step, mem, read_answer, recv_answer, take_step, install_at, request_of, request_listed, oldest_unfetched}
use Rattle.hist_model.specs.Calls.{count}
use Rattle.hist_model.specs.declared.event.Back.{Back}
use Rattle.hist_model.specs.declared.event.Back.TheVariants.{Value, Fail, Continue}
use Rattle.hist_model.specs.declared.event.Event.{Event}
use Rattle.hist_model.specs.declared.event.What.{What}
use Rattle.hist_model.specs.declared.event.What.TheVariants.{Recv, Skip}
use Rattle.hist_model.specs.declared.policy.Cap.{Cap}
use Rattle.hist_model.specs.declared.policy.Policy.{Policy}
use Rattle.hist_model.specs.declared.request.Request.{Request}
use Rattle.hist_model.specs.declared.script.Figures.{Figures}
use Rattle.hist_model.specs.declared.script.Script.{Script}
use Rattle.hist_model.proofs.MappedBytes.{bytes_fit}
use Rattle.hist_model.proofs.Pieces.{piece_wanted, wanted_some}
use Rattle.sys_abi.specs.declared.wire.Addfd.{Addfd}
use Rattle.sys_abi.specs.declared.wire.Notif.{Notif}

-- ---- each operand is itself

same-number : (n : ℕ) → (n == n) ≡ true
same-number n = eq-eqb n n refl

same-int : (x : ℤ) → int_eq x x ≡ true
same-int x = grind (arith, Decides-int_eq)

same-bytes : (xs : List ℕ) → bytes_eq xs xs ≡ true
same-bytes xs = grind (arith, bytes_eq-Decides)

same-cap : (cap : Option Cap) → option_eq cap_eq cap cap ≡ true
same-cap None = refl
same-cap (Some cap) = rw (same-number cap.rule, same-number cap.times) refl

same-entries : {A : Type 0} → (eq : A → A → Bool) → ((x : A) → eq x x ≡ true) → (xs : List A) → all_eq eq xs xs ≡ true
same-entries eq same [] = refl
same-entries eq same (x ∷ xs) = rw (same x) (same-entries eq same xs)

same-request : (q : Request) → request_eq q q ≡ true
same-request q = rw (same-int (called q).nr, same-entries bytes_eq same-bytes (called q).texts, same-entries int_eq same-int (called q).numbers) refl

same-addfd : (a : Addfd) → addfd_eq a a ≡ true
same-addfd a = rw (same-number a.id, same-number a.flags, same-number a.srcfd, same-number a.newfd, same-number a.newfd_flags) refl

same-back : (b : Back) → back_eq b b ≡ true
same-back (Value v) = same-int v
same-back (Fail e) = same-number e
same-back Continue = refl

-- ---- a read that is due asks for at least one byte

abbrev pub IsSized : Deed → Type 0
IsSized (Deed.Read addr len) = 1 ≤ len
IsSized _ = Unit {0}

sized-if : (b : Bool) (x y : Deed) → IsSized x → IsSized y → IsSized (if b then x else y)
sized-if true x y h g = h
sized-if false x y h g = g

sized-act : (x : ℕ) (o : Option (Result (Unit {0}) ℕ)) (d : Deed) → IsSized d → IsSized (after_act x o d)
sized-act x None d h = h
sized-act x (Some r) d h = tt

sized-injection : (x : ℕ) (a : Addfd) (put : Option (Result (Unit {0}) ℕ)) (take : Option (Result ℕ ℕ)) → IsSized (inject_deed x a put take)
sized-injection x a None take = tt
sized-injection x a (Some (Err e)) take = tt
sized-injection x a (Some (Ok u)) None = tt
sized-injection x a (Some (Ok u)) (Some t) = tt

sized-decided : (x : ℕ) (own : List What) (d : Decision) → IsSized (decided_deed x own d)
sized-decided x own (Denies e) = tt
sized-decided x own Passes = tt
sized-decided x own (Acts q cap) = sized-act x (first_some outcome_in own) (Deed.Act q cap) tt
sized-decided x own (Plants a b cap) = sized-act x (first_some outcome_in own) (Deed.Plant a b cap) tt
sized-decided x own (Injects src at flags) = sized-injection x (addfd_of x src at flags) (first_some put_in own) (first_some take_in own)

module _ (P : Policy) (F : Figures) (n : Notif) (own : List What) where
  sized-judged : (o : Option ℕ) → IsSized (judged_deed (rules_of P F) n own o)
  sized-judged (Some e) = tt
  sized-judged None = sized-decided n.id own ((rules_of P F).decide n (reads_of own))

  sized-copied : (o : Option (ℕ × ℕ)) → (rules_of P F).next_piece n (reads_of own) ≡ o → IsSized (copied_deed (rules_of P F) n own o)
  sized-copied (Some q) e = wanted_some (copied n (reads_of own)) q (piece_wanted n.call.nr n.call.args _) e
  sized-copied None e = sized-if (number_of checks own == 1) (Deed.Check n.id) _ tt (sized-judged ((rules_of P F).fault n (reads_of own)))

  sized-checked : IsSized (checked_deed (rules_of P F) n own)
  sized-checked = sized-if (not (any_of checks own)) (Deed.Check n.id) _ tt (sized-copied ((rules_of P F).next_piece n (reads_of own)) refl)

  sized-based : (d : Option ℤ) → IsSized (based_deed (rules_of P F) n own d)
  sized-based (Some d) = sized-if (not (any_of opens_base own)) (Deed.OpenBase n.pid d) _ tt sized-checked
  sized-based None = sized-checked

  sized-open : IsSized (open_deed (rules_of P F) n own)
  sized-open =
      sized-if (any_of is_letgo own) Deed.Recv _ tt
      (sized-if (any_of gives_up own) Deed.LetGo _ tt (sized-if (not (any_of opens own)) (Deed.OpenMem n.pid) _ tt (sized-based ((rules_of P F).dirfd n))))

pub deed_sized : (P : Policy) (F : Figures) (own : List What) → IsSized (deed (rules_of P F) own)
unfolding deed
deed_sized P F own = by (notif_of own)
  where
    by : (o : Option Notif) → IsSized (deed_for (rules_of P F) o own)
    by None = tt
    by (Some n) = sized-open P F n own

-- ---- the kernel's step answers the deed

module _ (S : Script) (K : List Event) (w : ℕ) where
  received : (c : Option ℕ) → fits Deed.Recv (Recv (recv_answer K c)) ≡ true
  received None = refl
  received (Some c) = refl

  receive-fits : (b : Bool) → skips (if b then Skip else Recv (recv_answer K (oldest_unfetched K))) ≡ false → fits Deed.Recv (if b then Skip else Recv (recv_answer K (oldest_unfetched K))) ≡ true
  receive-fits true h = cc
  receive-fits false h = received (oldest_unfetched K)

  piece-read : (m : Option ℕ) (addr len : ℕ) → 1 ≤ len → fits_piece (Some (addr, len)) (read_answer (system_of S) K m addr len) ≡ true
  piece-read m addr len h = grind (arith, bytes_fit)

  take-fits : (a : Option (Result ℕ ℕ)) (b : Bool) → skips (take_step a b) ≡ false → fits Deed.AddfdTake (take_step a b) ≡ true
  take-fits (Some a) b h = refl
  take-fits None true h = cc
  take-fits None false h = refl

  pub step_fits : (d : Deed) → IsSized d → skips (deed_step (system_of S) K w d) ≡ false → fits d (deed_step (system_of S) K w d) ≡ true
  step_fits Deed.Recv l h = receive-fits (count K == 0) h
  step_fits (Deed.OpenMem pid) l h = same-number pid
  step_fits (Deed.OpenBase pid dirfd) l h = rw (same-number pid, same-int dirfd) refl
  step_fits (Deed.Check id) l h = same-number id
  step_fits (Deed.Read addr len) l h = rw (same-number addr, same-number len) (piece-read (mem K w) addr len l)
  step_fits (Deed.Act request cap) l h = rw (same-request request, same-cap cap) refl
  step_fits (Deed.Plant addr bytes cap) l h = rw (same-number addr, same-bytes bytes, same-cap cap) refl
  step_fits (Deed.AddfdPut asked) l h = same-addfd asked
  step_fits Deed.AddfdTake l h = take-fits (install_at K (request_of K w)) (request_listed K (request_of K w)) h
  step_fits (Deed.Send id back) l h = rw (same-number id, same-back back) refl
  step_fits Deed.LetGo l h = refl
