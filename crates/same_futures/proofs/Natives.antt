-- Native calls, reads, directories and free numbers are the same where two groups have the same.
-- By what each of them is in the bytes and the numbers of a group, as functions.
use Rattle.std.proofs.Common.{◌≡◌, ℕ, Bool, true, false, List, [], ◌∷◌, Option, Some, None, refl, sym, ap, ◌∙◌}
use Rattle.std.specs.Prelude.{zero, suc, ◌+◌, if◌then◌else◌, not, Result, Ok, Err, ℤ, pos, negsuc}
use Rattle.sys_abi.specs.declared.wire.Addfd.{Addfd}
use Rattle.hist_model.specs.Copies.{plan, copy_of}
use Rattle.hist_model.specs.Files.{files, slot_in}
use Rattle.hist_model.specs.Look.{Name, oldest}
use Rattle.hist_model.specs.Memory.{byte, bytes_read, mapped_bytes, mapped_byte, is_mapped, last_call}
use Rattle.hist_model.specs.Natives.{Files, base_of, base_for, call_natively, copied_natively, directory_in, is_open, lowest_free, native_step, request_natively}
use Rattle.hist_model.specs.Requests.{request, base_dirfd}
use Rattle.hist_model.specs.Steps.{entered, number_entered, pid_named, place_or}
use Rattle.hist_model.specs.Trees.{Tree}
use Rattle.hist_model.specs.declared.event.Event.{Event}
use Rattle.hist_model.specs.declared.event.Entered.TheVariants.{Allow}
use Rattle.hist_model.specs.declared.event.What.{What}
use Rattle.hist_model.specs.declared.event.What.TheVariants.{Enter}
use Rattle.hist_model.specs.declared.request.Obj.{Obj}
use Rattle.hist_model.specs.declared.request.Request.{Request}
use Rattle.hist_model.specs.declared.request.Request.TheVariants.{Mknod, Mount, SetXattr, OpenAt, Sysinfo, Other}
use Rattle.hist_model.specs.declared.script.Script.{Script}
use Rattle.same_futures.specs.Groups.{SameBytes, SameEntry, SameGroup, SameGroupOf}

-- two functions with the same values are one
pub same-values : {A B : Type 0} (f g : A → B) → ((a : A) → f a ≡ g a) → f ≡ g
same-values f g h = λ i a. h a i

-- ---- bytes

module _ (S : Script) (K L : List Event) (g h : ℕ) (s : SameBytes S K L g h) where
  mapped-same : mapped_byte S L h ≡ mapped_byte S K g
  mapped-same = same-values (mapped_byte S L h) (mapped_byte S K g) (λ a. by a (is_mapped S.map a) refl)
    where
      by : (a : ℕ) (b : Bool) → is_mapped S.map a ≡ b → (if b then Some (byte S L h a) else None) ≡ (if b then Some (byte S K g a) else None)
      by a true m = ap Some (s a m)
      by a false m = refl

  bytes-same : (a n : ℕ) → mapped_bytes S L h a n ≡ mapped_bytes S K g a n
  unfolding mapped_bytes
  bytes-same a zero = refl
  bytes-same a (suc n) =
      by (bytes-same (a + 1) n) (is_mapped S.map a) refl
    where
      by : mapped_bytes S L h (a + 1) n ≡ mapped_bytes S K g (a + 1) n → (b : Bool) → is_mapped S.map a ≡ b
          → (if b then byte S L h a ∷ mapped_bytes S L h (a + 1) n else []) ≡ (if b then byte S K g a ∷ mapped_bytes S K g (a + 1) n else [])
      by more true m = ap (λ (c : ℕ). c ∷ mapped_bytes S L h (a + 1) n) (s a m) ∙ ap (λ (bs : List ℕ). byte S K g a ∷ bs) more
      by more false m = refl

  pub reads-same : (a n : ℕ) → bytes_read S L h a n ≡ bytes_read S K g a n
  reads-same a n = rw (bytes-same a n) refl

-- ---- numbers

module _ (S : Script) (K L : List Event) (g h : ℕ) (s : SameGroup S K L g h) where
  pub free-same : (limit : ℕ) → lowest_free (files S L) h limit ≡ lowest_free (files S K) g limit
  free-same limit =
      ap (λ (f : ℕ → Bool). oldest f limit)
      (same-values (λ (n : ℕ). not (is_open ((files S L).slot h n))) (λ (n : ℕ). not (is_open ((files S K).slot g n))) (λ n. ap (λ (o : Option Obj). not (is_open o)) (s.slots n)))

  pub slot-in-same : (rlimit : ℕ) (asked : Addfd) → slot_in rlimit (files S L) h asked ≡ slot_in rlimit (files S K) g asked
  slot-in-same rlimit asked = rw (free-same rlimit) refl

  pub base-same : (d : ℤ) → (files S L).tree ≡ (files S K).tree → base_of S (files S L) h d ≡ base_of S (files S K) g d
  base-same (pos n) t = ap (λ (T : Tree). directory_in T ((files S L).slot h n)) t ∙ ap (directory_in (files S K).tree) (s.slots n)
  base-same (negsuc n) t = refl

  base-for-same : (d : Option ℤ) → (files S L).tree ≡ (files S K).tree → base_for S (files S L) h d ≡ base_for S (files S K) g d
  base-for-same None t = refl
  base-for-same (Some d) t = base-same d t

  -- ---- native calls

  request-same : (base : Option ℕ) (q : Request) → (files S L).tree ≡ (files S K).tree → request_natively S (files S L) h base q ≡ request_natively S (files S K) g base q
  request-same base (Mknod d path mode dev) t = rw t refl
  request-same base (SetXattr path name value flags) t = rw t refl
  request-same base (OpenAt d path flags) t = rw (t, free-same S.rlimit) refl
  request-same base (Mount source target fstype options via flags shift) t = refl
  request-same base (Sysinfo addr) t = refl
  request-same base (Other nr) t = refl

  copied-same : (call : What) (r : Result (List (List ℕ)) ℕ) → (files S L).tree ≡ (files S K).tree → copied_natively S (files S L) h call r ≡ copied_natively S (files S K) g call r
  copied-same call (Err e) t = refl
  copied-same call (Ok texts) t =
      let d = base_dirfd (number_entered call) (entered call) in
      let q = request (number_entered call) (entered call) texts in
      ap (λ (b : Option ℕ). request_natively S (files S L) h b q) (base-for-same d t) ∙ request-same (base_for S (files S K) g d) q t

  call-same : (n : Name) (nr : ℤ) (args : List ℕ) → (files S L).tree ≡ (files S K).tree → pid_named L n ≡ pid_named K n
      → call_natively S L (files S L) n h (Enter nr args Allow) ≡ call_natively S K (files S K) n g (Enter nr args Allow)
  call-same n nr args t p = rw (mapped-same S K L g h s.bytes, copied-same (Enter nr args Allow) (copy_of (mapped_byte S K g) (plan nr args)) t, p, s.slots) refl

-- what the filters said of a call makes no difference to it
by-arguments : (S : Script) (K : List Event) (F : Files) (n : Name) (g : ℕ) (call : What) → call_natively S K F n g call ≡ call_natively S K F n g (Enter (number_entered call) (entered call) Allow)
by-arguments S K F n g call = refl

pub native-same : (S : Script) (K L : List Event) (n : Name) → SameGroupOf S K L n → (files S L).tree ≡ (files S K).tree → pid_named L n ≡ pid_named K n → SameEntry K L n
    → native_step S L (files S L) n ≡ native_step S K (files S K) n
native-same S K L n s t p c =
    ap (λ (o : Option ℕ). call_natively S L (files S L) n (place_or o) (last_call L n)) s.there_is
    ∙ by-arguments S L (files S L) n s.there (last_call L n)
    ∙ ap (λ (nr : ℤ). call_natively S L (files S L) n s.there (Enter nr (entered (last_call L n)) Allow)) c.number
    ∙ ap (λ (args : List ℕ). call_natively S L (files S L) n s.there (Enter (number_entered (last_call K n)) args Allow)) c.arguments
    ∙ call-same S K L s.here s.there s.same n (number_entered (last_call K n)) (entered (last_call K n)) t p
    ∙ sym (by-arguments S K (files S K) n s.here (last_call K n))
    ∙ sym (ap (λ (o : Option ℕ). call_natively S K (files S K) n (place_or o) (last_call K n)) s.here_is)
