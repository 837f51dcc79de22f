-- The request of a line is one of the call whose name is written.
-- By what each part of a reading leaves to the next, and by cases on the tokens and the words.
use Rattle.std.proofs.Common.{◌≡◌, ℕ, Bool, true, false, List, [], ◌∷◌, Option, Some, None, Ok, Err, ℤ, pos, cond, refl, ap, ◌∙◌, bytes_eq, find}
use Rattle.std.specs.Prelude.{codes, is_some, IfOk, IfSome}
use Rattle.std.specs.Option.{option_map}
use Rattle.std.proofs.lemmas.Slice.Eq.{bytes_eq-Decides}
use Rattle.hist_model.specs.Decisions.{is_device}
use Rattle.hist_model.specs.Requests.{call_of_mknod, call_of_request}
use Rattle.hist_model.specs.declared.request.Kind.{Kind}
use Rattle.hist_model.specs.declared.request.Request.{Request}
use Rattle.hist_model.specs.declared.request.Request.TheVariants.{Sysinfo, Other}
use Rattle.lex_core.specs.Numbers.{number}
use Rattle.lex_core.specs.declared.reason.Reason.TheVariants.{OutOfRange}
use Rattle.lex_core.specs.declared.line.Token.{Token}
use Rattle.lex_core.specs.declared.line.Token.TheVariants.{Bare, Quoted}
use Rattle.policy_reader.specs.Readings.{named}
use Rattle.sys_abi.specs.Calls.{call_name_of}
use Rattle.call_lines.specs.declared.words.Word.{Word}
use Rattle.call_lines.specs.declared.words.Word.TheVariants as word
use Rattle.call_lines.specs.Laws.{name_written}
use Rattle.call_lines.specs.Operands.{bytes, call_number, descriptor, device, kind, text, unnamed, within}
use Rattle.call_lines.specs.Readings.{Reading, and_then}
use Rattle.call_lines.specs.Requests.{attribute_flags, alone, device_node, known_word, last_permissions, mknod, mknodat, mount, mount_options, node, numbered_node, openat, other, request, setxattr, worded, words}

-- what holds of all that is read next holds of what is read then
next : {A B : Type 0} (r : Reading A) (f : A → Reading B) (P : B → Type 0) → ((x : A) → IfOk (f x) P) → IfOk (and_then r f) P
next (Ok x) f P h = h x
next (Err reason) f P h = tt

-- the same, where something is known of what was read
next_with : {A B : Type 0} (r : Reading A) (f : A → Reading B) (Q : A → Type 0) (P : B → Type 0) → IfOk r Q → ((x : A) → Q x → IfOk (f x) P) → IfOk (and_then r f) P
next_with (Ok x) f Q P q h = h x q
next_with (Err reason) f Q P q h = tt

-- the request is one of this call
abbrev AsksFor : ℤ → Request → Type 0
AsksFor nr q = call_of_request q ≡ nr

numbered_node_asks : (dirfd : Option ℤ) (path : List ℕ) (k : Kind) (dev : ℕ) (ts : List Token) → IfOk (numbered_node dirfd path k dev ts) (AsksFor (call_of_mknod dirfd))
numbered_node_asks dirfd path k dev ts = next (last_permissions ts) _ (AsksFor (call_of_mknod dirfd)) (λ p. refl)

device_node_asks : (dirfd : Option ℤ) (path : List ℕ) (k : Kind) (ts : List Token) → IfOk (device_node dirfd path k ts) (AsksFor (call_of_mknod dirfd))
device_node_asks dirfd path k [] = tt
device_node_asks dirfd path k (t ∷ ts) = next (device t) _ (AsksFor (call_of_mknod dirfd)) (λ dev. numbered_node_asks dirfd path k dev ts)

node_asks : (dirfd : Option ℤ) (path : List ℕ) (k : Kind) (ts : List Token) → IfOk (node dirfd path k ts) (AsksFor (call_of_mknod dirfd))
node_asks dirfd path k ts = here (is_device k)
  where
    here : (b : Bool) → IfOk (cond b (device_node dirfd path k ts) (numbered_node dirfd path k 0 ts)) (AsksFor (call_of_mknod dirfd))
    here true = device_node_asks dirfd path k ts
    here false = numbered_node_asks dirfd path k 0 ts

mknod_asks : (dirfd : Option ℤ) (ts : List Token) → IfOk (mknod dirfd ts) (AsksFor (call_of_mknod dirfd))
mknod_asks dirfd [] = tt
mknod_asks dirfd (p ∷ []) = tt
mknod_asks dirfd (p ∷ k ∷ ts) = next (text p) _ (AsksFor (call_of_mknod dirfd)) (λ path. next (kind k) _ (AsksFor (call_of_mknod dirfd)) (λ k. node_asks dirfd path k ts))

mknodat_asks : (ts : List Token) → IfOk (mknodat ts) (AsksFor (pos 259))
mknodat_asks [] = tt
mknodat_asks (d ∷ ts) = next (descriptor d) _ (AsksFor (pos 259)) (λ fd. mknod_asks (Some fd) ts)

mount_asks : (ts : List Token) → IfOk (mount ts) (AsksFor (pos 165))
mount_asks [] = tt
mount_asks (s ∷ []) = tt
mount_asks (s ∷ t ∷ []) = tt
mount_asks (s ∷ t ∷ f ∷ ts) =
    next (text s) _ (AsksFor (pos 165)) (λ source. next (text t) _ (AsksFor (pos 165)) (λ target. next (text f) _ (AsksFor (pos 165)) (λ fstype.
    next (mount_options ts) _ (AsksFor (pos 165)) (λ options. refl))))

setxattr_asks : (ts : List Token) → IfOk (setxattr ts) (AsksFor (pos 188))
setxattr_asks [] = tt
setxattr_asks (p ∷ []) = tt
setxattr_asks (p ∷ n ∷ []) = tt
setxattr_asks (p ∷ n ∷ v ∷ ts) =
    next (text p) _ (AsksFor (pos 188)) (λ path. next (text n) _ (AsksFor (pos 188)) (λ name. next (bytes v) _ (AsksFor (pos 188)) (λ value.
    next (attribute_flags ts) _ (AsksFor (pos 188)) (λ flags. refl))))

openat_asks : (ts : List Token) → IfOk (openat ts) (AsksFor (pos 257))
openat_asks [] = tt
openat_asks (d ∷ []) = tt
openat_asks (d ∷ p ∷ []) = next (descriptor d) _ (AsksFor (pos 257)) (λ fd. next (text p) _ (AsksFor (pos 257)) (λ path. refl))
openat_asks (d ∷ p ∷ t ∷ ts) = tt

alone_asks : (q : Request) (ts : List Token) → IfOk (alone q ts) (AsksFor (call_of_request q))
alone_asks q [] = refl
alone_asks q (t ∷ ts) = tt

-- the call of a number that is read has no name
unnamed_read : (nr : ℤ) → IfOk (unnamed nr) (λ n. call_name_of n ≡ None)
unnamed_read nr = here (call_name_of nr) refl
  where
    here : (o : Option (List ℕ)) → call_name_of nr ≡ o → IfOk (cond (is_some o) (Err OutOfRange) (Ok nr)) (λ n. call_name_of n ≡ None)
    here (Some name) e = tt
    here None e = e

call_number_read : (t : Token) → IfOk (call_number t) (λ n. call_name_of n ≡ None)
call_number_read (Bare w) = next (within (pos 0) (pos 2147483647) (number w)) _ (λ n. call_name_of n ≡ None) (λ n. unnamed_read n)
call_number_read (Quoted b) = tt

-- the name of the call that a word is for
abbrev name_of : Word → Option (List ℕ)
name_of word.Mknod = Some (codes "mknod")
name_of word.Mknodat = Some (codes "mknodat")
name_of word.Mount = Some (codes "mount")
name_of word.Setxattr = Some (codes "setxattr")
name_of word.Openat = Some (codes "openat")
name_of word.Sysinfo = Some (codes "sysinfo")
name_of word.Close = Some (codes "close")
name_of word.Getpid = Some (codes "getpid")
name_of word.Other = None

-- the request is one of the call of this name, or of one without a name
abbrev IsNamed : Option (List ℕ) → Request → Type 0
IsNamed name q = call_name_of (call_of_request q) ≡ name

-- a request of a call is one of its name
named_so : (r : Reading Request) (nr : ℤ) → IfOk r (AsksFor nr) → IfOk r (IsNamed (call_name_of nr))
named_so (Ok q) nr h = ap call_name_of h
named_so (Err reason) nr h = tt

other_named : (ts : List Token) → IfOk (other ts) (IsNamed None)
other_named [] = tt
other_named (t ∷ []) = next_with (call_number t) _ (λ n. call_name_of n ≡ None) (IsNamed None) (call_number_read t) (λ n h. h)
other_named (t ∷ u ∷ ts) = tt

worded_named : (w : Word) (ts : List Token) → IfOk (worded w ts) (IsNamed (name_of w))
worded_named word.Mknod ts = named_so (mknod None ts) (pos 133) (mknod_asks None ts)
worded_named word.Mknodat ts = named_so (mknodat ts) (pos 259) (mknodat_asks ts)
worded_named word.Mount ts = named_so (mount ts) (pos 165) (mount_asks ts)
worded_named word.Setxattr ts = named_so (setxattr ts) (pos 188) (setxattr_asks ts)
worded_named word.Openat ts = named_so (openat ts) (pos 257) (openat_asks ts)
worded_named word.Sysinfo ts = named_so _ (pos 99) (alone_asks (Sysinfo 0) ts)
worded_named word.Close ts = named_so _ (pos 3) (alone_asks (Other (pos 3)) ts)
worded_named word.Getpid ts = named_so _ (pos 39) (alone_asks (Other (pos 39)) ts)
worded_named word.Other ts = other_named ts

-- each row of a table has the word for the name that is written in it
abbrev AreRight : List (List ℕ × Word) → Type 0
AreRight [] = Unit {0}
AreRight (row ∷ rows) = (name_of row.1 ≡ name_written row.0) × AreRight rows

found_right : (rows : List (List ℕ × Word)) (name : List ℕ) → AreRight rows → IfSome (named rows name) (λ w. name_of w ≡ name_written name)
found_right [] name right = tt
found_right (row ∷ rows) name right = here (bytes_eq row.0 name) (bytes_eq-Decides row.0 name).0 (found_right rows name right.1)
  where
    here : (b : Bool) → (b ≡ true → row.0 ≡ name) → IfSome (named rows name) (λ w. name_of w ≡ name_written name)
        → IfSome (option_map (λ (r : List ℕ × Word). r.1) (cond b (Some row) (find (λ r. bytes_eq r.0 name) rows))) (λ w. name_of w ≡ name_written name)
    here true e h = right.0 ∙ ap name_written (e refl)
    here false e h = h

words_right : AreRight words
words_right = (refl, (refl, (refl, (refl, (refl, (refl, (refl, (refl, (refl, tt)))))))))

known_named : (w : Option Word) (name : List ℕ) (ts : List Token) → IfSome w (λ w. name_of w ≡ name_written name) → IfOk (known_word w ts) (IsNamed (name_written name))
known_named (Some w) name ts h = along (worded w ts) (worded_named w ts)
  where
    along : (r : Reading Request) → IfOk r (IsNamed (name_of w)) → IfOk r (IsNamed (name_written name))
    along (Ok q) e = e ∙ h
    along (Err reason) e = tt
known_named None name ts h = tt

pub asked_as_written : (name : List ℕ) (ts : List Token) → IfOk (request (Bare name ∷ ts)) (λ q. call_name_of (call_of_request q) ≡ name_written name)
asked_as_written name ts = known_named (named words name) name ts (found_right words name words_right)
