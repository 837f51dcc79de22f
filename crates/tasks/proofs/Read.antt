-- What is kept of a task, but for room, after one was read, written or added.
-- By the library's lemmas on a list of which one item is set.
use Rattle.std.proofs.Common.{◌≡◌, ℕ, zero, suc, ◌+◌, ◌==◌, Bool, true, false, ◌<◌, ◌≤◌, List, [], ◌∷◌, ◌++◌, length, get_or, set, Option, Some, None, refl, sym, ap, ◌∙◌, subst, arith}
use Rattle.std.specs.List.{slice_get}
use Rattle.std.proofs.lemmas.Bool.{eqb-true}
use Rattle.std.proofs.lemmas.Option.{slice_get-map, slice_get_read, slice_get_past, slice_get_within}
use Rattle.std.proofs.lemmas.List.{map-set, map-append, length-map}
use Rattle.std.proofs.Math.Seq.{map-set_same}
use Rattle.hist_model.specs.Look.{Name}
use Rattle.sorted_list.specs.Entries.{NumbersRise, IsSet}
use Rattle.tasks.specs.Index.{entry_key, under}
use Rattle.tasks.specs.Stands.{HasEntryRoom, HasNumber}
use Rattle.tasks.specs.Table.{IsAdded, Member, Table, member, members, task_at, with_entry, with_task, with_waiting}
use Rattle.tasks.specs.declared.index.Entry.{Entry}
use Rattle.tasks.specs.declared.row.Progress.{Progress}
use Rattle.tasks.specs.declared.row.Task.{Task}
use Rattle.tasks.proofs.Listed.{get-put, get-within}

-- the task that was read
pub read-task : (tasks : List Task) (i : ℕ) (r : Task) → i < length tasks → r ≡ get_or tasks i r → slice_get (members tasks) i ≡ Some (member r)
read-task tasks i r l q = slice_get-map member tasks i ∙ rw (slice_get_read tasks (length tasks) i r refl l q) refl

-- it is the one that is there
pub read-same : (tasks : List Task) (i : ℕ) (r : Task) (t : Member) → i < length tasks → r ≡ get_or tasks i r → slice_get (members tasks) i ≡ Some t → member r ≡ t
read-same tasks i r t l q at = let z : Some (member r) ≡ Some t = sym (read-task tasks i r l q) ∙ at in cc

-- a task was written
pub put-task : (tasks : List Task) (i : ℕ) (r s : Task) (t m : Member) → i < length tasks → r ≡ get_or tasks i r → slice_get (members tasks) i ≡ Some t → (member r ≡ t → member s ≡ m) → members (set tasks i s) ≡ set (members tasks) i m
put-task tasks i r s t m l q at f = map-set member tasks i s ∙ ap (λ (x : Member). set (members tasks) i x) (f (read-same tasks i r t l q at))

-- past the tasks there is none
pub past-task : (tasks : List Task) (i : ℕ) → length tasks ≤ i → slice_get (members tasks) i ≡ None
past-task tasks i h = slice_get-map member tasks i ∙ rw (slice_get_past tasks i h) refl

-- a task was written that is the same but for its room
pub put-same : (tasks : List Task) (i : ℕ) (r s : Task) → r ≡ get_or tasks i r → member s ≡ member r → members (set tasks i s) ≡ members tasks
put-same tasks i r s q w = map-set_same member tasks i s r (w ∙ ap member q)

pub same-task : (r : Task) (children : List (Option ℕ)) (waiting : List ℕ) → children ≡ r.children.items → waiting ≡ r.waiting.items → record (member r) { children = children; waiting = waiting } ≡ member r
same-task r children waiting a b = rw (a, b) refl

-- a task with one more entry
pub entered-task : (r : Task) (t : Member) (children : List (Option ℕ)) (waiting : List ℕ) (entry : Option ℕ) → children ≡ r.children.items ++ entry ∷ [] → waiting ≡ with_waiting r.waiting.items entry → member r ≡ t → record (member r) { children = children; waiting = waiting } ≡ with_entry t entry
entered-task r t children waiting entry a b q = rw (a, b) (ap (λ (m : Member). with_entry m entry) q)

-- a task with room was written
pub room-put : (tasks : List Task) (i : ℕ) (s : Task) → i < length tasks → HasEntryRoom (Some s) → HasEntryRoom (slice_get (set tasks i s) i)
room-put tasks i s l h = let x = get-within tasks i l in subst HasEntryRoom (sym (get-put tasks i s x.0 x.1)) h

-- a task was added
pub pushed-task : (tasks more : List Task) (r : Task) → more ≡ tasks ++ r ∷ [] → members more ≡ members tasks ++ member r ∷ []
pushed-task tasks more r q = ap members q ∙ map-append member tasks (r ∷ [])

pub child-added : (old mid new : Table) (parent n : ℕ) (t x m : Member) → mid ≡ with_task old parent (with_entry t (Some n)) → n ≡ length old.tasks → x ≡ m → IsAdded mid mid.tasks n x new → IsAdded old (set old.tasks parent (with_entry t (Some (length old.tasks)))) (length old.tasks) m new
child-added old mid new parent n t x m q l e a = subst (λ z. IsAdded old (set old.tasks parent (with_entry t (Some (length old.tasks)))) (length old.tasks) z new) e (record {
  tasks = a.tasks ∙ ap (λ (xs : List Member). xs ++ x ∷ []) (ap (λ (T : Table). T.tasks) q ∙ ap (λ k. set old.tasks parent (with_entry t (Some k))) l);
  pids = λ o. subst (λ k. IsSet entry_key old.pids x.pid (Some (under x.pid k)) new.pids) l
      (subst (λ (es : List Entry). IsSet entry_key es x.pid (Some (under x.pid n)) new.pids) (ap (λ (T : Table). T.pids) q) (a.pids (subst (NumbersRise entry_key) (sym (ap (λ (T : Table). T.pids) q)) o)));
  base = a.base ∙ ap (λ (T : Table). T.base) q;
  top = a.top ∙ ap (λ (T : Table). T.top) q;
  last = a.last;
  living = λ l. let z = ap (λ (T : Table). T.living) q in a.living (omega (arith, l, z)) ∙ ap (λ k. k + 1) z;
})

pub new-task : (name m : Name) (pid : ℕ) (parent : Option ℕ) (children : List (Option ℕ)) (waiting : List ℕ) (p q : Progress) → name ≡ m → children ≡ [] → waiting ≡ [] → p ≡ q
    → ◌≡◌ {A = Member} (record { name = name; pid = pid; parent = parent; children = children; waiting = waiting; progress = p }) (record { name = m; pid = pid; parent = parent; children = []; waiting = []; progress = q })
new-task name m pid parent children waiting p q a b c d = rw (a, b, c, d) refl

-- ---- where a task stands

pub within-task : (tasks : List Task) (i : ℕ) (t : Member) → slice_get (members tasks) i ≡ Some t → i < length tasks
within-task tasks i t q = omega (arith, slice_get_within (members tasks) i t q, length-map tasks member)

pub room-at : (tasks : List Task) (i : ℕ) (r : Task) → i < length tasks → r ≡ get_or tasks i r → HasEntryRoom (slice_get tasks i) → HasEntryRoom (Some r)
room-at tasks i r l q h = subst HasEntryRoom (slice_get_read tasks (length tasks) i r refl l q) h

pub number-there : (T : Table) (o : ℕ) → HasNumber (task_at T o) → (t : Member) × (task_at T o ≡ Some t)
number-there T o h = go (task_at T o) refl h
  where
    go : (x : Option Member) → task_at T o ≡ x → HasNumber x → (t : Member) × (task_at T o ≡ Some t)
    go None q h = absurd h
    go (Some t) q h = (t, q)

pub item-read : {X : Type 0} → (xs : List X) (i : ℕ) (x : X) → i < length xs → x ≡ get_or xs i x → slice_get xs i ≡ Some x
item-read xs i x l q = slice_get_read xs (length xs) i x refl l q

pub no-items : {X : Type 0} → (xs : List X) → length xs ≡ 0 → xs ≡ []
no-items [] h = refl
no-items (x ∷ xs) h = cc

pub no-length : (n : ℕ) (b : Bool) → b ≡ (n == 0) → b ≡ true → n ≡ 0
no-length n b h q = eqb-true n 0 (sym h ∙ q)

pub some-length : (n : ℕ) (b : Bool) → b ≡ (n == 0) → b ≡ false → 0 < n
some-length zero b h q = let z : ◌≡◌ {A = Bool} false true = sym q ∙ h in absurd (cc)
some-length (suc n) b h q = omega arith

-- a task was added after room was made for it
same-table : (T : Table) (tasks : List Member) (pids : List Entry) → tasks ≡ T.tasks → pids ≡ T.pids → record T { tasks = tasks; pids = pids } ≡ T
same-table T tasks pids a b = rw (a, b) refl

pub first-added : (old new : Table) (tasks : List Member) (pids : List Entry) (x m : Member) → tasks ≡ old.tasks → pids ≡ old.pids → x ≡ m → IsAdded (record old { tasks = tasks; pids = pids }) tasks 0 x new → IsAdded old old.tasks 0 m new
first-added old new tasks pids x m a b e h = subst (λ z. IsAdded old old.tasks 0 z new) e (subst (λ (T : Table). IsAdded T T.tasks 0 x new) (same-table old tasks pids a b) h)
