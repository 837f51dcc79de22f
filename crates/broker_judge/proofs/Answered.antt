-- Each read of a seat in a history of the kernel is answered with some bytes, or with EFAULT.
-- By induction over the history: the event of a read has the kernel's answer, and a check leaves answers as they are.
use Rattle.std.proofs.Common.{◌≡◌, ◌∙◌, ◌+◌, ℕ, zero, suc, ◌<◌, ◌≤◌, Bool, true, false, List, [], ◌∷◌, ◌++◌, length, None, Option, Some, refl, subst, ap, sym, arith}
use Rattle.std.specs.Prelude.{◌==◌, All, map, Result, Ok, reverse, if◌then◌else◌}
use Rattle.std.specs.List.{AllByRecursion}
use Rattle.std.proofs.lemmas.List.Elements.{All-from_recursion}
use Rattle.hist_model.specs.Calls.{count}
use Rattle.hist_model.specs.Deeds.{Deed}
use Rattle.hist_model.specs.Legal.{OfKernel, system_of}
use Rattle.hist_model.specs.Look.{is_worker}
use Rattle.hist_model.specs.Memory.{bytes_read, is_mapped, mapped_bytes}
use Rattle.hist_model.specs.Steps.{deed_step, install_at, IsKernelAnswer, IsKernelStep, IsOfKernel, mem, oldest_unfetched, read_answer, recv_answer, request_listed, request_of, take_step}
use Rattle.hist_model.specs.declared.event.Actor.{Actor}
use Rattle.hist_model.specs.declared.event.Actor.TheVariants.{Listener, Start, Task, Worker}
use Rattle.hist_model.specs.declared.event.Event.{Event}
use Rattle.hist_model.specs.declared.event.What.{What}
use Rattle.hist_model.specs.declared.event.What.TheVariants.{Check, LetGo, Read, Recv, Skip}
use Rattle.hist_model.specs.declared.script.Script.{Script}
use Rattle.broker_verdict.specs.Seats.{confirmed, is_own_id, reads, reads_after, SeatRead, with_read}
use Rattle.broker_judge.specs.Copied.{IsAnswer, IsAnswered}
use Rattle.broker_judge.proofs.Laid.{reversed}

-- ---- what the kernel answers

at_most : (S : Script) (K : List Event) (m a n : ℕ) → length (mapped_bytes S K m a n) ≤ n
unfolding mapped_bytes
at_most S K m a zero = omega arith
at_most S K m a (suc n) = by_map (is_mapped S.map a) refl (at_most S K m (a + 1) n)
  where
    by_map : (b : Bool) → is_mapped S.map a ≡ b → length (mapped_bytes S K m (a + 1) n) ≤ n → length (mapped_bytes S K m a (suc n)) ≤ suc n
    by_map true q h = rw q (omega arith)
    by_map false q h = rw q (omega arith)

one_at_least : (S : Script) (K : List Event) (m a n : ℕ) → is_mapped S.map a ≡ true → 0 < n → 0 < length (mapped_bytes S K m a n)
unfolding mapped_bytes
one_at_least S K m a zero q h = absurd (omega arith)
one_at_least S K m a (suc n) q h = rw q (omega arith)

bytes_answer : (S : Script) (K : List Event) (m a n : ℕ) → IsAnswer n (bytes_read S K m a n)
bytes_answer S K m a n = by_map (is_mapped S.map a) refl
  where
    by_map : (b : Bool) → is_mapped S.map a ≡ b → IsAnswer n (bytes_read S K m a n)
    by_map true q = rw q (λ some. one_at_least S K m a n q some, at_most S K m a n)
    by_map false q = rw q refl

read_answers : (S : Script) (K : List Event) (m : Option ℕ) (a n : ℕ) → IsAnswer n (read_answer (system_of S) K m a n)
read_answers S K None a n = refl
read_answers S K (Some g) a n = bytes_answer S K g a n

-- ---- the step of a read

-- where the step is a read, its answer is one to so many bytes
abbrev IsRead : What → Type 0
IsRead (Read a n answer) = IsAnswer n answer
IsRead _ = Unit {0}

taken : (answer : Option (Result ℕ ℕ)) (on : Bool) → IsRead (take_step answer on)
taken (Some a) on = tt
taken None true = tt
taken None false = tt

received : (S : Script) (K : List Event) (b : Bool) → IsRead (if b then Skip else Recv (recv_answer K (oldest_unfetched K)))
received S K true = tt
received S K false = tt

deed_reads : (S : Script) (K : List Event) (w : ℕ) (d : Deed) → IsRead (deed_step (system_of S) K w d)
deed_reads S K w Deed.Recv = received S K (count K == 0)
deed_reads S K w (Deed.Read a n) = read_answers S K (mem K w) a n
deed_reads S K w Deed.AddfdTake = taken (install_at K (request_of K w)) (request_listed K (request_of K w))
deed_reads S K w _ = tt

worker_reads : (S : Script) (K : List Event) (w : ℕ) (who : Actor) (what : What) → IsKernelAnswer (system_of S) K who what → is_worker who w ≡ true → IsRead what
worker_reads S K w Start what h q = absurd h
worker_reads S K w (Task n) what h q = cc
worker_reads S K w Listener what h q = cc
worker_reads S K w (Worker v) what h q = subst IsRead (sym h.1) (deed_reads S K v h.0)

step_reads : (S : Script) (K : List Event) (w : ℕ) (e : Event) → IsKernelStep (system_of S) K e → is_worker e.who w ≡ true → IsRead e.what
step_reads S [] w e h q = let start : false ≡ true = sym (ap (λ (x : Event). is_worker x.who w) h) ∙ q in cc
step_reads S (f ∷ K) w e h q = worker_reads S (f ∷ K) w e.who e.what h.1 q

-- ---- all reads

confirmed_all : (all : List SeatRead) → AllByRecursion IsAnswered all → AllByRecursion IsAnswered (map (λ r. confirmed r) all)
confirmed_all [] h = tt
confirmed_all (r ∷ more) h = (h.0, confirmed_all more h.1)

checked : (b : Bool) (all : List SeatRead) → AllByRecursion IsAnswered all → AllByRecursion IsAnswered (if b then map (λ r. confirmed r) all else all)
checked true all h = confirmed_all all h
checked false all h = h

read_more : (K : List Event) (w a n : ℕ) (answer : Result (List ℕ) ℕ) (m : Option ℕ) (all : List SeatRead) → IsAnswer n answer
    → AllByRecursion IsAnswered all → AllByRecursion IsAnswered (with_read K w a n answer m all)
read_more K w a n answer None all i h = h
read_more K w a n answer (Some g) all i h = (i, h)

after_answered : (K : List Event) (w : ℕ) (what : What) (all : List SeatRead) → IsRead what → AllByRecursion IsAnswered all
    → AllByRecursion IsAnswered (reads_after K w what all)
after_answered K w (Recv (Ok n)) all i h = tt
after_answered K w LetGo all i h = tt
after_answered K w (Check x (Ok u)) all i h = checked (is_own_id K w x) all h
after_answered K w (Read a n answer) all i h = read_more K w a n answer (mem K w) all i h
after_answered K w _ all i h = h

newest_answered : (S : Script) (K : List Event) (w : ℕ) → IsOfKernel (system_of S) K → AllByRecursion IsAnswered (reads K w)
unfolding reads
newest_answered S [] w h = tt
newest_answered S (e ∷ K) w h = by_worker (is_worker e.who w) refl (newest_answered S K w h.1)
  where
    by_worker : (b : Bool) → is_worker e.who w ≡ b → AllByRecursion IsAnswered (reads K w) → AllByRecursion IsAnswered (reads (e ∷ K) w)
    by_worker true q g = rw q (after_answered K w e.what (reads K w) (step_reads S K w e h.0 q) g)
    by_worker false q g = rw q g

-- ---- with the oldest first

both : (P : SeatRead → Type 0) (all more : List SeatRead) → AllByRecursion P (all ++ more) → AllByRecursion P all × AllByRecursion P more
both P [] more h = (tt, h)
both P (r ∷ all) more h = let t = both P all more h.1 in ((h.0, t.0), t.1)

turned : (P : SeatRead → Type 0) (all : List SeatRead) → AllByRecursion P (reverse all) → AllByRecursion P all
turned P [] h = tt
turned P (r ∷ later) h = let t = both P (reverse later) (r ∷ []) (subst (AllByRecursion P) (reversed r later) h) in (t.1.0, turned P later t.0)

pub seat_answered : (S : Script) (K : List Event) (w : ℕ) (seat : List SeatRead) → OfKernel S K → reads K w ≡ reverse seat → All IsAnswered seat
seat_answered S K w seat h e = All-from_recursion IsAnswered seat (turned IsAnswered seat (subst (AllByRecursion IsAnswered) e (newest_answered S K w h.0)))
