-- The numbers that are kept stay in range where a request is installed.
-- By the rows that are set, each in place of one in range.
use Rattle.std.proofs.Common.{◌≡◌, ℕ, ◌<◌, List, [], ◌∷◌, length, refl, sym, ap, ◌∙◌, subst, arith, Option, Some, None}
use Rattle.std.specs.Prelude.{get_or, All, IfSome, option_map, Result}
use Rattle.std.proofs.Math.ListN.{set}
use Rattle.std.proofs.lemmas.List.{length-set}
use Rattle.std.proofs.lemmas.List.Elements.{All-tail}
use Rattle.judge_pass.specs.Tables.{Begins, behind_first, first_effect, KeepsHandles, with_installed}
use Rattle.judge_pass.specs.Takes.{Installs, IsNoted}
use Rattle.judge_pass.specs.Within.{calls_kept, effects_kept, IsCallWithin, IsDoneWithin, IsSeatWithin, IsWithin}
use Rattle.judge_pass.specs.declared.calls.Call.{Call}
use Rattle.judge_pass.specs.declared.calls.Queued.{Queued}
use Rattle.judge_pass.specs.declared.done.Done.{Done}
use Rattle.judge_pass.specs.declared.done.Put.{Put}
use Rattle.judge_pass.specs.declared.judge.Judge.{Judge}
use Rattle.judge_pass.specs.declared.seats.Seat.{Seat}
use Rattle.judge_pass.proofs.Installed.{all-first}
use Rattle.judge_pass.proofs.Rows.{rows-set}

behind-all : (n : ℕ) (qs : List Queued) → All (λ q. q.effect < n) qs → All (λ q. q.effect < n) (behind_first qs)
behind-all n [] h = h
behind-all n (q ∷ qs) h = All-tail (λ (p : Queued). p.effect < n) q qs h

put-same : (a : Result ℕ ℕ) (n : ℕ) (o : Option Put) → IfSome o (λ put. IfSome put.call (λ c. c < n)) → IfSome (option_map (with_installed a) o) (λ put. IfSome put.call (λ c. c < n))
put-same a n None h = h
put-same a n (Some p) h = h

-- only lists of calls and effects change, and have as many rows as before
pub within-lists : (old new : Judge) → IsWithin old → new ≡ record old { calls = record old.calls { rows = new.calls.rows }; done = new.done } → calls_kept new ≡ calls_kept old → effects_kept new ≡ effects_kept old
    → ((n : ℕ) (d : Call) → n < calls_kept old → IsCallWithin old (get_or new.calls.rows.items n d)) → ((n : ℕ) (d : Done) → n < effects_kept old → IsDoneWithin old (get_or new.done.items n d)) → IsWithin new
within-lists old new w same c e calls done = subst IsWithin (sym same) (record {
  seats_are = w.seats_are;
  tasks = λ o d l. let x = w.tasks o d l in record { group = x.group; call = rw c x.call; untold = rw e x.untold };
  calls = λ n d l. let x = calls n d (rw c at l) in record { caller = x.caller; fetcher = x.fetcher; queue = rw e x.queue };
  done = λ n d l. let x = done n d (rw e at l) in record { call = rw c x.call; put = rw c x.put };
  seats = λ v d l. let x = w.seats v d l in record { call = rw c x.call; effect = rw e x.effect; memory = x.memory; answered = x.answered; read_at = x.read_at };
})

done-lists : (k : Option ℕ) (a : Result ℕ ℕ) (j : Judge) (new : List Done) → IsWithin j → ((n : ℕ) → k ≡ Some n → n < effects_kept j) → IsNoted k a j.done.items new → (length new ≡ length j.done.items) × ((n : ℕ) (d : Done) → n < effects_kept j → IsDoneWithin j (get_or new n d))
done-lists None a j new w f h = (ap length h, λ n d l. rw h (w.done n d l))
done-lists (Some k) a j new w f h = (
  ap length h.rows_are ∙ length-set j.done.items k h.after,
  λ n d l. rows-set (λ (i : ℕ) (x : Done). IsDoneWithin j x) j.done.items new k h.after h.rows_are (λ i x m b. w.done i x m) here n d l,
)
  where
    here : IsDoneWithin j h.after
    here =
        let x : IsDoneWithin j h.before = subst (λ (d : Done). IsDoneWithin j d) (sym h.before_is) (w.done k h.before (f k refl)) in
        record { call = rw (ap (λ (d : Done). d.call) h.rest_is) x.call; put = rw h.put_is (put-same a (calls_kept j) h.before.put x.put) }

pub within-installed : (old new : Judge) (call : ℕ) (a : Result ℕ ℕ) → IsWithin old → call < calls_kept old → Installs call a old new → IsWithin new
within-installed old new call a w l i =
    let row : IsCallWithin old i.before = subst (λ (x : Call). IsCallWithin old x) (sym i.before_is) (w.calls call i.before l) in
    let d = done-lists (first_effect i.before.queue.items) a old new.done.items w (λ n q. all-first (effects_kept old) n i.before.queue.items row.queue q) i.done_are in
    within-lists old new w i.same (ap length i.rows_are ∙ length-set old.calls.rows.items call i.after) d.0
    (λ n x b. rows-set (λ (m : ℕ) (y : Call). IsCallWithin old y) old.calls.rows.items new.calls.rows.items call i.after i.rows_are (λ m y lm c. w.calls m y lm) (record {
      caller = rw (ap (λ (y : Call). y.caller) i.rest_is) row.caller;
      fetcher = rw (ap (λ (y : Call). y.fetcher) i.rest_is) row.fetcher;
      queue = rw i.queue_is (behind-all (effects_kept old) i.before.queue.items row.queue);
    }) n x b)
    d.1

-- directories have no numbers of rows
pub within-files : (old new : Judge) → IsWithin old → new ≡ record old { directories = new.directories } → IsWithin new
within-files old new w same = subst IsWithin (sym same) (record {
  seats_are = w.seats_are;
  tasks = λ o d l. let x = w.tasks o d l in record { group = x.group; call = x.call; untold = x.untold };
  calls = λ n d l. let x = w.calls n d l in record { caller = x.caller; fetcher = x.fetcher; queue = x.queue };
  done = λ n d l. let x = w.done n d l in record { call = x.call; put = x.put };
  seats = λ v d l. let x = w.seats v d l in record { call = x.call; effect = x.effect; memory = x.memory; answered = x.answered; read_at = x.read_at };
})

pub kept-calls : (old new : Judge) (call : ℕ) (a : Result ℕ ℕ) → Installs call a old new → calls_kept new ≡ calls_kept old
kept-calls old new call a i = ap length i.rows_are ∙ length-set old.calls.rows.items call i.after

-- a seat changes, and how much is counted
pub within-seat : (old new : Judge) (w : ℕ) (seat : Seat) → IsWithin old → IsSeatWithin old seat → new.seats.items ≡ set old.seats.items w seat → new ≡ record old { seats = new.seats; counts = new.counts } → IsWithin new
within-seat old new w seat h here rows same = subst IsWithin (sym same) (record {
  seats_are = ap length rows ∙ (length-set old.seats.items w seat ∙ h.seats_are);
  tasks = λ o d l. let x = h.tasks o d l in record { group = x.group; call = x.call; untold = x.untold };
  calls = λ n d l. let x = h.calls n d l in record { caller = x.caller; fetcher = x.fetcher; queue = x.queue };
  done = λ n d l. let x = h.done n d l in record { call = x.call; put = x.put };
  seats = λ v d l.
      let x : IsSeatWithin old (get_or new.seats.items v d) = rows-set (λ (i : ℕ) (y : Seat). IsSeatWithin old y) old.seats.items new.seats.items w seat rows (λ i y m b. h.seats i y (omega (arith, m, h.seats_are))) here v d (omega (arith, l, h.seats_are)) in
      record { call = x.call; effect = x.effect; memory = x.memory; answered = x.answered; read_at = x.read_at };
})

-- a call's row changes
pub within-call : (old new : Judge) (k : ℕ) (row : Call) → IsWithin old → IsCallWithin old row → new.calls.rows.items ≡ set old.calls.rows.items k row
    → new ≡ record old { calls = record old.calls { rows = new.calls.rows }; done = new.done } → new.done ≡ old.done → IsWithin new
within-call old new k row h here rows same done =
    within-lists old new h same (ap length rows ∙ length-set old.calls.rows.items k row) (rw done refl)
    (λ n x b. rows-set (λ (m : ℕ) (y : Call). IsCallWithin old y) old.calls.rows.items new.calls.rows.items k row rows (λ m y lm c. h.calls m y lm) here n x b)
    (λ n d l. rw done (h.done n d l))

-- a seat that begins keeps the memory that it has open
pub within-begun : (j : Judge) (old new : Seat) (place : ℕ) (call : Option ℕ) → IsSeatWithin j old → Begins place call new → KeepsHandles old new → IfSome call (λ c. c < calls_kept j) → IsSeatWithin j new
within-begun j old new place call h b k c = record {
  call = rw b.call_is c;
  effect = rw b.no_effect tt;
  memory = rw k.memory_same h.memory;
  answered = rw b.no_reads (λ k d l. absurd (omega (arith, l)));
  read_at = rw (b.no_reads, b.no_places) refl;
}

pub within-let-go : (j : Judge) (new : Seat) (place : ℕ) → Begins place None new → new.memory ≡ None → IsSeatWithin j new
within-let-go j new place b m = record {
  call = rw b.call_is tt;
  effect = rw b.no_effect tt;
  memory = rw m tt;
  answered = rw b.no_reads (λ k d l. absurd (omega (arith, l)));
  read_at = rw (b.no_reads, b.no_places) refl;
}

pub seat-within : (j : Judge) (w : ℕ) (seat : Seat) → IsWithin j → w < 17 → seat ≡ get_or j.seats.items w seat → IsSeatWithin j seat
seat-within j w seat h l q = subst (λ (x : Seat). IsSeatWithin j x) (sym q) (h.seats w seat l)

-- a listed call is received
pub within-received : (old new : Judge) (w k place : ℕ) (row row' : Call) (seat seat' : Seat) → IsWithin old → w < 17 → k < calls_kept old → row ≡ get_or old.calls.rows.items k row → row' ≡ record row { fetcher = Some w }
    → new.calls.rows.items ≡ set old.calls.rows.items k row' → seat ≡ get_or old.seats.items w seat → Begins place (Some k) seat' → KeepsHandles seat seat' → new.seats.items ≡ set old.seats.items w seat'
    → new ≡ record old { calls = record old.calls { rows = new.calls.rows }; seats = new.seats; counts = new.counts } → IsWithin new
within-received old new w k place row row' seat seat' h l lk rowq row'q rows seatq begun handles seats same =
    let r : IsCallWithin old row = subst (λ (x : Call). IsCallWithin old x) (sym rowq) (h.calls k row lk) in
    let r' : IsCallWithin old row' = rw row'q (record { caller = r.caller; fetcher = omega (arith, l); queue = r.queue }) in
    let mid : Judge = record old { calls = record old.calls { rows = new.calls.rows } } in
    let m : IsWithin mid = within-call old mid k row' h r' rows refl refl in
    let many : calls_kept mid ≡ calls_kept old = ap length rows ∙ length-set old.calls.rows.items k row' in
    within-seat mid new w seat' m (within-begun mid seat seat' place (Some k) (seat-within mid w seat m l seatq) begun handles (omega (arith, lk, many))) seats same
