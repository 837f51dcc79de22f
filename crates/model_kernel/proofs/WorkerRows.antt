-- The workers' rows after one more event of a worker, or of anybody else.
-- By the lemmas of `Frames` for each worker, and by cases on whether a worker is the one whose row was written.
use Rattle.std.proofs.Common.{◌≡◌, inl, inr, ℕ, zero, suc, ◌≤◌, true, false, List, [], ◌∷◌, set, Option, Some, None, refl, sym, ◌∙◌, arith, ℤ, Ok, replicate}
use Rattle.std.proofs.lemmas.Bool.{cases_eq, eq-eqb}
use Rattle.std.proofs.lemmas.List.{length-set, get_or-set_same, get_or-set_other}
use Rattle.hist_model.specs.Files.{files}
use Rattle.hist_model.specs.Natives.{base_of}
use Rattle.hist_model.specs.Sessions.{session}
use Rattle.hist_model.specs.Steps.{mem, opened, place_or}
use Rattle.hist_model.specs.Tasks.{holder}
use Rattle.hist_model.specs.Trees.{ordinal_of}
use Rattle.hist_model.specs.declared.request.NodeRef.{NodeRef}
use Rattle.history_frames.specs.Ordinals.{group_of}
use Rattle.history_frames.proofs.Groups.{group-stays}
use Rattle.sys_abi.specs.declared.wire.Notif.{Notif}
use Rattle.model_kernel.proofs.Words.{AreRows, ev, Event, LetGo, OpenBase, OpenMem, Recv, Script, Worker, WorkerRow}
use Rattle.model_kernel.specs.Rows.{idle, row_of}
use Rattle.model_kernel.specs.Stands.{IsRow, IsMemory}
use Rattle.model_kernel.proofs.Frames.{changes_of, apart-changes, mem-own, mem-kept, session-own, session-kept, base-kept, base-own}

memory-kept : (e : Event) (K : List Event) (m n o : Option ℕ) → m ≡ n → IsMemory K n o → IsMemory (e ∷ K) m o
memory-kept e K m n (Some o) q h = (h.0, q ∙ h.1, group-stays e K o h.0 h.2)
memory-kept e K m n None q h = q ∙ h

row-kept : (S : Script) (e : Event) (K : List Event) (v : ℕ) (row : WorkerRow) → changes_of e.who e.what v ≡ false → IsRow S K v row → IsRow S (e ∷ K) v row
row-kept S e K v row h r = record {
  base_is = base-kept S e K v h ∙ r.base_is;
  memory_is = memory-kept e K (mem (e ∷ K) v) (mem K v) row.memory (mem-kept e K v h) r.memory_is;
  session_is = r.session_is ∙ sym (session-kept e K v h);
}

pub rows-kept : (S : Script) (K : List Event) (e : Event) (rows : List WorkerRow) → AreRows S K rows → ((v : ℕ) → changes_of e.who e.what v ≡ false) → AreRows S (e ∷ K) rows
rows-kept S K e rows s h = record { whole = s.whole; workers = λ v. row-kept S e K v (row_of rows v) (h v) (s.workers v) }

-- ---- the row of the worker that takes the step

rows-set : (S : Script) (K : List Event) (e : Event) (rows : List WorkerRow) (w : ℕ) (row : WorkerRow) → AreRows S K rows → w ≤ 16 → e.who ≡ Worker w → IsRow S (e ∷ K) w row → AreRows S (e ∷ K) (set rows w row)
rows-set S K e rows w row s l h r = record {
  whole = length-set rows w row ∙ s.whole;
  workers = λ v. elim (cases_eq v w) [
    | inl q ↦ rw (q, get_or-set_same rows w row idle (omega (arith, s.whole))) r
    | inr n ↦ rw (get_or-set_other rows w v row idle n) (row-kept S e K v (row_of rows v) (apart-changes e.who e.what w v h n) (s.workers v))
  ];
}

module _ (S : Script) (K : List Event) (rows : List WorkerRow) (w : ℕ) (s : AreRows S K rows) (l : w ≤ 16) where
  pub rows-received : (n : Notif) → AreRows S (ev (Worker w) (Recv (Ok n)) ∷ K) (set rows w (record (row_of rows w) { has_session = true }))
  rows-received n =
      let e = ev (Worker w) (Recv (Ok n)) in
      rows-set S K e rows w (record (row_of rows w) { has_session = true }) s l refl (record {
        base_is = base-own S e K w e.what refl refl ∙ (s.workers w).base_is;
        memory_is = memory-kept e K (mem (e ∷ K) w) (mem K w) (row_of rows w).memory (mem-own e K w refl) (s.workers w).memory_is;
        session_is = sym (session-own e K w refl refl);
      })

  pub rows-opened : (pid o g : ℕ) → opened K (holder K pid) ≡ Some g → group_of K o ≡ Some g → AreRows S (ev (Worker w) (OpenMem pid (Ok tt)) ∷ K) (set rows w (record (row_of rows w) { memory = Some o }))
  rows-opened pid o g q at =
      let e = ev (Worker w) (OpenMem pid (Ok tt)) in
      rows-set S K e rows w (record (row_of rows w) { memory = Some o }) s l refl (record {
        base_is = base-own S e K w e.what refl refl ∙ (s.workers w).base_is;
        memory_is = (g, mem-own e K w refl ∙ q, group-stays e K o g at);
        session_is = (s.workers w).session_is ∙ sym (session-own e K w refl refl);
      })

  pub rows-based : (pid : ℕ) (d : ℤ) (base : Option NodeRef) → base_of S (files S K) (place_or (opened K (holder K pid))) d ≡ ordinal_of base → AreRows S (ev (Worker w) (OpenBase pid d (Ok tt)) ∷ K) (set rows w (record (row_of rows w) { base = base }))
  rows-based pid d base q =
      let e = ev (Worker w) (OpenBase pid d (Ok tt)) in
      rows-set S K e rows w (record (row_of rows w) { base = base }) s l refl (record {
        base_is = base-own S e K w e.what refl refl ∙ rw (eq-eqb w w refl) q;
        memory_is = memory-kept e K (mem (e ∷ K) w) (mem K w) (row_of rows w).memory (mem-own e K w refl) (s.workers w).memory_is;
        session_is = (s.workers w).session_is ∙ sym (session-own e K w refl refl);
      })

  pub rows-let_go : AreRows S (ev (Worker w) LetGo ∷ K) (set rows w idle)
  rows-let_go =
      let e = ev (Worker w) LetGo in
      rows-set S K e rows w idle s l refl (record {
        base_is = base-own S e K w e.what refl refl ∙ rw (eq-eqb w w refl);
        memory_is = mem-own e K w refl;
        session_is = sym (session-own e K w refl refl);
      })

-- ---- nobody has opened anything

idle-row : (n w : ℕ) → row_of (replicate n idle) w ≡ idle
idle-row zero w = refl
idle-row (suc n) zero = refl
idle-row (suc n) (suc w) = idle-row n w

pub rows-none : (S : Script) → AreRows S [] (replicate 17 idle)
unfolding files mem session
rows-none S = record { whole = refl; workers = λ w. rw (idle-row 17 w) (record { base_is = refl; memory_is = refl; session_is = refl }) }
