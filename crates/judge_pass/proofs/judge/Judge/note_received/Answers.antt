-- The seat begins anew, and the call has its fetcher, if it is listed.
use Rattle.std.proofs.Common.{arith, sym, ◌∙◌, refl, None}
use Rattle.std.proofs.lemmas.List.{length-set}
use Rattle.judge_pass.proofs.HandTests.{as-event}
use Rattle.judge_pass.proofs.KeptWithin.{seat-within, within-begun, within-received, within-seat}
use Rattle.judge_pass.proofs.WorkerEvents.{number-bound, received-none, received-some}
use Rattle.judge_pass.proofs.judge.Judge.note_received.Goals as goal

pub returns-in-Some : goal.returns-in-Some
returns-in-Some c =
    let k = sym c.named.ensures ∙ c.in-Some.is in
    let v = rw c.from.ensures at c.index_mut-in-Some.ensures.value in
    record {
      stands = λ notif q P S K e s history kind.
          as-event P S K e _ kind.0 history _ (λ h.
          rw c.from.ensures
          (received-some P S K c.args.number c.args.self.now s c.requires.worker c.index_mut-in-Some.result.now v notif h c.begin.new.self c.begin.ensures.handles (omega (arith, q)) c.in-Some.call
          (rw q k) (number-bound _ _ _ _ k) (rw kind.1 c.begin.ensures.begun) c.index_mut.result.now c.index_mut.ensures.value));
      within = within-received c.args.self.now _ c.args.number c.in-Some.call c.args.place c.index_mut.result.now _ c.index_mut-in-Some.result.now c.begin.new.self c.requires.within c.requires.worker (number-bound _ _ _ _ k)
          c.index_mut.ensures.value refl refl v c.begin.ensures.begun c.begin.ensures.handles (rw c.from.ensures refl) refl;
      calls = length-set c.args.self.now.calls.rows.items c.in-Some.call _;
    }

pub returns-in-None : goal.returns-in-None
returns-in-None c =
    let k = sym c.named.ensures ∙ c.in-None.is in
    let v = rw c.from-in-None.ensures at c.index_mut-in-None.ensures.value in
    record {
      stands = λ notif q P S K e s history kind.
          as-event P S K e _ kind.0 history _ (λ h.
          rw c.from-in-None.ensures
          (received-none P S K c.args.number c.args.self.now s c.requires.worker c.index_mut-in-None.result.now v notif h c.begin-in-None.new.self c.begin-in-None.ensures.handles (omega (arith, q))
          (rw q k) (rw kind.1 c.begin-in-None.ensures.begun)));
      within = within-seat c.args.self.now _ _ c.begin-in-None.new.self c.requires.within
          (within-begun c.args.self.now c.index_mut-in-None.result.now c.begin-in-None.new.self c.args.place None (seat-within c.args.self.now c.args.number c.index_mut-in-None.result.now c.requires.within c.requires.worker v)
          c.begin-in-None.ensures.begun c.begin-in-None.ensures.handles tt) refl refl;
      calls = refl;
    }
