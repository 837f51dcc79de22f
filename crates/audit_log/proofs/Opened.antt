-- An open session is its worker's own, by induction on the events: its receive begins both, a later step of the worker joins both, and
-- a later good receive ends it.
use Rattle.std.proofs.Common.{◌≡◌, inl, inr, Bool, true, false, ◌&&◌, not, List, [], ◌∷◌, length, Some, None, refl, sym, ap, ◌∙◌, arith}
use Rattle.std.specs.Prelude.{if◌then◌else◌, Ok}
use Rattle.std.proofs.lemmas.Bool.{cases_order, eq-eqb, ne_eqb}
use Rattle.hist_model.specs.Look.{ev, event_at, is_worker}
use Rattle.hist_model.specs.Kinds.{skips}
use Rattle.hist_model.specs.Sessions.{session, joined as with_own}
use Rattle.hist_model.specs.ReportAudit.{session_at, session_step, joined, is_shut}
use Rattle.hist_model.specs.declared.event.Actor.TheVariants.{Worker}
use Rattle.hist_model.specs.declared.event.What.{What}
use Rattle.hist_model.specs.declared.event.What.TheVariants.{Recv}
use Rattle.hist_model.proofs.Look.{event_at-here, event_at-older, event_at-above}
use Rattle.sys_abi.specs.declared.wire.Notif.{Notif}
use Rattle.audit_log.specs.Laws.{OpenIsOwn}

-- a good receive begins the worker's own steps anew
own-begins : (n : Notif) (own : List What) → with_own (Recv (Ok n)) own ≡ Recv (Ok n) ∷ []
own-begins n [] = refl
own-begins n (a ∷ own) = refl

-- a later step that leaves the session open joins both
both-join : (a : What) (own : List What) → is_shut (joined own a) ≡ false → (is_shut own ≡ false) × (joined own a ≡ with_own a own)
both-join a [] h = cc
both-join a (b ∷ own) h = by (is_shut (b ∷ own)) refl h
  where
    by : (s : Bool) → is_shut (b ∷ own) ≡ s → is_shut (if s then (b ∷ own) else (a ∷ b ∷ own)) ≡ false → (s ≡ false) × ((if s then (b ∷ own) else (a ∷ b ∷ own)) ≡ with_own a (b ∷ own))
    by true q k = cc
    by false q k = (refl, grind arith)

-- one more event after the session's receive
later-step : (b : Bool) (a : What) (own : List What) → is_shut (session_step false b own a) ≡ false → (is_shut own ≡ false) × (session_step false b own a ≡ (if b then with_own a own else own))
later-step true a own h = both-join a own h
later-step false a own h = (h, refl)

pub open_is_own : OpenIsOwn
unfolding session session_at
open_is_own w r n [] e h = cc
open_is_own w r n (f ∷ K) e h = elim (cases_order r (length K)) [
  | inl q ↦
      let s : Some f ≡ Some (ev (Worker w) (Recv (Ok n))) = sym (event_at-here f K) ∙ (ap (event_at (f ∷ K)) (sym q) ∙ e) in
      let z : f ≡ ev (Worker w) (Recv (Ok n)) = cc s in
      rw (z, q, eq-eqb (length K) (length K) refl, eq-eqb w w refl) (sym (own-begins n (session K w)))
  | inr o ↦ elim o [
    | inl l ↦
        let m : (length K ≡ r → ⊥) = omega arith in
        let b = is_worker f.who w && not (skips f.what) in
        let k = later-step b f.what (session_at w r K) (rw (ne_eqb (length K) r m) at h) in
        let ih = open_is_own w r n K (sym (event_at-older f K r l) ∙ e) k.0 in
        rw (ne_eqb (length K) r m) (k.1 ∙ ap (λ own. if b then with_own f.what own else own) ih)
    | inr l ↦ let g : event_at (f ∷ K) r ≡ None = event_at-above (f ∷ K) r (omega arith) in absurd (cc (g, e))
  ]
]
