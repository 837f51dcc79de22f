-- What is kept of a seat, when one more event comes.
-- By the look-backs for the seat's worker, each of which takes one step.
use Rattle.std.proofs.Common.{◌≡◌, ℕ, ◌<◌, ◌^◌, false, List, ◌∷◌, length, refl, sym, ◌∙◌, arith, Option, Some, None}
use Rattle.std.specs.Prelude.{All}
use Rattle.std.proofs.lemmas.Bool.{eq-eqb}
use Rattle.broker_verdict.specs.Seats.{base_worth, base_worth_after, checked_after, effect_after, effect_of, has_sent, is_base_refused, is_checked, is_effect, reads, reads_after, refused_after, sent_after}
use Rattle.hist_model.specs.Files.{files}
use Rattle.hist_model.specs.Kinds.{notifies}
use Rattle.hist_model.specs.Look.{ev, is_worker}
use Rattle.hist_model.specs.Steps.{call_after, mem, mem_after, session_call}
use Rattle.hist_model.specs.declared.event.Actor.TheVariants.{Worker}
use Rattle.hist_model.specs.declared.event.Event.{Event}
use Rattle.hist_model.specs.declared.event.What.{What}
use Rattle.hist_model.specs.declared.script.Script.{Script}
use Rattle.history_frames.specs.Ordinals.{count_of, groups_made, makes_group}
use Rattle.judge_pass.specs.Stands.{IsBelow, IsSeat, place_of_effect, place_of_group}
use Rattle.judge_pass.specs.Tables.{AreMade}
use Rattle.judge_pass.specs.declared.directories.OpenDirectory.{OpenDirectory}
use Rattle.judge_pass.specs.declared.seats.Seat.{Seat}
use Rattle.judge_pass.proofs.OpenFiles.{base-same, moves_base}
use Rattle.judge_pass.proofs.Rows.{below-more, count-least}
use Rattle.judge_pass.proofs.Rows as rows
use Rattle.judge_pass.proofs.TaskRows.{call-kept}

-- ---- numbers

pub effect-kept : (e : Event) (K : List Event) (o : Option ℕ) → IsBelow (count_of is_effect K) o → place_of_effect (e ∷ K) o ≡ place_of_effect K o
effect-kept e K (Some n) h = rows.place-kept is_effect e K (Some n) h
effect-kept e K None h = refl

pub group-kept : (e : Event) (K : List Event) (o : Option ℕ) → IsBelow (groups_made K) o → place_of_group (e ∷ K) o ≡ place_of_group K o
group-kept e K (Some n) h = rows.place-kept makes_group e K (Some n) h
group-kept e K None h = refl

pub made-more : (e : Event) (K : List Event) (rs : List OpenDirectory) → AreMade (groups_made K) rs → AreMade (groups_made (e ∷ K)) rs
made-more e K rs h k d l = let a = h k d l in let b = count-least makes_group e K in omega (arith, a, b)

-- ---- a step that leaves the seat

pub record LeavesSeat (S : Script) (e : Event) (K : List Event) (w : ℕ) : Type 0 where
  pub call_same : session_call (e ∷ K) w ≡ session_call K w
  pub reads_same : reads (e ∷ K) w ≡ reads K w
  pub checked_same : is_checked (e ∷ K) w ≡ is_checked K w
  pub effect_same : effect_of (e ∷ K) w ≡ effect_of K w
  pub sent_same : has_sent (e ∷ K) w ≡ has_sent K w
  pub refused_same : is_base_refused S (e ∷ K) w ≡ is_base_refused S K w
  pub memory_same : mem (e ∷ K) w ≡ mem K w
  pub base_same : (files S (e ∷ K)).base w ≡ (files S K).base w
  pub worth_same : base_worth S (e ∷ K) w ≡ base_worth S K w

pub longer : (K : List Event) (e : Event) (xs : List (ℕ × ℕ)) → All (λ (r : ℕ × ℕ). r.0 < length K) xs → All (λ (r : ℕ × ℕ). r.0 < length (e ∷ K)) xs
longer K e xs h k d l = let a = h k d l in omega (arith, a)

pub seat-row-kept : (S : Script) (e : Event) (K : List Event) (w : ℕ) (seat : Seat) → length (e ∷ K) < 2 ^ 64 → IsSeat S K w seat → LeavesSeat S e K w → IsSeat S (e ∷ K) w seat
seat-row-kept S e K w seat fits h l = record {
  call_is = l.call_same ∙ (h.call_is ∙ sym (call-kept e K seat.call h.call_made));
  call_made = below-more _ _ seat.call (count-least notifies e K) h.call_made;
  received = λ b. let a = h.received b in omega (arith, a);
  reads_are = l.reads_same ∙ h.reads_are;
  followed = h.followed;
  followed_some = h.followed_some;
  read_at_are = h.read_at_are;
  read_before = longer K e seat.read_at.items h.read_before;
  checked_is = l.checked_same ∙ h.checked_is;
  effect_is = l.effect_same ∙ (h.effect_is ∙ sym (effect-kept e K seat.effect h.effect_made));
  effect_made = below-more _ _ seat.effect (count-least is_effect e K) h.effect_made;
  sent_is = l.sent_same ∙ h.sent_is;
  refused_is = l.refused_same ∙ h.refused_is;
  memory_is = l.memory_same ∙ (h.memory_is ∙ sym (group-kept e K seat.memory h.memory_made));
  memory_made = below-more _ _ seat.memory (count-least makes_group e K) h.memory_made;
  base_is = l.base_same ∙ h.base_is;
  base_worth_is = l.worth_same ∙ h.base_worth_is;
}

-- a step of another actor
pub other-seat : (S : Script) (e : Event) (K : List Event) (w : ℕ) → is_worker e.who w ≡ false → LeavesSeat S e K w
unfolding session_call reads is_checked effect_of has_sent is_base_refused mem base_worth
other-seat S e K w f = record {
  call_same = rw f refl;
  reads_same = rw f refl;
  checked_same = rw f refl;
  effect_same = rw f refl;
  sent_same = rw f refl;
  refused_same = rw f refl;
  memory_same = rw f refl;
  base_same = base-same S e K w (rw f refl);
  worth_same = rw f refl;
}

-- ---- the seat's own steps

module _ (S : Script) (K : List Event) (w : ℕ) (what : What) where
  abbrev own : Event
  own = ev (Worker w) what

  pub own-call : session_call (own ∷ K) w ≡ call_after K what (session_call K w)
  unfolding session_call
  own-call = rw (eq-eqb w w refl) refl

  pub own-reads : reads (own ∷ K) w ≡ reads_after K w what (reads K w)
  unfolding reads
  own-reads = rw (eq-eqb w w refl) refl

  pub own-checked : is_checked (own ∷ K) w ≡ checked_after K w what (is_checked K w)
  unfolding is_checked
  own-checked = rw (eq-eqb w w refl) refl

  pub own-effect : effect_of (own ∷ K) w ≡ effect_after (length K) what (effect_of K w)
  unfolding effect_of
  own-effect = rw (eq-eqb w w refl) refl

  pub own-sent : has_sent (own ∷ K) w ≡ sent_after what (has_sent K w)
  unfolding has_sent
  own-sent = rw (eq-eqb w w refl) refl

  pub own-refused : is_base_refused S (own ∷ K) w ≡ refused_after S K w what (is_base_refused S K w)
  unfolding is_base_refused
  own-refused = rw (eq-eqb w w refl) refl

  pub own-memory : mem (own ∷ K) w ≡ mem_after K what (mem K w)
  unfolding mem
  own-memory = rw (eq-eqb w w refl) refl

  pub own-worth : base_worth S (own ∷ K) w ≡ base_worth_after S K w what (base_worth S K w)
  unfolding base_worth
  own-worth = rw (eq-eqb w w refl) refl

  pub own-base : moves_base what ≡ false → (files S (own ∷ K)).base w ≡ (files S K).base w
  own-base f = base-same S own K w (rw (f, eq-eqb w w refl) refl)
