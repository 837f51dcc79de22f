-- Runs of a script that have come as far and have equal keys are joined: all goes on alike after what has happened in them.
-- By the parts of their keys, one after another, and by what each tells.
use Rattle.std.proofs.Common.{◌≡◌, inl, inr, ℕ, ◌<◌, ◌≤◌, Bool, true, false, not, List, [], ◌∷◌, ◌++◌, length, refl, sym, ap, ◌∙◌, append_assoc, arith, subst}
use Rattle.std.specs.Prelude.{All, ◌==◌, get_or, nat_lt}
use Rattle.std.specs.List.{flat_map, range_with_len}
use Rattle.std.proofs.lemmas.Bool.{cases_Bool, ltb-true}
use Rattle.std.proofs.lemmas.Bool.Decides.{nat_tests}
use Rattle.std.proofs.lemmas.List.Elements.{All-cons, All-nil}
use Rattle.std.proofs.lemmas.List.FromFn.{get_or-range_with_len, length-range_with_len}
use Rattle.hist_model.specs.Kinds.{is_letgo}
use Rattle.hist_model.specs.Legal.{IsWithin, NoWorkerAbove, is_open_session, rules_of, system_of}
use Rattle.hist_model.specs.ReportAudit.{judging_by}
use Rattle.hist_model.specs.Sessions.{any_of, session}
use Rattle.hist_model.specs.Steps.{IsLegal}
use Rattle.hist_model.specs.declared.event.Actor.{Actor}
use Rattle.hist_model.specs.declared.event.Actor.TheVariants.{Listener, Start, Task, Worker}
use Rattle.hist_model.specs.declared.event.Event.{Event}
use Rattle.hist_model.specs.declared.event.What.{What}
use Rattle.hist_model.specs.declared.policy.Policy.{Policy}
use Rattle.hist_model.specs.declared.script.Script.{Script}
use Rattle.delay_bounded.specs.Laws.{IsWalked}
use Rattle.handover.proofs.Told.{told_session}
use Rattle.key_bytes.specs.Parts.{flag_part}
use Rattle.key_bytes.proofs.Ending.{flag_ends, whole_ends}
use Rattle.key_bytes.proofs.Numbers.{number_ends}
use Rattle.model_kernel.specs.Keys.{HaveSameTables, kernel_part}
use Rattle.model_kernel.specs.declared.kernel.Kernel.{Kernel}
use Rattle.model_kernel.proofs.KeyParts.{kernels_end}
use Rattle.outcome_lines.specs.Keys.{lines_part}
use Rattle.outcome_lines.specs.Lines.{lines_in}
use Rattle.outcome_lines.proofs.KeyParts.{lines_end}
use Rattle.same_futures.specs.Kernels.{AreAlike, calls_of, tasks_of}
use Rattle.same_futures.specs.Same.{Same}
use Rattle.same_futures.specs.Workers.{IsSameSession}
use Rattle.same_futures.proofs.FlatLines.{same-by-all}
use Rattle.same_futures.proofs.SameTables.{go-on-alike, has-states-of}
use Rattle.explorer.specs.Keys.{AreJoined, KeysJoin, key_of, session_if, session_part, sessions_part}
use Rattle.explorer.specs.Runs.{IsRun, script_in, story}
use Rattle.explorer.specs.declared.run.Run.{Run}
use Rattle.explorer.proofs.SessionKeys.{sessions_are_one, steps_end}

-- ---- Workers that don't step have no session

no_session : (W w : ℕ) (K : List Event) → NoWorkerAbove W K → W < w → session K w ≡ []
unfolding session
no_session W w [] k l = refl
no_session W w (e ∷ K) k l = by (no_session W w K k.1 l) e.who refl
  where
    by : session K w ≡ [] → (a : Actor) → e.who ≡ a → session (e ∷ K) w ≡ []
    by before (Worker v) q =
        let in_range : v ≤ W = subst (λ (a : Actor). IsWithin W a) q k.0 in
        let other : (v == w) ≡ false = grind (arith, nat_tests) in
        rw (q, other) before
    by before Start q = rw q before
    by before (Task n) q = rw q before
    by before Listener q = rw q before

-- ---- Sessions

-- a session that is open hasn't let go
still_open : (own : List What) → is_open_session own ≡ true → any_of is_letgo own ≡ false
still_open [] h = cc
still_open (a ∷ own) h = by (any_of is_letgo (a ∷ own)) h
  where
    by : (b : Bool) → not b ≡ true → b ≡ false
    by true h = cc
    by false h = refl

module _ (P : Policy) (S : Script) (K L : List Event) (k : IsLegal (system_of S) (rules_of P S.figures) K) (l : IsLegal (system_of S) (rules_of P S.figures) L) where
  abbrev SameOf : ℕ → Type 0
  SameOf w = IsSameSession (session K w) (session L w)

  one_ends : (w : ℕ) (r s : List ℕ) → session_part K w ++ r ≡ session_part L w ++ s → SameOf w × (r ≡ s)
  one_ends w r s q = by (is_open_session (session K w)) (is_open_session (session L w)) refl refl q
    where
      by : (a b : Bool) → is_open_session (session K w) ≡ a → is_open_session (session L w) ≡ b
          → session_if a (session K w) ++ r ≡ session_if b (session L w) ++ s → SameOf w × (r ≡ s)
      by false false x y q = (inr (x, y), (flag_ends false false r s q).1)
      by true true x y q =
          let f = flag_ends true true _ _ (sym (append_assoc (flag_part true) _ r) ∙ (q ∙ append_assoc (flag_part true) _ s)) in
          let p = steps_end (session K w) (session L w) r s f.1 in (
            inl (sessions_are_one (rules_of P S.figures) (session K w) (session L w) (told_session P S K w k) (told_session P S L w l)
                (still_open (session K w) x) (still_open (session L w) y) p.0),
            p.1,
          )
      by true false x y q = let h : ◌≡◌ {A = ℕ} 1 0 = cc in absurd (omega arith)
      by false true x y q = let h : ◌≡◌ {A = ℕ} 0 1 = cc in absurd (omega arith)

  all_end : (ws : List ℕ) (r s : List ℕ) → flat_map (session_part K) ws ++ r ≡ flat_map (session_part L) ws ++ s → All SameOf ws × (r ≡ s)
  all_end [] r s q = (All-nil SameOf, q)
  all_end (w ∷ ws) r s q =
      let z : session_part K w ++ (flat_map (session_part K) ws ++ r) ≡ session_part L w ++ (flat_map (session_part L) ws ++ s) =
      sym (append_assoc (session_part K w) (flat_map (session_part K) ws) r) ∙ (q ∙ append_assoc (session_part L w) (flat_map (session_part L) ws) s) in
      let p = one_ends w (flat_map (session_part K) ws ++ r) (flat_map (session_part L) ws ++ s) z in
      let more = all_end ws r s p.1 in
      (All-cons SameOf w ws p.0 more.0, more.1)

  same_of : All SameOf (range_with_len 0 16) → (w : ℕ) → w < 16 → SameOf w
  same_of a w h =
      let is : get_or (range_with_len 0 16) w 0 ≡ w = omega (arith, get_or-range_with_len 0 16 w 0 h) in
      subst SameOf is (a w 0 (omega (arith, length-range_with_len 0 16, h)))

-- ---- Runs

module _ (P : Policy) (S : Script) (W : ℕ) (a b : Run) (p q : ℕ) (A : IsRun P S (story a) a) (B : IsRun P S (story b) b)
    (k : IsWalked P S W (story a)) (l : IsWalked P S W (story b)) (limit : W ≤ 15) (long : length (story b) ≡ length (story a)) where
  sessions_same : All (SameOf P S (story a) (story b) k.goes_on.legal l.goes_on.legal) (range_with_len 0 16) → (w : ℕ) → IsSameSession (session (story a) w) (session (story b) w)
  sessions_same all w = elim (cases_Bool (nat_lt w 16)) [
    | inl t ↦ same_of P S (story a) (story b) k.goes_on.legal l.goes_on.legal all w (ltb-true w 16 t)
    | inr f ↦ let above : W < w = grind (arith, nat_tests) in inl (no_session W w (story b) l.within above ∙ sym (no_session W w (story a) k.within above))
  ]

  module _ (e : key_of P p a ≡ key_of P q b) where
    abbrev ka : Kernel
    ka = a.machine.kernel

    abbrev kb : Kernel
    kb = b.machine.kernel

    abbrev lines : Run → List ℕ
    lines r = lines_part (lines_in (script_in r) (judging_by P.rules) (story r))

    abbrev behind : Run → List ℕ
    behind r = sessions_part (story r) ++ lines r

    places : (p ≡ q) × (kernel_part ka ++ behind a ≡ kernel_part kb ++ behind b)
    places = number_ends p q (kernel_part ka ++ behind a) (kernel_part kb ++ behind b) e

    tables : HaveSameTables ka kb × (behind a ≡ behind b)
    tables = kernels_end ka kb (behind a) (behind b) places.1

    told : All (SameOf P S (story a) (story b) k.goes_on.legal l.goes_on.legal) (range_with_len 0 16) × (lines a ≡ lines b)
    told = all_end P S (story a) (story b) k.goes_on.legal l.goes_on.legal (range_with_len 0 16) (lines a) (lines b) tables.1

    are_alike : AreAlike ka kb
    are_alike = record {
      here = A.at.served.kernel;
      there = B.at.served.kernel;
      script_is = B.at.script ∙ sym A.at.script;
      tables = tables.0;
      length_is = long;
      sessions = sessions_same told.0;
    }

    same : Same S (tasks_of ka) (calls_of ka) (story a) (story b)
    same = subst (λ (T : Script). Same T (tasks_of ka) (calls_of ka) (story a) (story b)) A.at.script (go-on-alike ka kb are_alike)

    lines_are : lines_in S (judging_by P.rules) (story b) ≡ lines_in S (judging_by P.rules) (story a)
    lines_are =
        let q : lines_in (script_in a) (judging_by P.rules) (story a) ≡ lines_in (script_in b) (judging_by P.rules) (story b) =
        whole_ends lines_part lines_end (lines_in (script_in a) (judging_by P.rules) (story a)) (lines_in (script_in b) (judging_by P.rules) (story b)) told.1 in
        ap (λ (T : Script). lines_in T (judging_by P.rules) (story b)) (sym B.at.script)
        ∙ (sym q ∙ ap (λ (T : Script). lines_in T (judging_by P.rules) (story a)) A.at.script)

    pub keys_join : AreJoined P S a b p q
    keys_join = record {
      place_is = sym places.0;
      states = has-states-of ka kb are_alike;
      alike = record { same = same; lines = same-by-all S (tasks_of ka) (calls_of ka) (story a) (story b) same (judging_by P.rules) lines_are };
    }

pub keys-join : (P : Policy) (S : Script) (W : ℕ) → KeysJoin P S W
keys-join P S W a b p q A B k l limit long e = keys_join P S W a b p q A B k l limit long e
