-- What is kept of a session with one more step of its worker: its facts, what is read in it, and what the policy makes of it.
-- By cases on whether the session is over, and on whether its second check was good; its steps then are the new one and those before.
use Rattle.std.proofs.Common.{◌≡◌, ℕ, ℤ, Bool, true, false, ◌&&◌, List, [], ◌∷◌, ◌++◌, refl, sym, ap, subst, ◌∙◌}
use Rattle.std.specs.Prelude.{◌||◌, if◌then◌else◌, Option, Result}
use Rattle.std.specs.List.{list_any}
use Rattle.hist_model.specs.Kinds.{is_good_check, is_sent, starts}
use Rattle.hist_model.specs.Look.{or_else}
use Rattle.hist_model.specs.Copies.{heard, plan, progress}
use Rattle.hist_model.specs.ReportAudit.{Judging, back_in, checked_twice, finding_of, is_shut, joined, judged_by, judging_by, or_back, read_in, reads, sent_back}
use Rattle.hist_model.specs.declared.event.What.{What}
use Rattle.hist_model.specs.declared.policy.Rule.{Rule}
use Rattle.hist_model.specs.declared.event.Back.{Back}
use Rattle.hist_model.specs.declared.report.Finding.{Finding}
use Rattle.hist_model.specs.declared.report.Finding.TheVariants.{Open}
use Rattle.sys_abi.specs.declared.wire.Notif.{Notif}
use Rattle.arg_capture.specs.Captures.{Captured, Follows}
use Rattle.audit_log.specs.Begun.{Begun, IsRead, found_so_far, told, with_step}
use Rattle.audit_log.specs.SessionFacts.{facts_of, facts_with}
use Rattle.audit_log.specs.SessionStages.{is_done, place_if, stages_joined, with_stage}
use Rattle.audit_log.specs.declared.session_facts.Facts.{Facts}
use Rattle.audit_log.specs.declared.session.SessionRecord.{SessionRecord}
use Rattle.audit_log.specs.declared.session_stages.Stages.{Stages}

and_true : (b : Bool) → (b && true) ≡ b
and_true true = refl
and_true false = refl

or_true : (b : Bool) → (b || true) ≡ true
or_true true = refl
or_true false = refl

-- ---- The steps

pub open_joined : (own : List What) (a : What) → is_shut own ≡ false → joined own a ≡ a ∷ own
open_joined own a h = rw h refl

pub shut_joined : (own : List What) (a : What) → is_shut own ≡ true → joined own a ≡ own
shut_joined own a h = rw h refl

-- ---- The facts

facts-cons : (b : What) (own : List What) (a : What) → facts_with (facts_of (b ∷ own)) a ≡ facts_of (a ∷ b ∷ own)
facts-cons b own a = rw (and_true (starts a)) refl

facts-more : (own : List What) (a : What) → is_shut own ≡ false → facts_with (facts_of own) a ≡ facts_of (joined own a)
facts-more [] a h = cc
facts-more (b ∷ own) a h = facts-cons b own a ∙ ap facts_of (sym (open_joined (b ∷ own) a h))

-- ---- What the policy makes of it

twice-later : (own : List What) (a : What) → checked_twice own ≡ true → checked_twice (a ∷ own) ≡ true
twice-later own a h = rw h (or_true (is_good_check a && list_any is_good_check own))

found-later : (J : Judging) (n : Notif) (own : List What) (a : What) → checked_twice own ≡ true → found_so_far J n own ≡ found_so_far J n (a ∷ own)
found-later J n own a h = rw (h, or_true (is_good_check a && list_any is_good_check own)) refl

reads-more : (own : List What) (a : What) → checked_twice own ≡ false → reads (a ∷ own) ≡ reads own ++ read_in a
reads-more own a h = rw h refl

same-session : (p q : ℕ) (w v : ℕ) (n m : ℕ) (a b : ℤ) (f g : Facts) (x y : Option Back) (j k : Finding) (t u : Stages) → p ≡ q → w ≡ v → n ≡ m → a ≡ b → f ≡ g → x ≡ y → j ≡ k → t ≡ u
    → ◌≡◌ {A = SessionRecord} (record { place = p; worker = w; id = n; nr = a; facts = f; back = x; found = j; stages = t }) (record { place = q; worker = v; id = m; nr = b; facts = g; back = y; found = k; stages = u })
same-session p q w v n m a b f g x y j k t u c d e h i l o r = rw (c, d, e, h, i, l, o, r) refl

-- ---- Where the steps stand

stages-shut : (place : ℕ) (own : List What) (a : What) (t : Stages) → is_shut own ≡ true → stages_joined place own a t ≡ t
stages-shut place own a t h = rw h refl

same-stages : (v w e f s t : Option ℕ) → v ≡ w → e ≡ f → s ≡ t → ◌≡◌ {A = Stages} (record { valid = v; effect = e; sent = s }) (record { valid = w; effect = f; sent = t })
same-stages v w e f s t a b c = rw (a, b, c) refl

stages-open : (place : ℕ) (own : List What) (a : What) (t u : Stages) → is_shut own ≡ false → u.valid ≡ or_else t.valid (place_if (checked_twice (a ∷ own)) place)
    → u.effect ≡ or_else t.effect (place_if (is_done a) place) → u.sent ≡ or_else t.sent (place_if (is_sent a) place) → u ≡ stages_joined place own a t
stages-open place own a t u h v e s = rw h (same-stages u.valid (with_stage place own a t).valid u.effect (with_stage place own a t).effect u.sent (with_stage place own a t).sent v e s)

back-cons : (own : List What) (a : What) → is_shut own ≡ false → or_back (back_in a) (sent_back own) ≡ sent_back (joined own a)
back-cons own a h = ap sent_back (sym (open_joined own a h))

-- of a session that is over
pub after_shut : (rules : List Rule) (s : Begun) (x : SessionRecord) (place : ℕ) (a : What) (n : Notif) (c : Captured) → x ≡ told (judging_by rules) s → x.facts.shut ≡ true → IsRead s n c
    → (x ≡ told (judging_by rules) (with_step place a s)) × IsRead (with_step place a s) n c
after_shut rules s x place a n c p over r =
    let shut : is_shut s.steps ≡ true = sym (ap (λ (r : SessionRecord). r.facts.shut) p) ∙ over in
    rw (shut_joined s.steps a shut, stages-shut place s.steps a s.stages shut) (p, r)

module _ (rules : List Rule) (s : Begun) (x : SessionRecord) (place : ℕ) (a : What) (f : Facts) (back : Option Back) (t : Stages) (p : x ≡ told (judging_by rules) s) (stays : x.facts.shut ≡ false)
    (fe : f ≡ facts_with x.facts a) (be : back ≡ or_back (back_in a) x.back) (ve : t.valid ≡ or_else x.stages.valid (place_if f.checked_twice place))
    (ee : t.effect ≡ or_else x.stages.effect (place_if (is_done a) place)) (se : t.sent ≡ or_else x.stages.sent (place_if (is_sent a) place)) where
  is-open : is_shut s.steps ≡ false
  is-open = sym (ap (λ (r : SessionRecord). r.facts.shut) p) ∙ stays

  facts-are : f ≡ facts_of (joined s.steps a)
  facts-are = fe ∙ ap (λ (r : SessionRecord). facts_with r.facts a) p ∙ facts-more s.steps a is-open

  back-is : back ≡ sent_back (joined s.steps a)
  back-is = be ∙ ap (λ (r : SessionRecord). or_back (back_in a) r.back) p ∙ back-cons s.steps a is-open

  stages-are : t ≡ stages_joined place s.steps a s.stages
  stages-are =
      let st : x.stages ≡ s.stages = ap (λ (r : SessionRecord). r.stages) p in
      let twice : f.checked_twice ≡ checked_twice (a ∷ s.steps) = ap (λ (g : Facts). g.checked_twice) facts-are ∙ ap checked_twice (open_joined s.steps a is-open) in
      stages-open place s.steps a s.stages t is-open (rw (← st, ← twice) ve) (rw (← st) ee) (rw (← st) se)

  with-found : (j : Finding) → j ≡ found_so_far (judging_by rules) s.notif (joined s.steps a)
      → ◌≡◌ {A = SessionRecord} (record { place = x.place; worker = x.worker; id = x.id; nr = x.nr; facts = f; back = back; found = j; stages = t }) (told (judging_by rules) (with_step place a s))
  with-found j e = same-session x.place s.place x.worker s.worker x.id s.notif.id x.nr s.notif.call.nr f (facts_of (joined s.steps a)) back (sent_back (joined s.steps a)) j (found_so_far (judging_by rules) s.notif (joined s.steps a))
      t (stages_joined place s.steps a s.stages) (ap (λ (r : SessionRecord). r.place) p) (ap (λ (r : SessionRecord). r.worker) p) (ap (λ (r : SessionRecord). r.id) p) (ap (λ (r : SessionRecord). r.nr) p) facts-are back-is e stages-are

  -- of a session that was judged
  pub after_judged : (n : Notif) (c : Captured) → s.notif ≡ n → x.facts.checked_twice ≡ true
      → ◌≡◌ {A = SessionRecord} (record { place = x.place; worker = x.worker; id = x.id; nr = x.nr; facts = f; back = back; found = x.found; stages = t }) (told (judging_by rules) (with_step place a s)) × IsRead (with_step place a s) n c
  after_judged n c named twice =
      let before : checked_twice s.steps ≡ true = sym (ap (λ (r : SessionRecord). r.facts.checked_twice) p) ∙ twice in
      let q : joined s.steps a ≡ a ∷ s.steps = open_joined s.steps a is-open in
      let m : checked_twice (joined s.steps a) ≡ true = ap checked_twice q ∙ twice-later s.steps a before in
      let j : x.found ≡ found_so_far (judging_by rules) s.notif (joined s.steps a) =
      ap (λ (r : SessionRecord). r.found) p ∙ found-later (judging_by rules) s.notif s.steps a before ∙ ap (found_so_far (judging_by rules) s.notif) (sym q) in
      (with-found x.found j, (named, λ h. absurd (cc (m, h))))

  -- of one that wasn't, whose capture takes the step, and which is judged where this was its second good check
  pub after_heard : (n : Notif) (old mid new : Captured) (j : Finding) → x.facts.checked_twice ≡ false → IsRead s n old
      → ((parts : _) (answers : List (Result (List ℕ) ℕ)) → Follows parts (heard parts [] answers) old → Follows parts (heard parts [] (answers ++ read_in a)) mid)
      → ((answers : List (Result (List ℕ) ℕ)) → Follows (plan n.call.nr n.call.args) answers mid
      → j ≡ (if f.checked_twice then finding_of (judged_by rules n (progress (plan n.call.nr n.call.args) answers)) false else Open))
      → (f.checked_twice ≡ false → new ≡ mid)
      → ◌≡◌ {A = SessionRecord} (record { place = x.place; worker = x.worker; id = x.id; nr = x.nr; facts = f; back = back; found = j; stages = t }) (told (judging_by rules) (with_step place a s)) × IsRead (with_step place a s) n new
  after_heard n old mid new j twice read hears judges kept =
      let before : checked_twice s.steps ≡ false = sym (ap (λ (r : SessionRecord). r.facts.checked_twice) p) ∙ twice in
      let q : joined s.steps a ≡ a ∷ s.steps = open_joined s.steps a is-open in
      let parts = plan n.call.nr n.call.args in
      let more : reads (joined s.steps a) ≡ reads s.steps ++ read_in a = ap reads q ∙ reads-more s.steps a before in
      let told-mid : Follows parts (heard parts [] (reads s.steps ++ read_in a)) mid = hears parts (reads s.steps) (read.1 before) in
      let follows : Follows parts (heard parts [] (reads (joined s.steps a))) mid = subst (λ xs. Follows parts (heard parts [] xs) mid) (sym more) told-mid in
      let due : f.checked_twice ≡ checked_twice (joined s.steps a) = ap (λ (g : Facts). g.checked_twice) facts-are in
      let j-is : j ≡ found_so_far (judging_by rules) n (joined s.steps a) =
      judges (heard parts [] (reads (joined s.steps a))) follows ∙ ap (λ b. if b then finding_of (judged_by rules n (progress parts (heard parts [] (reads (joined s.steps a))))) false else Open) due in
      (with-found j (j-is ∙ ap (λ m. found_so_far (judging_by rules) m (joined s.steps a)) (sym read.0)), (read.0, λ h. subst (λ c. Follows parts (heard parts [] (reads (joined s.steps a))) c) (sym (kept (due ∙ h))) follows))
