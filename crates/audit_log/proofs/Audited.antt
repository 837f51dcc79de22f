-- What is kept of the sessions tells what came of each, and gives their lines.
-- By induction on the events, with the number that was installed for the call of each session (`TellsNumbers`).
use Rattle.std.proofs.Common.{◌≡◌, ℕ, ◌+◌, List, [], ◌∷◌, ◌++◌, length, Option, Ok, refl, sym, ap, ap₂, ◌∙◌, append_assoc, append-nil, arith, cond}
use Rattle.std.specs.Prelude.{codes, count_by, map}
use Rattle.std.specs.List.{flat_map}
use Rattle.std.proofs.lemmas.Grind.{flat_map-append}
use Rattle.std.proofs.lemmas.List.{length-append, length-map, map-append}
use Rattle.std.proofs.lemmas.List.Recursion.{is_count_by}
use Rattle.hist_model.specs.ReportAudit.{Judging, audit, audit_by, audit_line, audit_line_by, audit_line_of, begins, begins_by, call_with_id, installed_at, session_at}
use Rattle.hist_model.specs.ReportJournal.{lines_of, title}
use Rattle.hist_model.specs.Report.{audits, audits_by}
use Rattle.hist_model.specs.declared.event.Actor.{Actor}
use Rattle.hist_model.specs.declared.event.Actor.TheVariants.{Worker}
use Rattle.hist_model.specs.declared.event.Event.{Event}
use Rattle.hist_model.specs.declared.event.What.{What}
use Rattle.hist_model.specs.declared.event.What.TheVariants.{Recv}
use Rattle.hist_model.specs.declared.report.Audit.{Audit}
use Rattle.sys_abi.specs.declared.wire.Notif.{Notif}
use Rattle.audit_log.specs.Begun.{Begun, told}
use Rattle.audit_log.specs.SessionStages.{stages_at}
use Rattle.audit_log.specs.declared.session.SessionRecord.{SessionRecord}
use Rattle.audit_log.proofs.SessionFound.{finding_told}
use Rattle.audit_log.specs.Sessions.{begun, begun_by}
use Rattle.audit_log.specs.Audited.{audited, session_line}
use Rattle.audit_log.specs.CallTable.{TellsCalls, TellsNumbers, number_in}
use Rattle.audit_log.specs.declared.kept_calls.CallTable.{CallTable}
use Rattle.audit_log.proofs.ReceivedCalls.{numbers_told}

audited-told : (J : Judging) (s : Begun) (number : Option ℕ) → audited number (told J s) ≡ audit_by J s.notif s.steps number
audited-told J s number = rw (finding_told J s) refl

-- of one event
audits-by : (J : Judging) (n : CallTable) (H K : List Event) (who : Actor) (a : What) → ((notif : Notif) → a ≡ Recv (Ok notif) → number_in n (length K) ≡ installed_at H K (call_with_id notif.id K))
    → map (λ (x : SessionRecord). audited (number_in n x.place) x) (map (told J) (begun_by H K who a)) ≡ audits_by J H K who a
audits-by J n H K (Worker w) (Recv (Ok notif)) q =
    let s : Begun = record { place = length K; worker = w; notif = notif; steps = session_at w (length K) H; stages = stages_at w (length K) H } in
    ap (λ (x : Audit). x ∷ []) (audited-told J s (number_in n (length K)) ∙ ap (audit_by J notif (session_at w (length K) H)) (q notif refl))
audits-by J n H K _ _ q = refl

lines-by : (J : Judging) (n : CallTable) (H K : List Event) (who : Actor) (a : What) → ((notif : Notif) → a ≡ Recv (Ok notif) → number_in n (length K) ≡ installed_at H K (call_with_id notif.id K))
    → flat_map (session_line J n) (map (told J) (begun_by H K who a)) ≡ audit_line_by J H K who a
lines-by J n H K (Worker w) (Recv (Ok notif)) q =
    let s : Begun = record { place = length K; worker = w; notif = notif; steps = session_at w (length K) H; stages = stages_at w (length K) H } in
    append-nil (session_line J n (told J s))
    ∙ ap (audit_line_of J (length K) w notif) (audited-told J s (number_in n (length K)) ∙ ap (audit_by J notif (session_at w (length K) H)) (q notif refl))
lines-by J n H K _ _ q = refl

audits-from : (J : Judging) (n : CallTable) (H later K : List Event) → TellsNumbers H n → H ≡ later ++ K
    → map (λ (x : SessionRecord). audited (number_in n x.place) x) (map (told J) (begun H K)) ≡ audits J H K
unfolding audits begun
audits-from J n H later [] t h = refl
audits-from J n H later (e ∷ K) t h =
    let q : H ≡ (later ++ e ∷ []) ++ K = h ∙ sym (append_assoc later (e ∷ []) K) in
    let f : SessionRecord → Audit = (λ (x : SessionRecord). audited (number_in n x.place) x) in
    ap (map f) (map-append (told J) (begun H K) (begun_by H K e.who e.what))
    ∙ map-append f (map (told J) (begun H K)) (map (told J) (begun_by H K e.who e.what))
    ∙ ap (λ xs. xs ++ map f (map (told J) (begun_by H K e.who e.what))) (audits-from J n H (later ++ e ∷ []) K t q)
    ∙ ap (λ xs. audits J H K ++ xs) (audits-by J n H K e.who e.what (λ notif. t later K e notif h))

lines-from : (J : Judging) (n : CallTable) (H later K : List Event) → TellsNumbers H n → H ≡ later ++ K
    → flat_map (session_line J n) (map (told J) (begun H K)) ≡ lines_of (audit_line J H) K
unfolding lines_of begun
lines-from J n H later [] t h = refl
lines-from J n H later (e ∷ K) t h =
    let q : H ≡ (later ++ e ∷ []) ++ K = h ∙ sym (append_assoc later (e ∷ []) K) in
    let f : SessionRecord → List ℕ = session_line J n in
    ap (flat_map f) (map-append (told J) (begun H K) (begun_by H K e.who e.what))
    ∙ flat_map-append f (map (told J) (begun H K)) (map (told J) (begun_by H K e.who e.what))
    ∙ ap (λ xs. xs ++ flat_map f (map (told J) (begun_by H K e.who e.what))) (lines-from J n H (later ++ e ∷ []) K t q)
    ∙ ap (λ xs. lines_of (audit_line J H) K ++ xs) (lines-by J n H K e.who e.what (λ notif. t later K e notif h))

pub audits_told : (J : Judging) (n : CallTable) (H : List Event) (rows : List SessionRecord) → TellsCalls H n → rows ≡ map (told J) (begun H H)
    → map (λ (x : SessionRecord). audited (number_in n x.place) x) rows ≡ audits J H H
audits_told J n H rows t r = ap (map (λ (x : SessionRecord). audited (number_in n x.place) x)) r ∙ audits-from J n H [] H (numbers_told n H t) refl

audit_told : (J : Judging) (n : CallTable) (H : List Event) (rows : List SessionRecord) → TellsNumbers H n → rows ≡ map (told J) (begun H H)
    → flat_map (session_line J n) rows ≡ lines_of (audit_line J H) H
audit_told J n H rows t r = ap (flat_map (session_line J n)) r ∙ lines-from J n H [] H t refl

-- as many sessions as events begin one
begun-more : (H : List Event) (e : Event) (K : List Event) → length (begun H (e ∷ K)) ≡ cond (begins e) (1 + length (begun H K)) (length (begun H K))
unfolding begun
begun-more H e K = by e.who e.what
  where
    by : (who : Actor) (a : What) → length (begun H K ++ begun_by H K who a) ≡ cond (begins_by who a) (1 + length (begun H K)) (length (begun H K))
    by (Worker w) (Recv (Ok notif)) = let s = length-append (begun H K) (begun_by H K (Worker w) (Recv (Ok notif))) in omega (arith, s)
    by _ _ = ap length (append-nil (begun H K))

none-begun : (H : List Event) → begun H [] ≡ []
unfolding begun
none-begun H = refl

begun-count : (H K : List Event) → length (begun H K) ≡ count_by begins K
begun-count H K = is_count_by (λ K. length (begun H K)) begins (ap length (none-begun H)) (begun-more H) K

-- the title and the lines are the audit
pub audit_whole : (J : Judging) (n : CallTable) (H : List Event) (slice rows : List SessionRecord) → slice ≡ rows → TellsCalls H n → rows ≡ map (told J) (begun H H)
    → title (codes "audit") (length slice) ++ flat_map (session_line J n) slice ≡ audit J H
audit_whole J n H slice rows s t r =
    rw s (ap₂ (λ count text. title (codes "audit") count ++ text) (ap length r ∙ length-map (begun H H) (told J) ∙ begun-count H H) (audit_told J n H rows (numbers_told n H t) r))
