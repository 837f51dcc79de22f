-- What the sink took of the answers to the requests of a file.
-- By the lemmas of `Sessions`, by what a read gives, and by the laws of appended lists.
use Rattle.std.proofs.Common.{◌≡◌, ℕ, ◌<◌, ◌≤◌, true, false, List, [], ◌++◌, length, take, drop, Option, Some, None, refl, sym, ap, subst, ◌∙◌, arith, append_assoc, append-nil, length-append, take_all}
use Rattle.std.specs.Prelude.{Result, Ok, Err, MatchOption, IsErrOf, IsSomeAnd, IsSome, OnErr, OnOk, is_err}
use Rattle.std.proofs.Math.Seq.{take-append_seam}
use Rattle.std.proofs.lemmas.List.{append_cancel_left, length-take-le, take-append-drop, take-append-le}
use Rattle.hist_model.specs.Legal.{started}
use Rattle.step_session.specs.declared.origin.Origin.{Origin}
use Rattle.hist_model.specs.declared.script.Script.{Script}
use Rattle.audit_log.specs.Written.{Wrote}
use Rattle.audit_log.specs.declared.error.ReportError.{ReportError}
use Rattle.audit_log.specs.declared.error.ReportError.TheVariants as report
use Rattle.io_edge.proofs.Laws.{same_then}
use Rattle.io_edge.specs.Faults.{Rose}
use Rattle.io_edge.specs.FileState.{FileState, Opens, Reads, SameFiles}
use Rattle.io_edge.specs.SinkState.{AddsPrefix, SinkState}
use Rattle.io_edge.specs.declared.fault.Failed.{Failed}
use Rattle.step_session.specs.Judged.{IsStanding}
use Rattle.step_session.specs.Lines.{all_answers}
use Rattle.step_session.specs.Owing.{Adds, Begins, Continues, IsNew, Stops, TookFront, TookOwed, owed, rest_answers}
use Rattle.step_session.specs.Serving.{HasCause, PieceCame, PieceEnds, RestEnds, TookAll, TookPart, fault_of}
use Rattle.step_session.specs.declared.fault.StepFault.{StepFault}
use Rattle.step_session.specs.declared.fault.StepFault.TheVariants as step
use Rattle.step_session.specs.declared.serving.Next.{Next}
use Rattle.step_session.specs.declared.serving.Next.TheVariants.{Ended, Read}
use Rattle.step_session.specs.declared.session.Session.{Session}
use Rattle.step_session.proofs.Sessions.{adds_none, adds_then, continues_before, continues_same, continues_then, continues_written, fresh_rest, front_here}
use Rattle.step_session.proofs.Sessions.{front_then, front_written, owed_then, wrote_adds}

-- ---- pieces

-- what was left of the file is the piece that was read and what is left now
piece-read : (left buffer filled piece after : List ℕ) (n : ℕ) → n ≤ length left → filled ≡ take n left ++ drop n buffer → piece ≡ take n filled → after ≡ drop n left
    → left ≡ piece ++ after
piece-read left buffer filled piece after n enough fills is next =
    let long = length-take-le n left enough in
    let fits : n ≤ length (take n left) = omega arith in
    let whole : take n (take n left) ≡ take n left = take_all n (take n left) (omega arith) in
    let front : piece ≡ take n left = is ∙ ap (take n) fills ∙ take-append-le n (take n left) (drop n buffer) fits ∙ whole in
    sym (ap (λ xs. xs ++ after) front ∙ ap (λ xs. take n left ++ xs) next ∙ take-append-drop n left)

-- ---- a session that is new

owed-new : (P : Origin) (S : Script) (s : Session) (bytes : List ℕ) → IsNew P S s → owed P S (started S) s bytes ≡ all_answers P S bytes
owed-new P S s bytes new =
    ap (λ text. text ++ rest_answers P S (started S) s.begun bytes) new.answers ∙ fresh_rest s.begun P S (started S) bytes new.begun

-- all was taken
took-all : (P : Origin) (S : Script) (s : Session) (files : FileState) (name left : List ℕ) (old new : SinkState) → IsNew P S s
    → (files.tells ≡ true → files.bytes name ≡ Some left) → (files.tells ≡ true → TookOwed P s left old new) → TookAll P S files name old new
took-all P S s files name left old new fresh whole took told =
    subst (λ o. IsSomeAnd o (λ bytes. old.tells ≡ true → new.taken ≡ old.taken ++ all_answers P S bytes)) (sym (whole told))
    (λ t. took told S (started S) fresh.stands t ∙ ap (λ text. old.taken ++ text) (owed-new P S s left fresh))

-- a front of what was to be taken, at whose beginning the old bytes stand, is the old bytes and a prefix of the rest
prefix-of : (old all new : List ℕ) → Begins new old → Begins (old ++ all) new → AddsPrefix old all new
prefix-of old all new (added, is) (more, whole) =
    let same : all ≡ added ++ more = append_cancel_left old all (added ++ more) (whole ∙ ap (λ xs. xs ++ more) is ∙ append_assoc old added more) in
    let long = length-append added more in
    let size : length all ≡ length (added ++ more) = ap length same in (
      length added,
      omega arith,
      is ∙ ap (λ xs. old ++ xs) (sym (ap (take (length added)) same ∙ take-append_seam added more)),
    )

-- nothing was taken
pub took_nothing : (P : Origin) (S : Script) (files : FileState) (name : List ℕ) (old : SinkState) → TookPart P S files name old old
took_nothing P S files name old told t = by (files.bytes name)
  where
    by : (bytes : Option (List ℕ)) → MatchOption bytes (old.taken ≡ old.taken) (λ bs. AddsPrefix old.taken (all_answers P S bs) old.taken)
    by None = refl
    by (Some bs) = (0, omega arith, sym (append-nil old.taken))

-- a part was taken
took-part : (P : Origin) (S : Script) (s : Session) (files : FileState) (name left : List ℕ) (old new : SinkState) → IsNew P S s
    → (files.tells ≡ true → files.bytes name ≡ Some left) → Adds old new → (files.tells ≡ true → TookFront P s left old new) → TookPart P S files name old new
took-part P S s files name left old new fresh whole adds took told t =
    subst (λ o. MatchOption o (new.taken ≡ old.taken) (λ bytes. AddsPrefix old.taken (all_answers P S bytes) new.taken)) (sym (whole told))
    (prefix-of old.taken (all_answers P S left) new.taken (adds.taken t)
    (subst (λ text. Begins (old.taken ++ text) new.taken) (owed-new P S s left fresh) (took told S (started S) fresh.stands t)))

-- ---- a piece that was read

stops_piece : (P : Origin) (s : Session) (x y : SinkState) (left piece after : List ℕ) → left ≡ piece ++ after → Stops P s x piece y → TookFront P s left x y
stops_piece P s x y left piece after cut stop = subst (λ bs. TookFront P s bs x y) (sym cut) (stop.front after)

continues_piece : (P : Origin) (a b : Session) (x y : SinkState) (left piece after : List ℕ) → left ≡ piece ++ after → Continues P a x piece b y []
    → Continues P a x left b y after
continues_piece P a b x y left piece after cut goes = subst (λ bs. Continues P a x bs b y after) (sym cut) (continues_before P a b x y piece after goes)

pub standing_written : (P : Origin) (a b : Session) → b ≡ record a { answers = [] } → IsStanding P a.container → IsStanding P b.container
standing_written P a b is standing = subst (λ s. IsStanding P s.container) (sym is) standing

same_files : (f : FileState) → SameFiles f f
same_files f = record { tells = refl; bytes = refl; sound = refl; faults = omega arith }

report_cause : (e : ReportError) (files after : FileState) (old new : SinkState) → (IsErrOf {T = Unit {0}} (Err e) report.WriteFault → Rose old.faults new.faults) → HasCause (fault_of e) files after old new
report_cause report.WriteFault files after old new cause = cause refl
report_cause report.NoMemory files after old new cause = tt

rose_later : (a b c : ℕ) → a ≤ b → Rose b c → Rose a c
rose_later a b c le rose = λ below. omega (arith, le, rose below)

-- the answers couldn't be written
pub piece_unwritten : (P : Origin) (s t : Session) (f : FileState) (x y : SinkState) (e : ReportError) (r : Result Next StepFault) → r ≡ Err (fault_of e)
    → Wrote x s.answers (Err e) y → PieceEnds P s f x r t f y
piece_unwritten P s t f x y e r is wrote = subst (λ q. PieceEnds P s f x q t f y) (sym is) (record {
  same = same_files f;
  current = refl;
  adds = wrote_adds x y s.answers (Err e) wrote;
  came = (report_cause e f f x y wrote.cause, λ told. front_written P s x y f.left e wrote);
})

-- nothing could be read
pub piece_unread : (P : Origin) (s t : Session) (f g : FileState) (x y : SinkState) (buffer filled : List ℕ) (u : Unit {0}) (e : Failed)
    → Wrote x s.answers (Ok u) y → t ≡ record s { answers = [] } → Reads f buffer (Err e) filled g → PieceEnds P s f x (Err step.ReadFault) t g y
piece_unread P s t f g x y buffer filled u e wrote is read = record {
  same = read.same;
  current = read.current;
  adds = wrote_adds x y s.answers (Ok u) wrote;
  came = ((read.cause, λ sound. let bad = read.exact sound in cc), λ told. front_then P s t x y y f.left f.left (continues_written P s t x y f.left u wrote is) (front_here P t f.left y));
}

-- the file is at its end
pub piece_ended : (P : Origin) (s t v : Session) (f g : FileState) (x y z : SinkState) (buffer filled : List ℕ) (u : Unit {0}) (n : ℕ)
    → Wrote x s.answers (Ok u) y → t ≡ record s { answers = [] } → Reads {E = Failed} f buffer (Ok n) filled g → n ≡ 0 → 0 < length buffer
    → Adds y z → TookOwed P t [] y z → z.pending ≡ false → PieceEnds P s f x (Ok Ended) v g z
piece_ended P s t v f g x y z buffer filled u n wrote is read none room adds took flushed = record {
  same = read.same;
  current = read.current;
  adds = adds_then x y z (wrote_adds x y s.answers (Ok u) wrote) adds;
  came = (
    flushed,
    λ told.
        owed_then P s t x y z f.left f.left (continues_written P s t x y f.left u wrote is) (subst (λ bs. TookOwed P t bs y z) (sym (read.ends none room told)) took),
  );
}

-- it is, and the last answers couldn't be given
pub piece_unfinished : (P : Origin) (s t v : Session) (f g : FileState) (x y z : SinkState) (buffer filled : List ℕ) (u : Unit {0}) (n : ℕ) (e : ReportError) (r : Result Next StepFault)
    → r ≡ Err (fault_of e) → Wrote x s.answers (Ok u) y → t ≡ record s { answers = [] } → Reads {E = Failed} f buffer (Ok n) filled g → n ≡ 0 → 0 < length buffer
    → Adds y z → TookFront P t [] y z → (IsErrOf {T = Unit {0}} (Err e) report.WriteFault → Rose y.faults z.faults) → PieceEnds P s f x r v g z
piece_unfinished P s t v f g x y z buffer filled u n e r fails wrote is read none room adds took cause = subst (λ q. PieceEnds P s f x q v g z) (sym fails) (record {
  same = read.same;
  current = read.current;
  adds = adds_then x y z (wrote_adds x y s.answers (Ok u) wrote) adds;
  came = (
    report_cause e f g x z (λ is-write. rose_later x.faults y.faults z.faults wrote.faults (cause is-write)),
    λ told. front_then P s t x y z f.left f.left (continues_written P s t x y f.left u wrote is) (subst (λ bs. TookFront P t bs y z) (sym (read.ends none room told)) took),
  );
})

read_cut : (f g : FileState) (buffer filled piece : List ℕ) (n : ℕ) → Reads {E = Failed} f buffer (Ok n) filled g → piece ≡ take n filled → f.tells ≡ true → f.left ≡ piece ++ g.left
read_cut f g buffer filled piece n read front told = piece-read f.left buffer filled piece g.left n (read.enough told) (read.next told) front (read.left told)

-- the lines in it couldn't be answered
pub piece_untaken : (P : Origin) (s t v : Session) (f g : FileState) (x y z : SinkState) (buffer filled piece : List ℕ) (u : Unit {0}) (n : ℕ) (e : ReportError) (r : Result Next StepFault)
    → r ≡ Err (fault_of e) → Wrote x s.answers (Ok u) y → t ≡ record s { answers = [] } → Reads {E = Failed} f buffer (Ok n) filled g → piece ≡ take n filled
    → Stops P t y piece z → (IsErrOf {T = Unit {0}} (Err e) report.WriteFault → Rose y.faults z.faults) → PieceEnds P s f x r v g z
piece_untaken P s t v f g x y z buffer filled piece u n e r fails wrote is read front stop cause = subst (λ q. PieceEnds P s f x q v g z) (sym fails) (record {
  same = read.same;
  current = read.current;
  adds = adds_then x y z (wrote_adds x y s.answers (Ok u) wrote) stop.adds;
  came = (
    report_cause e f g x z (λ is-write. rose_later x.faults y.faults z.faults wrote.faults (cause is-write)),
    λ told. front_then P s t x y z f.left f.left (continues_written P s t x y f.left u wrote is)
        (stops_piece P t y z f.left piece g.left (read_cut f g buffer filled piece n read front told) stop),
  );
})

-- they were
pub piece_taken : (P : Origin) (s t v : Session) (f g : FileState) (x y z : SinkState) (buffer filled piece : List ℕ) (u : Unit {0}) (n : ℕ)
    → Wrote x s.answers (Ok u) y → t ≡ record s { answers = [] } → Reads {E = Failed} f buffer (Ok n) filled g → piece ≡ take n filled
    → Continues P t y piece v z [] → IsStanding P v.container → PieceEnds P s f x (Ok Read) v g z
piece_taken P s t v f g x y z buffer filled piece u n wrote is read front goes standing = record {
  same = read.same;
  current = read.current;
  adds = adds_then x y z (wrote_adds x y s.answers (Ok u) wrote) goes.adds;
  came = (
    standing,
    λ told.
        continues_then P s t v x y z f.left f.left g.left (continues_written P s t x y f.left u wrote is)
        (continues_piece P t v y z f.left piece g.left (read_cut f g buffer filled piece n read front told) goes),
  );
}

-- ---- what is left of a file

pub pieces_none : (P : Origin) (s : Session) (f : FileState) (x : SinkState) → IsStanding P s.container → PieceEnds P s f x (Ok Read) s f x
pieces_none P s f x standing = record { same = same_files f; current = refl; adds = adds_none x; came = (standing, λ told. continues_same P s x f.left) }

cause_later : (fault : StepFault) (f g h : FileState) (x y z : SinkState) → SameFiles f g → x.faults ≤ y.faults → HasCause fault g h y z → HasCause fault f h x z
cause_later step.ReadFault f g h x y z same le cause = (rose_later f.faults g.faults h.faults same.faults cause.0, λ sound. cause.1 (same.sound ∙ sound))
cause_later step.WriteFault f g h x y z same le cause = rose_later x.faults y.faults z.faults le cause
cause_later step.NoMemory f g h x y z same le cause = tt

came_then : (P : Origin) (s t v : Session) (f g h : FileState) (x y z : SinkState) (r : Result Next StepFault) → PieceEnds P s f x (Ok Read) t g y → PieceCame P t g y r v h z
    → PieceCame P s f x r v h z
came_then P s t v f g h x y z (Ok Read) first came =
    (came.0, λ told. continues_then P s t v x y z f.left g.left h.left (first.came.1 told) (came.1 (first.same.tells ∙ told)))
came_then P s t v f g h x y z (Ok Ended) first came = (came.0, λ told. owed_then P s t x y z f.left g.left (first.came.1 told) (came.1 (first.same.tells ∙ told)))
came_then P s t v f g h x y z (Err fault) first came = (
  cause_later fault f g h x y z first.same first.adds.faults came.0,
  λ told. front_then P s t x y z f.left g.left (first.came.1 told) (came.1 (first.same.tells ∙ told)),
)

pieces-then : (P : Origin) (s t v : Session) (f g h : FileState) (x y z : SinkState) (r : Result Next StepFault) → PieceEnds P s f x (Ok Read) t g y → PieceEnds P t g y r v h z
    → PieceEnds P s f x r v h z
pieces-then P s t v f g h x y z r first second = record {
  same = same_then f g h first.same second.same;
  current = second.current ∙ first.current;
  adds = adds_then x y z first.adds second.adds;
  came = came_then P s t v f g h x y z r first second.came;
}

-- more was read
pub pieces_more : (P : Origin) (s t v : Session) (f g h : FileState) (x y z : SinkState) (next : Next) → next ≡ Read → PieceEnds P s f x (Ok Read) t g y
    → PieceEnds P t g y (Ok next) v h z → PieceEnds P s f x (Ok Read) v h z
pieces_more P s t v f g h x y z next is first second = pieces-then P s t v f g h x y z (Ok Read) first (subst (λ n. PieceEnds P t g y (Ok n) v h z) is second)

-- there was no more
pub rest_ended : (P : Origin) (s t v : Session) (f g h : FileState) (x y z : SinkState) (next : Next) → next ≡ Ended → PieceEnds P s f x (Ok Read) t g y
    → PieceEnds P t g y (Ok next) v h z → RestEnds P s f x (Ok tt) h z
rest_ended P s t v f g h x y z next is first second =
    let ends = pieces-then P s t v f g h x y z (Ok Ended) first (subst (λ n. PieceEnds P t g y (Ok n) v h z) is second) in
    record { same = ends.same; adds = ends.adds; came = ends.came }

-- a piece failed
pub rest_failed : (P : Origin) (s t v : Session) (f g h : FileState) (x y z : SinkState) (fault : StepFault) (r : Result (Unit {0}) StepFault) → r ≡ Err fault
    → PieceEnds P s f x (Ok Read) t g y → PieceEnds P t g y (Err fault) v h z → RestEnds P s f x r h z
rest_failed P s t v f g h x y z fault r is first second =
    let ends = pieces-then P s t v f g h x y z (Err fault) first second in
    subst (λ q. RestEnds P s f x q h z) (sym is) (record { same = ends.same; adds = ends.adds; came = ends.came })

pub rest_unended : (P : Origin) (s t : Session) (f g : FileState) (x y : SinkState) → PieceEnds P s f x (Ok Read) t g y → RestEnds P s f x (Err step.NoMemory) g y
rest_unended P s t f g x y ends = record {
  same = ends.same;
  adds = ends.adds;
  came = (tt, λ told. front_then P s t x y y f.left g.left (ends.came.1 told) (front_here P t g.left y));
}

-- ---- a file

pub new_standing : (P : Origin) (S : Script) (s : Session) → IsNew P S s → IsStanding P s.container
new_standing P S s new = (S, (started S, new.stands))

opened-whole : (f g : FileState) (name : List ℕ) (opened : Result (Unit {0}) Failed) → is_err opened ≡ false → Opens f name opened g → f.tells ≡ true → f.bytes name ≡ Some g.left
opened-whole f g name (Ok u) good opens told = opens.whole told
opened-whole f g name (Err e) good opens told = cc

pub served_all : (P : Origin) (S : Script) (s : Session) (f g h : FileState) (x y : SinkState) (name : List ℕ) (opened : Result (Unit {0}) Failed) → is_err opened ≡ false
    → Opens f name opened g → IsNew P S s → (r : Result (Unit {0}) StepFault) → RestEnds P s g x r h y → OnOk r (TookAll P S f name x y)
served_all P S s f g h x y name opened good opens new (Ok u) ends =
    took-all P S s f name g.left x y new (opened-whole f g name opened good opens) (λ told. ends.came.1 (opens.same.tells ∙ told))
served_all P S s f g h x y name opened good opens new (Err e) ends = tt

pub served_part : (P : Origin) (S : Script) (s : Session) (f g h : FileState) (x y : SinkState) (name : List ℕ) (opened : Result (Unit {0}) Failed) → is_err opened ≡ false
    → Opens f name opened g → IsNew P S s → (r : Result (Unit {0}) StepFault) → RestEnds P s g x r h y → OnErr r (TookPart P S f name x y)
served_part P S s f g h x y name opened good opens new (Ok u) ends = tt
served_part P S s f g h x y name opened good opens new (Err e) ends =
    took-part P S s f name g.left x y new (opened-whole f g name opened good opens) ends.adds (λ told. ends.came.1 (opens.same.tells ∙ told))

pub opened_current : (f g : FileState) (name : List ℕ) (opened : Result (Unit {0}) Failed) → is_err opened ≡ false → Opens f name opened g → IsSome g.current
opened_current f g name (Ok u) good opens = opens.opened
opened_current f g name (Err e) good opens = cc

pub served_flushed : (P : Origin) (s : Session) (g h : FileState) (x y : SinkState) (r : Result (Unit {0}) StepFault) → RestEnds P s g x r h y → OnOk r (y.pending ≡ false)
served_flushed P s g h x y (Ok u) ends = ends.came.0
served_flushed P s g h x y (Err e) ends = tt
