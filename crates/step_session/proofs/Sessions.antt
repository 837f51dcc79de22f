-- What a session has still to say, from one call to the next.
-- By the laws of appended lists, and since the history that a container has is passed on from call to call.
use Rattle.std.proofs.Common.{◌≡◌, ℕ, ◌+◌, ◌<◌, ◌≤◌, Bool, true, false, List, [], ◌∷◌, ◌++◌, length, take, drop, refl, sym, ap, subst, ◌∙◌, arith, append_assoc, append-nil, length-append}
use Rattle.std.specs.Prelude.{Result, Ok, Err, Vec, OnErr, OnOk}
use Rattle.std.specs.declared.alloc.Global.{Global}
use Rattle.std.proofs.lemmas.List.{take-append-drop}
use Rattle.audit_log.specs.Written.{Wrote}
use Rattle.audit_log.specs.declared.error.ReportError.{ReportError}
use Rattle.hist_model.specs.declared.event.Event.{Event}
use Rattle.step_session.specs.declared.origin.Origin.{Origin}
use Rattle.hist_model.specs.declared.script.Script.{Script}
use Rattle.io_edge.specs.SinkState.{SinkState}
use Rattle.step_session.specs.Judged.{IsJudged, IsServed, IsStanding}
use Rattle.step_session.specs.Stands.{IsInOrder, StateStands}
use Rattle.step_session.specs.declared.judged.JudgedContainer.{JudgedContainer}
use Rattle.step_session.specs.declared.container.State.{State}
use Rattle.step_session.specs.declared.container.State.TheVariants.{Open, Closed}
use Rattle.step_session.specs.Texts.{faulty_text}
use Rattle.step_requests.specs.Readings.{reads}
use Rattle.step_requests.specs.declared.fault.LineFault.{LineFault}
use Rattle.step_requests.specs.declared.request.StepRequest.{StepRequest}
use Rattle.sys_abi.specs.declared.memory.NoMemory.{NoMemory}
use Rattle.step_session.specs.Lines.{answers, has_end, line_answer, long_text, longest, read_answer, request_lines}
use Rattle.step_session.specs.Owing.{Adds, Continues, Ends, GoesOn, IsFresh, IsLineAnswered, Stops, TookFront, TookOwed}
use Rattle.step_session.specs.Owing.{before_lines, behind_first, owed, rest_answers}
use Rattle.step_session.specs.declared.begun.Begun.{Begun}
use Rattle.step_session.specs.declared.begun.Begun.TheVariants.{Line, TooLong}
use Rattle.step_session.specs.declared.session.Session.{Session}
use Rattle.step_session.proofs.Splits.{answers_front, answers_more, answers_none, before_before, before_ended, behind_before, line_begun, line_ended, long_answer, no_lines, short_answer}

-- ---- the line that is begun

-- it goes on, and is kept
pub goes_on_kept : (old : Begun) (kept more : Vec ℕ Global) (bytes : List ℕ) → old ≡ Line kept → has_end bytes ≡ false → more.items ≡ kept.items ++ bytes
    → GoesOn old bytes (Line more)
goes_on_kept old kept more bytes begun open-still is P S K rest =
    ap (λ b. rest_answers P S K b (bytes ++ rest)) begun
    ∙ ap (λ lines. answers P S K (before_lines kept.items lines)) (line_begun bytes rest open-still)
    ∙ ap (answers P S K) (before_before kept.items bytes (request_lines rest))
    ∙ ap (λ front. answers P S K (before_lines front (request_lines rest))) (sym is)

-- it goes on, and becomes too long
pub goes_on_long : (old : Begun) (kept : Vec ℕ Global) (bytes : List ℕ) → old ≡ Line kept → has_end bytes ≡ false → longest < length kept.items + length bytes
    → GoesOn old bytes TooLong
goes_on_long old kept bytes begun open-still long P S K rest =
    let e = length-append kept.items bytes in
    ap (λ b. rest_answers P S K b (bytes ++ rest)) begun
    ∙ ap (λ lines. answers P S K (before_lines kept.items lines)) (line_begun bytes rest open-still)
    ∙ ap (answers P S K) (before_before kept.items bytes (request_lines rest))
    ∙ answers_front P S K (kept.items ++ bytes) (request_lines rest) (omega arith)

-- it goes on, and was too long
pub goes_on_still : (old : Begun) (bytes : List ℕ) → old ≡ TooLong → has_end bytes ≡ false → GoesOn old bytes old
goes_on_still old bytes begun open-still P S K rest =
    ap (λ b. rest_answers P S K b (bytes ++ rest)) begun
    ∙ ap (λ lines. long_text ++ answers P S K (behind_first lines)) (line_begun bytes rest open-still)
    ∙ ap (λ lines. long_text ++ answers P S K lines) (behind_before bytes (request_lines rest))
    ∙ ap (λ b. rest_answers P S K b rest) (sym begun)

-- where no line is begun, lines follow
pub fresh_rest : (b : Begun) (P : Origin) (S : Script) (K : List Event) (rest : List ℕ) → IsFresh b → rest_answers P S K b rest ≡ answers P S K (request_lines rest)
fresh_rest (Line kept) P S K rest fresh = ap (λ front. answers P S K (before_lines front (request_lines rest))) fresh
fresh_rest TooLong P S K rest fresh = absurd fresh

-- ---- containers

pub on_ok : (r : Result (Unit {0}) NoMemory) (A B : Type 0) → (A → B) → OnOk r A → OnOk r B
on_ok (Ok u) A B f a = f a
on_ok (Err e) A B f a = tt

pub answered_long : (P : Origin) (line : List ℕ) (c : JudgedContainer) (before after : List ℕ) → longest < length line → after ≡ before ++ long_text
    → IsLineAnswered P line c before c after
answered_long P line c before after long said S K stands =
    let is = long_answer P S K line long in
    (subst (λ a. IsJudged P S a.0 c) (sym is) stands, said ∙ ap (λ a. before ++ a.1) (sym is))

pub answered_read : (P : Origin) (line : List ℕ) (r : StepRequest) (old new : JudgedContainer) (before after : List ℕ) → length line ≤ longest → reads line ≡ Ok r
    → IsServed P r old before after new → IsLineAnswered P line old before new after
answered_read P line r old new before after short reading answered S K stands =
    let is = short_answer P S K line short ∙ ap (read_answer P S K) reading in
    let one = answered S K stands in
    (subst (λ a. IsJudged P S a.0 new) (sym is) one.0, one.1 ∙ ap (λ a. before ++ a.1) (sym is))

pub answered_faulty : (P : Origin) (line : List ℕ) (why : LineFault) (c : JudgedContainer) (before after : List ℕ) → length line ≤ longest → reads line ≡ Err why
    → after ≡ before ++ faulty_text why → IsLineAnswered P line c before c after
answered_faulty P line why c before after short reading said S K stands =
    let is = short_answer P S K line short ∙ ap (read_answer P S K) reading in
    (subst (λ a. IsJudged P S a.0 c) (sym is) stands, said ∙ ap (λ a. before ++ a.1) (sym is))

in-order : (S : Script) (K : List Event) (s : State) → StateStands S K s → IsInOrder s
in-order S K (Open k) stands = stands.kernel
in-order S K (Closed h) stands = tt

pub standing_in_order : (P : Origin) (c : JudgedContainer) → IsStanding P c → IsInOrder c.container.state
standing_in_order P c (S, (K, judged)) = in-order S K c.container.state judged.stands

pub still_standing : (P : Origin) (line : List ℕ) (old new : JudgedContainer) (before after : List ℕ) → IsStanding P old → IsLineAnswered P line old before new after → IsStanding P new
still_standing P line old new before after (S, (K, stands)) answered = (S, ((line_answer P S K line).0, (answered S K stands).0))

-- ---- sinks

pub adds_none : (s : SinkState) → Adds s s
adds_none s = record { tells = refl; faults = omega arith; taken = λ t. ([], sym (append-nil s.taken)) }

pub adds_then : (a b c : SinkState) → Adds a b → Adds b c → Adds a c
adds_then a b c first second = record {
  tells = second.tells ∙ first.tells;
  faults = omega (arith, first.faults, second.faults);
  taken = λ t.
      let x = first.taken t in
      let y = second.taken (first.tells ∙ t) in
      (x.0 ++ y.0, y.1 ∙ ap (λ bytes. bytes ++ y.0) x.1 ∙ append_assoc a.taken x.0 y.0);
}

pub wrote_adds : (old new : SinkState) (text : List ℕ) (r : Result (Unit {0}) ReportError) → Wrote old text r new → Adds old new
wrote_adds old new text (Ok u) wrote = record { tells = wrote.tells; faults = wrote.faults; taken = λ t. (text, wrote.whole t) }
wrote_adds old new text (Err e) wrote = record { tells = wrote.tells; faults = wrote.faults; taken = λ t. let p = wrote.part t in (take p.0 text, p.2) }

-- ---- sessions that go on

pub continues_same : (P : Origin) (s : Session) (out : SinkState) (bytes : List ℕ) → Continues P s out bytes s out bytes
continues_same P s out bytes = record {
  adds = adds_none out;
  says = λ S K stands. record { history = K; stands = stands; same = λ rest t. refl };
}

pub continues_then : (P : Origin) (a b c : Session) (x y z : SinkState) (xs ys zs : List ℕ)
    → Continues P a x xs b y ys → Continues P b y ys c z zs → Continues P a x xs c z zs
continues_then P a b c x y z xs ys zs first second = record {
  adds = adds_then x y z first.adds second.adds;
  says = λ S K stands.
      let one = first.says S K stands in
      let two = second.says S one.history one.stands in
      record { history = two.history; stands = two.stands; same = λ rest t. one.same rest t ∙ two.same rest (first.adds.tells ∙ t) };
}

-- bytes that stand behind are left
pub continues_before : (P : Origin) (a b : Session) (x y : SinkState) (bytes more : List ℕ)
    → Continues P a x bytes b y [] → Continues P a x (bytes ++ more) b y more
continues_before P a b x y bytes more goes = record {
  adds = goes.adds;
  says = λ S K stands.
      let one = goes.says S K stands in
      record {
        history = one.history;
        stands = one.stands;
        same = λ rest t. ap (λ bs. x.taken ++ owed P S K a bs) (append_assoc bytes more rest) ∙ one.same (more ++ rest) t;
      };
}

-- answers are written
pub continues_written : (P : Origin) (a b : Session) (x y : SinkState) (bytes : List ℕ) (u : Unit {0})
    → Wrote x a.answers (Ok u) y → b ≡ record a { answers = [] } → Continues P a x bytes b y bytes
continues_written P a b x y bytes u wrote is = record {
  adds = wrote_adds x y a.answers (Ok u) wrote;
  says = λ S K stands. record {
    history = K;
    stands = subst (λ s. IsJudged P S K s.container) (sym is) stands;
    same = λ rest t.
        let R = rest_answers P S K a.begun (bytes ++ rest) in
        sym (append_assoc x.taken a.answers R)
        ∙ ap (λ taken. taken ++ R) (sym (wrote.whole t))
        ∙ ap (λ s. y.taken ++ owed P S K s (bytes ++ rest)) (sym is);
  };
}

-- ---- what the sink took

pub owed_then : (P : Origin) (a b : Session) (x y z : SinkState) (xs ys : List ℕ) → Continues P a x xs b y ys → TookOwed P b ys y z → TookOwed P a xs x z
owed_then P a b x y z xs ys goes took S K stands t =
    let one = goes.says S K stands in
    took S one.history one.stands (goes.adds.tells ∙ t)
    ∙ ap (λ bs. y.taken ++ owed P S one.history b bs) (sym (append-nil ys))
    ∙ sym (one.same [] t)
    ∙ ap (λ bs. x.taken ++ owed P S K a bs) (append-nil xs)

pub front_here : (P : Origin) (s : Session) (bytes : List ℕ) (out : SinkState) → TookFront P s bytes out out
front_here P s bytes out S K stands t = (owed P S K s bytes, refl)

pub front_then : (P : Origin) (a b : Session) (x y z : SinkState) (xs ys : List ℕ) → Continues P a x xs b y ys → TookFront P b ys y z → TookFront P a xs x z
front_then P a b x y z xs ys goes took S K stands t =
    let one = goes.says S K stands in
    let part = took S one.history one.stands (goes.adds.tells ∙ t) in
    let same = ap (λ bs. x.taken ++ owed P S K a bs) (sym (append-nil xs)) ∙ one.same [] t ∙ ap (λ bs. y.taken ++ owed P S one.history b bs) (append-nil ys) in
    (part.0, same ∙ part.1)

-- the answers weren't all written
pub front_written : (P : Origin) (s : Session) (x y : SinkState) (bytes : List ℕ) (e : ReportError) → Wrote x s.answers (Err e) y → TookFront P s bytes x y
front_written P s x y bytes e wrote S K stands t =
    let p = wrote.part t in
    let R = rest_answers P S K s.begun bytes in
    let cut = ap (λ text. x.taken ++ (text ++ R)) (sym (take-append-drop p.0 s.answers)) in (
      drop p.0 s.answers ++ R,
      cut
          ∙ ap (λ text. x.taken ++ text) (append_assoc (take p.0 s.answers) (drop p.0 s.answers) R)
          ∙ sym (append_assoc x.taken (take p.0 s.answers) (drop p.0 s.answers ++ R))
          ∙ ap (λ taken. taken ++ (drop p.0 s.answers ++ R)) (sym p.2),
    )

pub stops_here : (P : Origin) (s : Session) (out : SinkState) (bytes : List ℕ) → Stops P s out bytes out
stops_here P s out bytes = record { adds = adds_none out; front = λ rest. front_here P s (bytes ++ rest) out }

pub stops_written : (P : Origin) (s : Session) (x y : SinkState) (bytes : List ℕ) (e : ReportError) → Wrote x s.answers (Err e) y → Stops P s x bytes y
stops_written P s x y bytes e wrote = record {
  adds = wrote_adds x y s.answers (Err e) wrote;
  front = λ rest. front_written P s x y (bytes ++ rest) e wrote;
}

-- with bytes behind on both sides
continues-longer : (P : Origin) (a b : Session) (x y : SinkState) (xs ys more : List ℕ) → Continues P a x xs b y ys → Continues P a x (xs ++ more) b y (ys ++ more)
continues-longer P a b x y xs ys more goes = record {
  adds = goes.adds;
  says = λ S K stands.
      let one = goes.says S K stands in
      record {
        history = one.history;
        stands = one.stands;
        same = λ rest t.
            ap (λ bs. x.taken ++ owed P S K a bs) (append_assoc xs more rest)
            ∙ one.same (more ++ rest) t
            ∙ ap (λ bs. y.taken ++ owed P S one.history b bs) (sym (append_assoc ys more rest));
      };
}

pub stops_then : (P : Origin) (a b : Session) (x y z : SinkState) (xs ys : List ℕ) → Continues P a x xs b y ys → Stops P b y ys z → Stops P a x xs z
stops_then P a b x y z xs ys goes stop = record {
  adds = adds_then x y z goes.adds stop.adds;
  front = λ rest. front_then P a b x y z (xs ++ rest) (ys ++ rest) (continues-longer P a b x y xs ys rest goes) (stop.front rest);
}

-- so does one of fewer bytes
pub stops_longer : (P : Origin) (s : Session) (x y : SinkState) (bytes more : List ℕ) → Stops P s x bytes y → Stops P s x (bytes ++ more) y
stops_longer P s x y bytes more stop = record {
  adds = stop.adds;
  front = λ rest. subst (λ bs. TookFront P s bs x y) (sym (append_assoc bytes more rest)) (stop.front (more ++ rest));
}

-- ---- a line that ends

pub continues_line : (P : Origin) (a b : Session) (kept : Vec ℕ Global) (bytes : List ℕ) (out : SinkState) → has_end bytes ≡ false → a.begun ≡ Line kept → IsFresh b.begun
    → IsLineAnswered P (kept.items ++ bytes) a.container a.answers b.container b.answers → Continues P a out (bytes ++ 10 ∷ []) b out []
continues_line P a b kept bytes out open-still begun fresh answered = record {
  adds = adds_none out;
  says = λ S K stands.
      let line = kept.items ++ bytes in
      let one = answered S K stands in
      record {
        history = (line_answer P S K line).0;
        stands = one.0;
        same = λ rest t. ap (λ text. out.taken ++ text) (same S K one.1 rest);
      };
}
  where
    same : (S : Script) (K : List Event) → b.answers ≡ a.answers ++ (line_answer P S K (kept.items ++ bytes)).1 → (rest : List ℕ)
        → owed P S K a ((bytes ++ 10 ∷ []) ++ rest) ≡ owed P S (line_answer P S K (kept.items ++ bytes)).0 b rest
    same S K said rest =
        let line = kept.items ++ bytes in
        let done = line_answer P S K line in
        let lines = request_lines rest in
        ap (λ front. a.answers ++ rest_answers P S K front ((bytes ++ 10 ∷ []) ++ rest)) begun
        ∙ ap (λ bs. a.answers ++ answers P S K (before_lines kept.items (request_lines bs))) (append_assoc bytes (10 ∷ []) rest)
        ∙ ap (λ ls. a.answers ++ answers P S K (before_lines kept.items ls)) (line_ended bytes rest open-still)
        ∙ ap (λ ls. a.answers ++ answers P S K ls) (before_ended kept.items bytes lines)
        ∙ ap (λ text. a.answers ++ text) (answers_more P S K line lines)
        ∙ sym (append_assoc a.answers done.1 (answers P S done.0 lines))
        ∙ ap (λ text. text ++ answers P S done.0 lines) (sym said)
        ∙ ap (λ text. b.answers ++ text) (sym (fresh_rest b.begun P S done.0 rest fresh))

pub continues_long : (P : Origin) (a b : Session) (bytes : List ℕ) (out : SinkState) → has_end bytes ≡ false → a.begun ≡ TooLong → IsFresh b.begun
    → b.container ≡ a.container → b.answers ≡ a.answers ++ long_text → Continues P a out (bytes ++ 10 ∷ []) b out []
continues_long P a b bytes out open-still begun fresh same-container said = record {
  adds = adds_none out;
  says = λ S K stands. record {
    history = K;
    stands = subst (λ c. IsJudged P S K c) (sym same-container) stands;
    same = λ rest t. ap (λ text. out.taken ++ text) (same S K rest);
  };
}
  where
    same : (S : Script) (K : List Event) (rest : List ℕ) → owed P S K a ((bytes ++ 10 ∷ []) ++ rest) ≡ owed P S K b rest
    same S K rest =
        let lines = request_lines rest in
        ap (λ front. a.answers ++ rest_answers P S K front ((bytes ++ 10 ∷ []) ++ rest)) begun
        ∙ ap (λ bs. a.answers ++ (long_text ++ answers P S K (behind_first (request_lines bs)))) (append_assoc bytes (10 ∷ []) rest)
        ∙ ap (λ ls. a.answers ++ (long_text ++ answers P S K (behind_first ls))) (line_ended bytes rest open-still)
        ∙ sym (append_assoc a.answers long_text (answers P S K lines))
        ∙ ap (λ text. text ++ answers P S K lines) (sym said)
        ∙ ap (λ text. b.answers ++ text) (sym (fresh_rest b.begun P S K rest fresh))

-- the line that is begun goes on
pub continues_begun : (P : Origin) (a b : Session) (bytes : List ℕ) (out : SinkState) → GoesOn a.begun bytes b.begun → b.container ≡ a.container → b.answers ≡ a.answers
    → Continues P a out bytes b out []
continues_begun P a b bytes out goes same-container said = record {
  adds = adds_none out;
  says = λ S K stands. record {
    history = K;
    stands = subst (λ c. IsJudged P S K c) (sym same-container) stands;
    same = λ rest t.
        ap (λ text. out.taken ++ (a.answers ++ text)) (goes P S K rest) ∙ ap (λ text. out.taken ++ (text ++ rest_answers P S K b.begun rest)) (sym said);
  };
}

-- bytes behind the end of a line are left
pub continues_cut : (P : Origin) (a b : Session) (x y : SinkState) (bytes line behind : List ℕ) → bytes ≡ line ++ 10 ∷ behind
    → Continues P a x (line ++ 10 ∷ []) b y [] → Continues P a x bytes b y behind
continues_cut P a b x y bytes line behind cut goes =
    subst (λ bs. Continues P a x bs b y behind) (append_assoc line (10 ∷ []) behind ∙ sym cut) (continues_before P a b x y (line ++ 10 ∷ []) behind goes)

pub stops_cut : (P : Origin) (s : Session) (x y : SinkState) (bytes line behind : List ℕ) → bytes ≡ line ++ 10 ∷ behind → Stops P s x (line ++ 10 ∷ []) y → Stops P s x bytes y
stops_cut P s x y bytes line behind cut stop =
    subst (λ bs. Stops P s x bs y) (append_assoc line (10 ∷ []) behind ∙ sym cut) (stops_longer P s x y (line ++ 10 ∷ []) behind stop)

-- ---- the end

pub is_fresh : (b : Begun) (kept : Vec ℕ Global) → b ≡ Line kept → kept.items ≡ [] → IsFresh b
is_fresh b kept is none = subst IsFresh (sym is) none

pub ends_fresh : (P : Origin) (s : Session) → IsFresh s.begun → Ends P s s
ends_fresh P s fresh S K stands =
    ap (λ text. s.answers ++ text) (fresh_rest s.begun P S K [] fresh ∙ ap (answers P S K) no_lines ∙ answers_none P S K) ∙ append-nil s.answers

-- where a line is begun, it is the same whether its end is there or not
last-line : (b : Begun) (P : Origin) (S : Script) (K : List Event) → (IsFresh b → ⊥) → rest_answers P S K b [] ≡ rest_answers P S K b (10 ∷ [])
last-line (Line kept) P S K begun = by kept.items (λ none. begun none)
  where
    by : (front : List ℕ) → (front ≡ [] → ⊥) → answers P S K (before_lines front (request_lines [])) ≡ answers P S K (before_lines front (request_lines (10 ∷ [])))
    by [] some = absurd (some refl)
    by (b ∷ front) some =
        ap (λ lines. answers P S K (before_lines (b ∷ front) lines)) no_lines
        ∙ ap (λ rest. answers P S K ((b ∷ rest) ∷ [])) (sym (append-nil front))
        ∙ ap (λ lines. answers P S K (before_lines (b ∷ front) lines)) (sym (line_ended [] [] refl ∙ ap (λ lines. [] ∷ lines) no_lines))
last-line TooLong P S K begun =
    ap (λ lines. long_text ++ answers P S K (behind_first lines)) no_lines
    ∙ ap (λ lines. long_text ++ answers P S K (behind_first lines)) (sym (line_ended [] [] refl ∙ ap (λ lines. [] ∷ lines) no_lines))

told : SinkState
told = record { tells = true; taken = []; faults = 0; pending = false }

pub ends_line : (P : Origin) (a b : Session) → (IsFresh a.begun → ⊥) → IsFresh b.begun → ((out : SinkState) → Continues P a out ([] ++ 10 ∷ []) b out []) → Ends P a b
unfolding told
ends_line P a b begun fresh goes S K stands =
    let one = (goes told).says S K stands in
    ap (λ text. a.answers ++ text) (last-line a.begun P S K begun)
    ∙ one.same [] refl
    ∙ ends_fresh P b fresh S one.history one.stands

pub took_ended : (P : Origin) (a b : Session) (x y : SinkState) (r : Result (Unit {0}) ReportError) → Ends P a b → Wrote x b.answers r y → OnErr r (TookFront P a [] x y)
took_ended P a b x y (Ok u) ends wrote = tt
took_ended P a b x y (Err e) ends wrote = λ S K stands t.
    let p = wrote.part t in (
      drop p.0 b.answers,
      ap (λ text. x.taken ++ text) (ends S K stands ∙ sym (take-append-drop p.0 b.answers))
          ∙ sym (append_assoc x.taken (take p.0 b.answers) (drop p.0 b.answers))
          ∙ ap (λ taken. taken ++ drop p.0 b.answers) (sym p.2),
    )

pub on_err : {E : Type 0} (r : Result (Unit {0}) E) (A : Type 0) → A → OnErr r A
on_err (Ok u) A a = tt
on_err (Err e) A a = a

pub on_ok_both : (r : Result (Unit {0}) NoMemory) (A B C : Type 0) → (A → B → C) → OnOk r A → OnOk r B → OnOk r C
on_ok_both (Ok u) A B C f a b = f a b
on_ok_both (Err e) A B C f a b = tt

pub not_both : (b : Bool) → b ≡ true → b ≡ false → ⊥
not_both true is not = cc
not_both false is not = cc
