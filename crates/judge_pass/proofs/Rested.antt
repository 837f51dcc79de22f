-- How far an effect rests on reads, by what is found of its texts and of whole copies.
-- By the definition of each clause about reads.
use Rattle.std.proofs.Common.{◌≡◌, ℕ, Bool, true, false, List, [], reverse, Option, Some, None, Result, refl, ap, sym, ◌∙◌}
use Rattle.std.specs.Prelude.{nat_le, ◌&&◌, ◌||◌, not, if◌then◌else◌}
use Rattle.hist_model.specs.Copies.{plan}
use Rattle.hist_model.specs.Requests.{request}
use Rattle.hist_model.specs.declared.copy.Part.{Part}
use Rattle.hist_model.specs.declared.event.Event.{Event}
use Rattle.hist_model.specs.declared.event.What.{What}
use Rattle.hist_model.specs.declared.event.What.TheVariants.{Act, AddfdPut}
use Rattle.hist_model.specs.declared.policy.Cap.{Cap}
use Rattle.hist_model.specs.declared.policy.Policy.{Policy}
use Rattle.hist_model.specs.declared.request.Request.{Request}
use Rattle.hist_model.specs.declared.script.Script.{Script}
use Rattle.sys_abi.specs.declared.wire.Addfd.{Addfd}
use Rattle.broker_verdict.specs.Effects.{base_is_unchecked, can_have, is_empty_list, rests_on, texts_of, writes_elsewhere}
use Rattle.broker_verdict.specs.Choices.{by_registers_from, injects, injects_by_registers}
use Rattle.broker_verdict.specs.SeatCopies.{copies_of, fit_parts, gives_texts, plan_of, whole_in}
use Rattle.broker_verdict.specs.Seats.{is_checked, rank, reads, SeatRead}
use Rattle.broker_verdict.specs.Seats as worth
use Rattle.broker_verdict.specs.Trusted.{effect_breaks, first_broken}
use Rattle.broker_verdict.specs.declared.clause.Clause.{Clause}
use Rattle.broker_verdict.specs.declared.clause.Clause.TheVariants.{OtherMemory, StaleCopy, Unchecked, Unread}
use Rattle.broker_judge.specs.Called.{IsCalled}
use Rattle.broker_judge.specs.Copied.{worth_so}
use Rattle.broker_judge.specs.Reads.{worth_of}
use Rattle.broker_judge.specs.declared.called.Called.{Called}
use Rattle.broker_judge.specs.declared.reads.Worth.{Worth}
use Rattle.broker_judge.specs.declared.reads.Worth.TheVariants.{Foreign, Stale, Fresh, Valid}
use Rattle.judge_pass.specs.Clauses.{clauses_of_reads}
use Rattle.judge_pass.specs.Rests.{AreRests}
use Rattle.judge_pass.specs.declared.rests.Rests.{Rests}

-- the plan of a call
pub plan_known : (K : List Event) (c : ℕ) (called : Called) (parts : List Part) → IsCalled K c called → parts ≡ plan called.nr called.args → parts ≡ plan_of K c
plan_known K c called parts is h = h ∙ rw (is.nr_is, is.args_are) refl

never : (b : Bool) → b ≡ false → b ≡ true → ⊥
never b h e = let t : true ≡ false = sym e ∙ h in cc

-- texts that the call can't have
pub unfit : (P : Policy) (K : List Event) (w c : ℕ) (q : Request) (cap : Option Cap) (answer : Result (Unit {0}) ℕ) → fit_parts (plan_of K c) (texts_of q) ≡ false
    → AreRests P K w c (Act q cap answer) (record { any = false; of_caller = false; in_time = false; checked = false })
unfit P K w c q cap answer h = record {
  any = rw h refl;
  of_caller = λ e. absurd (never (fit_parts (plan_of K c) (texts_of q)) h e);
  in_time = λ e. absurd (never (fit_parts (plan_of K c) (texts_of q)) h e);
  checked = λ e. absurd (never (fit_parts (plan_of K c) (texts_of q)) h e);
}

-- texts that it can have, by the rank of the worst of the best reads that give their bytes
pub fit : (P : Policy) (K : List Event) (w c : ℕ) (q : Request) (cap : Option Cap) (answer : Result (Unit {0}) ℕ) (all : List SeatRead) (found : ℕ) → reads K w ≡ reverse all
    → fit_parts (plan_of K c) (texts_of q) ≡ true
    → ((least : Worth) → gives_texts (worth_so least all) (plan_of K c) (texts_of q) ≡ nat_le (rank (worth_of least)) found)
    → AreRests P K w c (Act q cap answer) (record { any = nat_le 1 found; of_caller = nat_le 2 found; in_time = nat_le 3 found; checked = nat_le 4 found })
fit P K w c q cap answer all found same h given = record {
  any = rw (h, same) (sym (given Foreign));
  of_caller = λ e. rw same (sym (given Stale));
  in_time = λ e. rw same (sym (given Fresh));
  checked = λ e. rw same (sym (given Valid));
}

-- the first clause about its reads that an effect breaks
abbrev pub first_of_rests : Rests → Bool → Bool → Option Clause
first_of_rests rests writes lacks =
    if not rests.any then Some Unread
    else if not rests.of_caller || writes then Some OtherMemory
    else if not rests.in_time then Some StaleCopy
    else if not rests.checked || lacks then Some Unchecked
    else None

or_more : (a b c : Bool) → ((a || b) || c) ≡ (a || (b || c))
or_more true b c = refl
or_more false b c = refl

pub rests_break : (P : Policy) (S : Script) (K : List Event) (w c : ℕ) (what : What) (rests : Rests) (writes lacks : Bool) → AreRests P K w c what rests
    → writes ≡ writes_elsewhere K w c what → lacks ≡ ((is_empty_list (plan_of K c) && not (is_checked K w)) || base_is_unchecked S K w what)
    → first_broken (λ clause. effect_breaks P S clause K w c what) clauses_of_reads ≡ first_of_rests rests writes lacks
rests_break P S K w c what rests writes lacks are writes_is lacks_is = by_texts (can_have K c what) refl
  where
    by_texts : (b : Bool) → can_have K c what ≡ b → first_broken (λ clause. effect_breaks P S clause K w c what) clauses_of_reads ≡ first_of_rests rests writes lacks
    by_texts true q = rw (are.any, are.of_caller q, are.in_time q, are.checked q, writes_is, lacks_is, q) (rw (or_more (not (rests_on P worth.Valid K w c what)) (is_empty_list (plan_of K c) && not (is_checked K w)) (base_is_unchecked S K w what)) refl)
    by_texts false q = rw (are.any, q) refl

-- a descriptor that the policy puts in whatever the texts are
pub in_full : (P : Policy) (K : List Event) (w c : ℕ) (asked : Addfd) (answer : Result (Unit {0}) ℕ) → injects_by_registers P K c ≡ true
    → AreRests P K w c (AddfdPut asked answer) (record { any = true; of_caller = true; in_time = true; checked = true })
in_full P K w c asked answer h = record { any = rw h refl; of_caller = λ e. rw h refl; in_time = λ e. rw h refl; checked = λ e. rw h refl }

-- one that it puts in by a copy
pub by_copies : (P : Policy) (K : List Event) (w c : ℕ) (asked : Addfd) (answer : Result (Unit {0}) ℕ) (rests : Rests) → injects_by_registers P K c ≡ false
    → rests.any ≡ not (is_empty_list (whole_in (copies_of worth.Foreign K w c))) → rests.of_caller ≡ not (is_empty_list (whole_in (copies_of worth.Stale K w c)))
    → rests.in_time ≡ not (is_empty_list (whole_in (copies_of worth.Fresh K w c))) → rests.checked ≡ not (is_empty_list (whole_in (copies_of worth.Valid K w c)))
    → AreRests P K w c (AddfdPut asked answer) rests
by_copies P K w c asked answer rests h any of_caller in_time checked =
    record { any = rw (any, h) refl; of_caller = λ e. rw (of_caller, h) refl; in_time = λ e. rw (in_time, h) refl; checked = λ e. rw (checked, h) refl }

-- what the policy puts in whatever the texts are, by the request without them
pub injected : (P : Policy) (K : List Event) (c : ℕ) (called : Called) (q : Request) (b : Bool) → IsCalled K c called → q ≡ request called.nr called.args []
    → b ≡ injects (by_registers_from 0 P.rules q) → injects_by_registers P K c ≡ b
injected P K c called q b is asked h = sym (h ∙ ap (λ (r : Request). injects (by_registers_from 0 P.rules r)) (asked ∙ rw (is.nr_is, is.args_are) refl))
