-- Where all bytes are right they stand now, and stood so whatever is read later.
use Rattle.std.proofs.Common.{◌≡◌, ℕ, ◌<◌, Bool, List, [], ◌∷◌, ◌++◌, length, get_or, refl, sym, ap, ◌∙◌, arith, false}
use Rattle.std.proofs.lemmas.Bool.{eq-eqb, eqb-true}
use Rattle.std.proofs.lemmas.List.{get_or-replicate}
use Rattle.broker_judge.specs.Copied.{worth_so}
use Rattle.broker_judge.specs.Stood.{wrong_in}
use Rattle.broker_judge.proofs.Standing.{AreGiven, first_never, found, given_more, none_given, none_wanted, not_yet, other_number, some_left, stand_is, taken_one, wrong_all}
use Rattle.broker_judge.proofs.Written.{written}
use Rattle.broker_judge.proofs.stood.stood_bytes.Goals as goal

pub returns-then-is_empty : goal.returns-then-is_empty
returns-then-is_empty c =
    sym (none_wanted (worth_so c.args.least c.args.reads.now) c.args.addr c.args.wanted.now (eqb-true (length c.args.wanted.now) 0 (sym c.is_empty.ensures ∙ c.if-is_empty.true)))

pub loop-read-init : goal.loop-read-init
loop-read-init c =
    let none : (i : ℕ) → i < length c.args.wanted.now → get_or c.in_ok-right.right.items i false ≡ false =
    λ i low. ap (λ (l : List Bool). get_or l i false) (c.in_ok-right.ensures.items_if_clones_equal (λ y h. h)) ∙ get_or-replicate (length c.args.wanted.now) i false false low in
    let size : length c.in_ok-right.right.items ≡ length c.args.wanted.now = omega (arith, c.in_ok-right.ensures.len) in
    record {
      before = [];
      all = refl;
      size = size;
      wrong = sym (wrong_all (length c.args.wanted.now) c.in_ok-right.right.items size none);
      given = none_given c.args.addr c.args.wanted.now c.in_ok-right.right.items none;
      never = first_never c.args.addr c.args.wanted.now (some_left c.args.wanted.now (sym c.is_empty.ensures ∙ c.if-is_empty.false));
    }

pub returns-then-wrong-eq0 : goal.returns-then-wrong-eq0
returns-then-wrong-eq0 c =
    let old = c.loop-read.invariant.before in
    let more = old ++ c.in-Some.read.now ∷ [] in
    let kept : AreGiven (worth_so c.args.least old) c.args.addr c.args.wanted.now c.as_mut_slice.result.now =
    λ i low. ap (λ (l : List Bool). get_or l i false) c.as_mut_slice.ensures.value ∙ c.loop-read.invariant.given i low in
    let now : AreGiven (worth_so c.args.least more) c.args.addr c.args.wanted.now c.note_worth-wrong.new.right =
    given_more c.args.least old c.in-Some.read.now c.args.addr c.args.wanted.now c.as_mut_slice.result.now c.note_worth-wrong.new.right kept
    (λ i low. c.note_worth-wrong.ensures.noted i (omega (arith, low, ap length c.as_mut_slice.ensures.value, c.loop-read.invariant.size))) in
    let size : length c.note_worth-wrong.new.right ≡ length c.args.wanted.now = c.note_worth-wrong.ensures.size ∙ ap length c.as_mut_slice.ensures.value ∙ c.loop-read.invariant.size in
    sym (found c.args.least c.args.reads.now more c.in-Some.later.now c.args.addr c.args.wanted.now
    (taken_one c.args.reads.now old c.loop-read.rest.now c.in-Some.later.now c.in-Some.read.now c.loop-read.invariant.all c.in-Some.ensures.cases.0)
    (stand_is (worth_so c.args.least more) c.args.addr c.args.wanted.now c.note_worth-wrong.new.right (omega arith) size now
    ∙ eq-eqb _ 0 (sym c.note_worth-wrong.ensures.wrong ∙ c.if-wrong-eq0.true)))

pub loop-read-preserved : goal.loop-read-preserved
loop-read-preserved c =
    let old = c.loop-read.invariant.before in
    let more = old ++ c.in-Some.read.now ∷ [] in
    let kept : AreGiven (worth_so c.args.least old) c.args.addr c.args.wanted.now c.as_mut_slice.result.now =
    λ i low. ap (λ (l : List Bool). get_or l i false) c.as_mut_slice.ensures.value ∙ c.loop-read.invariant.given i low in
    let now : AreGiven (worth_so c.args.least more) c.args.addr c.args.wanted.now c.note_worth-wrong.new.right =
    given_more c.args.least old c.in-Some.read.now c.args.addr c.args.wanted.now c.as_mut_slice.result.now c.note_worth-wrong.new.right kept
    (λ i low. c.note_worth-wrong.ensures.noted i (omega (arith, low, ap length c.as_mut_slice.ensures.value, c.loop-read.invariant.size))) in
    let size : length c.note_worth-wrong.new.right ≡ length c.args.wanted.now = c.note_worth-wrong.ensures.size ∙ ap length c.as_mut_slice.ensures.value ∙ c.loop-read.invariant.size in
    let is = written c.loop-read.right.len c.note_worth-wrong.new.right c.loop-read.right.items (omega (arith, size, c.loop-read.invariant.size)) in
    record {
      before = more;
      all = taken_one c.args.reads.now old c.loop-read.rest.now c.in-Some.later.now c.in-Some.read.now c.loop-read.invariant.all c.in-Some.ensures.cases.0;
      size = ap length is ∙ size;
      wrong = c.note_worth-wrong.ensures.wrong ∙ ap wrong_in (sym is);
      given = λ i low. ap (λ (l : List Bool). get_or l i false) is ∙ now i low;
      never = not_yet c.args.least old c.in-Some.read.now c.args.addr c.args.wanted.now c.loop-read.invariant.never
          (stand_is (worth_so c.args.least more) c.args.addr c.args.wanted.now c.note_worth-wrong.new.right (omega arith) size now
          ∙ other_number (wrong_in c.note_worth-wrong.new.right) c.note_worth-wrong.result c.note_worth-wrong.ensures.wrong c.if-wrong-eq0.false);
    }
