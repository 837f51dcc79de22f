-- Keys of sessions end by themselves, and tell the sessions: a worker's steps are told by what it was told.
-- By the kinds of answers; then by what a ledger of the same answers tells.
use Rattle.std.proofs.Common.{◌≡◌, ℕ, false, List, [], ◌∷◌, ◌++◌, refl, sym, ap, ap₂, ◌∙◌, append_assoc, append-nil, arith}
use Rattle.std.specs.Prelude.{ℤ}
use Rattle.sys_abi.specs.declared.wire.Notif.{Notif}
use Rattle.hist_model.specs.Kinds.{is_letgo}
use Rattle.hist_model.specs.Sessions.{Rules, any_of}
use Rattle.hist_model.specs.declared.event.What.{What}
use Rattle.broker_core.specs.Answers.{Answer, Bytes, Done, Failed, NotYet, Number, Received, answer_of}
use Rattle.key_bytes.specs.Parts.{Ends, list_part, number_part, pair_part, signed_part, text_part}
use Rattle.key_bytes.proofs.Ending.{list_ends, pair_ends, signed_ends, text_ends, told_ends}
use Rattle.key_bytes.proofs.Numbers.{number_ends}
use Rattle.worker_ledger.specs.Ledgers.{answers_in}
use Rattle.worker_ledger.specs.Successors.{after_answers}
use Rattle.handover.proofs.Told.{IsTold}
use Rattle.explorer.specs.SessionKeys.{answer_part, notif_part, steps_part}

-- ---- Notifications

abbrev NotifParts : Type 0
NotifParts = ℕ × (ℕ × (ℕ × (ℤ × (ℕ × (ℕ × List ℕ)))))

abbrev parts : Notif → NotifParts
parts n = (n.id, (n.pid, (n.flags, (n.call.nr, (n.call.arch, (n.call.ip, n.call.args))))))

abbrev from_parts : NotifParts → Notif
from_parts p = record {
  id = p.0;
  pid = p.1.0;
  flags = p.1.1.0;
  call = record { nr = p.1.1.1.0; arch = p.1.1.1.1.0; ip = p.1.1.1.1.1.0; args = p.1.1.1.1.1.1 };
}

abbrev args_part : List ℕ → List ℕ
args_part = list_part number_part

abbrev at_ip : ℕ × List ℕ → List ℕ
at_ip = pair_part number_part args_part

abbrev at_arch : ℕ × (ℕ × List ℕ) → List ℕ
at_arch = pair_part number_part at_ip

abbrev at_nr : ℤ × (ℕ × (ℕ × List ℕ)) → List ℕ
at_nr = pair_part signed_part at_arch

abbrev at_flags : ℕ × (ℤ × (ℕ × (ℕ × List ℕ))) → List ℕ
at_flags = pair_part number_part at_nr

abbrev at_pid : ℕ × (ℕ × (ℤ × (ℕ × (ℕ × List ℕ)))) → List ℕ
at_pid = pair_part number_part at_flags

pub notif_ends : Ends notif_part
notif_ends = told_ends parts from_parts (pair_part number_part at_pid) (λ n. refl)
    (pair_ends number_part at_pid number_ends
    (pair_ends number_part at_flags number_ends
    (pair_ends number_part at_nr number_ends
    (pair_ends signed_part at_arch signed_ends
    (pair_ends number_part at_ip number_ends
    (pair_ends number_part args_part number_ends (list_ends number_part number_ends)))))))

-- ---- Answers

abbrev code : Answer → ℕ
code (Received n) = 0
code Done = 1
code (Bytes bytes) = 2
code (Number n) = 3
code NotYet = 4
code (Failed e) = 5

abbrev behind_code : Answer → List ℕ
behind_code (Received n) = notif_part n
behind_code Done = []
behind_code (Bytes bytes) = text_part bytes
behind_code (Number n) = number_part n
behind_code NotYet = []
behind_code (Failed e) = number_part e

abbrev Tells : Answer → Answer → List ℕ → List ℕ → Type 0
Tells a b r s = (a ≡ b) × (r ≡ s)

-- of one kind
same_kind : (a b : Answer) → code a ≡ code b → (r s : List ℕ) → behind_code a ++ r ≡ behind_code b ++ s → Tells a b r s
same_kind (Received m) (Received n) k r s q = let p = notif_ends m n r s q in (ap Received p.0, p.1)
same_kind Done Done k r s q = (refl, q)
same_kind (Bytes x) (Bytes y) k r s q = let p = text_ends x y r s q in (ap Bytes p.0, p.1)
same_kind (Number m) (Number n) k r s q = let p = number_ends m n r s q in (ap Number p.0, p.1)
same_kind NotYet NotYet k r s q = (refl, q)
same_kind (Failed d) (Failed e) k r s q = let p = number_ends d e r s q in (ap Failed p.0, p.1)
same_kind a b k r s q = absurd (omega (arith, k))

with_code : (a : Answer) → answer_part a ≡ number_part (code a) ++ behind_code a
with_code (Received n) = refl
with_code Done = sym (append-nil (number_part 1))
with_code (Bytes bytes) = refl
with_code (Number n) = refl
with_code NotYet = sym (append-nil (number_part 4))
with_code (Failed e) = refl

pub answer_ends : Ends answer_part
answer_ends a b r s q =
    let z : number_part (code a) ++ (behind_code a ++ r) ≡ number_part (code b) ++ (behind_code b ++ s) =
    sym (append_assoc (number_part (code a)) (behind_code a) r)
    ∙ (ap (λ (bytes : List ℕ). bytes ++ r) (sym (with_code a)) ∙ (q ∙ (ap (λ (bytes : List ℕ). bytes ++ s) (with_code b) ∙ append_assoc (number_part (code b)) (behind_code b) s))) in
    let p = number_ends (code a) (code b) (behind_code a ++ r) (behind_code b ++ s) z in
    same_kind a b p.0 r s p.1

-- ---- Sessions

-- equal keys are of sessions with the same answers
pub steps_end : (own other : List What) (r s : List ℕ) → steps_part own ++ r ≡ steps_part other ++ s → (answers_in own ≡ answers_in other) × (r ≡ s)
steps_end [] [] r s q = let t : r ≡ s = cc in (refl, t)
steps_end [] (b ∷ other) r s q = let h : ◌≡◌ {A = ℕ} 0 1 = cc in absurd (omega arith)
steps_end (a ∷ own) [] r s q = let h : ◌≡◌ {A = ℕ} 1 0 = cc in absurd (omega arith)
steps_end (a ∷ own) (b ∷ other) r s q =
    let t : (answer_part (answer_of a) ++ steps_part own) ++ r ≡ (answer_part (answer_of b) ++ steps_part other) ++ s = cc in
    let z : answer_part (answer_of a) ++ (steps_part own ++ r) ≡ answer_part (answer_of b) ++ (steps_part other ++ s) =
    sym (append_assoc (answer_part (answer_of a)) (steps_part own) r) ∙ (t ∙ append_assoc (answer_part (answer_of b)) (steps_part other) s) in
    let p = answer_ends (answer_of a) (answer_of b) (steps_part own ++ r) (steps_part other ++ s) z in
    let more = steps_end own other r s p.1 in
    (ap₂ (λ (told : List Answer) (c : Answer). told ++ (c ∷ [])) more.0 p.0, more.1)

-- and so of one session
pub sessions_are_one : (R : Rules) (own other : List What) → IsTold R own → IsTold R other → any_of is_letgo own ≡ false → any_of is_letgo other ≡ false
    → answers_in own ≡ answers_in other → other ≡ own
sessions_are_one R own other k l h g e = sym (l.back g) ∙ (ap (after_answers R []) (sym e) ∙ k.back h)
