-- Worked examples of lines and of answers, computed by the definitions.
-- By `refl`: both sides of each equation compute to the same value.
use Rattle.std.proofs.Common.{◌≡◌, [], ◌∷◌, Ok, Err, refl}
use Rattle.std.specs.Prelude.{codes}
use Rattle.lex_core.specs.Numbers.{digits_value}
use Rattle.lex_core.specs.declared.line.Token.TheVariants.{Bare, Quoted}
use Rattle.lex_core.specs.declared.reason.Reason.TheVariants.{UnknownWord, OutOfPlace, WrongForm, BadNumber, OutOfRange}
use Rattle.hist_model.specs.Filters.{insn}
use Rattle.bpf_filter.specs.Text.{insn_text}

load : insn_text (Bare (codes "ld") ∷ Bare (codes "60") ∷ []) ≡ Ok (insn 0x20 60 0 0)
unfolding digits_value
load = refl

jump : insn_text (Bare (codes "jeq") ∷ Bare (codes "0xc000003e") ∷ Bare (codes "0") ∷ Bare (codes "0o5") ∷ []) ≡ Ok (insn 0x15 0xc000003e 0 5)
unfolding digits_value
jump = refl

negate : insn_text (Bare (codes "neg") ∷ []) ≡ Ok (insn 0x84 0 0 0)
negate = refl

no_word : insn_text (Bare (codes "jmp") ∷ Bare (codes "1") ∷ []) ≡ Err UnknownWord
no_word = refl

end_of_block : insn_text (Bare (codes "end") ∷ []) ≡ Err OutOfPlace
end_of_block = refl

-- a text between quotes comes before what is no number, and before what is too great
form_first : insn_text (Bare (codes "jset") ∷ Bare (codes "x") ∷ Bare (codes "256") ∷ Quoted (codes "0") ∷ []) ≡ Err WrongForm
form_first = refl

number_second : insn_text (Bare (codes "jset") ∷ Bare (codes "4294967296") ∷ Bare (codes "0") ∷ Bare (codes "0x") ∷ []) ≡ Err BadNumber
unfolding digits_value
number_second = refl

negative : insn_text (Bare (codes "ldi") ∷ Bare (codes "-1") ∷ []) ≡ Err OutOfRange
unfolding digits_value
negative = refl

great : insn_text (Bare (codes "ret") ∷ Bare (codes "4294967296") ∷ []) ≡ Err OutOfRange
unfolding digits_value
great = refl
