-- Generated input of three calls, computed: from 7 on, a call that is passed, one that is informed, and one whose task is killed.
-- By computing, with the definitions unfolded.
use Rattle.std.proofs.Common.{◌≡◌, [], ◌∷◌, ◌++◌, refl}
use Rattle.std.specs.Prelude.{codes, pos}
use Rattle.std.specs.Fmt.{digits}
use Rattle.hist_model.specs.declared.script.Instr.TheVariants.{Poke, Call, Spawn, Kill, Wait}
use Rattle.hist_model.specs.declared.script.Whom.TheVariants.{Child}
use Rattle.generated_input.specs.GeneratedScript.{caller_steps, first_steps, of_each, programs_of, schedule_of, worker_steps}

programs_of_three : programs_of 7 3 ≡
    (Poke 65536 (codes "/a0" ++ 0 ∷ []) ∷ Call (pos 133) (65536 ∷ 4534 ∷ 0 ∷ 0 ∷ 0 ∷ 0 ∷ []) ∷ [])
    ∷ (Poke 65536 (codes "/a1" ++ 0 ∷ []) ∷ Call (pos 99) (69632 ∷ 0 ∷ 0 ∷ 0 ∷ 0 ∷ 0 ∷ []) ∷ [])
    ∷ (Poke 65536 (codes "/a2" ++ 0 ∷ []) ∷ Call (pos 133) (65536 ∷ 8630 ∷ 259 ∷ 0 ∷ 0 ∷ 0 ∷ []) ∷ [])
    ∷ (Spawn 0 ∷ Wait ∷ Spawn 1 ∷ Wait ∷ Spawn 2 ∷ Kill (Child 3) 9 ∷ Wait ∷ [])
    ∷ []
unfolding of_each digits
programs_of_three = refl

schedule_of_three : schedule_of 7 3 ≡
    first_steps 1 ∷ caller_steps 0 2 ∷ worker_steps 8 ∷ caller_steps 0 3 ∷ first_steps 1
    ∷ first_steps 1 ∷ caller_steps 1 2 ∷ worker_steps 7 ∷ caller_steps 1 2 ∷ first_steps 1
    ∷ first_steps 1 ∷ caller_steps 2 2 ∷ worker_steps 1 ∷ first_steps 1 ∷ caller_steps 2 1 ∷ first_steps 1 ∷ worker_steps 2
    ∷ first_steps 1 ∷ []
unfolding of_each
schedule_of_three = refl
