use Rattle.std.proofs.Common.{[], ◌∷◌, ◌++◌, ap, refl, arith, ◌∙◌}
use Rattle.std.proofs.lemmas.List.{length-map}
use Rattle.task_groups.specs.Rows.{row_of, rows_of}
use Rattle.task_groups.proofs.Rows.{added-row, row-list, uses-few}
use Rattle.task_groups.proofs.Shares.{same-bytes}
use Rattle.task_groups.proofs.Stand.{added}
use Rattle.task_groups.proofs.groups.Groups.copied.Goals as goal

pub returns-clause-step : goal.returns-clause-step
returns-clause-step c s T =
    let old = c.args.self.now in
    let copy = c.copy-copy in
    let live = c.requires.live in
    let r = live.row in
    let k = T.sound.rows c.args.o r live.at in
    let list = row-list old c.args.o r T.sound live.at in
    let has = (T.rows c.args.o r live.at).has in
    let shared = copy.ensures.shared r live.at in
    let few = uses-few (rows_of old) in
    let small = length-map old.rows.items row_of in
    added s old T _ (record { living = 1; handles = 0; pages = r.pages; descriptors = r.descriptors }) (s.contents c.args.o)
    (added-row old.rows.items _ copy.result _ (c.push_reserved.ensures.items ∙ ap (λ gs. gs.items ++ copy.result ∷ []) copy.ensures.rows) (copy.ensures.row r live.at))
    (ap (λ m. m.items) copy.ensures.map) copy.ensures.rlimit (copy.ensures.store T.sound.store)
    (λ p. shared.count p (λ u. omega (arith, u, list.counted p)) (omega (arith, T.sound.counted p, few p (λ o x at. (T.sound.rows o x at).once p), small, list.once p, c.requires.room.room.copy.ordinal)))
    (λ zs b. same-bytes old.pages copy.new.self.pages zs (λ p l. shared.bytes p) b)
    (record { pages_rise = k.pages_rise; once = k.once; descriptors_rise = k.descriptors_rise; freed = λ z. absurd (omega arith); closed = λ z. absurd (omega arith) })
    refl refl (record { bytes = λ l. has.bytes (omega (arith, live.lives)); slots = λ l. has.slots live.lives })
