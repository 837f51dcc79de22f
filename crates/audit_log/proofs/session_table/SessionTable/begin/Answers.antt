-- By `begun_ok`, once the worker has a place.
use Rattle.std.proofs.Common.{◌≡◌, ◌∷◌, [], ◌++◌, length, of_z, to_z, w32, rules, refl, subst}
use Rattle.std.specs.Vec.{with_item}
use Rattle.audit_log.proofs.SessionRows.{begun_ok, first_row, grown_stands}
use Rattle.audit_log.specs.declared.session_table.SessionTable.{SessionTable}
use Rattle.audit_log.proofs.session_table.SessionTable.begin.Goals as goal

pub returns : goal.returns
returns c = λ R S k over.
    let t : SessionTable = record { alloc = c.args.self.now.alloc; rows = c.args.self.now.rows; workers = c.reach.new.workers } in
    let u : SessionTable = record { alloc = c.args.self.now.alloc; rows = c.push.new.self; workers = with_item c.reach.new.workers c.from-number.result c.begin.new.self } in
    let long : c.len-row.result ≡ length c.args.self.now.rows.items = search rules in
    let number : to_z w32 (of_z w32 c.args.notif.now.call.nr) ≡ c.args.notif.now.call.nr = search rules in
    let pushed : u.rows.items ≡ t.rows.items ++ first_row c.args.place c.args.worker c.args.notif.now c.args.notif.now.call.nr ∷ [] =
    subst (λ nr. u.rows.items ≡ t.rows.items ++ first_row c.args.place c.args.worker c.args.notif.now nr ∷ []) number c.in_ok-push.ensures.items in
    begun_ok c.begin.result R S t u c.args.place c.args.worker c.from-number.result c.len-row.result c.args.notif.now c.begin.new.self
    (grown_stands R S c.args.self.now t k refl c.in_ok-reach.ensures.grown) over c.in_ok-reach.ensures.there c.from-number.ensures long pushed refl c.begin.ensures.row c.begin.ensures.notif c.begin.ensures.follows
