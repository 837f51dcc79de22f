use Rattle.std.proofs.Common.{◌≡◌, Option, subst, ◌∙◌}
use Rattle.std.specs.Prelude.{find, option_map}
use Rattle.hist_model.specs.Calls.{queue}
use Rattle.history_frames.specs.Ordinals.{task_name_of}
use Rattle.sys_abi.specs.declared.wire.Addfd.{Addfd}
use Rattle.listener.specs.Listeners.{view}
use Rattle.listener.specs.Requests.{is_waiting}
use Rattle.listener.specs.Stands.{oldest_in}
use Rattle.listener.specs.declared.requests.Request.{Request}
use Rattle.listener.proofs.Stand.{ids, looks}
use Rattle.listener.proofs.Told.{oldest-asked}
use Rattle.listener.proofs.listener.Listener.next_request.Goals as goal

pub returns : goal.returns
returns c first K place S l =
    let L = c.args.self.now in
    c.oldest.ensures ∙ subst (λ x. ◌≡◌ {A = Option Addfd} (option_map (λ (q : Request). q.asked) (find (is_waiting x) L.requests)) (oldest_in K (queue K place))) l.id_is (oldest-asked first K (view L (task_name_of K)) (looks first K L S) S.asked (ids first K L S) place l.on)
