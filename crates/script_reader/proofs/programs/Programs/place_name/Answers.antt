-- One more name stands for a place: the map is changed at that name alone.
use Rattle.std.proofs.Common.{◌≡◌, [], ap, ◌∙◌}
use Rattle.script_reader.proofs.Tables.{name_placed}
use Rattle.script_reader.proofs.programs.Programs.place_name.Goals as goal

pub returns : goal.returns
returns c =
    let key : c.replace-name.result.items ≡ c.args.self.now.name.items = ap (λ v. v.items) c.replace-name.ensures.value in
    let rest : c.replace-name.new.dest.items ≡ [] = ap (λ v. v.items) c.replace-name.ensures.after ∙ c.new.ensures.items in
    name_placed c.args.self.now.places c.insert.new.self _ _ _ c.replace-name.result.items _ _ _ c.in_ok-insert.ensures.updates key rest
