-- A statement with a path or a name is taken by its bytes.
-- By the statement of these bytes, which is the same.
use Rattle.std.proofs.Common.{◌≡◌, ap, sym, subst, ◌∙◌}
use Rattle.script_reader.specs.Above.{statement_fault, with_statement}
use Rattle.script_reader.specs.Faults.{Admits}
use Rattle.script_reader.specs.Views.{above_in}
use Rattle.script_reader.specs.declared.statement.Statement.TheVariants.{Node, Attr, Root, Prog, Starts}
use Rattle.script_reader.proofs.builder.Builder.admit.Goals as goal

pub returns-in-Node : goal.returns-in-Node
returns-in-Node c =
    let above = above_in c.args.self.now in
    let same : c.args.statement ≡ Node c.items.result.now c.in-Node.node = c.in-Node.is ∙ ap (λ path. Node path c.in-Node.node) (sym c.items.ensures) in
    subst (λ s. Admits (statement_fault s above) (with_statement s above) c.node.result (above_in c.node.new.self)) (sym same) c.node.ensures

pub returns-in-Attr : goal.returns-in-Attr
returns-in-Attr c =
    let above = above_in c.args.self.now in
    let same : c.args.statement ≡ Attr c.items-in-Attr.result.now c.in-Attr.name c.in-Attr.value = c.in-Attr.is ∙ ap (λ path. Attr path c.in-Attr.name c.in-Attr.value) (sym c.items-in-Attr.ensures) in
    subst (λ s. Admits (statement_fault s above) (with_statement s above) c.attr.result (above_in c.attr.new.self)) (sym same) c.attr.ensures

pub returns-in-Root : goal.returns-in-Root
returns-in-Root c =
    let above = above_in c.args.self.now in
    let same : c.args.statement ≡ Root c.items-in-Root.result.now = c.in-Root.is ∙ ap (Root) (sym c.items-in-Root.ensures) in
    subst (λ s. Admits (statement_fault s above) (with_statement s above) c.root.result (above_in c.root.new.self)) (sym same) c.root.ensures

pub returns-in-Prog : goal.returns-in-Prog
returns-in-Prog c =
    let above = above_in c.args.self.now in
    let same : c.args.statement ≡ Prog c.items-in-Prog.result.now = c.in-Prog.is ∙ ap (Prog) (sym c.items-in-Prog.ensures) in
    subst (λ s. Admits (statement_fault s above) (with_statement s above) c.prog.result (above_in c.prog.new.self)) (sym same) c.prog.ensures

pub returns-in-Starts : goal.returns-in-Starts
returns-in-Starts c =
    let above = above_in c.args.self.now in
    let same : c.args.statement ≡ Starts c.in-Starts.thread c.items-in-Starts.result.now = c.in-Starts.is ∙ ap (Starts c.in-Starts.thread) (sym c.items-in-Starts.ensures) in
    subst (λ s. Admits (statement_fault s above) (with_statement s above) c.starts.result (above_in c.starts.new.self)) (sym same) c.starts.ensures
