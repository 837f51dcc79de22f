-- A policy and a script, as contracts see them: plain records, over which the definitions range.
use Rattle.std.specs.Prelude.{ℕ, Bool, List}
use Rattle.hist_model.specs.declared.policy.Rule.{Rule}
use Rattle.hist_model.specs.declared.request.NodeRef.{NodeRef}
use Rattle.hist_model.specs.declared.script.Figures.{Figures}
use Rattle.hist_model.specs.declared.script.TreeLine.{TreeLine}
use Rattle.hist_model.specs.declared.script.MapRange.{MapRange}
use Rattle.hist_model.specs.declared.script.FilterLine.{FilterLine}
use Rattle.hist_model.specs.declared.script.Instr.{Instr}
use Rattle.hist_model.specs.declared.script.Step.{Step}

pub record PolicyRecord : Type 0 where
  pub rules : List Rule

pub record ScriptRecord : Type 0 where
  pub pidbase : ℕ
  pub pidmax : ℕ
  pub firstid : ℕ
  pub rlimit : ℕ
  pub killable : Bool
  pub root : NodeRef
  pub figures : Figures
  pub tree : List TreeLine
  pub broker : List ℕ
  pub map : List MapRange
  pub filters : List FilterLine
  pub programs : List (List Instr)
  pub schedule : List Step
