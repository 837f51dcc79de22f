-- What the tables of the reader stand for.
use Rattle.script_reader.specs.declared.builder.Builder.{Builder}
use Rattle.script_reader.specs.declared.programs.Programs.{Programs}
use Rattle.script_reader.specs.declared.tree.StatedTree.{StatedTree}
use Rattle.script_reader.specs.Above.{Above}
use Rattle.script_reader.specs.Maps.{value_in}
use Rattle.script_reader.specs.Programs.{ProgramsState}
use Rattle.script_reader.specs.Tree.{TreeState}

abbrev pub tree_in : StatedTree → TreeState
tree_in t = record { found = value_in t.paths; nodes = t.nodes; lines = t.lines.items }

abbrev pub programs_in : Programs → ProgramsState
programs_in p = record {
  place = value_in p.places;
  bodies = p.bodies.items;
  totals = p.totals.items;
  name = p.name.items;
  body = p.body.items;
}

abbrev pub above_in : Builder → Above
above_in b = record {
  section = b.section;
  opened = b.opened;
  settings = b.settings;
  tree = tree_in b.tree;
  broker = b.broker.items;
  map = b.map.items;
  filters = b.filters;
  programs = programs_in b.programs;
  schedule = b.schedule;
}
