-- What a name's numbers are, whether they stand in the value itself or in memory of their own.
use Rattle.std.specs.Prelude.{ℕ, List}
use Rattle.hist_model.specs.declared.text.Numbers.{Numbers}
use Rattle.hist_model.specs.declared.text.Numbers.TheVariants.{Few, Many}

abbrev pub numbers_in : Numbers → List ℕ
numbers_in (Few few) = few
numbers_in (Many numbers) = numbers.items
