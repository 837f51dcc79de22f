use Rattle.std.proofs.Common.{◌≡◌, ◌<◌, ◌^◌, drop}
use Rattle.std.specs.List.{list_all}
use Rattle.hist_model.specs.Words.{number_after, is_digit}
use Rattle.plain_words.proofs.numbers.digits.Given as goal

abbrev pub invariant-loop-b : goal.invariant-loop-b
invariant-loop-b l = record {
  digits : list_all is_digit (drop l.b-index l.word) ≡ list_all is_digit l.word;
  same : number_after l.value (drop l.b-index l.word) ≡ number_after 0 l.word;
  small : l.value < 10 ^ l.b-index;
}
