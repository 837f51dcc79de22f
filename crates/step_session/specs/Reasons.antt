-- The text of what is wrong with a line.
use Rattle.std.specs.Prelude.{ℕ, List, codes}
use Rattle.lex_core.specs.declared.reason.Reason.{Reason}
use Rattle.lex_core.specs.declared.reason.Reason.TheVariants.{BadByte, BadQuote, UnknownWord, OutOfPlace, WrongCount, WrongForm, BadNumber}
use Rattle.lex_core.specs.declared.reason.Reason.TheVariants.{OutOfRange, BadPath, UnknownName, Duplicate, Unmapped, SecondListener}
use Rattle.lex_core.specs.declared.reason.Reason.TheVariants.{BadFilter, NotClosed, NoProgram, NoListener}

abbrev pub reason_text : Reason → List ℕ
reason_text BadByte = codes "bad byte"
reason_text BadQuote = codes "bad quote"
reason_text UnknownWord = codes "unknown word"
reason_text OutOfPlace = codes "out of place"
reason_text WrongCount = codes "wrong count"
reason_text WrongForm = codes "wrong form"
reason_text BadNumber = codes "bad number"
reason_text OutOfRange = codes "out of range"
reason_text BadPath = codes "bad path"
reason_text UnknownName = codes "unknown name"
reason_text Duplicate = codes "duplicate"
reason_text Unmapped = codes "unmapped"
reason_text SecondListener = codes "second listener"
reason_text BadFilter = codes "bad filter"
reason_text NotClosed = codes "not closed"
reason_text NoProgram = codes "no program"
reason_text NoListener = codes "no listener"
