use Rattle.std.proofs.Common.{◌≡◌, ◌++◌, take}
use Rattle.hist_model.specs.ReportJournal.{pieces_text}
use Rattle.hist_model.specs.Requests.{called}
use Rattle.audit_log.proofs.request.push_pieces.Given as goal

abbrev pub invariant-loop-piece : goal.invariant-loop-piece
invariant-loop-piece l = l.line ≡ l.fn.line ++ pieces_text (called l.request) (take l.piece-index l.pieces)
