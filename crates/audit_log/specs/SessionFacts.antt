-- What is kept of a session while its steps are gone through.
use Rattle.std.specs.Prelude.{◌&&◌, ◌||◌, List}
use Rattle.std.specs.List.{list_any}
use Rattle.hist_model.specs.Kinds.{is_good_check, is_letgo, starts, is_gone, misses_call, is_sent, is_spent}
use Rattle.hist_model.specs.ReportAudit.{is_shut, checked_twice}
use Rattle.hist_model.specs.declared.event.What.{What}
use Rattle.audit_log.specs.declared.session_facts.Facts.{Facts}

-- of a session's steps, the newest first
abbrev pub facts_of : List What → Facts
facts_of own = record {
  shut = is_shut own;
  gone = list_any is_gone own;
  checked = list_any is_good_check own;
  checked_twice = checked_twice own;
  spent = list_any is_spent own;
  sent = list_any is_sent own;
  lost = list_any misses_call own;
}

-- with one more step, where the session isn't shut
abbrev pub facts_with : Facts → What → Facts
facts_with f a = record {
  shut = is_letgo a || starts a;
  gone = is_gone a || f.gone;
  checked = is_good_check a || f.checked;
  checked_twice = (is_good_check a && f.checked) || f.checked_twice;
  spent = is_spent a || f.spent;
  sent = is_sent a || f.sent;
  lost = misses_call a || f.lost;
}

-- ---- With a step of a kind that tells of few of them

-- it may find the caller, or its call, gone
abbrev pub gone_by : Facts → What → Facts
gone_by f a = record {
  shut = f.shut;
  gone = is_gone a || f.gone;
  checked = f.checked;
  checked_twice = f.checked_twice;
  spent = f.spent;
  sent = f.sent;
  lost = f.lost;
}

-- it asks whether the notification is valid
abbrev pub checked_by : Facts → What → Facts
checked_by f a = record {
  shut = f.shut;
  gone = is_gone a || f.gone;
  checked = is_good_check a || f.checked;
  checked_twice = (is_good_check a && f.checked) || f.checked_twice;
  spent = f.spent;
  sent = f.sent;
  lost = f.lost;
}

-- it may be refused since the rule's times were spent
abbrev pub spent_by : Facts → What → Facts
spent_by f a = record {
  shut = f.shut;
  gone = f.gone;
  checked = f.checked;
  checked_twice = f.checked_twice;
  spent = is_spent a || f.spent;
  sent = f.sent;
  lost = f.lost;
}

-- it may find no listed call
abbrev pub lost_by : Facts → What → Facts
lost_by f a = record {
  shut = f.shut;
  gone = f.gone;
  checked = f.checked;
  checked_twice = f.checked_twice;
  spent = f.spent;
  sent = f.sent;
  lost = misses_call a || f.lost;
}
