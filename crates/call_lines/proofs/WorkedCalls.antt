-- Worked examples of files of calls, computed by the definitions: what lines state, and for each reason a line that is refused.
-- By computing, with the definitions unfolded.
use Rattle.std.proofs.Common.{◌≡◌, ℕ, List, [], ◌∷◌, Ok, Err, Some, None, refl}
use Rattle.std.specs.Prelude.{codes, false, map, pos, negsuc}
use Rattle.hist_model.specs.Words.{number_after}
use Rattle.hist_model.specs.declared.request.Request.{Request}
use Rattle.hist_model.specs.declared.request.Request.TheVariants.{Mknod, Mount, SetXattr, OpenAt, Sysinfo, Other}
use Rattle.lex_core.specs.Lexical.{tokens}
use Rattle.lex_core.specs.Lines.{split, without_return, is_skipped, numbered}
use Rattle.lex_core.specs.Numbers.{digits_value}
use Rattle.lex_core.specs.declared.reason.Reason.TheVariants as reason
use Rattle.call_lines.specs.Calls.{calls, calls_behind, line_request}
use Rattle.call_lines.specs.Operands.{bits_with}
use Rattle.call_lines.specs.Readings.{Reading}

-- what some lines state
each : List (List ℕ) → List (Reading Request)
each lines = map (λ line. line_request (tokens line)) lines

-- a file has a call a line; blank lines and comments count, and are skipped
numbered_calls :
    calls (codes "# two calls\n\n\tsysinfo\ngetpid\r\n")
    ≡ Ok (record { line = 3; request = Sysinfo 0 } ∷ record { line = 4; request = Other (pos 39) } ∷ [])
unfolding tokens split without_return is_skipped numbered calls_behind
numbered_calls = refl

-- the first line that is refused decides
first_refused : calls (codes "close\nopen\nclose 3\n") ≡ Err (record { line = 2; reason = reason.UnknownWord })
unfolding tokens split without_return is_skipped numbered calls_behind
first_refused = refl

-- a device has its numbers, and a mode the bits of its kind
nodes :
    each (codes "mknod \"/dev/null\" chr 1:3" ∷ codes "mknodat 3 \"x\" blk 8:0 mode=0o600" ∷ codes "mknodat AT_FDCWD \"p\" fifo"
    ∷ codes "mknod \"/s\" sock mode=7" ∷ [])
    ≡ Ok (Mknod None (codes "/dev/null") 8192 259) ∷ Ok (Mknod (Some (pos 3)) (codes "x") 24960 2048)
    ∷ Ok (Mknod (Some (negsuc 99)) (codes "p") 4096 0) ∷ Ok (Mknod None (codes "/s") 49159 0) ∷ []
unfolding each tokens digits_value number_after
nodes = refl

-- flags stand between commas; with `-` there are none
mounts :
    each (codes "mount \"/dev/sdb1\" \"/mnt\" \"ext4\" RDONLY,NODEV \"ro\"" ∷ codes "mount \"\" \"/a\" \"tmpfs\""
    ∷ codes "mount \"\" \"/a\" \"tmpfs\" - \"size=1m\"" ∷ [])
    ≡ Ok (Mount (codes "/dev/sdb1") (codes "/mnt") (codes "ext4") (codes "ro") [] 5 false)
    ∷ Ok (Mount [] (codes "/a") (codes "tmpfs") [] [] 0 false)
    ∷ Ok (Mount [] (codes "/a") (codes "tmpfs") (codes "size=1m") [] 0 false) ∷ []
unfolding each tokens bits_with
mounts = refl

others :
    each (codes "setxattr \"/f\" \"trusted.overlay.opaque\" \"y\" CREATE" ∷ codes "setxattr \"/f\" \"user.a\" \"\\0\"" ∷ codes "openat 3 \"d\""
    ∷ codes "other 321" ∷ [])
    ≡ Ok (SetXattr (codes "/f") (codes "trusted.overlay.opaque") (codes "y") 1) ∷ Ok (SetXattr (codes "/f") (codes "user.a") (0 ∷ []) 0)
    ∷ Ok (OpenAt (pos 3) (codes "d") 0) ∷ Ok (Other (pos 321)) ∷ []
unfolding each tokens bits_with digits_value
others = refl

-- an operand of the wrong kind
wrong_forms :
    each (codes "mknod /x fifo" ∷ codes "mknod \"/x\" \"fifo\"" ∷ codes "mount \"a\" \"b\" \"c\" \"ro\"" ∷ [])
    ≡ Err reason.WrongForm ∷ Err reason.WrongForm ∷ Err reason.WrongForm ∷ []
unfolding each tokens
wrong_forms = refl

-- one that is missing, or one too many
wrong_counts :
    each (codes "mknod \"/x\"" ∷ codes "mknod \"/x\" chr" ∷ codes "mknod \"/x\" fifo mode=0 1:3" ∷ codes "sysinfo 0" ∷ codes "other" ∷ [])
    ≡ Err reason.WrongCount ∷ Err reason.WrongCount ∷ Err reason.WrongCount ∷ Err reason.WrongCount ∷ Err reason.WrongCount ∷ []
unfolding each tokens digits_value
wrong_counts = refl

-- names that aren't known, or of another call
unknown_names :
    each (codes "mknod \"/x\" dir" ∷ codes "mknod \"/x\" fifo 1:3" ∷ codes "mount \"a\" \"b\" \"c\" CREATE" ∷ [])
    ≡ Err reason.UnknownName ∷ Err reason.UnknownName ∷ Err reason.UnknownName ∷ []
unfolding each tokens bits_with
unknown_names = refl

-- numbers that are none, or too great; a call with a name is no other one, and a text that ends at a zero byte has none
bad_numbers :
    each (codes "openat here \"d\"" ∷ codes "mknod \"/x\" chr 1,3" ∷ codes "mknod \"/x\" chr 4096:0" ∷ codes "mknod \"/x\" fifo mode=0o10000" ∷ codes "other 165"
    ∷ codes "openat 3 \"d\\0\"" ∷ [])
    ≡ Err reason.BadNumber ∷ Err reason.BadNumber ∷ Err reason.BadNumber ∷ Err reason.OutOfRange ∷ Err reason.OutOfRange ∷ Err reason.OutOfRange ∷ []
unfolding each tokens digits_value number_after
bad_numbers = refl
