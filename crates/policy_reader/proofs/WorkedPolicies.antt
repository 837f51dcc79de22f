-- Policies, good and bad, that the definitions read: each is computed from its text.
-- By computing, with the definitions unfolded.
use Rattle.std.proofs.Common.{◌≡◌, [], ◌∷◌, ◌++◌, Some, None, Ok, Err, refl, codes}
use Rattle.std.specs.Prelude.{⊤, true, false, pos}
use Rattle.std.specs.Fmt.{digits}
use Rattle.std.specs.Str.{chars, is_utf8}
use Rattle.hist_model.specs.Decisions.{all_rules, default_rules, lxd_mknod_rules}
use Rattle.hist_model.specs.Words.{number_after}
use Rattle.hist_model.specs.declared.policy.Calls.TheVariants.{Named}
use Rattle.hist_model.specs.declared.policy.Cond.TheVariants.{Under, Kind as OfKind, Dev, PlainFlags}
use Rattle.hist_model.specs.declared.policy.Profile.TheVariants.{Plain}
use Rattle.hist_model.specs.declared.policy.Verdict.TheVariants.{Grant, Deny, Inject}
use Rattle.hist_model.specs.declared.request.Kind.TheVariants.{Chr}
use Rattle.serde_json.proofs.OnLiterals.{serde_json_on_literals}
use Rattle.sys_abi.specs.Calls.{nr_mknod, nr_mknodat, nr_mount, nr_openat}
use Rattle.sys_abi.specs.Errnos.{eperm}
use Rattle.policy_reader.specs.declared.error.PolicyError.TheVariants.{NotJson, BadKey, BadValue}
use Rattle.policy_reader.specs.Policies.{policy}

-- what is unfolded to compute a policy
unfoldable read_whole : ⊤
unfolding serde_json_on_literals chars digits is_utf8 number_after
read_whole = tt

-- ---- Policies that are read

-- no key: the defaults alone
reads_nothing : policy (codes "{}") ≡ Ok (record { rules = default_rules })
unfolding read_whole
reads_nothing = refl

-- a key of LXD
reads_switch : policy (codes "{\"config\":{\"security.syscalls.intercept.mknod\":\"true\"}}") ≡ Ok (record { rules = lxd_mknod_rules Plain ++ default_rules })
unfolding read_whole
reads_switch = refl

-- lists of file systems, with spaces, an empty item and a repetition; other keys are ignored, whatever their value
reads_lists : policy (codes "{\"config\":{\"limits.cpu\":2,\"security.syscalls.intercept.bpf\":null,\"security.syscalls.intercept.mount\":\"Yes\",\"security.syscalls.intercept.mount.allowed\":\" ext4,, xfs ,ext4\",\"security.syscalls.intercept.mount.fuse\":\"ext4=fuse2fs\",\"security.syscalls.intercept.mount.shift\":\"1\",\"security.syscalls.intercept.setxattr\":\"off\"}}") ≡ Ok (record { rules = all_rules [] (record { profile = Plain; mknod = false; mount = true; shift = true; setxattr = false; sysinfo = false; fuse = (codes "ext4", codes "fuse2fs") ∷ []; allowed = codes "ext4" ∷ codes "xfs" ∷ [] }) })
unfolding read_whole
reads_lists = refl

-- a rule of its own, whose keys stand in any order
reads_rule : policy (codes "{\"rules\":[{\"then\":{\"deny\":\"EPERM\"},\"call\":[\"mknod\",\"mknodat\"],\"name\":\"no-mem\",\"when\":{\"kind\":\"chr\",\"dev\":\"1:1\"}}]}") ≡ Ok (record { rules = record { name = codes "no-mem"; calls = Named (pos nr_mknod ∷ pos nr_mknodat ∷ []); conds = Dev 1 1 ∷ OfKind Chr ∷ []; verdict = Deny eperm; via = []; shift = false; times = None } ∷ default_rules })
unfolding read_whole
reads_rule = refl

-- a grant of a mount has the condition that its flags are plain; a file is injected at a number
reads_grant_of_mount : policy (codes "{\"rules\":[{\"name\":\"a\",\"call\":\"mount\",\"then\":\"grant\"},{\"name\":\"b\",\"call\":\"openat\",\"when\":{\"under\":\"/etc\"},\"then\":{\"inject\":3,\"at\":10}}]}") ≡ Ok (record {
  rules = record { name = codes "a"; calls = Named (pos nr_mount ∷ []); conds = PlainFlags ∷ []; verdict = Grant; via = []; shift = false; times = None }
      ∷ record { name = codes "b"; calls = Named (pos nr_openat ∷ []); conds = Under (codes "/etc") ∷ []; verdict = Inject 3 (Some 10); via = []; shift = false; times = None } ∷ default_rules;
})
unfolding read_whole
reads_grant_of_mount = refl

-- a grant that runs out
reads_times : policy (codes "{\"version\":2,\"rules\":[{\"name\":\"one\",\"call\":\"mknod\",\"when\":{\"dev\":\"1:3\"},\"then\":\"grant\",\"times\":1}]}") ≡ Ok (record { rules = record { name = codes "one"; calls = Named (pos nr_mknod ∷ []); conds = Dev 1 3 ∷ []; verdict = Grant; via = []; shift = false; times = Some 1 } ∷ default_rules })
unfolding read_whole
reads_times = refl

-- ---- Policies that are refused

-- a text that ends too soon
refuses_cut : policy (codes "{\"rules\":[") ≡ Err NotJson
unfolding read_whole
refuses_cut = refl

-- bytes that aren't UTF-8
refuses_bytes : policy (123 ∷ 255 ∷ 125 ∷ []) ≡ Err NotJson
unfolding read_whole
refuses_bytes = refl

-- no object
refuses_top : policy (codes "[]") ≡ Err (BadValue (codes "(top)"))
unfolding read_whole
refuses_top = refl

-- a key of the top object
refuses_unknown_key : policy (codes "{\"rulez\":[]}") ≡ Err (BadKey (codes "\"rulez\""))
unfolding read_whole
refuses_unknown_key = refl

-- the version is tested before the other keys
refuses_version : policy (codes "{\"a\":0,\"version\":3}") ≡ Err (BadValue (codes "version"))
unfolding read_whole
refuses_version = refl

-- a text that is no switch
refuses_switch : policy (codes "{\"config\":{\"security.syscalls.intercept.mknod\":\"maybe\"}}") ≡ Err (BadValue (codes "config.\"security.syscalls.intercept.mknod\""))
unfolding read_whole
refuses_switch = refl

-- a key that ends with the prefix
refuses_prefix : policy (codes "{\"config\":{\"security.syscalls.intercept.\":1}}") ≡ Err (BadKey (codes "config.\"security.syscalls.intercept.\""))
unfolding read_whole
refuses_prefix = refl

-- an item of a list that is tested though the file system is named already
refuses_item : policy (codes "{\"config\":{\"security.syscalls.intercept.mount.fuse\":\"a=b,a=B\"}}") ≡ Err (BadValue (codes "config.\"security.syscalls.intercept.mount.fuse\""))
unfolding read_whole
refuses_item = refl

-- the first faulty key in rising order
refuses_earlier_key : policy (codes "{\"rules\":[{\"when\":{\"zone\":1},\"name\":\"a\",\"call\":[\"mknod\",\"fork\"]}]}") ≡ Err (BadValue (codes "rules[0].call[1]"))
unfolding read_whole
refuses_earlier_key = refl

-- a key that isn't known is quoted
refuses_quoted_key : policy (codes "{\"rules\":[{\"name\":\"a\",\"call\":\"mknod\",\"when\":{\"a\\\"b\\u00e9\":1}}]}") ≡ Err (BadKey (codes "rules[0].when.\"a\\\"b\\xc3\\xa9\""))
unfolding read_whole
refuses_quoted_key = refl

-- a key that is missing
refuses_missing : policy (codes "{\"rules\":[{\"call\":\"mknod\",\"then\":\"pass\"}]}") ≡ Err (BadValue (codes "rules[0].name"))
unfolding read_whole
refuses_missing = refl

-- neither an error nor a file
refuses_answer : policy (codes "{\"rules\":[{\"name\":\"a\",\"call\":\"openat\",\"then\":{\"at\":1}}]}") ≡ Err (BadValue (codes "rules[0].then"))
unfolding read_whole
refuses_answer = refl

-- an error without a name
refuses_error : policy (codes "{\"rules\":[{\"name\":\"a\",\"call\":\"openat\",\"then\":{\"deny\":\"EWHAT\"}}]}") ≡ Err (BadValue (codes "rules[0].then.deny"))
unfolding read_whole
refuses_error = refl

-- a call that may not be granted comes before a condition that isn't for it
refuses_grant : policy (codes "{\"rules\":[{\"name\":\"a\",\"call\":[\"mknod\",\"close\"],\"when\":{\"dev\":\"1:3\"},\"then\":\"grant\"}]}") ≡ Err (BadValue (codes "rules[0].then"))
unfolding read_whole
refuses_grant = refl

-- a condition that isn't for one of the calls
refuses_condition : policy (codes "{\"rules\":[{\"name\":\"a\",\"call\":[\"mknod\",\"openat\"],\"when\":{\"path\":\"/a\",\"dev\":\"1:3\"},\"then\":\"pass\"}]}") ≡ Err (BadValue (codes "rules[0].when.dev"))
unfolding read_whole
refuses_condition = refl

-- a number with a leading zero
refuses_device : policy (codes "{\"rules\":[{\"name\":\"a\",\"call\":\"mknod\",\"when\":{\"dev\":\"01:3\"},\"then\":\"pass\"}]}") ≡ Err (BadValue (codes "rules[0].when.dev"))
unfolding read_whole
refuses_device = refl

-- a name that an earlier rule has
refuses_used_name : policy (codes "{\"rules\":[{\"name\":\"a\",\"call\":\"mknod\",\"then\":\"pass\"},{\"name\":\"a\",\"call\":\"close\",\"then\":\"pass\"}]}") ≡ Err (BadValue (codes "rules[1].name"))
unfolding read_whole
refuses_used_name = refl

-- a name of the defaults
refuses_taken_name : policy (codes "{\"rules\":[{\"name\":\"default.mknod\",\"call\":\"mknod\",\"then\":\"pass\"}]}") ≡ Err (BadValue (codes "rules[0].name"))
unfolding read_whole
refuses_taken_name = refl

-- the first version knows no times
refuses_times_before : policy (codes "{\"rules\":[{\"name\":\"one\",\"call\":\"mknod\",\"then\":\"grant\",\"times\":1}]}") ≡ Err (BadKey (codes "rules[0].\"times\""))
unfolding read_whole
refuses_times_before = refl

-- times beside another answer than a grant
refuses_times_of_pass : policy (codes "{\"version\":2,\"rules\":[{\"name\":\"one\",\"call\":\"mknod\",\"then\":\"pass\",\"times\":1}]}") ≡ Err (BadValue (codes "rules[0].times"))
unfolding read_whole
refuses_times_of_pass = refl
