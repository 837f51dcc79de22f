use Rattle.std.specs.Prelude.{ℕ, Option, List, [], ◌∷◌, codes}
use Rattle.sys_abi.specs.Names.{name_in, number_in}

-- the numbers of the errors that the kernel and its workers give (errno(3), x86-64)
abbrev pub eperm : ℕ
eperm = 1

abbrev pub enoent : ℕ
enoent = 2

abbrev pub esrch : ℕ
esrch = 3

abbrev pub eintr : ℕ
eintr = 4

abbrev pub e2big : ℕ
e2big = 7

abbrev pub ebadf : ℕ
ebadf = 9

abbrev pub echild : ℕ
echild = 10

abbrev pub eagain : ℕ
eagain = 11

abbrev pub eacces : ℕ
eacces = 13

abbrev pub efault : ℕ
efault = 14

abbrev pub ebusy : ℕ
ebusy = 16

abbrev pub eexist : ℕ
eexist = 17

abbrev pub enodev : ℕ
enodev = 19

abbrev pub enotdir : ℕ
enotdir = 20

abbrev pub einval : ℕ
einval = 22

abbrev pub emfile : ℕ
emfile = 24

abbrev pub erange : ℕ
erange = 34

abbrev pub enametoolong : ℕ
enametoolong = 36

abbrev pub enosys : ℕ
enosys = 38

abbrev pub eloop : ℕ
eloop = 40

abbrev pub enodata : ℕ
enodata = 61

abbrev pub einprogress : ℕ
einprogress = 115

abbrev pub edquot : ℕ
edquot = 122

-- each of these errors beside its name
abbrev pub errnos : List (ℕ × List ℕ)
errnos =
    (eperm, codes "EPERM") ∷
    (enoent, codes "ENOENT") ∷
    (esrch, codes "ESRCH") ∷
    (eintr, codes "EINTR") ∷
    (e2big, codes "E2BIG") ∷
    (ebadf, codes "EBADF") ∷
    (echild, codes "ECHILD") ∷
    (eagain, codes "EAGAIN") ∷
    (eacces, codes "EACCES") ∷
    (efault, codes "EFAULT") ∷
    (ebusy, codes "EBUSY") ∷
    (eexist, codes "EEXIST") ∷
    (enodev, codes "ENODEV") ∷
    (enotdir, codes "ENOTDIR") ∷
    (einval, codes "EINVAL") ∷
    (emfile, codes "EMFILE") ∷
    (erange, codes "ERANGE") ∷
    (enametoolong, codes "ENAMETOOLONG") ∷
    (enosys, codes "ENOSYS") ∷
    (eloop, codes "ELOOP") ∷
    (enodata, codes "ENODATA") ∷
    (einprogress, codes "EINPROGRESS") ∷
    (edquot, codes "EDQUOT") ∷
    []

-- the name of the error with this number
abbrev pub errno_name : ℕ → Option (List ℕ)
errno_name n = name_in errnos n

-- the number of the error with this name
abbrev pub errno_of_name : List ℕ → Option ℕ
errno_of_name name = number_in errnos name
