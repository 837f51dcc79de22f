-- Which steps answer a worker's deed: a step of the deed's kind, with all that the deed names, and with an answer that a deed of this
-- kind can have.
use Rattle.std.specs.Prelude.{Bool, true, false, ◌&&◌, ◌==◌, List, [], ◌∷◌, Some, Ok, Err, bytes_eq}
use Rattle.std.specs.Ordering.{int_eq}
use Rattle.std.specs.Option.{option_eq}
use Rattle.hist_model.specs.Copies.{fits_piece}
use Rattle.hist_model.specs.Deeds.{Deed}
use Rattle.hist_model.specs.Requests.{Called, called}
use Rattle.hist_model.specs.declared.event.Back.{Back}
use Rattle.hist_model.specs.declared.event.Back.TheVariants.{Value, Fail, Continue}
use Rattle.hist_model.specs.declared.event.What.{What}
use Rattle.hist_model.specs.declared.event.What.TheVariants.{Recv, OpenMem, OpenBase, Check, Read, Act, Plant}
use Rattle.hist_model.specs.declared.event.What.TheVariants.{AddfdPut, AddfdTake, Send, LetGo}
use Rattle.hist_model.specs.declared.policy.Cap.{Cap}
use Rattle.hist_model.specs.declared.request.Request.{Request}
use Rattle.sys_abi.specs.Errnos.{enoent}
use Rattle.sys_abi.specs.declared.wire.Addfd.{Addfd}

-- two lists are one, entry by entry
abbrev pub all_eq : {A : Type 0} → (A → A → Bool) → List A → List A → Bool
all_eq eq [] [] = true
all_eq eq (x ∷ xs) (y ∷ ys) = eq x y && all_eq eq xs ys
all_eq eq _ _ = false

-- two calls are one
abbrev pub called_eq : Called → Called → Bool
called_eq a b = int_eq a.nr b.nr && (all_eq bytes_eq a.texts b.texts && all_eq int_eq a.numbers b.numbers)

-- two requests are one
abbrev pub request_eq : Request → Request → Bool
request_eq a b = called_eq (called a) (called b)

-- two caps are one
abbrev pub cap_eq : Cap → Cap → Bool
cap_eq a b = (a.rule == b.rule) && (a.times == b.times)

-- two requests for a descriptor are one
abbrev pub addfd_eq : Addfd → Addfd → Bool
addfd_eq a b =
    (a.id == b.id) && ((a.flags == b.flags) && ((a.srcfd == b.srcfd) && ((a.newfd == b.newfd) && (a.newfd_flags == b.newfd_flags))))

-- two answers to a notification are one
abbrev pub back_eq : Back → Back → Bool
back_eq (Value v) (Value w) = int_eq v w
back_eq (Fail e) (Fail f) = e == f
back_eq Continue Continue = true
back_eq _ _ = false

-- the step answers the deed: a receive with a notification or ENOENT, a read with some bytes, at most as many as were asked for, or
-- EFAULT, and each other deed as it may
abbrev pub fits : Deed → What → Bool
fits Deed.Recv (Recv (Ok notif)) = true
fits Deed.Recv (Recv (Err e)) = e == enoent
fits (Deed.OpenMem pid) (OpenMem p answer) = pid == p
fits (Deed.OpenBase pid dirfd) (OpenBase p d answer) = (pid == p) && int_eq dirfd d
fits (Deed.Check id) (Check x answer) = id == x
fits (Deed.Read addr len) (Read a l answer) = (addr == a) && ((len == l) && fits_piece (Some (addr, len)) answer)
fits (Deed.Act request cap) (Act q c answer) = request_eq request q && option_eq cap_eq cap c
fits (Deed.Plant addr bytes cap) (Plant a b c answer) = (addr == a) && (bytes_eq bytes b && option_eq cap_eq cap c)
fits (Deed.AddfdPut asked) (AddfdPut a answer) = addfd_eq asked a
fits Deed.AddfdTake (AddfdTake answer) = true
fits (Deed.Send id back) (Send x b answer) = (id == x) && back_eq back b
fits Deed.LetGo LetGo = true
fits _ _ = false
