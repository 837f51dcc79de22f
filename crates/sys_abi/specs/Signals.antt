use Rattle.std.specs.Prelude.{ℕ}

-- the signals that programs send, by their numbers on x86-64 (signal(7))
abbrev pub sigkill : ℕ
sigkill = 9

abbrev pub sigusr1 : ℕ
sigusr1 = 10

abbrev pub sigusr2 : ℕ
sigusr2 = 12

abbrev pub sigterm : ℕ
sigterm = 15
