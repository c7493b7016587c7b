-- What a recorder in another language is handed back: one number.
use Rattle.std.specs.Prelude.{ℕ, eqb}
use Rattle.base.specs.Choose.{choose}
use Rattle.writer.specs.Written.{Written}

-- how many bytes were written, 512 to a block; or the refusal, which is below 512
abbrev pub bytes_or_refusal : Written → ℕ
bytes_or_refusal a = choose (eqb a.refusal 0) a.bytes a.refusal
