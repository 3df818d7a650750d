-- How long lines may be.
use Rattle.std.specs.Prelude.{ℕ}

-- how many bytes a line may have
abbrev pub longest_line : ℕ
longest_line = 96

-- how many bytes a number may take, with the space before it
abbrev pub longest_field : ℕ
longest_field = 21
