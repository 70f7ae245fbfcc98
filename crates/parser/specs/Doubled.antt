-- The scanner that stops at the first `>` right after two marks. Assumes nothing.
use Rattle.std.specs.Prelude.{ℕ, cond, ◌==◌}
use Rattle.parser.specs.Bytes.{Move, halt, goes}
use Rattle.parser.specs.declared.doubled.DoubledParser.{DoubledParser}
use Rattle.parser.specs.declared.doubled.DoubledParser.TheVariants.{Seen0, Seen1, Seen2}

-- `>` is 62
abbrev pub doubled_step : {mark : ℕ} → DoubledParser mark → ℕ → Move (DoubledParser mark)
doubled_step {mark} Seen0 b = cond (b == mark) (goes Seen1) (goes Seen0)
doubled_step {mark} Seen1 b = cond (b == mark) (goes Seen2) (goes Seen0)
doubled_step {mark} Seen2 b = cond (b == 62) halt (cond (b == mark) (goes Seen2) (goes Seen0))
